-- Lists in which nothing stands twice, one behind another.
use Rattle.std.proofs.Common.{◌≡◌, ◌⊎◌, inl, inr, refl, subst, append-nil, List, [], ◌∷◌, ◌++◌}
use Rattle.expanded_pieces.specs.ApartPoints.Apart.{IsAway, AreApart}

abbrev pub IsIn : {A : Type 0} → A → List A → Type 0
IsIn x [] = ⊥
IsIn x (y ∷ ys) = (x ≡ y) ⊎ IsIn x ys

abbrev pub Covers : {A : Type 0} → List A → List A → Type 0
Covers {A} ys xs = (x : A) → IsIn x xs → IsIn x ys

-- they have nothing in common
abbrev pub Disjoint : {A : Type 0} → List A → List A → Type 0
Disjoint {A} xs ys = (x : A) → IsIn x xs → IsIn x ys → ⊥

-- Each is one of these, and they differ where all of these do.
pub record Taken {A : Type 0} (all xs : List A) : Type 0 where
  pub covers : Covers all xs
  pub apart : AreApart all → AreApart xs

-- a list of two parts
pub record Split {A : Type 0} (xs ys : List A) : Type 0 where
  pub left : AreApart xs
  pub right : AreApart ys
  pub disjoint : Disjoint xs ys

module _ {A : Type 0} where
  pub away_at : (x : A) (ys : List A) → IsAway x ys → IsIn x ys → ⊥
  away_at x [] h i = i
  away_at x (y ∷ ys) h (inl e) = h.0 e
  away_at x (y ∷ ys) h (inr i) = away_at x ys h.1 i

  pub away_from : (x : A) (ys : List A) → (IsIn x ys → ⊥) → IsAway x ys
  away_from x [] h = tt
  away_from x (y ∷ ys) h = (λ e. h (inl e), away_from x ys (λ i. h (inr i)))

  pub in_left : (x : A) (xs ys : List A) → IsIn x xs → IsIn x (xs ++ ys)
  in_left x [] ys i = absurd i
  in_left x (y ∷ xs) ys (inl e) = inl e
  in_left x (y ∷ xs) ys (inr i) = inr (in_left x xs ys i)

  pub in_right : (x : A) (xs ys : List A) → IsIn x ys → IsIn x (xs ++ ys)
  in_right x [] ys i = i
  in_right x (y ∷ xs) ys i = inr (in_right x xs ys i)

  pub in_either : (x : A) (xs ys : List A) → IsIn x (xs ++ ys) → IsIn x xs ⊎ IsIn x ys
  in_either x [] ys i = inr i
  in_either x (y ∷ xs) ys (inl e) = inl (inl e)
  in_either x (y ∷ xs) ys (inr i) = moved (in_either x xs ys i) where
    moved : (IsIn x xs ⊎ IsIn x ys) → IsIn x (y ∷ xs) ⊎ IsIn x ys
    moved (inl j) = inl (inr j)
    moved (inr j) = inr j

  pub split : (xs ys : List A) → AreApart (xs ++ ys) → Split xs ys
  split [] ys h = record { left = tt; right = h; disjoint = λ x i j. i }
  split (x ∷ xs) ys h =
      let rest = split xs ys h.1 in
      record {
        left = (away_from x xs (λ i. away_at x (xs ++ ys) h.0 (in_left x xs ys i)), rest.left);
        right = rest.right;
        disjoint = λ y i j. either rest.disjoint y i j;
      }
    where
      either : Disjoint xs ys → (y : A) → IsIn y (x ∷ xs) → IsIn y ys → ⊥
      either others y (inl e) j = away_at x (xs ++ ys) h.0 (in_right x xs ys (subst (λ z. IsIn z ys) e j))
      either others y (inr i) j = others y i j

  pub joined : (xs ys : List A) → Split xs ys → AreApart (xs ++ ys)
  joined [] ys h = h.right
  joined (x ∷ xs) ys h =
      (away_from x (xs ++ ys) (λ i. either (in_either x xs ys i)), joined xs ys (record { left = h.left.1; right = h.right; disjoint = λ y i j. h.disjoint y (inr i) j }))
    where
      either : (IsIn x xs ⊎ IsIn x ys) → ⊥
      either (inl i) = away_at x xs h.left.0 i
      either (inr i) = h.disjoint x (inl refl) i

  -- what is apart stays so where the first of the second part is taken before the whole
  pub moved_in : (x : A) (xs ys : List A) → AreApart (x ∷ (xs ++ ys)) → AreApart (xs ++ x ∷ ys)
  moved_in x xs ys h =
      let parts = split xs ys h.1 in
      joined xs (x ∷ ys) (record {
        left = parts.left;
        right = (away_from x ys (λ i. away_at x (xs ++ ys) h.0 (in_right x xs ys i)), parts.right);
        disjoint = λ y i j. either y i j;
      })
    where
      either : (y : A) → IsIn y xs → IsIn y (x ∷ ys) → ⊥
      either y i (inl e) = away_at x (xs ++ ys) h.0 (in_left x xs ys (subst (λ z. IsIn z xs) e i))
      either y i (inr j) = (split xs ys h.1).disjoint y i j

  pub swapped : (xs ys : List A) → AreApart (xs ++ ys) → AreApart (ys ++ xs)
  swapped xs ys h = let parts = split xs ys h in joined ys xs (record { left = parts.right; right = parts.left; disjoint = λ x i j. parts.disjoint x j i })

  -- the same where it is taken out of the second part
  pub moved_out : (x : A) (xs ys : List A) → AreApart (xs ++ x ∷ ys) → AreApart (x ∷ (xs ++ ys))
  moved_out x xs ys h =
      let parts = split xs (x ∷ ys) h in (
        away_from x (xs ++ ys) (λ i. either parts (in_either x xs ys i)),
        joined xs ys (record { left = parts.left; right = parts.right.1; disjoint = λ y i j. parts.disjoint y i (inr j) }),
      )
    where
      either : Split xs (x ∷ ys) → IsIn x xs ⊎ IsIn x ys → ⊥
      either parts (inl i) = parts.disjoint x i (inl refl)
      either parts (inr i) = away_at x ys parts.right.0 i

  -- without the first part
  pub behind_first : (x : A) (xs ys : List A) → AreApart (x ∷ (xs ++ ys)) → AreApart (x ∷ ys)
  behind_first x xs ys h = (away_from x ys (λ i. away_at x (xs ++ ys) h.0 (in_right x xs ys i)), (split xs ys h.1).right)

  pub turned : (x : A) (xs : List A) → Covers (x ∷ xs) (xs ++ x ∷ [])
  turned x xs y i = either (in_either y xs (x ∷ []) i) where
    either : IsIn y xs ⊎ IsIn y (x ∷ []) → IsIn y (x ∷ xs)
    either (inl j) = inr j
    either (inr (inl e)) = inl e
    either (inr (inr j)) = absurd j

  pub without : (xs ys : List A) (x z : A) → Covers (z ∷ (xs ++ x ∷ ys)) (xs ++ ys)
  without xs ys x z y i = either (in_either y xs ys i) where
    either : IsIn y xs ⊎ IsIn y ys → IsIn y (z ∷ (xs ++ x ∷ ys))
    either (inl j) = inr (in_left y xs (x ∷ ys) j)
    either (inr j) = inr (in_right y xs (x ∷ ys) (inr j))

  pub to_front : (x : A) (xs ys : List A) → Covers (x ∷ (xs ++ ys)) (xs ++ x ∷ ys)
  to_front x xs ys y i = either (in_either y xs (x ∷ ys) i) where
    either : IsIn y xs ⊎ IsIn y (x ∷ ys) → IsIn y (x ∷ (xs ++ ys))
    either (inl j) = inr (in_left y xs ys j)
    either (inr (inl e)) = inl e
    either (inr (inr j)) = inr (in_right y xs ys j)

  pub swapped_in : (xs ys : List A) → Covers (ys ++ xs) (xs ++ ys)
  swapped_in xs ys y i = either (in_either y xs ys i) where
    either : IsIn y xs ⊎ IsIn y ys → IsIn y (ys ++ xs)
    either (inl j) = in_right y ys xs j
    either (inr j) = in_left y ys xs j

  pub swapped_last_in : (xs ys zs : List A) → Covers (xs ++ (zs ++ ys)) (xs ++ (ys ++ zs))
  swapped_last_in xs ys zs y i = either (in_either y xs (ys ++ zs) i) where
    either : IsIn y xs ⊎ IsIn y (ys ++ zs) → IsIn y (xs ++ (zs ++ ys))
    either (inl j) = in_left y xs (zs ++ ys) j
    either (inr j) = in_right y xs (zs ++ ys) (swapped_in ys zs y j)

  -- the last two parts change places
  pub swapped_last : (x : A) (xs ys zs : List A) → AreApart (x ∷ (xs ++ (ys ++ zs))) → AreApart (x ∷ (xs ++ (zs ++ ys)))
  swapped_last x xs ys zs h =
      let parts = split xs (ys ++ zs) h.1 in (
        away_from x (xs ++ (zs ++ ys)) (λ i. away_at x (xs ++ (ys ++ zs)) h.0 (swapped_last_in xs zs ys x i)),
        joined xs (zs ++ ys) (record { left = parts.left; right = swapped ys zs parts.right; disjoint = λ y i j. parts.disjoint y i (swapped_in zs ys y j) }),
      )

  pub behind_same : (x : A) (xs ys : List A) → Covers xs ys → Covers (x ∷ xs) (x ∷ ys)
  behind_same x xs ys h y (inl e) = inl e
  behind_same x xs ys h y (inr i) = inr (h y i)

  -- ---- elements that are taken from others

  pub take_none : (all : List A) → Taken all []
  take_none all = record { covers = λ x i. absurd i; apart = λ h. tt }

  pub take_all : (all : List A) → Taken all all
  take_all all = record { covers = λ x i. i; apart = λ h. h }

  pub take_both : (all others xs ys : List A) → Taken all xs → Taken others ys → Taken (all ++ others) (xs ++ ys)
  take_both all others xs ys d e = record {
    covers = λ x i. either x (in_either x xs ys i);
    apart = λ h. let parts = split all others h in joined xs ys (record { left = d.apart parts.left; right = e.apart parts.right; disjoint = λ x i j. parts.disjoint x (d.covers x i) (e.covers x j) });
  }
    where
      either : (x : A) → IsIn x xs ⊎ IsIn x ys → IsIn x (all ++ others)
      either x (inl i) = in_left x all others (d.covers x i)
      either x (inr i) = in_right x all others (e.covers x i)

  -- nothing is taken from the last ones, or from the first ones
  pub take_left : (all others xs : List A) → Taken all xs → Taken (all ++ others) xs
  take_left all others xs d = subst (Taken (all ++ others)) (append-nil xs) (take_both all others xs [] d (take_none others))

  pub take_right : (all others xs : List A) → Taken others xs → Taken (all ++ others) xs
  take_right all others xs d = take_both all others [] xs (take_none all) d

  pub take_keep : (x : A) (all xs : List A) → Taken all xs → Taken (x ∷ all) (x ∷ xs)
  take_keep x all xs d = take_both (x ∷ []) all (x ∷ []) xs (take_all (x ∷ [])) d
