-- What a set has behind an insertion, and which key is its first.
use Rattle.std.proofs.Common.{◌≡◌, ℕ, zero, suc, ◌<◌, ◌≤◌, ◌⊎◌, false, List, [], ◌∷◌, Some, inl, inr, refl, sym, ap, subst, ◌∙◌, arith}
use Rattle.std.specs.Prelude.{slice_get}
use Rattle.std.specs.List.{All}
use Rattle.std.specs.declared.cmp.Ordering.{Ordering}
use Rattle.std.specs.declared.cmp.Ordering.TheVariants.{Less, Equal, Greater}
use Rattle.std.specs.Ordering.{nat_cmp, ordering_then, match_ordering, is_gt}
use Rattle.std.specs.BTreeSet.{insert_key}
use Rattle.std.proofs.lemmas.Cmp.{ranked}
use Rattle.std.proofs.lemmas.Option.{slice_get_within, get_or_from_slice_get}
use Rattle.reg_binding.specs.Pools.{Has}

pub none : {A : Type 0} (x : A) → Has [] x → ⊥
none x found = omega (arith, slice_get_within [] found.0 x found.1)

some_same : {A : Type 0} {x y : A} → Some x ≡ Some y → x ≡ y
some_same e = cc

pub first_or_later : {A : Type 0} (y : A) (ys : List A) (x : A) → Has (y ∷ ys) x → (x ≡ y) ⊎ Has ys x
first_or_later y ys x found = go found.0 found.1
  where
    go : (k : ℕ) → slice_get (y ∷ ys) k ≡ Some x → (x ≡ y) ⊎ Has ys x
    go zero e = inl (sym (some_same e))
    go (suc k) e = inr (k, e)

pub at_first : {A : Type 0} (y : A) (ys : List A) → Has (y ∷ ys) y
at_first y ys = (zero, refl)

pub at_later : {A : Type 0} (y : A) (ys : List A) (x : A) → Has ys x → Has (y ∷ ys) x
at_later y ys x found = (suc found.0, found.1)

module _ {A : Type 0} (cmp : A → A → Ordering) (k : A) where
  pub inserted_from : (xs : List A) (x : A) → Has (insert_key cmp xs k) x → (x ≡ k) ⊎ Has xs x
  inserted_from [] x found = first_or_later k [] x found
  inserted_from (y ∷ ys) x found = go (cmp k y) (inserted_from ys x) found
    where
      go : (o : Ordering) → (Has (insert_key cmp ys k) x → (x ≡ k) ⊎ Has ys x) → Has (match_ordering o (k ∷ y ∷ ys) (y ∷ ys) (y ∷ insert_key cmp ys k)) x → (x ≡ k) ⊎ Has (y ∷ ys) x
      go Less later found = first_or_later k (y ∷ ys) x found
      go Equal later found = inr found
      go Greater later found = elim (first_or_later y (insert_key cmp ys k) x found) [
        | inl e ↦ inr (zero, ap Some (sym e))
        | inr behind ↦ elim (later behind) [ inl e ↦ inl e | inr old ↦ inr (at_later y ys x old) ]
      ]

  pub kept_there : (xs : List A) (x : A) → Has xs x → Has (insert_key cmp xs k) x
  kept_there [] x found = absurd (none x found)
  kept_there (y ∷ ys) x found = go (cmp k y) (kept_there ys x)
    where
      go : (o : Ordering) → (Has ys x → Has (insert_key cmp ys k) x) → Has (match_ordering o (k ∷ y ∷ ys) (y ∷ ys) (y ∷ insert_key cmp ys k)) x
      go Less later = at_later k (y ∷ ys) x found
      go Equal later = found
      go Greater later = elim (first_or_later y ys x found) [
        | inl e ↦ (zero, ap Some (sym e))
        | inr behind ↦ at_later y (insert_key cmp ys k) x (later behind)
      ]

  pub inserted_there : ((x : A) → cmp k x ≡ Equal → k ≡ x) → (xs : List A) → Has (insert_key cmp xs k) k
  inserted_there same [] = at_first k []
  inserted_there same (y ∷ ys) = go (cmp k y) refl (inserted_there same ys)
    where
      go : (o : Ordering) → cmp k y ≡ o → Has (insert_key cmp ys k) k → Has (match_ordering o (k ∷ y ∷ ys) (y ∷ ys) (y ∷ insert_key cmp ys k)) k
      go Less e later = at_first k (y ∷ ys)
      go Equal e later = (zero, ap Some (sym (same y e)))
      go Greater e later = at_later y (insert_key cmp ys k) k later

pub each : {A : Type 0} (P : A → Type 0) (xs : List A) → All P xs → (x : A) → Has xs x → P x
each P xs all x found = subst P (get_or_from_slice_get xs found.0 x x found.1) (all found.0 x (slice_get_within xs found.0 x found.1))

-- ---- numbers and pairs of them

pub below : (a b : ℕ) → nat_cmp a b ≡ Less → a < b
below a b e = ranked a b Less (sym e)

pub level : (a b : ℕ) → nat_cmp a b ≡ Equal → a ≡ b
level a b e = ranked a b Equal (sym e)

abbrev pub pair_cmp : ℕ × ℕ → ℕ × ℕ → Ordering
pair_cmp x y = ordering_then (nat_cmp x.0 y.0) (nat_cmp x.1 y.1)

pub up_to : (x y : ℕ × ℕ) → is_gt (pair_cmp x y) ≡ false → x.0 ≤ y.0
up_to x y e = go (nat_cmp x.0 y.0) refl e
  where
    go : (o : Ordering) → o ≡ nat_cmp x.0 y.0 → is_gt (ordering_then o (nat_cmp x.1 y.1)) ≡ false → x.0 ≤ y.0
    go Less is e = (let lt : x.0 < y.0 = ranked x.0 y.0 Less is in omega arith)
    go Equal is e = (let eq : x.0 ≡ y.0 = ranked x.0 y.0 Equal is in omega arith)
    go Greater is e = absurd (cc)

pub same_pair : (x y : ℕ × ℕ) → pair_cmp x y ≡ Equal → x ≡ y
same_pair x y e = go (nat_cmp x.0 y.0) refl e
  where
    go : (o : Ordering) → o ≡ nat_cmp x.0 y.0 → ordering_then o (nat_cmp x.1 y.1) ≡ Equal → x ≡ y
    go Less is e = absurd (cc)
    go Equal is e = (let one : x.0 ≡ y.0 = ranked x.0 y.0 Equal is in let two : x.1 ≡ y.1 = level x.1 y.1 e in λ i. (one i, two i))
    go Greater is e = absurd (cc)

pub front : {A : Type 0} (xs rest : List A) (x y : A) → xs ≡ x ∷ rest → slice_get xs 0 ≡ Some y → x ≡ y
front xs rest x y e f = some_same (sym (ap (λ ks. slice_get ks 0) e) ∙ f)

pub no_member : {A : Type 0} (xs : List A) (x : A) → xs ≡ [] → Has xs x → ⊥
no_member xs x e found = none x (subst (λ ks. Has ks x) e found)
