-- Lists of what is marked, and the places in them.
use Rattle.std.proofs.Common.{◌≡◌, ◌⊎◌, inl, inr, ◌<◌, ◌≤◌, ◌+◌, ℕ, zero, suc, Bool, true, false, ltb, cond, List, [], ◌∷◌, ◌++◌, map, set, take, drop, length, get_or, Some, refl, sym, ap, ap₂, ◌∙◌, subst, append_assoc, length-append, arith}
use Rattle.std.specs.Prelude.{slice_get, slice_index, slice_index_or}
use Rattle.std.specs.List.{All}
use Rattle.std.proofs.Math.Seq.{get_or-append_seam}
use Rattle.std.proofs.Math.ListN.{get_or-append}
use Rattle.std.proofs.Math.Nat.{eq-or-lt_of_le}
use Rattle.std.proofs.lemmas.List.Edits.{map_over_more}
use Rattle.std.proofs.lemmas.Bool.{false≢true, lt-ltb, ltb-true, ltb-false, cases_Bool}
use Rattle.std.proofs.lemmas.List.{map-append, append-nil, get_or_past, length-map, map-set, get_or-map}
use Rattle.std.proofs.lemmas.Option.{none-some, same_Some, slice_get-get_or}
use Rattle.std.proofs.lemmas.List.Elements.{All-nil, All-cons}
use Rattle.rtl_logic.specs.Reducing.{AreBelow}
use Rattle.rtl_logic.specs.Pruning.{kept, marks_in, place_in, marked_places}

-- how many marked ones stand before a place that there is
abbrev pub marked_before : List Bool → ℕ → ℕ
marked_before bs k = marks_in (take k bs)

pub place_is : (bs : List Bool) (k : ℕ) → k < length bs → place_in bs k ≡ marked_before bs k
place_is bs k h = ap (λ t. cond t (marked_before bs k) k) (lt-ltb k (length bs) h)

-- a mark that is found is a mark that stands there
pub mark_at : (bs : List Bool) (k : ℕ) → k < length bs → slice_index_or bs k true ≡ true → slice_get bs k ≡ Some true
mark_at bs k h e = slice_get-get_or bs k true h ∙ ap Some e

-- what is marked is found at its new place
pub kept_at : {A : Type 0} (bs : List Bool) (xs : List A) (k : ℕ) (x : A) → slice_get bs k ≡ Some true → slice_get xs k ≡ Some x → slice_get (kept bs xs) (marked_before bs k) ≡ Some x
kept_at [] xs k x b e = absurd (none-some true b)
kept_at (b ∷ bs) [] k x h e = absurd (none-some x e)
kept_at (true ∷ bs) (y ∷ xs) zero x h e = e
kept_at (false ∷ bs) (y ∷ xs) zero x h e = absurd (false≢true (same_Some false true h))
kept_at (true ∷ bs) (y ∷ xs) (suc k) x h e = kept_at bs xs k x h e
kept_at (false ∷ bs) (y ∷ xs) (suc k) x h e = kept_at bs xs k x h e

pub kept_none : {A : Type 0} (bs : List Bool) → kept {A = A} bs [] ≡ []
kept_none [] = refl
kept_none (b ∷ bs) = refl

pub kept_map : {A B : Type 0} (f : A → B) (bs : List Bool) (xs : List A) → kept bs (map f xs) ≡ map f (kept bs xs)
kept_map f [] xs = refl
kept_map f (b ∷ bs) [] = refl
kept_map f (true ∷ bs) (x ∷ xs) = ap (λ l. f x ∷ l) (kept_map f bs xs)
kept_map f (false ∷ bs) (x ∷ xs) = kept_map f bs xs

-- one more that is marked, or not
pub kept_push : {A : Type 0} (bs cs : List Bool) (xs : List A) (x : A) → length bs ≡ length xs → kept (bs ++ true ∷ cs) (xs ++ x ∷ []) ≡ kept (bs ++ true ∷ cs) xs ++ x ∷ []
kept_push [] cs [] x h = ap (λ l. x ∷ l) (kept_none cs)
kept_push [] cs (y ∷ xs) x h = absurd (omega (arith, h))
kept_push (b ∷ bs) cs [] x h = absurd (omega (arith, h))
kept_push (true ∷ bs) cs (y ∷ xs) x h = ap (λ l. y ∷ l) (kept_push bs cs xs x (omega (arith, h)))
kept_push (false ∷ bs) cs (y ∷ xs) x h = kept_push bs cs xs x (omega (arith, h))

pub kept_skip : {A : Type 0} (bs cs : List Bool) (xs : List A) (x : A) → length bs ≡ length xs → kept (bs ++ false ∷ cs) (xs ++ x ∷ []) ≡ kept (bs ++ false ∷ cs) xs
kept_skip [] cs [] x h = kept_none cs
kept_skip [] cs (y ∷ xs) x h = absurd (omega (arith, h))
kept_skip (b ∷ bs) cs [] x h = absurd (omega (arith, h))
kept_skip (true ∷ bs) cs (y ∷ xs) x h = ap (λ l. y ∷ l) (kept_skip bs cs xs x (omega (arith, h)))
kept_skip (false ∷ bs) cs (y ∷ xs) x h = kept_skip bs cs xs x (omega (arith, h))

-- ---- numbers of what is marked

places_of : (bs : List Bool) (us xs : List ℕ) (n : ℕ) → n ≡ length us → length bs ≡ length xs → map (λ k. slice_index (us ++ xs) k) (marked_places n bs) ≡ kept bs xs
places_of [] us [] n e h = refl
places_of [] us (x ∷ xs) n e h = refl
places_of (b ∷ bs) us [] n e h = absurd (omega (arith, h))
places_of (true ∷ bs) us (x ∷ xs) n e h =
    let rest : map (λ k. slice_index ((us ++ x ∷ []) ++ xs) k) (marked_places (n + 1) bs) ≡ kept bs xs =
    places_of bs (us ++ x ∷ []) xs (n + 1) (ap (λ m. m + 1) e ∙ sym (length-append us (x ∷ []))) (omega (arith, h)) in
    ap₂ (λ a l. a ∷ l) (here us xs n e) (ap (λ l. map (λ k. slice_index l k) (marked_places (n + 1) bs)) (sym (append_assoc us (x ∷ []) xs)) ∙ rest)
  where
    here : (us xs : List ℕ) (n : ℕ) → n ≡ length us → slice_index (us ++ x ∷ xs) n ≡ x
    here us xs n e = ap (λ m. slice_index (us ++ x ∷ xs) m) e ∙ get_or-append_seam us x xs 0
places_of (false ∷ bs) us (x ∷ xs) n e h =
    let rest : map (λ k. slice_index ((us ++ x ∷ []) ++ xs) k) (marked_places (n + 1) bs) ≡ kept bs xs =
    places_of bs (us ++ x ∷ []) xs (n + 1) (ap (λ m. m + 1) e ∙ sym (length-append us (x ∷ []))) (omega (arith, h)) in
    ap (λ l. map (λ k. slice_index l k) (marked_places (n + 1) bs)) (sym (append_assoc us (x ∷ []) xs)) ∙ rest

-- the values at the numbers of the marked ones are the marked values
pub at_places : (bs : List Bool) (xs : List ℕ) → length bs ≡ length xs → map (λ k. slice_index xs k) (marked_places 0 bs) ≡ kept bs xs
at_places bs xs h = places_of bs [] xs 0 refl h

below_from : (bs : List Bool) (n m : ℕ) → n + length bs ≤ m → AreBelow m (marked_places n bs)
below_from [] n m h = _
below_from (true ∷ bs) n m h = (omega (arith, h), below_from bs (n + 1) m (omega (arith, h)))
below_from (false ∷ bs) n m h = below_from bs (n + 1) m (omega (arith, h))

pub places_below : (bs : List Bool) (m : ℕ) → length bs ≡ m → AreBelow m (marked_places 0 bs)
places_below bs m h = below_from bs 0 m (omega (arith, h))

-- ---- all that is marked

-- what holds of each marked element holds of all that stay
pub all_kept : {A B : Type 0} (f : A → B) (P : B → Type 0) (bs : List Bool) (xs : List A) → ((k : ℕ) (x : A) → slice_get bs k ≡ Some true → slice_get xs k ≡ Some x → P (f x)) → All P (map f (kept bs xs))
all_kept f P [] xs h = All-nil P
all_kept f P (b ∷ bs) [] h = All-nil P
all_kept f P (true ∷ bs) (x ∷ xs) h = All-cons P (f x) (map f (kept bs xs)) (h 0 x refl refl) (all_kept f P bs xs (λ k y e g. h (suc k) y e g))
all_kept f P (false ∷ bs) (x ∷ xs) h = all_kept f P bs xs (λ k y e g. h (suc k) y e g)

pub map_twice : {A B C : Type 0} (g : B → C) (f : A → B) (xs : List A) → map g (map f xs) ≡ map (λ x. g (f x)) xs
map_twice g f [] = refl
map_twice g f (x ∷ xs) = ap (λ l. g (f x) ∷ l) (map_twice g f xs)

-- ---- what stays of the first so many

pub kept_taken : {A : Type 0} (bs : List Bool) (xs : List A) (k : ℕ) → (length bs ≤ k) ⊎ (length xs ≤ k) → kept (take k bs) (take k xs) ≡ kept bs xs
kept_taken [] xs zero h = refl
kept_taken [] xs (suc k) h = refl
kept_taken (b ∷ bs) [] zero h = refl
kept_taken (b ∷ bs) [] (suc k) h = refl
kept_taken (b ∷ bs) (x ∷ xs) zero (inl h) = absurd (omega (arith, h))
kept_taken (b ∷ bs) (x ∷ xs) zero (inr h) = absurd (omega (arith, h))
kept_taken (true ∷ bs) (x ∷ xs) (suc k) (inl h) = ap (λ l. x ∷ l) (kept_taken bs xs k (inl (omega (arith, h))))
kept_taken (true ∷ bs) (x ∷ xs) (suc k) (inr h) = ap (λ l. x ∷ l) (kept_taken bs xs k (inr (omega (arith, h))))
kept_taken (false ∷ bs) (x ∷ xs) (suc k) (inl h) = kept_taken bs xs k (inl (omega (arith, h)))
kept_taken (false ∷ bs) (x ∷ xs) (suc k) (inr h) = kept_taken bs xs k (inr (omega (arith, h)))

kept_next : {A : Type 0} (bs : List Bool) (xs : List A) (k : ℕ) (d : Bool) (e : A) → k < length bs → k < length xs
    → kept (take (suc k) bs) (take (suc k) xs) ≡ kept (take k bs) (take k xs) ++ cond (get_or bs k d) (get_or xs k e ∷ []) []
kept_next [] xs k d e h g = absurd (omega (arith, h))
kept_next (b ∷ bs) [] k d e h g = absurd (omega (arith, g))
kept_next (true ∷ bs) (x ∷ xs) zero d e h g = refl
kept_next (false ∷ bs) (x ∷ xs) zero d e h g = refl
kept_next (true ∷ bs) (x ∷ xs) (suc k) d e h g = ap (λ l. x ∷ l) (kept_next bs xs k d e (omega (arith, h)) (omega (arith, g)))
kept_next (false ∷ bs) (x ∷ xs) (suc k) d e h g = kept_next bs xs k d e (omega (arith, h)) (omega (arith, g))

-- one more that is marked
pub left_more : {A B : Type 0} (f : A → B) (bs : List Bool) (xs : List A) (k : ℕ) (d : Bool) (e : A) (ys zs : List B) → k < length bs → k < length xs → get_or bs k d ≡ true
    → ys ≡ map f (kept (take k bs) (take k xs)) → zs ≡ ys ++ f (get_or xs k e) ∷ [] → zs ≡ map f (kept (take (k + 1) bs) (take (k + 1) xs))
left_more f bs xs k d e ys zs h g mark is more =
    let next : suc k ≡ k + 1 = omega arith in
    let step : kept (take (k + 1) bs) (take (k + 1) xs) ≡ kept (take k bs) (take k xs) ++ get_or xs k e ∷ [] =
    ap (λ n. kept (take n bs) (take n xs)) (sym next) ∙ (kept_next bs xs k d e h g ∙ ap (λ t. kept (take k bs) (take k xs) ++ cond t (get_or xs k e ∷ []) []) mark) in
    more ∙ (ap (λ l. l ++ f (get_or xs k e) ∷ []) is ∙ (sym (map-append f (kept (take k bs) (take k xs)) (get_or xs k e ∷ [])) ∙ ap (map f) (sym step)))

-- one more that is not
pub left_same : {A B : Type 0} (f : A → B) (bs : List Bool) (xs : List A) (k : ℕ) (d : Bool) (e : A) (ys : List B) → k < length bs → k < length xs → get_or bs k d ≡ false
    → ys ≡ map f (kept (take k bs) (take k xs)) → ys ≡ map f (kept (take (k + 1) bs) (take (k + 1) xs))
left_same f bs xs k d e ys h g mark is =
    let next : suc k ≡ k + 1 = omega arith in
    let step : kept (take (k + 1) bs) (take (k + 1) xs) ≡ kept (take k bs) (take k xs) =
    ap (λ n. kept (take n bs) (take n xs)) (sym next)
    ∙ (kept_next bs xs k d e h g ∙ (ap (λ t. kept (take k bs) (take k xs) ++ cond t (get_or xs k e ∷ []) []) mark ∙ append-nil (kept (take k bs) (take k xs)))) in
    is ∙ ap (map f) (sym step)

-- ---- places

pub count_more : (bs : List Bool) (k : ℕ) (d : Bool) → k < length bs → marked_before bs (k + 1) ≡ marked_before bs k + cond (get_or bs k d) 1 0
count_more bs k d h = let next : suc k ≡ k + 1 = omega arith in ap (marked_before bs) (sym next) ∙ from bs k h
  where
    from : (bs : List Bool) (k : ℕ) → k < length bs → marked_before bs (suc k) ≡ marked_before bs k + cond (get_or bs k d) 1 0
    from [] k h = absurd (omega (arith, h))
    from (true ∷ bs) zero h = refl
    from (false ∷ bs) zero h = refl
    from (true ∷ bs) (suc k) h = let rest = from bs k (omega (arith, h)) in omega (arith, rest)
    from (false ∷ bs) (suc k) h = from bs k (omega (arith, h))

pub count_most : (bs : List Bool) (k : ℕ) → marked_before bs k ≤ k
count_most bs zero = omega arith
count_most [] (suc k) = omega arith
count_most (true ∷ bs) (suc k) = let rest = count_most bs k in omega (arith, rest)
count_most (false ∷ bs) (suc k) = let rest = count_most bs k in omega (arith, rest)

-- so many numbers are the places of so many marks
pub are_places : (bs : List Bool) (places : List ℕ) → length places ≡ length bs → ((k : ℕ) → k < length bs → get_or places k k ≡ marked_before bs k) → (k : ℕ) → get_or places k k ≡ place_in bs k
are_places bs places same each k =
    elim (cases_Bool (ltb k (length bs))) [
      | inl yes_ ↦ let h = ltb-true k (length bs) yes_ in each k h ∙ sym (place_is bs k h)
      | inr no_ ↦
          let h = ltb-false k (length bs) no_ in
          let far : length places ≤ k = omega (arith, same, h) in
          get_or_past places k k far ∙ ap (λ t. cond t (marked_before bs k) k) (sym no_)
    ]

-- ---- a loop over all elements

pub same_there : {A : Type 0} (xs : List A) (i : ℕ) (d e : A) → i < length xs → get_or xs i d ≡ get_or xs i e
same_there [] i d e h = absurd (omega (arith, h))
same_there (x ∷ xs) zero d e h = refl
same_there (x ∷ xs) (suc i) d e h = same_there xs i d e (omega (arith, h))

-- one more element is written over
pub over_more : {A : Type 0} (f : A → A) (xs ys : List A) (i : ℕ) (d r : A) → i < length xs → i < length ys → ys ≡ map f (take i xs) ++ drop i xs → r ≡ f (get_or ys i d)
    → set ys i r ≡ map f (take (i + 1) xs) ++ drop (i + 1) xs
over_more f xs ys i d r h g is made = ap (set ys i) made ∙ map_over_more f xs ys i (get_or ys i d) h is (same_there ys i d (get_or ys i d) g)

-- one number more
pub each_more : (f : ℕ → ℕ) (xs ys : List ℕ) (i x : ℕ) → length xs ≡ i → ys ≡ xs ++ x ∷ [] → x ≡ f i → ((k d : ℕ) → k < i → get_or xs k d ≡ f k) → (k d : ℕ) → k < i + 1 → get_or ys k d ≡ f k
each_more f xs ys i x len is here before k d lt =
    let most : k ≤ i = omega (arith, lt) in
    elim (eq-or-lt_of_le most) [
      | inl same ↦ ap₂ (λ l n. get_or l n d) is (same ∙ sym len) ∙ (get_or-append_seam xs x [] d ∙ (here ∙ ap f (sym same)))
      | inr less ↦ ap (λ l. get_or l k d) is ∙ (get_or-append xs (x ∷ []) d k (subst (λ n. k < n) (sym len) less) ∙ before k d less)
    ]

-- one element is written over, as it is seen
pub over_seen : {A B : Type 0} (view : A → B) (f : B → B) (xs : List B) (ys : List A) (i : ℕ) (d y : A) → i < length xs → i < length ys → map view ys ≡ map f (take i xs) ++ drop i xs
    → view y ≡ f (view (get_or ys i d)) → map view (set ys i y) ≡ map f (take (i + 1) xs) ++ drop (i + 1) xs
over_seen view f xs ys i d y h g is made =
    let within : i < length (map view ys) = let n = length-map ys view in omega (arith, n, g) in
    map-set view ys i y ∙ over_more f xs (map view ys) i (view d) (view y) h within is (made ∙ ap f (sym (get_or-map view ys i d (view d) g)))

-- as many stay as are marked
pub kept_count : {A : Type 0} (bs : List Bool) (xs : List A) → length bs ≡ length xs → length (kept bs xs) ≡ marks_in bs
kept_count [] xs h = refl
kept_count (b ∷ bs) [] h = absurd (omega (arith, h))
kept_count (true ∷ bs) (x ∷ xs) h = ap suc (kept_count bs xs (omega (arith, h)))
kept_count (false ∷ bs) (x ∷ xs) h = kept_count bs xs (omega (arith, h))
