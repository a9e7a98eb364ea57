-- Lists by place.
use Rattle.std.proofs.Common.{◌≡◌, ℕ, zero, suc, ◌+◌, ◌<◌, List, [], ◌∷◌, ◌++◌, length, map, take, drop, get_or, Some, refl, sym, ap, ◌∙◌, subst, arith}
use Rattle.std.specs.Prelude.{slice_get}
use Rattle.std.specs.List.{All, Contains}
use Rattle.std.proofs.lemmas.Option.{slice_get-get_or, slice_get_within, get_or_from_slice_get, none-some, same_Some}

pub by_places : {X : Type 0} (P : X → Type 0) (xs : List X) → ((k : ℕ) (x : X) → slice_get xs k ≡ Some x → P x) → All P xs
by_places P xs h k d lt = h k (get_or xs k d) (slice_get-get_or xs k d lt)

pub All-place : {X : Type 0} (P : X → Type 0) (xs : List X) (k : ℕ) (x : X) → All P xs → slice_get xs k ≡ Some x → P x
All-place P xs k x h e = subst P (get_or_from_slice_get xs k x x e) (h k x (slice_get_within xs k x e))

pub contains_place : {X : Type 0} (xs : List X) (x : X) → Contains xs x → (k : ℕ) × (slice_get xs k ≡ Some x)
contains_place xs x h = (h.0, slice_get-get_or xs h.0 x h.1 ∙ ap Some h.2)

pub place_contains : {X : Type 0} (xs : List X) (k : ℕ) (x : X) → slice_get xs k ≡ Some x → Contains xs x
place_contains xs k x e = (k, slice_get_within xs k x e, get_or_from_slice_get xs k x x e)

pub get_map : {X Y : Type 0} (f : X → Y) (xs : List X) (k : ℕ) (x : X) → slice_get xs k ≡ Some x → slice_get (map f xs) k ≡ Some (f x)
get_map f [] k x e = absurd (none-some x e)
get_map f (y ∷ xs) zero x e = ap (λ z. Some (f z)) (same_Some y x e)
get_map f (y ∷ xs) (suc k) x e = get_map f xs k x e

pub get_back : {X Y : Type 0} (f : X → Y) (xs : List X) (k : ℕ) (y : Y) → slice_get (map f xs) k ≡ Some y → (x : X) × (slice_get xs k ≡ Some x) × (f x ≡ y)
get_back f [] k y e = absurd (none-some y e)
get_back f (x ∷ xs) zero y e = (x, refl, same_Some (f x) y e)
get_back f (x ∷ xs) (suc k) y e = get_back f xs k y e

pub get_take : {X : Type 0} (xs : List X) (n k : ℕ) (x : X) → k < n → slice_get xs k ≡ Some x → slice_get (take n xs) k ≡ Some x
get_take [] n k x h e = absurd (none-some x e)
get_take (y ∷ xs) zero k x h e = absurd (omega arith)
get_take (y ∷ xs) (suc n) zero x h e = e
get_take (y ∷ xs) (suc n) (suc k) x h e = get_take xs n k x (omega arith) e

pub get_drop : {X : Type 0} (xs : List X) (n k : ℕ) (x : X) → slice_get (drop n xs) k ≡ Some x → slice_get xs (n + k) ≡ Some x
get_drop xs zero k x e = let same : k ≡ 0 + k = omega arith in ap (slice_get xs) (sym same) ∙ e
get_drop [] (suc n) k x e = absurd (none-some x e)
get_drop (y ∷ xs) (suc n) k x e = let same : suc n + k ≡ suc (n + k) = omega arith in ap (slice_get (y ∷ xs)) same ∙ get_drop xs n k x e

pub drop_get : {X : Type 0} (xs : List X) (k : ℕ) (x : X) → slice_get xs k ≡ Some x → drop k xs ≡ x ∷ drop (suc k) xs
drop_get [] k x e = absurd (none-some x e)
drop_get (y ∷ xs) zero x e = ap (λ z. z ∷ xs) (same_Some y x e)
drop_get (y ∷ xs) (suc k) x e = drop_get xs k x e

-- the list up to a place, and the element there
pub take_get : {X : Type 0} (xs : List X) (k : ℕ) (x : X) → slice_get xs k ≡ Some x → take (suc k) xs ≡ take k xs ++ x ∷ []
take_get [] k x e = absurd (none-some x e)
take_get (y ∷ xs) zero x e = ap (λ z. z ∷ []) (same_Some y x e)
take_get (y ∷ xs) (suc k) x e = ap (λ zs. y ∷ zs) (take_get xs k x e)

-- two lists that have the same elements at the same places
pub same_places : {X : Type 0} (xs ys : List X) → length xs ≡ length ys → ((k : ℕ) (x y : X) → slice_get xs k ≡ Some x → slice_get ys k ≡ Some y → x ≡ y) → xs ≡ ys
same_places [] [] e h = refl
same_places [] (y ∷ ys) e h = absurd (omega (arith, e))
same_places (x ∷ xs) [] e h = absurd (omega (arith, e))
same_places (x ∷ xs) (y ∷ ys) e h =
    ap (λ z. z ∷ xs) (h 0 x y refl refl) ∙ ap (λ zs. y ∷ zs) (same_places xs ys (omega (arith, e)) (λ k a b p q. h (suc k) a b p q))

-- there is an element at each place
pub some_place : {X : Type 0} (xs : List X) (k : ℕ) → k < length xs → (x : X) × (slice_get xs k ≡ Some x)
some_place [] k h = absurd (omega arith)
some_place (x ∷ xs) zero h = (x, refl)
some_place (x ∷ xs) (suc k) h = some_place xs k (omega arith)

pub one_at : {X : Type 0} (xs : List X) (k : ℕ) (x y : X) → slice_get xs k ≡ Some x → slice_get xs k ≡ Some y → x ≡ y
one_at xs k x y e f = same_Some x y (sym e ∙ f)
