-- Lists that are made by number.
use Rattle.std.proofs.Common.{◌≡◌, ◌≢◌, ℕ, zero, suc, ◌+◌, ◌<◌, ◌∙◌, sym, refl, ap, subst, Bool, true, List, [], ◌∷◌, ◌++◌, map, length, Some, arith}
use Rattle.std.specs.Prelude.{slice_get}
use Rattle.std.specs.List.{All, list_all}
use Rattle.std.proofs.lemmas.Bool.{and_parts}
use Rattle.std.proofs.lemmas.List.Elements.{All-nil, All-cons, All-head, All-tail, All-append, All-weaker}
use Rattle.rtl_core.specs.Valid.{AreDistinct}
use Rattle.rtl_core.specs.ModuleText.{InOrder, none, another}
use Rattle.verilog_print.specs.PrintedSyntax.{numbered}

-- ---- what holds of each element

pub All-left : {X : Type 0} (P : X → Type 0) (xs ys : List X) → All P (xs ++ ys) → All P xs
All-left P [] ys h = All-nil P
All-left P (x ∷ xs) ys h = All-cons P x xs (All-head P x (xs ++ ys) h) (All-left P xs ys (All-tail P x (xs ++ ys) h))

pub All-right : {X : Type 0} (P : X → Type 0) (xs ys : List X) → All P (xs ++ ys) → All P ys
All-right P [] ys h = h
All-right P (x ∷ xs) ys h = All-right P xs ys (All-tail P x (xs ++ ys) h)

pub all_pass : {X : Type 0} (p : X → Bool) (xs : List X) → list_all p xs ≡ true → All (λ x. p x ≡ true) xs
all_pass p [] h = All-nil (λ x. p x ≡ true)
all_pass p (x ∷ xs) h = let both = and_parts (p x) (list_all p xs) h in All-cons (λ x. p x ≡ true) x xs both.0 (all_pass p xs both.1)

pub All-place : {X : Type 0} (P : X → Type 0) (xs : List X) (k : ℕ) (x : X) → All P xs → slice_get xs k ≡ Some x → P x
All-place P [] k x h e = absurd cc
All-place P (y ∷ xs) zero x h e = let same : y ≡ x = cc in subst P same (All-head P y xs h)
All-place P (y ∷ xs) (suc k) x h e = All-place P xs k x (All-tail P y xs h) e

-- an element that a map gives is given of one
pub All-mapped : {X Y : Type 0} (P : Y → Type 0) (g : X → Y) (xs : List X) (k : ℕ) (y : Y) → All (λ x. P (g x)) xs → slice_get (map g xs) k ≡ Some y → P y
All-mapped P g [] k y h e = absurd cc
All-mapped P g (x ∷ xs) zero y h e = let same : g x ≡ y = cc in subst P same (All-head (λ x. P (g x)) x xs h)
All-mapped P g (x ∷ xs) (suc k) y h e = All-mapped P g xs k y (All-tail (λ x. P (g x)) x xs h) e

-- the elements of a list are those of the other from place j on
abbrev pub Behind : {X : Type 0} → List X → ℕ → List X → Type 0
Behind whole j xs = (i : ℕ) → slice_get xs i ≡ slice_get whole (j + i)

pub Behind-first : {X : Type 0} (whole : List X) (j : ℕ) (x : X) (xs : List X) → Behind whole j (x ∷ xs) → slice_get whole j ≡ Some x
Behind-first whole j x xs h = ap (slice_get whole) (let e : j ≡ j + 0 = omega arith in e) ∙ sym (h 0)

pub Behind-next : {X : Type 0} (whole : List X) (j : ℕ) (x : X) (xs : List X) → Behind whole j (x ∷ xs) → Behind whole (suc j) xs
Behind-next whole j x xs h i = h (suc i) ∙ ap (slice_get whole) (let e : j + suc i ≡ suc j + i = omega arith in e)

pub Behind-whole : {X : Type 0} (whole : List X) → Behind whole 0 whole
Behind-whole whole i = ap (slice_get whole) (let e : i ≡ 0 + i = omega arith in e)

places : {X : Type 0} (P : X → Type 0) (whole : List X) (j : ℕ) (xs : List X) → Behind whole j xs → ((k : ℕ) (x : X) → slice_get whole k ≡ Some x → P x) → All P xs
places P whole j [] b h = All-nil P
places P whole j (x ∷ xs) b h = All-cons P x xs (h j x (Behind-first whole j x xs b)) (places P whole (suc j) xs (Behind-next whole j x xs b) h)

-- what holds of the element at each place
pub by_places : {X : Type 0} (P : X → Type 0) (xs : List X) → ((k : ℕ) (x : X) → slice_get xs k ≡ Some x → P x) → All P xs
by_places P xs h = places P xs 0 xs (Behind-whole xs) h

numbered_places : {X Y : Type 0} (Q : Y → Type 0) (f : ℕ → X → Y) (whole : List X) (j : ℕ) (xs : List X) → Behind whole j xs → ((k : ℕ) (x : X) → slice_get whole k ≡ Some x → Q (f k x)) → All Q (numbered f j xs)
numbered_places Q f whole j [] b h = All-nil Q
numbered_places Q f whole j (x ∷ xs) b h =
    All-cons Q (f j x) (numbered f (suc j) xs) (h j x (Behind-first whole j x xs b)) (numbered_places Q f whole (suc j) xs (Behind-next whole j x xs b) h)

pub numbered_all : {X Y : Type 0} (Q : Y → Type 0) (f : ℕ → X → Y) (xs : List X) → ((k : ℕ) (x : X) → slice_get xs k ≡ Some x → Q (f k x)) → All Q (numbered f 0 xs)
numbered_all Q f xs h = numbered_places Q f xs 0 xs (Behind-whole xs) h

-- ---- lists in one order

pub in_order : {X Y : Type 0} (Means : Y → X → Type 0) (P : X → Type 0) (f : ℕ → X → Y) → ((k : ℕ) (x : X) → P x → Means (f k x) x) → (j : ℕ) (xs : List X) → All P xs → InOrder Means (numbered f j xs) xs
in_order Means P f h j [] all = none
in_order Means P f h j (x ∷ xs) all = another (f j x) x (numbered f (suc j) xs) xs (h j x (All-head P x xs all)) (in_order Means P f h (suc j) xs (All-tail P x xs all))

pub in_order_map : {X Y : Type 0} (Means : Y → X → Type 0) (P : X → Type 0) (f : X → Y) → ((x : X) → P x → Means (f x) x) → (xs : List X) → All P xs → InOrder Means (map f xs) xs
in_order_map Means P f h [] all = none
in_order_map Means P f h (x ∷ xs) all = another (f x) x (map f xs) xs (h x (All-head P x xs all)) (in_order_map Means P f h xs (All-tail P x xs all))

pub map_map : {X Y Z : Type 0} (g : Y → Z) (f : X → Y) (h : X → Z) → ((x : X) → g (f x) ≡ h x) → (xs : List X) → map g (map f xs) ≡ map h xs
map_map g f h e [] = refl
map_map g f h e (x ∷ xs) = ap (λ y. y ∷ map g (map f xs)) (e x) ∙ ap (λ ys. h x ∷ ys) (map_map g f h e xs)

-- two lists made by number have one image
pub map_numbered : {X Y W Z : Type 0} (g : Y → Z) (f : ℕ → X → Y) (g' : W → Z) (f' : ℕ → X → W) → ((k : ℕ) (x : X) → g (f k x) ≡ g' (f' k x)) → (j : ℕ) (xs : List X) → map g (numbered f j xs) ≡ map g' (numbered f' j xs)
map_numbered g f g' f' e j [] = refl
map_numbered g f g' f' e j (x ∷ xs) =
    ap (λ y. y ∷ map g (numbered f (suc j) xs)) (e j x) ∙ ap (λ ys. g' (f' j x) ∷ ys) (map_numbered g f g' f' e (suc j) xs)

pub numbered_get : {X Y Z : Type 0} (g : Y → Z) (f : ℕ → X → Y) (name : ℕ → Z) → ((k : ℕ) (x : X) → g (f k x) ≡ name k) → (j k : ℕ) (xs : List X) → k < length xs → slice_get (map g (numbered f j xs)) k ≡ Some (name (j + k))
numbered_get g f name e j k [] h = absurd (omega arith)
numbered_get g f name e j zero (x ∷ xs) h = ap Some (e j x ∙ ap name (let same : j ≡ j + 0 = omega arith in same))
numbered_get g f name e j (suc k) (x ∷ xs) h =
    numbered_get g f name e (suc j) k xs (omega arith) ∙ ap (λ n. Some (name n)) (let same : suc j + k ≡ j + suc k = omega arith in same)

-- ---- lists without a repetition

pub distinct_append : (xs ys : List (List ℕ)) → AreDistinct xs → AreDistinct ys → All (λ x. All (λ y. x ≢ y) ys) xs → AreDistinct (xs ++ ys)
distinct_append [] ys dx dy apart = dy
distinct_append (x ∷ xs) ys dx dy apart =
    (All-append (λ y. x ≢ y) xs ys dx.0 (All-head (λ x. All (λ y. x ≢ y) ys) x xs apart), distinct_append xs ys dx.1 dy (All-tail (λ x. All (λ y. x ≢ y) ys) x xs apart))

pub all_apart : (P Q : List ℕ → Type 0) → ((x y : List ℕ) → P x → Q y → x ≢ y) → (xs ys : List (List ℕ)) → All P xs → All Q ys → All (λ x. All (λ y. x ≢ y) ys) xs
all_apart P Q h xs ys p q = All-weaker P (λ x. All (λ y. x ≢ y) ys) (λ x px. All-weaker Q (λ y. x ≢ y) (λ y qy. h x y px qy) ys q) xs p
