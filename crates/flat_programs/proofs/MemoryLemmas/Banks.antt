-- Memories of which one changes, or to which one is added.
use Rattle.std.proofs.Common.{◌≡◌, ◌≢◌, ℕ, zero, suc, ◌+◌, ◌*◌, ◌%◌, ◌^◌, ◌<◌, ◌≤◌, List, [], ◌∷◌, ◌++◌, length, get_or, set, map, take, drop, replicate, Option, Some, refl, sym, ap, ◌∙◌, inl, inr, arith}
use Rattle.std.specs.Prelude.{slice_get, if◌then◌else◌}
use Rattle.std.proofs.lemmas.List.{get_or-set_same, get_or-set_other, take_at, map_more, map-append, length-map, length-take, take_more}
use Rattle.std.proofs.lemmas.Nat.{one_shl}
use Rattle.std.proofs.lemmas.Bool.{cases_eq, eq-eqb, ne_eqb}
use Rattle.ir_core.specs.Bodies.{with_word, with_element}

pub get-set_same : {A : Type 0} (xs : List A) (i : ℕ) (y : A) → i < length xs → slice_get (set xs i y) i ≡ Some y
get-set_same [] i y h = absurd (omega arith)
get-set_same (x ∷ xs) zero y h = refl
get-set_same (x ∷ xs) (suc i) y h = get-set_same xs i y (omega arith)

pub get-set_other : {A : Type 0} (xs : List A) (i j : ℕ) (y : A) → j ≢ i → slice_get (set xs i y) j ≡ slice_get xs j
get-set_other [] i j y h = refl
get-set_other (x ∷ xs) zero zero y h = absurd (h refl)
get-set_other (x ∷ xs) zero (suc j) y h = refl
get-set_other (x ∷ xs) (suc i) zero y h = refl
get-set_other (x ∷ xs) (suc i) (suc j) y h = get-set_other xs i j y (λ e. h (ap suc e))

pub get-push_same : {A : Type 0} (xs : List A) (y : A) → slice_get (xs ++ y ∷ []) (length xs) ≡ Some y
get-push_same [] y = refl
get-push_same (x ∷ xs) y = get-push_same xs y

pub get-push_other : {A : Type 0} (xs : List A) (y : A) (k : ℕ) → k ≢ length xs → slice_get (xs ++ y ∷ []) k ≡ slice_get xs k
get-push_other [] y zero h = absurd (h refl)
get-push_other [] y (suc k) h = refl
get-push_other (x ∷ xs) y zero h = refl
get-push_other (x ∷ xs) y (suc k) h = get-push_other xs y k (λ e. h (ap suc e))

-- a word is written within the words
pub word_set : (words : List ℕ) (address w a : ℕ) → address < length words → get_or (set words address w) a 0 ≡ with_word (λ k. get_or words k 0) address w a
word_set words address w a h =
    elim (cases_eq address a) [
      | inl same ↦
          ap (λ k. get_or (set words address w) k 0) (sym same) ∙ get_or-set_same words address w 0 h
          ∙ sym (ap (λ b. if b then w else get_or words a 0) (eq-eqb address a same))
      | inr other ↦
          get_or-set_other words address a w 0 (λ e. other (sym e)) ∙ sym (ap (λ b. if b then w else get_or words a 0) (ne_eqb address a other))
    ]

-- words by memory and address, where one memory takes a word
pub element_set : {A : Type 0} (word_in : Option A → ℕ → ℕ) (xs : List A) (i : ℕ) (old new : A) (address w : ℕ) → i < length xs → slice_get xs i ≡ Some old
    → ((a : ℕ) → word_in (Some new) a ≡ with_word (word_in (Some old)) address w a)
    → (k a : ℕ) → word_in (slice_get (set xs i new) k) a ≡ with_element i address w (λ m. word_in (slice_get xs m)) k a
element_set {A} word_in xs i old new address w h was is k a =
    elim (cases_eq i k) [
      | inl same ↦
          let here : slice_get xs k ≡ Some old = ap (slice_get xs) (sym same) ∙ was in
          ap (λ m. word_in (slice_get (set xs i new) m) a) (sym same) ∙ ap (λ o. word_in o a) (get-set_same xs i new h) ∙ is a
          ∙ sym (ap (λ b. (if b then with_word (word_in (slice_get xs k)) address w else word_in (slice_get xs k)) a) (eq-eqb i k same) ∙ ap (λ o. with_word (word_in o) address w a) here)
      | inr other ↦
          ap (λ o. word_in o a) (get-set_other xs i k new (λ e. other (sym e)))
          ∙ sym (ap (λ b. (if b then with_word (word_in (slice_get xs k)) address w else word_in (slice_get xs k)) a) (ne_eqb i k other))
    ]

-- a Vec behind a slice of it that was written
pub written_back : (n : ℕ) (new old : List ℕ) → length new ≡ n → take n (new ++ drop (length new) old) ≡ new
written_back n new old h = take_at new (drop (length new) old) n h

pub stored_back : (n : ℕ) (old new : List ℕ) (address w a : ℕ) → new ≡ set old address w → length new ≡ n → address < length old → get_or (take n (new ++ drop (length new) old)) a 0 ≡ with_word (λ k. get_or old k 0) address w a
stored_back n old new address w a e l h = ap (λ ws. get_or ws a 0) (written_back n new old l ∙ e) ∙ word_set old address w a h

pub zero_words : (n a : ℕ) → get_or (replicate {A = ℕ} n 0) a 0 ≡ 0
zero_words zero a = refl
zero_words (suc n) zero = refl
zero_words (suc n) (suc a) = zero_words n a

pub depth_is : (depth bits : ℕ) → depth ≡ bits → depth ≤ 32 → (1 * 2 ^ depth) % 2 ^ 64 ≡ 2 ^ bits
depth_is depth bits e h = one_shl depth 64 (omega arith) ∙ ap (λ k. 2 ^ k) e

-- one memory more
pub dims_push : {B M : Type 0} (dims_b : B → List ℕ) (dims_m : M → List ℕ) (bs : List B) (ms : List M) (i : ℕ) (b : B) (m : M) → i < length ms → m ≡ get_or ms i m → dims_b b ≡ dims_m m → map dims_b bs ≡ map dims_m (take i ms)
    → map dims_b (bs ++ b ∷ []) ≡ map dims_m (take (i + 1) ms)
dims_push dims_b dims_m bs ms i b m h is same so_far =
    map-append dims_b bs (b ∷ []) ∙ ap (λ xs. xs ++ dims_b b ∷ []) so_far ∙ ap (λ x. map dims_m (take i ms) ++ x ∷ []) (same ∙ ap dims_m is) ∙ sym (map_more dims_m ms i m h)

length_so_far : {B M : Type 0} (dims_b : B → List ℕ) (dims_m : M → List ℕ) (bs : List B) (ms : List M) (i : ℕ) → i < length ms → map dims_b bs ≡ map dims_m (take i ms) → length bs ≡ i
length_so_far dims_b dims_m bs ms i h e = omega (arith, length-map bs dims_b, ap length e, length-map (take i ms) dims_m, length-take i ms)

pub words_push : {B M : Type 0} (dims_b : B → List ℕ) (dims_m : M → List ℕ) (word : Option B → ℕ → ℕ) (first : Option M → List ℕ → ℕ → ℕ) (bs : List B) (ms : List M) (arrays : List (List ℕ)) (i : ℕ) (b : B) (m : M)
    → i < length ms → m ≡ get_or ms i m → map dims_b bs ≡ map dims_m (take i ms) → ((a : ℕ) → word (Some b) a ≡ first (Some m) (get_or arrays i []) a)
    → ((k a : ℕ) → word (slice_get bs k) a ≡ first (slice_get (take i ms) k) (get_or arrays k []) a) → (k a : ℕ) → word (slice_get (bs ++ b ∷ []) k) a ≡ first (slice_get (take (i + 1) ms) k) (get_or arrays k []) a
words_push {B} {M} dims_b dims_m word first bs ms arrays i b m h is dims here so_far k a =
    let count : length bs ≡ i = length_so_far dims_b dims_m bs ms i h dims in
    let taken : length (take i ms) ≡ i = omega (arith, length-take i ms) in
    let more : take (i + 1) ms ≡ take i ms ++ m ∷ [] = take_more ms i m h ∙ ap (λ x. take i ms ++ x ∷ []) (sym is) in
    elim (cases_eq k i) [
      | inl same ↦
          let left : slice_get (bs ++ b ∷ []) k ≡ Some b = ap (slice_get (bs ++ b ∷ [])) (same ∙ sym count) ∙ get-push_same bs b in
          let right : slice_get (take (i + 1) ms) k ≡ Some m = ap (λ xs. slice_get xs k) more ∙ ap (slice_get (take i ms ++ m ∷ [])) (same ∙ sym taken) ∙ get-push_same (take i ms) m in
          ap (λ o. word o a) left ∙ here a ∙ ap (λ n. first (Some m) (get_or arrays n []) a) (sym same) ∙ sym (ap (λ o. first o (get_or arrays k []) a) right)
      | inr other ↦
          ap (λ o. word o a) (get-push_other bs b k (λ e. other (e ∙ count))) ∙ so_far k a
          ∙ sym (ap (λ o. first o (get_or arrays k []) a) (ap (λ xs. slice_get xs k) more ∙ get-push_other (take i ms) m k (λ e. other (e ∙ taken))))
    ]
