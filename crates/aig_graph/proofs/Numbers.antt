-- Numbers of words of bits.
use Rattle.std.proofs.Common.{◌≡◌, ℕ, suc, ◌+◌, ◌*◌, ◌^◌, ◌<◌, ◌≤◌, ◌==◌, Bool, true, false, not, ◌&&◌, ◌||◌, List, [], ◌∷◌, ◌++◌, length, get_or, take, refl, sym, ap, ◌∙◌, subst, inl, inr, arith}
use Rattle.std.proofs.lemmas.Bool.{cases_eq, eq-eqb, ne_eqb}
use Rattle.std.proofs.lemmas.List.{map-append, length-map, length-take-le, take_all}
use Rattle.std.proofs.Math.Nat.{pow-suc}
use Rattle.std.proofs.Math.Seq.{take-suc}
use Rattle.aig_graph.specs.Graphs.{literal}
use Rattle.aig_graph.specs.Making.{is_xor}
use Rattle.aig_graph.specs.Words.{number, bits, worth}

pub two_more : (n : ℕ) → 2 ^ (n + 1) ≡ 2 * 2 ^ n
two_more n = let e : n + 1 ≡ suc n = omega arith in ap (λ z. 2 ^ z) e ∙ (let p : 2 ^ suc n ≡ 2 ^ n * 2 = pow-suc 2 n in omega arith)

worth_doubled : (b : Bool) (n m : ℕ) → m ≡ 2 * n → 2 * worth b n ≡ worth b m
worth_doubled true n m e = sym e
worth_doubled false n m e = refl

pub number_push : (bs : List Bool) (b : Bool) → number (bs ++ b ∷ []) ≡ number bs + worth b (2 ^ length bs)
number_push [] true = refl
number_push [] false = refl
number_push (x ∷ bs) b =
    let step : number (bs ++ b ∷ []) ≡ number bs + worth b (2 ^ length bs) = number_push bs b in
    let n = length bs in
    let more : n + 1 ≡ suc n = omega arith in
    let twice : 2 * worth b (2 ^ length bs) ≡ worth b (2 ^ suc (length bs)) = worth_doubled b (2 ^ length bs) (2 ^ suc (length bs)) (sym (ap (λ z. 2 ^ z) more) ∙ two_more (length bs)) in
    omega arith

pub number_below : (bs : List Bool) → number bs < 2 ^ length bs
number_below [] = omega arith
number_below (true ∷ bs) = let h = number_below bs in let n = length bs in let more : n + 1 ≡ suc n = omega arith in let e = sym (ap (λ z. 2 ^ z) more) ∙ two_more n in omega arith
number_below (false ∷ bs) = let h = number_below bs in let n = length bs in let more : n + 1 ≡ suc n = omega arith in let e = sym (ap (λ z. 2 ^ z) more) ∙ two_more n in omega arith

pub bits_push : (w : List Bool) (ls : List ℕ) (l : ℕ) → bits w (ls ++ l ∷ []) ≡ bits w ls ++ literal w l ∷ []
bits_push w ls l = map-append (literal w) ls (l ∷ [])

pub bits_length : (w : List Bool) (ls : List ℕ) → length (bits w ls) ≡ length ls
bits_length w ls = length-map ls (literal w)

-- one bit more of a word
pub take_bits : (w : List Bool) (xs : List ℕ) (i : ℕ) → i < length xs → bits w (take (i + 1) xs) ≡ bits w (take i xs) ++ literal w (get_or xs i 0) ∷ []
take_bits w xs i h =
    let e : i + 1 ≡ suc i = omega arith in
    ap (λ z. bits w (take z xs)) e ∙ (ap (bits w) (take-suc xs i 0 h) ∙ bits_push w (take i xs) (get_or xs i 0))

taken_length : (i : ℕ) (xs : List ℕ) → i ≤ length xs → length (take i xs) ≡ i
taken_length i xs h = length-take-le i xs h

pub taken_bits_length : (w : List Bool) (xs : List ℕ) (i : ℕ) → i ≤ length xs → length (bits w (take i xs)) ≡ i
taken_bits_length w xs i h = bits_length w (take i xs) ∙ taken_length i xs h

pub take_number : (w : List Bool) (xs : List ℕ) (i : ℕ) → i < length xs → number (bits w (take (i + 1) xs)) ≡ number (bits w (take i xs)) + worth (literal w (get_or xs i 0)) (2 ^ i)
take_number w xs i h =
    ap number (take_bits w xs i h) ∙ (number_push (bits w (take i xs)) (literal w (get_or xs i 0))
    ∙ ap (λ n. number (bits w (take i xs)) + worth (literal w (get_or xs i 0)) (2 ^ n)) (taken_bits_length w xs i (omega arith)))

pub taken_below : (w : List Bool) (xs : List ℕ) (i : ℕ) → i ≤ length xs → number (bits w (take i xs)) < 2 ^ i
taken_below w xs i h = subst (λ n. number (bits w (take i xs)) < 2 ^ n) (taken_bits_length w xs i h) (number_below (bits w (take i xs)))

pub take_whole : (w : List Bool) (xs : List ℕ) → bits w (take (length xs) xs) ≡ bits w xs
take_whole w xs = ap (bits w) (take_all (length xs) xs (omega arith))

-- ---- one bit of a sum

-- what holds of the bits of one place holds of what they are worth there
pub carried : (b n x y c : Bool) (N X Y Z P Q : ℕ) → worth b 1 + worth n 2 ≡ worth x 1 + worth y 1 + worth c 1 → Q ≡ 2 * P → N + worth c P ≡ X + Y + Z
    → N + worth b P + worth n Q ≡ X + worth x P + (Y + worth y P) + Z
carried true true true true true N X Y Z P Q one two h = omega arith
carried true true true true false N X Y Z P Q one two h = omega arith
carried true true true false true N X Y Z P Q one two h = omega arith
carried true true true false false N X Y Z P Q one two h = omega arith
carried true true false true true N X Y Z P Q one two h = omega arith
carried true true false true false N X Y Z P Q one two h = omega arith
carried true true false false true N X Y Z P Q one two h = omega arith
carried true true false false false N X Y Z P Q one two h = omega arith
carried true false true true true N X Y Z P Q one two h = omega arith
carried true false true true false N X Y Z P Q one two h = omega arith
carried true false true false true N X Y Z P Q one two h = omega arith
carried true false true false false N X Y Z P Q one two h = omega arith
carried true false false true true N X Y Z P Q one two h = omega arith
carried true false false true false N X Y Z P Q one two h = omega arith
carried true false false false true N X Y Z P Q one two h = omega arith
carried true false false false false N X Y Z P Q one two h = omega arith
carried false true true true true N X Y Z P Q one two h = omega arith
carried false true true true false N X Y Z P Q one two h = omega arith
carried false true true false true N X Y Z P Q one two h = omega arith
carried false true true false false N X Y Z P Q one two h = omega arith
carried false true false true true N X Y Z P Q one two h = omega arith
carried false true false true false N X Y Z P Q one two h = omega arith
carried false true false false true N X Y Z P Q one two h = omega arith
carried false true false false false N X Y Z P Q one two h = omega arith
carried false false true true true N X Y Z P Q one two h = omega arith
carried false false true true false N X Y Z P Q one two h = omega arith
carried false false true false true N X Y Z P Q one two h = omega arith
carried false false true false false N X Y Z P Q one two h = omega arith
carried false false false true true N X Y Z P Q one two h = omega arith
carried false false false true false N X Y Z P Q one two h = omega arith
carried false false false false true N X Y Z P Q one two h = omega arith
carried false false false false false N X Y Z P Q one two h = omega arith

-- ---- one bit of a comparison

pub equal_more : (N M P : ℕ) (x y : Bool) → N < P → M < P → ((N == M) && not (is_xor x y)) ≡ (N + worth x P == M + worth y P)
equal_more N M P true true n m = elim (cases_eq N M) [
  | inl e ↦ (ap (λ z. z && true) (eq-eqb N M e) ∙ sym (eq-eqb (N + P) (M + P) (omega arith)))
  | inr f ↦ (ap (λ z. z && true) (ne_eqb N M f) ∙ sym (ne_eqb (N + P) (M + P) (λ e. f (omega arith))))
]
equal_more N M P true false n m = none (N == M) ∙ sym (ne_eqb (N + P) (M + 0) (λ e. omega arith)) where
  none : (b : Bool) → (b && false) ≡ false
  none true = refl
  none false = refl
equal_more N M P false true n m = none (N == M) ∙ sym (ne_eqb (N + 0) (M + P) (λ e. omega arith)) where
  none : (b : Bool) → (b && false) ≡ false
  none true = refl
  none false = refl
equal_more N M P false false n m = elim (cases_eq N M) [
  | inl e ↦ (ap (λ z. z && true) (eq-eqb N M e) ∙ sym (eq-eqb (N + 0) (M + 0) (omega arith)))
  | inr f ↦ (ap (λ z. z && true) (ne_eqb N M f) ∙ sym (ne_eqb (N + 0) (M + 0) (λ e. f (omega arith))))
]

pub full_sum : (x y c : Bool) → worth (is_xor (is_xor x y) c) 1 + worth ((x && y) || (is_xor x y && c)) 2 ≡ worth x 1 + worth y 1 + worth c 1
full_sum true true true = refl
full_sum true true false = refl
full_sum true false true = refl
full_sum true false false = refl
full_sum false true true = refl
full_sum false true false = refl
full_sum false false true = refl
full_sum false false false = refl
