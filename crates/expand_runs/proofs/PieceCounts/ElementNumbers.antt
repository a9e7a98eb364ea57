-- The subscripts that are made for the element with a number lead to it.
use Rattle.std.proofs.Common.{◌≡◌, ℕ, zero, suc, ◌*◌, ◌/◌, ◌%◌, ◌^◌, ◌<◌, ◌≤◌, ◌∙◌, sym, refl, ap, ap₂, inl, inr, List, [], ◌∷◌, map, pos, ◌-ℤ◌, Option, Some, None, arith, if◌then◌else◌}
use Rattle.std.proofs.lemmas.Bool.{cases_lt, lt-ltb}
use Rattle.std.proofs.Math.Nat.{mod-lt, mod-le, mod-one, mod-eq_of_lt, max-eq_left, div-le_self}
use Rattle.std.proofs.Math.Arith.{mod-mul}
use Rattle.hls_base.specs.ArrayAddress.{element_count}
use Rattle.c_value.specs.Values.{int_type, number_of}
use Rattle.c_meaning.specs.Store.{element_place, subscript_in, place_in_rows}
use Rattle.c_expand.specs.Statements.{at_least_one}
use Rattle.expand_runs.specs.Subscripts.{numbers_at, SubscriptsLead}

-- both factors of a product that is positive are so
first_factor : (a b : ℕ) → 0 < a * b → 0 < a
first_factor zero b h = absurd (omega (arith, h))
first_factor (suc a) b h = omega arith

second_factor : (a b : ℕ) → 0 < a * b → 0 < b
second_factor a b h = elim (cases_lt 0 b) [
  | inl lt ↦ lt
  | inr ge ↦ absurd (let none : b ≡ 0 = omega (arith, ge) in let e : a * b ≡ a * 0 = ap (λ z. a * z) none in omega (arith, h, e))
]

one_at_least : (n : ℕ) → 0 < n → at_least_one n ≡ n
one_at_least n h = max-eq_left (let le : 1 ≤ n = omega (arith, h) in le)

same_lengths : (lengths : List ℕ) → 0 < element_count lengths → map at_least_one lengths ≡ lengths
same_lengths [] h = refl
same_lengths (len ∷ lengths) h =
    ap₂ (λ (x : ℕ) (xs : List ℕ). x ∷ xs) (one_at_least len (first_factor len (element_count lengths) h)) (same_lengths lengths (second_factor len (element_count lengths) h))

int_number : (i : ℕ) → i < 2 ^ 31 → number_of int_type i ≡ pos i
int_number i lt = ap (λ b. if b then pos i else (pos i -ℤ pos (2 ^ 32))) (lt-ltb i (2 ^ 31) lt)

found_in : (i len : ℕ) → i < len → subscript_in (pos i) len ≡ Some i
found_in i len lt = ap (λ b. if b then Some i else None) (lt-ltb i len lt)

-- Each subscript is a number of int where the element's is.
place_at : (lengths : List ℕ) (n : ℕ) → n < 2 ^ 31 → 0 < element_count lengths → element_place lengths (numbers_at lengths n) ≡ Some (n % element_count lengths)
place_at [] n small some = ap Some (sym (mod-one n))
place_at (len ∷ lengths) n small some =
    let count = element_count lengths in
    let long = first_factor len count some in
    let inner = second_factor len count some in
    let i = (n / count) % len in
    let below : i < len = mod-lt (n / count) long in
    let le : i ≤ n / count = mod-le (n / count) len in
    let le2 : n / count ≤ n = div-le_self n count in
    let made : (n / element_count (map at_least_one lengths)) % at_least_one len ≡ i = ap₂ (λ (ls : List ℕ) (m : ℕ). (n / element_count ls) % m) (same_lengths lengths inner) (one_at_least len long) in
    let first : subscript_in (number_of int_type ((n / element_count (map at_least_one lengths)) % at_least_one len)) len ≡ Some i =
    ap (λ z. subscript_in (number_of int_type z) len) made ∙ ap (λ z. subscript_in z len) (int_number i (omega (arith, le, le2, small))) ∙ found_in i len below in
    ap₂ (λ (x y : Option ℕ). place_in_rows x lengths y) first (place_at lengths n small inner) ∙ ap Some (sym (mod-mul n long inner))

pub element_at_number : SubscriptsLead
element_at_number lengths n lt few = place_at lengths n (omega (arith, lt, few)) (omega (arith, lt)) ∙ ap Some (mod-eq_of_lt lt)
