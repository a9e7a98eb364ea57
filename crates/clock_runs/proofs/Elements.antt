-- Elements within their dimensions have different addresses.
use Rattle.std.proofs.Common.{◌≡◌, ℕ, ◌+◌, ◌*◌, ◌%◌, ◌/◌, ◌^◌, ◌<◌, ◌≤◌, true, List, [], ◌∷◌, length, sym, refl, ap, ◌∙◌, subst, arith}
use Rattle.std.specs.Prelude.{nat_lt}
use Rattle.std.proofs.Math.Nat.{mod-eq_of_lt}
use Rattle.std.proofs.lemmas.Nat.{pow-add, pow_pos, mul-add-lt, mod_below}
use Rattle.std.proofs.lemmas.Bool.{and_parts, ltb-true}
use Rattle.hls_base.specs.ArrayAddress.{subscript_bits, address_bits}
use Rattle.ir_core.proofs.Rising.{short-fits}
use Rattle.ir_core.specs.Bodies.{address_of, is_within}
use Rattle.clock_runs.specs.Premises.{Each}
use Rattle.clock_runs.proofs.Numbers.{quotient}

-- equal, as far as both lists go
abbrev pub Agree : List ℕ → List ℕ → Type 0
Agree [] ys = Unit {0}
Agree (x ∷ xs) [] = Unit {0}
Agree (x ∷ xs) (y ∷ ys) = (x ≡ y) × Agree xs ys

address_below : (dims subs : List ℕ) → address_of dims subs < 2 ^ address_bits dims
address_below [] subs = omega arith
address_below (len ∷ dims) [] = pow_pos (subscript_bits len + address_bits dims)
address_below (len ∷ dims) (i ∷ subs) =
    let low : i % 2 ^ subscript_bits len < 2 ^ subscript_bits len = mod_below i (2 ^ subscript_bits len) (pow_pos (subscript_bits len)) in
    let both = mul-add-lt (i % 2 ^ subscript_bits len) (2 ^ address_bits dims) (address_of dims subs) (2 ^ subscript_bits len) low (address_below dims subs) in
    let power = pow-add 2 (subscript_bits len) (address_bits dims) in
    let turned : 2 ^ address_bits dims * 2 ^ subscript_bits len ≡ 2 ^ subscript_bits len * 2 ^ address_bits dims = omega arith in
    subst (λ p. (i % 2 ^ subscript_bits len) * 2 ^ address_bits dims + address_of dims subs < p) (turned ∙ sym power) both

first_same : (i j w a b : ℕ) → a < w → b < w → i * w + a ≡ j * w + b → (i ≡ j) × (a ≡ b)
first_same i j w a b p q e =
    let same : i ≡ j = sym (quotient (i * w + a) i w a refl p) ∙ ap (λ x. x / w) e ∙ quotient (j * w + b) j w b refl q in
    let rows : i * w ≡ j * w = ap (λ x. x * w) same in
    (same, omega arith)

own_bits : (len i : ℕ) → len ≤ 65536 → nat_lt i len ≡ true → i % 2 ^ subscript_bits len ≡ i
own_bits len i short on =
    let fits = short-fits len short in
    let low = ltb-true i len on in
    let less : i < 2 ^ subscript_bits len = omega arith in
    mod-eq_of_lt less

pub subscripts_agree : (dims xs ys : List ℕ) → Each (λ len. len ≤ 65536) dims → length xs ≤ length dims → is_within dims xs ≡ true → is_within dims ys ≡ true → address_of dims xs ≡ address_of dims ys → Agree xs ys
subscripts_agree dims [] ys short few a b e = tt
subscripts_agree [] (x ∷ xs) ys short few a b e = absurd (omega arith)
subscripts_agree (len ∷ dims) (x ∷ xs) [] short few a b e = tt
subscripts_agree (len ∷ dims) (x ∷ xs) (y ∷ ys) short few a b e =
    let first = and_parts (nat_lt x len) (is_within dims xs) a in
    let second = and_parts (nat_lt y len) (is_within dims ys) b in
    let split = first_same (x % 2 ^ subscript_bits len) (y % 2 ^ subscript_bits len) (2 ^ address_bits dims) (address_of dims xs) (address_of dims ys) (address_below dims xs) (address_below dims ys) e in
    (sym (own_bits len x short.0 first.0) ∙ split.0 ∙ own_bits len y short.0 second.0, subscripts_agree dims xs ys short.1 (omega arith) first.1 second.1 split.1)
