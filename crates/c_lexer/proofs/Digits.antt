-- Values of rows of digits.
use Rattle.std.proofs.Common.{◌≡◌, ℕ, ◌+◌, ◌*◌, ◌^◌, ◌<◌, ◌≤◌, ◌∙◌, sym, refl, ap, subst, List, [], ◌∷◌, ◌++◌, length, take, drop, get_or, arith}
use Rattle.std.specs.Str.Parse.{digits_value, digits_value_after}
use Rattle.std.specs.Char.{digit_value}
use Rattle.std.proofs.lemmas.List.{take-append-drop}
use Rattle.std.proofs.lemmas.Int.Digits.{digits_value_more}
use Rattle.std.proofs.Math.Nat.{mul-le-mul_left}
use Rattle.std.proofs.Math.Pow.{pow_mono}

after-append : (r n : ℕ) (xs ys : List ℕ) → digits_value_after r n (xs ++ ys) ≡ digits_value_after r (digits_value_after r n xs) ys
after-append r n [] ys = refl
after-append r n (x ∷ xs) ys = after-append r (n * r + digit_value x) xs ys

after-ge : (r n : ℕ) (ds : List ℕ) → 1 ≤ r → n ≤ digits_value_after r n ds
after-ge r n [] some = omega arith
after-ge r n (d ∷ ds) some =
    let more : n ≤ n * r + digit_value d = omega (arith, mul-le-mul_left n some) in
    let rest : n * r + digit_value d ≤ digits_value_after r (n * r + digit_value d) ds = after-ge r (n * r + digit_value d) ds some in
    omega arith

-- the value of a front is not greater
pub front_value : (r i : ℕ) (ds : List ℕ) → 1 ≤ r → digits_value r (take i ds) ≤ digits_value r ds
front_value r i ds some =
    let e : digits_value r ds ≡ digits_value_after r (digits_value r (take i ds)) (drop i ds) =
    ap (digits_value r) (sym (take-append-drop i ds)) ∙ after-append r 0 (take i ds) (drop i ds) in
    let g : digits_value r (take i ds) ≤ digits_value_after r (digits_value r (take i ds)) (drop i ds) =
    after-ge r (digits_value r (take i ds)) (drop i ds) some in
    omega arith

pub below_power : (v n : ℕ) → v < 2 ^ 64 → 64 ≤ n → v < 2 ^ n
below_power v n small up = let p : 2 ^ 64 ≤ 2 ^ n = pow_mono up in omega arith

-- one more digit
pub value_on : (r i v : ℕ) (ds : List ℕ) → i < length ds → v ≡ digits_value r (take i ds) → v * r + digit_value (get_or ds i 0) ≡ digits_value r (take (i + 1) ds)
value_on r i v ds below e = ap (λ x. x * r + digit_value (get_or ds i 0)) e ∙ sym (digits_value_more r ds i below)

pub value_too_large : (r i v : ℕ) (ds : List ℕ) → 1 ≤ r → i < length ds → v ≡ digits_value r (take i ds) → (v * r + digit_value (get_or ds i 0) < 2 ^ 64 → ⊥) → digits_value r ds < 2 ^ 64 → ⊥
value_too_large r i v ds some below e large small =
    let on : v * r + digit_value (get_or ds i 0) ≡ digits_value r (take (i + 1) ds) = value_on r i v ds below e in
    let front : digits_value r (take (i + 1) ds) ≤ digits_value r ds = front_value r (i + 1) ds some in
    large (subst (λ x. x < 2 ^ 64) (sym on) (omega arith))
