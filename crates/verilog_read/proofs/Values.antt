-- Constants and depths by their digits.
use Rattle.std.proofs.Common.{◌≡◌, inl, inr, ℕ, zero, suc, ◌+◌, ◌-◌, ◌*◌, ◌%◌, ◌^◌, ◌<◌, ◌≤◌, eqb, ltb, cond, false, Some, List, [], ◌∷◌, length, take, drop, get_or, refl, sym, ap, ◌∙◌, arith}
use Rattle.std.specs.Prelude.{min}
use Rattle.std.proofs.lemmas.Bool.{cases_Bool, cases_lt, le-ltb, eqb-true, eq-eqb}
use Rattle.std.proofs.Math.Pow.{pow_mono}
use Rattle.verilog_read.specs.Numbers.{log_from}
use Rattle.std.proofs.lemmas.List.{take-append-drop}
use Rattle.rtl_core.specs.ModuleTokens.{value_behind, digit_value}
use Rattle.verilog_syntax.proofs.Values.{value_append, value_more}

value_grows : (n : ℕ) (xs : List ℕ) → n ≤ value_behind 16 n xs
value_grows n [] = omega arith
value_grows n (x ∷ xs) = let h = value_grows (n * 16 + digit_value x) xs in omega (arith, h)

pub value_at_most : (xs : List ℕ) (i : ℕ) → value_behind 16 0 (take i xs) ≤ value_behind 16 0 xs
value_at_most xs i =
    let e : value_behind 16 0 xs ≡ value_behind 16 (value_behind 16 0 (take i xs)) (drop i xs) = ap (value_behind 16 0) (sym (take-append-drop i xs)) ∙ value_append 16 0 (take i xs) (drop i xs) in
    omega (arith, e, value_grows (value_behind 16 0 (take i xs)) (drop i xs))

pub value_up_to : (v w d l : ℕ) → v ≡ min w l → 1 ≤ l → min (v * 10 + d) l ≡ min (w * 10 + d) l
value_up_to v w d l e h = omega (arith, e)

pub value_too_large : (xs : List ℕ) (i v : ℕ) → i < length xs → v ≡ value_behind 16 0 (take i xs) → (v * 16 + digit_value (get_or xs i 0) < 2 ^ 128 → ⊥) → value_behind 16 0 xs < 2 ^ 128 → ⊥
value_too_large xs i v h e large small =
    let more = value_more 16 xs i h in
    let most = value_at_most xs (i + 1) in
    large (omega (arith, more, most, e))

small_power : (k : ℕ) → k < 17 → 2 ^ k ≤ 65536
small_power k h = pow_mono {i = k} {j = 16} (omega (arith, h))

pub depth_is : (v n k : ℕ) → n ≡ min v 1000000 → k < 17 → n + 1 ≡ 1 * 2 ^ k % 4294967296 → suc v ≡ 2 ^ k
depth_is v n k e h f = omega (arith, small_power k h, e, f)

pub depth_is_not : (v n k : ℕ) → n ≡ min v 1000000 → k < 17 → (n + 1 ≡ 1 * 2 ^ k % 4294967296 → ⊥) → suc v ≡ 2 ^ k → ⊥
depth_is_not v n k e h f g = f (omega (arith, small_power k h, e, g))

log_step : (n k depth : ℕ) → k < 17 → n ≡ 17 - k → log_from n k depth ≡ cond (eqb depth (2 ^ k)) (Some k) (log_from (17 - (k + 1)) (k + 1) depth)
log_step zero k depth h e = absurd (omega (arith, h, e))
log_step (suc n) k depth h e = let m : n ≡ 17 - (k + 1) = omega (arith, h, e) in ap (λ x. cond (eqb depth (2 ^ k)) (Some k) (log_from x (k + 1) depth)) m

pub log_here : (k depth : ℕ) → k < 17 → depth ≡ 2 ^ k → log_from (17 - k) k depth ≡ Some k
log_here k depth h e = log_step (17 - k) k depth h refl ∙ ap (λ b. cond b (Some k) (log_from (17 - (k + 1)) (k + 1) depth)) (eq-eqb depth (2 ^ k) e)

pub log_on : (k depth : ℕ) → k < 17 → (depth ≡ 2 ^ k → ⊥) → log_from (17 - k) k depth ≡ log_from (17 - (k + 1)) (k + 1) depth
log_on k depth h f =
    elim (cases_Bool (eqb depth (2 ^ k))) [
      | inl t ↦ absurd (f (eqb-true _ _ t))
      | inr g ↦ log_step (17 - k) k depth h refl ∙ ap (λ b. cond b (Some k) (log_from (17 - (k + 1)) (k + 1) depth)) g
    ]

pub too_large : (v bits : ℕ) → (v < 2 ^ 128 → ⊥) → false ≡ ltb v (2 ^ min bits 128)
too_large v bits h =
    let p : 2 ^ min bits 128 ≤ 2 ^ 128 = pow_mono {i = min bits 128} {j = 128} (omega arith) in
    elim (cases_lt v (2 ^ 128)) [ inl k ↦ absurd (h k) | inr k ↦ sym (le-ltb v (2 ^ min bits 128) (omega (arith, p, k))) ]
