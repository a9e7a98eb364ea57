-- Comparisons of patterns and of the numbers that they stand for.
use Rattle.std.proofs.Common.{◌≡◌, ◌≤◌, ◌<◌, ◌-◌, ◌^◌, ℕ, zero, suc, Bool, true, false, ℤ, pos, ◌+ℤ◌, refl, sym, ap, ◌∙◌, arith}
use Rattle.std.specs.Prelude.{◌==◌, not, nat_lt, int_lt, int_le, if◌then◌else◌, bit_xor}
use Rattle.std.proofs.lemmas.Bool.{ltb-true, ltb-false}
use Rattle.std.proofs.lemmas.Int.{ints}
use Rattle.ir_core.specs.Value.{number_of, chosen, truth}
use Rattle.rtl_core.specs.ClockStep.{bit_of}
use Rattle.rtl_logic.proofs.Patterns.{itself}
use Rattle.rtl_logic.proofs.Signs.{turned_is}

pub bit_truth : (b : Bool) → bit_of b ≡ truth b
bit_truth true = refl
bit_truth false = refl

pub bit_not : (b : Bool) → 2 ^ 1 - 1 - bit_of b ≡ truth (not b)
bit_not true = refl
bit_not false = refl

pub truth_not : (b : Bool) → 2 ^ 1 - 1 - truth b ≡ truth (not b)
truth_not true = refl
truth_not false = refl

-- numbers that are moved alike keep their order
same_order : (a b k : ℕ) (z w : ℤ) → z +ℤ pos k ≡ pos a → w +ℤ pos k ≡ pos b → nat_lt a b ≡ int_lt z w
same_order a b k z w e f = by (nat_lt a b) refl (int_lt z w) refl where
  by : (s : Bool) → nat_lt a b ≡ s → (t : Bool) → int_lt z w ≡ t → s ≡ t
  by true p true q = refl
  by false p false q = refl
  by true p false q = absurd (omega (arith, ints, ltb-true a b p))
  by false p true q = absurd (omega (arith, ints, ltb-false a b p))

pub below_signed : (n x y : ℕ) → 1 ≤ n → n ≤ 64 → x < 2 ^ n → y < 2 ^ n
    → bit_of (nat_lt (bit_xor x (2 ^ (n - 1))) (bit_xor y (2 ^ (n - 1)))) ≡ truth (int_lt (number_of true n x) (number_of true n y))
below_signed n x y some h p q =
    ap bit_of (same_order (bit_xor x (2 ^ (n - 1))) (bit_xor y (2 ^ (n - 1))) (2 ^ (n - 1)) (number_of true n x) (number_of true n y) (turned_is n x some h p) (turned_is n y some h q))
    ∙ bit_truth (int_lt (number_of true n x) (number_of true n y))

pub below_unsigned : (x y : ℕ) → bit_of (nat_lt x y) ≡ truth (int_lt (pos x) (pos y))
below_unsigned x y = bit_truth (nat_lt x y)

at_most : (x y : ℤ) → not (int_lt y x) ≡ int_le x y
at_most x y = by (int_lt y x) refl (int_le x y) refl where
  by : (s : Bool) → int_lt y x ≡ s → (t : Bool) → int_le x y ≡ t → not s ≡ t
  by true p false q = refl
  by false p true q = refl
  by true p true q = absurd (omega (arith, ints))
  by false p false q = absurd (omega (arith, ints))

pub not_above : (x y : ℤ) → 2 ^ 1 - 1 - truth (int_lt y x) ≡ truth (int_le x y)
not_above x y = truth_not (int_lt y x) ∙ ap truth (at_most x y)

-- ---- choices

pub chosen_is : (n t x y : ℕ) → n ≤ 64 → t < 2 ^ 1 → x < 2 ^ n → y < 2 ^ n → (if t == 1 then x else y) ≡ chosen n t x y
chosen_is n zero x y h b p q = sym (itself n y h q)
chosen_is n (suc zero) x y h b p q = sym (itself n x h p)
chosen_is n (suc (suc t)) x y h b p q = absurd (omega (arith, b))
