use Rattle.std.proofs.Common.{◌≡◌, ◌+◌, ◌<◌, ℕ, List, [], ◌∷◌, ◌++◌, length, suc, zero, refl, sym, ap, ◌∙◌, arith}
use Rattle.std.specs.Prelude.{slice_get, slice_index, Some, map}
use Rattle.std.proofs.lemmas.List.{get_or-drop}
use Rattle.rtl_core.specs.declared.design.Pin.{Pin}
use Rattle.rtl_core.specs.Interface.{Interface, input_pins, argument_pins}
use Rattle.datapath.proofs.plan_sizes.laws.pins_in_order.Goals as goal

argument_bits : (from : ℕ) (scalars : List ℕ) (k : ℕ) → k < length scalars → slice_get (map (λ (p : Pin). p.bits) (argument_pins from scalars)) k ≡ Some (slice_index scalars k)
argument_bits from [] k low = absurd (omega arith)
argument_bits from (bits ∷ scalars) zero low = refl
argument_bits from (bits ∷ scalars) (suc k) low = argument_bits (suc from) scalars k (omega arith)

slice_get-past : (xs ys : List ℕ) (k : ℕ) → slice_get (xs ++ ys) (length xs + k) ≡ slice_get ys k
slice_get-past [] ys k = let e : 0 + k ≡ k = omega arith in ap (slice_get ys) e
slice_get-past (x ∷ xs) ys k = let e : suc (length xs) + k ≡ suc (length xs + k) = omega arith in ap (slice_get (x ∷ xs ++ ys)) e ∙ slice_get-past xs ys k

later_bits : (i : Interface) (k : ℕ) → slice_get (map (λ (p : Pin). p.bits) (input_pins i)) (7 + k) ≡ slice_get (map (λ (p : Pin). p.bits) (argument_pins 0 i.scalars)) k
later_bits i k = slice_get-past (1 ∷ 1 ∷ 1 ∷ 1 ∷ 5 ∷ 16 ∷ 64 ∷ []) (map (λ (p : Pin). p.bits) (argument_pins 0 i.scalars)) k

pub returns-clause-arguments : goal.returns-clause-arguments
returns-clause-arguments c = record {
  fits = λ d i k e low. ap (λ (ps : List Pin). slice_get (map (λ (p : Pin). p.bits) ps) (7 + k)) e ∙ (later_bits i k ∙ argument_bits 0 i.scalars k low);
  shows = λ d s pins k. sym (get_or-drop 7 pins k 0);
}
