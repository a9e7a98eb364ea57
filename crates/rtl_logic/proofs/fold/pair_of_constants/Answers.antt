use Rattle.std.proofs.Common.{ℕ, ◌≡◌, ◌<◌, ◌%◌, ◌^◌, ◌∙◌, ap, sym, subst}
use Rattle.rtl_core.specs.declared.design.Atom.TheVariants as atom
use Rattle.rtl_core.specs.declared.design.Pair.{Pair}
use Rattle.rtl_core.specs.ClockStep.{pair_value}
use Rattle.rtl_core.specs.Valid.{OperandsFit}
use Rattle.rtl_logic.proofs.Folding.{cut_again, subtracted, both_bits, some_bits, one_of_bits, one_bit, shifted}
use Rattle.rtl_logic.proofs.fold.pair_of_constants.Goals as goal
use Rattle.rtl_logic.proofs.fold.pair_of_constants.Goals.{in-Add, in-Sub, in-Mul, in-And, in-Or, in-Xor, in-Equal, in-Below, in-Left, in-Right}

pub returns : goal.returns
returns c =
    λ between fits.
    let n = c.args.bits in
    let x = c.args.left in
    let y = c.args.right in
    let low : ℕ → ℕ = λ v. v % 2 ^ n in
    let value : Pair → ℕ = λ p. pair_value p n x y in
    let fit : (p : Pair) → c.args.pair ≡ p → OperandsFit p n (λ m. x < 2 ^ m) (λ m. y < 2 ^ m) = λ p e. subst (λ q. OperandsFit q n (λ m. x < 2 ^ m) (λ m. y < 2 ^ m)) e fits in
    c.constant.ensures
    ∙ ap (λ v. atom.Constant n v)
    (elim c.match-pair.branch [
      | in-Add w ↦ ap low w.value-is ∙ cut_again n _ between.1 ∙ ap value (sym w.in-Add.is)
      | in-Sub w ↦ ap low w.value-is ∙ subtracted n x y between.1 (fit _ w.in-Sub.is).1 ∙ ap value (sym w.in-Sub.is)
      | in-Mul w ↦ ap low w.value-is ∙ cut_again n _ between.1 ∙ ap value (sym w.in-Mul.is)
      | in-And w ↦ ap low w.value-is ∙ both_bits n x y (fit _ w.in-And.is).0 (fit _ w.in-And.is).1 ∙ ap value (sym w.in-And.is)
      | in-Or w ↦ ap low w.value-is ∙ some_bits n x y (fit _ w.in-Or.is).0 (fit _ w.in-Or.is).1 ∙ ap value (sym w.in-Or.is)
      | in-Xor w ↦ ap low w.value-is ∙ one_of_bits n x y (fit _ w.in-Xor.is).0 (fit _ w.in-Xor.is).1 ∙ ap value (sym w.in-Xor.is)
      | in-Equal w ↦ ap low w.value-is ∙ one_bit n _ (fit _ w.in-Equal.is).0 ∙ ap value (sym w.in-Equal.is)
      | in-Below w ↦ ap low w.value-is ∙ one_bit n _ (fit _ w.in-Below.is).0 ∙ ap value (sym w.in-Below.is)
      | in-Left w ↦ ap low (w.value-is ∙ w.shifted_left-value.ensures) ∙ cut_again n _ between.1 ∙ ap value (sym w.in-Left.is)
      | in-Right w ↦ ap low (w.value-is ∙ w.shifted_right-value.ensures) ∙ shifted n x y (fit _ w.in-Right.is).0 ∙ ap value (sym w.in-Right.is)
    ])
