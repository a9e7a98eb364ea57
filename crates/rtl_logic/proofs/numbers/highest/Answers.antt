use Rattle.std.proofs.Common.{◌%◌, ◌^◌, ◌∙◌, ap, arith}
use Rattle.rtl_core.specs.declared.design.Atom.TheVariants as atom
use Rattle.rtl_logic.proofs.Signs.{highest_is}
use Rattle.rtl_logic.proofs.numbers.highest.Goals as goal
use Rattle.rtl_logic.proofs.numbers.highest.Goals.{then-top-lt128, else-top-lt128}

pub returns : goal.returns
returns c = λ between. elim c.if-top-lt128.branch [
  | then-top-lt128 w ↦ c.constant.ensures
      ∙ ap (λ v. atom.Constant c.args.bits v) (ap (λ v. v % 2 ^ c.args.bits) w.value-is ∙ highest_is c.args.bits c.saturating_sub-top.result between.0 between.1 c.saturating_sub-top.ensures)
  | else-top-lt128 w ↦ absurd (omega (arith, w.if-top-lt128.false, c.saturating_sub-top.ensures, between.1))
]
