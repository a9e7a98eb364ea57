use Rattle.std.proofs.lemmas.Result.{IfOk-weaker}
use Rattle.rtl_logic.specs.Making.{circuit}
use Rattle.circuit_units.proofs.DemandsLemmas.Reading.{argument_carries}
use Rattle.circuit_units.proofs.DemandsLemmas.Making.{narrow_first, other_first}
use Rattle.circuit_units.proofs.DemandsLemmas.Accessing.{node_inside}
use Rattle.circuit_units.proofs.demands.arguments.first_argument.Goals as goal

pub returns-in-Narrow : goal.returns-in-Narrow
returns-in-Narrow c = λ p names context begun.
    IfOk-weaker c.argument_of_any_width.result _ _ (λ a word. narrow_first p names (circuit c.args.logic.now) c.args.it.now a word c.in-Narrow.is) (c.argument_of_any_width.ensures p names context begun)

pub returns-in_default : goal.returns-in_default
returns-in_default c = λ p names context begun.
    let d = circuit c.args.logic.now in
    IfOk-weaker c.operand.result _ _
    (λ a h.
    other_first p names d c.args.it.now a c.constant_widths.result.0 c.in_default.not-Widen c.in_default.not-Narrow c.constant_widths.ensures.first
    (argument_carries p names d c.constant_widths.result.0 0 c.args.it.now c.argument.result a c.argument.ensures h))
    (c.operand.ensures p names context begun)

pub operand-requires : goal.operand-requires
operand-requires c = node_inside c.args.of.now c.args.it.now c.requires
