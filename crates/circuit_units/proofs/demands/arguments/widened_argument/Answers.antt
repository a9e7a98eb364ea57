use Rattle.std.proofs.Common.{◌∙◌, ap}
use Rattle.rtl_logic.specs.Making.{circuit}
use Rattle.ir_core.specs.Bodies.{op_of, first_bits}
use Rattle.circuit_units.specs.Demands.Placing.{trees}
use Rattle.circuit_units.proofs.DemandsLemmas.Making.{width_of_plan, widened_first}
use Rattle.circuit_units.proofs.demands.arguments.widened_argument.Goals as goal

pub returns-then-is_taken_from : goal.returns-then-is_taken_from
returns-then-is_taken_from c = λ p names context begun kind.
    let it = c.args.it.now in
    let from = c.first_width-from.ensures ∙ (ap (λ ws. first_bits ws (trees it.ops.now) (op_of it.op.now) it.op.now.args.items) c.deref.ensures.value ∙ width_of_plan p names c.args.of.now it context) in
    widened_first p names (circuit c.args.logic.now) it c.in_ok-atom.atom c.width.result c.first_width-from.result (c.in_ok-atom.ensures p names context begun) kind c.width.ensures from
    (c.is_taken_from.ensures c.if-is_taken_from.true)
