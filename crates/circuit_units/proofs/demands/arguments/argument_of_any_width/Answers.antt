use Rattle.rtl_logic.specs.Making.{circuit}
use Rattle.circuit_units.proofs.DemandsLemmas.Making.{word_read}
use Rattle.circuit_units.proofs.DemandsLemmas.Accessing.{node_inside}
use Rattle.circuit_units.proofs.demands.arguments.argument_of_any_width.Goals as goal

pub returns-then-width-le64 : goal.returns-then-width-le64
returns-then-width-le64 c = λ p names context begun.
    word_read p names (circuit c.args.logic.now) c.args.it.now c.argument.result c.in_ok-atom.atom c.width-width.result c.argument.ensures (c.in_ok-atom.ensures p names context begun) c.width-width.ensures
    c.if-width-ge1.true c.if-width-le64.true

pub operand_of_any_width-requires : goal.operand_of_any_width-requires
operand_of_any_width-requires c = node_inside c.args.of.now c.args.it.now c.requires
