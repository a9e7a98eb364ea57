use Rattle.std.proofs.Common.{subst}
use Rattle.rtl_logic.specs.Making.{circuit}
use Rattle.datapath.specs.CircuitWires.Carrying.{Carries}
use Rattle.circuit_units.specs.Demands.Placing.{argument_of}
use Rattle.circuit_units.proofs.DemandsLemmas.Reading.{argument_carries}
use Rattle.circuit_units.proofs.DemandsLemmas.Accessing.{node_inside}
use Rattle.circuit_units.proofs.demands.arguments.arguments.Goals as goal

pub returns : goal.returns
returns c = λ p names context begun.
    let d = circuit c.args.logic.now in
    let it = c.args.it.now in
    let widths = c.constant_widths-second in
    record {
      first = c.in_ok-first_argument.ensures p names context begun;
      second = subst (λ n. Carries p names d n c.in_ok-operand.field-0 (argument_of p it 1)) widths.ensures.second
          (argument_carries p names d widths.result.1 1 it c.argument.result c.in_ok-operand.field-0 c.argument.ensures (c.in_ok-operand.ensures p names context begun));
      third = subst (λ n. Carries p names d n c.in_ok-operand-2.field-0 (argument_of p it 2)) widths.ensures.third
          (argument_carries p names d widths.result.2 2 it c.argument-2.result c.in_ok-operand-2.field-0 c.argument-2.ensures (c.in_ok-operand-2.ensures p names context begun));
    }

pub operand-requires : goal.operand-requires
operand-requires c = node_inside c.args.of.now c.args.it.now c.requires

pub operand-requires-2 : goal.operand-requires-2
operand-requires-2 c = node_inside c.args.of.now c.args.it.now c.requires
