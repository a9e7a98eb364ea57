use Rattle.std.proofs.Common.{subst, IfOk}
use Rattle.std.proofs.lemmas.Result.{IfOk-weaker}
use Rattle.ir_core.specs.declared.body.Operand.{Operand}
use Rattle.rtl_logic.specs.Making.{circuit}
use Rattle.datapath.specs.Cycles.{Cycle}
use Rattle.datapath.specs.Reading as reading
use Rattle.circuit_context.specs.Wanted.Logs.{CarriesSome}
use Rattle.fsm_datapath.proofs.Outs.{out_inside, out_near}
use Rattle.fsm_datapath.proofs.ends.exit_value.Goals as goal

pub returns : goal.returns
returns c = λ p names h begun.
    subst (λ (x : Operand). IfOk c.operand.result (λ a. CarriesSome p names (circuit c.args.logic.now) a (λ (y : Cycle). reading.operand p y c.args.exit.node.0 c.args.exit.time x))) c.later.ensures
    (IfOk-weaker c.operand.result _ _ (λ a carries. record { bits = c.in_ok-bits.bits; carries = carries }) (c.operand.ensures p names h begun))

pub later-requires : goal.later-requires
later-requires c = out_near c.args.of.now c.args.exit.node.0 c.args.out c.requires

pub operand-requires : goal.operand-requires
operand-requires c = out_inside c.args.of.now c.args.exit.node.0 c.args.out c.requires
