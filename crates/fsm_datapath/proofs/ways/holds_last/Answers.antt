use Rattle.std.proofs.Common.{◌∙◌, ℕ, ap}
use Rattle.std.specs.Prelude.{not, ◌==◌}
use Rattle.std.proofs.lemmas.Result.{IfOk-weaker}
use Rattle.hls_base.specs.declared.number.NodeId.{NodeId}
use Rattle.rtl_logic.specs.Making.{circuit}
use Rattle.datapath.specs.Cycles.{Cycle}
use Rattle.datapath.specs.Reading.{operand}
use Rattle.circuit_context.specs.Wanted.Entries.{last_operand}
use Rattle.fsm_datapath.proofs.Pushing.{tells_as}
use Rattle.fsm_datapath.proofs.ways.holds_last.Goals as goal

pub returns : goal.returns
returns c = λ p names h begun.
    let d = circuit c.args.logic.now in
    let at = c.last_cycle.result in
    IfOk-weaker c.is_true.result _ _
    (λ a tells. tells_as p names d a (λ (x : Cycle). not (operand p x at.node.0 at.time c.args.test == 0)) (λ (x : Cycle). not (last_operand p c.args.node.0 x c.args.test == 0))
    (λ x. ap (λ (i : NodeId). not (operand p x i.0 at.time c.args.test == 0)) c.last_cycle.ensures.node
    ∙ ap (λ (t : ℕ). not (operand p x c.args.node.0 t c.args.test == 0)) (c.last_cycle.ensures.time p names h)) tells) (c.is_true.ensures p names h begun)
