use Rattle.std.proofs.Common.{◌≡◌, ◌∙◌, OnOk, Some, sym, ap, subst}
use Rattle.clock_ir.specs.Flows.{timed_body}
use Rattle.clock_ir.specs.ClockRuns.{TimedNode, block, overlapped, timed_node}
use Rattle.rtl_logic.specs.Making.{circuit}
use Rattle.datapath.specs.Cycles.{Cycle}
use Rattle.datapath.specs.Control.{leaves_as}
use Rattle.datapath.specs.CircuitWires.Carrying.{Tells}
use Rattle.circuit_context.specs.Wanted.Entries.{ways_as}
use Rattle.circuit_context.specs.Wanted.Logs.{Logs}
use Rattle.fsm_datapath.proofs.Standing.{same_node}
use Rattle.fsm_datapath.proofs.ways.write_ways.Goals as goal

pub returns-in-Plain : goal.returns-in-Plain
returns-in-Plain c = λ p names n h begun stands leaving.
    let i = c.args.leaving.node.0 in
    let d = circuit c.args.logic.now in
    let b = c.in-Plain.block in
    let body = timed_body b.length b.body in
    let same : block body b.end ≡ n = ap timed_node (sym c.in-Plain.is) ∙ same_node p i (timed_node c.node_at.result.now) n (c.node_at.ensures.timed p names h) stands in
    let leaving_ = subst (λ (m : TimedNode). Tells p names d c.args.leaving.when (λ (x : Cycle). leaves_as p x i m)) (sym same) leaving in
    subst
    (λ (m : TimedNode). OnOk c.write_end.result (Logs p names d (circuit c.write_end.new.logic) c.args.log.now.pushes.items c.write_end.new.log.pushes.items (ways_as p (i, m) m))) same
    (c.write_end.ensures p names body h begun (stands ∙ ap Some (sym same)) leaving_)

pub returns-in-Looped : goal.returns-in-Looped
returns-in-Looped c = λ p names n h begun stands leaving.
    let i = c.args.leaving.node.0 in
    let d = circuit c.args.logic.now in
    let r = c.in-Looped.region in
    let same : overlapped (timed_body r.ii r.body) r.exit r.next.0 ≡ n = ap timed_node (sym c.in-Looped.is) ∙ same_node p i (timed_node c.node_at.result.now) n (c.node_at.ensures.timed p names h) stands in
    let leaving_ = subst (λ (m : TimedNode). Tells p names d c.args.leaving.when (λ (x : Cycle). leaves_as p x i m)) (sym same) leaving in
    subst (λ (m : TimedNode). OnOk c.enter.result (Logs p names d d c.args.log.now.pushes.items c.enter.new.log.pushes.items (ways_as p (i, m) m))) same
    (c.enter.ensures p names d (λ (x : Cycle). leaves_as p x i (overlapped (timed_body r.ii r.body) r.exit r.next.0)) begun leaving_)
