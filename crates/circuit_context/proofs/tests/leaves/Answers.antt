use Rattle.std.proofs.Common.{◌-◌, slice_get, ap}
use Rattle.std.proofs.lemmas.Result.{IfOk-weaker}
use Rattle.rtl_logic.specs.Making.{circuit}
use Rattle.datapath.specs.Cycles.{Cycle, bit}
use Rattle.datapath.specs.Reading as reading
use Rattle.datapath.specs.Control as control
use Rattle.datapath.proofs.Combining.{carries_as}
use Rattle.circuit_context.proofs.Standing.{span_there}
use Rattle.circuit_context.proofs.Gates.{block_left, loop_left}
use Rattle.circuit_context.proofs.tests.leaves.Goals as goal

pub returns-in-Plain : goal.returns-in-Plain
returns-in-Plain c = λ p names h begun.
    let i = c.args.node.0 in
    let k = c.span-time.result in
    let n = c.node-itself.result.now in
    let same = span_there p names c.args.of.now i k n h c.node-itself.ensures.stands c.span-time.ensures.value in
    IfOk-weaker c.at.result _ _
    (λ a made. carries_as p names (circuit c.args.logic.now) (circuit c.at.new.logic) 1 a (λ (x : Cycle). bit (reading.at p x i (k - 1))) (λ (x : Cycle). bit (control.leaves_if p x i (slice_get p.program.nodes i)))
    (λ x. ap bit (block_left p names c.args.of.now x i k n c.in-Plain.field-0 h c.node-itself.ensures.stands c.in-Plain.is same)) made) (c.at.ensures p names h begun)

pub returns-in-Looped : goal.returns-in-Looped
returns-in-Looped c = λ p names h begun.
    let i = c.args.node.0 in
    let w = c.cycles_after_test-wait.result in
    let n = c.node-itself.result.now in
    let r = c.in-Looped.region in
    IfOk-weaker c.leaves_loop.result _ _
    (λ a made. carries_as p names (circuit c.args.logic.now) (circuit c.leaves_loop.new.logic) 1 a (λ (x : Cycle). bit (control.leaves_loop p x i w))
    (λ (x : Cycle). bit (control.leaves_if p x i (slice_get p.program.nodes i))) (λ x. ap bit (loop_left p names c.args.of.now x i w n r h c.node-itself.ensures.stands c.in-Looped.is (c.cycles_after_test-wait.ensures r.ii))) made)
    (c.leaves_loop.ensures p names h begun)
