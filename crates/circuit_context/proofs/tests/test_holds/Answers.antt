use Rattle.std.proofs.Common.{ap}
use Rattle.std.proofs.lemmas.Result.{IfOk-weaker}
use Rattle.rtl_logic.specs.Making.{circuit}
use Rattle.datapath.specs.Cycles.{Cycle, bit}
use Rattle.datapath.specs.Reading as reading
use Rattle.datapath.specs.Control as control
use Rattle.circuit_context.proofs.Telling.{same_carries}
use Rattle.circuit_context.proofs.Gates.{test_there, known_there, holds_at}
use Rattle.circuit_context.proofs.tests.test_holds.Goals as goal

pub returns : goal.returns
returns c = λ p names h begun.
    let d = circuit c.args.logic.now in
    let i = c.args.node.0 in
    let t = c.known_at-time.result in
    let n = c.node-itself.result.now in
    let b = c.body_of.result.now in
    let time = known_there p names c.args.of.now i t n h c.node-itself.ensures.stands c.known_at-time.ensures in
    let test = test_there p names c.args.of.now i n b h c.node-itself.ensures.stands c.body_of.ensures in
    IfOk-weaker c.is_true.result _ _
    (λ a tells. same_carries p names d 1 a (λ (x : Cycle). bit (reading.is_true p x i t b.test)) (λ (x : Cycle). bit (control.test_holds p x i)) (λ x. ap bit (holds_at p x i t b.test time test)) tells)
    (c.is_true.ensures p names h begun)
