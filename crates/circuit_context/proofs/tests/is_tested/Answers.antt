use Rattle.std.proofs.Common.{true, false, ap}
use Rattle.std.proofs.lemmas.Result.{IfOk-weaker}
use Rattle.rtl_logic.specs.Making.{circuit}
use Rattle.datapath.specs.Cycles.{Cycle, bit}
use Rattle.datapath.specs.Reading as reading
use Rattle.datapath.specs.Control as control
use Rattle.datapath.proofs.Combining.{carries_as, there_already}
use Rattle.circuit_context.proofs.Gates.{test_is, known_there, not_tested, tested_at}
use Rattle.circuit_context.proofs.tests.is_tested.Goals as goal

pub returns-then-not-has_test : goal.returns-then-not-has_test
returns-then-not-has_test c = λ p names h begun.
    let d = circuit c.args.logic.now in
    let a = c.constant_bit.result in
    let i = c.args.node.0 in
    let n = c.node-itself.result.now in
    let none = test_is p names c.args.of.now i n c.body_of.result.now c.has_test.result false h c.node-itself.ensures.stands c.body_of.ensures c.has_test.ensures c.if-not-has_test.true in
    carries_as p names d d 1 a (λ (x : Cycle). bit false) (λ (x : Cycle). bit (control.is_tested p x i)) (λ x. ap bit (not_tested p x i none))
    (there_already p names d 1 a (λ (x : Cycle). bit false) begun (c.constant_bit.ensures p names d))

pub returns : goal.returns
returns c = λ p names h begun.
    let d = circuit c.args.logic.now in
    let e = circuit c.at_iteration.new.logic in
    let i = c.args.node.0 in
    let t = c.known_at-time.result in
    let n = c.node-itself.result.now in
    let some = test_is p names c.args.of.now i n c.body_of.result.now c.has_test.result true h c.node-itself.ensures.stands c.body_of.ensures c.has_test.ensures c.if-not-has_test.false in
    let time = known_there p names c.args.of.now i t n h c.node-itself.ensures.stands c.known_at-time.ensures in
    IfOk-weaker c.at_iteration.result _ _
    (λ a made. carries_as p names d e 1 a (λ (x : Cycle). bit (reading.at_iteration p x i t)) (λ (x : Cycle). bit (control.is_tested p x i)) (λ x. ap bit (tested_at p x i t some time)) made)
    (c.at_iteration.ensures p names h begun)
