use Rattle.std.proofs.Common.{◌<◌, ◌/◌, refl, ap, arith}
use Rattle.std.specs.Prelude.{◌&&◌}
use Rattle.std.proofs.lemmas.Result.{IfOk-weaker}
use Rattle.rtl_logic.specs.Making.{circuit}
use Rattle.datapath.specs.Cycles.{Cycle, Passed, holds, bit}
use Rattle.datapath.specs.Reading as reading
use Rattle.datapath.proofs.Combining.{carries_as}
use Rattle.circuit_context.proofs.Telling.{holds_tells, made_both}
use Rattle.circuit_context.proofs.Standing.{span_there, at_first, at_later}
use Rattle.circuit_context.proofs.context.Context.at_iteration.Goals as goal

pub returns-then-intervals-eq0 : goal.returns-then-intervals-eq0
returns-then-intervals-eq0 c = λ p names h begun.
    let d = circuit c.args.logic.now in
    let e = circuit c.at.new.logic in
    let i = c.args.at.node.0 in
    let t = c.args.at.time in
    let k = c.span.result in
    let same = span_there p names c.args.self.now i k c.node.result.now h c.node.ensures.stands c.span.ensures.value in
    carries_as p names d e 1 c.in_ok-now.now (λ (x : Cycle). bit (reading.at p x i t)) (λ (x : Cycle). bit (reading.at_iteration p x i t))
    (λ x. ap bit (at_first p x i t k same c.if-intervals-eq0.true)) (c.in_ok-now.ensures p names h begun)

pub returns : goal.returns
returns c = λ p names h begun.
    let d = circuit c.args.logic.now in
    let e = circuit c.at.new.logic in
    let f = circuit c.and.new.self in
    let i = c.args.at.node.0 in
    let t = c.args.at.time in
    let k = c.span.result in
    let r = c.in_ok-reached.reached in
    let some : 0 < t / k = omega (arith, c.if-intervals-eq0.false) in
    let same = span_there p names c.args.self.now i k c.node.result.now h c.node.ensures.stands c.span.ensures.value in
    let now = c.in_ok-now.ensures p names h begun in
    let reached = holds_tells p names e r (Passed (t / k)) now.begun refl (c.in_ok-reached.ensures p names h) in
    IfOk-weaker c.and.result _ _
    (λ a made. carries_as p names d f 1 a (λ (x : Cycle). bit (reading.at p x i t && holds x (Passed (t / k)))) (λ (x : Cycle). bit (reading.at_iteration p x i t)) (λ x. ap bit (at_later p x i t k same some))
    (made_both p names d e f c.in_ok-now.now r a (λ (x : Cycle). reading.at p x i t) (λ (x : Cycle). holds x (Passed (t / k))) now reached made))
    (c.and.ensures now.begun.sound now.carries.fits reached.fits)
