use Rattle.std.proofs.Common.{refl, ap, arith}
use Rattle.std.specs.Prelude.{◌==◌, ◌&&◌, ◌%◌, ◌<◌}
use Rattle.std.proofs.lemmas.Result.{IfOk-weaker}
use Rattle.rtl_logic.specs.Making.{circuit}
use Rattle.rtl_logic.proofs.Making.{appended, fits_later}
use Rattle.datapath.specs.Cycles.{Cycle, Active, Time, holds, bit}
use Rattle.datapath.specs.Reading as reading
use Rattle.datapath.proofs.Combining.{carries_as, there_already}
use Rattle.circuit_context.proofs.Telling.{holds_tells, both_tell}
use Rattle.circuit_context.proofs.Standing.{span_there, at_each, at_counted}
use Rattle.circuit_context.proofs.context.Context.at.Goals as goal

pub returns-then-cycles-le1 : goal.returns-then-cycles-le1
returns-then-cycles-le1 c = λ p names h begun.
    let d = circuit c.args.logic.now in
    let i = c.args.at.node.0 in
    let k = c.span-cycles.result in
    let a = c.in_ok-active.active in
    let same = span_there p names c.args.self.now i k c.node.result.now h c.node.ensures.stands c.span-cycles.ensures.value in
    let active = holds_tells p names d a (Active i) begun refl (c.in_ok-active.ensures p names h) in
    carries_as p names d d 1 a (λ (x : Cycle). bit (holds x (Active i))) (λ (x : Cycle). bit (reading.at p x i c.args.at.time)) (λ x. ap bit (at_each p x i c.args.at.time k same c.if-cycles-le1.true))
    (there_already p names d 1 a (λ (x : Cycle). bit (holds x (Active i))) begun active)

pub returns : goal.returns
returns c = λ p names h begun.
    let d = circuit c.args.logic.now in
    let e = circuit c.holds_number.new.logic in
    let f = circuit c.and.new.self in
    let i = c.args.at.node.0 in
    let t = c.args.at.time in
    let k = c.span-cycles.result in
    let l = c.in_ok-active.active in
    let long : 1 < k = omega (arith, c.if-cycles-le1.false) in
    let same = span_there p names c.args.self.now i k c.node.result.now h c.node.ensures.stands c.span-cycles.ensures.value in
    let active = holds_tells p names d l (Active i) begun refl (c.in_ok-active.ensures p names h) in
    let time = c.in_ok-time.ensures p names Time (c.in_ok-register.ensures p names h) begun in
    IfOk-weaker c.and.result _ _
    (λ a made. carries_as p names d f 1 a (λ (x : Cycle). bit (holds x (Active i) && (x.regs Time == t % k))) (λ (x : Cycle). bit (reading.at p x i t)) (λ x. ap bit (at_counted p x i t k same long))
    (both_tell p names d e f l c.in_ok-time.time a (λ (x : Cycle). holds x (Active i)) (λ (x : Cycle). x.regs Time == t % k) active time made))
    (c.and.ensures time.begun.sound (fits_later d e (appended d e time.appends) 1 l active.fits) time.carries.fits)
