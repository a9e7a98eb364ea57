use Rattle.std.proofs.Common.{◌-◌, true, false, refl, sym, ap}
use Rattle.std.specs.Prelude.{◌==◌, ◌&&◌, not}
use Rattle.std.proofs.lemmas.Result.{IfOk-weaker}
use Rattle.rtl_logic.specs.Making.{circuit}
use Rattle.rtl_logic.proofs.Making.{appended, fits_later}
use Rattle.datapath.specs.Cycles.{Cycle, Active, Gate, Waited, holds, bit}
use Rattle.datapath.specs.Control as control
use Rattle.datapath.proofs.Combining.{carries_as, there_already}
use Rattle.circuit_context.proofs.Telling.{holds_tells, both_tell}
use Rattle.circuit_context.proofs.Gates.{test_is, never_leaves, leaves_late}
use Rattle.circuit_context.proofs.tests.leaves_loop.Goals as goal

pub returns-then-wait-eq0 : goal.returns-then-wait-eq0
returns-then-wait-eq0 c = λ p names h begun.
    let i = c.args.node.0 in
    IfOk-weaker c.fails.result _ _
    (λ a made. carries_as p names (circuit c.args.logic.now) (circuit c.fails.new.logic) 1 a (λ (x : Cycle). bit (control.leaves_loop p x i 0)) (λ (x : Cycle). bit (control.leaves_loop p x i c.args.wait))
    (λ x. ap (λ n. bit (control.leaves_loop p x i n)) (sym c.if-wait-eq0.true)) made) (c.fails.ensures p names h begun)

pub returns-then-not-has_test : goal.returns-then-not-has_test
returns-then-not-has_test c = λ p names h begun.
    let d = circuit c.args.logic.now in
    let a = c.constant_bit.result in
    let i = c.args.node.0 in
    let w = c.args.wait in
    let none = test_is p names c.args.of.now i c.node.result.now c.body_of.result.now c.has_test.result false h c.node.ensures.stands c.body_of.ensures c.has_test.ensures c.if-not-has_test.true in
    carries_as p names d d 1 a (λ (x : Cycle). bit false) (λ (x : Cycle). bit (control.leaves_loop p x i w)) (λ x. ap bit (never_leaves p x i w none))
    (there_already p names d 1 a (λ (x : Cycle). bit false) begun (c.constant_bit.ensures p names d))

pub returns : goal.returns
returns c = λ p names h begun.
    let d = circuit c.args.logic.now in
    let e = circuit c.has_failed.new.logic in
    let f = circuit c.and.new.self in
    let i = c.args.node.0 in
    let w = c.args.wait in
    let l = c.in_ok-active.active in
    let r = c.in_ok-over.over in
    let some = test_is p names c.args.of.now i c.node.result.now c.body_of.result.now c.has_test.result true h c.node.ensures.stands c.body_of.ensures c.has_test.ensures c.if-not-has_test.false in
    let active = holds_tells p names d l (Active i) begun refl (c.in_ok-active.ensures p names h) in
    let over = c.in_ok-over.ensures p names h begun in
    IfOk-weaker c.and.result _ _
    (λ a made. carries_as p names d f 1 a (λ (x : Cycle). bit (holds x (Active i) && (not (holds x (Gate 0)) && (x.regs Waited == w - 1)))) (λ (x : Cycle). bit (control.leaves_loop p x i w))
    (λ x. ap bit (leaves_late p x i w some c.if-wait-eq0.false))
    (both_tell p names d e f l r a (λ (x : Cycle). holds x (Active i)) (λ (x : Cycle). not (holds x (Gate 0)) && (x.regs Waited == w - 1)) active over made))
    (c.and.ensures over.begun.sound (fits_later d e (appended d e over.appends) 1 l active.fits) over.carries.fits)
