use Rattle.std.proofs.Common.{refl}
use Rattle.std.specs.Prelude.{◌&&◌, ◌||◌, not, slice_get}
use Rattle.std.proofs.lemmas.Result.{on_ok_weaker}
use Rattle.rtl_logic.specs.Making.{circuit}
use Rattle.rtl_logic.proofs.Making.{appends_both}
use Rattle.datapath.specs.Cycles.{Cycle, Active, holds, bit, resets}
use Rattle.datapath.specs.Control.{begins, leaves_if, next_active}
use Rattle.circuit_context.proofs.WantedLemmas.Joining.{logs_behind}
use Rattle.circuit_control.proofs.Telling.{reset_tells, tells_later}
use Rattle.circuit_control.proofs.control.write_active.Goals as goal

pub returns : goal.returns
returns c = λ p names context begun begins_.
    let i = c.args.node.0 in
    let d = circuit c.args.logic.now in
    let e = circuit c.leaves.new.logic in
    let f = circuit c.except.new.logic in
    let g = circuit c.either.new.logic in
    let h = circuit c.except-2.new.logic in
    let leave = c.in_ok-leave.ensures p names context begun in
    let active = c.in_ok-active.ensures p names e context leave.begun refl in
    let stays = c.in_ok-stays.ensures p names (λ (x : Cycle). holds x (Active i)) (λ (x : Cycle). leaves_if p x i (slice_get p.program.nodes i)) leave.begun active leave.carries in
    let first = appends_both d e f leave.appends stays.appends in
    let goes = c.in_ok-goes.ensures p names (λ (x : Cycle). begins p x i) (λ (x : Cycle). holds x (Active i) && not (leaves_if p x i (slice_get p.program.nodes i))) stays.begun
    (tells_later p names d f c.args.begins (λ (x : Cycle). begins p x i) first begins_) stays.carries in
    let next = c.in_ok-next.ensures p names (λ (x : Cycle). begins p x i || (holds x (Active i) && not (leaves_if p x i (slice_get p.program.nodes i)))) resets goes.begun goes.carries (reset_tells p names g goes.begun) in
    on_ok_weaker c.write_always.result
    (λ log. logs_behind p names d h h c.args.log.now.pushes.items c.write_always.new.log.pushes.items _ (appends_both d f h first (appends_both f g h goes.appends next.appends)) log)
    (c.write_always.ensures p names h (λ (x : Cycle). bit (next_active p x i)) context next.begun next.carries)
