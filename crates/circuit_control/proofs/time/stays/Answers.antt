use Rattle.std.proofs.Common.{◌≡◌, Some, slice_get, refl, sym, ap, ◌∙◌, subst, arith, length, ◌<◌}
use Rattle.std.specs.Prelude.{◌&&◌, not}
use Rattle.std.proofs.lemmas.Result.{IfOk-weaker}
use Rattle.hls_base.specs.declared.number.NodeId.{NodeId}
use Rattle.rtl_logic.specs.Making.{circuit}
use Rattle.datapath.specs.Cycles.{Cycle, Active, holds, bit}
use Rattle.datapath.specs.Control.{leaves_if, stays_as}
use Rattle.datapath.proofs.Combining.{carries_as, there_already}
use Rattle.circuit_control.proofs.Telling.{tells_later, made_behind}
use Rattle.circuit_control.proofs.Pieces.{loop_stays, block_stays}
use Rattle.circuit_control.proofs.time.stays.Goals as goal

pub returns-in_ok-leave : goal.returns-in_ok-leave
returns-in_ok-leave c = λ p names n context begun stands.
    let d = circuit c.args.logic.now in
    let e = circuit c.leaves.new.logic in
    let f = circuit c.except.new.logic in
    let i = c.node_with_number-node.result.0 in
    let is = sym (c.is_loop-looped.ensures p names n context stands) ∙ c.if-looped.true in
    let here : slice_get p.program.nodes i ≡ Some n = subst (λ (m : NodeId). slice_get p.program.nodes m.0 ≡ Some n) (sym c.node_with_number-node.ensures) stands in
    let active = c.in_ok-active.ensures p names d context begun refl in
    let leave = c.in_ok-leave.ensures p names context begun in
    IfOk-weaker c.except.result _ _
    (λ a made. carries_as p names d f 1 a (λ (x : Cycle). bit (holds x (Active i) && not (leaves_if p x i (slice_get p.program.nodes i)))) (λ (x : Cycle). bit (stays_as p x c.args.number n))
    (λ (x : Cycle). ap bit (loop_stays p x i n here is ∙ ap (λ (m : NodeId). stays_as p x m.0 n) c.node_with_number-node.ensures))
    (made_behind p names d e f 1 a (λ (x : Cycle). bit (holds x (Active i) && not (leaves_if p x i (slice_get p.program.nodes i)))) leave.appends made))
    (c.except.ensures p names (λ (x : Cycle). holds x (Active i)) (λ (x : Cycle). leaves_if p x i (slice_get p.program.nodes i)) leave.begun
    (tells_later p names d e c.in_ok-active.active (λ (x : Cycle). holds x (Active i)) leave.appends active) leave.carries)

pub returns-else-looped : goal.returns-else-looped
returns-else-looped c = λ p names n context begun stands.
    let d = circuit c.args.logic.now in
    let i = c.node_with_number-node.result.0 in
    let is = sym (c.is_loop-looped.ensures p names n context stands) ∙ c.if-looped.false in
    let active = c.in_ok-active.ensures p names d context begun refl in
    carries_as p names d d 1 c.in_ok-active.active (λ (x : Cycle). bit (holds x (Active i))) (λ (x : Cycle). bit (stays_as p x c.args.number n))
    (λ (x : Cycle). ap bit (block_stays p x i n is ∙ ap (λ (m : NodeId). stays_as p x m.0 n) c.node_with_number-node.ensures)) (there_already p names d 1 c.in_ok-active.active (λ (x : Cycle). bit (holds x (Active i))) begun active)

pub node_with_number-node-requires : goal.node_with_number-node-requires
node_with_number-node-requires c = omega (arith, c.requires, c.args.of.now.few.nodes)

pub leaves-requires : goal.leaves-requires
leaves-requires c = subst (λ (m : NodeId). m.0 < length c.args.of.now.cfg.now.nodes.items) (sym c.node_with_number-node.ensures) c.requires
