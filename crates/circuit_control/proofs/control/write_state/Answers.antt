use Rattle.std.proofs.Common.{◌≡◌, [], ◌∷◌, Some, slice_get, refl, sym, ap, ◌∙◌, subst, arith, length, ◌<◌}
use Rattle.std.proofs.lemmas.Result.{on_ok_weaker}
use Rattle.hls_base.specs.declared.number.NodeId.{NodeId}
use Rattle.rtl_logic.specs.Making.{circuit}
use Rattle.datapath.specs.Cycles.{Cycle, Load, holds, bit}
use Rattle.datapath.specs.Control.{is_loop, is_entered, begins, next_active, next_load}
use Rattle.circuit_context.specs.declared.wanted.role.Role.TheVariants as role
use Rattle.circuit_context.specs.declared.wanted.role.Target.TheVariants as t
use Rattle.circuit_context.specs.Wanted.Entries.{Entry, moves_of, always_entry}
use Rattle.circuit_context.proofs.WantedLemmas.Joining.{logs_then, logs_behind}
use Rattle.circuit_control.specs.Gathered.{is_asked}
use Rattle.circuit_control.proofs.Gathered.{entered_asked}
use Rattle.circuit_control.proofs.Telling.{tells_as}
use Rattle.circuit_control.proofs.Pieces.{logs_as, load_state, block_state, begins_loaded, begins_entered}
use Rattle.circuit_control.proofs.control.write_state.Goals as goal

pub returns-in_ok-load : goal.returns-in_ok-load
returns-in_ok-load c = λ p names pushes n context begun are holds_ stands.
    let d = circuit c.args.logic.now in
    let e = circuit c.is_wanted.new.logic in
    let f = circuit c.write_load.new.logic in
    let g = circuit c.write_active.new.logic in
    let before = c.args.log.now.pushes.items in
    let middle = c.write_load.new.log.pushes.items in
    let after = c.write_active.new.log.pushes.items in
    let node = c.node_with_number-node.result in
    let i = node.0 in
    let is = sym (c.is_loop-looped.ensures p names n context stands) ∙ c.if-looped.true in
    let here : slice_get p.program.nodes i ≡ Some n = subst (λ (m : NodeId). slice_get p.program.nodes m.0 ≡ Some n) (sym c.node_with_number-node.ensures) stands in
    let asked = c.in_ok-entered.ensures p names pushes (moves_of p) begun are (holds_ (t.Entered node)) in
    let entered = tells_as p names e c.in_ok-entered.entered (is_asked (t.Entered node) (moves_of p)) (λ (x : Cycle). is_entered p x i) (entered_asked p i) asked.carries in
    let first = c.in_ok-write_load.ensures p names context asked.begun (ap is_loop here ∙ is) entered in
    let load = c.in_ok-load.ensures p names f context first.begun refl in
    let begins_ = tells_as p names f c.in_ok-load.load (λ (x : Cycle). holds x (Load i)) (λ (x : Cycle). begins p x i) (λ (x : Cycle). begins_loaded p x i n here is) load in
    let loads : NodeId → Entry = λ (m : NodeId). always_entry (role.Load m) (λ (x : Cycle). bit (next_load p x m.0)) in
    let actives : NodeId → Entry = λ (m : NodeId). always_entry (role.Active m) (λ (x : Cycle). bit (next_active p x m.0)) in
    on_ok_weaker c.write_active.result
    (λ second. logs_as p names d g before after _ _ (ap (λ (m : NodeId). loads m ∷ actives m ∷ []) c.node_with_number-node.ensures ∙ load_state p c.args.number n is)
    (logs_behind p names d e g before after _ asked.appends (logs_then p names e f g before middle after (loads node ∷ []) (actives node ∷ []) first second))) (c.write_active.ensures p names context first.begun begins_)

pub returns-else-looped : goal.returns-else-looped
returns-else-looped c = λ p names pushes n context begun are holds_ stands.
    let d = circuit c.args.logic.now in
    let e = circuit c.is_wanted.new.logic in
    let g = circuit c.write_active-else-looped.new.logic in
    let before = c.args.log.now.pushes.items in
    let after = c.write_active-else-looped.new.log.pushes.items in
    let node = c.node_with_number-node.result in
    let i = node.0 in
    let is = sym (c.is_loop-looped.ensures p names n context stands) ∙ c.if-looped.false in
    let here : slice_get p.program.nodes i ≡ Some n = subst (λ (m : NodeId). slice_get p.program.nodes m.0 ≡ Some n) (sym c.node_with_number-node.ensures) stands in
    let asked = c.in_ok-entered.ensures p names pushes (moves_of p) begun are (holds_ (t.Entered node)) in
    let entered = tells_as p names e c.in_ok-entered.entered (is_asked (t.Entered node) (moves_of p)) (λ (x : Cycle). is_entered p x i) (entered_asked p i) asked.carries in
    let begins_ = tells_as p names e c.in_ok-entered.entered (λ (x : Cycle). is_entered p x i) (λ (x : Cycle). begins p x i) (λ (x : Cycle). begins_entered p x i n here is) entered in
    let actives : NodeId → Entry = λ (m : NodeId). always_entry (role.Active m) (λ (x : Cycle). bit (next_active p x m.0)) in
    on_ok_weaker c.write_active-else-looped.result
    (λ second. logs_as p names d g before after _ _ (ap (λ (m : NodeId). actives m ∷ []) c.node_with_number-node.ensures ∙ block_state p c.args.number n is) (logs_behind p names d e g before after _ asked.appends second))
    (c.write_active-else-looped.ensures p names context asked.begun begins_)

pub node_with_number-node-requires : goal.node_with_number-node-requires
node_with_number-node-requires c = omega (arith, c.requires, c.args.of.now.few.nodes)

pub write_active-requires : goal.write_active-requires
write_active-requires c = subst (λ (m : NodeId). m.0 < length c.args.of.now.cfg.now.nodes.items) (sym c.node_with_number-node.ensures) c.requires

pub write_active-requires-else-looped : goal.write_active-requires-else-looped
write_active-requires-else-looped c = subst (λ (m : NodeId). m.0 < length c.args.of.now.cfg.now.nodes.items) (sym c.node_with_number-node.ensures) c.requires
