use Rattle.std.proofs.Common.{[], ◌∷◌}
use Rattle.std.proofs.lemmas.Result.{on_ok_weaker}
use Rattle.rtl_logic.specs.Making.{circuit}
use Rattle.rtl_logic.proofs.Making.{appends_both}
use Rattle.datapath.specs.Cycles.{Cycle, bit}
use Rattle.datapath.specs.Control.{is_ending, next_done, next_ready}
use Rattle.circuit_context.specs.declared.wanted.role.Role.TheVariants as role
use Rattle.circuit_context.specs.declared.wanted.role.Target.TheVariants as t
use Rattle.circuit_context.specs.Wanted.Entries.{moves_of, always_entry}
use Rattle.circuit_context.proofs.WantedLemmas.Joining.{logs_then, logs_behind}
use Rattle.circuit_control.specs.Gathered.{is_asked}
use Rattle.circuit_control.proofs.Gathered.{ended_asked}
use Rattle.circuit_control.proofs.Telling.{tells_as, tells_later}
use Rattle.circuit_control.proofs.control.write_waiting.Goals as goal

pub returns : goal.returns
returns c = λ p names pushes context begun are holds_.
    let d = circuit c.args.logic.now in
    let e = circuit c.is_wanted.new.logic in
    let f = circuit c.next_done.new.logic in
    let g = circuit c.next_ready.new.logic in
    let before = c.args.log.now.pushes.items in
    let middle = c.write_always.new.log.pushes.items in
    let after = c.write_always-2.new.log.pushes.items in
    let asked = c.in_ok-ended.ensures p names pushes (moves_of p) begun are (holds_ t.Ended) in
    let ended = tells_as p names e c.in_ok-ended.ended (is_asked t.Ended (moves_of p)) (is_ending p) (ended_asked p) asked.carries in
    let done = c.in_ok-done.ensures p names context asked.begun ended in
    let first = c.in_ok-write_always.ensures p names f (λ (x : Cycle). bit (next_done p x)) context done.begun done.carries in
    let ready = c.in_ok-ready.ensures p names context done.begun (tells_later p names e f c.in_ok-ended.ended (is_ending p) done.appends ended) in
    on_ok_weaker c.write_always-2.result
    (λ second. logs_behind p names d f g before after _ (appends_both d e f asked.appends done.appends)
    (logs_then p names f f g before middle after (always_entry role.Done (λ (x : Cycle). bit (next_done p x)) ∷ []) (always_entry role.Ready (λ (x : Cycle). bit (next_ready p x)) ∷ []) first
    (logs_behind p names f g g middle after _ ready.appends second))) (c.write_always-2.ensures p names g (λ (x : Cycle). bit (next_ready p x)) context ready.begun ready.carries)
