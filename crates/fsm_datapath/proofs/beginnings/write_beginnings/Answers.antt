use Rattle.std.proofs.Common.{sym, ap, ◌∙◌}
use Rattle.std.proofs.lemmas.Result.{on_ok_weaker}
use Rattle.rtl_logic.specs.Making.{circuit}
use Rattle.datapath.specs.Plans.{Plan}
use Rattle.datapath.specs.Control.{is_taken}
use Rattle.circuit_context.proofs.WantedLemmas.Joining.{logs_then, logs_behind}
use Rattle.fsm_datapath.proofs.Beginning.{beginnings_joined}
use Rattle.fsm_datapath.proofs.Listing.{logs_as}
use Rattle.std.proofs.Common.{◌≡◌, true, subst}
use Rattle.std.specs.List.{list_all}
use Rattle.program_validity.specs.Frames.{is_kept}
use Rattle.fsm_datapath.proofs.Beginning.{all_kept}
use Rattle.fsm_datapath.proofs.beginnings.write_beginnings.Goals as goal

pub returns : goal.returns
returns c = λ p names h begun.
    let d = circuit c.args.logic.now in
    let e = circuit c.taken.new.logic in
    let made = c.in_ok-taken.ensures p names h begun in
    let entered = c.in_ok-enter.ensures p names e is_taken made.begun made.carries in
    let arguments = c.in_ok-write_arguments.ensures p names h made.begun (c.deref.ensures.value ∙ sym (ap (λ (q : Plan). q.parameters) h.plan)) made.carries in
    let all = beginnings_joined p c.args.of.now.cfg.now.first c.deref-2.result.now (ap (λ (q : Plan). q.program.first) h.plan) (c.deref-2.ensures.value ∙ sym (ap (λ (q : Plan). q.kept) h.plan)) in
    on_ok_weaker c.write_kept.result
    (λ kept. logs_behind p names d e e _ _ _ made.appends (logs_as p names e e _ _ _ _ all (logs_then p names e e e _ _ _ _ _ entered (logs_then p names e e e _ _ _ _ _ arguments kept))))
    (c.write_kept.ensures p names h made.begun)

pub write_kept-requires : goal.write_kept-requires
write_kept-requires c =
    let cfg = c.args.of.now.cfg.now in
    subst (λ all. list_all (is_kept cfg.frame) all ≡ true) (sym c.deref-2.ensures.value) (all_kept cfg c.args.of.now.buildable.valid)
