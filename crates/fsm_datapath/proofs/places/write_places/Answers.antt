use Rattle.std.proofs.Common.{◌∙◌, sym, ap}
use Rattle.std.specs.List.{flat_map}
use Rattle.std.proofs.lemmas.Result.{on_ok_weaker}
use Rattle.datapath.specs.Plans.{Plan}
use Rattle.circuit_context.specs.Wanted.Entries.{held_entries}
use Rattle.fsm_datapath.proofs.Listing.{logs_as}
use Rattle.fsm_datapath.proofs.places.write_places.Goals as goal

pub returns : goal.returns
returns c = λ p names h begun computed answers.
    on_ok_weaker c.write_all.result (logs_as p names _ _ _ _ _ _ (ap (flat_map (held_entries p)) (c.deref.ensures.value ∙ sym (ap (λ (q : Plan). q.held) h.plan))))
    (c.write_all.ensures p names h begun computed answers)
