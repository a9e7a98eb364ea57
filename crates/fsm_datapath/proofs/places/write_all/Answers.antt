use Rattle.std.proofs.Common.{ap}
use Rattle.std.specs.List.{flat_map}
use Rattle.std.proofs.lemmas.List.{take_all}
use Rattle.rtl_logic.specs.Making.{circuit}
use Rattle.rtl_logic.proofs.Making.{appended}
use Rattle.circuit_context.specs.Wanted.Entries.{held_entries}
use Rattle.fsm_datapath.proofs.Listing.{logs_as, logs_flat}
use Rattle.fsm_datapath.proofs.Pushing.{computed_on, answers_on}
use Rattle.fsm_datapath.proofs.places.write_all.Goals as goal

pub loop-held-preserved : goal.loop-held-preserved
loop-held-preserved c = λ p names h begun computed answers.
    let d = circuit c.args.logic.now in
    let e = circuit c.loop-held.logic in
    let f = circuit c.write_place.new.logic in
    let before = c.loop-held.invariant p names h begun computed answers in
    let longer = appended d e before.appends in
    let one = c.in_ok-write_place.ensures p names h before.begun (computed_on p names d e c.args.sources.now.computed.now longer computed) (answers_on p names d e c.args.sources.now.units.now longer answers) in
    logs_flat p names d e f _ _ _ (held_entries p) c.args.all.now c.loop-held.held-index _ c.loop-held-test.true before one

pub returns : goal.returns
returns c = λ p names h begun computed answers.
    logs_as p names _ _ _ _ _ _ (ap (flat_map (held_entries p)) (take_all c.loop-held.held-index c.args.all.now c.loop-held-test.false)) (c.loop-held.invariant p names h begun computed answers)
