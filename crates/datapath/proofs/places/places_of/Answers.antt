use Rattle.std.proofs.Common.{sym, take, subst}
use Rattle.std.proofs.lemmas.List.{take_more}
use Rattle.datapath.specs.declared.places.Places.{Places}
use Rattle.datapath.specs.Tables.{ArePlaces}
use Rattle.datapath.proofs.places.places_of.Goals as goal

pub loop-row-preserved : goal.loop-row-preserved
loop-row-preserved c =
    let held = c.args.held.now in
    let before = take c.loop-row.row-index held in
    let places : Places = record { registers = c.note_place.new.registers; shared = c.note_holder.new.shared } in
    subst (λ rows. ArePlaces rows places) (sym (take_more held c.loop-row.row-index _ c.loop-row-test.true))
    (record { registers = c.in_ok-note_place.ensures before c.loop-row.invariant.registers; shared = c.in_ok-note_holder.ensures before c.loop-row.invariant.shared })
