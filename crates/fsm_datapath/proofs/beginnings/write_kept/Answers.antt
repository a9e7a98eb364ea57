use Rattle.std.proofs.Common.{map, ap}
use Rattle.std.proofs.lemmas.List.{take_all}
use Rattle.rtl_logic.specs.Making.{circuit}
use Rattle.circuit_context.specs.Wanted.Entries.{kept_entry}
use Rattle.fsm_datapath.proofs.Listing.{logs_as, logs_mapped}
use Rattle.std.proofs.lemmas.Option.{slice_get-get_or}
use Rattle.program_validity.specs.Frames.{is_kept}
use Rattle.program_validity.proofs.Parts.{holds_at}
use Rattle.fsm_datapath.proofs.beginnings.write_kept.Goals as goal

pub loop-kept-preserved : goal.loop-kept-preserved
loop-kept-preserved c = λ p names h begun.
    let d = circuit c.args.logic.now in
    logs_mapped p names d d d _ _ _ kept_entry c.args.all.now c.loop-kept.kept-index _ c.loop-kept-test.true (c.loop-kept.invariant p names h begun) (c.in_ok-write_first.ensures p names h begun)

pub returns : goal.returns
returns c = λ p names h begun.
    let d = circuit c.args.logic.now in
    logs_as p names d d _ _ _ _ (ap (map kept_entry) (take_all c.loop-kept.kept-index c.args.all.now c.loop-kept-test.false)) (c.loop-kept.invariant p names h begun)

pub write_first-requires : goal.write_first-requires
write_first-requires c =
    let k = c.loop-kept.kept-index in
    holds_at (is_kept c.args.of.now.cfg.now.frame) c.args.all.now k _ c.requires (slice_get-get_or c.args.all.now k _ c.loop-kept-test.true)
