use Rattle.std.proofs.Common.{◌≡◌, drop}
use Rattle.std.specs.List.{list_all}
use Rattle.program_validity.specs.Frames.{is_kept}
use Rattle.program_validity.proofs.frames.all_kept.Given as goal

abbrev pub invariant-loop-kept : goal.invariant-loop-kept
invariant-loop-kept l = list_all (is_kept l.frame) (drop l.kept-index l.frame.kept.items) ≡ list_all (is_kept l.frame) l.frame.kept.items
