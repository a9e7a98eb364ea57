use Rattle.timed_pieces.proofs.FusedPrograms.Whole.{points_differ}
use Rattle.timed_pieces.proofs.fused_programs.fused_points_differ.Goals as goal

pub returns : goal.returns
returns c = points_differ
