use Rattle.timed_pieces.proofs.FusedPrograms.Whole.{loops_once}
use Rattle.timed_pieces.proofs.fused_programs.fused_loops_set_once.Goals as goal

pub returns : goal.returns
returns c = loops_once
