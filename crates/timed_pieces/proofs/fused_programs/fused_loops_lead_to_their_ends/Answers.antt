use Rattle.timed_pieces.proofs.FusedPrograms.Whole.{lead_to_ends}
use Rattle.timed_pieces.proofs.fused_programs.fused_loops_lead_to_their_ends.Goals as goal

pub returns : goal.returns
returns c = lead_to_ends
