use Rattle.timed_pieces.proofs.FormulaCycles.LaidOut.{loops_lead}
use Rattle.timed_pieces.proofs.formula_cycles.laid_out_loops_lead_to_their_ends.Goals as goal

pub returns : goal.returns
returns c = loops_lead
