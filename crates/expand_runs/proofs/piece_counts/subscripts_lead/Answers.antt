use Rattle.expand_runs.proofs.PieceCounts.ElementNumbers.{element_at_number}
use Rattle.expand_runs.proofs.piece_counts.subscripts_lead.Goals as goal

pub returns : goal.returns
returns c = element_at_number
