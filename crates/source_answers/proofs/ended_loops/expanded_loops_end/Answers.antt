use Rattle.source_answers.proofs.EndedLoops.Whole.{loops_end}
use Rattle.source_answers.proofs.ended_loops.expanded_loops_end.Goals as goal

pub returns : goal.returns
returns c = loops_end
