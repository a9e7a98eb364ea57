use Rattle.source_answers.proofs.SourceCycles.Whole.{formula_counts}
use Rattle.source_answers.proofs.source_cycles.source_formula_counts.Goals as goal

pub returns : goal.returns
returns c = formula_counts
