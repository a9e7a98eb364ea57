use Rattle.timed_pieces.proofs.FormulaCycles.Pieces.{formula_counts}
use Rattle.timed_pieces.proofs.formula_cycles.formula_counts_runs.Goals as goal

pub returns : goal.returns
returns c = formula_counts
