use Rattle.timed_pieces.proofs.FormulaCycles.Whole.{costs_count}
use Rattle.timed_pieces.proofs.formula_cycles.costs_count_runs.Goals as goal

pub returns : goal.returns
returns c = costs_count
