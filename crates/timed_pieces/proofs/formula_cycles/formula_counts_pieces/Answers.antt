use Rattle.timed_pieces.proofs.FormulaCycles.Pieces.{formula_counts_pieces}
use Rattle.timed_pieces.proofs.formula_cycles.formula_counts_pieces.Goals as goal

pub returns : goal.returns
returns c = formula_counts_pieces
