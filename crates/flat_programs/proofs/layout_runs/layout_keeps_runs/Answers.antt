use Rattle.flat_programs.proofs.Whole.{layout_kept}
use Rattle.flat_programs.proofs.layout_runs.layout_keeps_runs.Goals as goal

pub returns : goal.returns
returns c = layout_kept
