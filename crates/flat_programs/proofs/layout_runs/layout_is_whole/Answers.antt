use Rattle.flat_programs.proofs.There.{layout_whole}
use Rattle.flat_programs.proofs.layout_runs.layout_is_whole.Goals as goal

pub returns : goal.returns
returns c = layout_whole
