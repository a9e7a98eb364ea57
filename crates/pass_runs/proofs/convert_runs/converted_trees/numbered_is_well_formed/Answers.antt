use Rattle.pass_runs.proofs.ConvertRuns.ConvertedTrees.Numbered.{well_formed}
use Rattle.pass_runs.proofs.convert_runs.converted_trees.numbered_is_well_formed.Goals as goal

pub returns : goal.returns
returns c = well_formed
