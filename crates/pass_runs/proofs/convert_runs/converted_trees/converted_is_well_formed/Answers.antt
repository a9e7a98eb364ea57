use Rattle.pass_runs.proofs.ConvertRuns.ConvertedTrees.Converted.{well_formed}
use Rattle.pass_runs.proofs.convert_runs.converted_trees.converted_is_well_formed.Goals as goal

pub returns : goal.returns
returns c = well_formed
