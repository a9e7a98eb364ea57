use Rattle.pass_runs.proofs.ConvertRuns.MergedBlocks.Whole.{trees}
use Rattle.pass_runs.proofs.convert_runs.merged_blocks.converted_trees_keep_runs.Goals as goal

pub returns : goal.returns
returns c = trees
