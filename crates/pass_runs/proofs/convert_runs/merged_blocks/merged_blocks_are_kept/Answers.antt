use Rattle.pass_runs.proofs.ConvertRuns.MergedBlocks.Whole.{kept}
use Rattle.pass_runs.proofs.convert_runs.merged_blocks.merged_blocks_are_kept.Goals as goal

pub returns : goal.returns
returns c = kept
