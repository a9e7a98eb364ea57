use Rattle.passes.proofs.NumberRuns.Blocks.{block_same}
use Rattle.passes.proofs.NumberRuns.Trees.{sequence_same}
use Rattle.passes.proofs.number_runs.numbering_keeps_runs.Goals as goal

pub returns : goal.returns
returns c = λ shapes apart blocks ordered t n. sequence_same shapes (block_same shapes) apart blocks ordered t n
