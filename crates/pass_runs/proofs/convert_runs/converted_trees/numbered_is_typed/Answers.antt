use Rattle.pass_runs.proofs.ConvertRuns.ConvertedTrees.Typing.{typed}
use Rattle.pass_runs.proofs.convert_runs.converted_trees.numbered_is_typed.Goals as goal

pub returns : goal.returns
returns c = typed
