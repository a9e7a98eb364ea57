use Rattle.pass_runs.proofs.LowerRuns.OperatorWords.Whole.{operators_agree}
use Rattle.pass_runs.proofs.lower_runs.operator_words.operators_agree.Goals as goal

pub returns : goal.returns
returns c = operators_agree
