use Rattle.pass_runs.proofs.LowerRuns.OperatorWords.Resizing.{conversions_agree}
use Rattle.pass_runs.proofs.lower_runs.operator_words.conversions_agree.Goals as goal

pub returns : goal.returns
returns c = conversions_agree
