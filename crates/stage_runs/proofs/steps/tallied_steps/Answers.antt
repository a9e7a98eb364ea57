use Rattle.std.proofs.Common.{◌∙◌, ap}
use Rattle.std.proofs.lemmas.Result.{IfOk-weaker}
use Rattle.cycle_report.specs.FormulaValue.{cycles}
use Rattle.stage_runs.proofs.steps.tallied_steps.Goals as goal

pub returns : goal.returns
returns c = IfOk-weaker c.cycles_of.result _ _ (λ n is. is ∙ ap (λ rows. cycles 0 rows c.args.tally.now) c.in_ok-step_costs.ensures) c.cycles_of.ensures
