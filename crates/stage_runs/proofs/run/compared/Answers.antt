use Rattle.std.proofs.lemmas.Result.{IfOk-weaker}
use Rattle.stage_runs.proofs.run.compared.Goals as goal

pub returns-in-Ok : goal.returns-in-Ok
returns-in-Ok c = IfOk-weaker c.told.result _ _ (λ a agree zero. record { runs = c.in-Ok.runs; are = c.in-Ok.ensures.runs; agree = agree zero }) c.told.ensures
