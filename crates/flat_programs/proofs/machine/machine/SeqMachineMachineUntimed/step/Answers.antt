use Rattle.flat_programs.proofs.MachineLemmas.Going.{one_step}
use Rattle.flat_programs.proofs.machine.machine.SeqMachineMachineUntimed.step.Goals as goal

pub returns-clause-goes_on : goal.returns-clause-goes_on
returns-clause-goes_on c = λ whole. one_step _ _ _ (c.pass.ensures.passes whole)
