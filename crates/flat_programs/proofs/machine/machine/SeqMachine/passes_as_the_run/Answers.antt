use Rattle.flat_programs.proofs.MachineLemmas.Going.{passes_all}
use Rattle.flat_programs.proofs.machine.machine.SeqMachine.passes_as_the_run.Goals as goal

pub returns : goal.returns
returns c = λ t points most n x e h few. passes_all c.args.self.now.cfg.now t c.args.self.now.state points most n x e h few
