use Rattle.flat_programs.proofs.MachineLemmas.Going.{ended_so, undefined_so}
use Rattle.flat_programs.proofs.machine.machine.SeqMachine.halts_as_the_run.Goals as goal

pub returns-clause-ended : goal.returns-clause-ended
returns-clause-ended c = λ t most n x e h. ended_so c.args.self.now.cfg.now t c.args.self.now.state most n x e h

pub returns-clause-undefined : goal.returns-clause-undefined
returns-clause-undefined c = λ t most n rule place x e h. undefined_so c.args.self.now.cfg.now t c.args.self.now.state most n rule place x e h
