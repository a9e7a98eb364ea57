use Rattle.ir_core.specs.FirstContents.{first_words}
use Rattle.flat_programs.proofs.MachineLemmas.Going.{starts}
use Rattle.flat_programs.proofs.MachineLemmas.Nearing.{whole_run}
use Rattle.flat_programs.proofs.machine.machine.SeqMachine.new.Goals as goal

pub returns-clause-begins : goal.returns-clause-begins
returns-clause-begins c = λ whole. starts c.args.cfg.now (first_words c.args.cfg.now.frame c.args.inputs.now) c.in_ok-state.state (c.in_ok-state.ensures.first whole)

pub returns-clause-ends : goal.returns-clause-ends
returns-clause-ends c = λ whole n over. whole_run c.args.cfg.now (first_words c.args.cfg.now.frame c.args.inputs.now) c.in_ok-state.state n (c.in_ok-state.ensures.first whole) over
