use Rattle.std.proofs.Common.{sym, ap, ◌∙◌}
use Rattle.ir_core.specs.FirstContents.{elements_or_none}
use Rattle.flat_programs.specs.Memory.Filling.{filled}
use Rattle.flat_programs.proofs.MemoryLemmas.Filled.{filled-none}
use Rattle.flat_programs.proofs.memory.bank.fill_known.Goals as goal

pub returns-in_default : goal.returns-in_default
returns-in_default c = sym (ap (λ o. filled c.args.places.now (elements_or_none o) c.args.words.now) c.in_default.is ∙ filled-none c.args.places.now c.args.words.now)
