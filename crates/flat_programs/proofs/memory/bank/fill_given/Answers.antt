use Rattle.std.proofs.Common.{sym, ap, ◌∙◌, []}
use Rattle.std.specs.Prelude.{if◌then◌else◌}
use Rattle.flat_programs.specs.Memory.Filling.{filled}
use Rattle.flat_programs.proofs.MemoryLemmas.Filled.{filled-none}
use Rattle.flat_programs.proofs.memory.bank.fill_given.Goals as goal

pub returns-else-host : goal.returns-else-host
returns-else-host c = sym (ap (λ b. filled c.args.places.now (if b then c.args.elements.now else []) c.args.words.now) c.if-host.false ∙ filled-none c.args.places.now c.args.words.now)
