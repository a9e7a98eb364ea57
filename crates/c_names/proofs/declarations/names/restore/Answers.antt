use Rattle.std.proofs.Common.{ap, ◌∙◌}
use Rattle.c_names.specs.Declarations.Entries.{index_in}
use Rattle.c_names.proofs.DeclarationsLemmas.Layers.{index-set_value}
use Rattle.c_names.proofs.declarations.names.restore.Goals as goal

pub returns-in-Some : goal.returns-in-Some
returns-in-Some c = λ q. ap (index_in q) (c.get_mut.follows.holds c.args.index).0 ∙ index-set_value c.args.latest.now.entries c.args.name.now c.args.index q c.requires
