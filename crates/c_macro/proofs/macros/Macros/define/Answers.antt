use Rattle.c_macro.proofs.TableLemmas.{inserted}
use Rattle.c_macro.proofs.macros.Macros.define.Goals as goal

pub returns-clause-defined : goal.returns-clause-defined
returns-clause-defined c =
    inserted c.args.word c.args.body c.self.inside.bodies.entries c.insert.new.self.entries c.args.self.now c.self.view_is c.requires c.in_ok-insert.ensures.entries
