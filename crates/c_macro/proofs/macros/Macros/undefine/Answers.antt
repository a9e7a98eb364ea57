use Rattle.c_macro.proofs.TableLemmas.{taken_out}
use Rattle.c_macro.proofs.macros.Macros.undefine.Goals as goal

pub returns : goal.returns
returns c = taken_out c.args.word.now c.self.inside.bodies.entries c.shift_remove.new.self.entries c.args.self.now c.self.view_is c.shift_remove.ensures.entries
