use Rattle.std.proofs.Common.{Some, None}
use Rattle.c_macro.proofs.TableLemmas.{found_body}
use Rattle.c_macro.proofs.macros.Macros.body.Goals as goal

pub returns-in-Some : goal.returns-in-Some
returns-in-Some c = found_body c.args.word.now c.self.inside.bodies.entries c.args.self.now (Some c.in-Some.body.now) c.self.view_is c.in-Some.ensures.value

pub returns-in-None : goal.returns-in-None
returns-in-None c = found_body c.args.word.now c.self.inside.bodies.entries c.args.self.now None c.self.view_is c.in-None.ensures.value
