use Rattle.std.proofs.Common.{sym, ◌∙◌}
use Rattle.c_tree.specs.View.{item_of}
use Rattle.c_types.proofs.Accepted.{body_found}
use Rattle.c_types.proofs.program.body_index.Goals as goal

pub returns-then-is_body_of-clause-found : goal.returns-then-is_body_of-clause-found
returns-then-is_body_of-clause-found c = λ lt. body_found item_of c.args.items.now c.loop-i.i c.index-items-i.result c.args.name.now c.loop-i-test.true c.index-items-i.is (sym c.is_body_of.ensures ∙ c.if-is_body_of.true)
