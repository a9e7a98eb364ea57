use Rattle.std.proofs.Common.{sym, ◌∙◌, arith}
use Rattle.c_tree.specs.View.{object_of}
use Rattle.cosim_levels.proofs.Elements.{elements_over}
use Rattle.cosim_levels.proofs.difference.in_elements.Goals as goal

pub returns : goal.returns
returns c = sym (elements_over (object_of c.args.object.now) c.loop-k.k c.loop-k.k c.args.expected.now c.args.found.now (omega arith)) ∙ c.loop-k.invariant
