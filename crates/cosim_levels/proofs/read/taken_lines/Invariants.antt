use Rattle.std.proofs.Common.{map, length}
use Rattle.c_tree.specs.View.{param_of}
use Rattle.cosim_levels.proofs.Taking.{AreBehind}
use Rattle.cosim_levels.proofs.read.taken_lines.Given as goal

abbrev pub invariant-loop-line : goal.invariant-loop-line
invariant-loop-line l = AreBehind (map param_of l.params) l.bytes l.rest l.given.items l.count

abbrev pub decreases-loop-line : goal.decreases-loop-line
decreases-loop-line l = length l.rest
