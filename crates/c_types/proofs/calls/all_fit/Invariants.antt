use Rattle.std.proofs.Common.{◌≡◌, drop}
use Rattle.c_tree.specs.View.{trees_of}
use Rattle.c_meaning.specs.Checks.Calls.{all_fit}
use Rattle.c_types.proofs.calls.all_fit.Given as goal

abbrev pub invariant-loop-i : goal.invariant-loop-i
invariant-loop-i l = all_fit l.names (drop l.i l.params) (trees_of (drop l.i l.args)) ≡ all_fit l.names l.params (trees_of l.args)
