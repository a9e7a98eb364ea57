use Rattle.std.proofs.Common.{◌≡◌, ◌++◌, drop}
use Rattle.c_tree.specs.View.{inits_of}
use Rattle.c_meaning.specs.Checks.Recursion.{inits_calls}
use Rattle.c_calls.proofs.called.+inits.Given as goal

abbrev pub invariant-add_inits_calls-loop-item : goal.invariant-add_inits_calls-loop-item
invariant-add_inits_calls-loop-item l = l.calls.items ++ inits_calls l.names (inits_of (drop l.item-index l.items)) ≡ l.initial.calls.items ++ inits_calls l.names (inits_of l.items)
