use Rattle.std.proofs.Common.{◌≡◌, ◌++◌, drop, map}
use Rattle.c_tree.specs.View.{action_of}
use Rattle.c_meaning.specs.Checks.Recursion.{actions_calls}
use Rattle.c_calls.proofs.called.add_actions_calls.Given as goal

abbrev pub invariant-loop-action : goal.invariant-loop-action
invariant-loop-action l = l.calls.items ++ actions_calls l.names (map action_of (drop l.action-index l.actions)) ≡ l.initial.calls.items ++ actions_calls l.names (map action_of l.actions)
