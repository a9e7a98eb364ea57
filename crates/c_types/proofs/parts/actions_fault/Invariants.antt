use Rattle.std.proofs.Common.{◌≡◌, drop, map}
use Rattle.c_tree.specs.View.{action_of}
use Rattle.c_meaning.specs.Checks.Faults.{lesser, least}
use Rattle.c_meaning.specs.Checks.Expressions.{actions_faults}
use Rattle.c_types.proofs.parts.actions_fault.Given as goal

abbrev pub invariant-loop-action : goal.invariant-loop-action
invariant-loop-action l = lesser l.worst (least (actions_faults l.bodies l.names (map action_of (drop l.action-index l.actions)))) ≡ least (actions_faults l.bodies l.names (map action_of l.actions))
