use Rattle.std.proofs.Common.{◌≡◌, map, take}
use Rattle.c_tree.specs.View.{action_of}
use Rattle.c_tree.specs.declared.action.Action.{Action}
use Rattle.pieces.specs.Resolved.CoreView.{core_action_of}
use Rattle.c_elaborate.specs.Expressions.{action_elaborated}
use Rattle.c_elaborate.proofs.expressions.actions.Given as goal

abbrev pub invariant-loop-a : goal.invariant-loop-a
invariant-loop-a l = map core_action_of l.list.items ≡ map (λ (a : Action). action_elaborated l.functions l.names (action_of a)) (take l.a-index l.actions)
