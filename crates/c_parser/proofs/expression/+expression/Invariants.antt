use Rattle.std.proofs.Common.{◌+◌, ◌*◌, ◌<◌, ◌≤◌, length, map}
use Rattle.c_token.specs.declared.punct.Punct.TheVariants as p
use Rattle.c_tree.specs.View.{tree_of}
use Rattle.c_parser.specs.Chains.{all_assigned}
use Rattle.c_parser.specs.Cursor.Readings.{Listed, Ends}
use Rattle.c_parser.specs.Expressions.{Expression}
use Rattle.c_parser.proofs.CursorLemmas.Readings.{Grows, Step}
use Rattle.c_parser.proofs.Chains.{Runs}
use Rattle.c_parser.proofs.Subscripts.{SubscriptSigns}
use Rattle.c_parser.proofs.expression.+expression.Given as goal

-- A call takes a token, or goes to a tighter level.
abbrev pub decreases-expression : goal.decreases-expression
decreases-expression l = 1000 * length l.cursor.now + 3 * l.level + 5

abbrev pub decreases-closed : goal.decreases-closed
decreases-closed l = 1000 * length l.cursor.now + 3 * l.level + 6

abbrev pub decreases-choice : goal.decreases-choice
decreases-choice l = 1000 * length l.cursor.now + 42

abbrev pub decreases-chosen : goal.decreases-chosen
decreases-chosen l = 1000 * length l.cursor.now + 60

abbrev pub decreases-assignment : goal.decreases-assignment
decreases-assignment l = 1000 * length l.cursor.now + 45

abbrev pub decreases-unary : goal.decreases-unary
decreases-unary l = 1000 * length l.cursor.now + 3

abbrev pub decreases-cast : goal.decreases-cast
decreases-cast l = 1000 * length l.cursor.now + 60

abbrev pub decreases-target : goal.decreases-target
decreases-target l = 1000 * length l.cursor.now + 1

abbrev pub decreases-postfix : goal.decreases-postfix
decreases-postfix l = 1000 * length l.cursor.now + 1

abbrev pub decreases-primary : goal.decreases-primary
decreases-primary l = 1000 * length l.cursor.now

abbrev pub decreases-named : goal.decreases-named
decreases-named l = 1000 * length l.cursor.now + 62

abbrev pub decreases-arguments : goal.decreases-arguments
decreases-arguments l = 1000 * length l.cursor.now + 61

abbrev pub decreases-argument_list : goal.decreases-argument_list
decreases-argument_list l = 1000 * length l.cursor.now + 60

abbrev pub decreases-subscripts : goal.decreases-subscripts
decreases-subscripts l = 1000 * length l.cursor.now + 60

abbrev pub invariant-assignment-chain : goal.invariant-assignment-chain
invariant-assignment-chain l = record {
  shorter : length l.cursor ≤ length l.fn.cursor;
  step : Step (Expression 14) (Ends 14) l.fn.cursor (Expression 14) (Ends 14) l.cursor (all_assigned l.chain.items);
}

abbrev pub decreases-assignment-chain : goal.decreases-assignment-chain
decreases-assignment-chain l = length l.cursor

abbrev pub invariant-argument_list-loop-args : goal.invariant-argument_list-loop-args
invariant-argument_list-loop-args l = record {
  shorter : length l.cursor ≤ length l.fn.cursor;
  grows : Grows (Listed (Expression 14) p.RightParen) l.fn.cursor (map tree_of l.args.items) l.cursor;
}

abbrev pub decreases-argument_list-loop-args : goal.decreases-argument_list-loop-args
decreases-argument_list-loop-args l = length l.cursor

abbrev pub invariant-expression-loop-joiner : goal.invariant-expression-loop-joiner
invariant-expression-loop-joiner l = record {
  shorter : length l.cursor < length l.fn.cursor;
  runs : Runs l.level l.fn.cursor (tree_of l.left) l.cursor;
}

abbrev pub decreases-expression-loop-joiner : goal.decreases-expression-loop-joiner
decreases-expression-loop-joiner l = length l.cursor

abbrev pub invariant-subscripts-loop-alloc : goal.invariant-subscripts-loop-alloc
invariant-subscripts-loop-alloc l = record {
  shorter : length l.cursor ≤ length l.fn.cursor;
  grows : Grows SubscriptSigns l.fn.cursor (map tree_of l.es.items) l.cursor;
}

abbrev pub decreases-subscripts-loop-alloc : goal.decreases-subscripts-loop-alloc
decreases-subscripts-loop-alloc l = length l.cursor
