-- The parts of a loop and of an `if`.
use Rattle.std.specs.Prelude.{Bool, false, List, map, Option, Some, None}
use Rattle.std.specs.Borrow.{Bor}
use Rattle.hls_base.specs.declared.place.Place.{Place}
use Rattle.pieces.specs.declared.resolved.expression.CoreExpr.{CoreExpr}
use Rattle.pieces.specs.Resolved.Core.{CoreTree, CoreStmtTree, CoreActionTree, if_}
use Rattle.pieces.specs.Resolved.CoreView.{core_of, core_stmt_of, core_action_of, core_else_of, core_else_part}
use Rattle.std.specs.Option.{option_map}
use Rattle.piece_making.specs.Making.{State, Part}
use Rattle.piece_making.specs.Calls.{Call}
use Rattle.c_expand.specs.declared.statements.Loop.{Loop}
use Rattle.c_expand.specs.declared.statements.If.{If}
use Rattle.c_expand.specs.Expressions.{Callee}
use Rattle.c_expand.specs.Statements.{statement, repeat}

pub record LoopTree : Type 0 where
  pub post : Bool
  pub test : Option CoreTree
  pub body : CoreStmtTree
  pub step : List CoreActionTree
  pub at : Place

abbrev pub loop_tree : Bool → Option CoreTree → CoreStmtTree → List CoreActionTree → Place → LoopTree
loop_tree post test body step at = record { post = post; test = test; body = body; step = step; at = at }

abbrev pub test_of : Option (Bor CoreExpr) → Option CoreTree
test_of None = None
test_of (Some test) = Some (core_of test.now)

abbrev pub loop_of : Loop → LoopTree
loop_of l = loop_tree l.post (test_of l.test) (core_stmt_of l.body.now) (map core_action_of l.step.now) l.at

abbrev pub repeat_of : Callee → Call → LoopTree → State → Part (Unit {0})
repeat_of f c l s = repeat f c l.post l.test (statement f c l.body false) l.step l.at s

abbrev pub if_of : If → CoreStmtTree
if_of i = if_ (core_of i.test.now) (core_stmt_of i.yes.now) (core_else_part (option_map core_else_of i.no.now)) i.at
