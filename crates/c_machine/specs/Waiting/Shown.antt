-- What the values of the machine's code show.
use Rattle.std.specs.Prelude.{ℕ, Bool, List, [], ◌∷◌, map, drop, Option, Some, None, pos, true}
use Rattle.std.specs.Option.{option_map, option_copied}
use Rattle.hls_base.specs.declared.place.Place.{Place}
use Rattle.c_tree.specs.Tree.{Tree, StmtTree, FunctionTree}
use Rattle.c_value.specs.Values.{int_type}
use Rattle.c_meaning.specs.Expression.{value}
use Rattle.c_tree.specs.View.{tree_of, trees_of, action_of, init_of, inits_of, object_of, stmt_of, stmts_of, else_of, else_part, function_of}
use Rattle.c_meaning.specs.Store.{lengths_in}
use Rattle.c_machine.specs.Frames as f
use Rattle.c_machine.specs.declared.waiting.frame.Loop.{Loop}
use Rattle.c_machine.specs.declared.waiting.frame.Rounds.{Rounds}
use Rattle.c_machine.specs.declared.waiting.frame.Rounds.TheVariants as r
use Rattle.c_machine.specs.declared.waiting.frame.Stage.{Stage}
use Rattle.c_machine.specs.declared.waiting.frame.Stage.TheVariants as stage
use Rattle.c_machine.specs.declared.waiting.frame.Caller.{Caller}
use Rattle.c_machine.specs.declared.waiting.frame.Caller.TheVariants as caller
use Rattle.c_machine.specs.declared.waiting.frame.Use.{Use}
use Rattle.c_machine.specs.declared.waiting.frame.Use.TheVariants as u
use Rattle.c_machine.specs.declared.waiting.frame.ValueFrame.{ValueFrame}
use Rattle.c_machine.specs.declared.waiting.frame.ValueFrame.TheVariants as v
use Rattle.c_machine.specs.declared.waiting.frame.EndFrame.{EndFrame}
use Rattle.c_machine.specs.declared.waiting.frame.EndFrame.TheVariants as e
use Rattle.c_machine.specs.declared.waiting.frame.Frame.{Frame}
use Rattle.c_machine.specs.declared.waiting.frame.Frame.TheVariants as frame
use Rattle.c_machine.specs.declared.waiting.frame.Step.{Step}
use Rattle.c_machine.specs.declared.waiting.frame.Step.TheVariants as s
use Rattle.c_machine.specs.declared.waiting.frame.Spot.{Spot}
use Rattle.c_machine.specs.declared.waiting.frame.Control.{Control}
use Rattle.c_machine.specs.declared.waiting.frame.Control.TheVariants as c

abbrev pub first_of : {A : Type 0} → List A → Option A
first_of [] = None
first_of (x ∷ xs) = Some x

abbrev pub loop_with : Rounds → StmtTree → Place → f.Loop
loop_with (r.TestFirst test step) body at = f.tests_first (option_map tree_of (option_copied test)) body (map action_of step.now) at
loop_with (r.TestLast test) body at = f.tests_last (tree_of test.now) body at

abbrev pub loop_of : Loop → f.Loop
loop_of l = loop_with l.rounds (stmt_of l.body.now.value) l.at

abbrev pub use_of : Use → f.Use
use_of (u.Reading array at) = f.reading array.now at
use_of (u.Assigning a value) = f.assigning a.name.now a.op (tree_of value.now) a.place a.at
use_of (u.Bumping name up post place at) = f.bumping name.now up post place at

abbrev pub value_frame_of : ValueFrame → f.ValueFrame
value_frame_of (v.Unary op at) = f.unary op at
value_frame_of (v.Left op right at) = f.left op (tree_of right.now) at
value_frame_of (v.Right op x at) = f.right op x at
value_frame_of (v.Reached fork at) = f.reached fork at
value_frame_of (v.Choice c) = f.choice (tree_of c.first.now) (tree_of c.second.now) c.at c.colon
value_frame_of (v.Chosen fork at kind) = f.chosen fork at kind
value_frame_of (v.Cast to) = f.cast to
value_frame_of (v.Comma right) = f.comma (tree_of right.now)
value_frame_of (v.Subscript others u) = f.subscript (trees_of others.now) (use_of u)
value_frame_of (v.AssignedTo a) = f.assigned_to a.name.now a.op a.place a.at
value_frame_of (v.Argument call) = f.argument (trees_of call.others.now) call.callee.now call.used call.at
value_frame_of (v.Acting more) = f.acting (map action_of more.now)
value_frame_of (v.Initial object element) = f.initial object element
value_frame_of (v.IfTest b) = f.if_test b.tail (stmt_of b.body.now.value) (else_part (option_map else_of (option_copied b.other))) b.at
value_frame_of (v.SwitchTest body at) = f.switch_test (stmts_of body.now) at
value_frame_of (v.LoopTest l spent) = f.loop_test (loop_of l) spent
value_frame_of (v.Returning tail) = f.returning tail

abbrev pub looping_of : Stage → f.Loop → ℕ → f.EndFrame
looping_of stage.First l spent = f.for_first l
looping_of stage.Body l spent = f.loop_body l spent
looping_of stage.Step l spent = f.loop_step l spent

abbrev pub is_used : Caller → Bool
is_used (caller.Expression used) = used
is_used caller.Nowhere = true

abbrev pub calling_of : Caller → FunctionTree → ℕ → f.EndFrame
calling_of (caller.Expression used) fn count = f.called_by used fn count
calling_of caller.Nowhere fn count = f.top fn count

abbrev pub end_frame_of : EndFrame → f.EndFrame
end_frame_of (e.Rows rows) = f.rows rows.object rows.count (drop rows.depth (lengths_in (object_of rows.declared.now))) (inits_of rows.others.now) rows.element
end_frame_of (e.Declaring os) = f.declaring (map object_of os.now)
end_frame_of (e.Items tail others count) = f.items tail (stmts_of others.now) count
end_frame_of (e.BehindIf at) = f.behind_if at
end_frame_of (e.BehindSwitch at) = f.behind_switch at
end_frame_of e.Leaving = f.leaving
end_frame_of (e.Looping st l spent) = looping_of st (loop_of l) spent
end_frame_of (e.Calling back function count) = calling_of back (function_of function.now) count

abbrev pub frame_of : Frame → f.Frame
frame_of (frame.OnValue v) = f.on_value (value_frame_of v)
frame_of (frame.OnEnd e) = f.on_end (end_frame_of e)

abbrev pub step_of : Step → f.Step
step_of (s.Evaluate used e) = f.evaluate used (tree_of e.now)
step_of (s.Give v) = f.give v
step_of (s.Execute tail stmt) = f.execute tail (stmt_of stmt.now)
step_of (s.Complete r) = f.complete r
step_of (s.Subscripts others u) = f.subscripts (trees_of others.now) (use_of u)
step_of (s.Arguments call) = f.arguments (trees_of call.others.now) call.callee.now call.used call.at
step_of (s.Act actions) = f.act (map action_of actions.now)
step_of (s.Initialise i) = f.initialise i.object (drop i.depth (lengths_in (object_of i.declared.now))) (init_of i.init.now) i.element
step_of (s.Block tail body) = f.block tail (stmts_of body.now)
step_of (s.Forget object) = f.forget object
step_of (s.Jump x body) = f.jump x (stmts_of body.now)
step_of (s.Finish n) = f.finish n

-- the test of an iteration; one that is missing holds
abbrev pub test_step : Option Tree → f.Step
test_step None = f.give (value int_type (pos 1))
test_step (Some test) = f.evaluate true test

abbrev pub going_of : Option Spot → f.Step → f.Control
going_of None step = f.next step
going_of (Some spot) step = f.before spot.kind spot.at step

abbrev pub control_of : Control → f.Control
control_of (c.Going spot step) = going_of spot (step_of step)
control_of (c.Ended n) = f.ended n
control_of (c.Undefined rule at) = f.undefined rule at
control_of c.Stuck = f.stuck

-- no step follows at once
abbrev pub is_resting : f.Control → Type 0
is_resting (f.next step) = ⊥
is_resting _ = Unit {0}
