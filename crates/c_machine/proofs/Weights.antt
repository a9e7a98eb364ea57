-- Between two points a machine takes trees apart: each move leaves less.
use Rattle.std.proofs.Common.{ℕ, zero, suc, ◌+◌, ◌<◌, List, [], ◌∷◌, take, ◌&&◌, ◌||◌, ℤ, Option, Some, None, is_some, Bool, true, false, if◌then◌else◌, arith}
use Rattle.hls_base.specs.declared.place.Place.{Place}
use Rattle.hls_base.specs.declared.point.PointKind.{PointKind}
use Rattle.hls_base.specs.declared.point.PointKind.TheVariants as point
use Rattle.hls_base.specs.declared.refusal.UbRule.TheVariants as ub
use Rattle.c_token.specs.declared.ctype.CType.{CType}
use Rattle.c_tree.specs.declared.operator.Binary.{Binary}
use Rattle.c_tree.specs.declared.operator.Binary.TheVariants as b
use Rattle.c_tree.specs.Tree as tree
use Rattle.c_tree.specs.Tree.{Tree, TargetTree, Trees, ActionTree, InitTree, InitTrees, ObjectTree, StmtTree, StmtTrees, ElseTree, FirstTree, FunctionTree}
use Rattle.c_value.specs.Values.{promoted, convert, common}
use Rattle.c_value.specs.Operators.{is_true, unary_kind, unary_value}
use Rattle.c_meaning.specs.declared.value.Value.{Value}
use Rattle.c_meaning.specs.declared.value.Argument.{Argument}
use Rattle.c_meaning.specs.declared.value.Completion.{Completion}
use Rattle.c_meaning.specs.declared.value.Completion.TheVariants as end
use Rattle.c_meaning.specs.declared.value.Round.{Round}
use Rattle.c_meaning.specs.declared.value.Round.TheVariants as round
use Rattle.c_meaning.specs.Store.{object_named, declared, declared_first, lengths_in}
use Rattle.c_meaning.specs.Steps as Steps
use Rattle.c_meaning.specs.Steps.{Outcome}
use Rattle.c_meaning.specs.Expression.{acts, computed, operated, read_object, assigned, bumped, array_given}
use Rattle.c_meaning.specs.Statement.{action_tree, target_label, round_of}
use Rattle.c_meaning.specs.Run.{function_named}
use Rattle.c_machine.specs.Frames as f
use Rattle.c_machine.specs.Frames.{Loop, Use, ValueFrame, EndFrame, Frame, Step, Control, Configuration, in_environment, numbers_closed, given_closed}
use Rattle.c_machine.specs.State.Lists.{latest}
use Rattle.c_machine.specs.Moves as v
use Rattle.c_machine.specs.Moves.{here, holding, pushed, still, left_scope, block_entered, Landing, landing}

-- ---- sizes of trees

abbrev mutual
  pub tree_size : Tree → ℕ
  tree_size (tree.number n kind at) = 2
  tree_size (tree.name text at) = 2
  tree_size (tree.index array subscripts at) = 4 + trees_size subscripts
  tree_size (tree.call callee args at) = 4 + trees_size args
  tree_size (tree.unary op arg at) = 3 + tree_size arg
  tree_size (tree.binary op first second at) = 5 + tree_size first + tree_size second
  tree_size (tree.choice test first second at colon) = 5 + tree_size test + tree_size first + tree_size second
  tree_size (tree.cast to arg at) = 3 + tree_size arg
  tree_size (tree.assign (tree.target text subscripts place) op x at) = 6 + trees_size subscripts + tree_size x
  tree_size (tree.bump (tree.target text subscripts place) up post at) = 4 + trees_size subscripts
  tree_size (tree.comma first second at) = 4 + tree_size first + tree_size second

  pub trees_size : Trees → ℕ
  trees_size tree.none = 0
  trees_size (tree.more first others) = 3 + tree_size first + trees_size others

abbrev pub actions_size : List ActionTree → ℕ
actions_size [] = 0
actions_size (a ∷ more) = tree_size (action_tree a) + actions_size more

abbrev mutual
  pub init_size : InitTree → ℕ
  init_size (tree.single x) = 3 + tree_size x
  init_size (tree.braced items at) = 4 + inits_size items

  pub inits_size : InitTrees → ℕ
  inits_size tree.no_init = 0
  inits_size (tree.more_inits first others) = init_size first + inits_size others

abbrev pub given_size : Option InitTree → ℕ
given_size None = 0
given_size (Some init) = init_size init

abbrev pub objects_size : List ObjectTree → ℕ
objects_size [] = 0
objects_size (o ∷ os) = 2 + given_size o.init + objects_size os

abbrev pub returned_size : Option Tree → ℕ
returned_size None = 0
returned_size (Some x) = tree_size x

abbrev mutual
  pub stmt_size : StmtTree → ℕ
  stmt_size (tree.block body) = 4 + stmts_size body
  stmt_size (tree.declare os) = 3 + objects_size os
  stmt_size (tree.act actions) = 3 + actions_size actions
  stmt_size (tree.if_ test body other at) = 3 + tree_size test
  stmt_size (tree.switch_ test body at) = 5 + tree_size test
  stmt_size (tree.case_ x body at) = 2
  stmt_size (tree.while_ test body at) = 2
  stmt_size (tree.do_ body test at) = 2
  stmt_size (tree.for_ init test step body at) = 4 + first_size init
  stmt_size (tree.break_ at) = 2
  stmt_size (tree.continue_ at) = 2
  stmt_size (tree.return_ x at) = 2 + returned_size x

  pub first_size : FirstTree → ℕ
  first_size tree.no_first = 0
  first_size (tree.first part) = stmt_size part

  pub stmts_size : StmtTrees → ℕ
  stmts_size tree.no_stmt = 0
  stmts_size (tree.more_stmts first others) = stmt_size first + stmts_size others

-- ---- what is left to take apart

abbrev pub use_size : Use → ℕ
use_size (f.reading array at) = 0
use_size (f.assigning text op x place at) = 2 + tree_size x
use_size (f.bumping text up post place at) = 0

abbrev pub value_frame_size : ValueFrame → ℕ
value_frame_size (f.left op right at) = 2 + tree_size right
value_frame_size (f.choice first second at colon) = 2 + tree_size first + tree_size second
value_frame_size (f.comma right) = 1 + tree_size right
value_frame_size (f.subscript others u) = 2 + trees_size others + use_size u
value_frame_size (f.argument others callee used at) = 2 + trees_size others
value_frame_size (f.acting more) = 2 + actions_size more
value_frame_size (f.switch_test body at) = 4
value_frame_size _ = 1

abbrev pub end_frame_size : EndFrame → ℕ
end_frame_size (f.rows object count lengths items element) = 2 + inits_size items
end_frame_size (f.declaring os) = 1 + objects_size os
end_frame_size (f.items tail items count) = 1 + stmts_size items
end_frame_size _ = 1

abbrev pub stack_size : List Frame → ℕ
stack_size [] = 0
stack_size (f.on_value frame ∷ frames) = value_frame_size frame + stack_size frames
stack_size (f.on_end frame ∷ frames) = end_frame_size frame + stack_size frames

abbrev pub step_size : Step → ℕ
step_size (f.evaluate used t) = tree_size t
step_size (f.give x) = 1
step_size (f.execute tail stmt) = stmt_size stmt
step_size (f.complete r) = 1
step_size (f.subscripts others u) = 2 + trees_size others + use_size u
step_size (f.arguments others callee used at) = 2 + trees_size others
step_size (f.act actions) = 2 + actions_size actions
step_size (f.initialise object lengths init element) = init_size init
step_size (f.block tail body) = 3 + stmts_size body
step_size (f.forget object) = 2
step_size (f.jump x body) = 3
step_size (f.finish n) = 2

abbrev pub control_size : Control → ℕ → ℕ
control_size (f.next step) frames = 1 + step_size step + frames
control_size _ frames = 0

-- what a machine has to take apart before its next point
abbrev pub weight : Configuration → ℕ
weight m = control_size m.control (stack_size m.stack)

-- ---- each move leaves less than its step and the stack

abbrev Below : Configuration → ℕ → Type 0
Below m n = weight m < n

concluded-less : (out : Outcome Value) (m : Configuration) (n : ℕ) → 2 + stack_size m.stack < n → Below (v.concluded out m) n
concluded-less (Steps.went x s) m n h = omega arith
concluded-less (Steps.undefined rule at) m n h = omega arith
concluded-less Steps.waiting m n h = omega arith

evaluated-less : (used : Bool) (t : Tree) (m : Configuration) → Below (v.evaluated used t m) (1 + tree_size t + stack_size m.stack)
evaluated-less used (tree.number n kind at) m = omega arith
evaluated-less used (tree.name text at) m = concluded-less (read_object (object_named (here m) text) [] at (still m)).outcome m (3 + stack_size m.stack) (omega arith)
evaluated-less used (tree.index array subscripts at) m = omega arith
evaluated-less used (tree.call callee args at) m = omega arith
evaluated-less used (tree.unary op arg at) m = omega arith
evaluated-less used (tree.binary op first second at) m = omega arith
evaluated-less used (tree.choice test first second at colon) m = omega arith
evaluated-less used (tree.cast to arg at) m = omega arith
evaluated-less used (tree.assign (tree.target text subscripts place) op x at) m = omega arith
evaluated-less used (tree.bump (tree.target text subscripts place) up post at) m = omega arith
evaluated-less used (tree.comma first second at) m = omega arith

used_for-less : (u : Use) (m : Configuration) → Below (v.used_for u m) (3 + use_size u + stack_size m.stack)
used_for-less (f.reading array at) m =
    concluded-less (read_object (object_named (here m) array) (latest m.held.numbers) at (still m)).outcome (holding (numbers_closed m.held) m) (3 + stack_size m.stack) (omega arith)
used_for-less (f.assigning text op x place at) m = omega arith
used_for-less (f.bumping text up post place at) m =
    concluded-less (bumped up post (object_named (here m) text) (latest m.held.numbers) place at (still m)).outcome (holding (numbers_closed m.held) m) (3 + stack_size m.stack) (omega arith)

next_subscript-less : (others : Trees) (u : Use) (m : Configuration) → Below (v.next_subscript others u m) (3 + trees_size others + use_size u + stack_size m.stack)
next_subscript-less tree.none u m = let h = used_for-less u m in omega arith
next_subscript-less (tree.more first others) u m = omega arith

called-less : (used : Bool) (o : Option FunctionTree) (given : List Argument) (at : Place) (m : Configuration) → Below (v.called used o given at m) (3 + stack_size m.stack)
called-less used None given at m = omega arith
called-less used (Some fn) given at m = omega arith

argument_begun-less : (o : Option ℕ) (first : Tree) (others : Trees) (callee : List ℕ) (used : Bool) (at : Place) (m : Configuration)
    → Below (v.argument_begun o first others callee used at m) (6 + tree_size first + trees_size others + stack_size m.stack)
argument_begun-less (Some object) first others callee used at m = omega arith
argument_begun-less None first others callee used at m = omega arith

next_argument-less : (others : Trees) (callee : List ℕ) (used : Bool) (at : Place) (m : Configuration)
    → Below (v.next_argument others callee used at m) (3 + trees_size others + stack_size m.stack)
next_argument-less tree.none callee used at m = called-less used (function_named m.items callee) (latest m.held.given) at (holding (given_closed m.held) m)
next_argument-less (tree.more first others) callee used at m =
    let h = argument_begun-less (array_given (here m) (still m) first) first others callee used at m in omega arith

next_action-less : (actions : List ActionTree) (m : Configuration) → Below (v.next_action actions m) (3 + actions_size actions + stack_size m.stack)
next_action-less [] m = omega arith
next_action-less (a ∷ more) m = let h = evaluated-less false (action_tree a) (pushed (f.on_value (f.acting more)) m) in omega arith

at_fork-less : (fork : Bool) (kind : PointKind) (at : Place) (step : Step) (m : Configuration) (n : ℕ) → 1 + step_size step + stack_size m.stack < n → Below (v.at_fork fork kind at step m) n
at_fork-less true kind at step m n h = omega arith
at_fork-less false kind at step m n h = h

reached-less : (fork : Bool) (right : Tree) (at : Place) (m : Configuration) → Below (v.reached fork right at m) (3 + tree_size right + stack_size m.stack)
reached-less fork right at m =
    at_fork-less fork point.Arm at (f.evaluate true right) (pushed (f.on_value (f.reached fork at)) m) (3 + tree_size right + stack_size m.stack) (omega arith)

not_reached-less : (fork decided : Bool) (right : Tree) (at : Place) (m : Configuration) → Below (v.not_reached fork decided at m) (3 + tree_size right + stack_size m.stack)
not_reached-less true decided right at m = omega arith
not_reached-less false decided right at m = omega arith

joined-less : (op : Binary) (x : Value) (right : Tree) (at : Place) (m : Configuration) → Below (v.joined op x right at m) (3 + tree_size right + stack_size m.stack)
joined-less b.LogAnd x right at m =
    elim (is_true x.number) as (λ holds. Below (if holds then v.reached (acts right) right at m else v.not_reached (acts right) false at m) (3 + tree_size right + stack_size m.stack))
    [ true ↦ reached-less (acts right) right at m | false ↦ not_reached-less (acts right) false right at m ]
joined-less b.LogOr x right at m =
    elim (is_true x.number) as (λ holds. Below (if holds then v.not_reached (acts right) true at m else v.reached (acts right) right at m) (3 + tree_size right + stack_size m.stack))
    [ true ↦ not_reached-less (acts right) true right at m | false ↦ reached-less (acts right) right at m ]
joined-less _ x right at m = omega arith

chosen-less : (fork : Bool) (arm at : Place) (kind : CType) (operand : Tree) (m : Configuration) → Below (v.chosen fork arm at kind operand m) (3 + tree_size operand + stack_size m.stack)
chosen-less fork arm at kind operand m =
    at_fork-less fork point.Arm arm (f.evaluate true operand) (pushed (f.on_value (f.chosen fork at kind)) m) (3 + tree_size operand + stack_size m.stack) (omega arith)

picked-less : (holds fork : Bool) (kind : CType) (first second : Tree) (at colon : Place) (m : Configuration)
    → Below (if holds then v.chosen fork at at kind first m else v.chosen fork colon at kind second m) (4 + tree_size first + tree_size second + stack_size m.stack)
picked-less true fork kind first second at colon m = let h = chosen-less fork at at kind first m in omega arith
picked-less false fork kind first second at colon m = let h = chosen-less fork colon at kind second m in omega arith

-- ---- declarations

initialised-less : (object : ℕ) (lengths : List ℕ) (init : InitTree) (element : ℕ) (m : Configuration) → Below (v.initialised object lengths init element m) (1 + init_size init + stack_size m.stack)
initialised-less object lengths (tree.single x) element m = omega arith
initialised-less object [] (tree.braced items at) element m = omega arith
initialised-less object (len ∷ lengths) (tree.braced items at) element m = omega arith

next_row-less : (object count : ℕ) (lengths : List ℕ) (items : InitTrees) (element : ℕ) (m : Configuration)
    → Below (v.next_row object count lengths items element m) (4 + inits_size items + stack_size m.stack)
next_row-less object count lengths tree.no_init element m = omega arith
next_row-less object zero lengths (tree.more_inits first others) element m = omega arith
next_row-less object (suc count) lengths (tree.more_inits first others) element m = omega arith

object_declared-less : (init : Option InitTree) (lengths : List ℕ) (object : ℕ) (m : Configuration) → Below (v.object_declared init lengths object m) (4 + given_size init + stack_size m.stack)
object_declared-less None lengths object m = omega arith
object_declared-less (Some init) lengths object m = omega arith

next_object-less : (os : List ObjectTree) (m : Configuration) → Below (v.next_object os m) (3 + objects_size os + stack_size m.stack)
next_object-less [] m = omega arith
next_object-less (o ∷ os) m =
    let h = object_declared-less o.init (lengths_in o) (here m).next (pushed (f.on_end (f.declaring os)) (holding (in_environment (declared (here m) o.name) m.held) m)) in omega arith

-- ---- loops, which pass points

round_begun-less : (l : Loop) (spent : ℕ) (m : Configuration) (n : ℕ) → 0 < n → Below (v.round_begun l spent m) n
round_begun-less (f.tests_first None body step at) spent m n h = h
round_begun-less (f.tests_first (Some test) body step at) spent m n h = h
round_begun-less (f.tests_last test body at) spent m n h = h

tested-less : (l : Loop) (spent : ℕ) (holds : Bool) (m : Configuration) (n : ℕ) → 0 < n → Below (v.tested l spent holds m) n
tested-less (f.tests_first test body step at) spent true m n h = h
tested-less (f.tests_first test body step at) spent false m n h = h
tested-less (f.tests_last test body at) spent true m n h = h
tested-less (f.tests_last test body at) spent false m n h = h

stepping-less : (l : Loop) (spent : ℕ) (m : Configuration) (n : ℕ) → 0 < n → Below (v.stepping l spent m) n
stepping-less (f.tests_first test body [] at) spent m n h = round_begun-less (f.tests_first test body [] at) (spent + 1) m n h
stepping-less (f.tests_first test body (a ∷ more) at) spent m n h = h
stepping-less (f.tests_last test body at) spent m n h = h

body_left-less : (l : Loop) (spent : ℕ) (r : Round) (m : Configuration) → Below (v.body_left l spent r m) (3 + stack_size m.stack)
body_left-less l spent round.Again m = stepping-less l spent m (3 + stack_size m.stack) (omega arith)
body_left-less l spent round.Over m = omega arith
body_left-less l spent (round.Out n) m = omega arith

-- ---- statements

jumped_to-less : (l : Option Landing) (body : StmtTrees) (m : Configuration) → Below (v.jumped_to l body m) (4 + stack_size m.stack)
jumped_to-less None body m = omega arith
jumped_to-less (Some l) body m = omega arith

first_begun-less : (init : FirstTree) (l : Loop) (m : Configuration) → Below (v.first_begun init l m) (3 + first_size init + stack_size m.stack)
first_begun-less tree.no_first l m = round_begun-less l m.meter.passed m (3 + stack_size m.stack) (omega arith)
first_begun-less (tree.first part) l m = omega arith

executed-less : (tail : Bool) (stmt : StmtTree) (m : Configuration) → Below (v.executed tail stmt m) (1 + stmt_size stmt + stack_size m.stack)
executed-less tail (tree.block body) m = omega arith
executed-less tail (tree.declare os) m = omega arith
executed-less tail (tree.act actions) m = omega arith
executed-less tail (tree.if_ test body other at) m = omega arith
executed-less tail (tree.switch_ test body at) m = omega arith
executed-less tail (tree.case_ x body at) m = omega arith
executed-less tail (tree.while_ test body at) m = omega arith
executed-less tail (tree.do_ body test at) m = omega arith
executed-less tail (tree.for_ init test step body at) m =
    let h = first_begun-less init (f.tests_first test body step at) (block_entered (declared_first init) (f.items false tree.no_stmt) m) in omega arith
executed-less tail (tree.break_ at) m = omega arith
executed-less tail (tree.continue_ at) m = omega arith
executed-less tail (tree.return_ None at) m = omega arith
executed-less tail (tree.return_ (Some x) at) m = omega arith

branched-less : (tail holds : Bool) (body : StmtTree) (other : ElseTree) (at : Place) (m : Configuration) (n : ℕ) → 0 < n → Below (v.branched tail holds body other at m) n
branched-less tail true body other at m n h = h
branched-less tail false body tree.no_else at m n h = h
branched-less tail false body (tree.else_ place second) at m n h = h

next_item-less : (tail : Bool) (items : StmtTrees) (count : ℕ) (m : Configuration) → Below (v.next_item tail items count m) (3 + stmts_size items + stack_size m.stack)
next_item-less tail tree.no_stmt count m = omega arith
next_item-less tail (tree.more_stmts first others) count m = omega arith

items_resumed-less : (tail : Bool) (items : StmtTrees) (count : ℕ) (r : Completion) (m : Configuration) → Below (v.items_resumed tail items count r m) (3 + stmts_size items + stack_size m.stack)
items_resumed-less tail items count end.Normal m = next_item-less tail items count m
items_resumed-less tail items count end.Broke m = omega arith
items_resumed-less tail items count end.Continued m = omega arith
items_resumed-less tail items count (end.Returned n last) m = omega arith

if_left-less : (at : Place) (r : Completion) (m : Configuration) → Below (v.if_left at r m) (3 + stack_size m.stack)
if_left-less at end.Normal m = omega arith
if_left-less at end.Broke m = omega arith
if_left-less at end.Continued m = omega arith
if_left-less at (end.Returned n true) m = omega arith
if_left-less at (end.Returned n false) m = omega arith

switch_left-less : (at : Place) (r : Completion) (m : Configuration) → Below (v.switch_left at r m) (3 + stack_size m.stack)
switch_left-less at end.Normal m = omega arith
switch_left-less at end.Broke m = omega arith
switch_left-less at end.Continued m = omega arith
switch_left-less at (end.Returned n tail) m = omega arith

ends_without : (missing : Bool) (fn : FunctionTree) (m m1 : Configuration) (n : ℕ) → 0 < n
    → Below (if missing then record m { control = f.undefined ub.NoReturn fn.at } else v.at_point point.End fn.at (f.finish None) m1) n
ends_without true fn m m1 n h = h
ends_without false fn m m1 n h = h

call_left-less : (used : Bool) (fn : FunctionTree) (count : ℕ) (r : Completion) (m : Configuration) (n : ℕ) → 0 < n → Below (v.call_left used fn count r m) n
call_left-less used fn count (end.Returned x tail) m n h = h
call_left-less used fn count end.Normal m n h = ends_without (used && is_some fn.result) fn m (record m { objects = take count m.objects }) n h
call_left-less used fn count end.Broke m n h = ends_without (used && is_some fn.result) fn m (record m { objects = take count m.objects }) n h
call_left-less used fn count end.Continued m n h = ends_without (used && is_some fn.result) fn m (record m { objects = take count m.objects }) n h

-- ---- frames and steps

resumed-less : (frame : ValueFrame) (x : Value) (m : Configuration) → Below (v.resumed frame x m) (2 + value_frame_size frame + stack_size m.stack)
resumed-less (f.unary op at) x m = concluded-less (computed (unary_kind op x.kind) (unary_value op x.kind x.number) at (still m)).outcome m (3 + stack_size m.stack) (omega arith)
resumed-less (f.left op right at) x m = let h = joined-less op x right at m in omega arith
resumed-less (f.right op x at) y m = concluded-less (operated op x y at (still m)).outcome m (3 + stack_size m.stack) (omega arith)
resumed-less (f.reached true at) y m = omega arith
resumed-less (f.reached false at) y m = omega arith
resumed-less (f.choice first second at colon) x m =
    let h = picked-less (is_true x.number) (acts first || acts second) (common (v.kind_here m first) (v.kind_here m second)) first second at colon m in omega (arith, h)
resumed-less (f.chosen true at kind) y m = omega arith
resumed-less (f.chosen false at kind) y m = omega arith
resumed-less (f.cast to) x m = omega arith
resumed-less (f.comma right) x m = omega arith
resumed-less (f.subscript others u) x m = omega arith
resumed-less (f.assigned_to text op place at) x m =
    concluded-less (assigned op (object_named (here m) text) (latest m.held.numbers) place x at (still m)).outcome (holding (numbers_closed m.held) m) (3 + stack_size m.stack) (omega arith)
resumed-less (f.argument others callee used at) x m = omega arith
resumed-less (f.acting more) x m = omega arith
resumed-less (f.initial object element) x m = omega arith
resumed-less (f.if_test tail body other at) x m = branched-less tail (is_true x.number) body other at m (3 + stack_size m.stack) (omega arith)
resumed-less (f.switch_test body at) x m = omega arith
resumed-less (f.loop_test l spent) x m = tested-less l spent (is_true x.number) m (3 + stack_size m.stack) (omega arith)
resumed-less (f.returning tail) x m = omega arith

ended-less : (frame : EndFrame) (r : Completion) (m : Configuration) → Below (v.ended frame r m) (2 + end_frame_size frame + stack_size m.stack)
ended-less (f.rows object count lengths items element) r m = let h = next_row-less object count lengths items element m in omega (arith, h)
ended-less (f.declaring os) r m = let h = next_object-less os m in omega (arith, h)
ended-less (f.items tail items count) r m = let h = items_resumed-less tail items count r m in omega (arith, h)
ended-less (f.behind_if at) r m = if_left-less at r (left_scope m)
ended-less (f.behind_switch at) r m = switch_left-less at r m
ended-less f.leaving r m = omega arith
ended-less (f.loop_body l spent) r m = body_left-less l spent (round_of r) (left_scope m)
ended-less (f.loop_step l spent) r m = round_begun-less l (spent + 1) m (3 + stack_size m.stack) (omega arith)
ended-less (f.for_first l) r m = round_begun-less l m.meter.passed m (3 + stack_size m.stack) (omega arith)
ended-less (f.called_by used fn count) r m = call_left-less used fn count r (pushed (f.on_end (f.called_by used fn count)) m) (3 + stack_size m.stack) (omega arith)
ended-less (f.top fn count) r m = call_left-less true fn count r (pushed (f.on_end (f.top fn count)) m) (3 + stack_size m.stack) (omega arith)

given_value-less : (frames : List Frame) (x : Value) (m : Configuration) → Below (v.given_value frames x m) (2 + stack_size frames)
given_value-less [] x m = omega arith
given_value-less (f.on_value frame ∷ k) x m = let h = resumed-less frame x (record m { stack = k }) in omega arith
given_value-less (f.on_end frame ∷ k) x m = omega arith

given_end-less : (frames : List Frame) (r : Completion) (m : Configuration) → Below (v.given_end frames r m) (2 + stack_size frames)
given_end-less [] r m = omega arith
given_end-less (f.on_end frame ∷ k) r m = let h = ended-less frame r (record m { stack = k }) in omega arith
given_end-less (f.on_value frame ∷ k) r m = omega arith

finished-less : (frames : List Frame) (n : Option ℤ) (m : Configuration) → Below (v.finished frames n m) (3 + stack_size frames)
finished-less (f.on_end (f.called_by used fn count) ∷ k) n m = omega arith
finished-less (f.on_end (f.top fn count) ∷ k) n m = omega arith
finished-less (f.on_end (f.rows object count lengths items element) ∷ k) n m = omega arith
finished-less (f.on_end (f.declaring os) ∷ k) n m = omega arith
finished-less (f.on_end (f.items tail items count) ∷ k) n m = omega arith
finished-less (f.on_end (f.behind_if at) ∷ k) n m = omega arith
finished-less (f.on_end (f.behind_switch at) ∷ k) n m = omega arith
finished-less (f.on_end f.leaving ∷ k) n m = omega arith
finished-less (f.on_end (f.loop_body l spent) ∷ k) n m = omega arith
finished-less (f.on_end (f.loop_step l spent) ∷ k) n m = omega arith
finished-less (f.on_end (f.for_first l) ∷ k) n m = omega arith
finished-less (f.on_value frame ∷ k) n m = omega arith
finished-less [] n m = omega arith

pub stepped-less : (step : Step) (m : Configuration) → weight (v.stepped step m) < 1 + step_size step + stack_size m.stack
stepped-less (f.evaluate used t) m = evaluated-less used t m
stepped-less (f.give x) m = let h = given_value-less m.stack x m in omega (arith, h)
stepped-less (f.execute tail stmt) m = executed-less tail stmt m
stepped-less (f.complete r) m = let h = given_end-less m.stack r m in omega (arith, h)
stepped-less (f.subscripts others u) m = let h = next_subscript-less others u m in omega (arith, h)
stepped-less (f.arguments others callee used at) m = let h = next_argument-less others callee used at m in omega (arith, h)
stepped-less (f.act actions) m = let h = next_action-less actions m in omega (arith, h)
stepped-less (f.initialise object lengths init element) m = initialised-less object lengths init element m
stepped-less (f.block tail body) m = omega arith
stepped-less (f.forget object) m = omega arith
stepped-less (f.jump x body) m = let h = jumped_to-less (landing (target_label (promoted x.kind) (convert (promoted x.kind) x.number) body) body) body m in omega (arith, h)
stepped-less (f.finish n) m = let h = finished-less m.stack n m in omega (arith, h)
