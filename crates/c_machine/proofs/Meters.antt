-- No move changes what the meter reads.
use Rattle.std.proofs.Common.{◌≡◌, refl, ℕ, zero, suc, ◌+◌, List, [], ◌∷◌, take, ◌&&◌, ◌||◌, ℤ, Option, Some, None, is_some, Bool, true, false, if◌then◌else◌}
use Rattle.hls_base.specs.declared.place.Place.{Place}
use Rattle.hls_base.specs.declared.point.PointKind.{PointKind}
use Rattle.hls_base.specs.declared.point.PointKind.TheVariants as point
use Rattle.hls_base.specs.declared.refusal.UbRule.TheVariants as ub
use Rattle.c_token.specs.declared.ctype.CType.{CType}
use Rattle.c_tree.specs.declared.operator.Binary.{Binary}
use Rattle.c_tree.specs.declared.operator.Binary.TheVariants as b
use Rattle.c_tree.specs.Tree as tree
use Rattle.c_tree.specs.Tree.{Tree, Trees, ActionTree, InitTree, InitTrees, ObjectTree, StmtTree, StmtTrees, ElseTree, FirstTree, FunctionTree}
use Rattle.c_value.specs.Values.{promoted, convert, common}
use Rattle.c_value.specs.Operators.{is_true, unary_kind, unary_value}
use Rattle.c_meaning.specs.declared.value.Value.{Value}
use Rattle.c_meaning.specs.declared.value.Argument.{Argument}
use Rattle.c_meaning.specs.declared.value.Completion.{Completion}
use Rattle.c_meaning.specs.declared.value.Completion.TheVariants as end
use Rattle.c_meaning.specs.declared.value.Round.{Round}
use Rattle.c_meaning.specs.declared.value.Round.TheVariants as round
use Rattle.c_meaning.specs.Store.{object_named, declared, declared_first, lengths_in}
use Rattle.c_meaning.specs.Steps as Steps
use Rattle.c_meaning.specs.Steps.{Outcome}
use Rattle.c_meaning.specs.Expression.{acts, computed, operated, read_object, assigned, bumped, array_given}
use Rattle.c_meaning.specs.Statement.{action_tree, target_label, round_of}
use Rattle.c_meaning.specs.Run.{function_named}
use Rattle.c_machine.specs.Frames as f
use Rattle.c_machine.specs.Frames.{Loop, Use, ValueFrame, EndFrame, Frame, Step, Configuration, in_environment, numbers_closed, given_closed}
use Rattle.c_machine.specs.State.Lists.{latest}
use Rattle.c_machine.specs.Moves as v
use Rattle.c_machine.specs.Moves.{here, holding, pushed, still, left_scope, block_entered, Landing, landing}

-- ---- parts of moves

concluded-meter : (out : Outcome Value) (m : Configuration) → (v.concluded out m).meter ≡ m.meter
concluded-meter (Steps.went x s) m = refl
concluded-meter (Steps.undefined rule at) m = refl
concluded-meter Steps.waiting m = refl

at_point-meter : (kind : PointKind) (at : Place) (step : Step) (m : Configuration) → (v.at_point kind at step m).meter ≡ m.meter
at_point-meter kind at step m = refl

at_fork-meter : (fork : Bool) (kind : PointKind) (at : Place) (step : Step) (m : Configuration) → (v.at_fork fork kind at step m).meter ≡ m.meter
at_fork-meter true kind at step m = refl
at_fork-meter false kind at step m = refl

-- ---- expressions

evaluated-meter : (used : Bool) (t : Tree) (m : Configuration) → (v.evaluated used t m).meter ≡ m.meter
evaluated-meter used (tree.number n kind at) m = refl
evaluated-meter used (tree.name text at) m = concluded-meter (read_object (object_named (here m) text) [] at (still m)).outcome m
evaluated-meter used (tree.index array subscripts at) m = refl
evaluated-meter used (tree.call callee args at) m = refl
evaluated-meter used (tree.unary op arg at) m = refl
evaluated-meter used (tree.binary op first second at) m = refl
evaluated-meter used (tree.choice test first second at colon) m = refl
evaluated-meter used (tree.cast to arg at) m = refl
evaluated-meter used (tree.assign (tree.target text subscripts place) op x at) m = refl
evaluated-meter used (tree.bump (tree.target text subscripts place) up post at) m = refl
evaluated-meter used (tree.comma first second at) m = refl

used_for-meter : (u : Use) (m : Configuration) → (v.used_for u m).meter ≡ m.meter
used_for-meter (f.reading array at) m = concluded-meter (read_object (object_named (here m) array) (latest m.held.numbers) at (still m)).outcome (holding (numbers_closed m.held) m)
used_for-meter (f.assigning text op x place at) m = refl
used_for-meter (f.bumping text up post place at) m = concluded-meter (bumped up post (object_named (here m) text) (latest m.held.numbers) place at (still m)).outcome (holding (numbers_closed m.held) m)

next_subscript-meter : (others : Trees) (u : Use) (m : Configuration) → (v.next_subscript others u m).meter ≡ m.meter
next_subscript-meter tree.none u m = used_for-meter u m
next_subscript-meter (tree.more first others) u m = refl

called-meter : (used : Bool) (o : Option FunctionTree) (given : List Argument) (at : Place) (m : Configuration) → (v.called used o given at m).meter ≡ m.meter
called-meter used None given at m = refl
called-meter used (Some fn) given at m = refl

argument_begun-meter : (o : Option ℕ) (first : Tree) (others : Trees) (callee : List ℕ) (used : Bool) (at : Place) (m : Configuration) → (v.argument_begun o first others callee used at m).meter ≡ m.meter
argument_begun-meter (Some object) first others callee used at m = refl
argument_begun-meter None first others callee used at m = refl

next_argument-meter : (others : Trees) (callee : List ℕ) (used : Bool) (at : Place) (m : Configuration) → (v.next_argument others callee used at m).meter ≡ m.meter
next_argument-meter tree.none callee used at m = called-meter used (function_named m.items callee) (latest m.held.given) at (holding (given_closed m.held) m)
next_argument-meter (tree.more first others) callee used at m = argument_begun-meter (array_given (here m) (still m) first) first others callee used at m

next_action-meter : (actions : List ActionTree) (m : Configuration) → (v.next_action actions m).meter ≡ m.meter
next_action-meter [] m = refl
next_action-meter (a ∷ more) m = evaluated-meter false (action_tree a) (pushed (f.on_value (f.acting more)) m)

reached-meter : (fork : Bool) (right : Tree) (at : Place) (m : Configuration) → (v.reached fork right at m).meter ≡ m.meter
reached-meter fork right at m = at_fork-meter fork point.Arm at (f.evaluate true right) (pushed (f.on_value (f.reached fork at)) m)

not_reached-meter : (fork decided : Bool) (at : Place) (m : Configuration) → (v.not_reached fork decided at m).meter ≡ m.meter
not_reached-meter true decided at m = refl
not_reached-meter false decided at m = refl

joined-meter : (op : Binary) (x : Value) (right : Tree) (at : Place) (m : Configuration) → (v.joined op x right at m).meter ≡ m.meter
joined-meter b.LogAnd x right at m = elim (is_true x.number) as (λ holds. (if holds then v.reached (acts right) right at m else v.not_reached (acts right) false at m).meter ≡ m.meter) [ true ↦ reached-meter (acts right) right at m | false ↦ not_reached-meter (acts right) false at m ]
joined-meter b.LogOr x right at m = elim (is_true x.number) as (λ holds. (if holds then v.not_reached (acts right) true at m else v.reached (acts right) right at m).meter ≡ m.meter) [ true ↦ not_reached-meter (acts right) true at m | false ↦ reached-meter (acts right) right at m ]
joined-meter _ x right at m = refl

chosen-meter : (fork : Bool) (arm at : Place) (kind : CType) (operand : Tree) (m : Configuration) → (v.chosen fork arm at kind operand m).meter ≡ m.meter
chosen-meter fork arm at kind operand m = at_fork-meter fork point.Arm arm (f.evaluate true operand) (pushed (f.on_value (f.chosen fork at kind)) m)

picked-meter : (holds fork : Bool) (kind : CType) (first second : Tree) (at colon : Place) (m : Configuration) → (if holds then v.chosen fork at at kind first m else v.chosen fork colon at kind second m).meter ≡ m.meter
picked-meter true fork kind first second at colon m = chosen-meter fork at at kind first m
picked-meter false fork kind first second at colon m = chosen-meter fork colon at kind second m

-- ---- declarations

initialised-meter : (object : ℕ) (lengths : List ℕ) (init : InitTree) (element : ℕ) (m : Configuration) → (v.initialised object lengths init element m).meter ≡ m.meter
initialised-meter object lengths (tree.single x) element m = refl
initialised-meter object [] (tree.braced items at) element m = refl
initialised-meter object (len ∷ lengths) (tree.braced items at) element m = refl

next_row-meter : (object count : ℕ) (lengths : List ℕ) (items : InitTrees) (element : ℕ) (m : Configuration) → (v.next_row object count lengths items element m).meter ≡ m.meter
next_row-meter object count lengths tree.no_init element m = refl
next_row-meter object zero lengths (tree.more_inits first others) element m = refl
next_row-meter object (suc count) lengths (tree.more_inits first others) element m = refl

object_declared-meter : (init : Option InitTree) (lengths : List ℕ) (object : ℕ) (m : Configuration) → (v.object_declared init lengths object m).meter ≡ m.meter
object_declared-meter None lengths object m = refl
object_declared-meter (Some init) lengths object m = refl

next_object-meter : (os : List ObjectTree) (m : Configuration) → (v.next_object os m).meter ≡ m.meter
next_object-meter [] m = refl
next_object-meter (o ∷ os) m = object_declared-meter o.init (lengths_in o) (here m).next (pushed (f.on_end (f.declaring os)) (holding (in_environment (declared (here m) o.name) m.held) m))

-- ---- loops

round_begun-meter : (l : Loop) (spent : ℕ) (m : Configuration) → (v.round_begun l spent m).meter ≡ m.meter
round_begun-meter (f.tests_first None body step at) spent m = refl
round_begun-meter (f.tests_first (Some test) body step at) spent m = refl
round_begun-meter (f.tests_last test body at) spent m = refl

tested-meter : (l : Loop) (spent : ℕ) (holds : Bool) (m : Configuration) → (v.tested l spent holds m).meter ≡ m.meter
tested-meter (f.tests_first test body step at) spent true m = refl
tested-meter (f.tests_first test body step at) spent false m = refl
tested-meter (f.tests_last test body at) spent true m = round_begun-meter (f.tests_last test body at) (spent + 1) m
tested-meter (f.tests_last test body at) spent false m = refl

stepping-meter : (l : Loop) (spent : ℕ) (m : Configuration) → (v.stepping l spent m).meter ≡ m.meter
stepping-meter (f.tests_first test body [] at) spent m = round_begun-meter (f.tests_first test body [] at) (spent + 1) m
stepping-meter (f.tests_first test body (a ∷ more) at) spent m = refl
stepping-meter (f.tests_last test body at) spent m = refl

body_left-meter : (l : Loop) (spent : ℕ) (r : Round) (m : Configuration) → (v.body_left l spent r m).meter ≡ m.meter
body_left-meter l spent round.Again m = stepping-meter l spent m
body_left-meter l spent round.Over m = refl
body_left-meter l spent (round.Out n) m = refl

-- ---- statements

jumped_to-meter : (l : Option Landing) (body : StmtTrees) (m : Configuration) → (v.jumped_to l body m).meter ≡ m.meter
jumped_to-meter None body m = refl
jumped_to-meter (Some l) body m = refl

first_begun-meter : (init : FirstTree) (l : Loop) (m : Configuration) → (v.first_begun init l m).meter ≡ m.meter
first_begun-meter tree.no_first l m = round_begun-meter l m.meter.passed m
first_begun-meter (tree.first part) l m = refl

executed-meter : (tail : Bool) (stmt : StmtTree) (m : Configuration) → (v.executed tail stmt m).meter ≡ m.meter
executed-meter tail (tree.block body) m = refl
executed-meter tail (tree.declare os) m = refl
executed-meter tail (tree.act actions) m = refl
executed-meter tail (tree.if_ test body other at) m = refl
executed-meter tail (tree.switch_ test body at) m = refl
executed-meter tail (tree.case_ x body at) m = refl
executed-meter tail (tree.while_ test body at) m = round_begun-meter (f.tests_first (Some test) body [] at) m.meter.passed m
executed-meter tail (tree.do_ body test at) m = round_begun-meter (f.tests_last test body at) m.meter.passed m
executed-meter tail (tree.for_ init test step body at) m = first_begun-meter init (f.tests_first test body step at) (block_entered (declared_first init) (f.items false tree.no_stmt) m)
executed-meter tail (tree.break_ at) m = refl
executed-meter tail (tree.continue_ at) m = refl
executed-meter tail (tree.return_ None at) m = refl
executed-meter tail (tree.return_ (Some x) at) m = refl

branched-meter : (tail holds : Bool) (body : StmtTree) (other : ElseTree) (at : Place) (m : Configuration) → (v.branched tail holds body other at m).meter ≡ m.meter
branched-meter tail true body other at m = refl
branched-meter tail false body tree.no_else at m = refl
branched-meter tail false body (tree.else_ place second) at m = refl

next_item-meter : (tail : Bool) (items : StmtTrees) (count : ℕ) (m : Configuration) → (v.next_item tail items count m).meter ≡ m.meter
next_item-meter tail tree.no_stmt count m = refl
next_item-meter tail (tree.more_stmts first others) count m = refl

items_resumed-meter : (tail : Bool) (items : StmtTrees) (count : ℕ) (r : Completion) (m : Configuration) → (v.items_resumed tail items count r m).meter ≡ m.meter
items_resumed-meter tail items count end.Normal m = next_item-meter tail items count m
items_resumed-meter tail items count end.Broke m = refl
items_resumed-meter tail items count end.Continued m = refl
items_resumed-meter tail items count (end.Returned n last) m = refl

if_left-meter : (at : Place) (r : Completion) (m : Configuration) → (v.if_left at r m).meter ≡ m.meter
if_left-meter at end.Normal m = refl
if_left-meter at end.Broke m = refl
if_left-meter at end.Continued m = refl
if_left-meter at (end.Returned n true) m = refl
if_left-meter at (end.Returned n false) m = refl

switch_left-meter : (at : Place) (r : Completion) (m : Configuration) → (v.switch_left at r m).meter ≡ m.meter
switch_left-meter at end.Normal m = refl
switch_left-meter at end.Broke m = refl
switch_left-meter at end.Continued m = refl
switch_left-meter at (end.Returned n tail) m = refl

ends_without : (missing : Bool) (fn : FunctionTree) (m m1 : Configuration) → m1.meter ≡ m.meter → (if missing then record m { control = f.undefined ub.NoReturn fn.at } else v.at_point point.End fn.at (f.finish None) m1).meter ≡ m.meter
ends_without true fn m m1 e = refl
ends_without false fn m m1 e = e

call_left-meter : (used : Bool) (fn : FunctionTree) (count : ℕ) (r : Completion) (m : Configuration) → (v.call_left used fn count r m).meter ≡ m.meter
call_left-meter used fn count (end.Returned n tail) m = refl
call_left-meter used fn count end.Normal m = ends_without (used && is_some fn.result) fn m (record m { objects = take count m.objects }) refl
call_left-meter used fn count end.Broke m = ends_without (used && is_some fn.result) fn m (record m { objects = take count m.objects }) refl
call_left-meter used fn count end.Continued m = ends_without (used && is_some fn.result) fn m (record m { objects = take count m.objects }) refl

-- ---- frames and steps

resumed-meter : (frame : ValueFrame) (x : Value) (m : Configuration) → (v.resumed frame x m).meter ≡ m.meter
resumed-meter (f.unary op at) x m = concluded-meter (computed (unary_kind op x.kind) (unary_value op x.kind x.number) at (still m)).outcome m
resumed-meter (f.left op right at) x m = joined-meter op x right at m
resumed-meter (f.right op x at) y m = concluded-meter (operated op x y at (still m)).outcome m
resumed-meter (f.reached true at) y m = refl
resumed-meter (f.reached false at) y m = refl
resumed-meter (f.choice first second at colon) x m = picked-meter (is_true x.number) (acts first || acts second) (common (v.kind_here m first) (v.kind_here m second)) first second at colon m
resumed-meter (f.chosen true at kind) y m = refl
resumed-meter (f.chosen false at kind) y m = refl
resumed-meter (f.cast to) x m = refl
resumed-meter (f.comma right) x m = refl
resumed-meter (f.subscript others u) x m = refl
resumed-meter (f.assigned_to text op place at) x m = concluded-meter (assigned op (object_named (here m) text) (latest m.held.numbers) place x at (still m)).outcome (holding (numbers_closed m.held) m)
resumed-meter (f.argument others callee used at) x m = refl
resumed-meter (f.acting more) x m = refl
resumed-meter (f.initial object element) x m = refl
resumed-meter (f.if_test tail body other at) x m = branched-meter tail (is_true x.number) body other at m
resumed-meter (f.switch_test body at) x m = refl
resumed-meter (f.loop_test l spent) x m = tested-meter l spent (is_true x.number) m
resumed-meter (f.returning tail) x m = refl

ended-meter : (frame : EndFrame) (r : Completion) (m : Configuration) → (v.ended frame r m).meter ≡ m.meter
ended-meter (f.rows object count lengths items element) r m = next_row-meter object count lengths items element m
ended-meter (f.declaring os) r m = next_object-meter os m
ended-meter (f.items tail items count) r m = items_resumed-meter tail items count r m
ended-meter (f.behind_if at) r m = if_left-meter at r (left_scope m)
ended-meter (f.behind_switch at) r m = switch_left-meter at r m
ended-meter f.leaving r m = refl
ended-meter (f.loop_body l spent) r m = body_left-meter l spent (round_of r) (left_scope m)
ended-meter (f.loop_step l spent) r m = round_begun-meter l (spent + 1) m
ended-meter (f.for_first l) r m = round_begun-meter l m.meter.passed m
ended-meter (f.called_by used fn count) r m = call_left-meter used fn count r (pushed (f.on_end (f.called_by used fn count)) m)
ended-meter (f.top fn count) r m = call_left-meter true fn count r (pushed (f.on_end (f.top fn count)) m)

given_value-meter : (frames : List Frame) (x : Value) (m : Configuration) → (v.given_value frames x (record m { stack = frames })).meter ≡ m.meter
given_value-meter [] x m = refl
given_value-meter (f.on_value frame ∷ k) x m = resumed-meter frame x (record m { stack = k })
given_value-meter (f.on_end frame ∷ k) x m = refl

given_end-meter : (frames : List Frame) (r : Completion) (m : Configuration) → (v.given_end frames r (record m { stack = frames })).meter ≡ m.meter
given_end-meter [] r m = refl
given_end-meter (f.on_end frame ∷ k) r m = ended-meter frame r (record m { stack = k })
given_end-meter (f.on_value frame ∷ k) r m = refl

finished-meter : (frames : List Frame) (n : Option ℤ) (m : Configuration) → (v.finished frames n (record m { stack = frames })).meter ≡ m.meter
finished-meter (f.on_end (f.called_by used fn count) ∷ k) n m = refl
finished-meter (f.on_end (f.top fn count) ∷ k) n m = refl
finished-meter (f.on_end (f.rows object count lengths items element) ∷ k) n m = refl
finished-meter (f.on_end (f.declaring os) ∷ k) n m = refl
finished-meter (f.on_end (f.items tail items count) ∷ k) n m = refl
finished-meter (f.on_end (f.behind_if at) ∷ k) n m = refl
finished-meter (f.on_end (f.behind_switch at) ∷ k) n m = refl
finished-meter (f.on_end f.leaving ∷ k) n m = refl
finished-meter (f.on_end (f.loop_body l spent) ∷ k) n m = refl
finished-meter (f.on_end (f.loop_step l spent) ∷ k) n m = refl
finished-meter (f.on_end (f.for_first l) ∷ k) n m = refl
finished-meter (f.on_value frame ∷ k) n m = refl
finished-meter [] n m = refl

pub stepped-meter : (step : Step) (m : Configuration) → (v.stepped step m).meter ≡ m.meter
stepped-meter (f.evaluate used t) m = evaluated-meter used t m
stepped-meter (f.give x) m = given_value-meter m.stack x m
stepped-meter (f.execute tail stmt) m = executed-meter tail stmt m
stepped-meter (f.complete r) m = given_end-meter m.stack r m
stepped-meter (f.subscripts others u) m = next_subscript-meter others u m
stepped-meter (f.arguments others callee used at) m = next_argument-meter others callee used at m
stepped-meter (f.act actions) m = next_action-meter actions m
stepped-meter (f.initialise object lengths init element) m = initialised-meter object lengths init element m
stepped-meter (f.block tail body) m = refl
stepped-meter (f.forget object) m = refl
stepped-meter (f.jump x body) m = jumped_to-meter (landing (target_label (promoted x.kind) (convert (promoted x.kind) x.number) body) body) body m
stepped-meter (f.finish n) m = finished-meter m.stack n m
