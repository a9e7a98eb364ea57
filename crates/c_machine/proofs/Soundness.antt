-- Each move keeps a machine sound.
use Rattle.std.proofs.Common.{◌≡◌, refl, ℕ, zero, suc, ◌+◌, ◌<◌, ◌≤◌, List, [], ◌∷◌, take, ◌&&◌, ◌||◌, ℤ, Option, Some, None, is_some, Bool, true, false, if◌then◌else◌, arith}
use Rattle.hls_base.specs.declared.place.Place.{Place}
use Rattle.hls_base.specs.declared.point.PointKind.{PointKind}
use Rattle.hls_base.specs.declared.point.PointKind.TheVariants as point
use Rattle.hls_base.specs.declared.refusal.UbRule.TheVariants as ub
use Rattle.c_token.specs.declared.ctype.CType.{CType}
use Rattle.c_tree.specs.declared.operator.Binary.{Binary}
use Rattle.c_tree.specs.declared.operator.Binary.TheVariants as b
use Rattle.c_tree.specs.Tree as tree
use Rattle.c_tree.specs.Tree.{Tree, Trees, ActionTree, InitTree, InitTrees, ObjectTree, StmtTree, StmtTrees, ElseTree, FirstTree, FunctionTree}
use Rattle.c_value.specs.Values.{promoted, convert, common}
use Rattle.c_value.specs.Operators.{is_true, unary_kind, unary_value}
use Rattle.c_meaning.specs.declared.value.Value.{Value}
use Rattle.c_meaning.specs.declared.value.Argument.{Argument}
use Rattle.c_meaning.specs.declared.value.Completion.{Completion}
use Rattle.c_meaning.specs.declared.value.Completion.TheVariants as end
use Rattle.c_meaning.specs.declared.value.Round.{Round}
use Rattle.c_meaning.specs.declared.value.Round.TheVariants as round
use Rattle.c_meaning.specs.Store.{object_named, declared, declared_first, lengths_in}
use Rattle.c_meaning.specs.Steps as Steps
use Rattle.c_meaning.specs.Steps.{Outcome}
use Rattle.c_meaning.specs.Expression.{acts, computed, operated, read_object, assigned, bumped, array_given}
use Rattle.c_meaning.specs.Statement.{action_tree, target_label, round_of}
use Rattle.c_meaning.specs.Run.{function_named}
use Rattle.c_machine.specs.Frames as f
use Rattle.c_machine.specs.Frames.{Loop, Use, ValueFrame, EndFrame, Frame, Step, Configuration, in_environment, numbers_closed, given_closed}
use Rattle.c_machine.specs.State.Lists.{latest}
use Rattle.c_machine.specs.Sound.{value_fits, end_fits, all_fit, within, Sound}
use Rattle.c_machine.specs.Moves as v
use Rattle.c_machine.specs.Moves.{here, holding, pushed, still, left_scope, block_entered, Landing, landing}

-- ---- one more point

value_more : (p : ℕ) (frame : ValueFrame) → value_fits p frame → value_fits (p + 1) frame
value_more p (f.loop_test l spent) h = omega arith
value_more p _ h = h

end_more : (p : ℕ) (frame : EndFrame) → end_fits p frame → end_fits (p + 1) frame
end_more p (f.loop_body l spent) h = omega arith
end_more p (f.loop_step l spent) h = omega arith
end_more p _ h = h

all_more : (p : ℕ) (frames : List Frame) → all_fit p frames → all_fit (p + 1) frames
all_more p [] h = tt
all_more p (f.on_value frame ∷ k) h = (value_more p frame h.0, all_more p k h.1)
all_more p (f.on_end frame ∷ k) h = (end_more p frame h.0, all_more p k h.1)

pub within_more : (p : ℕ) (frames : List Frame) → within p frames → within (p + 1) frames
within_more p frames h = (omega (arith, h.0), all_more p frames h.1)

-- ---- parts of moves

concluded-sound : (out : Outcome Value) (m : Configuration) → within m.meter.passed m.stack → Sound (v.concluded out m)
concluded-sound (Steps.went x s) m h = h
concluded-sound (Steps.undefined rule at) m h = h
concluded-sound Steps.waiting m h = h

at_point-sound : (kind : PointKind) (at : Place) (step : Step) (m : Configuration) → within m.meter.passed m.stack → Sound (v.at_point kind at step m)
at_point-sound kind at step m h = within_more m.meter.passed m.stack h

at_fork-sound : (fork : Bool) (kind : PointKind) (at : Place) (step : Step) (m : Configuration) → within m.meter.passed m.stack → Sound (v.at_fork fork kind at step m)
at_fork-sound true kind at step m h = within_more m.meter.passed m.stack h
at_fork-sound false kind at step m h = h

-- ---- expressions

evaluated-sound : (used : Bool) (t : Tree) (m : Configuration) → within m.meter.passed m.stack → Sound (v.evaluated used t m)
evaluated-sound used (tree.number n kind at) m h = h
evaluated-sound used (tree.name text at) m h = concluded-sound (read_object (object_named (here m) text) [] at (still m)).outcome m h
evaluated-sound used (tree.index array subscripts at) m h = h
evaluated-sound used (tree.call callee args at) m h = h
evaluated-sound used (tree.unary op arg at) m h = (h.0, (tt, h.1))
evaluated-sound used (tree.binary op first second at) m h = (h.0, (tt, h.1))
evaluated-sound used (tree.choice test first second at colon) m h = (h.0, (tt, h.1))
evaluated-sound used (tree.cast to arg at) m h = (h.0, (tt, h.1))
evaluated-sound used (tree.assign (tree.target text subscripts place) op x at) m h = h
evaluated-sound used (tree.bump (tree.target text subscripts place) up post at) m h = h
evaluated-sound used (tree.comma first second at) m h = (h.0, (tt, h.1))

used_for-sound : (u : Use) (m : Configuration) → within m.meter.passed m.stack → Sound (v.used_for u m)
used_for-sound (f.reading array at) m h = concluded-sound (read_object (object_named (here m) array) (latest m.held.numbers) at (still m)).outcome (holding (numbers_closed m.held) m) h
used_for-sound (f.assigning text op x place at) m h = (h.0, (tt, h.1))
used_for-sound (f.bumping text up post place at) m h =
    concluded-sound (bumped up post (object_named (here m) text) (latest m.held.numbers) place at (still m)).outcome (holding (numbers_closed m.held) m) h

next_subscript-sound : (others : Trees) (u : Use) (m : Configuration) → within m.meter.passed m.stack → Sound (v.next_subscript others u m)
next_subscript-sound tree.none u m h = used_for-sound u m h
next_subscript-sound (tree.more first others) u m h = (h.0, (tt, h.1))

called-sound : (used : Bool) (o : Option FunctionTree) (given : List Argument) (at : Place) (m : Configuration) → within m.meter.passed m.stack → Sound (v.called used o given at m)
called-sound used None given at m h = h
called-sound used (Some fn) given at m h = (omega (arith, h.0), (tt, all_more m.meter.passed m.stack h.1))

argument_begun-sound : (o : Option ℕ) (first : Tree) (others : Trees) (callee : List ℕ) (used : Bool) (at : Place) (m : Configuration) → within m.meter.passed m.stack
    → Sound (v.argument_begun o first others callee used at m)
argument_begun-sound (Some object) first others callee used at m h = h
argument_begun-sound None first others callee used at m h = (h.0, (tt, h.1))

next_argument-sound : (others : Trees) (callee : List ℕ) (used : Bool) (at : Place) (m : Configuration) → within m.meter.passed m.stack → Sound (v.next_argument others callee used at m)
next_argument-sound tree.none callee used at m h = called-sound used (function_named m.items callee) (latest m.held.given) at (holding (given_closed m.held) m) h
next_argument-sound (tree.more first others) callee used at m h = argument_begun-sound (array_given (here m) (still m) first) first others callee used at m h

next_action-sound : (actions : List ActionTree) (m : Configuration) → within m.meter.passed m.stack → Sound (v.next_action actions m)
next_action-sound [] m h = h
next_action-sound (a ∷ more) m h = evaluated-sound false (action_tree a) (pushed (f.on_value (f.acting more)) m) (h.0, (tt, h.1))

reached-sound : (fork : Bool) (right : Tree) (at : Place) (m : Configuration) → within m.meter.passed m.stack → Sound (v.reached fork right at m)
reached-sound fork right at m h = at_fork-sound fork point.Arm at (f.evaluate true right) (pushed (f.on_value (f.reached fork at)) m) (h.0, (tt, h.1))

not_reached-sound : (fork decided : Bool) (at : Place) (m : Configuration) → within m.meter.passed m.stack → Sound (v.not_reached fork decided at m)
not_reached-sound true decided at m h = within_more m.meter.passed m.stack h
not_reached-sound false decided at m h = h

joined-sound : (op : Binary) (x : Value) (right : Tree) (at : Place) (m : Configuration) → within m.meter.passed m.stack → Sound (v.joined op x right at m)
joined-sound b.LogAnd x right at m h =
    elim (is_true x.number) as (λ holds. Sound (if holds then v.reached (acts right) right at m else v.not_reached (acts right) false at m))
    [ true ↦ reached-sound (acts right) right at m h | false ↦ not_reached-sound (acts right) false at m h ]
joined-sound b.LogOr x right at m h =
    elim (is_true x.number) as (λ holds. Sound (if holds then v.not_reached (acts right) true at m else v.reached (acts right) right at m))
    [ true ↦ not_reached-sound (acts right) true at m h | false ↦ reached-sound (acts right) right at m h ]
joined-sound _ x right at m h = (h.0, (tt, h.1))

chosen-sound : (fork : Bool) (arm at : Place) (kind : CType) (operand : Tree) (m : Configuration) → within m.meter.passed m.stack → Sound (v.chosen fork arm at kind operand m)
chosen-sound fork arm at kind operand m h = at_fork-sound fork point.Arm arm (f.evaluate true operand) (pushed (f.on_value (f.chosen fork at kind)) m) (h.0, (tt, h.1))

picked-sound : (holds fork : Bool) (kind : CType) (first second : Tree) (at colon : Place) (m : Configuration) → within m.meter.passed m.stack
    → Sound (if holds then v.chosen fork at at kind first m else v.chosen fork colon at kind second m)
picked-sound true fork kind first second at colon m h = chosen-sound fork at at kind first m h
picked-sound false fork kind first second at colon m h = chosen-sound fork colon at kind second m h

-- ---- declarations

initialised-sound : (object : ℕ) (lengths : List ℕ) (init : InitTree) (element : ℕ) (m : Configuration) → within m.meter.passed m.stack → Sound (v.initialised object lengths init element m)
initialised-sound object lengths (tree.single x) element m h = (h.0, (tt, h.1))
initialised-sound object [] (tree.braced items at) element m h = h
initialised-sound object (len ∷ lengths) (tree.braced items at) element m h = (h.0, (tt, h.1))

next_row-sound : (object count : ℕ) (lengths : List ℕ) (items : InitTrees) (element : ℕ) (m : Configuration) → within m.meter.passed m.stack → Sound (v.next_row object count lengths items element m)
next_row-sound object count lengths tree.no_init element m h = h
next_row-sound object zero lengths (tree.more_inits first others) element m h = h
next_row-sound object (suc count) lengths (tree.more_inits first others) element m h = (h.0, (tt, h.1))

object_declared-sound : (init : Option InitTree) (lengths : List ℕ) (object : ℕ) (m : Configuration) → within m.meter.passed m.stack → Sound (v.object_declared init lengths object m)
object_declared-sound None lengths object m h = h
object_declared-sound (Some init) lengths object m h = h

next_object-sound : (os : List ObjectTree) (m : Configuration) → within m.meter.passed m.stack → Sound (v.next_object os m)
next_object-sound [] m h = h
next_object-sound (o ∷ os) m h =
    object_declared-sound o.init (lengths_in o) (here m).next (pushed (f.on_end (f.declaring os)) (holding (in_environment (declared (here m) o.name) m.held) m)) (h.0, (tt, h.1))

-- ---- loops

round_begun-sound : (l : Loop) (spent : ℕ) (m : Configuration) → spent ≤ m.meter.passed → within m.meter.passed m.stack → Sound (v.round_begun l spent m)
round_begun-sound (f.tests_first None body step at) spent m less h = (omega (arith, h.0), (omega arith, all_more m.meter.passed m.stack h.1))
round_begun-sound (f.tests_first (Some test) body step at) spent m less h = (omega (arith, h.0), (omega arith, all_more m.meter.passed m.stack h.1))
round_begun-sound (f.tests_last test body at) spent m less h = (omega (arith, h.0), (omega arith, all_more m.meter.passed m.stack h.1))

tested-sound : (l : Loop) (spent : ℕ) (holds : Bool) (m : Configuration) → spent < m.meter.passed → within m.meter.passed m.stack → Sound (v.tested l spent holds m)
tested-sound (f.tests_first test body step at) spent true m less h = (omega (arith, h.0), (omega arith, all_more m.meter.passed m.stack h.1))
tested-sound (f.tests_first test body step at) spent false m less h = within_more m.meter.passed m.stack h
tested-sound (f.tests_last test body at) spent true m less h = round_begun-sound (f.tests_last test body at) (spent + 1) m (omega arith) h
tested-sound (f.tests_last test body at) spent false m less h = within_more m.meter.passed m.stack h

stepping-sound : (l : Loop) (spent : ℕ) (m : Configuration) → spent < m.meter.passed → within m.meter.passed m.stack → Sound (v.stepping l spent m)
stepping-sound (f.tests_first test body [] at) spent m less h = round_begun-sound (f.tests_first test body [] at) (spent + 1) m (omega arith) h
stepping-sound (f.tests_first test body (a ∷ more) at) spent m less h = (omega (arith, h.0), (omega arith, all_more m.meter.passed m.stack h.1))
stepping-sound (f.tests_last test body at) spent m less h = (omega (arith, h.0), (omega arith, all_more m.meter.passed m.stack h.1))

body_left-sound : (l : Loop) (spent : ℕ) (r : Round) (m : Configuration) → spent < m.meter.passed → within m.meter.passed m.stack → Sound (v.body_left l spent r m)
body_left-sound l spent round.Again m less h = stepping-sound l spent m less h
body_left-sound l spent round.Over m less h = within_more m.meter.passed m.stack h
body_left-sound l spent (round.Out n) m less h = h

-- ---- statements

jumped_to-sound : (l : Option Landing) (body : StmtTrees) (m : Configuration) → within m.meter.passed m.stack → Sound (v.jumped_to l body m)
jumped_to-sound None body m h = (h.0, (tt, h.1))
jumped_to-sound (Some l) body m h = (omega (arith, h.0), (tt, (tt, all_more m.meter.passed m.stack h.1)))

first_begun-sound : (init : FirstTree) (l : Loop) (m : Configuration) → within m.meter.passed m.stack → Sound (v.first_begun init l m)
first_begun-sound tree.no_first l m h = round_begun-sound l m.meter.passed m (omega arith) h
first_begun-sound (tree.first part) l m h = (h.0, (tt, h.1))

executed-sound : (tail : Bool) (stmt : StmtTree) (m : Configuration) → within m.meter.passed m.stack → Sound (v.executed tail stmt m)
executed-sound tail (tree.block body) m h = h
executed-sound tail (tree.declare os) m h = (h.0, (tt, h.1))
executed-sound tail (tree.act actions) m h = h
executed-sound tail (tree.if_ test body other at) m h = (h.0, (tt, h.1))
executed-sound tail (tree.switch_ test body at) m h = (h.0, (tt, h.1))
executed-sound tail (tree.case_ x body at) m h = (omega (arith, h.0), (tt, all_more m.meter.passed m.stack h.1))
executed-sound tail (tree.while_ test body at) m h = round_begun-sound (f.tests_first (Some test) body [] at) m.meter.passed m (omega arith) h
executed-sound tail (tree.do_ body test at) m h = round_begun-sound (f.tests_last test body at) m.meter.passed m (omega arith) h
executed-sound tail (tree.for_ init test step body at) m h =
    first_begun-sound init (f.tests_first test body step at) (block_entered (declared_first init) (f.items false tree.no_stmt) m) (h.0, (tt, h.1))
executed-sound tail (tree.break_ at) m h = h
executed-sound tail (tree.continue_ at) m h = h
executed-sound tail (tree.return_ None at) m h = h
executed-sound tail (tree.return_ (Some x) at) m h = (h.0, (tt, h.1))

branched-sound : (tail holds : Bool) (body : StmtTree) (other : ElseTree) (at : Place) (m : Configuration) → within m.meter.passed m.stack → Sound (v.branched tail holds body other at m)
branched-sound tail true body other at m h = (omega (arith, h.0), (tt, all_more m.meter.passed m.stack h.1))
branched-sound tail false body tree.no_else at m h = within_more m.meter.passed m.stack h
branched-sound tail false body (tree.else_ place second) at m h = (omega (arith, h.0), (tt, all_more m.meter.passed m.stack h.1))

next_item-sound : (tail : Bool) (items : StmtTrees) (count : ℕ) (m : Configuration) → within m.meter.passed m.stack → Sound (v.next_item tail items count m)
next_item-sound tail tree.no_stmt count m h = h
next_item-sound tail (tree.more_stmts first others) count m h = (h.0, (tt, h.1))

items_resumed-sound : (tail : Bool) (items : StmtTrees) (count : ℕ) (r : Completion) (m : Configuration) → within m.meter.passed m.stack → Sound (v.items_resumed tail items count r m)
items_resumed-sound tail items count end.Normal m h = next_item-sound tail items count m h
items_resumed-sound tail items count end.Broke m h = h
items_resumed-sound tail items count end.Continued m h = h
items_resumed-sound tail items count (end.Returned n last) m h = h

if_left-sound : (at : Place) (r : Completion) (m : Configuration) → within m.meter.passed m.stack → Sound (v.if_left at r m)
if_left-sound at end.Normal m h = within_more m.meter.passed m.stack h
if_left-sound at end.Broke m h = h
if_left-sound at end.Continued m h = h
if_left-sound at (end.Returned n true) m h = within_more m.meter.passed m.stack h
if_left-sound at (end.Returned n false) m h = h

switch_left-sound : (at : Place) (r : Completion) (m : Configuration) → within m.meter.passed m.stack → Sound (v.switch_left at r m)
switch_left-sound at end.Normal m h = within_more m.meter.passed m.stack h
switch_left-sound at end.Broke m h = within_more m.meter.passed m.stack h
switch_left-sound at end.Continued m h = h
switch_left-sound at (end.Returned n tail) m h = h

ends_without : (missing : Bool) (fn : FunctionTree) (m m1 : Configuration) → within m.meter.passed m.stack → m1.meter.passed ≡ m.meter.passed → m1.stack ≡ m.stack
    → Sound (if missing then record m { control = f.undefined ub.NoReturn fn.at } else v.at_point point.End fn.at (f.finish None) m1)
ends_without true fn m m1 h e1 e2 = h
ends_without false fn m m1 h e1 e2 = rw (e1, e2) (within_more m.meter.passed m.stack h)

call_left-sound : (used : Bool) (fn : FunctionTree) (count : ℕ) (r : Completion) (m : Configuration) → within m.meter.passed m.stack → Sound (v.call_left used fn count r m)
call_left-sound used fn count (end.Returned n tail) m h = within_more m.meter.passed m.stack h
call_left-sound used fn count end.Normal m h = ends_without (used && is_some fn.result) fn m (record m { objects = take count m.objects }) h refl refl
call_left-sound used fn count end.Broke m h = ends_without (used && is_some fn.result) fn m (record m { objects = take count m.objects }) h refl refl
call_left-sound used fn count end.Continued m h = ends_without (used && is_some fn.result) fn m (record m { objects = take count m.objects }) h refl refl

-- ---- frames and steps

resumed-sound : (frame : ValueFrame) (x : Value) (m : Configuration) → value_fits m.meter.passed frame → within m.meter.passed m.stack → Sound (v.resumed frame x m)
resumed-sound (f.unary op at) x m fit h = concluded-sound (computed (unary_kind op x.kind) (unary_value op x.kind x.number) at (still m)).outcome m h
resumed-sound (f.left op right at) x m fit h = joined-sound op x right at m h
resumed-sound (f.right op x at) y m fit h = concluded-sound (operated op x y at (still m)).outcome m h
resumed-sound (f.reached true at) y m fit h = within_more m.meter.passed m.stack h
resumed-sound (f.reached false at) y m fit h = h
resumed-sound (f.choice first second at colon) x m fit h =
    picked-sound (is_true x.number) (acts first || acts second) (common (v.kind_here m first) (v.kind_here m second)) first second at colon m h
resumed-sound (f.chosen true at kind) y m fit h = within_more m.meter.passed m.stack h
resumed-sound (f.chosen false at kind) y m fit h = h
resumed-sound (f.cast to) x m fit h = h
resumed-sound (f.comma right) x m fit h = h
resumed-sound (f.subscript others u) x m fit h = h
resumed-sound (f.assigned_to text op place at) x m fit h =
    concluded-sound (assigned op (object_named (here m) text) (latest m.held.numbers) place x at (still m)).outcome (holding (numbers_closed m.held) m) h
resumed-sound (f.argument others callee used at) x m fit h = h
resumed-sound (f.acting more) x m fit h = h
resumed-sound (f.initial object element) x m fit h = h
resumed-sound (f.if_test tail body other at) x m fit h = branched-sound tail (is_true x.number) body other at m h
resumed-sound (f.switch_test body at) x m fit h = (h.0, (tt, h.1))
resumed-sound (f.loop_test l spent) x m fit h = tested-sound l spent (is_true x.number) m fit h
resumed-sound (f.returning tail) x m fit h = h

ended-sound : (frame : EndFrame) (r : Completion) (m : Configuration) → end_fits m.meter.passed frame → within m.meter.passed (f.on_end frame ∷ m.stack) → Sound (v.ended frame r m)
ended-sound (f.rows object count lengths items element) r m fit h = next_row-sound object count lengths items element m (h.0, h.1.1)
ended-sound (f.declaring os) r m fit h = next_object-sound os m (h.0, h.1.1)
ended-sound (f.items tail items count) r m fit h = items_resumed-sound tail items count r m (h.0, h.1.1)
ended-sound (f.behind_if at) r m fit h = if_left-sound at r (left_scope m) (h.0, h.1.1)
ended-sound (f.behind_switch at) r m fit h = switch_left-sound at r m (h.0, h.1.1)
ended-sound f.leaving r m fit h = (h.0, h.1.1)
ended-sound (f.loop_body l spent) r m fit h = body_left-sound l spent (round_of r) (left_scope m) fit (h.0, h.1.1)
ended-sound (f.loop_step l spent) r m fit h = round_begun-sound l (spent + 1) m (omega arith) (h.0, h.1.1)
ended-sound (f.for_first l) r m fit h = round_begun-sound l m.meter.passed m (omega arith) (h.0, h.1.1)
ended-sound (f.called_by used fn count) r m fit h = call_left-sound used fn count r (pushed (f.on_end (f.called_by used fn count)) m) h
ended-sound (f.top fn count) r m fit h = call_left-sound true fn count r (pushed (f.on_end (f.top fn count)) m) h

given_value-sound : (frames : List Frame) (x : Value) (m : Configuration) → within m.meter.passed frames → Sound (v.given_value frames x (record m { stack = frames }))
given_value-sound [] x m h = h
given_value-sound (f.on_value frame ∷ k) x m h = resumed-sound frame x (record m { stack = k }) h.1.0 (h.0, h.1.1)
given_value-sound (f.on_end frame ∷ k) x m h = h

given_end-sound : (frames : List Frame) (r : Completion) (m : Configuration) → within m.meter.passed frames → Sound (v.given_end frames r (record m { stack = frames }))
given_end-sound [] r m h = h
given_end-sound (f.on_end frame ∷ k) r m h = ended-sound frame r (record m { stack = k }) h.1.0 h
given_end-sound (f.on_value frame ∷ k) r m h = h

finished-sound : (frames : List Frame) (n : Option ℤ) (m : Configuration) → within m.meter.passed frames → Sound (v.finished frames n (record m { stack = frames }))
finished-sound (f.on_end (f.called_by used fn count) ∷ k) n m h = (omega (arith, h.0), h.1.1)
finished-sound (f.on_end (f.top fn count) ∷ k) n m h = h
finished-sound (f.on_end (f.rows object count lengths items element) ∷ k) n m h = h
finished-sound (f.on_end (f.declaring os) ∷ k) n m h = h
finished-sound (f.on_end (f.items tail items count) ∷ k) n m h = h
finished-sound (f.on_end (f.behind_if at) ∷ k) n m h = h
finished-sound (f.on_end (f.behind_switch at) ∷ k) n m h = h
finished-sound (f.on_end f.leaving ∷ k) n m h = h
finished-sound (f.on_end (f.loop_body l spent) ∷ k) n m h = h
finished-sound (f.on_end (f.loop_step l spent) ∷ k) n m h = h
finished-sound (f.on_end (f.for_first l) ∷ k) n m h = h
finished-sound (f.on_value frame ∷ k) n m h = h
finished-sound [] n m h = h

pub stepped-sound : (step : Step) (m : Configuration) → within m.meter.passed m.stack → Sound (v.stepped step m)
stepped-sound (f.evaluate used t) m h = evaluated-sound used t m h
stepped-sound (f.give x) m h = given_value-sound m.stack x m h
stepped-sound (f.execute tail stmt) m h = executed-sound tail stmt m h
stepped-sound (f.complete r) m h = given_end-sound m.stack r m h
stepped-sound (f.subscripts others u) m h = next_subscript-sound others u m h
stepped-sound (f.arguments others callee used at) m h = next_argument-sound others callee used at m h
stepped-sound (f.act actions) m h = next_action-sound actions m h
stepped-sound (f.initialise object lengths init element) m h = initialised-sound object lengths init element m h
stepped-sound (f.block tail body) m h = (h.0, (tt, h.1))
stepped-sound (f.forget object) m h = h
stepped-sound (f.jump x body) m h = jumped_to-sound (landing (target_label (promoted x.kind) (convert (promoted x.kind) x.number) body) body) body m h
stepped-sound (f.finish n) m h = finished-sound m.stack n m h
