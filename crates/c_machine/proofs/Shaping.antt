-- Each move keeps the shape of a machine, which so is never stuck.
use Rattle.std.proofs.Common.{ℕ, zero, suc, ◌+◌, List, [], ◌∷◌, take, ◌&&◌, ◌||◌, ℤ, pos, Option, Some, None, is_some, Bool, true, false, if◌then◌else◌}
use Rattle.hls_base.specs.declared.place.Place.{Place}
use Rattle.hls_base.specs.declared.point.PointKind.{PointKind}
use Rattle.hls_base.specs.declared.point.PointKind.TheVariants as point
use Rattle.hls_base.specs.declared.refusal.UbRule.TheVariants as ub
use Rattle.c_token.specs.declared.ctype.CType.{CType}
use Rattle.c_tree.specs.declared.operator.Binary.{Binary}
use Rattle.c_tree.specs.declared.operator.Binary.TheVariants as b
use Rattle.c_tree.specs.Tree as tree
use Rattle.c_tree.specs.Tree.{Tree, Trees, ActionTree, InitTree, InitTrees, ObjectTree, StmtTree, StmtTrees, ElseTree, FirstTree, FunctionTree}
use Rattle.c_value.specs.Values.{int_type, promoted, convert, common}
use Rattle.c_value.specs.Operators as o
use Rattle.c_value.specs.Operators.{Computed, is_true, unary_kind, unary_value, binary_kind, binary_value}
use Rattle.c_meaning.specs.declared.value.Value.{Value}
use Rattle.c_meaning.specs.declared.value.Argument.{Argument}
use Rattle.c_meaning.specs.declared.value.Completion.{Completion}
use Rattle.c_meaning.specs.declared.value.Completion.TheVariants as end
use Rattle.c_meaning.specs.declared.value.Round.{Round}
use Rattle.c_meaning.specs.declared.value.Round.TheVariants as round
use Rattle.c_meaning.specs.Store.{State, object_named, declared, declared_first, lengths_in, lengths_of_object, kind_of_object, element_place, read_element}
use Rattle.c_meaning.specs.Steps as Steps
use Rattle.c_meaning.specs.Steps.{Outcome, Ran, after, then_, goes}
use Rattle.c_meaning.specs.Expression.{value, acts, computed, operated, read_found, read_place, read_object, store_place, store_object, assigned, bumped, array_given}
use Rattle.c_meaning.specs.Statement.{action_tree, target_label, round_of}
use Rattle.c_meaning.specs.Run.{function_named}
use Rattle.c_machine.specs.Frames as f
use Rattle.c_machine.specs.Frames.{Loop, Use, ValueFrame, EndFrame, Frame, Step, Configuration, in_environment, numbers_closed, given_closed}
use Rattle.c_machine.specs.State.Lists.{latest}
use Rattle.c_machine.specs.Shape.{gives_value, awaits, awaits_return, step_fits, Shaped}
use Rattle.c_machine.specs.Moves as v
use Rattle.c_machine.specs.Moves.{here, holding, pushed, still, left_scope, block_entered, Landing, landing}

-- ---- operations, which pass no points and so never wait

abbrev decided : {A : Type 0} → Outcome A → Type 0
decided (Steps.went x s) = Unit {0}
decided (Steps.undefined rule at) = Unit {0}
decided Steps.waiting = ⊥

after-decided : {A B : Type 0} (out : Outcome A) (next : A → State → Ran B) → decided out → ((x : A) (s : State) → decided (next x s).outcome) → decided (after out next).outcome
after-decided (Steps.went x s) next d g = g x s
after-decided (Steps.undefined rule at) next d g = tt
after-decided Steps.waiting next d g = absurd d

computed-decided : (kind : CType) (c : Computed) (at : Place) (s : State) → decided (computed kind c at s).outcome
computed-decided kind (o.defined n) at s = tt
computed-decided kind (o.undefined rule) at s = tt

operated-decided : (op : Binary) (x y : Value) (at : Place) (s : State) → decided (operated op x y at s).outcome
operated-decided op x y at s = computed-decided (binary_kind op x.kind y.kind) (binary_value op x.kind x.number y.kind y.number) at s

read_found-decided : (element : Option ℤ) (kind : CType) (is_scalar : Bool) (at : Place) (s : State) → decided (read_found element kind is_scalar at s).outcome
read_found-decided (Some n) kind is_scalar at s = tt
read_found-decided None kind true at s = tt
read_found-decided None kind false at s = tt

read_place-decided : (place : Option ℕ) (object : ℕ) (is_scalar : Bool) (at : Place) (s : State) → decided (read_place place object is_scalar at s).outcome
read_place-decided None object is_scalar at s = tt
read_place-decided (Some element) object is_scalar at s = read_found-decided (read_element s object element) (kind_of_object s object) is_scalar at s

read-decided : (object : ℕ) (subscripts : List ℤ) (at : Place) (s : State) → decided (read_object object subscripts at s).outcome
read-decided object subscripts at s = read_place-decided (element_place (lengths_of_object s object) subscripts) object _ at s

store_place-decided : (place : Option ℕ) (object : ℕ) (n : ℤ) (at : Place) (s : State) → decided (store_place place object n at s).outcome
store_place-decided None object n at s = tt
store_place-decided (Some element) object n at s = tt

store-decided : (object : ℕ) (subscripts : List ℤ) (n : ℤ) (at : Place) (s : State) → decided (store_object object subscripts n at s).outcome
store-decided object subscripts n at s = store_place-decided (element_place (lengths_of_object s object) subscripts) object n at s

assigned-decided : (op : Option Binary) (object : ℕ) (subscripts : List ℤ) (place : Place) (x : Value) (at : Place) (s : State) → decided (assigned op object subscripts place x at s).outcome
assigned-decided None object subscripts place x at s = store-decided object subscripts x.number place s
assigned-decided (Some op) object subscripts place x at s =
    after-decided (read_object object subscripts place s).outcome _ (read-decided object subscripts place s) (λ y s1.
    after-decided (operated op y x at s1).outcome _ (operated-decided op y x at s1) (λ r s2. store-decided object subscripts r.number place s2))

bumped-decided : (up post : Bool) (object : ℕ) (subscripts : List ℤ) (place at : Place) (s : State) → decided (bumped up post object subscripts place at s).outcome
bumped-decided up post object subscripts place at s =
    after-decided (read_object object subscripts place s).outcome _ (read-decided object subscripts place s) (λ x s1.
    after-decided (operated (if up then b.Add else b.Sub) x (value int_type (pos 1)) at s1).outcome _ (operated-decided (if up then b.Add else b.Sub) x (value int_type (pos 1)) at s1) (λ r s2.
    after-decided (store_object object subscripts r.number place s2).outcome _ (store-decided object subscripts r.number place s2) (λ y s3. tt)))

-- ---- parts of moves

concluded-shaped : (out : Outcome Value) (m : Configuration) → decided out → awaits m.stack true → Shaped (v.concluded out m)
concluded-shaped (Steps.went x s) m d h = h
concluded-shaped (Steps.undefined rule at) m d h = tt
concluded-shaped Steps.waiting m d h = absurd d

at_fork-shaped : (fork : Bool) (kind : PointKind) (at : Place) (step : Step) (m : Configuration) → step_fits step m.stack → Shaped (v.at_fork fork kind at step m)
at_fork-shaped true kind at step m h = h
at_fork-shaped false kind at step m h = h

-- ---- expressions

evaluated-shaped : (used : Bool) (t : Tree) (m : Configuration) → awaits m.stack true → Shaped (v.evaluated used t m)
evaluated-shaped used (tree.number n kind at) m h = h
evaluated-shaped used (tree.name text at) m h = concluded-shaped (read_object (object_named (here m) text) [] at (still m)).outcome m (read-decided (object_named (here m) text) [] at (still m)) h
evaluated-shaped used (tree.index array subscripts at) m h = h
evaluated-shaped used (tree.call callee args at) m h = h
evaluated-shaped used (tree.unary op arg at) m h = h
evaluated-shaped used (tree.binary op first second at) m h = h
evaluated-shaped used (tree.choice test first second at colon) m h = h
evaluated-shaped used (tree.cast to arg at) m h = h
evaluated-shaped used (tree.assign (tree.target text subscripts place) op x at) m h = h
evaluated-shaped used (tree.bump (tree.target text subscripts place) up post at) m h = h
evaluated-shaped used (tree.comma first second at) m h = h

used_for-shaped : (u : Use) (m : Configuration) → awaits m.stack true → Shaped (v.used_for u m)
used_for-shaped (f.reading array at) m h =
    concluded-shaped (read_object (object_named (here m) array) (latest m.held.numbers) at (still m)).outcome (holding (numbers_closed m.held) m)
    (read-decided (object_named (here m) array) (latest m.held.numbers) at (still m)) h
used_for-shaped (f.assigning text op x place at) m h = h
used_for-shaped (f.bumping text up post place at) m h =
    concluded-shaped (bumped up post (object_named (here m) text) (latest m.held.numbers) place at (still m)).outcome (holding (numbers_closed m.held) m)
    (bumped-decided up post (object_named (here m) text) (latest m.held.numbers) place at (still m)) h

next_subscript-shaped : (others : Trees) (u : Use) (m : Configuration) → awaits m.stack true → Shaped (v.next_subscript others u m)
next_subscript-shaped tree.none u m h = used_for-shaped u m h
next_subscript-shaped (tree.more first others) u m h = h

called-shaped : (used : Bool) (fn : Option FunctionTree) (given : List Argument) (at : Place) (m : Configuration) → awaits m.stack true → Shaped (v.called used fn given at m)
called-shaped used None given at m h = h
called-shaped used (Some fn) given at m h = h

argument_begun-shaped : (array : Option ℕ) (first : Tree) (others : Trees) (callee : List ℕ) (used : Bool) (at : Place) (m : Configuration) → awaits m.stack true → Shaped (v.argument_begun array first others callee used at m)
argument_begun-shaped (Some object) first others callee used at m h = h
argument_begun-shaped None first others callee used at m h = h

next_argument-shaped : (others : Trees) (callee : List ℕ) (used : Bool) (at : Place) (m : Configuration) → awaits m.stack true → Shaped (v.next_argument others callee used at m)
next_argument-shaped tree.none callee used at m h = called-shaped used (function_named m.items callee) (latest m.held.given) at (holding (given_closed m.held) m) h
next_argument-shaped (tree.more first others) callee used at m h = argument_begun-shaped (array_given (here m) (still m) first) first others callee used at m h

next_action-shaped : (actions : List ActionTree) (m : Configuration) → awaits m.stack false → Shaped (v.next_action actions m)
next_action-shaped [] m h = h
next_action-shaped (a ∷ more) m h = evaluated-shaped false (action_tree a) (pushed (f.on_value (f.acting more)) m) h

reached-shaped : (fork : Bool) (right : Tree) (at : Place) (m : Configuration) → awaits m.stack true → Shaped (v.reached fork right at m)
reached-shaped fork right at m h = at_fork-shaped fork point.Arm at (f.evaluate true right) (pushed (f.on_value (f.reached fork at)) m) h

not_reached-shaped : (fork decided_ : Bool) (at : Place) (m : Configuration) → awaits m.stack true → Shaped (v.not_reached fork decided_ at m)
not_reached-shaped true decided_ at m h = h
not_reached-shaped false decided_ at m h = h

joined-shaped : (op : Binary) (x : Value) (right : Tree) (at : Place) (m : Configuration) → awaits m.stack true → Shaped (v.joined op x right at m)
joined-shaped b.LogAnd x right at m h =
    elim (is_true x.number) as (λ holds. Shaped (if holds then v.reached (acts right) right at m else v.not_reached (acts right) false at m))
    [ true ↦ reached-shaped (acts right) right at m h | false ↦ not_reached-shaped (acts right) false at m h ]
joined-shaped b.LogOr x right at m h =
    elim (is_true x.number) as (λ holds. Shaped (if holds then v.not_reached (acts right) true at m else v.reached (acts right) right at m))
    [ true ↦ not_reached-shaped (acts right) true at m h | false ↦ reached-shaped (acts right) right at m h ]
joined-shaped _ x right at m h = h

chosen-shaped : (fork : Bool) (arm at : Place) (kind : CType) (operand : Tree) (m : Configuration) → awaits m.stack true → Shaped (v.chosen fork arm at kind operand m)
chosen-shaped fork arm at kind operand m h = at_fork-shaped fork point.Arm arm (f.evaluate true operand) (pushed (f.on_value (f.chosen fork at kind)) m) h

picked-shaped : (holds fork : Bool) (kind : CType) (first second : Tree) (at colon : Place) (m : Configuration) → awaits m.stack true
    → Shaped (if holds then v.chosen fork at at kind first m else v.chosen fork colon at kind second m)
picked-shaped true fork kind first second at colon m h = chosen-shaped fork at at kind first m h
picked-shaped false fork kind first second at colon m h = chosen-shaped fork colon at kind second m h

-- ---- declarations

initialised-shaped : (object : ℕ) (lengths : List ℕ) (init : InitTree) (element : ℕ) (m : Configuration) → awaits m.stack false → Shaped (v.initialised object lengths init element m)
initialised-shaped object lengths (tree.single x) element m h = h
initialised-shaped object [] (tree.braced items at) element m h = h
initialised-shaped object (len ∷ lengths) (tree.braced items at) element m h = h

next_row-shaped : (object count : ℕ) (lengths : List ℕ) (items : InitTrees) (element : ℕ) (m : Configuration) → awaits m.stack false → Shaped (v.next_row object count lengths items element m)
next_row-shaped object count lengths tree.no_init element m h = h
next_row-shaped object zero lengths (tree.more_inits first others) element m h = h
next_row-shaped object (suc count) lengths (tree.more_inits first others) element m h = h

object_declared-shaped : (init : Option InitTree) (lengths : List ℕ) (object : ℕ) (m : Configuration) → awaits m.stack false → Shaped (v.object_declared init lengths object m)
object_declared-shaped None lengths object m h = h
object_declared-shaped (Some init) lengths object m h = h

next_object-shaped : (os : List ObjectTree) (m : Configuration) → awaits m.stack false → Shaped (v.next_object os m)
next_object-shaped [] m h = h
next_object-shaped (d ∷ os) m h =
    object_declared-shaped d.init (lengths_in d) (here m).next (pushed (f.on_end (f.declaring os)) (holding (in_environment (declared (here m) d.name) m.held) m)) h

-- ---- loops

round_begun-shaped : (l : Loop) (spent : ℕ) (m : Configuration) → awaits m.stack false → Shaped (v.round_begun l spent m)
round_begun-shaped (f.tests_first None body step at) spent m h = h
round_begun-shaped (f.tests_first (Some test) body step at) spent m h = h
round_begun-shaped (f.tests_last test body at) spent m h = h

tested-shaped : (l : Loop) (spent : ℕ) (holds : Bool) (m : Configuration) → awaits m.stack false → Shaped (v.tested l spent holds m)
tested-shaped (f.tests_first test body step at) spent true m h = h
tested-shaped (f.tests_first test body step at) spent false m h = h
tested-shaped (f.tests_last test body at) spent true m h = h
tested-shaped (f.tests_last test body at) spent false m h = h

stepping-shaped : (l : Loop) (spent : ℕ) (m : Configuration) → awaits m.stack false → Shaped (v.stepping l spent m)
stepping-shaped (f.tests_first test body [] at) spent m h = round_begun-shaped (f.tests_first test body [] at) (spent + 1) m h
stepping-shaped (f.tests_first test body (a ∷ more) at) spent m h = h
stepping-shaped (f.tests_last test body at) spent m h = h

body_left-shaped : (l : Loop) (spent : ℕ) (r : Round) (m : Configuration) → awaits m.stack false → Shaped (v.body_left l spent r m)
body_left-shaped l spent round.Again m h = stepping-shaped l spent m h
body_left-shaped l spent round.Over m h = h
body_left-shaped l spent (round.Out n) m h = h

-- ---- statements

jumped_to-shaped : (l : Option Landing) (body : StmtTrees) (m : Configuration) → awaits m.stack false → Shaped (v.jumped_to l body m)
jumped_to-shaped None body m h = h
jumped_to-shaped (Some l) body m h = h

first_begun-shaped : (init : FirstTree) (l : Loop) (m : Configuration) → awaits m.stack false → Shaped (v.first_begun init l m)
first_begun-shaped tree.no_first l m h = round_begun-shaped l m.meter.passed m h
first_begun-shaped (tree.first part) l m h = h

executed-shaped : (tail : Bool) (stmt : StmtTree) (m : Configuration) → awaits m.stack false → Shaped (v.executed tail stmt m)
executed-shaped tail (tree.block body) m h = h
executed-shaped tail (tree.declare os) m h = h
executed-shaped tail (tree.act actions) m h = h
executed-shaped tail (tree.if_ test body other at) m h = h
executed-shaped tail (tree.switch_ test body at) m h = h
executed-shaped tail (tree.case_ x body at) m h = h
executed-shaped tail (tree.while_ test body at) m h = h
executed-shaped tail (tree.do_ body test at) m h = h
executed-shaped tail (tree.for_ init test step body at) m h =
    first_begun-shaped init (f.tests_first test body step at) (block_entered (declared_first init) (f.items false tree.no_stmt) m) h
executed-shaped tail (tree.break_ at) m h = h
executed-shaped tail (tree.continue_ at) m h = h
executed-shaped tail (tree.return_ None at) m h = h
executed-shaped tail (tree.return_ (Some x) at) m h = h

branched-shaped : (tail holds : Bool) (body : StmtTree) (other : ElseTree) (at : Place) (m : Configuration) → awaits m.stack false → Shaped (v.branched tail holds body other at m)
branched-shaped tail true body other at m h = h
branched-shaped tail false body tree.no_else at m h = h
branched-shaped tail false body (tree.else_ place second) at m h = h

next_item-shaped : (tail : Bool) (items : StmtTrees) (count : ℕ) (m : Configuration) → awaits m.stack false → Shaped (v.next_item tail items count m)
next_item-shaped tail tree.no_stmt count m h = h
next_item-shaped tail (tree.more_stmts first others) count m h = h

items_resumed-shaped : (tail : Bool) (items : StmtTrees) (count : ℕ) (r : Completion) (m : Configuration) → awaits m.stack false → Shaped (v.items_resumed tail items count r m)
items_resumed-shaped tail items count end.Normal m h = next_item-shaped tail items count m h
items_resumed-shaped tail items count end.Broke m h = h
items_resumed-shaped tail items count end.Continued m h = h
items_resumed-shaped tail items count (end.Returned n last) m h = h

if_left-shaped : (at : Place) (r : Completion) (m : Configuration) → awaits m.stack false → Shaped (v.if_left at r m)
if_left-shaped at end.Normal m h = h
if_left-shaped at end.Broke m h = h
if_left-shaped at end.Continued m h = h
if_left-shaped at (end.Returned n true) m h = h
if_left-shaped at (end.Returned n false) m h = h

switch_left-shaped : (at : Place) (r : Completion) (m : Configuration) → awaits m.stack false → Shaped (v.switch_left at r m)
switch_left-shaped at end.Normal m h = h
switch_left-shaped at end.Broke m h = h
switch_left-shaped at end.Continued m h = h
switch_left-shaped at (end.Returned n tail) m h = h

ends_without : (missing : Bool) (fn : FunctionTree) (m m1 : Configuration) → awaits_return m1.stack → Shaped (if missing then record m { control = f.undefined ub.NoReturn fn.at } else v.at_point point.End fn.at (f.finish None) m1)
ends_without true fn m m1 h = tt
ends_without false fn m m1 h = h

call_left-shaped : (used : Bool) (fn : FunctionTree) (count : ℕ) (r : Completion) (m : Configuration) → awaits_return m.stack → Shaped (v.call_left used fn count r m)
call_left-shaped used fn count (end.Returned n tail) m h = h
call_left-shaped used fn count end.Normal m h = ends_without (used && is_some fn.result) fn m (record m { objects = take count m.objects }) h
call_left-shaped used fn count end.Broke m h = ends_without (used && is_some fn.result) fn m (record m { objects = take count m.objects }) h
call_left-shaped used fn count end.Continued m h = ends_without (used && is_some fn.result) fn m (record m { objects = take count m.objects }) h

-- ---- frames and steps

resumed-shaped : (frame : ValueFrame) (x : Value) (m : Configuration) → awaits m.stack (gives_value frame) → Shaped (v.resumed frame x m)
resumed-shaped (f.unary op at) x m h =
    concluded-shaped (computed (unary_kind op x.kind) (unary_value op x.kind x.number) at (still m)).outcome m (computed-decided (unary_kind op x.kind) (unary_value op x.kind x.number) at (still m)) h
resumed-shaped (f.left op right at) x m h = joined-shaped op x right at m h
resumed-shaped (f.right op x at) y m h = concluded-shaped (operated op x y at (still m)).outcome m (operated-decided op x y at (still m)) h
resumed-shaped (f.reached true at) y m h = h
resumed-shaped (f.reached false at) y m h = h
resumed-shaped (f.choice first second at colon) x m h =
    picked-shaped (is_true x.number) (acts first || acts second) (common (v.kind_here m first) (v.kind_here m second)) first second at colon m h
resumed-shaped (f.chosen true at kind) y m h = h
resumed-shaped (f.chosen false at kind) y m h = h
resumed-shaped (f.cast to) x m h = h
resumed-shaped (f.comma right) x m h = h
resumed-shaped (f.subscript others u) x m h = h
resumed-shaped (f.assigned_to text op place at) x m h =
    concluded-shaped (assigned op (object_named (here m) text) (latest m.held.numbers) place x at (still m)).outcome (holding (numbers_closed m.held) m)
    (assigned-decided op (object_named (here m) text) (latest m.held.numbers) place x at (still m)) h
resumed-shaped (f.argument others callee used at) x m h = h
resumed-shaped (f.acting more) x m h = h
resumed-shaped (f.initial object element) x m h = h
resumed-shaped (f.if_test tail body other at) x m h = branched-shaped tail (is_true x.number) body other at m h
resumed-shaped (f.switch_test body at) x m h = h
resumed-shaped (f.loop_test l spent) x m h = tested-shaped l spent (is_true x.number) m h
resumed-shaped (f.returning tail) x m h = h

ended-shaped : (frame : EndFrame) (r : Completion) (m : Configuration) → awaits (f.on_end frame ∷ m.stack) false → Shaped (v.ended frame r m)
ended-shaped (f.rows object count lengths items element) r m h = next_row-shaped object count lengths items element m h
ended-shaped (f.declaring os) r m h = next_object-shaped os m h
ended-shaped (f.items tail items count) r m h = items_resumed-shaped tail items count r m h
ended-shaped (f.behind_if at) r m h = if_left-shaped at r (left_scope m) h
ended-shaped (f.behind_switch at) r m h = switch_left-shaped at r m h
ended-shaped f.leaving r m h = h
ended-shaped (f.loop_body l spent) r m h = body_left-shaped l spent (round_of r) (left_scope m) h
ended-shaped (f.loop_step l spent) r m h = round_begun-shaped l (spent + 1) m h
ended-shaped (f.for_first l) r m h = round_begun-shaped l m.meter.passed m h
ended-shaped (f.called_by used fn count) r m h = call_left-shaped used fn count r (pushed (f.on_end (f.called_by used fn count)) m) h
ended-shaped (f.top fn count) r m h = call_left-shaped true fn count r (pushed (f.on_end (f.top fn count)) m) h

given_value-shaped : (frames : List Frame) (x : Value) (m : Configuration) → awaits frames true → Shaped (v.given_value frames x (record m { stack = frames }))
given_value-shaped [] x m h = h
given_value-shaped (f.on_value frame ∷ k) x m h = resumed-shaped frame x (record m { stack = k }) h
given_value-shaped (f.on_end frame ∷ k) x m h = h

given_end-shaped : (frames : List Frame) (r : Completion) (m : Configuration) → awaits frames false → Shaped (v.given_end frames r (record m { stack = frames }))
given_end-shaped [] r m h = h
given_end-shaped (f.on_end frame ∷ k) r m h = ended-shaped frame r (record m { stack = k }) h
given_end-shaped (f.on_value frame ∷ k) r m h = h

finished-shaped : (frames : List Frame) (n : Option ℤ) (m : Configuration) → awaits_return frames → Shaped (v.finished frames n (record m { stack = frames }))
finished-shaped (f.on_end (f.called_by used fn count) ∷ k) n m h = h
finished-shaped (f.on_end (f.top fn count) ∷ k) n m h = tt
finished-shaped (f.on_end (f.rows object count lengths items element) ∷ k) n m h = h
finished-shaped (f.on_end (f.declaring os) ∷ k) n m h = h
finished-shaped (f.on_end (f.items tail items count) ∷ k) n m h = h
finished-shaped (f.on_end (f.behind_if at) ∷ k) n m h = h
finished-shaped (f.on_end (f.behind_switch at) ∷ k) n m h = h
finished-shaped (f.on_end f.leaving ∷ k) n m h = h
finished-shaped (f.on_end (f.loop_body l spent) ∷ k) n m h = h
finished-shaped (f.on_end (f.loop_step l spent) ∷ k) n m h = h
finished-shaped (f.on_end (f.for_first l) ∷ k) n m h = h
finished-shaped (f.on_value frame ∷ k) n m h = h
finished-shaped [] n m h = h

pub stepped-shaped : (step : Step) (m : Configuration) → step_fits step m.stack → Shaped (v.stepped step m)
stepped-shaped (f.evaluate used t) m h = evaluated-shaped used t m h
stepped-shaped (f.give x) m h = given_value-shaped m.stack x m h
stepped-shaped (f.execute tail stmt) m h = executed-shaped tail stmt m h
stepped-shaped (f.complete r) m h = given_end-shaped m.stack r m h
stepped-shaped (f.subscripts others u) m h = next_subscript-shaped others u m h
stepped-shaped (f.arguments others callee used at) m h = next_argument-shaped others callee used at m h
stepped-shaped (f.act actions) m h = next_action-shaped actions m h
stepped-shaped (f.initialise object lengths init element) m h = initialised-shaped object lengths init element m h
stepped-shaped (f.block tail body) m h = h
stepped-shaped (f.forget object) m h = h
stepped-shaped (f.jump x body) m h = jumped_to-shaped (landing (target_label (promoted x.kind) (convert (promoted x.kind) x.number) body) body) body m h
stepped-shaped (f.finish n) m h = finished-shaped m.stack n m h
