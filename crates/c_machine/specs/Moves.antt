-- One move of the machine.
use Rattle.std.specs.Prelude.{ℕ, zero, suc, ◌+◌, ◌*◌, ◌&&◌, ◌||◌, Bool, true, false, List, [], ◌∷◌, ◌++◌, map, length, take, ℤ, pos, Option, Some, None, is_some, if◌then◌else◌}
use Rattle.hls_base.specs.ArrayAddress.{element_count}
use Rattle.hls_base.specs.declared.place.Place.{Place}
use Rattle.hls_base.specs.declared.point.PointKind.{PointKind}
use Rattle.hls_base.specs.declared.point.PointKind.TheVariants as point
use Rattle.hls_base.specs.declared.refusal.UbRule.TheVariants as ub
use Rattle.c_token.specs.declared.ctype.CType.{CType}
use Rattle.c_tree.specs.declared.operator.Binary.{Binary}
use Rattle.c_tree.specs.declared.operator.Binary.TheVariants as b
use Rattle.c_tree.specs.Tree as tree
use Rattle.c_tree.specs.Tree.{Tree, Trees, ActionTree, InitTree, InitTrees, ObjectTree, StmtTree, ElseTree, FirstTree, StmtTrees, FunctionTree, ItemTree}
use Rattle.c_value.specs.Values.{int_type, promoted, convert, common}
use Rattle.c_value.specs.Operators.{truth, is_true, unary_kind, unary_value}
use Rattle.c_meaning.specs.declared.value.Value.{Value}
use Rattle.c_meaning.specs.declared.value.Argument.{Argument}
use Rattle.c_meaning.specs.declared.value.Argument.TheVariants as argument
use Rattle.c_meaning.specs.declared.value.Completion.{Completion}
use Rattle.c_meaning.specs.declared.names.Binding.{Binding}
use Rattle.c_meaning.specs.declared.value.Completion.TheVariants as end
use Rattle.c_meaning.specs.declared.value.Round.{Round}
use Rattle.c_meaning.specs.declared.value.Round.TheVariants as round
use Rattle.c_meaning.specs.Store.{Object, State, Environment, object_named, kind_of_object, write_element, forget, declared, declared_by, declared_in, declared_first, all_declared, unwritten, lengths_in}
use Rattle.c_meaning.specs.Names.{begun}
use Rattle.c_meaning.specs.Steps as Steps
use Rattle.c_meaning.specs.Steps.{Outcome}
use Rattle.c_meaning.specs.Expression.{value, acts, computed, operated, kind_of, read_object, assigned, bumped, array_given, number_or_zero}
use Rattle.c_meaning.specs.Statement.{zeros, action_tree, is_last, target_label, round_of, converted_result}
use Rattle.c_meaning.specs.Run.{function_named, result_of, kind_or_int, parameters, body_of}
use Rattle.c_machine.specs.State.Lists as lists
use Rattle.c_machine.specs.Frames as f
use Rattle.c_machine.specs.Frames.{Loop, Use, ValueFrame, EndFrame, Frame, Step, Held, Configuration, scope_opened, scope_left, in_environment, numbers_opened, number_added, numbers_closed, given_opened, argument_added, given_closed}
use Rattle.c_machine.specs.State.Lists.{latest}
use Rattle.c_machine.specs.Rest.{loop_place}

-- ---- parts of moves

abbrev pub going : Step → Configuration → Configuration
going step m = record m { control = f.next step }

abbrev pub at_point : PointKind → Place → Step → Configuration → Configuration
at_point kind at step m = record m { control = f.before kind at step }

abbrev pub at_fork : Bool → PointKind → Place → Step → Configuration → Configuration
at_fork true kind at step m = at_point kind at step m
at_fork false kind at step m = going step m

abbrev pub pushed : Frame → Configuration → Configuration
pushed frame m = record m { stack = frame ∷ m.stack }

abbrev pub popped : Configuration → Configuration
popped m = record m { stack = lists.tail m.stack }

abbrev pub holding : Held → Configuration → Configuration
holding h m = record m { held = h }

abbrev pub with_objects : State → Configuration → Configuration
with_objects s m = record m { objects = s.objects }

-- a statement behind which the environment is as before
abbrev pub scoped : EndFrame → Configuration → Configuration
scoped frame m = pushed (f.on_end frame) (holding (scope_opened m.held) m)

abbrev pub left_scope : Configuration → Configuration
left_scope m = holding (scope_left m.held) m

-- the objects, where no point may be passed
abbrev pub still : Configuration → State
still m = record { objects = m.objects; left = 0 }

abbrev pub concluded : Outcome Value → Configuration → Configuration
concluded (Steps.went v s) m = going (f.give v) (with_objects s m)
concluded (Steps.undefined rule at) m = record m { control = f.undefined rule at }
concluded Steps.waiting m = record m { control = f.stuck }

abbrev pub here : Configuration → Environment
here m = m.held.environment

abbrev pub stuck : Configuration → Configuration
stuck m = record m { control = f.stuck }

-- ---- expressions

abbrev pub evaluated : Bool → Tree → Configuration → Configuration
evaluated used (tree.number n kind at) m = going (f.give (value kind (pos n))) m
evaluated used (tree.name text at) m = concluded (read_object (object_named (here m) text) [] at (still m)).outcome m
evaluated used (tree.index array subscripts at) m = going (f.subscripts subscripts (f.reading array at)) (holding (numbers_opened m.held) m)
evaluated used (tree.call callee args at) m = going (f.arguments args callee used at) (holding (given_opened m.held) m)
evaluated used (tree.unary op arg at) m = going (f.evaluate true arg) (pushed (f.on_value (f.unary op at)) m)
evaluated used (tree.binary op left right at) m = going (f.evaluate true left) (pushed (f.on_value (f.left op right at)) m)
evaluated used (tree.choice test first second at colon) m = going (f.evaluate true test) (pushed (f.on_value (f.choice first second at colon)) m)
evaluated used (tree.cast to arg at) m = going (f.evaluate true arg) (pushed (f.on_value (f.cast to)) m)
evaluated used (tree.assign (tree.target text subscripts place) op v at) m =
    going (f.subscripts subscripts (f.assigning text op v place at)) (holding (numbers_opened m.held) m)
evaluated used (tree.bump (tree.target text subscripts place) up post at) m =
    going (f.subscripts subscripts (f.bumping text up post place at)) (holding (numbers_opened m.held) m)
evaluated used (tree.comma left right at) m = going (f.evaluate false left) (pushed (f.on_value (f.comma right)) m)

-- an expression that changes an object itself
abbrev pub is_change : Tree → Bool
is_change (tree.assign to op v at) = true
is_change (tree.bump to up post at) = true
is_change t = false

-- ---- subscripts and arguments under way

abbrev pub used_for : Use → Configuration → Configuration
used_for (f.reading array at) m = concluded (read_object (object_named (here m) array) (latest m.held.numbers) at (still m)).outcome (holding (numbers_closed m.held) m)
used_for (f.assigning text op v place at) m = going (f.evaluate true v) (pushed (f.on_value (f.assigned_to text op place at)) m)
used_for (f.bumping text up post place at) m =
    concluded (bumped up post (object_named (here m) text) (latest m.held.numbers) place at (still m)).outcome (holding (numbers_closed m.held) m)

abbrev pub next_subscript : Trees → Use → Configuration → Configuration
next_subscript tree.none u m = used_for u m
next_subscript (tree.more first rest) u m = going (f.evaluate true first) (pushed (f.on_value (f.subscript rest u)) m)

-- the environment and the parameters of a call with these arguments
abbrev pub function_entered : FunctionTree → List Argument → List Place → Configuration → Configuration
function_entered fn given path m =
    with_objects (parameters fn.params given (begun m.held.file path fn.result) (still m)).1
    (holding (in_environment (parameters fn.params given (begun m.held.file path fn.result) (still m)).0 (scope_opened m.held)) m)

-- A call with these arguments begins, with this frame behind it.
abbrev pub call_begun : (ℕ → EndFrame) → FunctionTree → List Argument → List Place → Configuration → Configuration
call_begun frame fn given path m =
    at_point point.Begin fn.at (f.block true (body_of fn.body))
    (with_objects (parameters fn.params given (begun m.held.file path fn.result) (still m)).1
    (holding (in_environment (parameters fn.params given (begun m.held.file path fn.result) (still m)).0 (scope_opened m.held))
    (pushed (f.on_end (frame (length m.objects))) m)))

abbrev pub called : Bool → Option FunctionTree → List Argument → Place → Configuration → Configuration
called used None given at m = going (f.give (value int_type (pos 0))) m
called used (Some fn) given at m = call_begun (f.called_by used fn) fn given ((here m).path ++ at ∷ []) m

abbrev pub argument_begun : Option ℕ → Tree → Trees → List ℕ → Bool → Place → Configuration → Configuration
argument_begun (Some object) first rest callee used at m = going (f.arguments rest callee used at) (holding (argument_added (argument.Array object) m.held) m)
argument_begun None first rest callee used at m = going (f.evaluate true first) (pushed (f.on_value (f.argument rest callee used at)) m)

abbrev pub next_argument : Trees → List ℕ → Bool → Place → Configuration → Configuration
next_argument tree.none callee used at m = called used (function_named m.items callee) (latest m.held.given) at (holding (given_closed m.held) m)
next_argument (tree.more first rest) callee used at m = argument_begun (array_given (here m) (still m) first) first rest callee used at m

abbrev pub next_action : List ActionTree → Configuration → Configuration
next_action [] m = going (f.complete end.Normal) m
next_action (a ∷ more) m = evaluated false (action_tree a) (pushed (f.on_value (f.acting more)) m)

-- ---- operators behind an operand

abbrev pub reached : Bool → Tree → Place → Configuration → Configuration
reached fork right at m = at_fork fork point.Arm at (f.evaluate true right) (pushed (f.on_value (f.reached fork at)) m)

abbrev pub not_reached : Bool → Bool → Place → Configuration → Configuration
not_reached fork decided at m = at_fork fork point.End at (f.give (value int_type (truth decided))) m

abbrev pub joined : Binary → Value → Tree → Place → Configuration → Configuration
joined b.LogAnd x right at m = if is_true x.number then reached (acts right) right at m else not_reached (acts right) false at m
joined b.LogOr x right at m = if is_true x.number then not_reached (acts right) true at m else reached (acts right) right at m
joined op x right at m = going (f.evaluate true right) (pushed (f.on_value (f.right op x at)) m)

abbrev pub kind_here : Configuration → Tree → CType
kind_here m t = kind_of (λ text. kind_of_object (still m) (object_named (here m) text)) (result_of m.items) t

abbrev pub chosen : Bool → Place → Place → CType → Tree → Configuration → Configuration
chosen fork arm at kind operand m = at_fork fork point.Arm arm (f.evaluate true operand) (pushed (f.on_value (f.chosen fork at kind)) m)

abbrev pub picked : Tree → Tree → Place → Place → Value → Configuration → Configuration
picked first second at colon x m =
    if is_true x.number
    then chosen (acts first || acts second) at at (common (kind_here m first) (kind_here m second)) first m
    else chosen (acts first || acts second) colon at (common (kind_here m first) (kind_here m second)) second m

-- ---- blocks

-- these objects live, and names are in scope, until this frame is reached
abbrev pub block_opened : EndFrame → List Object → Configuration → Configuration
block_opened frame made m =
    pushed (f.on_end frame)
    (holding (in_environment (record (here m) { next = length m.objects }) (scope_opened m.held))
    (record m { objects = m.objects ++ made }))

abbrev pub block_entered : List ObjectTree → (ℕ → EndFrame) → Configuration → Configuration
block_entered os frame m = block_opened (frame (length m.objects)) (map unwritten os) m

abbrev pub block_left : ℕ → Configuration → Configuration
block_left count m = holding (scope_left m.held) (record m { objects = take count m.objects })

abbrev pub next_item : Bool → StmtTrees → ℕ → Configuration → Configuration
next_item tail tree.no_stmt count m = going (f.complete end.Normal) (block_left count m)
next_item tail (tree.more_stmts first rest) count m = going (f.execute (tail && is_last rest) first) (pushed (f.on_end (f.items tail rest count)) m)

abbrev pub object_declared : Option InitTree → List ℕ → ℕ → Configuration → Configuration
object_declared None lengths object m = going (f.forget object) m
object_declared (Some init) lengths object m = going (f.initialise object lengths init 0) m

abbrev pub next_object : List ObjectTree → Configuration → Configuration
next_object [] m = going (f.complete end.Normal) m
next_object (o ∷ os) m =
    object_declared o.init (lengths_in o) (here m).next (pushed (f.on_end (f.declaring os)) (holding (in_environment (declared (here m) o.name) m.held) m))

-- ---- initialisers

-- A scalar has no rows.
abbrev pub rows_begun : ℕ → List ℕ → InitTrees → ℕ → Configuration → Configuration
rows_begun object [] items element m = going (f.complete end.Normal) m
rows_begun object (len ∷ lengths) items element m = going (f.complete end.Normal) (pushed (f.on_end (f.rows object len lengths items element)) m)

abbrev pub initialised : ℕ → List ℕ → InitTree → ℕ → Configuration → Configuration
initialised object lengths (tree.single v) element m = going (f.evaluate true v) (pushed (f.on_value (f.initial object element)) m)
initialised object lengths (tree.braced items at) element m = rows_begun object lengths items element m

abbrev pub next_row : ℕ → ℕ → List ℕ → InitTrees → ℕ → Configuration → Configuration
next_row object count lengths tree.no_init element m =
    going (f.complete end.Normal) (with_objects (zeros (count * element_count lengths) object element (still m)) m)
next_row object zero lengths (tree.more_inits first rest) element m = going (f.complete end.Normal) m
next_row object (suc count) lengths (tree.more_inits first rest) element m =
    going (f.initialise object lengths first element) (pushed (f.on_end (f.rows object count lengths rest (element + element_count lengths))) m)

-- ---- loops

abbrev pub round_begun : Loop → ℕ → Configuration → Configuration
round_begun (f.tests_first None body step at) spent m =
    at_point point.Test at (f.give (value int_type (pos 1))) (pushed (f.on_value (f.loop_test (f.tests_first None body step at) spent)) m)
round_begun (f.tests_first (Some test) body step at) spent m =
    at_point point.Test at (f.evaluate true test) (pushed (f.on_value (f.loop_test (f.tests_first (Some test) body step at) spent)) m)
round_begun (f.tests_last test body at) spent m = at_point point.Body at (f.execute false body) (scoped (f.loop_body (f.tests_last test body at) spent) m)

-- the loop is over
abbrev pub loop_over : Loop → Configuration → Configuration
loop_over l m = at_point point.End (loop_place l) (f.complete end.Normal) m

abbrev pub tested : Loop → ℕ → Bool → Configuration → Configuration
tested (f.tests_first test body step at) spent true m = at_point point.Body at (f.execute false body) (scoped (f.loop_body (f.tests_first test body step at) spent) m)
tested (f.tests_first test body step at) spent false m = loop_over (f.tests_first test body step at) m
tested (f.tests_last test body at) spent true m = round_begun (f.tests_last test body at) (spent + 1) m
tested (f.tests_last test body at) spent false m = loop_over (f.tests_last test body at) m

abbrev pub stepping : Loop → ℕ → Configuration → Configuration
stepping (f.tests_first test body [] at) spent m = round_begun (f.tests_first test body [] at) (spent + 1) m
stepping (f.tests_first test body (a ∷ more) at) spent m =
    at_point point.Step at (f.act (a ∷ more)) (pushed (f.on_end (f.loop_step (f.tests_first test body (a ∷ more) at) spent)) m)
stepping (f.tests_last test body at) spent m =
    at_point point.Test at (f.evaluate true test) (pushed (f.on_value (f.loop_test (f.tests_last test body at) spent)) m)

abbrev pub body_left : Loop → ℕ → Round → Configuration → Configuration
body_left l spent round.Again m = stepping l spent m
body_left l spent round.Over m = loop_over l m
body_left l spent (round.Out n) m = going (f.complete (end.Returned n false)) m

-- ---- switches

-- where a switch jumps to: the objects that are declared before it, the statement behind its label, and what follows
pub record Landing : Type 0 where
  pub skipped : List ObjectTree
  pub at : Place
  pub body : StmtTree
  pub rest : StmtTrees

-- the statement behind the label in front of this one
abbrev pub labelled : (Option Tree → Bool) → StmtTree → Option (Place × StmtTree)
labelled wanted (tree.case_ v body at) = if wanted v then Some (at, body) else labelled wanted body
labelled wanted _ = None

abbrev pub landed_here : Option (Place × StmtTree) → StmtTrees → Option Landing → Option Landing
landed_here None rest later = later
landed_here (Some l) rest later = Some (record { skipped = []; at = l.0; body = l.1; rest = rest })

abbrev pub skipping : List ObjectTree → Option Landing → Option Landing
skipping os None = None
skipping os (Some l) = Some (record l { skipped = os ++ l.skipped })

abbrev pub landing : (Option Tree → Bool) → StmtTrees → Option Landing
landing wanted tree.no_stmt = None
landing wanted (tree.more_stmts first rest) = landed_here (labelled wanted first) rest (skipping (declared_by first) (landing wanted rest))

abbrev pub landed : Option Landing → Configuration → Configuration
landed None m = going (f.complete end.Normal) m
landed (Some l) m = at_point point.Arm l.at (f.execute false l.body) (scoped f.leaving (holding (in_environment (all_declared (here m) l.skipped) m.held) m))

abbrev pub rest_behind : Option Landing → StmtTrees
rest_behind None = tree.no_stmt
rest_behind (Some l) = l.rest

abbrev pub jumped_to : Option Landing → StmtTrees → Configuration → Configuration
jumped_to l body m = landed l (block_entered (declared_in body) (f.items false (rest_behind l)) m)

abbrev pub jumped : Value → StmtTrees → Configuration → Configuration
jumped x body m = jumped_to (landing (target_label (promoted x.kind) (convert (promoted x.kind) x.number) body) body) body m

-- ---- statements

abbrev pub first_begun : FirstTree → Loop → Configuration → Configuration
first_begun tree.no_first l m = round_begun l m.meter.passed m
first_begun (tree.first part) l m = going (f.execute false part) (pushed (f.on_end (f.for_first l)) m)

abbrev pub return_begun : Bool → Option Tree → Configuration → Configuration
return_begun tail None m = going (f.complete (end.Returned None tail)) m
return_begun tail (Some v) m = going (f.evaluate true v) (pushed (f.on_value (f.returning tail)) m)

abbrev pub executed : Bool → StmtTree → Configuration → Configuration
executed tail (tree.block body) m = going (f.block tail body) m
executed tail (tree.declare os) m = going (f.complete end.Normal) (pushed (f.on_end (f.declaring os)) m)
executed tail (tree.act actions) m = going (f.act actions) m
executed tail (tree.if_ test body other at) m = going (f.evaluate true test) (pushed (f.on_value (f.if_test tail body other at)) m)
executed tail (tree.switch_ test body at) m = going (f.evaluate true test) (pushed (f.on_value (f.switch_test body at)) m)
executed tail (tree.case_ v body at) m = at_point point.Arm at (f.execute false body) (scoped f.leaving m)
executed tail (tree.while_ test body at) m = round_begun (f.tests_first (Some test) body [] at) m.meter.passed m
executed tail (tree.do_ body test at) m = round_begun (f.tests_last test body at) m.meter.passed m
executed tail (tree.for_ init test step body at) m = first_begun init (f.tests_first test body step at) (block_entered (declared_first init) (f.items false tree.no_stmt) m)
executed tail (tree.break_ at) m = going (f.complete end.Broke) m
executed tail (tree.continue_ at) m = going (f.complete end.Continued) m
executed tail (tree.return_ v at) m = return_begun tail v m

abbrev pub block_begun : Bool → StmtTrees → Configuration → Configuration
block_begun tail body m = going (f.complete end.Normal) (block_entered (declared_in body) (f.items tail body) m)

abbrev pub branched : Bool → Bool → StmtTree → ElseTree → Place → Configuration → Configuration
branched tail true body other at m = at_point point.Arm at (f.execute tail body) (scoped (f.behind_if at) m)
branched tail false body tree.no_else at m = at_point point.End at (f.complete end.Normal) m
branched tail false body (tree.else_ place second) at m = at_point point.Arm place (f.execute tail second) (scoped (f.behind_if at) m)

-- ---- a value for the frame above

abbrev pub resumed : ValueFrame → Value → Configuration → Configuration
resumed (f.unary op at) x m = concluded (computed (unary_kind op x.kind) (unary_value op x.kind x.number) at (still m)).outcome m
resumed (f.left op right at) x m = joined op x right at m
resumed (f.right op x at) y m = concluded (operated op x y at (still m)).outcome m
resumed (f.reached fork at) y m = at_fork fork point.End at (f.give (value int_type (truth (is_true y.number)))) m
resumed (f.choice first second at colon) x m = picked first second at colon x m
resumed (f.chosen fork at kind) y m = at_fork fork point.End at (f.give (value kind (convert kind y.number))) m
resumed (f.cast to) x m = going (f.give (value to (convert to x.number))) m
resumed (f.comma right) x m = going (f.evaluate true right) m
resumed (f.subscript others u) x m = going (f.subscripts others u) (holding (number_added x.number m.held) m)
resumed (f.assigned_to text op place at) x m =
    concluded (assigned op (object_named (here m) text) (latest m.held.numbers) place x at (still m)).outcome (holding (numbers_closed m.held) m)
resumed (f.argument others callee used at) x m = going (f.arguments others callee used at) (holding (argument_added (argument.Number x.number) m.held) m)
resumed (f.acting more) x m = going (f.act more) m
resumed (f.initial object element) x m =
    going (f.complete end.Normal) (with_objects (write_element (still m) object element (convert (kind_of_object (still m) object) x.number)) m)
resumed (f.if_test tail body other at) x m = branched tail (is_true x.number) body other at m
resumed (f.switch_test body at) x m = going (f.jump x body) (pushed (f.on_end (f.behind_switch at)) m)
resumed (f.loop_test l spent) x m = tested l spent (is_true x.number) m
resumed (f.returning tail) x m = going (f.complete (end.Returned (Some (converted_result (here m).result x.number)) tail)) m

-- ---- the end of a statement for the frame above

abbrev pub items_resumed : Bool → StmtTrees → ℕ → Completion → Configuration → Configuration
items_resumed tail more count end.Normal m = next_item tail more count m
items_resumed tail more count r m = going (f.complete r) (block_left count m)

abbrev pub if_left : Place → Completion → Configuration → Configuration
if_left at end.Normal m = at_point point.End at (f.complete end.Normal) m
if_left at (end.Returned n true) m = at_point point.End at (f.complete (end.Returned n true)) m
if_left at r m = going (f.complete r) m

abbrev pub switch_left : Place → Completion → Configuration → Configuration
switch_left at end.Normal m = at_point point.End at (f.complete end.Normal) m
switch_left at end.Broke m = at_point point.End at (f.complete end.Normal) m
switch_left at r m = going (f.complete r) m

-- a call whose frame is still on the stack
abbrev pub call_left : Bool → FunctionTree → ℕ → Completion → Configuration → Configuration
call_left used fn count (end.Returned n tail) m = at_point point.End fn.at (f.finish n) (record m { objects = take count m.objects })
call_left used fn count _ m =
    if used && is_some fn.result then record m { control = f.undefined ub.NoReturn fn.at }
    else at_point point.End fn.at (f.finish None) (record m { objects = take count m.objects })

abbrev pub ended : EndFrame → Completion → Configuration → Configuration
ended (f.rows object count lengths more element) r m = next_row object count lengths more element m
ended (f.declaring more) r m = next_object more m
ended (f.items tail more count) r m = items_resumed tail more count r m
ended (f.behind_if at) r m = if_left at r (left_scope m)
ended (f.behind_switch at) r m = switch_left at r m
ended f.leaving r m = going (f.complete r) (left_scope m)
ended (f.loop_body l spent) r m = body_left l spent (round_of r) (left_scope m)
ended (f.loop_step l spent) r m = round_begun l (spent + 1) m
ended (f.for_first l) r m = round_begun l m.meter.passed m
ended (f.called_by used fn count) r m = call_left used fn count r (pushed (f.on_end (f.called_by used fn count)) m)
ended (f.top fn count) r m = call_left true fn count r (pushed (f.on_end (f.top fn count)) m)

-- ---- moves

abbrev pub given_value : List Frame → Value → Configuration → Configuration
given_value (f.on_value frame ∷ k) v m = resumed frame v (record m { stack = k })
given_value _ v m = stuck m

abbrev pub given_end : List Frame → Completion → Configuration → Configuration
given_end (f.on_end frame ∷ k) r m = ended frame r (record m { stack = k })
given_end _ r m = stuck m

abbrev pub finished : List Frame → Option ℤ → Configuration → Configuration
finished (f.on_end (f.called_by used fn count) ∷ k) n m = going (f.give (value (kind_or_int fn.result) (number_or_zero n))) (left_scope (record m { stack = k }))
finished (f.on_end (f.top fn count) ∷ k) n m = record m { control = f.ended n }
finished _ n m = stuck m

abbrev pub stepped : Step → Configuration → Configuration
stepped (f.evaluate used e) m = evaluated used e m
stepped (f.give v) m = given_value m.stack v m
stepped (f.execute tail stmt) m = executed tail stmt m
stepped (f.complete r) m = given_end m.stack r m
stepped (f.subscripts others u) m = next_subscript others u m
stepped (f.arguments others callee used at) m = next_argument others callee used at m
stepped (f.act actions) m = next_action actions m
stepped (f.initialise object lengths init element) m = initialised object lengths init element m
stepped (f.block tail body) m = block_begun tail body m
stepped (f.forget object) m = going (f.complete end.Normal) (with_objects (forget (still m) object) m)
stepped (f.jump x body) m = jumped x body m
stepped (f.finish n) m = finished m.stack n m

-- a point is passed, which its meter counts
abbrev pub point_passed : Step → Configuration → Configuration
point_passed step m = record m { control = f.next step }

-- the top function is called with these arguments, and no point is passed yet
abbrev pub top_begun : List ItemTree → List Binding → FunctionTree → List Argument → List Object → Configuration
top_begun items names fn given objects =
    let bound = parameters fn.params given (begun names [] fn.result) (record { objects = objects; left = 0 }) in
    record {
      items = items;
      stack = f.on_end (f.top fn (length objects)) ∷ [];
      held = record { file = names; environment = bound.0; outer = []; numbers = []; given = [] };
      objects = bound.1.objects;
      meter = record { left = 0; passed = 0; counts = [] };
      control = f.before point.Begin fn.at (f.block true (body_of fn.body));
    }
