-- What a run of a program is: C11 5.1.2.3, 6.5.2.2, 6.7.9, 6.9.
use Rattle.std.specs.Prelude.{ℕ, zero, suc, ◌+◌, ◌==◌, ◌&&◌, not, Bool, true, false, List, [], ◌∷◌, ◌++◌, map, length, take, slice_get, ℤ, pos, Option, Some, None, is_some, bytes_eq, replicate, drop, if◌then◌else◌}
use Rattle.hls_base.specs.FileScope.{FileScope}
use Rattle.hls_base.specs.ArrayAddress.{element_count}
use Rattle.hls_base.specs.declared.place.Place.{Place}
use Rattle.hls_base.specs.declared.point.Point.{Point}
use Rattle.hls_base.specs.declared.point.PointKind.TheVariants as point
use Rattle.hls_base.specs.declared.refusal.UbRule.{UbRule}
use Rattle.hls_base.specs.declared.refusal.UbRule.TheVariants as ub
use Rattle.c_token.specs.declared.ctype.CType.{CType}
use Rattle.c_tree.specs.Tree as tree
use Rattle.c_tree.specs.Tree.{Tree, InitTree, ObjectTree, StmtTrees, ParamTree, FunctionTree, ItemTree, ProgramTree}
use Rattle.c_value.specs.Values.{int_type, pattern, number_of, convert}
use Rattle.c_value.specs.Operators.{Computed}
use Rattle.c_value.specs.Operators as o
use Rattle.c_value.specs.Constant.{constant_number}
use Rattle.c_meaning.specs.Checks.Limits.{file_objects}
use Rattle.c_meaning.specs.declared.value.Completion.{Completion}
use Rattle.c_meaning.specs.declared.value.Completion.TheVariants as end
use Rattle.c_meaning.specs.declared.value.Argument.{Argument}
use Rattle.c_meaning.specs.declared.value.Argument.TheVariants as argument
use Rattle.c_meaning.specs.declared.names.Binding.{Binding}
use Rattle.c_meaning.specs.Store.{Object, scalar, State, Environment, lengths_in, declared_in, left_block}
use Rattle.c_meaning.specs.Names.{bind, begun}
use Rattle.c_meaning.specs.Steps as Steps
use Rattle.c_meaning.specs.Steps.{Outcome, Ran, goes, fails, waits, then_, pass}
use Rattle.c_meaning.specs.Expression.{Calls}
use Rattle.c_meaning.specs.Statement.{items_of, in_block, items_meaning}

-- ---- functions

-- the definition of a function of this name, C11 6.9.1
abbrev pub definition_in : List ℕ → ItemTree → Option FunctionTree
definition_in name (tree.objects os) = None
definition_in name (tree.function f) = if is_some f.body && bytes_eq f.name name then Some f else None

abbrev pub first_of : Option FunctionTree → Option FunctionTree → Option FunctionTree
first_of (Some f) other = Some f
first_of None other = other

abbrev pub function_named : List ItemTree → List ℕ → Option FunctionTree
function_named [] name = None
function_named (item ∷ items) name = first_of (definition_in name item) (function_named items name)

abbrev pub kind_or_int : Option CType → CType
kind_or_int None = int_type
kind_or_int (Some kind) = kind

abbrev pub result_kind : Option FunctionTree → CType
result_kind None = int_type
result_kind (Some f) = kind_or_int f.result

-- ---- calls, C11 6.5.2.2

-- An array parameter is the caller's array, and a scalar one is an object of its own with the converted number.
abbrev pub parameter : Argument → ObjectTree → Environment → State → Environment × State
parameter (argument.Array object) p env s = (bind env p.name object, s)
parameter (argument.Number n) p env s =
    (bind env p.name (length s.objects), record s { objects = s.objects ++ scalar p.kind (convert p.kind n) ∷ [] })

abbrev pub parameters : List ParamTree → List Argument → Environment → State → Environment × State
parameters [] given env s = (env, s)
parameters (p ∷ ps) [] env s = (env, s)
parameters (p ∷ ps) (a ∷ given) env s = parameters ps given (parameter a p.object env s).0 (parameter a p.object env s).1

-- A function's end without a value, where the value of the call is used, is undefined at the function's name (C11 6.9.1 paragraph 12). A call that returns passes End of the function.
abbrev pub function_end : Bool → FunctionTree → Option ℤ → Environment → State → Ran (Option ℤ)
function_end used f n env s = then_ (pass point.End f.at env s) (λ p s1. goes n s1)

abbrev pub function_left : Bool → FunctionTree → Completion → Environment → State → Ran (Option ℤ)
function_left used f (end.Returned n tail) env s = function_end used f n env s
function_left used f _ env s = if used && is_some f.result then fails ub.NoReturn f.at else function_end used f None env s

abbrev pub body_of : Option StmtTrees → StmtTrees
body_of None = tree.no_stmt
body_of (Some body) = body

-- the body of a function, between its points, with the objects of the call from this number on
abbrev pub function_body : Calls → Bool → FunctionTree → ℕ → Environment → State → Ran (Option ℤ)
function_body c used f count env s =
    then_ (pass point.Begin f.at env s) (λ p s1.
    then_ (in_block (declared_in (body_of f.body)) (items_meaning c true (body_of f.body)) env s1) (λ r s2. function_left used f r env (left_block count s2)))

-- a call with these arguments; the function sees the names of file scope
abbrev pub function_meaning : Calls → Bool → FunctionTree → List Argument → List Place → List Binding → State → Ran (Option ℤ)
function_meaning c used f given path names s =
    let bound = parameters f.params given (begun names path f.result) s in
    function_body c used f (length s.objects) bound.0 bound.1

abbrev pub called : Calls → Bool → Option FunctionTree → List Argument → List Place → List Binding → State → Ran (Option ℤ)
called c used None given path names s = goes None s
called c used (Some f) given path names s = function_meaning c used f given path names s

-- The meaning of the calls of a program. Each call passes a point, so the calls within one another are no more than the points that may be passed.
abbrev pub result_of : List ItemTree → List ℕ → CType
result_of items callee = result_kind (function_named items callee)

abbrev pub call_meaning : ℕ → List ItemTree → List Binding → Bool → List ℕ → List Argument → List Place → State → Ran (Option ℤ)
call_meaning zero items names used callee given path s = waits
call_meaning (suc n) items names used callee given path s =
    called (record { call = call_meaning n items names; result_of = result_of items }) used (function_named items callee) given path names s

abbrev pub calls : ℕ → List ItemTree → List Binding → Calls
calls n items names = record { call = call_meaning n items names; result_of = result_of items }

-- ---- file scope, C11 6.7.9 paragraphs 4 and 10

abbrev pub or_zero : Computed → ℤ
or_zero (o.defined n) = n
or_zero (o.undefined rule) = pos 0

abbrev pub constant_item : CType → Option Tree → Option ℤ
constant_item kind None = Some (pos 0)
constant_item kind (Some t) = Some (convert kind (or_zero (constant_number t)))

-- an object without an initialiser is 0
abbrev pub file_items : List ℕ → Option InitTree → List (Option Tree)
file_items lengths None = replicate (element_count lengths) None
file_items lengths (Some init) = items_of lengths init

-- an object of file scope, as its initialiser gives it
abbrev pub first_object : ObjectTree → Object
first_object o = record { kind = o.kind; lengths = lengths_in o; elements = map (constant_item o.kind) (file_items (lengths_in o) o.init) }

abbrev pub bindings_from : ℕ → List ObjectTree → List Binding
bindings_from i [] = []
bindings_from i (o ∷ os) = record { name = o.name; object = i } ∷ bindings_from (i + 1) os

abbrev pub file_names : List ItemTree → List Binding
file_names items = bindings_from 0 (file_objects items)

-- ---- contents as bit patterns: a number n of a type of w bits stands as n modulo 2^w

abbrev pub element_pattern : CType → Option ℤ → ℕ
element_pattern kind None = 0
element_pattern kind (Some n) = pattern kind n

abbrev pub patterns : Object → List ℕ
patterns o = map (element_pattern o.kind) o.elements

abbrev pub filled : CType → List ℕ → List ℕ → Object
filled kind lengths words = record { kind = kind; lengths = lengths; elements = map (λ word. Some (number_of kind word)) words }

abbrev pub is_scalar : Object → Bool
is_scalar o = length o.lengths == 0

-- the contents of file-scope objects that are not const, of which these declarations tell which they are
abbrev pub with_contents : Bool → Object → FileScope → FileScope
with_contents true o rest = record rest { scalars = patterns o ++ rest.scalars }
with_contents false o rest = record rest { arrays = patterns o ∷ rest.arrays }

abbrev pub contents_of : List ObjectTree → List Object → FileScope
contents_of [] objects = record { scalars = []; arrays = [] }
contents_of (d ∷ ds) [] = record { scalars = []; arrays = [] }
contents_of (d ∷ ds) (o ∷ objects) = if d.constant then contents_of ds objects else with_contents (is_scalar o) o (contents_of ds objects)

-- the contents that the initialisers give
abbrev pub first_contents : ProgramTree → FileScope
first_contents p = contents_of (file_objects p.items) (map first_object (file_objects p.items))

abbrev pub head_or_none : List (List ℕ) → List ℕ
head_or_none [] = []
head_or_none (words ∷ more) = words

-- The objects of file scope with these contents. A const object has those of its initialiser.
abbrev pub kept_object : Bool → ObjectTree → FileScope → Object
kept_object true o kept = filled o.kind [] (take 1 kept.scalars)
kept_object false o kept = filled o.kind (lengths_in o) (head_or_none kept.arrays)

abbrev pub kept_rest : Bool → FileScope → FileScope
kept_rest true kept = record kept { scalars = drop 1 kept.scalars }
kept_rest false kept = record kept { arrays = drop 1 kept.arrays }

abbrev pub file_store : List ObjectTree → FileScope → List Object
file_store [] kept = []
file_store (d ∷ ds) kept =
    if d.constant then first_object d ∷ file_store ds kept
    else kept_object (length (lengths_in d) == 0) d kept ∷ file_store ds (kept_rest (length (lengths_in d) == 0) kept)

-- ---- runs

abbrev pub is_array_parameter : ParamTree → Bool
is_array_parameter p = not (length p.object.lengths == 0)

abbrev pub word_of : CType → List ℕ → ℤ
word_of kind [] = pos 0
word_of kind (word ∷ words) = number_of kind word

-- The top function's arguments. Its array parameters are objects of their own, which are written from the start and are numbered from `next` on.
abbrev pub top_arguments : List ParamTree → List ℕ → ℕ → List Argument
top_arguments [] scalars next = []
top_arguments (p ∷ ps) scalars next =
    if is_array_parameter p then argument.Array next ∷ top_arguments ps scalars (next + 1)
    else argument.Number (word_of p.object.kind scalars) ∷ top_arguments ps (drop 1 scalars) next

abbrev pub host_arrays : List ParamTree → List (List ℕ) → List Object
host_arrays [] arrays = []
host_arrays (p ∷ ps) arrays =
    if is_array_parameter p then filled p.object.kind (lengths_in p.object) (head_or_none arrays) ∷ host_arrays ps (drop 1 arrays)
    else host_arrays ps arrays

-- what a run comes to: it ends with a result, the elements of the array parameters, the contents of file scope, and the points that were passed
pub data Answer : Type 0 where
  ended : (result : Option ℕ) (arrays : List (List ℕ)) (kept : FileScope) (trace : List Point) → Answer
  undefined : (rule : UbRule) (at : Place) → Answer
  running : Answer

abbrev pub result_pattern : Option CType → Option ℤ → Option ℕ
result_pattern None n = None
result_pattern (Some kind) None = None
result_pattern (Some kind) (Some n) = Some (pattern kind n)

abbrev pub answer_of : List ObjectTree → FunctionTree → List Point → Outcome (Option ℤ) → Answer
answer_of file f trace (Steps.went n s) =
    ended (result_pattern f.result n) (map patterns (drop (length file) s.objects)) (contents_of file s.objects) trace
answer_of file f trace (Steps.undefined rule at) = undefined rule at
answer_of file f trace Steps.waiting = running

abbrev pub answer : List ObjectTree → FunctionTree → Ran (Option ℤ) → Answer
answer file f r = answer_of file f r.trace r.outcome

abbrev pub started : List ItemTree → FunctionTree → FileScope → List (List ℕ) → ℕ → State
started items f kept arrays n = record { objects = file_store (file_objects items) kept ++ host_arrays f.params arrays; left = n }

-- the function as the top function, from these contents of file scope and with these arguments, passing at most n points
abbrev pub top_run : List ItemTree → FunctionTree → FileScope → List ℕ → List (List ℕ) → ℕ → Answer
top_run items f kept scalars arrays n =
    answer (file_objects items) f
    (function_meaning (calls n items (file_names items)) true f (top_arguments f.params scalars (length (file_objects items))) [] (file_names items) (started items f kept arrays n))

abbrev pub function_at : Option ItemTree → Option FunctionTree
function_at (Some (tree.function f)) = Some f
function_at _ = None

abbrev pub run_of : List ItemTree → Option FunctionTree → FileScope → List ℕ → List (List ℕ) → ℕ → Answer
run_of items None kept scalars arrays n = running
run_of items (Some f) kept scalars arrays n = top_run items f kept scalars arrays n

-- The run of a program whose top function is the item of this number.
abbrev pub c_run : ProgramTree → ℕ → FileScope → List ℕ → List (List ℕ) → ℕ → Answer
c_run p top kept scalars arrays n = run_of p.items (function_at (slice_get p.items top)) kept scalars arrays n
