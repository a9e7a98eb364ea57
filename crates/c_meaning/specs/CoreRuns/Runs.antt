-- What a run of a core program is: C11 5.1.2.3, 6.5.2.2, 6.9.
use Rattle.std.specs.Prelude.{ℕ, zero, suc, ◌+◌, ◌==◌, ◌&&◌, not, Bool, true, List, [], ◌∷◌, length, take, drop, slice_get, ℤ, Option, Some, None, is_some, if◌then◌else◌}
use Rattle.hls_base.specs.FileScope.{FileScope}
use Rattle.hls_base.specs.declared.place.Place.{Place}
use Rattle.hls_base.specs.declared.point.Point.{Point}
use Rattle.hls_base.specs.declared.point.PointKind.TheVariants as point
use Rattle.hls_base.specs.declared.refusal.UbRule.TheVariants as ub
use Rattle.c_value.specs.Values.{int_type, convert}
use Rattle.c_meaning.specs.declared.value.Completion.{Completion}
use Rattle.c_meaning.specs.declared.value.Completion.TheVariants as end
use Rattle.c_meaning.specs.Store.{Object, fresh, scalar}
use Rattle.c_meaning.specs.Run.{Answer, ended, undefined, running, filled, patterns, with_contents, kept_rest, head_or_none, word_of, result_pattern}
use Rattle.pieces.specs.Resolved.Core.{CoreObjectTree, FileObjectTree, CoreFunctionTree, CoreProgramTree}
use Rattle.hls_base.specs.Steps as Steps
use Rattle.hls_base.specs.Steps.{Outcome, Ran, goes, fails, waits, then_, pass}
use Rattle.c_meaning.specs.CoreRuns.Cells.{spot, Cells, put, Given, number_given, array_given, Here, spots_of, entered}
use Rattle.c_meaning.specs.CoreRuns.Expressions.{CoreCalls, point_at}
use Rattle.c_meaning.specs.CoreRuns.Statements.{statements}

-- ---- calls, C11 6.5.2.2

-- a scalar parameter is an object of its own with the converted number
abbrev pub parameter : ℕ → ℕ → CoreObjectTree → Given → Cells → Cells
parameter frame i o (number_given v) s = put s (spot frame i) (scalar o.kind (convert o.kind v))
parameter frame i o (array_given array) s = s

abbrev pub parameters : ℕ → ℕ → List CoreObjectTree → List Given → Cells → Cells
parameters frame i [] given s = s
parameters frame i (o ∷ os) [] s = s
parameters frame i (o ∷ os) (g ∷ given) s = parameters frame (i + 1) os given (parameter frame i o g s)

-- A function's end without a value, where the value of the call is used, is undefined at the function's name (C11 6.9.1 paragraph 12). A call that returns passes End of the function.
abbrev pub function_end : CoreFunctionTree → Option ℤ → Here → Cells → ℕ → Ran Cells (Option ℤ)
function_end f v here s n = then_ (pass (point_at point.End f.at here) s n) (λ p s1 n1. goes v s1 n1)

abbrev pub function_left : Bool → CoreFunctionTree → Completion → Here → Cells → ℕ → Ran Cells (Option ℤ)
function_left used f (end.Returned v tail) here s n = function_end f v here s n
function_left used f _ here s n = if used && is_some f.result then fails ub.NoReturn f.at else function_end f None here s n

-- the body of a function, between its points
abbrev pub body : CoreCalls → Bool → CoreFunctionTree → Here → Cells → ℕ → Ran Cells (Option ℤ)
body c used f here s n =
    then_ (pass (point_at point.Begin f.at here) s n) (λ p s1 n1.
    then_ (statements c true f.body here (entered here f.outermost s1) n1) (λ r s2 n2. function_left used f r here s2 n2))

abbrev pub here_in : CoreFunctionTree → List Given → ℕ → List Place → Here
here_in f given frame path = record { frame = frame; spots = spots_of frame (take f.params given); objects = f.objects; path = path; result = f.result }

-- a call with these arguments, over a frame of its own
abbrev pub function : CoreCalls → Bool → CoreFunctionTree → List Given → ℕ → List Place → Cells → ℕ → Ran Cells (Option ℤ)
function c used f given frame path s n = body c used f (here_in f given frame path) (parameters frame 0 (take f.params f.objects) given s) n

abbrev pub called : CoreCalls → Bool → Option CoreFunctionTree → List Given → ℕ → List Place → Cells → ℕ → Ran Cells (Option ℤ)
called c used None given frame path s n = goes None s n
called c used (Some f) given frame path s n = function c used f given frame path s n

-- Each call passes a point, so the calls within one another are no more than the points that may be passed.
abbrev pub calls : ℕ → List CoreFunctionTree → CoreCalls
calls zero functions used callee given frame path s n = waits
calls (suc k) functions used callee given frame path s n = called (calls k functions) used (slice_get functions callee) given frame path s n

-- ---- file scope

abbrev pub is_array : CoreObjectTree → Bool
is_array o = not (length o.lengths == 0)

-- a const object has the contents of its initialiser, and another one these
abbrev pub file_object : FileObjectTree → FileScope → Object
file_object o kept =
    if o.object.constant then filled o.object.kind o.object.lengths o.first
    else if is_array o.object then filled o.object.kind o.object.lengths (head_or_none kept.arrays)
    else filled o.object.kind [] (take 1 kept.scalars)

abbrev pub rest_behind : FileObjectTree → FileScope → FileScope
rest_behind o kept = if o.object.constant then kept else kept_rest (not (is_array o.object)) kept

abbrev pub file_store : List FileObjectTree → FileScope → List Object
file_store [] kept = []
file_store (o ∷ os) kept = file_object o kept ∷ file_store os (rest_behind o kept)

-- what the objects that are not const hold
abbrev pub contents_from : List FileObjectTree → ℕ → Cells → FileScope
contents_from [] i s = record { scalars = []; arrays = [] }
contents_from (o ∷ os) i s =
    if o.object.constant then contents_from os (i + 1) s
    else with_contents (not (is_array o.object)) (s (spot 0 i)) (contents_from os (i + 1) s)

-- ---- the top function

-- Its arguments. Its array parameters are objects of its own, which are written from the start.
abbrev pub top_arguments : ℕ → List CoreObjectTree → List ℕ → List Given
top_arguments i [] scalars = []
top_arguments i (o ∷ os) scalars =
    if is_array o then array_given (spot 1 i) ∷ top_arguments (i + 1) os scalars
    else number_given (word_of o.kind scalars) ∷ top_arguments (i + 1) os (drop 1 scalars)

abbrev pub host_arrays : ℕ → List CoreObjectTree → List (List ℕ) → Cells → Cells
host_arrays i [] arrays s = s
host_arrays i (o ∷ os) arrays s =
    if is_array o then host_arrays (i + 1) os (drop 1 arrays) (put s (spot 1 i) (filled o.kind o.lengths (head_or_none arrays)))
    else host_arrays (i + 1) os arrays s

-- what the array parameters hold
abbrev pub arrays_from : ℕ → List CoreObjectTree → Cells → List (List ℕ)
arrays_from i [] s = []
arrays_from i (o ∷ os) s = if is_array o then patterns (s (spot 1 i)) ∷ arrays_from (i + 1) os s else arrays_from (i + 1) os s

abbrev pub object_or_none : Option Object → Object
object_or_none None = fresh int_type []
object_or_none (Some o) = o

abbrev pub stored : List Object → Cells
stored objects x = if x.frame == 0 then object_or_none (slice_get objects x.number) else fresh int_type []

-- ---- runs

abbrev pub params_of : CoreFunctionTree → List CoreObjectTree
params_of f = take f.params f.objects

abbrev pub answer_of : CoreProgramTree → CoreFunctionTree → List Point → Outcome Cells (Option ℤ) → Answer
answer_of p f trace (Steps.went v s n) = ended (result_pattern f.result v) (arrays_from 0 (params_of f) s) (contents_from p.file 0 s) trace
answer_of p f trace (Steps.undefined rule at) = undefined rule at
answer_of p f trace Steps.waiting = running

abbrev pub answer : CoreProgramTree → CoreFunctionTree → Ran Cells (Option ℤ) → Answer
answer p f r = answer_of p f r.trace r.outcome

abbrev pub started : CoreProgramTree → CoreFunctionTree → FileScope → List (List ℕ) → Cells
started p f kept arrays = host_arrays 0 (params_of f) arrays (stored (file_store p.file kept))

-- the function as the top function, from these contents of file scope and with these arguments, passing at most n points
abbrev pub top_run : CoreProgramTree → CoreFunctionTree → FileScope → List ℕ → List (List ℕ) → ℕ → Answer
top_run p f kept scalars arrays n =
    answer p f (function (calls n p.functions) true f (top_arguments 0 (params_of f) scalars) 1 [] (started p f kept arrays) n)

abbrev pub run_of : CoreProgramTree → Option CoreFunctionTree → FileScope → List ℕ → List (List ℕ) → ℕ → Answer
run_of p None kept scalars arrays n = running
run_of p (Some f) kept scalars arrays n = top_run p f kept scalars arrays n

-- The run of a core program, from these contents of file scope and with these arguments.
abbrev pub core_run : CoreProgramTree → FileScope → List ℕ → List (List ℕ) → ℕ → Answer
core_run p kept scalars arrays n = run_of p (slice_get p.functions p.top) kept scalars arrays n
