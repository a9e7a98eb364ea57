-- Programs whose calls are replaced by what their functions do.
use Rattle.std.specs.Prelude.{◌≡◌, ◌<◌, ℕ, zero, suc, Bool, true, false, List, [], ◌∷◌, ◌++◌, length, ◌==◌, ◌||◌, not, take, drop, Option, Some, None, slice_get, if◌then◌else◌}
use Rattle.hls_base.specs.declared.place.Place.{Place}
use Rattle.hls_base.specs.declared.refusal.Refusal.{Refusal}
use Rattle.hls_base.specs.declared.point.Point.{Point}
use Rattle.hls_base.specs.declared.point.PointKind.TheVariants as point
use Rattle.hls_base.specs.declared.number.VarId.{VarId}
use Rattle.hls_base.specs.declared.number.Kept.{Kept}
use Rattle.c_token.specs.declared.ctype.CType.{CType}
use Rattle.pieces.specs.Resolved.Core.{CoreObjectTree, FileObjectTree, CoreFunctionTree, CoreProgramTree}
use Rattle.pieces.specs.declared.piece.CallId.{CallId}
use Rattle.pieces.specs.Trees as tree
use Rattle.pieces.specs.Trees.{PureTree, PieceTree, piece_row}
use Rattle.pieces.specs.Program.{ExpandedTree}
use Rattle.piece_making.specs.declared.frame.Home.{Home}
use Rattle.piece_making.specs.declared.frame.Home.TheVariants as home
use Rattle.piece_making.specs.Making.{State, Part, gives, then_, emit, fresh, fresh_result, next_call, declared, variable_number}
use Rattle.piece_making.specs.Calls.{Call, point_in}
use Rattle.piece_making.specs.Leaving.{any_leaves}
use Rattle.piece_making.specs.Objects.{local, host_array, file_array, first_value}
use Rattle.c_expand.specs.Expressions as e
use Rattle.c_expand.specs.Expressions.{Given, Callee}
use Rattle.c_expand.specs.Statements.{statements, marked}

-- ---- calls

-- a variable of its own for a scalar parameter, which is set, and the caller's array for an array parameter
abbrev pub parameter : CoreObjectTree → Given → State → Part Home
parameter o (e.value_given x) s = then_ (fresh o.kind s) (λ own s1. then_ (emit (tree.set own x) s1) (λ u s2. gives (home.Variable own) s2))
parameter o (e.array_given name) s = gives (home.Array name) s

abbrev pub parameters : List CoreObjectTree → List Given → List Home → State → Part (List Home)
parameters [] given before s = gives before s
parameters (o ∷ os) [] before s = gives before s
parameters (o ∷ os) (g ∷ given) before s = then_ (parameter o g s) (λ h s1. parameters os given (before ++ h ∷ []) s1)

abbrev pub locals : List CoreObjectTree → List Home → State → Part (List Home)
locals [] before s = gives before s
locals (o ∷ os) before s = then_ (local o s) (λ h s1. locals os (before ++ h ∷ []) s1)

abbrev pub homes_for : CoreFunctionTree → List Given → State → Part (List Home)
homes_for fn given s = then_ (parameters fn.objects given [] s) (λ homes s1. locals (drop fn.params fn.objects) homes s1)

-- the End of a call, which a return in it may leave to
abbrev pub end_of : Bool → CallId → Point → PieceTree
end_of true call end = tree.land call end
end_of false call end = tree.mark end

-- the body of a function between its points
abbrev pub run_through : Callee → Call → CoreFunctionTree → State → Part (Unit {0})
run_through f c fn s =
    then_ (marked c point.Begin fn.at s) (λ u s1.
    then_ (statements f c fn.body true s1) (λ v s2. emit (end_of (any_leaves fn.body true) c.call (point_in c point.End fn.at)) s2))

abbrev pub within : Call → CoreFunctionTree → List Home → List Place → CallId → Option VarId → Call
within c fn homes path call result =
    record { file = c.file; file_variables = c.file_variables; homes = homes; objects = fn.objects; body_at = fn.at; path = path; call = call; result = result }

abbrev pub value_of : Option VarId → Option CType → Option PureTree
value_of (Some own) (Some kind) = Some (tree.variable own kind)
value_of _ _ = None

-- All arguments are evaluated. Then the parameters are set, and the function is run through.
abbrev pub opened : Callee → CoreFunctionTree → List Given → Call → Place → State → Part (Option PureTree)
opened f fn given c at s =
    then_ (homes_for fn given s) (λ homes s1.
    then_ (next_call s1) (λ call s2.
    then_ (fresh_result fn.result s2) (λ own s3.
    then_ (run_through f (within c fn homes (c.path ++ at ∷ []) call own) fn s3) (λ u s4. gives (value_of own fn.result) s4))))

abbrev pub opened_as : Option CoreFunctionTree → Callee → List Given → Call → Place → State → Part (Option PureTree)
opened_as None f given c at s = gives None s
opened_as (Some fn) f given c at s = opened f fn given c at s

-- calls of these functions, of which at most n are open at once
abbrev pub calls : List CoreFunctionTree → ℕ → Callee
calls functions zero callee given c at s = gives None s
calls functions (suc n) callee given c at s = opened_as (slice_get functions callee) (calls functions n) given c at s

-- ---- the program

abbrev pub is_array : CoreObjectTree → Bool
is_array o = not (length o.lengths == 0)

-- a scalar of file scope that is not const
abbrev pub is_kept : FileObjectTree → Bool
is_kept o = not (is_array o.object || o.object.constant)

-- its variable, and its first value
abbrev pub kept_scalar : FileObjectTree → State → Part Kept
kept_scalar o s = then_ (declared 1 s) (λ u s1. then_ (fresh o.object.kind s1) (λ own s2. gives (record { variable = own; value = first_value o.first }) s2))

abbrev pub kept_scalars : List FileObjectTree → List Kept → State → Part (List Kept)
kept_scalars [] before s = gives before s
kept_scalars (o ∷ os) before s =
    if is_kept o then then_ (kept_scalar o s) (λ kept s1. kept_scalars os (before ++ kept ∷ []) s1) else kept_scalars os before s

abbrev pub first_kept : List Kept → VarId
first_kept [] = variable_number 0
first_kept (k ∷ ks) = k.variable

-- what stands for an object of file scope: the first of these variables for a scalar that is not const
abbrev pub file_home : FileObjectTree → List Kept → State → Part Home
file_home o kept s =
    if is_array o.object then file_array o s
    else if o.object.constant then gives (home.Constant (first_value o.first)) s
    else gives (home.Variable (first_kept kept)) s

-- the variables of the objects behind it
abbrev pub kept_behind : FileObjectTree → List Kept → List Kept
kept_behind o kept = if is_kept o then drop 1 kept else kept

abbrev pub file_homes : List FileObjectTree → List Kept → List Home → State → Part (List Home)
file_homes [] kept before s = gives before s
file_homes (o ∷ os) kept before s = then_ (file_home o kept s) (λ h s1. file_homes os (kept_behind o kept) (before ++ h ∷ []) s1)

-- the parameters of the top function: variables, and arrays that the host reaches
abbrev pub top_parameter : CoreObjectTree → State → Part Home
top_parameter o s = if is_array o then host_array o s else then_ (fresh o.kind s) (λ own s1. gives (home.Variable own) s1)

abbrev pub top_parameters : List CoreObjectTree → List Home → State → Part (List Home)
top_parameters [] before s = gives before s
top_parameters (o ∷ os) before s = then_ (top_parameter o s) (λ h s1. top_parameters os (before ++ h ∷ []) s1)

abbrev pub with_variable : Home → List VarId → List VarId
with_variable (home.Variable own) vs = own ∷ vs
with_variable _ vs = vs

abbrev pub variables_of : List Home → List VarId
variables_of [] = []
variables_of (h ∷ hs) = with_variable h (variables_of hs)

-- what the expanded program has beside its pieces
pub record Outline : Type 0 where
  pub kept : List Kept
  pub params : List VarId
  pub result : Option VarId

abbrev pub outermost : CoreFunctionTree → List Home → ℕ → List Home → CallId → Option VarId → Call
outermost fn file file_variables homes call result =
    record { file = file; file_variables = file_variables; homes = homes; objects = fn.objects; body_at = fn.at; path = []; call = call; result = result }

-- the call of the top function, for whose objects these stand: its value is the variable of the result
abbrev pub top_call : List CoreFunctionTree → CoreFunctionTree → List Home → ℕ → List Home → State → Part (Option VarId)
top_call functions fn file file_variables homes s =
    then_ (next_call s) (λ call s1.
    then_ (fresh_result fn.result s1) (λ own s2.
    then_ (run_through (calls functions (length functions)) (outermost fn file file_variables homes call own) fn s2) (λ u s3. gives own s3)))

abbrev pub top_run : CoreProgramTree → CoreFunctionTree → State → Part Outline
top_run p fn s =
    then_ (kept_scalars p.file [] s) (λ kept s1.
    then_ (top_parameters (take fn.params fn.objects) [] s1) (λ params s2.
    then_ (file_homes p.file kept [] s2) (λ file s3.
    then_ (locals (drop fn.params fn.objects) params s3) (λ homes s4.
    then_ (top_call p.functions fn file (length s1.variables) homes s4) (λ own s5.
    gives (record { kept = kept; params = variables_of params; result = own }) s5)))))

abbrev pub nothing : State
nothing = record { variables = []; arrays = []; slots = []; calls = 0; loops = 0; made = 0 }

abbrev pub no_outline : Outline
no_outline = record { kept = []; params = []; result = None }

abbrev pub top_made : CoreProgramTree → Option CoreFunctionTree → Part Outline
top_made p None = gives no_outline nothing
top_made p (Some fn) = top_run p fn nothing

abbrev pub with_outline : Part Outline → Option CType → List ℕ → ExpandedTree
with_outline part ret name = record {
  pieces = piece_row part.pieces;
  variables = part.state.variables;
  arrays = part.state.arrays;
  params = part.value.params;
  kept = part.value.kept;
  ret = ret;
  result = part.value.result;
  name = name;
}

abbrev pub top_of : CoreProgramTree → Option CoreFunctionTree
top_of p = slice_get p.functions p.top

-- the program with its calls expanded
abbrev pub named : Option CoreFunctionTree → Part Outline → ExpandedTree
named None part = with_outline part None []
named (Some fn) part = with_outline part fn.result fn.name

abbrev pub expansion : CoreProgramTree → ExpandedTree
expansion p = named (top_of p) (top_made p (top_of p))

-- its weight
abbrev pub expanded_weight : CoreProgramTree → ℕ
expanded_weight p = (top_made p (top_of p)).weight

-- a program that weighs too much is refused at the name of its top function, under rule 36
pub record IsOverweight (p : CoreProgramTree) (r : Refusal) : Type 0 where
  pub heavy : 8192 < expanded_weight p
  pub rule : r.rule ≡ 36
  pub function : CoreFunctionTree
  pub top : top_of p ≡ Some function
  pub at : r.place ≡ function.at
