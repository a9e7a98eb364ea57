-- The loops of calls and of the whole program.
use Rattle.std.proofs.Common.{ℕ, zero, suc, Bool, true, false, List, [], ◌∷◌, ◌++◌, length, Option, Some, None, slice_get, if◌then◌else◌}
use Rattle.std.specs.Prelude.{drop, take}
use Rattle.hls_base.specs.declared.place.Place.{Place}
use Rattle.hls_base.specs.declared.point.Point.{Point}
use Rattle.hls_base.specs.declared.point.PointKind.TheVariants as point
use Rattle.hls_base.specs.declared.number.Kept.{Kept}
use Rattle.c_token.specs.declared.ctype.CType.{CType}
use Rattle.pieces.specs.Resolved.Core.{CoreObjectTree, FileObjectTree, CoreFunctionTree, CoreProgramTree}
use Rattle.pieces.specs.declared.piece.CallId.{CallId}
use Rattle.pieces.specs.Trees as tree
use Rattle.piece_making.specs.declared.frame.Home.{Home}
use Rattle.piece_making.specs.declared.frame.Home.TheVariants as home
use Rattle.piece_making.specs.Making.{gives, then_, emit, fresh, fresh_result, new_slot, add_array, declared, next_call}
use Rattle.piece_making.specs.Calls.{Call, point_in}
use Rattle.piece_making.specs.Leaving.{any_leaves}
use Rattle.piece_making.specs.Objects.{local_of, host_array, file_array, file_info, array_like, array_weight, first_value}
use Rattle.c_expand.specs.Expressions as e
use Rattle.c_expand.specs.Expressions.{Given, Callee}
use Rattle.c_expand.specs.Statements.{marked, statements}
use Rattle.c_expand.specs.Expansion.{parameter, parameters, locals, homes_for, end_of, run_through, within, opened, opened_as, calls, is_array, is_kept, kept_scalar, kept_scalars, first_kept, file_home, file_homes, kept_behind, top_parameter, top_parameters, outermost, top_call, top_run, top_of, top_made, named, nothing}
use Rattle.expanded_pieces.proofs.ApartPoints.Quiet.{fresh_quiet, result_quiet, array_quiet, slot_quiet, call_quiet, declared_quiet}
use Rattle.timed_pieces.specs.FormulaCycles.Loops.{PiecesLoopsEnd, PieceLoopsEnd}
use Rattle.source_answers.specs.EndedLoops.{ExpandedLoopsEnd}
use Rattle.source_answers.proofs.EndedLoops.Parts.{EndsThere, then_ends, emit_ends, ends_if, quiet_ends}
use Rattle.source_answers.proofs.EndedLoops.Expressions.{CalleesEnd}
use Rattle.source_answers.proofs.EndedLoops.Statements.{marked_ends, statements_end}

-- ---- what stands for objects

parameter_ends : (o : CoreObjectTree) (given : Given) → EndsThere (parameter o given)
parameter_ends o (e.value_given x) s =
    let own = fresh o.kind s in
    let u = emit (tree.set own.value x) own.state in
    then_ends own _ (quiet_ends own (fresh_quiet o.kind s)) (then_ends u _ (emit_ends (tree.set own.value x) own.state tt) tt)
parameter_ends o (e.array_given name) s = tt

parameters_end : (os : List CoreObjectTree) (given : List Given) (before : List Home) → EndsThere (parameters os given before)
parameters_end [] given before s = tt
parameters_end (o ∷ os) [] before s = tt
parameters_end (o ∷ os) (x ∷ given) before s = let h = parameter o x s in then_ends h _ (parameter_ends o x s) (parameters_end os given (before ++ h.value ∷ []) h.state)

local_ends : (lengths : List ℕ) (k : CType) → EndsThere (local_of lengths k)
local_ends [] k s = let own = fresh k s in then_ends own _ (quiet_ends own (fresh_quiet k s)) tt
local_ends (len ∷ lengths) k s = let slot = new_slot s in then_ends slot _ (quiet_ends slot (slot_quiet s)) tt

locals_end : (os : List CoreObjectTree) (before : List Home) → EndsThere (locals os before)
locals_end [] before s = tt
locals_end (o ∷ os) before s = let h = local_of o.lengths o.kind s in then_ends h _ (local_ends o.lengths o.kind s) (locals_end os (before ++ h.value ∷ []) h.state)

homes_end : (fn : CoreFunctionTree) (given : List Given) → EndsThere (homes_for fn given)
homes_end fn given s = let homes = parameters fn.objects given [] s in then_ends homes _ (parameters_end fn.objects given [] s) (locals_end (drop fn.params fn.objects) homes.value homes.state)

kept_ends : (o : FileObjectTree) → EndsThere (kept_scalar o)
kept_ends o s =
    let counted = declared 1 s in
    let own = fresh o.object.kind counted.state in
    then_ends counted _ (quiet_ends counted (declared_quiet 1 s)) (then_ends own _ (quiet_ends own (fresh_quiet o.object.kind counted.state)) tt)

all_kept_end : (os : List FileObjectTree) (before : List Kept) → EndsThere (kept_scalars os before)
all_kept_end [] before s = tt
all_kept_end (o ∷ os) before s =
    let kept = kept_scalar o s in
    ends_if (is_kept o) (then_ (kept_scalar o s) (λ kept s1. kept_scalars os (before ++ kept ∷ []) s1)) (kept_scalars os before s)
    (then_ends kept _ (kept_ends o s) (all_kept_end os (before ++ kept.value ∷ []) kept.state)) (all_kept_end os before s)

file_array_ends : (o : FileObjectTree) → EndsThere (file_array o)
file_array_ends o s =
    let counted = declared (array_weight o.object.lengths) s in
    let a = add_array (file_info o) counted.state in
    then_ends counted _ (quiet_ends counted (declared_quiet (array_weight o.object.lengths) s)) (then_ends a _ (quiet_ends a (array_quiet (file_info o) counted.state)) tt)

file_home_ends : (o : FileObjectTree) (kept : List Kept) → EndsThere (file_home o kept)
file_home_ends o kept s =
    ends_if (is_array o.object) (file_array o s) (if o.object.constant then gives (home.Constant (first_value o.first)) s else gives (home.Variable (first_kept kept)) s) (file_array_ends o s)
    (ends_if o.object.constant (gives (home.Constant (first_value o.first)) s) (gives (home.Variable (first_kept kept)) s) tt tt)

file_homes_end : (os : List FileObjectTree) (kept : List Kept) (before : List Home) → EndsThere (file_homes os kept before)
file_homes_end [] kept before s = tt
file_homes_end (o ∷ os) kept before s = let h = file_home o kept s in then_ends h _ (file_home_ends o kept s) (file_homes_end os (kept_behind o kept) (before ++ h.value ∷ []) h.state)

top_parameter_ends : (o : CoreObjectTree) → EndsThere (top_parameter o)
top_parameter_ends o s =
    let own = fresh o.kind s in
    let a = add_array (array_like o None None true) s in
    ends_if (is_array o) (host_array o s) (then_ (fresh o.kind s) (λ own s1. gives (home.Variable own) s1))
    (then_ends a _ (quiet_ends a (array_quiet (array_like o None None true) s)) tt) (then_ends own _ (quiet_ends own (fresh_quiet o.kind s)) tt)

top_parameters_end : (os : List CoreObjectTree) (before : List Home) → EndsThere (top_parameters os before)
top_parameters_end [] before s = tt
top_parameters_end (o ∷ os) before s = let h = top_parameter o s in then_ends h _ (top_parameter_ends o s) (top_parameters_end os (before ++ h.value ∷ []) h.state)

-- ---- bodies of functions

end_ends : (b : Bool) (call : CallId) (end : Point) → PieceLoopsEnd (end_of b call end)
end_ends true call end = tt
end_ends false call end = tt

run_ends : (g : Callee) → CalleesEnd g → (c : Call) (fn : CoreFunctionTree) → EndsThere (run_through g c fn)
run_ends g callees c fn s =
    let begin = marked c point.Begin fn.at s in
    let body = statements g c fn.body true begin.state in
    let end = end_of (any_leaves fn.body true) c.call (point_in c point.End fn.at) in
    then_ends begin _ (marked_ends g callees c point.Begin fn.at s)
    (then_ends body _ (statements_end g callees c fn.body true begin.state) (emit_ends end body.state (end_ends (any_leaves fn.body true) c.call (point_in c point.End fn.at))))

-- ---- calls

opened_ends : (g : Callee) → CalleesEnd g → (fn : CoreFunctionTree) (given : List Given) (c : Call) (at : Place) → EndsThere (opened g fn given c at)
opened_ends g callees fn given c at s =
    let homes = homes_for fn given s in
    let call = next_call homes.state in
    let own = fresh_result fn.result call.state in
    let inner = within c fn homes.value (c.path ++ at ∷ []) call.value own.value in
    let run = run_through g inner fn own.state in
    then_ends homes _ (homes_end fn given s)
    (then_ends call _ (quiet_ends call (call_quiet homes.state))
    (then_ends own _ (quiet_ends own (result_quiet fn.result call.state))
    (then_ends run _ (run_ends g callees inner fn own.state) tt)))

opened_as_ends : (g : Callee) → CalleesEnd g → (fn : Option CoreFunctionTree) (given : List Given) (c : Call) (at : Place) → EndsThere (opened_as fn g given c at)
opened_as_ends g callees None given c at s = tt
opened_as_ends g callees (Some fn) given c at s = opened_ends g callees fn given c at s

calls_end : (functions : List CoreFunctionTree) (n : ℕ) → CalleesEnd (calls functions n)
calls_end functions zero callee given c at s = tt
calls_end functions (suc n) callee given c at s = opened_as_ends (calls functions n) (calls_end functions n) (slice_get functions callee) given c at s

-- ---- the program

top_call_ends : (functions : List CoreFunctionTree) (fn : CoreFunctionTree) (file : List Home) (file_variables : ℕ) (homes : List Home) → EndsThere (top_call functions fn file file_variables homes)
top_call_ends functions fn file file_variables homes s =
    let call = next_call s in
    let own = fresh_result fn.result call.state in
    let c = outermost fn file file_variables homes call.value own.value in
    let run = run_through (calls functions (length functions)) c fn own.state in
    then_ends call _ (quiet_ends call (call_quiet s))
    (then_ends own _ (quiet_ends own (result_quiet fn.result call.state)) (then_ends run _ (run_ends (calls functions (length functions)) (calls_end functions (length functions)) c fn own.state) tt))

top_ends : (p : CoreProgramTree) (fn : CoreFunctionTree) → EndsThere (top_run p fn)
top_ends p fn s =
    let kept = kept_scalars p.file [] s in
    let params = top_parameters (take fn.params fn.objects) [] kept.state in
    let file = file_homes p.file kept.value [] params.state in
    let homes = locals (drop fn.params fn.objects) params.value file.state in
    let run = top_call p.functions fn file.value (length kept.state.variables) homes.value homes.state in
    then_ends kept _ (all_kept_end p.file [] s)
    (then_ends params _ (top_parameters_end (take fn.params fn.objects) [] kept.state)
    (then_ends file _ (file_homes_end p.file kept.value [] params.state)
    (then_ends homes _ (locals_end (drop fn.params fn.objects) params.value file.state)
    (then_ends run _ (top_call_ends p.functions fn file.value (length kept.state.variables) homes.value homes.state) tt))))

pub loops_end : ExpandedLoopsEnd
loops_end p = by (top_of p) where
  by : (fn : Option CoreFunctionTree) → PiecesLoopsEnd (named fn (top_made p fn)).pieces
  by None = tt
  by (Some fn) = top_ends p fn nothing
