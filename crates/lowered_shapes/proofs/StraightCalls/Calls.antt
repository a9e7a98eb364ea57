-- No call ends among straight pieces of calls and of the whole program.
use Rattle.std.proofs.Common.{◌≡◌, ℕ, zero, suc, Bool, true, false, List, [], ◌∷◌, ◌++◌, length, refl, Option, Some, None, slice_get, if◌then◌else◌}
use Rattle.std.specs.Prelude.{drop, take}
use Rattle.hls_base.specs.declared.place.Place.{Place}
use Rattle.hls_base.specs.declared.point.Point.{Point}
use Rattle.hls_base.specs.declared.point.PointKind.TheVariants as point
use Rattle.hls_base.specs.declared.number.Kept.{Kept}
use Rattle.c_token.specs.declared.ctype.CType.{CType}
use Rattle.pieces.specs.Resolved.Core.{CoreObjectTree, FileObjectTree, CoreFunctionTree, CoreProgramTree}
use Rattle.pieces.specs.Trees as tree
use Rattle.pieces.specs.Trees.{piece_row}
use Rattle.piece_making.specs.declared.frame.Home.{Home}
use Rattle.piece_making.specs.declared.frame.Home.TheVariants as home
use Rattle.piece_making.specs.Making.{gives, then_, emit, fresh, fresh_result, next_call, declared, new_slot, add_array}
use Rattle.piece_making.specs.Calls.{Call, point_in}
use Rattle.piece_making.specs.Leaving.{any_leaves}
use Rattle.piece_making.specs.Objects.{local, local_of, host_array, file_array, file_info, first_value}
use Rattle.c_expand.specs.Expressions as e
use Rattle.c_expand.specs.Expressions.{Given, Callee}
use Rattle.c_expand.specs.Statements.{marked, statements}
use Rattle.c_expand.specs.Expansion.{expansion, parameter, parameters, locals, homes_for, end_of, run_through, within, opened, opened_as, calls, is_array, is_kept, kept_scalar, kept_scalars, first_kept, file_home, file_homes, kept_behind, top_parameter, top_parameters, outermost, top_call, top_run, top_of, top_made, named, nothing}
use Rattle.passes.specs.Lowering.{scope_of}
use Rattle.lowered_shapes.specs.ConvertedShapes.Straight.{NoStraightCallEnds}
use Rattle.lowered_shapes.proofs.ConvertedShapes.Lowered.{shapes}
use Rattle.lowered_shapes.proofs.ConvertedShapes.Left.{left}
use Rattle.lowered_shapes.specs.StraightCalls.{CallsEndApart, ExpandedShapesConvert, numbered_blocks}
use Rattle.lowered_shapes.proofs.StraightCalls.Parts.{ApartThere, bent_apart, nothing_apart, then_at, then_apart, set_apart, mark_apart, if_apart, declared_apart, fresh_apart, result_apart, array_apart, slot_apart, call_apart}
use Rattle.lowered_shapes.proofs.StraightCalls.Expressions.{CalleesApart}
use Rattle.lowered_shapes.proofs.StraightCalls.Statements.{marked_apart, statements_apart}
use Rattle.lowered_shapes.proofs.StraightCalls.Leaving.{statements_bent}

-- ---- what stands for objects

parameter_apart : (o : CoreObjectTree) (given : Given) → ApartThere (parameter o given)
parameter_apart o (e.value_given x) s = then_apart (fresh o.kind s) _ (fresh_apart o.kind s) (λ own s1. then_apart (emit (tree.set own x) s1) _ (set_apart own x s1) (λ u s2. nothing_apart))
parameter_apart o (e.array_given name) s = nothing_apart

parameters_apart : (os : List CoreObjectTree) (given : List Given) (before : List Home) → ApartThere (parameters os given before)
parameters_apart [] given before s = nothing_apart
parameters_apart (o ∷ os) [] before s = nothing_apart
parameters_apart (o ∷ os) (x ∷ given) before s = then_apart (parameter o x s) _ (parameter_apart o x s) (λ h s1. parameters_apart os given (before ++ h ∷ []) s1)

local_apart : (lengths : List ℕ) (k : CType) → ApartThere (local_of lengths k)
local_apart [] k s = then_apart (fresh k s) _ (fresh_apart k s) (λ own s1. nothing_apart)
local_apart (len ∷ lengths) k s = then_apart (new_slot s) _ (slot_apart s) (λ slot s1. nothing_apart)

locals_apart : (os : List CoreObjectTree) (before : List Home) → ApartThere (locals os before)
locals_apart [] before s = nothing_apart
locals_apart (o ∷ os) before s = then_apart (local o s) _ (local_apart o.lengths o.kind s) (λ h s1. locals_apart os (before ++ h ∷ []) s1)

homes_apart : (fn : CoreFunctionTree) (given : List Given) → ApartThere (homes_for fn given)
homes_apart fn given s = then_apart (parameters fn.objects given [] s) _ (parameters_apart fn.objects given [] s) (λ homes s1. locals_apart (drop fn.params fn.objects) homes s1)

kept_apart : (o : FileObjectTree) → ApartThere (kept_scalar o)
kept_apart o s = then_apart (declared 1 s) _ (declared_apart 1 s) (λ u s1. then_apart (fresh o.object.kind s1) _ (fresh_apart o.object.kind s1) (λ own s2. nothing_apart))

all_kept_apart : (os : List FileObjectTree) (before : List Kept) → ApartThere (kept_scalars os before)
all_kept_apart [] before s = nothing_apart
all_kept_apart (o ∷ os) before s =
    if_apart (is_kept o) (then_ (kept_scalar o s) (λ kept s1. kept_scalars os (before ++ kept ∷ []) s1)) (kept_scalars os before s)
    (then_apart (kept_scalar o s) (λ kept s1. kept_scalars os (before ++ kept ∷ []) s1) (kept_apart o s) (λ kept s1. all_kept_apart os (before ++ kept ∷ []) s1)) (all_kept_apart os before s)

file_array_apart : (o : FileObjectTree) → ApartThere (file_array o)
file_array_apart o s = then_apart (declared _ s) _ (declared_apart _ s) (λ u s1. then_apart (add_array (file_info o) s1) _ (array_apart (file_info o) s1) (λ a s2. nothing_apart))

file_home_apart : (o : FileObjectTree) (kept : List Kept) → ApartThere (file_home o kept)
file_home_apart o kept s =
    if_apart (is_array o.object) (file_array o s) (if o.object.constant then gives (home.Constant (first_value o.first)) s else gives (home.Variable (first_kept kept)) s) (file_array_apart o s)
    (if_apart o.object.constant (gives (home.Constant (first_value o.first)) s) (gives (home.Variable (first_kept kept)) s) (nothing_apart) (nothing_apart))

file_homes_apart : (os : List FileObjectTree) (kept : List Kept) (before : List Home) → ApartThere (file_homes os kept before)
file_homes_apart [] kept before s = nothing_apart
file_homes_apart (o ∷ os) kept before s = then_apart (file_home o kept s) _ (file_home_apart o kept s) (λ h s1. file_homes_apart os (kept_behind o kept) (before ++ h ∷ []) s1)

host_apart : (o : CoreObjectTree) → ApartThere (host_array o)
host_apart o s = then_apart (add_array _ s) _ (array_apart _ s) (λ a s1. nothing_apart)

top_parameter_apart : (o : CoreObjectTree) → ApartThere (top_parameter o)
top_parameter_apart o s =
    if_apart (is_array o) (host_array o s) (then_ (fresh o.kind s) (λ own s1. gives (home.Variable own) s1)) (host_apart o s)
    (then_apart (fresh o.kind s) (λ own s1. gives (home.Variable own) s1) (fresh_apart o.kind s) (λ own s1. nothing_apart))

top_parameters_apart : (os : List CoreObjectTree) (before : List Home) → ApartThere (top_parameters os before)
top_parameters_apart [] before s = nothing_apart
top_parameters_apart (o ∷ os) before s = then_apart (top_parameter o s) _ (top_parameter_apart o s) (λ h s1. top_parameters_apart os (before ++ h ∷ []) s1)

-- ---- bodies of functions

-- Where a return leaves to the end of the call, it is not straight.
ended_apart : (g : Callee) (callees : CalleesApart g) (c : Call) (fn : CoreFunctionTree) (end : Point) (ends : Bool) → any_leaves fn.body true ≡ ends → ApartThere (λ s. then_ (statements g c fn.body true s) (λ v s1. emit (end_of ends c.call end) s1))
unfolding then_ emit
ended_apart g callees c fn end false e s = then_at (statements g c fn.body true s) (λ v s1. emit (tree.mark end) s1) (statements_apart g callees c fn.body true s) (mark_apart end (statements g c fn.body true s).state)
ended_apart g callees c fn end true e s =
    bent_apart (statements g c fn.body true s).pieces (tree.land c.call end ∷ []) (statements_bent g c fn.body true e s) (statements_apart g callees c fn.body true s).within (tt, tt)

run_apart : (g : Callee) (callees : CalleesApart g) (c : Call) (fn : CoreFunctionTree) → ApartThere (run_through g c fn)
run_apart g callees c fn s =
    then_apart (marked c point.Begin fn.at s) _ (marked_apart g callees c point.Begin fn.at s) (λ u s1. ended_apart g callees c fn (point_in c point.End fn.at) (any_leaves fn.body true) refl s1)

-- ---- calls

opened_apart : (g : Callee) (callees : CalleesApart g) (fn : CoreFunctionTree) (given : List Given) (c : Call) (at : Place) → ApartThere (opened g fn given c at)
opened_apart g callees fn given c at s =
    then_apart (homes_for fn given s) _ (homes_apart fn given s)
    (λ homes s1. then_apart (next_call s1) _ (call_apart s1)
    (λ call s2. then_apart (fresh_result fn.result s2) _ (result_apart fn.result s2)
    (λ own s3. then_apart (run_through g (within c fn homes (c.path ++ at ∷ []) call own) fn s3) _ (run_apart g callees (within c fn homes (c.path ++ at ∷ []) call own) fn s3) (λ u s4. nothing_apart))))

opened_as_apart : (g : Callee) (callees : CalleesApart g) (fn : Option CoreFunctionTree) (given : List Given) (c : Call) (at : Place) → ApartThere (opened_as fn g given c at)
opened_as_apart g callees None given c at s = nothing_apart
opened_as_apart g callees (Some fn) given c at s = opened_apart g callees fn given c at s

calls_apart : (functions : List CoreFunctionTree) (n : ℕ) → CalleesApart (calls functions n)
calls_apart functions zero callee given c at s = nothing_apart
calls_apart functions (suc n) callee given c at s = opened_as_apart (calls functions n) (calls_apart functions n) (slice_get functions callee) given c at s

-- ---- the program

top_call_apart : (functions : List CoreFunctionTree) (fn : CoreFunctionTree) (file : List Home) (file_variables : ℕ) (homes : List Home) → ApartThere (top_call functions fn file file_variables homes)
top_call_apart functions fn file file_variables homes s =
    then_apart (next_call s) _ (call_apart s)
    (λ call s1. then_apart (fresh_result fn.result s1) _ (result_apart fn.result s1)
    (λ own s2. then_apart (run_through (calls functions (length functions)) (outermost fn file file_variables homes call own) fn s2) _
    (run_apart (calls functions (length functions)) (calls_apart functions (length functions)) (outermost fn file file_variables homes call own) fn s2) (λ u s3. nothing_apart)))

top_apart : (p : CoreProgramTree) (fn : CoreFunctionTree) → ApartThere (top_run p fn)
top_apart p fn s =
    then_apart (kept_scalars p.file [] s) _ (all_kept_apart p.file [] s)
    (λ kept s1. then_apart (top_parameters (take fn.params fn.objects) [] s1) _ (top_parameters_apart (take fn.params fn.objects) [] s1)
    (λ params s2. then_apart (file_homes p.file kept [] s2) _ (file_homes_apart p.file kept [] s2)
    (λ file s3. then_apart (locals (drop fn.params fn.objects) params s3) _ (locals_apart (drop fn.params fn.objects) params s3)
    (λ homes s4. then_apart (top_call p.functions fn file (length s1.variables) homes s4) _ (top_call_apart p.functions fn file (length s1.variables) homes s4) (λ own s5. nothing_apart)))))

pub apart : CallsEndApart
apart p = by (top_of p) where
  by : (fn : Option CoreFunctionTree) → NoStraightCallEnds (named fn (top_made p fn)).pieces
  by None = tt
  by (Some fn) = (top_apart p fn nothing).within

pub convert : ExpandedShapesConvert
convert p numbering conversion point =
    let all = shapes (scope_of (expansion p)) numbering conversion (expansion p).pieces point (apart p) in
    (all, left conversion (numbered_blocks numbering (expansion p) point) all)
