-- The points of calls and of the whole program.
use Rattle.std.proofs.Common.{◌≡◌, ◌≢◌, ◌∙◌, ℕ, zero, suc, Bool, true, false, refl, sym, ap, subst, List, [], ◌∷◌, ◌++◌, length, Option, Some, None, slice_get, if◌then◌else◌}
use Rattle.std.specs.Prelude.{drop, take}
use Rattle.hls_base.specs.declared.place.Place.{Place}
use Rattle.hls_base.specs.declared.point.Point.{Point}
use Rattle.hls_base.specs.declared.point.PointKind.TheVariants as point
use Rattle.hls_base.specs.declared.number.Kept.{Kept}
use Rattle.c_token.specs.declared.ctype.CType.{CType}
use Rattle.pieces.specs.Resolved.Core.{CoreObjectTree, FileObjectTree, CoreFunctionTree, CoreProgramTree}
use Rattle.pieces.specs.declared.piece.CallId.{CallId}
use Rattle.pieces.specs.Trees as tree
use Rattle.piece_making.specs.declared.frame.Home.{Home}
use Rattle.piece_making.specs.declared.frame.Home.TheVariants as home
use Rattle.piece_making.specs.Making.{State, gives, then_, emit, fresh, fresh_result, next_call}
use Rattle.piece_making.specs.Calls.{Call, point_in}
use Rattle.piece_making.specs.Leaving.{any_leaves}
use Rattle.piece_making.specs.Objects.{local_of, host_array, file_array, file_info, array_like, array_weight, first_value}
use Rattle.c_expand.specs.Expressions as e
use Rattle.c_expand.specs.Expressions.{Given, Callee}
use Rattle.c_expand.specs.Statements.{marked, statements}
use Rattle.c_expand.specs.Expansion.{parameter, parameters, locals, homes_for, end_of, run_through, within, opened, opened_as, calls, is_array, is_kept, kept_scalar, kept_scalars, first_kept, file_home, file_homes, kept_behind, top_parameter, top_parameters, outermost, top_call, top_run, top_of, top_made, named, nothing}
use Rattle.expanded_pieces.specs.ApartPoints.Apart.{AreApart}
use Rattle.expanded_pieces.specs.ApartPoints.Points.{all_points, own_points}
use Rattle.expanded_pieces.specs.ApartPoints.Places.{body_places, function_places, PlacesDiffer}
use Rattle.expanded_pieces.specs.ApartPoints.{ExpandedPointsDiffer}
use Rattle.expanded_pieces.proofs.ApartPoints.Standing.{Stand, point_at, stand_empty, stand_within, around_stand, around_end, around_own}
use Rattle.expanded_pieces.proofs.ApartPoints.Quiet.{points_of, QuietThere, points_then, quiet_then, stands_behind, stands_before, quiet_if, emitted_points, set_quiet, fresh_quiet, result_quiet, array_quiet, slot_quiet, call_quiet, declared_quiet}
use Rattle.expanded_pieces.proofs.ApartPoints.Expressions.{CalleesStand}
use Rattle.expanded_pieces.proofs.ApartPoints.Statements.{marked_points, statements_stand}

-- ---- what stands for objects

parameter_quiet : (o : CoreObjectTree) (given : Given) → QuietThere (parameter o given)
parameter_quiet o (e.value_given x) s = quiet_then (fresh o.kind s) _ (fresh_quiet o.kind s) (λ own s1. quiet_then (emit (tree.set own x) s1) _ (set_quiet own x s1) (λ u s2. refl))
parameter_quiet o (e.array_given name) s = refl

parameters_quiet : (os : List CoreObjectTree) (given : List Given) (before : List Home) → QuietThere (parameters os given before)
parameters_quiet [] given before s = refl
parameters_quiet (o ∷ os) [] before s = refl
parameters_quiet (o ∷ os) (x ∷ given) before s = quiet_then (parameter o x s) _ (parameter_quiet o x s) (λ h s1. parameters_quiet os given (before ++ h ∷ []) s1)

local_quiet : (lengths : List ℕ) (k : CType) → QuietThere (local_of lengths k)
local_quiet [] k s = quiet_then (fresh k s) _ (fresh_quiet k s) (λ own s1. refl)
local_quiet (len ∷ lengths) k s = quiet_then _ _ (slot_quiet s) (λ slot s1. refl)

locals_quiet : (os : List CoreObjectTree) (before : List Home) → QuietThere (locals os before)
locals_quiet [] before s = refl
locals_quiet (o ∷ os) before s = quiet_then _ _ (local_quiet o.lengths o.kind s) (λ h s1. locals_quiet os (before ++ h ∷ []) s1)

homes_quiet : (fn : CoreFunctionTree) (given : List Given) → QuietThere (homes_for fn given)
homes_quiet fn given s = quiet_then (parameters fn.objects given [] s) _ (parameters_quiet fn.objects given [] s) (λ homes s1. locals_quiet (drop fn.params fn.objects) homes s1)

kept_quiet : (o : FileObjectTree) → QuietThere (kept_scalar o)
kept_quiet o s = quiet_then _ _ (declared_quiet 1 s) (λ u s1. quiet_then (fresh o.object.kind s1) _ (fresh_quiet o.object.kind s1) (λ own s2. refl))

all_kept_quiet : (os : List FileObjectTree) (before : List Kept) → QuietThere (kept_scalars os before)
all_kept_quiet [] before s = refl
all_kept_quiet (o ∷ os) before s =
    quiet_if (is_kept o) (then_ (kept_scalar o s) (λ kept s1. kept_scalars os (before ++ kept ∷ []) s1)) (kept_scalars os before s) (quiet_then (kept_scalar o s) _ (kept_quiet o s) (λ kept s1. all_kept_quiet os (before ++ kept ∷ []) s1))
    (all_kept_quiet os before s)

file_array_quiet : (o : FileObjectTree) → QuietThere (file_array o)
file_array_quiet o s = quiet_then _ _ (declared_quiet (array_weight o.object.lengths) s) (λ u s1. quiet_then _ _ (array_quiet (file_info o) s1) (λ a s2. refl))

file_home_quiet : (o : FileObjectTree) (kept : List Kept) → QuietThere (file_home o kept)
file_home_quiet o kept s =
    quiet_if (is_array o.object) (file_array o s) (if o.object.constant then gives (home.Constant (first_value o.first)) s else gives (home.Variable (first_kept kept)) s) (file_array_quiet o s)
    (quiet_if o.object.constant (gives (home.Constant (first_value o.first)) s) (gives (home.Variable (first_kept kept)) s) refl refl)

file_homes_quiet : (os : List FileObjectTree) (kept : List Kept) (before : List Home) → QuietThere (file_homes os kept before)
file_homes_quiet [] kept before s = refl
file_homes_quiet (o ∷ os) kept before s = quiet_then (file_home o kept s) _ (file_home_quiet o kept s) (λ h s1. file_homes_quiet os (kept_behind o kept) (before ++ h ∷ []) s1)

host_quiet : (o : CoreObjectTree) → QuietThere (host_array o)
host_quiet o s = quiet_then _ _ (array_quiet (array_like o None None true) s) (λ a s1. refl)

top_parameter_quiet : (o : CoreObjectTree) → QuietThere (top_parameter o)
top_parameter_quiet o s = quiet_if (is_array o) (host_array o s) (then_ (fresh o.kind s) (λ own s1. gives (home.Variable own) s1)) (host_quiet o s) (quiet_then (fresh o.kind s) _ (fresh_quiet o.kind s) (λ own s1. refl))

top_parameters_quiet : (os : List CoreObjectTree) (before : List Home) → QuietThere (top_parameters os before)
top_parameters_quiet [] before s = refl
top_parameters_quiet (o ∷ os) before s = quiet_then (top_parameter o s) _ (top_parameter_quiet o s) (λ h s1. top_parameters_quiet os (before ++ h ∷ []) s1)

-- ---- bodies of functions

end_points : (b : Bool) (call : CallId) (end : Point) → own_points (end_of b call end) ≡ end ∷ []
end_points true call end = refl
end_points false call end = refl

begin_differs : point.Begin ≢ point.End
begin_differs e = cc

run_stands : (g : Callee) (callees : CalleesStand g) (c : Call) (fn : CoreFunctionTree) → AreApart (function_places fn) → (s : State) → Stand c.path (function_places fn) (points_of (run_through g c fn s))
run_stands g callees c fn a s =
    let list = body_places fn.body in
    let begin = marked c point.Begin fn.at s in
    let body = statements g c fn.body true begin.state in
    let end = end_of (any_leaves fn.body true) c.call (point_in c point.End fn.at) in
    let closing = points_of body ++ point_at c.path fn.at point.End ∷ [] in
    let inner : points_of (then_ body (λ v s2. emit end s2)) ≡ closing =
    points_then body (λ v s2. emit end s2) ∙ ap (λ l. points_of body ++ l) (emitted_points end body.state ∙ end_points (any_leaves fn.body true) c.call (point_in c point.End fn.at)) in
    let all : points_of (run_through g c fn s) ≡ point_at c.path fn.at point.Begin ∷ closing =
    points_then begin (λ u s1. then_ (statements g c fn.body true s1) (λ v s2. emit end s2)) ∙ (λ i. marked_points g callees c point.Begin fn.at s i ++ inner i) in
    subst (Stand c.path (fn.at ∷ list)) (sym all)
    (around_stand c.path fn.at (point.Begin ∷ point.End ∷ []) list (point_at c.path fn.at point.Begin ∷ closing)
    (around_own c.path fn.at point.Begin (point.End ∷ []) list closing (begin_differs, tt) a.0 (around_end c.path fn.at point.End list (points_of body) a (statements_stand g callees c fn.body true a.1 begin.state))))

-- ---- calls

opened_stands : (g : Callee) (callees : CalleesStand g) (fn : CoreFunctionTree) → AreApart (function_places fn) → (given : List Given) (c : Call) (at : Place) (s : State) → Stand c.path (at ∷ []) (points_of (opened g fn given c at s))
opened_stands g callees fn a given c at s =
    let homes = homes_for fn given s in
    let call = next_call homes.state in
    let own = fresh_result fn.result call.state in
    let inner = within c fn homes.value (c.path ++ at ∷ []) call.value own.value in
    let run = run_through g inner fn own.state in
    stands_behind homes _ c.path (at ∷ []) (homes_quiet fn given s)
    (stands_behind call _ c.path (at ∷ []) (call_quiet homes.state)
    (stands_behind own _ c.path (at ∷ []) (result_quiet fn.result call.state)
    (stands_before run _ c.path (at ∷ []) (stand_within c.path at (function_places fn) (points_of run) (run_stands g callees inner fn a own.state)) refl)))

module _ (functions : List CoreFunctionTree) (differ : (i : ℕ) (fn : CoreFunctionTree) → slice_get functions i ≡ Some fn → AreApart (function_places fn)) where
  opened_as_stands : (g : Callee) (callees : CalleesStand g) (fn : Option CoreFunctionTree) → ((f : CoreFunctionTree) → fn ≡ Some f → AreApart (function_places f)) → (given : List Given) (c : Call) (at : Place) (s : State)
      → Stand c.path (at ∷ []) (points_of (opened_as fn g given c at s))
  opened_as_stands g callees None h given c at s = stand_empty c.path (at ∷ [])
  opened_as_stands g callees (Some fn) h given c at s = opened_stands g callees fn (h fn refl) given c at s

  calls_stand : (n : ℕ) → CalleesStand (calls functions n)
  calls_stand zero callee given c at s = stand_empty c.path (at ∷ [])
  calls_stand (suc n) callee given c at s = opened_as_stands (calls functions n) (calls_stand n) (slice_get functions callee) (λ f e. differ callee f e) given c at s

  top_call_stands : (fn : CoreFunctionTree) → AreApart (function_places fn) → (file : List Home) (file_variables : ℕ) (homes : List Home) (s : State) → Stand [] (function_places fn) (points_of (top_call functions fn file file_variables homes s))
  top_call_stands fn a file file_variables homes s =
      let call = next_call s in
      let own = fresh_result fn.result call.state in
      let c = outermost fn file file_variables homes call.value own.value in
      let run = run_through (calls functions (length functions)) c fn own.state in
      stands_behind call _ [] (function_places fn) (call_quiet s)
      (stands_behind own _ [] (function_places fn) (result_quiet fn.result call.state)
      (stands_before run _ [] (function_places fn) (run_stands (calls functions (length functions)) (calls_stand (length functions)) c fn a own.state) refl))

-- ---- the program

top_stands : (p : CoreProgramTree) → PlacesDiffer p → (fn : CoreFunctionTree) → AreApart (function_places fn) → (s : State) → Stand [] (function_places fn) (points_of (top_run p fn s))
top_stands p differ fn a s =
    let list = function_places fn in
    let kept = kept_scalars p.file [] s in
    let params = top_parameters (take fn.params fn.objects) [] kept.state in
    let file = file_homes p.file kept.value [] params.state in
    let homes = locals (drop fn.params fn.objects) params.value file.state in
    let run = top_call p.functions fn file.value (length kept.state.variables) homes.value homes.state in
    stands_behind kept _ [] list (all_kept_quiet p.file [] s)
    (stands_behind params _ [] list (top_parameters_quiet (take fn.params fn.objects) [] kept.state)
    (stands_behind file _ [] list (file_homes_quiet p.file kept.value [] params.state)
    (stands_behind homes _ [] list (locals_quiet (drop fn.params fn.objects) params.value file.state)
    (stands_before run _ [] list (top_call_stands p.functions differ fn a file.value (length kept.state.variables) homes.value homes.state) refl))))

pub points_differ : ExpandedPointsDiffer
points_differ p differ = either (top_of p) refl where
  either : (fn : Option CoreFunctionTree) → top_of p ≡ fn → AreApart (all_points (named fn (top_made p fn)).pieces)
  either None e = tt
  either (Some fn) e = (top_stands p differ fn (differ p.top fn e) nothing).apart
