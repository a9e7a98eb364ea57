-- The pieces of calls and of the whole program fit.
use Rattle.std.proofs.Common.{◌≡◌, ℕ, zero, suc, Bool, true, false, List, [], ◌∷◌, ◌++◌, length, refl, ap, subst, Option, Some, None, slice_get, if◌then◌else◌}
use Rattle.std.specs.Prelude.{drop, take}
use Rattle.std.proofs.lemmas.Bool.{false≢true}
use Rattle.hls_base.specs.declared.place.Place.{Place}
use Rattle.hls_base.specs.declared.point.Point.{Point}
use Rattle.hls_base.specs.declared.point.PointKind.TheVariants as point
use Rattle.hls_base.specs.declared.number.Kept.{Kept}
use Rattle.c_token.specs.declared.ctype.CType.{CType}
use Rattle.pieces.specs.Resolved.Core.{CoreObjectTree, FileObjectTree, CoreFunctionTree, CoreProgramTree}
use Rattle.pieces.specs.declared.piece.CallId.{CallId}
use Rattle.pieces.specs.Trees as tree
use Rattle.pieces.specs.Trees.{PieceTree, piece_row}
use Rattle.pieces.specs.Program.{ArrayTree}
use Rattle.piece_making.specs.declared.frame.Home.{Home}
use Rattle.piece_making.specs.declared.frame.Home.TheVariants as home
use Rattle.piece_making.specs.Making.{State, Part, gives, then_, emit, fresh}
use Rattle.piece_making.specs.Calls.{Call, point_in}
use Rattle.piece_making.specs.Leaving.{any_leaves}
use Rattle.piece_making.specs.Objects.{local_of, host_array, file_array, file_info, array_like, first_value}
use Rattle.c_expand.specs.Expressions as e
use Rattle.c_expand.specs.Expressions.{Given, Callee}
use Rattle.c_expand.specs.Statements.{statements}
use Rattle.c_expand.specs.Expansion.{expansion, parameter, parameters, locals, homes_for, end_of, run_through, within, value_of, opened, opened_as, calls, is_array, is_kept, kept_scalar, kept_scalars, first_kept, file_home, file_homes, kept_behind, top_parameter, top_parameters, outermost, top_call, top_run, top_of, top_made, named, nothing}
use Rattle.ir_layout.specs.WellFormed.{Inside}
use Rattle.pass_runs.specs.LowerRuns.LoweredTrees.Fitting.{PiecesFit, with_ends, ends_in}
use Rattle.pass_runs.specs.LowerRuns.Showing.{AreShort}
use Rattle.c_meaning.specs.PieceRuns.Values.{lengths_in}
use Rattle.expanded_pieces.specs.Jumps.{AllJumpsFit, ProgramJumpsFit}
use Rattle.expanded_pieces.specs.Lengths.{EachObject, EachFileObject, EachFunction}
use Rattle.expanded_pieces.specs.Laws.{ExpandedPiecesFit, ExpandedArraysAreShort}
use Rattle.expanded_pieces.proofs.Ends.{found_first, fits_append}
use Rattle.expanded_pieces.proofs.Parts.{Needs, Meets, EachArray, FitsThere, gives_fits, then_at, then_fits, emit_fits, set_fits, fresh_fits, result_fits, array_fits, slot_fits, call_fits, declared_fits, if_fits}
use Rattle.expanded_pieces.proofs.Expressions.{CalleesFit}
use Rattle.expanded_pieces.proofs.Actions.{marked_fits}
use Rattle.expanded_pieces.proofs.Statements as stmt
use Rattle.expanded_pieces.proofs.Statements.{here, meets_nothing, statements_fit}

-- ---- what stands for objects

module _ (Q : List ℕ → Type 0) (n : Needs) where
  parameter_fits : (o : CoreObjectTree) (given : Given) → FitsThere Q n (parameter o given)
  parameter_fits o (e.value_given x) s = then_fits Q n s _ _ (fresh_fits Q n o.kind s) (λ own s1. then_fits Q n s1 _ _ (set_fits Q n own x s1) (λ u s2. gives_fits Q n (home.Variable own) s2))
  parameter_fits o (e.array_given name) s = gives_fits Q n (home.Array name) s

  parameters_fit : (os : List CoreObjectTree) (given : List Given) (before : List Home) → FitsThere Q n (parameters os given before)
  parameters_fit [] given before s = gives_fits Q n before s
  parameters_fit (o ∷ os) [] before s = gives_fits Q n before s
  parameters_fit (o ∷ os) (x ∷ given) before s = then_fits Q n s _ _ (parameter_fits o x s) (λ h s1. parameters_fit os given (before ++ h ∷ []) s1)

  local_fits : (lengths : List ℕ) (k : CType) → FitsThere Q n (local_of lengths k)
  local_fits [] k s = then_fits Q n s _ _ (fresh_fits Q n k s) (λ own s1. gives_fits Q n (home.Variable own) s1)
  local_fits (len ∷ lengths) k s = then_fits Q n s _ _ (slot_fits Q n s) (λ slot s1. gives_fits Q n (home.Local slot) s1)

  locals_fit : (os : List CoreObjectTree) (before : List Home) → FitsThere Q n (locals os before)
  locals_fit [] before s = gives_fits Q n before s
  locals_fit (o ∷ os) before s = then_fits Q n s _ _ (local_fits o.lengths o.kind s) (λ h s1. locals_fit os (before ++ h ∷ []) s1)

  homes_fit : (fn : CoreFunctionTree) (given : List Given) → FitsThere Q n (homes_for fn given)
  homes_fit fn given s = then_fits Q n s _ _ (parameters_fit fn.objects given [] s) (λ homes s1. locals_fit (drop fn.params fn.objects) homes s1)

  kept_fits : (o : FileObjectTree) → FitsThere Q n (kept_scalar o)
  kept_fits o s = then_fits Q n s _ _ (declared_fits Q n 1 s) (λ u s1. then_fits Q n s1 _ _ (fresh_fits Q n o.object.kind s1) (λ own s2. gives_fits Q n _ s2))

  all_kept_fit : (os : List FileObjectTree) (before : List Kept) → FitsThere Q n (kept_scalars os before)
  all_kept_fit [] before s = gives_fits Q n before s
  all_kept_fit (o ∷ os) before s = if_fits Q n (is_kept o) (then_ (kept_scalar o s) (λ kept s1. kept_scalars os (before ++ kept ∷ []) s1)) (kept_scalars os before s) s
      (then_fits Q n s (kept_scalar o s) (λ kept s1. kept_scalars os (before ++ kept ∷ []) s1) (kept_fits o s) (λ kept s1. all_kept_fit os (before ++ kept ∷ []) s1)) (all_kept_fit os before s)

  info_has : (o : FileObjectTree) → Q o.object.lengths → Q (file_info o).lengths
  info_has o q = either o.object.constant where
    either : (b : Bool) → Q (if b then array_like o.object (Some o.first) None false else array_like o.object None (Some o.first) false).lengths
    either true = q
    either false = q

  file_array_fits : (o : FileObjectTree) → Q o.object.lengths → FitsThere Q n (file_array o)
  file_array_fits o q s = then_fits Q n s _ _ (declared_fits Q n _ s) (λ u s1. then_fits Q n s1 _ _ (array_fits Q n (file_info o) (info_has o q) s1) (λ a s2. gives_fits Q n (home.Array a) s2))

  file_home_fits : (o : FileObjectTree) → Q o.object.lengths → (kept : List Kept) → FitsThere Q n (file_home o kept)
  file_home_fits o q kept s =
      if_fits Q n (is_array o.object) (file_array o s) (if o.object.constant then gives (home.Constant (first_value o.first)) s else gives (home.Variable (first_kept kept)) s) s (file_array_fits o q s)
      (if_fits Q n o.object.constant (gives (home.Constant (first_value o.first)) s) (gives (home.Variable (first_kept kept)) s) s (gives_fits Q n _ s) (gives_fits Q n _ s))

  file_homes_fit : (os : List FileObjectTree) → EachFileObject Q os → (kept : List Kept) (before : List Home) → FitsThere Q n (file_homes os kept before)
  file_homes_fit [] h kept before s = gives_fits Q n before s
  file_homes_fit (o ∷ os) q kept before s = then_fits Q n s _ _ (file_home_fits o q.0 kept s) (λ h s1. file_homes_fit os q.1 (kept_behind o kept) (before ++ h ∷ []) s1)

  host_fits : (o : CoreObjectTree) → Q o.lengths → FitsThere Q n (host_array o)
  host_fits o q s = then_fits Q n s _ _ (array_fits Q n _ q s) (λ a s1. gives_fits Q n (home.Array a) s1)

  top_parameter_fits : (o : CoreObjectTree) → Q o.lengths → FitsThere Q n (top_parameter o)
  top_parameter_fits o q s =
      if_fits Q n (is_array o) (host_array o s) (then_ (fresh o.kind s) (λ own s1. gives (home.Variable own) s1)) s (host_fits o q s)
      (then_fits Q n s (fresh o.kind s) (λ own s1. gives (home.Variable own) s1) (fresh_fits Q n o.kind s) (λ own s1. gives_fits Q n (home.Variable own) s1))

  top_parameters_fit : (os : List CoreObjectTree) → EachObject Q os → (before : List Home) → FitsThere Q n (top_parameters os before)
  top_parameters_fit [] q before s = gives_fits Q n before s
  top_parameters_fit (o ∷ os) q before s = then_fits Q n s _ _ (top_parameter_fits o q.0 s) (λ h s1. top_parameters_fit os q.1 (before ++ h ∷ []) s1)

-- ---- bodies of functions

-- The end of the call stands behind the body where a return leaves to it.
meets_end : (b : Bool) (call : CallId) (end : Point) (inside : Inside) → Meets (stmt.needs false false b call.0) (with_ends (ends_in (piece_row (end_of b call end ∷ [])) inside.lands) inside)
meets_end true call end inside = record { leave = λ e. absurd (false≢true e); again = λ e. absurd (false≢true e); lands = λ e. found_first call.0 inside.lands }
meets_end false call end inside = record { leave = λ e. absurd (false≢true e); again = λ e. absurd (false≢true e); lands = λ e. absurd (false≢true e) }

end_fits : (Q : List ℕ → Type 0) (n : Needs) (b : Bool) (call : CallId) (end : Point) → FitsThere Q n (emit (end_of b call end))
end_fits Q n true call end s = emit_fits Q n (tree.land call end) (λ i m. tt) s
end_fits Q n false call end s = emit_fits Q n (tree.mark end) (λ i m. tt) s

-- what needs the end of the call fits before it anywhere
ended_fits : (Q : List ℕ → Type 0) (n : Needs) (b : Bool) (call : CallId) (end : Point) (body : State → Part (Unit {0})) → FitsThere Q (stmt.needs false false b call.0) body → FitsThere Q n (λ s. then_ (body s) (λ u s1. emit (end_of b call end) s1))
unfolding then_ emit
ended_fits Q n b call end body h s =
    let q = h s in
    let p = body s in
    let last = end_fits Q n b call end p.state in
    let whole = then_at Q (stmt.needs false false b call.0) s p (λ u s1. emit (end_of b call end) s1) q (end_fits Q (stmt.needs false false b call.0) b call end p.state) in
    record {
      made = whole.made;
      labels = whole.labels;
      each = whole.each;
      fits = λ i m. fits_append p.pieces (end_of b call end ∷ []) i (q.fits (with_ends (ends_in (piece_row (end_of b call end ∷ [])) i.lands) i) (meets_end b call end i)) (last.fits i m);
    }

run_fits : (Q : List ℕ → Type 0) (n : Needs) (g : Callee) (callees : CalleesFit Q g) (c : Call) → EachObject Q c.objects → (fn : CoreFunctionTree) → AllJumpsFit false false false fn.body → FitsThere Q n (run_through g c fn)
run_fits Q n g callees c objects fn h s =
    then_fits Q n s _ _ (marked_fits Q n g callees c objects point.Begin fn.at s)
    (λ u s1. ended_fits Q n (any_leaves fn.body true) c.call (point_in c point.End fn.at) (statements g c fn.body true)
    (λ s2. (statements_fit Q g callees c objects false false false (any_leaves fn.body true) fn.body true h (λ e. e) s2).1 refl) s1)

-- ---- calls

opened_fits : (Q : List ℕ → Type 0) (n : Needs) (g : Callee) (callees : CalleesFit Q g) (fn : CoreFunctionTree) → EachObject Q fn.objects → AllJumpsFit false false false fn.body → (given : List Given) (c : Call) (at : Place) → FitsThere Q n (opened g fn given c at)
opened_fits Q n g callees fn objects h given c at s =
    then_fits Q n s _ _ (homes_fit Q n fn given s)
    (λ homes s1. then_fits Q n s1 _ _ (call_fits Q n s1)
    (λ call s2. then_fits Q n s2 _ _ (result_fits Q n fn.result s2)
    (λ own s3. then_fits Q n s3 _ _ (run_fits Q n g callees (within c fn homes (c.path ++ at ∷ []) call own) objects fn h s3) (λ u s4. gives_fits Q n (value_of own fn.result) s4))))

abbrev function_in : CoreFunctionTree → Option CoreFunctionTree → CoreFunctionTree
function_in d None = d
function_in d (Some fn) = fn

each_function : (Q : List ℕ → Type 0) (fns : List CoreFunctionTree) → EachFunction Q fns → (i : ℕ) (fn : CoreFunctionTree) → slice_get fns i ≡ Some fn → EachObject Q fn.objects
each_function Q [] h i fn e = absurd cc
each_function Q (x ∷ fns) h zero fn e = subst (λ y. EachObject Q y.objects) (ap (function_in x) e) h.0
each_function Q (x ∷ fns) h (suc i) fn e = each_function Q fns h.1 i fn e

module _ (Q : List ℕ → Type 0) (functions : List CoreFunctionTree) (bodies : (i : ℕ) (fn : CoreFunctionTree) → slice_get functions i ≡ Some fn → EachObject Q fn.objects × AllJumpsFit false false false fn.body) where
  opened_as_fits : (n : Needs) (g : Callee) (callees : CalleesFit Q g) (fn : Option CoreFunctionTree) → ((f : CoreFunctionTree) → fn ≡ Some f → EachObject Q f.objects × AllJumpsFit false false false f.body) → (given : List Given) (c : Call) (at : Place)
      → FitsThere Q n (opened_as fn g given c at)
  opened_as_fits n g callees None h given c at s = gives_fits Q n None s
  opened_as_fits n g callees (Some fn) h given c at s = opened_fits Q n g callees fn (h fn refl).0 (h fn refl).1 given c at s

  pub calls_fit : (m : ℕ) → CalleesFit Q (calls functions m)
  calls_fit zero n callee given c at s = gives_fits Q n None s
  calls_fit (suc m) n callee given c at s = opened_as_fits n (calls functions m) (calls_fit m) (slice_get functions callee) (λ f e. bodies callee f e) given c at s

  top_call_fits : (n : Needs) (fn : CoreFunctionTree) → EachObject Q fn.objects → AllJumpsFit false false false fn.body → (file : List Home) (file_variables : ℕ) (homes : List Home) → FitsThere Q n (top_call functions fn file file_variables homes)
  top_call_fits n fn objects h file file_variables homes s =
      then_fits Q n s _ _ (call_fits Q n s)
      (λ call s1. then_fits Q n s1 _ _ (result_fits Q n fn.result s1)
      (λ own s2. then_fits Q n s2 _ _ (run_fits Q n (calls functions (length functions)) (calls_fit (length functions)) (outermost fn file file_variables homes call own) objects fn h s2) (λ u s3. gives_fits Q n own s3)))

-- ---- the program

abbrev pub BodiesFit : (List ℕ → Type 0) → List CoreFunctionTree → Type 0
BodiesFit Q functions = (i : ℕ) (fn : CoreFunctionTree) → slice_get functions i ≡ Some fn → EachObject Q fn.objects × AllJumpsFit false false false fn.body

some_of : (Q : List ℕ → Type 0) (k : ℕ) (os : List CoreObjectTree) → EachObject Q os → EachObject Q (take k os)
some_of Q zero os h = tt
some_of Q (suc k) [] h = tt
some_of Q (suc k) (o ∷ os) h = (h.0, some_of Q k os h.1)

top_fits : (Q : List ℕ → Type 0) (p : CoreProgramTree) → EachFileObject Q p.file → BodiesFit Q p.functions → (fn : CoreFunctionTree) → EachObject Q fn.objects × AllJumpsFit false false false fn.body → FitsThere Q stmt.nothing (top_run p fn)
top_fits Q p files bodies fn h s =
    let n = stmt.nothing in
    then_fits Q n s _ _ (all_kept_fit Q n p.file [] s)
    (λ kept s1. then_fits Q n s1 _ _ (top_parameters_fit Q n (take fn.params fn.objects) (some_of Q fn.params fn.objects h.0) [] s1)
    (λ params s2. then_fits Q n s2 _ _ (file_homes_fit Q n p.file files kept [] s2)
    (λ file s3. then_fits Q n s3 _ _ (locals_fit Q n (drop fn.params fn.objects) params s3)
    (λ homes s4. then_fits Q n s4 _ _ (top_call_fits Q p.functions bodies n fn h.0 h.1 file (length s1.variables) homes s4) (λ own s5. gives_fits Q n _ s5)))))

-- ---- jumps

pub any_object : (os : List CoreObjectTree) → EachObject (λ lengths. Unit {0}) os
any_object [] = tt
any_object (o ∷ os) = (tt, any_object os)

any_file : (os : List FileObjectTree) → EachFileObject (λ lengths. Unit {0}) os
any_file [] = tt
any_file (o ∷ os) = (tt, any_file os)

pub expanded_fit : ExpandedPiecesFit
expanded_fit p jumps = either (top_of p) refl where
  either : (fn : Option CoreFunctionTree) → top_of p ≡ fn → PiecesFit (record { leave = false; again = false; lands = [] }) (named fn (top_made p fn)).pieces
  either None e = tt
  either (Some fn) e =
      (top_fits (λ lengths. Unit {0}) p (any_file p.file) (λ i f e. (any_object f.objects, jumps i f e)) fn (any_object fn.objects, jumps p.top fn e) nothing).fits (record { leave = false; again = false; lands = [] })
      (meets_nothing (record { leave = false; again = false; lands = [] }))

-- ---- lengths

short_at : (arrays : List ArrayTree) → EachArray AreShort arrays → (a : ℕ) → AreShort (lengths_in (slice_get arrays a))
short_at [] h a = tt
short_at (x ∷ arrays) h zero = h.0
short_at (x ∷ arrays) h (suc a) = short_at arrays h.1 a

-- What holds for the lengths of all objects holds for those of all arrays.
pub expanded_each : (Q : List ℕ → Type 0) (p : CoreProgramTree) → ProgramJumpsFit p → EachFileObject Q p.file → EachFunction Q p.functions → EachArray Q (expansion p).arrays
expanded_each Q p jumps files functions = either (top_of p) refl where
  either : (fn : Option CoreFunctionTree) → top_of p ≡ fn → EachArray Q (named fn (top_made p fn)).arrays
  either None e = tt
  either (Some fn) e =
      let bodies : BodiesFit Q p.functions = λ i f e. (each_function Q p.functions functions i f e, jumps i f e) in
      (top_fits Q p files bodies fn (bodies p.top fn e) nothing).each tt

pub expanded_short : ExpandedArraysAreShort
expanded_short p jumps lengths a = short_at (expansion p).arrays (expanded_each AreShort p jumps lengths.0 lengths.1) a
