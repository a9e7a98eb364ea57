-- What a run in C leaves fits the interface of its function.
use Rattle.std.proofs.Common.{◌≡◌, ◌<◌, ℕ, suc, ◌^◌, ◌==◌, Bool, true, false, ℤ, List, [], ◌∷◌, ◌++◌, map, drop, length, Option, Some, None, if◌then◌else◌, refl, ap, ◌∙◌, subst}
use Rattle.std.specs.Prelude.{slice_get}
use Rattle.std.proofs.lemmas.List.{length-map}
use Rattle.std.proofs.lemmas.Nat.{pow_pos}
use Rattle.hls_base.specs.ArrayAddress.{element_count}
use Rattle.hls_base.specs.FileScope.{FileScope}
use Rattle.hls_base.specs.declared.point.Point.{Point}
use Rattle.c_token.specs.declared.ctype.CType.{CType}
use Rattle.c_tree.specs.Tree.{ObjectTree, ParamTree, FunctionTree, ProgramTree}
use Rattle.c_value.specs.Values.{width, number_of}
use Rattle.c_meaning.specs.Checks.Limits.{file_objects}
use Rattle.c_meaning.specs.Store.{Object, lengths_in}
use Rattle.c_meaning.specs.Steps as steps
use Rattle.c_meaning.specs.Steps.{Outcome}
use Rattle.c_meaning.specs.Run as run
use Rattle.c_meaning.specs.Run.{Answer, element_pattern, patterns, first_object, filled, head_or_none, kept_object, kept_rest, file_store, host_arrays, is_array_parameter, file_names, result_pattern, answer_of, started, calls, function_meaning, top_arguments, run_of, function_at, c_run}
use Rattle.c_meaning.proofs.Ranges.{pattern_below}
use Rattle.expanded_programs.proofs.ElaboratedPrograms.StoredNumbers.Keeping.{Follows, AllFollow, Follow}
use Rattle.expanded_programs.proofs.ElaboratedPrograms.StoredNumbers.Calls.{function_meaning_ends, calls_steady}
use Rattle.cosim_levels.specs.Pins.FunctionPins.{array_shape, array_shapes}
use Rattle.driven_circuits.specs.Fitting.{WordsFit, IsArray, AreArrays}

-- no result, or one within the width of the function's type
abbrev pub ResultFits : Option CType → Option ℕ → Type 0
ResultFits kind None = Unit {0}
ResultFits None (Some word) = ⊥
ResultFits (Some kind) (Some word) = word < 2 ^ width kind

-- what a run leaves fits
pub record LeavesFit (f : FunctionTree) (result : Option ℕ) (elements : List (List ℕ)) : Type 0 where
  pub returned : ResultFits f.result result
  pub arrays : AreArrays (array_shapes f.params) elements

-- ---- patterns

pattern_fits : (kind : CType) (e : Option ℤ) → element_pattern kind e < 2 ^ width kind
pattern_fits kind None = pow_pos (width kind)
pattern_fits kind (Some n) = pattern_below kind n

patterns_fit : (kind : CType) (es : List (Option ℤ)) → WordsFit (width kind) (map (element_pattern kind) es)
patterns_fit kind [] = tt
patterns_fit kind (e ∷ es) = (pattern_fits kind e, patterns_fit kind es)

-- an array that was filled, later on
array_later : (p : ParamTree) (words : List ℕ) (o : Object) → length words ≡ element_count (lengths_in p.object) → Follows (filled p.object.kind (lengths_in p.object) words) o → IsArray (array_shape p) (patterns o)
array_later p words o count h =
    let many : length o.elements ≡ element_count o.lengths = h.whole (length-map words (λ word. Some (number_of p.object.kind word)) ∙ count) in
    record {
      count = length-map o.elements (element_pattern o.kind) ∙ (many ∙ ap element_count h.lengths);
      fit = subst (λ (k : CType). WordsFit (width k) (patterns o)) h.kind (patterns_fit o.kind o.elements);
    }

-- ---- array parameters

hosts_later : (ps : List ParamTree) (arrays : List (List ℕ)) → AreArrays (array_shapes ps) arrays → (os : List Object) → AllFollow (host_arrays ps arrays) os → AreArrays (array_shapes ps) (map patterns os)
hosts_later [] arrays fit [] h = tt
hosts_later [] arrays fit (o ∷ os) h = absurd h
hosts_later (p ∷ ps) arrays fit os h = by (is_array_parameter p) (hosts_later ps) arrays fit os h
  where
    by : (array : Bool) → ((xs : List (List ℕ)) → AreArrays (array_shapes ps) xs → (os : List Object) → AllFollow (host_arrays ps xs) os → AreArrays (array_shapes ps) (map patterns os))
        → (xs : List (List ℕ)) → AreArrays (if array then array_shape p ∷ array_shapes ps else array_shapes ps) xs → (os : List Object)
        → AllFollow (if array then filled p.object.kind (lengths_in p.object) (head_or_none xs) ∷ host_arrays ps (drop 1 xs) else host_arrays ps xs) os
        → AreArrays (if array then array_shape p ∷ array_shapes ps else array_shapes ps) (map patterns os)
    by false others xs fit os h = others xs fit os h
    by true others [] fit os h = absurd fit
    by true others (x ∷ xs) fit [] h = absurd h
    by true others (x ∷ xs) fit (o ∷ os) h = (array_later p x o fit.0.count h.0, others xs fit.1 os h.1)

-- ---- behind the objects of file scope

store_length : (ds : List ObjectTree) (kept : FileScope) → length (file_store ds kept) ≡ length ds
store_length [] kept = refl
store_length (d ∷ ds) kept = by d.constant (store_length ds kept) (store_length ds (kept_rest (length (lengths_in d) == 0) kept))
  where
    by : (constant : Bool) → length (file_store ds kept) ≡ length ds → length (file_store ds (kept_rest (length (lengths_in d) == 0) kept)) ≡ length ds
        → length (if constant then first_object d ∷ file_store ds kept else kept_object (length (lengths_in d) == 0) d kept ∷ file_store ds (kept_rest (length (lengths_in d) == 0) kept)) ≡ suc (length ds)
    by true one other = ap suc one
    by false one other = ap suc other

behind_follow : (os more ps : List Object) → AllFollow (os ++ more) ps → AllFollow more (drop (length os) ps)
behind_follow [] more ps h = h
behind_follow (o ∷ os) more [] h = absurd h
behind_follow (o ∷ os) more (p ∷ ps) h = behind_follow os more ps h.1

-- ---- runs

result_fits : (kind : Option CType) (n : Option ℤ) → ResultFits kind (result_pattern kind n)
result_fits None n = tt
result_fits (Some kind) None = tt
result_fits (Some kind) (Some n) = pattern_below kind n

abbrev result_in : Answer → Option ℕ
result_in (run.ended result arrays kept trace) = result
result_in _ = None

abbrev arrays_in : Answer → List (List ℕ)
arrays_in (run.ended result arrays kept trace) = arrays
arrays_in _ = []

module _ (p : ProgramTree) (top : ℕ) (f : FunctionTree) (at : function_at (slice_get p.items top) ≡ Some f) (kept : FileScope) (scalars : List ℕ) (arrays : List (List ℕ)) (fit : AreArrays (array_shapes f.params) arrays) where
  abbrev file : List ObjectTree
  file = file_objects p.items

  abbrev hosts : List Object
  hosts = host_arrays f.params arrays

  answer_leaves : (o : Outcome (Option ℤ)) (passed : List Point) → Follow (file_store file kept ++ hosts) o → (result : Option ℕ) (elements : List (List ℕ)) (left : FileScope) (trace : List Point)
      → answer_of file f passed o ≡ run.ended result elements left trace → LeavesFit f result elements
  answer_leaves (steps.went n s) passed h result elements left trace e =
      let behind : AllFollow hosts (drop (length file) s.objects) = subst (λ (k : ℕ). AllFollow hosts (drop k s.objects)) (store_length file kept) (behind_follow (file_store file kept) hosts s.objects h) in
      subst (λ (a : Answer). LeavesFit f (result_in a) (arrays_in a)) e
      (record { returned = result_fits f.result n; arrays = hosts_later f.params arrays fit (drop (length file) s.objects) behind })
  answer_leaves (steps.undefined rule at_) passed h result elements left trace e = absurd cc
  answer_leaves steps.waiting passed h result elements left trace e = absurd cc

  pub run_leaves : (n : ℕ) (result : Option ℕ) (elements : List (List ℕ)) (left : FileScope) (trace : List Point) → c_run p top kept scalars arrays n ≡ run.ended result elements left trace → LeavesFit f result elements
  run_leaves n result elements left trace e =
      let names = file_names p.items in
      let first = started p.items f kept arrays n in
      let args = top_arguments f.params scalars (length file) in
      let r = function_meaning (calls n p.items names) true f args [] names first in
      let ends = function_meaning_ends (calls n p.items names) (calls_steady n p.items names) true f args [] names first in
      answer_leaves r.outcome r.trace ends.follow result elements left trace (subst (λ (g : Option FunctionTree). run_of p.items g kept scalars arrays n ≡ run.ended result elements left trace) at e)
