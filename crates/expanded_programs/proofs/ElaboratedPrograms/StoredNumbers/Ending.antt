-- A run starts and ends with numbers of their types, and what it leaves fits: a result, elements and contents of file scope that are words of their types, as many as there were.
use Rattle.std.proofs.Common.{◌≡◌, ℕ, suc, ◌^◌, ◌∙◌, sym, refl, ap, subst, List, [], ◌∷◌, ◌++◌, map, take, drop, length, Bool, true, false, ◌==◌, ℤ, Option, Some, None, if◌then◌else◌}
use Rattle.std.specs.Prelude.{slice_get}
use Rattle.std.proofs.lemmas.Bool.{and_parts, and_from, eqb-true, eq-eqb, lt-ltb}
use Rattle.std.proofs.lemmas.List.{length-map}
use Rattle.std.proofs.lemmas.Nat.{pow_pos}
use Rattle.hls_base.specs.ArrayAddress.{element_count}
use Rattle.hls_base.specs.FileScope.{FileScope}
use Rattle.hls_base.specs.declared.point.Point.{Point}
use Rattle.c_token.specs.declared.ctype.CType.{CType}
use Rattle.c_tree.specs.Tree.{ObjectTree, ParamTree, FunctionTree, ProgramTree}
use Rattle.c_value.specs.Values.{width, pattern, number_of}
use Rattle.c_meaning.specs.Checks.Limits.{file_objects}
use Rattle.c_meaning.specs.Store.{Object, lengths_in}
use Rattle.c_meaning.specs.Steps as steps
use Rattle.c_meaning.specs.Steps.{Outcome}
use Rattle.c_meaning.specs.FittingInputs.{word_fits, words_fit, array_fits, first_fits, scalars_fit, arrays_fit, inputs_fit}
use Rattle.c_meaning.specs.Run as run
use Rattle.c_meaning.specs.Run.{Answer, element_pattern, patterns, first_object, filled, with_contents, contents_of, head_or_none, kept_object, kept_rest, file_store, host_arrays, is_array_parameter, file_names, result_pattern, answer_of, started, calls, function_meaning, top_arguments, run_of, function_at}
use Rattle.c_meaning.proofs.Ranges.{pattern_below}
use Rattle.c_elaborate.specs.Homes.{Each}
use Rattle.c_elaborate.specs.Resolved.{HasLengths}
use Rattle.expanded_programs.specs.ElaboratedPrograms.Inputs.{ProgramInputsFit, given_objects, params_at}
use Rattle.expanded_programs.specs.ElaboratedPrograms.StoredNumbers.{ResultFits, Leaves, RunsHoldNumbers, RunsLeaveWords}
use Rattle.expanded_programs.proofs.ElaboratedPrograms.StoredNumbers.Keeping.{Follows, AllFollow, Follow}
use Rattle.expanded_programs.proofs.ElaboratedPrograms.StoredNumbers.Parts.{parts_keep_numbers}
use Rattle.expanded_programs.proofs.ElaboratedPrograms.StoredNumbers.Starting.{is_scalar, GivenFit, FitsFirst, fits_first, first_fits_back, first_stored, first_given, file_has_lengths, inputs_given, top_given, starts_with_numbers}
use Rattle.expanded_programs.proofs.ElaboratedPrograms.StoredNumbers.Calls.{function_meaning_ends, calls_steady}

-- ---- patterns

pattern_fits : (kind : CType) (e : Option ℤ) → word_fits kind (element_pattern kind e) ≡ true
pattern_fits kind None = lt-ltb 0 (2 ^ width kind) (pow_pos (width kind))
pattern_fits kind (Some n) = lt-ltb (pattern kind n) (2 ^ width kind) (pattern_below kind n)

elements_fit : (kind : CType) (es : List (Option ℤ)) → words_fit kind (map (element_pattern kind) es) ≡ true
elements_fit kind [] = refl
elements_fit kind (e ∷ es) = and_from (word_fits kind (element_pattern kind e)) (words_fit kind (map (element_pattern kind) es)) (pattern_fits kind e) (elements_fit kind es)

patterns_fit : (kind : CType) (o : Object) → o.kind ≡ kind → words_fit kind (patterns o) ≡ true
patterns_fit kind o e = subst (λ (k : CType). words_fit k (patterns o) ≡ true) e (elements_fit o.kind o.elements)

-- an array that was filled, later on
array_later : (d : ObjectTree) (words : List ℕ) (o : Object) → array_fits d words ≡ true → Follows (filled d.kind (lengths_in d) words) o → array_fits d (patterns o) ≡ true
array_later d words o e h =
    let parts = and_parts (length words == element_count (lengths_in d)) (words_fit d.kind words) e in
    let many : length o.elements ≡ element_count o.lengths = h.whole (length-map words (λ word. Some (number_of d.kind word)) ∙ eqb-true (length words) (element_count (lengths_in d)) parts.0) in
    let count : length (patterns o) ≡ element_count (lengths_in d) = length-map o.elements (element_pattern o.kind) ∙ (many ∙ ap element_count h.lengths) in
    and_from (length (patterns o) == element_count (lengths_in d)) (words_fit d.kind (patterns o)) (eq-eqb (length (patterns o)) (element_count (lengths_in d)) count) (patterns_fit d.kind o h.kind)

one_of : {A : Type 0} (xs : List A) → length xs ≡ 1 → (x : A) × (xs ≡ x ∷ [])
one_of [] e = absurd cc
one_of (x ∷ []) e = (x, refl)
one_of (x ∷ y ∷ xs) e = absurd cc

-- a scalar that was filled, later on
scalar_later : (d : ObjectTree) (word : ℕ) (o : Object) → Follows (filled d.kind [] (word ∷ [])) o → (left : ℕ) × (patterns o ≡ left ∷ []) × (word_fits d.kind left ≡ true)
scalar_later d word o h =
    let many : length o.elements ≡ 1 = h.whole refl ∙ ap element_count h.lengths in
    let one = one_of o.elements many in (
      element_pattern o.kind one.0,
      ap (map (element_pattern o.kind)) one.1,
      subst (λ (k : CType). word_fits k (element_pattern o.kind one.0) ≡ true) h.kind (pattern_fits o.kind one.0),
    )

-- ---- file scope

-- the contents of the objects, of which the first may be const
abbrev contents_at : Bool → List ObjectTree → Object → List Object → FileScope
contents_at constant ds o os = if constant then contents_of ds os else with_contents (run.is_scalar o) o (contents_of ds os)

-- what holds of the objects behind the first
abbrev Others : List ObjectTree → List Object → Type 0
Others ds hosts = (kept : FileScope) → GivenFit (given_objects ds) kept → (os : List Object) → AllFollow (file_store ds kept ++ hosts) os → GivenFit (given_objects ds) (contents_of ds os)

scalar_left : (d : ObjectTree) (ds : List ObjectTree) (hosts : List Object) → Others ds hosts → (scalars : List ℕ) (arrays : List (List ℕ)) → FitsFirst true d (given_objects ds) (record { scalars = scalars; arrays = arrays }) → (o : Object) (os : List Object)
    → Follows (filled d.kind [] (take 1 scalars)) o → AllFollow (file_store ds (record { scalars = drop 1 scalars; arrays = arrays }) ++ hosts) os → FitsFirst true d (given_objects ds) (with_contents true o (contents_of ds os))
scalar_left d ds hosts others [] arrays fit o os h g = absurd cc
scalar_left d ds hosts others (word ∷ words) arrays fit o os h g =
    let parts = and_parts (word_fits d.kind word) (scalars_fit (given_objects ds) words) fit.0 in
    let rest = others (record { scalars = words; arrays = arrays }) (parts.1, fit.1) os g in
    let one = scalar_later d word o h in
    let first = and_from (word_fits d.kind one.0) (scalars_fit (given_objects ds) (contents_of ds os).scalars) one.2 rest.0 in
    (subst (λ (l : List ℕ). first_fits (l ++ (contents_of ds os).scalars) (word_fits d.kind) (scalars_fit (given_objects ds)) ≡ true) (sym one.1) first, rest.1)

array_left : (d : ObjectTree) (ds : List ObjectTree) (hosts : List Object) → Others ds hosts → (scalars : List ℕ) (arrays : List (List ℕ)) → FitsFirst false d (given_objects ds) (record { scalars = scalars; arrays = arrays }) → (o : Object) (os : List Object)
    → Follows (filled d.kind (lengths_in d) (head_or_none arrays)) o → AllFollow (file_store ds (record { scalars = scalars; arrays = drop 1 arrays }) ++ hosts) os → FitsFirst false d (given_objects ds) (with_contents false o (contents_of ds os))
array_left d ds hosts others scalars [] fit o os h g = absurd cc
array_left d ds hosts others scalars (row ∷ rows) fit o os h g =
    let parts = and_parts (array_fits d row) (arrays_fit (given_objects ds) rows) fit.1 in
    let rest = others (record { scalars = scalars; arrays = rows }) (fit.0, parts.1) os g in
    (rest.0, and_from (array_fits d (patterns o)) (arrays_fit (given_objects ds) (contents_of ds os).arrays) (array_later d row o parts.0 h) rest.1)

kept_left : (scalar : Bool) (d : ObjectTree) (ds : List ObjectTree) (hosts : List Object) → Others ds hosts → (kept : FileScope) → is_scalar d ≡ scalar → FitsFirst scalar d (given_objects ds) kept → (o : Object) (os : List Object)
    → AllFollow ((kept_object scalar d kept ∷ file_store ds (kept_rest scalar kept)) ++ hosts) (o ∷ os) → FitsFirst scalar d (given_objects ds) (with_contents (run.is_scalar o) o (contents_of ds os))
kept_left true d ds hosts others kept is fit o os h =
    let same : run.is_scalar o ≡ true = ap (λ (l : List ℕ). length l == 0) h.0.lengths in
    subst (λ (b : Bool). FitsFirst true d (given_objects ds) (with_contents b o (contents_of ds os))) (sym same) (scalar_left d ds hosts others kept.scalars kept.arrays fit o os h.0 h.1)
kept_left false d ds hosts others kept is fit o os h =
    let same : run.is_scalar o ≡ false = ap (λ (l : List ℕ). length l == 0) h.0.lengths ∙ is in
    subst (λ (b : Bool). FitsFirst false d (given_objects ds) (with_contents b o (contents_of ds os))) (sym same) (array_left d ds hosts others kept.scalars kept.arrays fit o os h.0 h.1)

first_left : (constant : Bool) (d : ObjectTree) (ds : List ObjectTree) (hosts : List Object) → Others ds hosts → (kept : FileScope) → HasLengths d → GivenFit (first_given constant d ds) kept → (o : Object) (os : List Object)
    → AllFollow (first_stored constant (is_scalar d) d ds kept ++ hosts) (o ∷ os) → GivenFit (first_given constant d ds) (contents_at constant ds o os)
first_left true d ds hosts others kept has fit o os h = others kept fit os h.1
first_left false d ds hosts others kept has fit o os h =
    first_fits_back d (given_objects ds) (with_contents (run.is_scalar o) o (contents_of ds os)) has
    (kept_left (is_scalar d) d ds hosts others kept refl (fits_first d (given_objects ds) kept has fit) o os h)

none_left : (constant scalar : Bool) (d : ObjectTree) (ds : List ObjectTree) (hosts : List Object) (kept : FileScope) → AllFollow (first_stored constant scalar d ds kept ++ hosts) [] → ⊥
none_left true scalar d ds hosts kept h = h
none_left false scalar d ds hosts kept h = h

store_left : (ds : List ObjectTree) (hosts : List Object) → Each HasLengths ds → Others ds hosts
store_left [] hosts has kept fit os h = (refl, refl)
store_left (d ∷ ds) hosts has kept fit [] h = absurd (none_left d.constant (is_scalar d) d ds hosts kept h)
store_left (d ∷ ds) hosts has kept fit (o ∷ os) h = first_left d.constant d ds hosts (store_left ds hosts has.1) kept has.0 fit o os h

-- ---- array parameters

abbrev OtherHosts : List ParamTree → Type 0
OtherHosts ps = (arrays : List (List ℕ)) → arrays_fit ps arrays ≡ true → (os : List Object) → AllFollow (host_arrays ps arrays) os → arrays_fit ps (map patterns os) ≡ true

first_host : (array : Bool) (p : ParamTree) (ps : List ParamTree) → OtherHosts ps → (arrays : List (List ℕ)) → (if array then first_fits arrays (array_fits p.object) (arrays_fit ps) else arrays_fit ps arrays) ≡ true → (os : List Object)
    → AllFollow (if array then filled p.object.kind (lengths_in p.object) (head_or_none arrays) ∷ host_arrays ps (drop 1 arrays) else host_arrays ps arrays) os
    → (if array then first_fits (map patterns os) (array_fits p.object) (arrays_fit ps) else arrays_fit ps (map patterns os)) ≡ true
first_host true p ps others [] fit os h = absurd cc
first_host true p ps others (row ∷ rows) fit [] h = absurd h
first_host true p ps others (row ∷ rows) fit (o ∷ os) h =
    let parts = and_parts (array_fits p.object row) (arrays_fit ps rows) fit in
    and_from (array_fits p.object (patterns o)) (arrays_fit ps (map patterns os)) (array_later p.object row o parts.0 h.0) (others rows parts.1 os h.1)
first_host false p ps others arrays fit os h = others arrays fit os h

hosts_left : (ps : List ParamTree) → OtherHosts ps
hosts_left [] arrays fit [] h = refl
hosts_left [] arrays fit (o ∷ os) h = absurd h
hosts_left (p ∷ ps) arrays fit os h = first_host (is_array_parameter p) p ps (hosts_left ps) arrays fit os h

store_length : (ds : List ObjectTree) (kept : FileScope) → length (file_store ds kept) ≡ length ds
store_length [] kept = refl
store_length (d ∷ ds) kept = either d.constant (store_length ds kept) (store_length ds (kept_rest (is_scalar d) kept)) where
  either : (constant : Bool) → length (file_store ds kept) ≡ length ds → length (file_store ds (kept_rest (is_scalar d) kept)) ≡ length ds → length (first_stored constant (is_scalar d) d ds kept) ≡ suc (length ds)
  either true one other = ap suc one
  either false one other = ap suc other

behind_follow : (os more ps : List Object) → AllFollow (os ++ more) ps → AllFollow more (drop (length os) ps)
behind_follow [] more ps h = h
behind_follow (o ∷ os) more [] h = absurd h
behind_follow (o ∷ os) more (p ∷ ps) h = behind_follow os more ps h.1

-- ---- runs

result_fits : (kind : Option CType) (n : Option ℤ) → ResultFits kind (result_pattern kind n)
result_fits None n = tt
result_fits (Some kind) None = tt
result_fits (Some kind) (Some n) = pattern_below kind n

abbrev result_in : Answer → Option ℕ
result_in (run.ended result arrays kept trace) = result
result_in _ = None

abbrev arrays_in : Answer → List (List ℕ)
arrays_in (run.ended result arrays kept trace) = arrays
arrays_in _ = []

abbrev kept_in : Answer → FileScope
kept_in (run.ended result arrays kept trace) = kept
kept_in _ = record { scalars = []; arrays = [] }

module _ (p : ProgramTree) (top : ℕ) (f : FunctionTree) (at : function_at (slice_get p.items top) ≡ Some f) (has : Each HasLengths (file_objects p.items)) (kept : FileScope) (scalars : List ℕ) (arrays : List (List ℕ)) (fit : ProgramInputsFit p top kept scalars arrays) where
  abbrev file : List ObjectTree
  file = file_objects p.items

  abbrev hosts : List Object
  hosts = host_arrays f.params arrays

  end_leaves : (n : Option ℤ) (os : List Object) → AllFollow (file_store file kept ++ hosts) os → Leaves p top f scalars (result_pattern f.result n) (map patterns (drop (length file) os)) (contents_of file os)
  end_leaves n os h =
      let left = store_left file hosts has kept (inputs_given (given_objects file) kept fit.0) os h in
      let behind : AllFollow hosts (drop (length file) os) = subst (λ (k : ℕ). AllFollow hosts (drop k os)) (store_length file kept) (behind_follow (file_store file kept) hosts os h) in
      let args = top_given p top f scalars arrays at fit.1 in
      let elements = map patterns (drop (length file) os) in
      let again : inputs_fit f.params scalars elements ≡ true = and_from (scalars_fit f.params scalars) (arrays_fit f.params elements) args.0 (hosts_left f.params arrays args.1 (drop (length file) os) behind) in
      record {
        result_fits = result_fits f.result n;
        contents_fit = (
          and_from (scalars_fit (given_objects file) (contents_of file os).scalars) (arrays_fit (given_objects file) (contents_of file os).arrays) left.0 left.1,
          subst (λ (g : Option FunctionTree). inputs_fit (params_at g) scalars elements ≡ true) (sym at) again,
        );
      }

  answer_leaves : (o : Outcome (Option ℤ)) (passed : List Point) → Follow (file_store file kept ++ hosts) o → (result : Option ℕ) (elements : List (List ℕ)) (left : FileScope) (trace : List Point)
      → answer_of file f passed o ≡ run.ended result elements left trace → Leaves p top f scalars result elements left
  answer_leaves (steps.went n s) passed h result elements left trace e =
      subst (λ (a : Answer). Leaves p top f scalars (result_in a) (arrays_in a) (kept_in a)) e (end_leaves n s.objects h)
  answer_leaves (steps.undefined rule at) passed h result elements left trace e = absurd cc
  answer_leaves steps.waiting passed h result elements left trace e = absurd cc

  run_leaves : (n : ℕ) (result : Option ℕ) (elements : List (List ℕ)) (left : FileScope) (trace : List Point) → run_of p.items (Some f) kept scalars arrays n ≡ run.ended result elements left trace → Leaves p top f scalars result elements left
  run_leaves n result elements left trace e =
      let names = file_names p.items in
      let first = started p.items f kept arrays n in
      let args = top_arguments f.params scalars (length file) in
      let r = function_meaning (calls n p.items names) true f args [] names first in
      let ends = function_meaning_ends (calls n p.items names) (calls_steady n p.items names) true f args [] names first in
      answer_leaves r.outcome r.trace ends.follow result elements left trace e

pub runs_leave_words : RunsLeaveWords
runs_leave_words p top name f h blocks at kept scalars arrays n fit result elements left trace e =
    run_leaves p top f at (file_has_lengths p name h blocks) kept scalars arrays fit n result elements left trace
    (subst (λ (g : Option FunctionTree). run_of p.items g kept scalars arrays n ≡ run.ended result elements left trace) at e)

pub runs_hold_numbers : RunsHoldNumbers
runs_hold_numbers p top name f h blocks at kept scalars arrays n fit =
    let names = file_names p.items in
    let first = started p.items f kept arrays n in
    let args = top_arguments f.params scalars (length (file_objects p.items)) in
    let start = starts_with_numbers p top f (file_has_lengths p name h blocks) at kept scalars arrays n fit in
    record { start = start; end = (parts_keep_numbers p.items names n first).call true f args [] start }
