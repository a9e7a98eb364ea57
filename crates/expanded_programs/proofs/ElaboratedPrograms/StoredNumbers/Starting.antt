-- Contents and arrays that fit give objects with numbers of their types.
use Rattle.std.proofs.Common.{◌≡◌, ℕ, sym, ap, subst, List, [], ◌∷◌, map, take, drop, length, All, ◌^◌, None, Bool, true, false, ◌&&◌, ◌==◌, Option, Some, if◌then◌else◌}
use Rattle.std.specs.Prelude.{not, slice_get}
use Rattle.std.proofs.lemmas.Bool.{and_parts, ltb-true}
use Rattle.std.proofs.lemmas.List.Elements.{All-nil, All-cons, All-append}
use Rattle.hls_base.specs.ArrayAddress.{element_count}
use Rattle.hls_base.specs.FileScope.{FileScope}
use Rattle.c_token.specs.declared.ctype.CType.{CType}
use Rattle.c_tree.specs.Tree.{Tree, ObjectTree, ParamTree, FunctionTree, ProgramTree}
use Rattle.c_value.specs.Values.{width, number_of}
use Rattle.c_value.specs.Constant.{constant_number}
use Rattle.c_meaning.specs.Checks.Limits.{file_objects}
use Rattle.c_meaning.specs.Checks.Programs.{program_faults}
use Rattle.c_meaning.specs.Store.{Object, lengths_in}
use Rattle.c_meaning.specs.FittingInputs.{word_fits, words_fit, array_fits, first_fits, scalars_fit, arrays_fit, inputs_fit}
use Rattle.c_meaning.specs.Run.{or_zero, constant_item, file_items, first_object, filled, head_or_none, kept_object, kept_rest, file_store, host_arrays, is_array_parameter, function_at, started}
use Rattle.c_meaning.proofs.Ranges.{converted_in, word_in, zero_in}
use Rattle.c_elaborate.specs.Grammatical.{ProgramDeclaresInBlocks}
use Rattle.c_elaborate.specs.Homes.{Each}
use Rattle.c_elaborate.specs.Resolved.{HasLengths}
use Rattle.c_elaborate.proofs.ElaborateRuns.Files.{file_lengths}
use Rattle.c_elaborate.proofs.ElaborateRuns.FaultlessPrograms.{faultless_resolved}
use Rattle.expanded_programs.specs.ElaboratedPrograms.Inputs.{ProgramInputsFit, given_objects, params_at}
use Rattle.expanded_programs.specs.ElaboratedPrograms.StoredNumbers.Numbers.{IsNumber, HasNumbers, HoldsNumbers}

-- ---- words

words_numbers : (kind : CType) (words : List ℕ) → words_fit kind words ≡ true → All (IsNumber kind) (map (λ word. Some (number_of kind word)) words)
words_numbers kind [] e = All-nil (IsNumber kind)
words_numbers kind (word ∷ words) e =
    let parts = and_parts (word_fits kind word) (words_fit kind words) e in
    All-cons (IsNumber kind) (Some (number_of kind word)) (map (λ word. Some (number_of kind word)) words) (word_in kind word (ltb-true word (2 ^ width kind) parts.0)) (words_numbers kind words parts.1)

filled_numbers : (kind : CType) (lengths words : List ℕ) → words_fit kind words ≡ true → HasNumbers (filled kind lengths words)
filled_numbers kind lengths words e = words_numbers kind words e

array_numbers : (d : ObjectTree) (words : List ℕ) → array_fits d words ≡ true → HasNumbers (filled d.kind (lengths_in d) words)
array_numbers d words e = filled_numbers d.kind (lengths_in d) words (and_parts (length words == element_count (lengths_in d)) (words_fit d.kind words) e).1

item_number : (kind : CType) (item : Option Tree) → IsNumber kind (constant_item kind item)
item_number kind None = zero_in kind
item_number kind (Some t) = converted_in kind (or_zero (constant_number t))

items_numbers : (kind : CType) (items : List (Option Tree)) → All (IsNumber kind) (map (constant_item kind) items)
items_numbers kind [] = All-nil (IsNumber kind)
items_numbers kind (item ∷ items) = All-cons (IsNumber kind) (constant_item kind item) (map (constant_item kind) items) (item_number kind item) (items_numbers kind items)

first_numbers : (d : ObjectTree) → HasNumbers (first_object d)
first_numbers d = items_numbers d.kind (file_items (lengths_in d) d.init)

-- ---- objects of file scope

scalar_numbers : (d : ObjectTree) (scalars : List ℕ) (others : List ℕ → Bool) → first_fits scalars (word_fits d.kind) others ≡ true → HasNumbers (filled d.kind [] (take 1 scalars)) × (others (drop 1 scalars) ≡ true)
scalar_numbers d [] others e = absurd cc
scalar_numbers d (word ∷ words) others e =
    let parts = and_parts (word_fits d.kind word) (others words) e in
    (filled_numbers d.kind [] (word ∷ []) (ap (λ (b : Bool). b && true) parts.0), parts.1)

row_numbers : (d : ObjectTree) (rows : List (List ℕ)) (others : List (List ℕ) → Bool) → first_fits rows (array_fits d) others ≡ true → HasNumbers (filled d.kind (lengths_in d) (head_or_none rows)) × (others (drop 1 rows) ≡ true)
row_numbers d [] others e = absurd cc
row_numbers d (row ∷ rows) others e =
    let parts = and_parts (array_fits d row) (others rows) e in
    (array_numbers d row parts.0, parts.1)

abbrev pub is_scalar : ObjectTree → Bool
is_scalar d = length (lengths_in d) == 0

-- the contents fit these objects
abbrev pub GivenFit : List ParamTree → FileScope → Type 0
GivenFit ps kept = (scalars_fit ps kept.scalars ≡ true) × (arrays_fit ps kept.arrays ≡ true)

abbrev pub given : ObjectTree → ParamTree
given d = record { object = d; named = true }

-- so they do where the first is a scalar, or an array
abbrev pub FitsFirst : Bool → ObjectTree → List ParamTree → FileScope → Type 0
FitsFirst scalar d ps kept =
    ((if not scalar then scalars_fit ps kept.scalars else first_fits kept.scalars (word_fits d.kind) (scalars_fit ps)) ≡ true)
    × ((if not scalar then first_fits kept.arrays (array_fits d) (arrays_fit ps) else arrays_fit ps kept.arrays) ≡ true)

pub fits_first : (d : ObjectTree) (ps : List ParamTree) (kept : FileScope) → HasLengths d → GivenFit (given d ∷ ps) kept → FitsFirst (is_scalar d) d ps kept
fits_first d ps kept has fit = subst (λ (y : Bool). FitsFirst y d ps kept) (sym has) fit

pub first_fits_back : (d : ObjectTree) (ps : List ParamTree) (kept : FileScope) → HasLengths d → FitsFirst (is_scalar d) d ps kept → GivenFit (given d ∷ ps) kept
first_fits_back d ps kept has fit = subst (λ (y : Bool). FitsFirst y d ps kept) has fit

kept_first : (scalar : Bool) (d : ObjectTree) (ds : List ObjectTree) (others : (kept : FileScope) → GivenFit (given_objects ds) kept → All HasNumbers (file_store ds kept)) (kept : FileScope) → FitsFirst scalar d (given_objects ds) kept
    → All HasNumbers (kept_object scalar d kept ∷ file_store ds (kept_rest scalar kept))
kept_first true d ds others kept fit =
    let one = scalar_numbers d kept.scalars (scalars_fit (given_objects ds)) fit.0 in
    All-cons HasNumbers (kept_object true d kept) (file_store ds (kept_rest true kept)) one.0 (others (kept_rest true kept) (one.1, fit.1))
kept_first false d ds others kept fit =
    let one = row_numbers d kept.arrays (arrays_fit (given_objects ds)) fit.1 in
    All-cons HasNumbers (kept_object false d kept) (file_store ds (kept_rest false kept)) one.0 (others (kept_rest false kept) (fit.0, one.1))

-- the objects of file scope with these contents, of which the first may be const
abbrev pub first_stored : Bool → Bool → ObjectTree → List ObjectTree → FileScope → List Object
first_stored constant scalar d ds kept = if constant then first_object d ∷ file_store ds kept else kept_object scalar d kept ∷ file_store ds (kept_rest scalar kept)

abbrev pub first_given : Bool → ObjectTree → List ObjectTree → List ParamTree
first_given constant d ds = if constant then given_objects ds else given d ∷ given_objects ds

first_of_store : (constant : Bool) (d : ObjectTree) (ds : List ObjectTree) (others : (kept : FileScope) → GivenFit (given_objects ds) kept → All HasNumbers (file_store ds kept)) (kept : FileScope) → HasLengths d → GivenFit (first_given constant d ds) kept
    → All HasNumbers (first_stored constant (is_scalar d) d ds kept)
first_of_store true d ds others kept has fit = All-cons HasNumbers (first_object d) (file_store ds kept) (first_numbers d) (others kept fit)
first_of_store false d ds others kept has fit = kept_first (is_scalar d) d ds others kept (fits_first d (given_objects ds) kept has fit)

store_numbers : (ds : List ObjectTree) → Each HasLengths ds → (kept : FileScope) → GivenFit (given_objects ds) kept → All HasNumbers (file_store ds kept)
store_numbers [] has kept fit = All-nil HasNumbers
store_numbers (d ∷ ds) has kept fit = first_of_store d.constant d ds (store_numbers ds has.1) kept has.0 fit

-- ---- array parameters

first_of_hosts : (array : Bool) (p : ParamTree) (ps : List ParamTree) (others : (arrays : List (List ℕ)) → arrays_fit ps arrays ≡ true → All HasNumbers (host_arrays ps arrays)) (arrays : List (List ℕ))
    → (if array then first_fits arrays (array_fits p.object) (arrays_fit ps) else arrays_fit ps arrays) ≡ true
    → All HasNumbers (if array then filled p.object.kind (lengths_in p.object) (head_or_none arrays) ∷ host_arrays ps (drop 1 arrays) else host_arrays ps arrays)
first_of_hosts true p ps others arrays e =
    let one = row_numbers p.object arrays (arrays_fit ps) e in
    All-cons HasNumbers (filled p.object.kind (lengths_in p.object) (head_or_none arrays)) (host_arrays ps (drop 1 arrays)) one.0 (others (drop 1 arrays) one.1)
first_of_hosts false p ps others arrays e = others arrays e

hosts_numbers : (ps : List ParamTree) (arrays : List (List ℕ)) → arrays_fit ps arrays ≡ true → All HasNumbers (host_arrays ps arrays)
hosts_numbers [] arrays e = All-nil HasNumbers
hosts_numbers (p ∷ ps) arrays e = first_of_hosts (is_array_parameter p) p ps (hosts_numbers ps) arrays e

-- ---- programs

pub file_has_lengths : (p : ProgramTree) (name : List ℕ) → program_faults p name ≡ [] → ProgramDeclaresInBlocks p → Each HasLengths (file_objects p.items)
file_has_lengths p name h blocks = file_lengths p.items (faultless_resolved p name h blocks)

pub inputs_given : (ps : List ParamTree) (kept : FileScope) → inputs_fit ps kept.scalars kept.arrays ≡ true → GivenFit ps kept
inputs_given ps kept e = and_parts (scalars_fit ps kept.scalars) (arrays_fit ps kept.arrays) e

-- the arguments fit the parameters of the function
pub top_given : (p : ProgramTree) (top : ℕ) (f : FunctionTree) (scalars : List ℕ) (arrays : List (List ℕ)) → function_at (slice_get p.items top) ≡ Some f → inputs_fit (params_at (function_at (slice_get p.items top))) scalars arrays ≡ true
    → (scalars_fit f.params scalars ≡ true) × (arrays_fit f.params arrays ≡ true)
top_given p top f scalars arrays at e = and_parts (scalars_fit f.params scalars) (arrays_fit f.params arrays) (subst (λ (g : Option FunctionTree). inputs_fit (params_at g) scalars arrays ≡ true) at e)

pub starts_with_numbers : (p : ProgramTree) (top : ℕ) (f : FunctionTree) → Each HasLengths (file_objects p.items) → function_at (slice_get p.items top) ≡ Some f → (kept : FileScope) (scalars : List ℕ) (arrays : List (List ℕ)) (n : ℕ)
    → ProgramInputsFit p top kept scalars arrays → HoldsNumbers (started p.items f kept arrays n)
starts_with_numbers p top f has at kept scalars arrays n fit =
    let file = file_objects p.items in
    All-append HasNumbers (file_store file kept) (host_arrays f.params arrays) (store_numbers file has kept (inputs_given (given_objects file) kept fit.0)) (hosts_numbers f.params arrays (top_given p top f scalars arrays at fit.1).1)
