-- The interface of a function, and what fits it.
use Rattle.std.proofs.Common.{◌≡◌, ◌≤◌, ℕ, zero, suc, ◌^◌, ◌==◌, ◌&&◌, Bool, true, false, List, [], ◌∷◌, map, length, Option, Some, None, if◌then◌else◌, refl, sym, subst, arith}
use Rattle.std.specs.Prelude.{slice_get, nat_lt, nat_le, pos, negsuc}
use Rattle.std.proofs.lemmas.Option.{same_Some}
use Rattle.std.proofs.lemmas.Bool.{and_parts, eqb-true, ltb-true, leb-true}
use Rattle.hls_base.specs.ArrayAddress.{element_count}
use Rattle.hls_base.specs.declared.place.Place.{Place}
use Rattle.c_token.specs.declared.ctype.CType.{CType}
use Rattle.c_tree.specs.Tree as tree
use Rattle.c_tree.specs.Tree.{ObjectTree, ParamTree, FunctionTree, ItemTree, ProgramTree}
use Rattle.c_value.specs.Values.{width}
use Rattle.c_meaning.specs.Checks.Names.{Declared}
use Rattle.c_meaning.specs.Checks.Lengths as lengths
use Rattle.c_meaning.specs.Checks.Lengths.{Length, usable, with_first, all_usable, lengths_of}
use Rattle.c_meaning.specs.Checks.Calls.{with_function, declaration_faults}
use Rattle.c_meaning.specs.Checks.Limits.{limit_faults, param_places}
use Rattle.c_meaning.specs.Checks.Statements.{function_faults}
use Rattle.c_meaning.specs.Checks.Programs.{body_names, with_body, with_item, item_faults, items_faults, program_faults}
use Rattle.c_meaning.specs.Store.{within_limits, lengths_in}
use Rattle.c_meaning.specs.Run.{is_array_parameter, function_at}
use Rattle.c_meaning.specs.FittingInputs.{word_fits, words_fit, array_fits, first_fits, scalars_fit, arrays_fit}
use Rattle.rtl_core.specs.ClockStep.{Fit, fit_none, fit_one}
use Rattle.ir_core.specs.AddressWords.{AreShort}
use Rattle.cosim_levels.specs.Pins.FunctionPins.{scalar_bits, array_shape, array_shapes, interface_of}
use Rattle.c_elaborate.proofs.ElaborateRuns.Sizes.{left_nil, right_nil}
use Rattle.driven_circuits.specs.Fitting.{ArraysAreShort, IsReached, WordsFit, IsArray, AreArrays}

-- ---- what fits a function fits its interface

words_given : (kind : CType) (words : List ℕ) → words_fit kind words ≡ true → WordsFit (width kind) words
words_given kind [] e = tt
words_given kind (w ∷ words) e =
    let parts = and_parts (word_fits kind w) (words_fit kind words) e in
    (ltb-true w (2 ^ width kind) parts.0, words_given kind words parts.1)

array_given : (p : ParamTree) (words : List ℕ) → array_fits p.object words ≡ true → IsArray (array_shape p) words
array_given p words e =
    let parts = and_parts (length words == element_count (lengths_in p.object)) (words_fit p.object.kind words) e in
    record { count = eqb-true (length words) (element_count (lengths_in p.object)) parts.0; fit = words_given p.object.kind words parts.1 }

none_left : {A : Type 0} (xs : List A) → (length xs == 0) ≡ true → xs ≡ []
none_left [] e = refl
none_left (x ∷ xs) e = let none = eqb-true (suc (length xs)) 0 e in absurd (omega (arith, none))

pub scalars_given : (ps : List ParamTree) (scalars : List ℕ) → scalars_fit ps scalars ≡ true → Fit (scalar_bits ps) scalars
scalars_given [] scalars e = subst (Fit []) (sym (none_left scalars e)) fit_none
scalars_given (p ∷ ps) scalars e = by (is_array_parameter p) (scalars_given ps) scalars e
  where
    by : (array : Bool) → ((xs : List ℕ) → scalars_fit ps xs ≡ true → Fit (scalar_bits ps) xs) → (xs : List ℕ)
        → (if array then scalars_fit ps xs else first_fits xs (word_fits p.object.kind) (scalars_fit ps)) ≡ true → Fit (if array then scalar_bits ps else width p.object.kind ∷ scalar_bits ps) xs
    by true others xs e = others xs e
    by false others [] e = absurd cc
    by false others (x ∷ xs) e =
        let parts = and_parts (word_fits p.object.kind x) (scalars_fit ps xs) e in
        fit_one (width p.object.kind) x (scalar_bits ps) xs (ltb-true x (2 ^ width p.object.kind) parts.0) (others xs parts.1)

pub arrays_given : (ps : List ParamTree) (arrays : List (List ℕ)) → arrays_fit ps arrays ≡ true → AreArrays (array_shapes ps) arrays
arrays_given [] arrays e = subst (AreArrays []) (sym (none_left arrays e)) tt
arrays_given (p ∷ ps) arrays e = by (is_array_parameter p) (arrays_given ps) arrays e
  where
    by : (array : Bool) → ((xs : List (List ℕ)) → arrays_fit ps xs ≡ true → AreArrays (array_shapes ps) xs) → (xs : List (List ℕ))
        → (if array then first_fits xs (array_fits p.object) (arrays_fit ps) else arrays_fit ps xs) ≡ true → AreArrays (if array then array_shape p ∷ array_shapes ps else array_shapes ps) xs
    by false others xs e = others xs e
    by true others [] e = absurd cc
    by true others (x ∷ xs) e =
        let parts = and_parts (array_fits p.object x) (arrays_fit ps xs) e in
        (array_given p x parts.0, others xs parts.1)

-- ---- dimensions are short

abbrev IsLow : Option ℕ → Type 0
IsLow None = Unit {0}
IsLow (Some n) = n ≤ 65536

abbrev IsShort : Option (List ℕ) → Type 0
IsShort None = Unit {0}
IsShort (Some ns) = AreShort ns

usable_low : (l : Length) → IsLow (usable l)
usable_low (lengths.number (pos n)) = either (nat_lt 0 n && nat_le n 65536) refl
  where
    either : (b : Bool) → (nat_lt 0 n && nat_le n 65536) ≡ b → IsLow (if b then Some n else None)
    either true e = leb-true n 65536 (and_parts (nat_lt 0 n) (nat_le n 65536) e).1
    either false e = tt
usable_low (lengths.number (negsuc n)) = tt
usable_low lengths.left_out = tt
usable_low lengths.no_constant = tt

first_short : (n : ℕ) → n ≤ 65536 → (q : Option (List ℕ)) → IsShort q → IsShort (with_first n q)
first_short n low None h = tt
first_short n low (Some ns) h = (low, h)

more_short : (u : Option ℕ) → IsLow u → (rest : List (Option ℕ)) → IsShort (all_usable rest) → IsShort (all_usable (u ∷ rest))
more_short None low rest h = tt
more_short (Some n) low rest h = first_short n low (all_usable rest) h

all_short : (ls : List Length) → IsShort (all_usable (map usable ls))
all_short [] = tt
all_short (l ∷ ls) = more_short (usable l) (usable_low l) (map usable ls) (all_short ls)

limited_short : (q : Option (List ℕ)) → IsShort q → AreShort (within_limits q)
limited_short None h = tt
limited_short (Some ns) h = either (nat_le (element_count ns) 65536)
  where
    either : (b : Bool) → AreShort (if b then ns else [])
    either true = h
    either false = tt

shapes_short : (ps : List ParamTree) → ArraysAreShort (array_shapes ps)
shapes_short [] = tt
shapes_short (p ∷ ps) = by (is_array_parameter p) (shapes_short ps)
  where
    by : (array : Bool) → ArraysAreShort (array_shapes ps) → ArraysAreShort (if array then array_shape p ∷ array_shapes ps else array_shapes ps)
    by true others = (limited_short (all_usable (map usable (lengths_of p.object))) (all_short (lengths_of p.object)), others)
    by false others = others

-- ---- there are few of them

few_places : (places : List Place) (limit rule : ℕ) → limit_faults limit rule places ≡ [] → length places ≤ limit
few_places [] limit rule e = omega arith
few_places (x ∷ places) zero rule e = absurd cc
few_places (x ∷ places) (suc limit) rule e = let rest = few_places places limit rule e in omega (arith, rest)

shapes_fewer : (ps : List ParamTree) → length (array_shapes ps) ≤ length (param_places ps)
shapes_fewer [] = omega arith
shapes_fewer (p ∷ ps) = by (is_array_parameter p) (shapes_fewer ps)
  where
    by : (array : Bool) → length (array_shapes ps) ≤ length (param_places ps) → length (if array then array_shape p ∷ array_shapes ps else array_shapes ps) ≤ length (param_places (p ∷ ps))
    by true others = omega (arith, others)
    by false others = omega (arith, others)

few_in : (bodies before : List (List ℕ)) (names : List Declared) (items : List ItemTree) → items_faults bodies before names items ≡ [] → (top : ℕ) (f : FunctionTree) → function_at (slice_get items top) ≡ Some f → length (param_places f.params) ≤ 32
few_in bodies before names [] h top f at = absurd cc
few_in bodies before names (tree.objects os ∷ items) h zero f at = absurd cc
few_in bodies before names (tree.function g ∷ items) h zero f at =
    let first = left_nil (item_faults bodies before names (tree.function g)) _ h in
    let own = right_nil (declaration_faults before names g) (function_faults bodies (with_function g names) g) first in
    let few = few_places (param_places g.params) 32 34 (left_nil (limit_faults 32 34 (param_places g.params)) _ own) in
    subst (λ (x : FunctionTree). length (param_places x.params) ≤ 32) (same_Some g f at) few
few_in bodies before names (item ∷ items) h (suc top) f at =
    few_in bodies (with_body item before) (with_item item names) items (right_nil (item_faults bodies before names item) _ h) top f at

pub function_reached : (p : ProgramTree) (top : ℕ) (name : List ℕ) (f : FunctionTree) → program_faults p name ≡ [] → function_at (slice_get p.items top) ≡ Some f → IsReached (interface_of f)
function_reached p top name f faultless at =
    let few = few_in (body_names p.items) [] [] p.items (left_nil (items_faults (body_names p.items) [] [] p.items) _ faultless) top f at in
    let fewer = shapes_fewer f.params in
    record { few = omega (arith, few, fewer); short = shapes_short f.params }
