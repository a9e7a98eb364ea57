-- Calls and declarations of functions: C11 6.5.2.2, 6.7.6.3.
use Rattle.std.specs.Prelude.{ℕ, ◌==◌, ◌&&◌, ◌||◌, not, Bool, true, false, List, [], ◌∷◌, ◌++◌, length, map, Option, Some, None, is_some, if◌then◌else◌}
use Rattle.std.specs.Cmp.Lexicographic.{pointwise}
use Rattle.hls_base.specs.declared.place.Place.{Place}
use Rattle.hls_base.specs.declared.refusal.Refusal.{Refusal}
use Rattle.c_token.specs.declared.ctype.CType.{CType}
use Rattle.c_token.specs.Replacement.{is_in, same_type}
use Rattle.c_tree.specs.Tree as tree
use Rattle.c_tree.specs.Tree.{Tree, Trees, ParamTree, FunctionTree}
use Rattle.c_meaning.specs.Checks.Faults.{fault, fault_if}
use Rattle.c_meaning.specs.Checks.Names.{Shape, is_array, Sense, object, function, Declared, sense_of, count, same_flag}
use Rattle.c_meaning.specs.Checks.Lengths.{shape_of}

-- ---- two declarations of one function

-- A length that is at fault equals no length.
abbrev pub same_length : Option ℕ → Option ℕ → Bool
same_length (Some n) (Some m) = n == m
same_length _ _ = false

abbrev pub same_lengths : List (Option ℕ) → List (Option ℕ) → Bool
same_lengths = pointwise same_length

-- parameters of one type; that a scalar is const is no part of the function's type (C11 6.7.6.3 paragraph 15)
abbrev pub same_shape : Shape → Shape → Bool
same_shape s t = same_type s.kind t.kind && (same_lengths s.lengths t.lengths && (not (is_array s) || same_flag s.constant t.constant))

abbrev pub same_shapes : List Shape → List Shape → Bool
same_shapes = pointwise same_shape

abbrev pub same_result : Option CType → Option CType → Bool
same_result None None = true
same_result (Some kind) (Some other) = same_type kind other
same_result _ _ = false

abbrev pub param_shapes : List ParamTree → List Shape
param_shapes params = map (λ p. shape_of p.object) params

-- whether a name that is declared in this way may be declared again as this function
abbrev pub agrees : FunctionTree → Sense → Bool
agrees f (object shape) = false
agrees f (function result params) = same_result result f.result && same_shapes params (param_shapes f.params)

-- the function with its name, where it is new; the first declaration counts
abbrev pub with_function : FunctionTree → List Declared → List Declared
with_function f names = if is_some (sense_of f.name names) then names else record { name = f.name; sense = function f.result (param_shapes f.params) } ∷ names

-- Rule 8: a later declaration of a function agrees with the first, and one function has one body (C11 6.7 paragraph 4, 6.9 paragraphs 3 and 5).
abbrev pub disagrees : FunctionTree → Option Sense → Bool
disagrees f None = false
disagrees f (Some sense) = not (agrees f sense)

abbrev pub declaration_faults : List (List ℕ) → List Declared → FunctionTree → List Refusal
declaration_faults bodies names f = fault_if (disagrees f (sense_of f.name names) || (is_some f.body && is_in f.name bodies)) 8 f.at

-- ---- one call

-- An argument for an array is the name of an array of the same element type and lengths, which is not const where the parameter is not.
abbrev pub same_elements : Shape → Option Sense → Bool
same_elements param (Some (object shape)) = is_array shape && (same_type param.kind shape.kind && (same_lengths param.lengths shape.lengths && (not shape.constant || param.constant)))
same_elements param _ = false

abbrev pub fits_array : List Declared → Shape → Tree → Bool
fits_array names param (tree.name text at) = same_elements param (sense_of text names)
fits_array names param _ = false

abbrev pub fits : List Declared → Shape → Tree → Bool
fits names param arg = not (is_array param) || fits_array names param arg

abbrev pub all_fit : List Declared → List Shape → Trees → Bool
all_fit names (param ∷ params) (tree.more arg args) = fits names param arg && all_fit names params args
all_fit names _ _ = true

-- Rule 7: a function that is called is declared and has a body somewhere (C11 6.9 paragraph 5). Rule 9: an object is not called (6.5.2.2 paragraph 1). Rule 10: a call has as many arguments as the function has parameters (6.5.2.2 paragraph 2). Rule 11: arguments fit array parameters.
abbrev pub called_faults : Bool → List Declared → Option Sense → Trees → Place → List Refusal
called_faults has_body names None args at = fault 7 at ∷ []
called_faults has_body names (Some (object shape)) args at = fault 9 at ∷ []
called_faults has_body names (Some (function result params)) args at =
    fault_if (not has_body) 7 at
    ++ (fault_if (not (length params == count args)) 10 at
    ++ fault_if (not (all_fit names params args)) 11 at)

abbrev pub call_faults : List (List ℕ) → List Declared → List ℕ → Trees → Place → List Refusal
call_faults bodies names callee args at = called_faults (is_in callee bodies) names (sense_of callee names) args at

-- Rule 9: a call without a result is no value, C11 6.3.2.2.
abbrev pub is_void : Option Sense → Bool
is_void (Some (function None params)) = true
is_void _ = false

abbrev pub void_faults : List Declared → List ℕ → Place → List Refusal
void_faults names callee at = fault_if (is_void (sense_of callee names)) 9 at

abbrev pub params_of : Option Sense → List Shape
params_of (Some (function result params)) = params
params_of _ = []

-- A name that is given for an array parameter is looked at as a name alone.
abbrev pub given_faults : Option Sense → Place → List Refusal
given_faults None at = fault 7 at ∷ []
given_faults (Some (function result params)) at = fault 9 at ∷ []
given_faults (Some (object shape)) at = []
