-- Where the run of a module differs first from the run in C: in the result, as a number of its type, then in the elements in order, and then in the cycles.
use Rattle.std.specs.Prelude.{ℕ, suc, ℤ, pos, List, [], ◌∷◌, map, filter, Option, Some, None, if◌then◌else◌}
use Rattle.std.specs.Option.{option_or}
use Rattle.std.specs.Ordering.{int_eq}
use Rattle.c_token.specs.declared.ctype.CType.{CType}
use Rattle.c_tree.specs.Tree.{ObjectTree, ParamTree, FunctionTree}
use Rattle.c_value.specs.Values.{number_of}
use Rattle.c_meaning.specs.Run.{is_array_parameter}
use Rattle.cosim_levels.specs.declared.pins.drive.Shown.{Shown as ShownByModule}
use Rattle.cosim_levels.specs.declared.verdict.Item.{Item}
use Rattle.cosim_levels.specs.declared.verdict.Item.TheVariants as item
use Rattle.cosim_levels.specs.declared.verdict.Difference.{Difference}
use Rattle.cosim_levels.specs.Verdicts.{ShownArray, PlainVerdict, agree, differ}

-- a result as a number of the function's type
abbrev pub result_number : Option CType → Option ℕ → Option ℤ
result_number None word = None
result_number (Some kind) None = None
result_number (Some kind) (Some word) = Some (number_of kind word)

abbrev pub difference_at : Item → ℤ → ℤ → Option Difference
difference_at item expected found = if int_eq expected found then None else Some (record { item = item; expected = expected; found = found })

abbrev pub in_result : Option ℤ → Option ℤ → Option Difference
in_result None found = None
in_result (Some expected) None = None
in_result (Some expected) (Some found) = difference_at item.Ret expected found

-- the elements of an array from number k on
abbrev pub in_elements : ObjectTree → ℕ → List ℕ → List ℕ → Option Difference
in_elements o k [] found = None
in_elements o k (e ∷ expected) [] = None
in_elements o k (e ∷ expected) (f ∷ found) =
    option_or (difference_at (item.Element o.name k) (number_of o.kind e) (number_of o.kind f)) (in_elements o (suc k) expected found)

-- the arrays of these parameters
abbrev pub in_arrays : List ParamTree → List (List ℕ) → List (List ℕ) → Option Difference
in_arrays [] expected found = None
in_arrays (p ∷ ps) [] found = None
in_arrays (p ∷ ps) (e ∷ expected) [] = None
in_arrays (p ∷ ps) (e ∷ expected) (f ∷ found) = option_or (in_elements p.object 0 e f) (in_arrays ps expected found)

abbrev pub array_parameters : FunctionTree → List ParamTree
array_parameters f = filter is_array_parameter f.params

abbrev pub first_difference : FunctionTree → Option ℕ → List (List ℕ) → ℕ → ShownByModule → Option Difference
first_difference f result arrays cycles shown =
    option_or (in_result (result_number f.result result) (result_number f.result shown.ret))
    (option_or (in_arrays (array_parameters f) arrays shown.arrays)
    (difference_at item.Cycles (pos cycles) (pos shown.cycles)))

-- the elements of these parameters, as numbers of their types
abbrev pub shown_arrays : List ParamTree → List (List ℕ) → List ShownArray
shown_arrays [] arrays = []
shown_arrays (p ∷ ps) [] = []
shown_arrays (p ∷ ps) (words ∷ arrays) = record { name = p.object.name; values = map (number_of p.object.kind) words } ∷ shown_arrays ps arrays

abbrev pub differ_or : Option Difference → PlainVerdict → PlainVerdict
differ_or (Some difference) verdict = differ difference
differ_or None verdict = verdict

-- The verdict on a run in C with this result, these elements and so many cycles, and on what the module shows, where the clocked machine takes so many steps.
abbrev pub compared_with : FunctionTree → Option ℕ → List (List ℕ) → ℕ → ShownByModule → ℕ → PlainVerdict
compared_with f result arrays cycles shown clock =
    differ_or (first_difference f result arrays cycles shown) (agree (result_number f.result result) (shown_arrays (array_parameters f) arrays) cycles clock)
