-- The faults of a program: C11 6.9.
use Rattle.std.specs.Prelude.{◌&&◌, bytes_eq, ℕ, not, Bool, true, false, List, [], ◌∷◌, ◌++◌, Option, Some, None, is_some, slice_get, if◌then◌else◌}
use Rattle.hls_base.specs.declared.refusal.Refusal.{Refusal}
use Rattle.c_token.specs.Replacement.{is_in}
use Rattle.c_tree.specs.Tree as tree
use Rattle.c_tree.specs.Tree.{FunctionTree, ItemTree, ProgramTree}
use Rattle.c_meaning.specs.Checks.Faults.{fault_if}
use Rattle.c_meaning.specs.Checks.Names.{Declared}
use Rattle.c_meaning.specs.Checks.Calls.{with_function, declaration_faults}
use Rattle.c_meaning.specs.Checks.Limits.{limit_faults, new_function_places, file_arrays, file_objects, kept_faults}
use Rattle.c_meaning.specs.Checks.Statements.{with_objects, objects_faults, function_faults}
use Rattle.c_meaning.specs.Checks.Recursion.{callers, recursion_faults}

-- the names of the functions that have a body, in order
abbrev pub body_names : List ItemTree → List (List ℕ)
body_names [] = []
body_names (tree.objects os ∷ items) = body_names items
body_names (tree.function f ∷ items) = if is_some f.body then f.name ∷ body_names items else body_names items

-- the functions whose bodies stand before, with this item if it is one
abbrev pub with_body : ItemTree → List (List ℕ) → List (List ℕ)
with_body (tree.objects os) before = before
with_body (tree.function f) before = if is_some f.body then before ++ f.name ∷ [] else before

-- the names that are visible behind an item
abbrev pub with_item : ItemTree → List Declared → List Declared
with_item (tree.objects os) names = with_objects os names
with_item (tree.function f) names = with_function f names

-- A function is visible from its name on.
abbrev pub item_faults : List (List ℕ) → List (List ℕ) → List Declared → ItemTree → List Refusal
item_faults bodies before names (tree.objects os) = objects_faults bodies true 0 names os
item_faults bodies before names (tree.function f) = declaration_faults before names f ++ function_faults bodies (with_function f names) f

-- each item sees what stands before it
abbrev pub items_faults : List (List ℕ) → List (List ℕ) → List Declared → List ItemTree → List Refusal
items_faults bodies before names [] = []
items_faults bodies before names (item ∷ items) = item_faults bodies before names item ++ items_faults bodies (with_body item before) (with_item item names) items

-- Rule 19: a function with a body has the name of the top function.
abbrev pub top_faults : List ℕ → ProgramTree → List Refusal
top_faults top p = fault_if (not (is_in top (body_names p.items))) 19 p.end

-- The faults of a program whose top function has this name. Rules 33, 35 and 21 limit the functions, and the arrays at file scope and their words.
abbrev pub program_faults : ProgramTree → List ℕ → List Refusal
program_faults p top =
    items_faults (body_names p.items) [] [] p.items
    ++ (recursion_faults (callers [] p.items) (callers [] p.items)
    ++ (limit_faults 64 33 (new_function_places [] p.items)
    ++ (limit_faults 32 35 (file_arrays p.items)
    ++ (kept_faults 0 (file_objects p.items)
    ++ top_faults top p))))

-- ---- programs without faults

abbrev pub is_empty : List Refusal → Bool
is_empty [] = true
is_empty (r ∷ rs) = false

-- whether the item is a function with a body and this name
abbrev pub is_body_of : List ℕ → ItemTree → Bool
is_body_of name (tree.objects os) = false
is_body_of name (tree.function f) = is_some f.body && bytes_eq name f.name

-- the name of the function with a body that is the item with this index
abbrev pub body_name_of : Option ItemTree → Option (List ℕ)
body_name_of (Some (tree.function f)) = if is_some f.body then Some f.name else None
body_name_of _ = None

abbrev pub top_name : ProgramTree → ℕ → Option (List ℕ)
top_name p top = body_name_of (slice_get p.items top)

abbrev pub is_faultless : ProgramTree → Option (List ℕ) → Bool
is_faultless p None = false
is_faultless p (Some name) = is_empty (program_faults p name)

-- the item with this index is a function with a body, and the program has no fault for it as its top function
abbrev pub is_well_formed : ProgramTree → ℕ → Bool
is_well_formed p top = is_faultless p (top_name p top)
