-- The limits of a program: so many functions, parameters, arrays and words of file-scope arrays.
use Rattle.std.specs.Prelude.{ℕ, ◌+◌, ◌==◌, nat_lt, List, [], ◌∷◌, ◌++◌, length, Option, Some, None, slice_get, if◌then◌else◌}
use Rattle.hls_base.specs.declared.place.Place.{Place}
use Rattle.hls_base.specs.declared.refusal.Refusal.{Refusal}
use Rattle.c_token.specs.Replacement.{is_in}
use Rattle.c_tree.specs.Tree as tree
use Rattle.c_tree.specs.Tree.{ObjectTree, StmtTree, ElseTree, FirstTree, StmtTrees, ParamTree, FunctionTree, ItemTree}
use Rattle.c_meaning.specs.Checks.Faults.{fault}
use Rattle.c_meaning.specs.Checks.Lengths.{shape_of, rounded_product}

-- the one of these places that has so many before it is at fault
abbrev pub fault_at : ℕ → Option Place → List Refusal
fault_at rule None = []
fault_at rule (Some place) = fault rule place ∷ []

abbrev pub limit_faults : ℕ → ℕ → List Place → List Refusal
limit_faults limit rule places = fault_at rule (slice_get places limit)

-- ---- rule 33: at most 64 functions

-- where the names of functions stand first, in order
abbrev pub new_function_places : List (List ℕ) → List ItemTree → List Place
new_function_places known [] = []
new_function_places known (tree.objects os ∷ items) = new_function_places known items
new_function_places known (tree.function f ∷ items) =
    if is_in f.name known then new_function_places known items else f.at ∷ new_function_places (known ++ f.name ∷ []) items

-- ---- rule 34: at most 32 parameters

abbrev pub param_places : List ParamTree → List Place
param_places [] = []
param_places (p ∷ ps) = p.object.at ∷ param_places ps

-- ---- rule 35: at most 32 arrays in one function, its parameters among them, or at file scope

abbrev pub array_place : ObjectTree → List Place
array_place o = if length o.lengths == 0 then [] else o.at ∷ []

abbrev pub array_places : List ObjectTree → List Place
array_places [] = []
array_places (o ∷ os) = array_place o ++ array_places os

abbrev pub param_arrays : List ParamTree → List Place
param_arrays [] = []
param_arrays (p ∷ ps) = array_place p.object ++ param_arrays ps

abbrev mutual
  pub statement_arrays : StmtTree → List Place
  statement_arrays (tree.block body) = statements_arrays body
  statement_arrays (tree.declare objects) = array_places objects
  statement_arrays (tree.if_ test body other at) = statement_arrays body ++ else_arrays other
  statement_arrays (tree.switch_ test body at) = statements_arrays body
  statement_arrays (tree.case_ value body at) = statement_arrays body
  statement_arrays (tree.while_ test body at) = statement_arrays body
  statement_arrays (tree.do_ body test at) = statement_arrays body
  statement_arrays (tree.for_ init test step body at) = first_arrays init ++ statement_arrays body
  statement_arrays _ = []

  pub else_arrays : ElseTree → List Place
  else_arrays tree.no_else = []
  else_arrays (tree.else_ at body) = statement_arrays body

  pub first_arrays : FirstTree → List Place
  first_arrays tree.no_first = []
  first_arrays (tree.first part) = statement_arrays part

  pub statements_arrays : StmtTrees → List Place
  statements_arrays tree.no_stmt = []
  statements_arrays (tree.more_stmts first rest) = statement_arrays first ++ statements_arrays rest

abbrev pub body_arrays : Option StmtTrees → List Place
body_arrays None = []
body_arrays (Some body) = statements_arrays body

abbrev pub function_arrays : FunctionTree → List Place
function_arrays f = param_arrays f.params ++ body_arrays f.body

abbrev pub file_arrays : List ItemTree → List Place
file_arrays [] = []
file_arrays (tree.function f ∷ items) = file_arrays items
file_arrays (tree.objects os ∷ items) = array_places os ++ file_arrays items

-- ---- rule 21: the rounded lengths of the file-scope arrays that are not const add up to at most 65,536

abbrev pub file_objects : List ItemTree → List ObjectTree
file_objects [] = []
file_objects (tree.function f ∷ items) = file_objects items
file_objects (tree.objects os ∷ items) = os ++ file_objects items

-- the words of such an array
abbrev pub kept_words : ObjectTree → ℕ
kept_words o = if o.constant then 0 else (if length o.lengths == 0 then 0 else rounded_product (shape_of o).lengths)

-- the first object that passes the sum
abbrev pub kept_faults : ℕ → List ObjectTree → List Refusal
kept_faults sum [] = []
kept_faults sum (o ∷ os) = if nat_lt 65536 (sum + kept_words o) then fault 21 o.at ∷ [] else kept_faults (sum + kept_words o) os
