-- The faults of declarations, statements and functions: C11 6.2.1, 6.7, 6.8, 6.9.1.
use Rattle.std.specs.Prelude.{length, is_some, ℕ, Bool, true, false, List, [], ◌∷◌, ◌++◌, Option, Some, None, if◌then◌else◌}
use Rattle.hls_base.specs.declared.refusal.Refusal.{Refusal}
use Rattle.c_token.specs.declared.ctype.CType.{CType}
use Rattle.c_tree.specs.Tree as tree
use Rattle.c_tree.specs.Tree.{Tree, ObjectTree, StmtTree, ElseTree, FirstTree, StmtTrees, ParamTree, FunctionTree}
use Rattle.c_value.specs.Values.{promoted}
use Rattle.c_meaning.specs.Checks.Faults.{fault_if}
use Rattle.c_meaning.specs.Checks.Names.{Declared, object, is_declared_since, kind_of}
use Rattle.c_meaning.specs.Checks.Lengths.{shape_of, form_faults}
use Rattle.c_meaning.specs.Checks.Expressions.{expression_faults, actions_faults, optional_faults, lengths_faults, optional_init_faults}
use Rattle.c_meaning.specs.Checks.Labels.{Around, in_function, in_part, in_loop, in_switch, return_faults, outside_faults, has_no_value, block_labels, repeated_faults}
use Rattle.c_meaning.specs.Checks.Limits.{limit_faults, param_places, function_arrays}

-- ---- declarations

abbrev pub with_object : ObjectTree → List Declared → List Declared
with_object o names = record { name = o.name; sense = object (shape_of o) } ∷ names

abbrev pub with_objects : List ObjectTree → List Declared → List Declared
with_objects [] names = names
with_objects (o ∷ os) names = with_objects os (with_object o names)

-- An object is visible in its own initialiser, and not in its lengths (C11 6.2.1 paragraph 7). The scope is given by the number of names that are visible where it begins.
abbrev pub object_faults : List (List ℕ) → Bool → ℕ → List Declared → ObjectTree → List Refusal
object_faults bodies at_file start names o =
    fault_if (is_declared_since start o.name names) 8 o.at
    ++ (form_faults at_file o
    ++ (lengths_faults bodies names o.lengths
    ++ optional_init_faults bodies (with_object o names) o.init))

abbrev pub objects_faults : List (List ℕ) → Bool → ℕ → List Declared → List ObjectTree → List Refusal
objects_faults bodies at_file start names [] = []
objects_faults bodies at_file start names (o ∷ os) = object_faults bodies at_file start names o ++ objects_faults bodies at_file start (with_object o names) os

-- ---- statements

-- the names that are visible behind a statement
abbrev pub names_behind : List Declared → StmtTree → List Declared
names_behind names (tree.declare objects) = with_objects objects names
names_behind names (tree.case_ value body at) = names_behind names body
names_behind names _ = names

abbrev pub names_in_for : List Declared → FirstTree → List Declared
names_in_for names tree.no_first = names
names_in_for names (tree.first part) = names_behind names part

-- A block, a part of an `if` or of a loop, and a whole `for` are scopes of their own (C11 6.8.2 to 6.8.5).
abbrev mutual
  pub statement_faults : List (List ℕ) → Around → ℕ → List Declared → StmtTree → List Refusal
  statement_faults bodies around start names (tree.block body) = block_faults bodies (in_part around) (length names) names body
  statement_faults bodies around start names (tree.declare objects) = objects_faults bodies false start names objects
  statement_faults bodies around start names (tree.act actions) = actions_faults bodies names actions
  statement_faults bodies around start names (tree.if_ test body other at) =
      expression_faults true bodies names test
      ++ (statement_faults bodies (in_part around) (length names) names body ++ else_faults bodies (in_part around) (length names) names other)
  statement_faults bodies around start names (tree.switch_ test body at) =
      expression_faults true bodies names test
      ++ (repeated_faults [] (block_labels (promoted (kind_of names test)) body) ++ block_faults bodies (in_switch around) (length names) names body)
  statement_faults bodies around start names (tree.case_ value body at) =
      outside_faults around.labels at
      ++ (fault_if (has_no_value value) 17 at
      ++ (optional_faults bodies names value ++ statement_faults bodies around start names body))
  statement_faults bodies around start names (tree.while_ test body at) =
      expression_faults true bodies names test ++ statement_faults bodies (in_loop around) (length names) names body
  statement_faults bodies around start names (tree.do_ body test at) =
      statement_faults bodies (in_loop around) (length names) names body ++ expression_faults true bodies names test
  statement_faults bodies around start names (tree.for_ init test step body at) =
      first_faults bodies (in_part around) (length names) names init
      ++ (optional_faults bodies (names_in_for names init) test
      ++ (actions_faults bodies (names_in_for names init) step
      ++ statement_faults bodies (in_loop around) (length (names_in_for names init)) (names_in_for names init) body))
  statement_faults bodies around start names (tree.break_ at) = outside_faults around.breaks at
  statement_faults bodies around start names (tree.continue_ at) = outside_faults around.continues at
  statement_faults bodies around start names (tree.return_ value at) = return_faults around.result value at ++ optional_faults bodies names value

  pub else_faults : List (List ℕ) → Around → ℕ → List Declared → ElseTree → List Refusal
  else_faults bodies around start names tree.no_else = []
  else_faults bodies around start names (tree.else_ at body) = statement_faults bodies around start names body

  pub first_faults : List (List ℕ) → Around → ℕ → List Declared → FirstTree → List Refusal
  first_faults bodies around start names tree.no_first = []
  first_faults bodies around start names (tree.first part) = statement_faults bodies around start names part

  -- the labels of a switch stand directly in its block
  pub block_faults : List (List ℕ) → Around → ℕ → List Declared → StmtTrees → List Refusal
  block_faults bodies around start names tree.no_stmt = []
  block_faults bodies around start names (tree.more_stmts first rest) =
      statement_faults bodies around start names first ++ block_faults bodies around start (names_behind names first) rest

-- ---- functions

abbrev pub with_param : ParamTree → List Declared → List Declared
with_param p names = if p.named then with_object p.object names else names

abbrev pub with_params : List ParamTree → List Declared → List Declared
with_params [] names = names
with_params (p ∷ ps) names = with_params ps (with_param p names)

-- Rule 9: a parameter of a function with a body has a name, C11 6.9.1 paragraph 5.
abbrev pub param_name_faults : Bool → ℕ → List Declared → ParamTree → List Refusal
param_name_faults has_body start names p = if p.named then fault_if (is_declared_since start p.object.name names) 8 p.object.at else fault_if has_body 9 p.object.at

abbrev pub param_faults : List (List ℕ) → Bool → ℕ → List Declared → ParamTree → List Refusal
param_faults bodies has_body start names p =
    param_name_faults has_body start names p
    ++ (form_faults false p.object ++ lengths_faults bodies names p.object.lengths)

abbrev pub params_faults : List (List ℕ) → Bool → ℕ → List Declared → List ParamTree → List Refusal
params_faults bodies has_body start names [] = []
params_faults bodies has_body start names (p ∷ ps) = param_faults bodies has_body start names p ++ params_faults bodies has_body start (with_param p names) ps

abbrev pub body_faults : List (List ℕ) → Option CType → ℕ → List Declared → Option StmtTrees → List Refusal
body_faults bodies result start names None = []
body_faults bodies result start names (Some body) = block_faults bodies (in_function result) start names body

-- Rules 34 and 35: a function has at most 32 parameters and 32 arrays. The parameters and the outermost block of the body are one scope (C11 6.2.1 paragraph 4).
abbrev pub function_faults : List (List ℕ) → List Declared → FunctionTree → List Refusal
function_faults bodies names f =
    limit_faults 32 34 (param_places f.params)
    ++ (limit_faults 32 35 (function_arrays f)
    ++ (params_faults bodies (is_some f.body) (length names) names f.params
    ++ body_faults bodies f.result (length names) (with_params f.params names) f.body))
