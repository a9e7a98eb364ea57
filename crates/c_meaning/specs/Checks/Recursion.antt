-- Functions that come back to themselves by calls.
use Rattle.std.specs.Prelude.{ℕ, zero, suc, ◌+◌, nat_le, nat_lt, ◌==◌, ◌&&◌, ◌||◌, Bool, true, false, List, [], ◌∷◌, ◌++◌, length, bytes_eq, Option, Some, None, is_some, if◌then◌else◌}
use Rattle.std.specs.List.{list_any}
use Rattle.hls_base.specs.declared.place.Place.{Place}
use Rattle.hls_base.specs.declared.refusal.Refusal.{Refusal}
use Rattle.c_tree.specs.Tree as tree
use Rattle.c_tree.specs.Tree.{Tree, Trees, TargetTree, ActionTree, InitTree, InitTrees, ObjectTree, StmtTree, ElseTree, FirstTree, StmtTrees, ParamTree, FunctionTree, ItemTree}
use Rattle.c_meaning.specs.Checks.Faults.{fault_if}
use Rattle.c_meaning.specs.Checks.Names.{Sense, object, Declared, sense_of}
use Rattle.c_meaning.specs.Checks.Calls.{with_function}
use Rattle.c_meaning.specs.Checks.Statements.{with_object, with_objects, names_behind, names_in_for, with_param, with_params}

-- ---- the calls in an item, where these names are visible

-- a call: which function is called, and where
pub record Called : Type 0 where
  pub name : List ℕ
  pub at : Place

-- A name that stands for an object calls no function.
abbrev pub function_called : Option Sense → List ℕ → Place → List Called
function_called (Some (object shape)) name at = []
function_called _ name at = record { name = name; at = at } ∷ []

abbrev mutual
  pub calls : List Declared → Tree → List Called
  calls names (tree.number value kind at) = []
  calls names (tree.name text at) = []
  calls names (tree.index array subscripts at) = all_calls names subscripts
  calls names (tree.call callee args at) = function_called (sense_of callee names) callee at ++ all_calls names args
  calls names (tree.unary op arg at) = calls names arg
  calls names (tree.binary op left right at) = calls names left ++ calls names right
  calls names (tree.choice test left right at colon) = calls names test ++ (calls names left ++ calls names right)
  calls names (tree.cast to arg at) = calls names arg
  calls names (tree.assign changed op value at) = target_calls names changed ++ calls names value
  calls names (tree.bump changed up post at) = target_calls names changed
  calls names (tree.comma left right at) = calls names left ++ calls names right

  pub target_calls : List Declared → TargetTree → List Called
  target_calls names (tree.target text subscripts at) = all_calls names subscripts

  pub all_calls : List Declared → Trees → List Called
  all_calls names tree.none = []
  all_calls names (tree.more first rest) = calls names first ++ all_calls names rest

abbrev pub optional_calls : List Declared → Option Tree → List Called
optional_calls names None = []
optional_calls names (Some t) = calls names t

abbrev pub action_calls : List Declared → ActionTree → List Called
action_calls names (tree.assignment changed op value at) = target_calls names changed ++ calls names value
action_calls names (tree.bumping changed up at) = target_calls names changed
action_calls names (tree.evaluation value) = calls names value

abbrev pub actions_calls : List Declared → List ActionTree → List Called
actions_calls names [] = []
actions_calls names (action ∷ actions) = action_calls names action ++ actions_calls names actions

abbrev mutual
  pub init_calls : List Declared → InitTree → List Called
  init_calls names (tree.single value) = calls names value
  init_calls names (tree.braced items at) = inits_calls names items

  pub inits_calls : List Declared → InitTrees → List Called
  inits_calls names tree.no_init = []
  inits_calls names (tree.more_inits first rest) = init_calls names first ++ inits_calls names rest

abbrev pub optional_init_calls : List Declared → Option InitTree → List Called
optional_init_calls names None = []
optional_init_calls names (Some init) = init_calls names init

abbrev pub lengths_calls : List Declared → List (Option Tree) → List Called
lengths_calls names [] = []
lengths_calls names (length ∷ lengths) = optional_calls names length ++ lengths_calls names lengths

-- An object is visible in its own initialiser, and not in its lengths.
abbrev pub object_calls : List Declared → ObjectTree → List Called
object_calls names o = lengths_calls names o.lengths ++ optional_init_calls (with_object o names) o.init

abbrev pub objects_calls : List Declared → List ObjectTree → List Called
objects_calls names [] = []
objects_calls names (o ∷ os) = object_calls names o ++ objects_calls (with_object o names) os

abbrev mutual
  pub statement_calls : List Declared → StmtTree → List Called
  statement_calls names (tree.block body) = statements_calls names body
  statement_calls names (tree.declare objects) = objects_calls names objects
  statement_calls names (tree.act actions) = actions_calls names actions
  statement_calls names (tree.if_ test body other at) = calls names test ++ (statement_calls names body ++ else_calls names other)
  statement_calls names (tree.switch_ test body at) = calls names test ++ statements_calls names body
  statement_calls names (tree.case_ value body at) = optional_calls names value ++ statement_calls names body
  statement_calls names (tree.while_ test body at) = calls names test ++ statement_calls names body
  statement_calls names (tree.do_ body test at) = statement_calls names body ++ calls names test
  statement_calls names (tree.for_ init test step body at) =
      first_calls names init
      ++ (optional_calls (names_in_for names init) test
      ++ (actions_calls (names_in_for names init) step ++ statement_calls (names_in_for names init) body))
  statement_calls names (tree.break_ at) = []
  statement_calls names (tree.continue_ at) = []
  statement_calls names (tree.return_ value at) = optional_calls names value

  pub else_calls : List Declared → ElseTree → List Called
  else_calls names tree.no_else = []
  else_calls names (tree.else_ at body) = statement_calls names body

  pub first_calls : List Declared → FirstTree → List Called
  first_calls names tree.no_first = []
  first_calls names (tree.first part) = statement_calls names part

  pub statements_calls : List Declared → StmtTrees → List Called
  statements_calls names tree.no_stmt = []
  statements_calls names (tree.more_stmts first rest) = statement_calls names first ++ statements_calls (names_behind names first) rest

abbrev pub params_calls : List Declared → List ParamTree → List Called
params_calls names [] = []
params_calls names (p ∷ ps) = lengths_calls names p.object.lengths ++ params_calls (with_param p names) ps

abbrev pub body_calls : List Declared → Option StmtTrees → List Called
body_calls names None = []
body_calls names (Some body) = statements_calls names body

abbrev pub function_calls : List Declared → FunctionTree → List Called
function_calls names f = params_calls names f.params ++ body_calls (with_params f.params names) f.body

-- ---- who calls whom

-- an item that is a function, whether it has its body, and the calls in it
pub record Caller : Type 0 where
  pub name : List ℕ
  pub has_body : Bool
  pub calls : List Called

abbrev pub caller_of : List Declared → FunctionTree → Caller
caller_of names f = record { name = f.name; has_body = is_some f.body; calls = function_calls names f }

-- A function is visible from its name on.
abbrev pub callers : List Declared → List ItemTree → List Caller
callers names [] = []
callers names (tree.objects os ∷ items) = callers (with_objects os names) items
callers names (tree.function f ∷ items) = caller_of (with_function f names) f ∷ callers (with_function f names) items

-- A function has the number of the first item with its name. One without an item has the number behind them.
abbrev pub number_of : List Caller → List ℕ → ℕ
number_of [] name = 0
number_of (c ∷ cs) name = if bytes_eq name c.name then 0 else number_of cs name + 1

-- the number of the item with its body, if it has one
abbrev pub body_of : List Caller → List ℕ → ℕ
body_of [] name = 0
body_of (c ∷ cs) name = if c.has_body && bytes_eq name c.name then 0 else body_of cs name + 1

-- who calls whom, by their numbers
abbrev pub call_links : List Caller → ℕ → List Called → List (ℕ × ℕ)
call_links all from [] = []
call_links all from (c ∷ cs) = (from, number_of all c.name) ∷ call_links all from cs

abbrev pub links : List Caller → List Caller → List (ℕ × ℕ)
links all [] = []
links all (c ∷ cs) = call_links all (number_of all c.name) c.calls ++ links all cs

-- whether a function comes to another, or to itself, by at most so many of these calls
abbrev pub reaches : List (ℕ × ℕ) → ℕ → ℕ → ℕ → Bool
reaches calls zero f g = f == g
reaches calls (suc n) f g = (f == g) || list_any (λ c. (c.0 == f) && reaches calls n c.1 g) calls

-- whether both functions have bodies, and that of f stands at or before that of g
abbrev pub stands_first : List Caller → List ℕ → List ℕ → Bool
stands_first all f g = nat_le (body_of all f) (body_of all g) && nat_lt (body_of all g) (length all)

-- Rule 18: no function comes back to itself by calls. Of the calls that lead round, those are at fault where the body of the called function stands at or before that of the calling one, here of function g.
abbrev pub round_faults : List Caller → List ℕ → List Called → List Refusal
round_faults all g [] = []
round_faults all g (c ∷ cs) =
    fault_if (stands_first all c.name g && reaches (links all all) (length all) (number_of all c.name) (number_of all g)) 18 c.at ++ round_faults all g cs

-- of these items
abbrev pub recursion_faults : List Caller → List Caller → List Refusal
recursion_faults all [] = []
recursion_faults all (c ∷ cs) = round_faults all c.name c.calls ++ recursion_faults all cs
