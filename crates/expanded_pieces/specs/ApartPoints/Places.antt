-- The places from which the points of a function are made, in the order of the source: those of operators between operands, of calls, and of statements.
use Rattle.std.specs.Prelude.{◌≡◌, ℕ, List, [], ◌∷◌, ◌++◌, Option, Some, None, slice_get, map}
use Rattle.hls_base.specs.declared.place.Place.{Place}
use Rattle.c_tree.specs.Terminals.{Terminal}
use Rattle.pieces.specs.Resolved.Core as core
use Rattle.pieces.specs.Resolved.Core.{CoreTree, CoreTargetTree, CoreTrees, ArgumentTree, ArgumentTrees, CoreInitTree, CoreActionTree, CoreStmtTree, CoreElseTree, CoreStmtTrees, CoreFunctionTree, CoreProgramTree}
use Rattle.expanded_pieces.specs.ApartPoints.Apart.{AreApart}

-- ---- expressions

abbrev mutual
  pub places : CoreTree → List Place
  places (core.number value kind) = []
  places (core.scalar cell kind at) = []
  places (core.element name subscripts kind at) = all_places subscripts
  places (core.call callee args kind at) = at ∷ argument_places args
  places (core.unary op arg kind at) = places arg
  places (core.binary op left right kind at) = places left ++ at ∷ places right
  places (core.choice test left right kind at colon) = places test ++ at ∷ (places left ++ colon ∷ places right)
  places (core.cast to arg) = places arg
  places (core.assign changed op value at) = target_places changed ++ places value
  places (core.bump changed up post at) = target_places changed
  places (core.comma left right) = places left ++ places right

  pub target_places : CoreTargetTree → List Place
  target_places (core.target cell subscripts kind at) = all_places subscripts

  pub all_places : CoreTrees → List Place
  all_places core.none = []
  all_places (core.more first rest) = places first ++ all_places rest

  pub given_places : ArgumentTree → List Place
  given_places (core.given value) = places value
  given_places (core.array cell) = []

  pub argument_places : ArgumentTrees → List Place
  argument_places core.no_argument = []
  argument_places (core.more_arguments first rest) = given_places first ++ argument_places rest

abbrev pub optional_places : Option CoreTree → List Place
optional_places None = []
optional_places (Some e) = places e

-- ---- statements

abbrev pub item_places : List (Option CoreTree) → List Place
item_places [] = []
item_places (item ∷ items) = optional_places item ++ item_places items

abbrev pub init_places : CoreInitTree → List Place
init_places core.unwritten = []
init_places (core.single value) = places value
init_places (core.elements items) = item_places items

abbrev pub action_places : CoreActionTree → List Place
action_places (core.change e) = places e
action_places (core.value e) = places e

abbrev pub actions_places : List CoreActionTree → List Place
actions_places [] = []
actions_places (first ∷ rest) = action_places first ++ actions_places rest

abbrev mutual
  pub stmt_places : CoreStmtTree → List Place
  stmt_places (core.block objects body) = body_places body
  stmt_places (core.declare object init) = init_places init
  stmt_places (core.act actions) = actions_places actions
  stmt_places (core.if_ test body other at) = at ∷ (places test ++ (stmt_places body ++ else_places other))
  stmt_places (core.switch_ test objects body at) = at ∷ (places test ++ body_places body)
  stmt_places (core.case_ value body at) = at ∷ stmt_places body
  stmt_places (core.while_ test body at) = at ∷ (places test ++ stmt_places body)
  stmt_places (core.do_ body test at) = at ∷ (stmt_places body ++ places test)
  stmt_places (core.for_ objects init test step body at) = at ∷ (body_places init ++ (optional_places test ++ (actions_places step ++ stmt_places body)))
  stmt_places core.break_ = []
  stmt_places core.continue_ = []
  stmt_places (core.return_ value) = optional_places value

  pub else_places : CoreElseTree → List Place
  else_places core.no_else = []
  else_places (core.else_ at body) = at ∷ stmt_places body

  pub body_places : CoreStmtTrees → List Place
  body_places core.no_stmt = []
  body_places (core.more_stmts first rest) = stmt_places first ++ body_places rest

-- ---- functions

abbrev pub function_places : CoreFunctionTree → List Place
function_places fn = fn.at ∷ body_places fn.body

-- in no function two of these places are the same
abbrev pub PlacesDiffer : CoreProgramTree → Type 0
PlacesDiffer p = (i : ℕ) (fn : CoreFunctionTree) → slice_get p.functions i ≡ Some fn → AreApart (function_places fn)

-- ---- tokens

abbrev pub places_of : List Terminal → List Place
places_of tokens = map (λ t. t.at) tokens
