-- The row of tokens and white space that a statement, a function and a program are printed as.
use Rattle.std.specs.Prelude.{ℕ, ◌+◌, ◌-◌, nat_lt, Bool, true, false, List, [], ◌∷◌, ◌++◌, codes, Option, Some, None, if◌then◌else◌}
use Rattle.std.specs.List.{flat_map}
use Rattle.c_token.specs.declared.ctype.CType.{CType}
use Rattle.c_token.specs.declared.punct.Punct.TheVariants as p
use Rattle.c_tree.specs.declared.print.row.Written.{Written}
use Rattle.c_tree.specs.declared.print.row.Written.TheVariants as w
use Rattle.c_tree.specs.Grammar.{choice_level, assign_level, comma_level}
use Rattle.c_tree.specs.Rows.{Row, sign, word, assignment_sign, bump_sign, words_row, type_words, kind_row, comma_row, infix_row, expression_row, target_row, own_row, grouped}
use Rattle.c_tree.specs.Tree as tree
use Rattle.c_tree.specs.Tree.{Tree, ActionTree, InitTree, InitTrees, ObjectTree, StmtTree, ElseTree, FirstTree, StmtTrees, ParamTree, FunctionTree, ItemTree, ProgramTree}

-- ---- actions

-- A change stands in parentheses where it is the value of an expression, since it is no action by its own operator then. So does a comma.
abbrev pub is_plain : Tree → Bool
is_plain (tree.assign _ _ _ _) = false
is_plain (tree.bump _ _ _ _) = false
is_plain (tree.comma _ _ _) = false
is_plain _ = true

abbrev pub value_row : Tree → Row
value_row value = grouped (is_plain value) (own_row value)

abbrev pub action_row : ActionTree → Row
action_row (tree.assignment changed op value at) = target_row changed ++ (infix_row (assignment_sign op) ++ expression_row assign_level value)
action_row (tree.bumping changed up at) = target_row changed ++ sign (bump_sign up) ∷ []
action_row (tree.evaluation value) = value_row value

-- the row of each element, with a comma before it
abbrev pub each_behind : {A : Type 0} → (A → Row) → List A → Row
each_behind row [] = []
each_behind row (x ∷ xs) = comma_row ++ (row x ++ each_behind row xs)

-- with commas between
abbrev pub listed : {A : Type 0} → (A → Row) → List A → Row
listed row [] = []
listed row (x ∷ xs) = row x ++ each_behind row xs

abbrev pub actions_row : List ActionTree → Row
actions_row = listed action_row

-- ---- objects

abbrev mutual
  pub init_row : InitTree → Row
  init_row (tree.single value) = expression_row assign_level value
  init_row (tree.braced items at) = sign p.LeftBrace ∷ (inits_row items ++ sign p.RightBrace ∷ [])

  pub inits_row : InitTrees → Row
  inits_row tree.no_init = []
  inits_row (tree.more_inits first rest) = init_row first ++ inits_behind rest

  pub inits_behind : InitTrees → Row
  inits_behind tree.no_init = []
  inits_behind (tree.more_inits first rest) = comma_row ++ (init_row first ++ inits_behind rest)

abbrev pub optional_row : ℕ → Option Tree → Row
optional_row level None = []
optional_row level (Some e) = expression_row level e

abbrev pub length_row : Option Tree → Row
length_row length = sign p.LeftBracket ∷ (optional_row choice_level length ++ sign p.RightBracket ∷ [])

abbrev pub lengths_row : List (Option Tree) → Row
lengths_row = flat_map length_row

abbrev pub initialiser_row : Option InitTree → Row
initialiser_row None = []
initialiser_row (Some init) = infix_row p.Equal ++ init_row init

abbrev pub object_row : ObjectTree → Row
object_row o = word o.name ∷ (lengths_row o.lengths ++ initialiser_row o.init)

-- the objects of a declaration, which have one type
abbrev pub declaration_row : List ObjectTree → Row
declaration_row [] = []
declaration_row (o ∷ os) = kind_row o.constant o.kind ++ w.Space ∷ (listed object_row (o ∷ os) ++ sign p.Semicolon ∷ [])

-- ---- statements: a row for the statement behind the white space that begins its line

abbrev pub deepest : ℕ
deepest = 64

abbrev pub deeper : ℕ → ℕ
deeper depth = if nat_lt depth deepest then depth + 1 else depth

abbrev pub is_block : StmtTree → Bool
is_block (tree.block _) = true
is_block _ = false

abbrev pub is_label : StmtTree → Bool
is_label (tree.case_ _ _ _) = true
is_label _ = false

-- an `if` stands behind the `else` that it belongs to, as a block does
abbrev pub is_tight : StmtTree → Bool
is_tight (tree.block _) = true
is_tight (tree.if_ _ _ _ _) = true
is_tight _ = false

-- on the same line, or on a line of its own
abbrev pub gap : Bool → ℕ → Written
gap true depth = w.Space
gap false depth = w.Line depth

abbrev pub depth_in : Bool → ℕ → ℕ
depth_in true depth = depth
depth_in false depth = deeper depth

-- a label stands less deep than the statements of its block
abbrev pub line_of : ℕ → StmtTree → Written
line_of depth stmt = w.Line (if is_label stmt then depth - 1 else depth)

-- a controlling expression
abbrev pub head_row : Tree → Row
head_row test = w.Space ∷ sign p.LeftParen ∷ (expression_row comma_level test ++ sign p.RightParen ∷ [])

-- an expression behind a space, or nothing
abbrev pub spaced_optional : Option Tree → Row
spaced_optional None = []
spaced_optional (Some e) = w.Space ∷ expression_row comma_level e

abbrev pub spaced_actions : List ActionTree → Row
spaced_actions [] = []
spaced_actions (action ∷ actions) = w.Space ∷ actions_row (action ∷ actions)

abbrev pub label_row : Option Tree → Row
label_row None = word (codes "default") ∷ sign p.Colon ∷ []
label_row (Some value) = word (codes "case") ∷ w.Space ∷ (expression_row choice_level value ++ sign p.Colon ∷ [])

abbrev pub return_row : Option Tree → Row
return_row value = word (codes "return") ∷ (spaced_optional value ++ sign p.Semicolon ∷ [])

abbrev pub jump_row : List ℕ → Row
jump_row keyword = word keyword ∷ sign p.Semicolon ∷ []

abbrev mutual
  pub stmt_row : StmtTree → ℕ → Row
  stmt_row (tree.block body) depth = sign p.LeftBrace ∷ (body_row body (deeper depth) ++ w.Line depth ∷ sign p.RightBrace ∷ [])
  stmt_row (tree.declare objects) depth = declaration_row objects
  stmt_row (tree.act actions) depth = actions_row actions ++ sign p.Semicolon ∷ []
  stmt_row (tree.if_ test body other at) depth =
      word (codes "if") ∷ (head_row test ++ gap (is_block body) (deeper depth) ∷ (stmt_row body (depth_in (is_block body) depth) ++ else_row other depth (is_block body)))
  stmt_row (tree.switch_ test body at) depth =
      word (codes "switch") ∷ (head_row test ++ w.Space ∷ sign p.LeftBrace ∷ (body_row body (deeper depth) ++ w.Line depth ∷ sign p.RightBrace ∷ []))
  stmt_row (tree.case_ value body at) depth = label_row value ++ line_of depth body ∷ stmt_row body depth
  stmt_row (tree.while_ test body at) depth =
      word (codes "while") ∷ (head_row test ++ gap (is_block body) (deeper depth) ∷ stmt_row body (depth_in (is_block body) depth))
  stmt_row (tree.do_ body test at) depth =
      word (codes "do") ∷ gap (is_block body) (deeper depth)
      ∷ (stmt_row body (depth_in (is_block body) depth) ++ gap (is_block body) depth ∷ word (codes "while") ∷ (head_row test ++ sign p.Semicolon ∷ []))
  stmt_row (tree.for_ init test step body at) depth =
      word (codes "for") ∷ w.Space ∷ sign p.LeftParen
      ∷ (first_row init ++ (spaced_optional test ++ sign p.Semicolon ∷ (spaced_actions step ++ sign p.RightParen ∷ gap (is_block body) (deeper depth)
      ∷ stmt_row body (depth_in (is_block body) depth))))
  stmt_row (tree.break_ at) depth = jump_row (codes "break")
  stmt_row (tree.continue_ at) depth = jump_row (codes "continue")
  stmt_row (tree.return_ value at) depth = return_row value

  -- on the line of the statement before, or on a line of its own
  pub else_row : ElseTree → ℕ → Bool → Row
  else_row tree.no_else depth behind = []
  else_row (tree.else_ at body) depth behind =
      gap behind depth ∷ word (codes "else") ∷ gap (is_tight body) (deeper depth) ∷ stmt_row body (depth_in (is_tight body) depth)

  -- the first part of a `for`, with its semicolon
  pub first_row : FirstTree → Row
  first_row tree.no_first = sign p.Semicolon ∷ []
  first_row (tree.first part) = stmt_row part 0

  -- the statements of a block, each on its own line
  pub body_row : StmtTrees → ℕ → Row
  body_row tree.no_stmt depth = []
  body_row (tree.more_stmts first rest) depth = line_of depth first ∷ (stmt_row first depth ++ body_row rest depth)

abbrev pub block_row : StmtTrees → ℕ → Row
block_row body depth = sign p.LeftBrace ∷ (body_row body (deeper depth) ++ w.Line depth ∷ sign p.RightBrace ∷ [])

-- the body of a statement
abbrev pub under_row : StmtTree → ℕ → Row
under_row body depth = gap (is_block body) (deeper depth) ∷ stmt_row body (depth_in (is_block body) depth)

-- `else` and its statement
abbrev pub branch_row : ElseTree → ℕ → Row
branch_row tree.no_else depth = []
branch_row (tree.else_ at body) depth = word (codes "else") ∷ gap (is_tight body) (deeper depth) ∷ stmt_row body (depth_in (is_tight body) depth)

-- ---- functions and programs

abbrev pub param_name_row : Bool → List ℕ → Row
param_name_row true text = w.Space ∷ word text ∷ []
param_name_row false text = []

abbrev pub param_row : ParamTree → Row
param_row param =
    kind_row param.object.constant param.object.kind ++ (param_name_row param.named param.object.name ++ lengths_row param.object.lengths)

-- no parameter is `void`
abbrev pub params_row : List ParamTree → Row
params_row [] = word (codes "void") ∷ []
params_row (param ∷ params) = listed param_row (param ∷ params)

abbrev pub result_row : Option CType → Row
result_row None = word (codes "void") ∷ []
result_row (Some kind) = words_row (type_words kind)

abbrev pub definition_row : Option StmtTrees → Row
definition_row None = sign p.Semicolon ∷ []
definition_row (Some body) = w.Space ∷ block_row body 0

abbrev pub function_row : FunctionTree → Row
function_row f =
    result_row f.result
    ++ w.Space ∷ word f.name ∷ sign p.LeftParen ∷ (params_row f.params ++ sign p.RightParen ∷ definition_row f.body)

abbrev pub item_row : ItemTree → Row
item_row (tree.function f) = function_row f
item_row (tree.objects os) = declaration_row os

-- each item ends its line
abbrev pub program_row : ProgramTree → Row
program_row program = flat_map (λ item. item_row item ++ w.Line 0 ∷ []) program.items
