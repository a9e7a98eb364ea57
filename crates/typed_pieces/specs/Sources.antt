-- Programs all whose types are types of C.
use Rattle.std.specs.Prelude.{List, [], ◌∷◌, Option, Some, None}
use Rattle.c_token.specs.declared.ctype.CType.{CType}
use Rattle.c_token.specs.declared.token.TokenKind.{TokenKind}
use Rattle.c_token.specs.declared.token.TokenKind.TheVariants as k
use Rattle.c_tree.specs.Terminals.{Terminal}
use Rattle.c_tree.specs.Tree as tree
use Rattle.c_tree.specs.Tree.{Tree, TargetTree, Trees, ActionTree, InitTree, InitTrees, ObjectTree, StmtTree, ElseTree, FirstTree, StmtTrees, ParamTree, FunctionTree, ItemTree, ProgramTree}
use Rattle.pass_runs.specs.LowerRuns.OperatorWords.Words.{IsType}

-- constants and casts
abbrev mutual
  pub TreeHasTypes : Tree → Type 0
  TreeHasTypes (tree.number value kind at) = IsType kind
  TreeHasTypes (tree.name text at) = Unit {0}
  TreeHasTypes (tree.index array subscripts at) = TreesHaveTypes subscripts
  TreeHasTypes (tree.call callee args at) = TreesHaveTypes args
  TreeHasTypes (tree.unary op arg at) = TreeHasTypes arg
  TreeHasTypes (tree.binary op left right at) = TreeHasTypes left × TreeHasTypes right
  TreeHasTypes (tree.choice test left right at colon) = TreeHasTypes test × TreeHasTypes left × TreeHasTypes right
  TreeHasTypes (tree.cast to arg at) = IsType to × TreeHasTypes arg
  TreeHasTypes (tree.assign place op value at) = TargetTreeHasTypes place × TreeHasTypes value
  TreeHasTypes (tree.bump place up post at) = TargetTreeHasTypes place
  TreeHasTypes (tree.comma left right at) = TreeHasTypes left × TreeHasTypes right

  pub TargetTreeHasTypes : TargetTree → Type 0
  TargetTreeHasTypes (tree.target text subscripts at) = TreesHaveTypes subscripts

  pub TreesHaveTypes : Trees → Type 0
  TreesHaveTypes tree.none = Unit {0}
  TreesHaveTypes (tree.more first rest) = TreeHasTypes first × TreesHaveTypes rest

abbrev pub IfTreeHasTypes : Option Tree → Type 0
IfTreeHasTypes None = Unit {0}
IfTreeHasTypes (Some t) = TreeHasTypes t

abbrev pub ActionHasTypes : ActionTree → Type 0
ActionHasTypes (tree.assignment place op value at) = TargetTreeHasTypes place × TreeHasTypes value
ActionHasTypes (tree.bumping place up at) = TargetTreeHasTypes place
ActionHasTypes (tree.evaluation value) = TreeHasTypes value

abbrev pub ActionsHaveTypes : List ActionTree → Type 0
ActionsHaveTypes [] = Unit {0}
ActionsHaveTypes (a ∷ rest) = ActionHasTypes a × ActionsHaveTypes rest

-- ---- objects

abbrev mutual
  pub InitHasTypes : InitTree → Type 0
  InitHasTypes (tree.single value) = TreeHasTypes value
  InitHasTypes (tree.braced items at) = InitsHaveTypes items

  pub InitsHaveTypes : InitTrees → Type 0
  InitsHaveTypes tree.no_init = Unit {0}
  InitsHaveTypes (tree.more_inits first rest) = InitHasTypes first × InitsHaveTypes rest

abbrev pub IfInitHasTypes : Option InitTree → Type 0
IfInitHasTypes None = Unit {0}
IfInitHasTypes (Some init) = InitHasTypes init

abbrev pub ObjectsHaveTypes : List ObjectTree → Type 0
ObjectsHaveTypes [] = Unit {0}
ObjectsHaveTypes (o ∷ os) = (IsType o.kind × IfInitHasTypes o.init) × ObjectsHaveTypes os

-- ---- statements

abbrev mutual
  pub StmtHasTypes : StmtTree → Type 0
  StmtHasTypes (tree.block body) = StmtsHaveTypes body
  StmtHasTypes (tree.declare objects) = ObjectsHaveTypes objects
  StmtHasTypes (tree.act actions) = ActionsHaveTypes actions
  StmtHasTypes (tree.if_ test body other at) = TreeHasTypes test × StmtHasTypes body × ElseHasTypes other
  StmtHasTypes (tree.switch_ test body at) = TreeHasTypes test × StmtsHaveTypes body
  StmtHasTypes (tree.case_ value body at) = StmtHasTypes body
  StmtHasTypes (tree.while_ test body at) = TreeHasTypes test × StmtHasTypes body
  StmtHasTypes (tree.do_ body test at) = StmtHasTypes body × TreeHasTypes test
  StmtHasTypes (tree.for_ init test step body at) = FirstHasTypes init × IfTreeHasTypes test × ActionsHaveTypes step × StmtHasTypes body
  StmtHasTypes (tree.break_ at) = Unit {0}
  StmtHasTypes (tree.continue_ at) = Unit {0}
  StmtHasTypes (tree.return_ value at) = IfTreeHasTypes value

  pub ElseHasTypes : ElseTree → Type 0
  ElseHasTypes tree.no_else = Unit {0}
  ElseHasTypes (tree.else_ at body) = StmtHasTypes body

  pub FirstHasTypes : FirstTree → Type 0
  FirstHasTypes tree.no_first = Unit {0}
  FirstHasTypes (tree.first part) = StmtHasTypes part

  pub StmtsHaveTypes : StmtTrees → Type 0
  StmtsHaveTypes tree.no_stmt = Unit {0}
  StmtsHaveTypes (tree.more_stmts first rest) = StmtHasTypes first × StmtsHaveTypes rest

-- ---- programs

abbrev pub IfType : Option CType → Type 0
IfType None = Unit {0}
IfType (Some kind) = IsType kind

abbrev pub IfBodyHasTypes : Option StmtTrees → Type 0
IfBodyHasTypes None = Unit {0}
IfBodyHasTypes (Some body) = StmtsHaveTypes body

abbrev pub ParamsHaveTypes : List ParamTree → Type 0
ParamsHaveTypes [] = Unit {0}
ParamsHaveTypes (p ∷ params) = IsType p.object.kind × ParamsHaveTypes params

abbrev pub ItemHasTypes : ItemTree → Type 0
ItemHasTypes (tree.objects os) = ObjectsHaveTypes os
ItemHasTypes (tree.function f) = IfType f.result × ParamsHaveTypes f.params × IfBodyHasTypes f.body

abbrev pub ItemsHaveTypes : List ItemTree → Type 0
ItemsHaveTypes [] = Unit {0}
ItemsHaveTypes (item ∷ items) = ItemHasTypes item × ItemsHaveTypes items

abbrev pub SourceHasTypes : ProgramTree → Type 0
SourceHasTypes p = ItemsHaveTypes p.items

-- ---- tokens

abbrev pub TokenHasType : TokenKind → Type 0
TokenHasType (k.Number value kind) = IsType kind
TokenHasType (k.TypeWord kind) = IsType kind
TokenHasType (k.Word text) = Unit {0}
TokenHasType (k.Punct punct) = Unit {0}

abbrev pub TokensHaveTypes : List Terminal → Type 0
TokensHaveTypes [] = Unit {0}
TokensHaveTypes (t ∷ ts) = TokenHasType t.kind × TokensHaveTypes ts
