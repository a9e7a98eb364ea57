-- Programs as the grammar has them: each number is one of its type, no assignment has `&&` or `||`, an element has subscripts, and a `for` begins with declarations, with actions or with nothing.
use Rattle.std.specs.Prelude.{pos, List, Option, Some, None}
use Rattle.c_token.specs.declared.token.TokenKind.{TokenKind}
use Rattle.c_token.specs.declared.token.TokenKind.TheVariants as k
use Rattle.c_tree.specs.Terminals.{Terminal}
use Rattle.c_tree.specs.Tree as tree
use Rattle.c_tree.specs.Tree.{Tree, TargetTree, Trees, ActionTree, InitTree, InitTrees, ObjectTree, StmtTree, ElseTree, FirstTree, StmtTrees, ItemTree, ProgramTree}
use Rattle.c_value.specs.Values.{IsOf}
use Rattle.c_meaning.specs.Statement.{action_tree}
use Rattle.c_elaborate.specs.Homes.{Each}
use Rattle.expand_runs.specs.Sound.{IsPlain}

-- ---- tokens

abbrev pub NumberFits : TokenKind → Type 0
NumberFits (k.Number value kind) = IsOf kind (pos value)
NumberFits _ = Unit {0}

-- each number among the tokens is one of its type
abbrev pub NumbersFit : List Terminal → Type 0
NumbersFit tokens = Each (λ (t : Terminal). NumberFits t.kind) tokens

-- ---- expressions

abbrev pub HasSubscript : Trees → Type 0
HasSubscript tree.none = ⊥
HasSubscript (tree.more first rest) = Unit {0}

abbrev mutual
  pub IsWritten : Tree → Type 0
  IsWritten (tree.number value kind at) = IsOf kind (pos value)
  IsWritten (tree.name text at) = Unit {0}
  IsWritten (tree.index array subscripts at) = HasSubscript subscripts × AreWritten subscripts
  IsWritten (tree.call callee args at) = AreWritten args
  IsWritten (tree.unary op arg at) = IsWritten arg
  IsWritten (tree.binary op left right at) = IsWritten left × IsWritten right
  IsWritten (tree.choice test left right at colon) = IsWritten test × IsWritten left × IsWritten right
  IsWritten (tree.cast to arg at) = IsWritten arg
  IsWritten (tree.assign (tree.target text subscripts place) op value at) = IsPlain op × AreWritten subscripts × IsWritten value
  IsWritten (tree.bump (tree.target text subscripts place) up post at) = AreWritten subscripts
  IsWritten (tree.comma left right at) = IsWritten left × IsWritten right

  pub AreWritten : Trees → Type 0
  AreWritten tree.none = Unit {0}
  AreWritten (tree.more first rest) = IsWritten first × AreWritten rest

abbrev pub OptionWritten : Option Tree → Type 0
OptionWritten None = Unit {0}
OptionWritten (Some t) = IsWritten t

abbrev pub ActionsWritten : List ActionTree → Type 0
ActionsWritten actions = Each (λ (a : ActionTree). IsWritten (action_tree a)) actions

-- ---- declarations

abbrev mutual
  pub InitWritten : InitTree → Type 0
  InitWritten (tree.single value) = IsWritten value
  InitWritten (tree.braced items at) = InitsWritten items

  pub InitsWritten : InitTrees → Type 0
  InitsWritten tree.no_init = Unit {0}
  InitsWritten (tree.more_inits first rest) = InitWritten first × InitsWritten rest

abbrev pub OptionInitWritten : Option InitTree → Type 0
OptionInitWritten None = Unit {0}
OptionInitWritten (Some init) = InitWritten init

abbrev pub ObjectsWritten : List ObjectTree → Type 0
ObjectsWritten objects = Each (λ (o : ObjectTree). OptionInitWritten o.init) objects

-- ---- statements

abbrev mutual
  pub StmtWritten : StmtTree → Type 0
  StmtWritten (tree.block body) = StmtsWritten body
  StmtWritten (tree.declare objects) = ObjectsWritten objects
  StmtWritten (tree.act actions) = ActionsWritten actions
  StmtWritten (tree.if_ test body other at) = IsWritten test × StmtWritten body × ElseWritten other
  StmtWritten (tree.switch_ test body at) = IsWritten test × StmtsWritten body
  StmtWritten (tree.case_ value body at) = StmtWritten body
  StmtWritten (tree.while_ test body at) = IsWritten test × StmtWritten body
  StmtWritten (tree.do_ body test at) = IsWritten test × StmtWritten body
  StmtWritten (tree.for_ init test step body at) = HeadWritten init × OptionWritten test × ActionsWritten step × StmtWritten body
  StmtWritten (tree.break_ at) = Unit {0}
  StmtWritten (tree.continue_ at) = Unit {0}
  StmtWritten (tree.return_ value at) = OptionWritten value

  pub ElseWritten : ElseTree → Type 0
  ElseWritten tree.no_else = Unit {0}
  ElseWritten (tree.else_ at body) = StmtWritten body

  pub HeadWritten : FirstTree → Type 0
  HeadWritten tree.no_first = Unit {0}
  HeadWritten (tree.first (tree.declare objects)) = ObjectsWritten objects
  HeadWritten (tree.first (tree.act actions)) = ActionsWritten actions
  HeadWritten (tree.first part) = ⊥

  pub StmtsWritten : StmtTrees → Type 0
  StmtsWritten tree.no_stmt = Unit {0}
  StmtsWritten (tree.more_stmts first rest) = StmtWritten first × StmtsWritten rest

-- ---- programs

abbrev pub BodyWritten : Option StmtTrees → Type 0
BodyWritten None = Unit {0}
BodyWritten (Some body) = StmtsWritten body

abbrev pub ItemWritten : ItemTree → Type 0
ItemWritten (tree.objects os) = Unit {0}
ItemWritten (tree.function f) = BodyWritten f.body

abbrev pub ProgramWritten : ProgramTree → Type 0
ProgramWritten p = Each ItemWritten p.items
