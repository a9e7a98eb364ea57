-- Where declarations stand: C11 6.8.
use Rattle.std.specs.Prelude.{Option, Some, None}
use Rattle.c_tree.specs.Tree as tree
use Rattle.c_tree.specs.Tree.{StmtTree, ElseTree, FirstTree, StmtTrees, ItemTree, ProgramTree}
use Rattle.c_elaborate.specs.Homes.{Each}
use Rattle.c_elaborate.specs.Resolved.{DeclaresNothing}

-- A declaration stands in a block or in the head of a `for`. It is no statement, and so it is never the body of an `if`, of a loop or of a label.
abbrev mutual
  pub DeclaresInBlocks : StmtTree → Type 0
  DeclaresInBlocks (tree.block body) = AllDeclareInBlocks body
  DeclaresInBlocks (tree.declare os) = Unit {0}
  DeclaresInBlocks (tree.act actions) = Unit {0}
  DeclaresInBlocks (tree.if_ test body other at) = DeclaresNothing body × DeclaresInBlocks body × ElseDeclaresInBlocks other
  DeclaresInBlocks (tree.switch_ test body at) = AllDeclareInBlocks body
  DeclaresInBlocks (tree.case_ v body at) = DeclaresNothing body × DeclaresInBlocks body
  DeclaresInBlocks (tree.while_ test body at) = DeclaresNothing body × DeclaresInBlocks body
  DeclaresInBlocks (tree.do_ body test at) = DeclaresNothing body × DeclaresInBlocks body
  DeclaresInBlocks (tree.for_ init test step body at) = FirstDeclaresInBlocks init × DeclaresNothing body × DeclaresInBlocks body
  DeclaresInBlocks (tree.break_ at) = Unit {0}
  DeclaresInBlocks (tree.continue_ at) = Unit {0}
  DeclaresInBlocks (tree.return_ v at) = Unit {0}

  pub ElseDeclaresInBlocks : ElseTree → Type 0
  ElseDeclaresInBlocks tree.no_else = Unit {0}
  ElseDeclaresInBlocks (tree.else_ at body) = DeclaresNothing body × DeclaresInBlocks body

  pub FirstDeclaresInBlocks : FirstTree → Type 0
  FirstDeclaresInBlocks tree.no_first = Unit {0}
  FirstDeclaresInBlocks (tree.first part) = DeclaresInBlocks part

  pub AllDeclareInBlocks : StmtTrees → Type 0
  AllDeclareInBlocks tree.no_stmt = Unit {0}
  AllDeclareInBlocks (tree.more_stmts first rest) = DeclaresInBlocks first × AllDeclareInBlocks rest

abbrev pub BodyDeclaresInBlocks : Option StmtTrees → Type 0
BodyDeclaresInBlocks None = Unit {0}
BodyDeclaresInBlocks (Some body) = AllDeclareInBlocks body

abbrev pub ItemDeclaresInBlocks : ItemTree → Type 0
ItemDeclaresInBlocks (tree.objects os) = Unit {0}
ItemDeclaresInBlocks (tree.function f) = BodyDeclaresInBlocks f.body

abbrev pub ProgramDeclaresInBlocks : ProgramTree → Type 0
ProgramDeclaresInBlocks p = Each ItemDeclaresInBlocks p.items
