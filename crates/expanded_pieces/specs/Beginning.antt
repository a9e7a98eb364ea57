-- Programs whose loops begin as the grammar has it: the head of a `for` declares objects, or has actions, or nothing.
use Rattle.std.specs.Prelude.{List, [], ◌∷◌, Option, Some, None}
use Rattle.c_tree.specs.Tree as tree
use Rattle.c_tree.specs.Tree.{StmtTree, ElseTree, FirstTree, StmtTrees, ItemTree, ProgramTree}

abbrev pub IsHead : StmtTree → Type 0
IsHead (tree.declare objects) = Unit {0}
IsHead (tree.act actions) = Unit {0}
IsHead stmt = ⊥

abbrev pub HasHead : FirstTree → Type 0
HasHead tree.no_first = Unit {0}
HasHead (tree.first part) = IsHead part

abbrev mutual
  pub LoopsBegin : StmtTree → Type 0
  LoopsBegin (tree.block body) = AllLoopsBegin body
  LoopsBegin (tree.declare objects) = Unit {0}
  LoopsBegin (tree.act actions) = Unit {0}
  LoopsBegin (tree.if_ test body other at) = LoopsBegin body × ElseLoopsBegin other
  LoopsBegin (tree.switch_ test body at) = AllLoopsBegin body
  LoopsBegin (tree.case_ value body at) = LoopsBegin body
  LoopsBegin (tree.while_ test body at) = LoopsBegin body
  LoopsBegin (tree.do_ body test at) = LoopsBegin body
  LoopsBegin (tree.for_ init test step body at) = HasHead init × LoopsBegin body
  LoopsBegin (tree.break_ at) = Unit {0}
  LoopsBegin (tree.continue_ at) = Unit {0}
  LoopsBegin (tree.return_ value at) = Unit {0}

  pub ElseLoopsBegin : ElseTree → Type 0
  ElseLoopsBegin tree.no_else = Unit {0}
  ElseLoopsBegin (tree.else_ at body) = LoopsBegin body

  pub AllLoopsBegin : StmtTrees → Type 0
  AllLoopsBegin tree.no_stmt = Unit {0}
  AllLoopsBegin (tree.more_stmts first rest) = LoopsBegin first × AllLoopsBegin rest

abbrev pub BodyLoopsBegin : Option StmtTrees → Type 0
BodyLoopsBegin None = Unit {0}
BodyLoopsBegin (Some body) = AllLoopsBegin body

abbrev pub ItemsLoopsBegin : List ItemTree → Type 0
ItemsLoopsBegin [] = Unit {0}
ItemsLoopsBegin (tree.objects os ∷ items) = ItemsLoopsBegin items
ItemsLoopsBegin (tree.function f ∷ items) = BodyLoopsBegin f.body × ItemsLoopsBegin items

abbrev pub ProgramLoopsBegin : ProgramTree → Type 0
ProgramLoopsBegin p = ItemsLoopsBegin p.items
