-- Something of each expression of a statement, and of each object that it declares.
use Rattle.std.specs.Prelude.{ℕ, List, [], ◌∷◌, Option, Some, None}
use Rattle.pieces.specs.Resolved.Core as core
use Rattle.pieces.specs.Resolved.Core.{CoreTree, CoreInitTree, CoreActionTree, CoreStmtTree, CoreStmtTrees, CoreElseTree}
use Rattle.c_meaning.specs.CoreRuns.Statements.{action_tree}

module _ (P : CoreTree → Type 0) (D : ℕ → Type 0) where
  abbrev pub IfThere : Option CoreTree → Type 0
  IfThere None = Unit {0}
  IfThere (Some e) = P e

  abbrev pub EachItem : List (Option CoreTree) → Type 0
  EachItem [] = Unit {0}
  EachItem (item ∷ items) = IfThere item × EachItem items

  abbrev pub InInit : CoreInitTree → Type 0
  InInit core.unwritten = Unit {0}
  InInit (core.single v) = P v
  InInit (core.elements items) = EachItem items

  abbrev pub EachAction : List CoreActionTree → Type 0
  EachAction [] = Unit {0}
  EachAction (a ∷ rest) = P (action_tree a) × EachAction rest

  abbrev mutual
    pub InStmt : CoreStmtTree → Type 0
    InStmt (core.block objects body) = InStmts body
    InStmt (core.declare object init) = D object × InInit init
    InStmt (core.act actions) = EachAction actions
    InStmt (core.if_ test body other at) = P test × InStmt body × InElse other
    InStmt (core.switch_ test objects body at) = P test × InStmts body
    InStmt (core.case_ value body at) = InStmt body
    InStmt (core.while_ test body at) = P test × InStmt body
    InStmt (core.do_ body test at) = P test × InStmt body
    InStmt (core.for_ objects init test step body at) = InStmts init × IfThere test × EachAction step × InStmt body
    InStmt core.break_ = Unit {0}
    InStmt core.continue_ = Unit {0}
    InStmt (core.return_ value) = IfThere value

    pub InElse : CoreElseTree → Type 0
    InElse core.no_else = Unit {0}
    InElse (core.else_ at body) = InStmt body

    pub InStmts : CoreStmtTrees → Type 0
    InStmts core.no_stmt = Unit {0}
    InStmts (core.more_stmts first rest) = InStmt first × InStmts rest

-- V holds where a value is returned.
module _ (V : Type 0) where
  abbrev pub IfReturned : Option CoreTree → Type 0
  IfReturned None = Unit {0}
  IfReturned (Some e) = V

  abbrev mutual
    pub ReturnsIn : CoreStmtTree → Type 0
    ReturnsIn (core.block objects body) = AllReturnIn body
    ReturnsIn (core.declare object init) = Unit {0}
    ReturnsIn (core.act actions) = Unit {0}
    ReturnsIn (core.if_ test body other at) = ReturnsIn body × ElseReturnsIn other
    ReturnsIn (core.switch_ test objects body at) = AllReturnIn body
    ReturnsIn (core.case_ value body at) = ReturnsIn body
    ReturnsIn (core.while_ test body at) = ReturnsIn body
    ReturnsIn (core.do_ body test at) = ReturnsIn body
    ReturnsIn (core.for_ objects init test step body at) = AllReturnIn init × ReturnsIn body
    ReturnsIn core.break_ = Unit {0}
    ReturnsIn core.continue_ = Unit {0}
    ReturnsIn (core.return_ value) = IfReturned value

    pub ElseReturnsIn : CoreElseTree → Type 0
    ElseReturnsIn core.no_else = Unit {0}
    ElseReturnsIn (core.else_ at body) = ReturnsIn body

    pub AllReturnIn : CoreStmtTrees → Type 0
    AllReturnIn core.no_stmt = Unit {0}
    AllReturnIn (core.more_stmts first rest) = ReturnsIn first × AllReturnIn rest
