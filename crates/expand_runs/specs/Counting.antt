-- Pieces that are counted as they are made, and statements in which no label of a switch round them stands.
use Rattle.std.specs.Prelude.{◌≡◌, ℕ, ◌+◌, List, [], length, slice_get, Some}
use Rattle.hls_base.specs.declared.place.Place.{Place}
use Rattle.pieces.specs.Resolved.Core as core
use Rattle.pieces.specs.Resolved.Core.{CoreStmtTree, CoreStmtTrees, CoreElseTree, CoreFunctionTree}
use Rattle.piece_making.specs.Making.{State, Part}
use Rattle.piece_making.specs.Calls.{Call}
use Rattle.c_expand.specs.Expressions.{Given, Callee}
use Rattle.c_expand.specs.Expansion.{calls}

-- Each piece is counted, and no label is made.
pub record IsCounted {A : Type 0} (s : State) (part : Part A) : Type 0 where
  pub made : part.state.made ≡ s.made + length part.pieces
  pub labels : part.labels ≡ []

abbrev pub CalleesCount : Callee → Call → Type 0
CalleesCount g c = (callee : ℕ) (given : List Given) (at : Place) (s : State) → IsCounted s (g callee given c at s)

abbrev mutual
  -- no label stands outside the switches of the statement
  pub IsUnlabelled : CoreStmtTree → Type 0
  IsUnlabelled (core.block objects body) = AreUnlabelled body
  IsUnlabelled (core.declare object init) = Unit {0}
  IsUnlabelled (core.act actions) = Unit {0}
  IsUnlabelled (core.if_ test body other at) = IsUnlabelled body × ElseUnlabelled other
  IsUnlabelled (core.switch_ test objects body at) = Unit {0}
  IsUnlabelled (core.case_ value body at) = ⊥
  IsUnlabelled (core.while_ test body at) = IsUnlabelled body
  IsUnlabelled (core.do_ body test at) = IsUnlabelled body
  IsUnlabelled (core.for_ objects init test step body at) = AreUnlabelled init × IsUnlabelled body
  IsUnlabelled core.break_ = Unit {0}
  IsUnlabelled core.continue_ = Unit {0}
  IsUnlabelled (core.return_ value) = Unit {0}

  pub ElseUnlabelled : CoreElseTree → Type 0
  ElseUnlabelled core.no_else = Unit {0}
  ElseUnlabelled (core.else_ at body) = IsUnlabelled body

  pub AreUnlabelled : CoreStmtTrees → Type 0
  AreUnlabelled core.no_stmt = Unit {0}
  AreUnlabelled (core.more_stmts first rest) = IsUnlabelled first × AreUnlabelled rest

abbrev pub EachUnlabelled : List CoreFunctionTree → Type 0
EachUnlabelled functions = (i : ℕ) (fn : CoreFunctionTree) → slice_get functions i ≡ Some fn → AreUnlabelled fn.body

abbrev pub CallsAreCounted : Type 0
CallsAreCounted = (functions : List CoreFunctionTree) → EachUnlabelled functions → (n : ℕ) (c : Call) → CalleesCount (calls functions n) c
