-- The declarations in a function, and programs in which each object is declared.
use Rattle.std.specs.Prelude.{◌≡◌, ℕ, ◌+◌, ◌≤◌, length, slice_get, Some}
use Rattle.pieces.specs.Resolved.Core as core
use Rattle.pieces.specs.Resolved.Core.{CoreStmtTree, CoreElseTree, CoreStmtTrees, CoreFunctionTree, CoreProgramTree}

abbrev mutual
  -- how many declarations stand in a statement
  pub declarations_in : CoreStmtTree → ℕ
  declarations_in (core.block objects body) = declarations body
  declarations_in (core.declare object init) = 1
  declarations_in (core.act actions) = 0
  declarations_in (core.if_ test body other at) = declarations_in body + else_declarations other
  declarations_in (core.switch_ test objects body at) = declarations body
  declarations_in (core.case_ value body at) = declarations_in body
  declarations_in (core.while_ test body at) = declarations_in body
  declarations_in (core.do_ body test at) = declarations_in body
  declarations_in (core.for_ objects init test step body at) = declarations init + declarations_in body
  declarations_in core.break_ = 0
  declarations_in core.continue_ = 0
  declarations_in (core.return_ value) = 0

  pub else_declarations : CoreElseTree → ℕ
  else_declarations core.no_else = 0
  else_declarations (core.else_ at body) = declarations_in body

  pub declarations : CoreStmtTrees → ℕ
  declarations core.no_stmt = 0
  declarations (core.more_stmts first rest) = declarations_in first + declarations rest

-- Each object of a function that is no parameter is declared in its body.
abbrev pub EachIsDeclared : CoreProgramTree → Type 0
EachIsDeclared p = (i : ℕ) (fn : CoreFunctionTree) → slice_get p.functions i ≡ Some fn → length fn.objects ≤ fn.params + declarations fn.body
