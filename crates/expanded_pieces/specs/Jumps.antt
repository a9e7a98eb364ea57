-- Statements whose jumps lead somewhere: each break and continue stands in a loop or switch that it leaves, each label directly in a switch, and a loop begins with declarations and actions alone.
use Rattle.std.specs.Prelude.{◌≡◌, ℕ, Bool, true, false, Some, slice_get}
use Rattle.pieces.specs.Resolved.Core as core
use Rattle.pieces.specs.Resolved.Core.{CoreStmtTree, CoreStmtTrees, CoreElseTree, CoreFunctionTree, CoreProgramTree}

abbrev pub IsBeginning : CoreStmtTree → Type 0
IsBeginning (core.declare object init) = Unit {0}
IsBeginning (core.act actions) = Unit {0}
IsBeginning stmt = ⊥

abbrev pub Begins : CoreStmtTrees → Type 0
Begins core.no_stmt = Unit {0}
Begins (core.more_stmts first rest) = IsBeginning first × Begins rest

abbrev mutual
  -- The flags say whether a label, a break and a continue may stand here.
  pub JumpsFit : Bool → Bool → Bool → CoreStmtTree → Type 0
  JumpsFit labels breaks continues (core.block objects body) = AllJumpsFit false breaks continues body
  JumpsFit labels breaks continues (core.declare object init) = Unit {0}
  JumpsFit labels breaks continues (core.act actions) = Unit {0}
  JumpsFit labels breaks continues (core.if_ test body other at) = JumpsFit false breaks continues body × ElseJumpsFit breaks continues other
  JumpsFit labels breaks continues (core.switch_ test objects body at) = AllJumpsFit true true continues body
  JumpsFit labels breaks continues (core.case_ value body at) = (labels ≡ true) × JumpsFit labels breaks continues body
  JumpsFit labels breaks continues (core.while_ test body at) = JumpsFit false true true body
  JumpsFit labels breaks continues (core.do_ body test at) = JumpsFit false true true body
  JumpsFit labels breaks continues (core.for_ objects init test step body at) = Begins init × JumpsFit false true true body
  JumpsFit labels breaks continues core.break_ = breaks ≡ true
  JumpsFit labels breaks continues core.continue_ = continues ≡ true
  JumpsFit labels breaks continues (core.return_ value) = Unit {0}

  pub ElseJumpsFit : Bool → Bool → CoreElseTree → Type 0
  ElseJumpsFit breaks continues core.no_else = Unit {0}
  ElseJumpsFit breaks continues (core.else_ at body) = JumpsFit false breaks continues body

  pub AllJumpsFit : Bool → Bool → Bool → CoreStmtTrees → Type 0
  AllJumpsFit labels breaks continues core.no_stmt = Unit {0}
  AllJumpsFit labels breaks continues (core.more_stmts first rest) = JumpsFit labels breaks continues first × AllJumpsFit labels breaks continues rest

-- of each function of the program
abbrev pub ProgramJumpsFit : CoreProgramTree → Type 0
ProgramJumpsFit p = (i : ℕ) (fn : CoreFunctionTree) → slice_get p.functions i ≡ Some fn → AllJumpsFit false false false fn.body
