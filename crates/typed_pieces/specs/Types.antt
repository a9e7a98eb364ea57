-- Core programs all whose types are types of C, and whose labels are words of the types of their switches.
use Rattle.std.specs.Prelude.{◌≡◌, ℕ, slice_get, Some}
use Rattle.c_token.specs.declared.ctype.CType.{CType}
use Rattle.c_value.specs.Values.{int_type, promoted}
use Rattle.pieces.specs.Resolved.Core as core
use Rattle.pieces.specs.Resolved.Core.{CoreTree, CoreTargetTree, CoreTrees, ArgumentTree, ArgumentTrees, CoreStmtTree, CoreStmtTrees, CoreElseTree, FileObjectTree, CoreObjectTree, CoreFunctionTree, CoreProgramTree}
use Rattle.c_meaning.specs.CoreRuns.Kinds.{kind_of}
use Rattle.pass_runs.specs.LowerRuns.OperatorWords.Words.{IsType}
use Rattle.expanded_programs.specs.Statements.Each.{InStmts}
use Rattle.valid_trees.specs.ValidLowering.Proper.{WordFits}

-- Constants, conversions and what operators give are of types of C.
abbrev mutual
  pub HasTypes : CoreTree → Type 0
  HasTypes (core.number value k) = IsType k
  HasTypes (core.scalar cell k at) = Unit {0}
  HasTypes (core.element array subscripts k at) = EachHasTypes subscripts
  HasTypes (core.call callee args k at) = ArgumentsHaveTypes args
  HasTypes (core.unary op arg k at) = IsType k × HasTypes arg
  HasTypes (core.binary op left right k at) = IsType k × HasTypes left × HasTypes right
  HasTypes (core.choice test left right k at colon) = IsType k × HasTypes test × HasTypes left × HasTypes right
  HasTypes (core.cast to arg) = IsType to × HasTypes arg
  HasTypes (core.assign place op value at) = TargetHasTypes place × HasTypes value
  HasTypes (core.bump place up post at) = TargetHasTypes place
  HasTypes (core.comma left right) = HasTypes left × HasTypes right

  pub TargetHasTypes : CoreTargetTree → Type 0
  TargetHasTypes (core.target cell subscripts k at) = EachHasTypes subscripts

  pub EachHasTypes : CoreTrees → Type 0
  EachHasTypes core.none = Unit {0}
  EachHasTypes (core.more first rest) = HasTypes first × EachHasTypes rest

  pub ArgumentHasTypes : ArgumentTree → Type 0
  ArgumentHasTypes (core.given value) = HasTypes value
  ArgumentHasTypes (core.array cell) = Unit {0}

  pub ArgumentsHaveTypes : ArgumentTrees → Type 0
  ArgumentsHaveTypes core.no_argument = Unit {0}
  ArgumentsHaveTypes (core.more_arguments first rest) = ArgumentHasTypes first × ArgumentsHaveTypes rest

-- Each label is a word of the promoted type of what its switch tests. The labels of the switch round a statement have type k.
abbrev mutual
  pub CasesFit : CType → CoreStmtTree → Type 0
  CasesFit k (core.block objects body) = AllCasesFit k body
  CasesFit k (core.declare object init) = Unit {0}
  CasesFit k (core.act actions) = Unit {0}
  CasesFit k (core.if_ test body other at) = CasesFit k body × ElseCasesFit k other
  CasesFit k (core.switch_ test objects body at) = AllCasesFit (promoted (kind_of test)) body
  CasesFit k (core.case_ value body at) = WordFits k value × CasesFit k body
  CasesFit k (core.while_ test body at) = CasesFit k body
  CasesFit k (core.do_ body test at) = CasesFit k body
  CasesFit k (core.for_ objects init test step body at) = AllCasesFit k init × CasesFit k body
  CasesFit k core.break_ = Unit {0}
  CasesFit k core.continue_ = Unit {0}
  CasesFit k (core.return_ value) = Unit {0}

  pub ElseCasesFit : CType → CoreElseTree → Type 0
  ElseCasesFit k core.no_else = Unit {0}
  ElseCasesFit k (core.else_ at body) = CasesFit k body

  pub AllCasesFit : CType → CoreStmtTrees → Type 0
  AllCasesFit k core.no_stmt = Unit {0}
  AllCasesFit k (core.more_stmts first rest) = CasesFit k first × AllCasesFit k rest

-- so are the function's objects and its result; a label outside all switches would be one of int
pub record FunctionHasTypes (fn : CoreFunctionTree) : Type 0 where
  pub objects : (i : ℕ) (o : CoreObjectTree) → slice_get fn.objects i ≡ Some o → IsType o.kind
  pub result : (k : CType) → fn.result ≡ Some k → IsType k
  pub body : InStmts HasTypes (λ i. Unit {0}) fn.body
  pub cases : AllCasesFit int_type fn.body

pub record ProgramHasTypes (p : CoreProgramTree) : Type 0 where
  pub file : (i : ℕ) (o : FileObjectTree) → slice_get p.file i ≡ Some o → IsType o.object.kind
  pub functions : (i : ℕ) (fn : CoreFunctionTree) → slice_get p.functions i ≡ Some fn → FunctionHasTypes fn
