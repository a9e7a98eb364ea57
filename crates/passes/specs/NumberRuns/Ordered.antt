-- Blocks whose operands come before their uses.
use Rattle.std.specs.Prelude.{◌≡◌, ℕ, ◌+◌, ◌<◌, ◌≤◌, Bool, true, false, not, ◌||◌, List, [], ◌∷◌, length, Option, Some, None, is_some}
use Rattle.ir_core.specs.declared.body.OpKind.{OpKind}
use Rattle.ir_core.specs.declared.body.OpKind.TheVariants as o
use Rattle.ir_core.specs.declared.body.Operand.{Operand}
use Rattle.ir_core.specs.declared.body.Out.{Out}
use Rattle.ir_core.specs.declared.body.Source.{Source}
use Rattle.ir_core.specs.declared.body.Source.TheVariants as source
use Rattle.ir_core.specs.Bodies.{OpTree}
use Rattle.ir_core.specs.Trees.{ExitTree, branch, choose, BlockTree, SequenceTree, sequence, PartTrees, no_part, more_parts, ShapeTree, fork, loop, switch, land, overlapped, SideTree, no_side, side, ArmTrees, no_arm, more_arms}

-- ---- operands that are no results of operations but of the first n

abbrev pub IsEarly : ℕ → Source → Type 0
IsEarly n (source.Result op) = op.0 < n
IsEarly n s = Unit {0}

abbrev pub AreEarly : ℕ → List Operand → Type 0
AreEarly n [] = Unit {0}
AreEarly n (x ∷ xs) = IsEarly n x.value × AreEarly n xs

abbrev pub IsEarlyIfThere : ℕ → Option Operand → Type 0
IsEarlyIfThere n None = Unit {0}
IsEarlyIfThere n (Some x) = IsEarly n x.value

-- ---- operations

-- C gives all operations of the kind a value
abbrev pub is_total : OpKind → Bool → Bool
is_total o.Add signed = not signed
is_total o.Sub signed = not signed
is_total o.Mul signed = not signed
is_total o.Neg signed = not signed
is_total o.Div signed = false
is_total o.Rem signed = false
is_total o.Shl signed = false
is_total o.Shr signed = false
is_total kind signed = true

-- a conversion has one operand
abbrev pub HasItsOperands : OpKind → List Operand → Type 0
HasItsOperands o.Widen args = length args ≤ 1
HasItsOperands kind args = Unit {0}

-- Its operands are early, and where C may give it no value, a place is noted.
pub record OpIsOrdered (n : ℕ) (op : OpTree) : Type 0 where
  pub args : AreEarly n op.args
  pub guard : IsEarlyIfThere n op.guard
  pub flag : (is_some op.flag || is_total op.kind op.signed) ≡ true
  pub operands : HasItsOperands op.kind op.args

-- operations behind n others
abbrev pub OpsAreOrdered : ℕ → List OpTree → Type 0
OpsAreOrdered n [] = Unit {0}
OpsAreOrdered n (op ∷ ops) = OpIsOrdered n op × OpsAreOrdered (n + 1) ops

-- ---- blocks

abbrev pub OutsAreEarly : ℕ → List Out → Type 0
OutsAreEarly n [] = Unit {0}
OutsAreEarly n (x ∷ xs) = IsEarly n x.value.value × OutsAreEarly n xs

abbrev pub ExitIsEarly : ℕ → ExitTree → Type 0
ExitIsEarly n (branch test) = IsEarly n test.value
ExitIsEarly n (choose cases) = AreEarly n cases
ExitIsEarly n exit = Unit {0}

pub record BlockIsOrdered (b : BlockTree) : Type 0 where
  pub ops : OpsAreOrdered 0 b.ops
  pub outs : OutsAreEarly (length b.ops) b.outs
  pub exit : ExitIsEarly (length b.ops) b.exit

-- ---- trees

abbrev mutual
  pub IsOrdered : SequenceTree → Type 0
  IsOrdered (sequence first rest) = BlockIsOrdered first × PartsAreOrdered rest

  pub PartsAreOrdered : PartTrees → Type 0
  PartsAreOrdered no_part = Unit {0}
  PartsAreOrdered (more_parts shape after rest) = ShapeIsOrdered shape × BlockIsOrdered after × PartsAreOrdered rest

  -- of what never runs nothing is asked
  pub ShapeIsOrdered : ShapeTree → Type 0
  ShapeIsOrdered (fork yes_ no_ convertible) = SideIsOrdered yes_ × SideIsOrdered no_
  ShapeIsOrdered (loop post test body step eligible) = IsOrdered test × IsOrdered body × SideIsOrdered step
  ShapeIsOrdered (switch dead targets other arms) = ArmsAreOrdered arms
  ShapeIsOrdered (land number) = Unit {0}
  ShapeIsOrdered (overlapped point body) = Unit {0}

  pub SideIsOrdered : SideTree → Type 0
  SideIsOrdered no_side = Unit {0}
  SideIsOrdered (side blocks) = IsOrdered blocks

  pub ArmsAreOrdered : ArmTrees → Type 0
  ArmsAreOrdered no_arm = Unit {0}
  ArmsAreOrdered (more_arms first rest) = IsOrdered first × ArmsAreOrdered rest
