-- Blocks whose operations are as schedules ask: operands of their own iteration, accesses that are checked, and checked sums of signed numbers.
use Rattle.std.specs.Prelude.{◌≡◌, ℕ, ◌-◌, ◌≤◌, Bool, true, List, [], ◌∷◌, ◌++◌, length, Option, Some, None, is_some}
use Rattle.ir_core.specs.declared.body.OpKind.{OpKind}
use Rattle.ir_core.specs.declared.body.OpKind.TheVariants as o
use Rattle.ir_core.specs.declared.body.Operand.{Operand}
use Rattle.ir_core.specs.declared.body.Out.{Out}
use Rattle.ir_core.specs.Bodies.{OpTree, Shapes}
use Rattle.ir_core.specs.Trees.{ExitTree, branch, choose, BlockTree}
use Rattle.pass_runs.specs.ConvertRuns.Typed.{HasBits, BlockIsTyped}
use Rattle.pass_runs.specs.ConvertRuns.Blocks.{Once}
use Rattle.clock_runs.specs.Premises.{IsSoundAccess}

-- ---- operands

-- one of the same iteration
abbrev pub IsNear : Operand → Type 0
IsNear x = x.distance ≡ 0

abbrev pub AreNear : List Operand → Type 0
AreNear [] = Unit {0}
AreNear (x ∷ xs) = IsNear x × AreNear xs

abbrev pub IsNearIf : Option Operand → Type 0
IsNearIf None = Unit {0}
IsNearIf (Some x) = IsNear x

abbrev pub OutsAreNear : List Out → Type 0
OutsAreNear [] = Unit {0}
OutsAreNear (x ∷ xs) = IsNear x.value × OutsAreNear xs

abbrev pub ExitIsNear : ExitTree → Type 0
ExitIsNear (branch test) = IsNear test
ExitIsNear (choose cases) = AreNear cases
ExitIsNear exit = Unit {0}

-- a conversion has one operand, others have three at most
abbrev pub HasFew : OpKind → List Operand → Type 0
HasFew o.Load args = Unit {0}
HasFew o.Store args = Unit {0}
HasFew o.Widen args = length args ≤ 1
HasFew o.Narrow args = length args ≤ 1
HasFew o.Truth args = length args ≤ 1
HasFew kind args = length args ≤ 3

-- ---- operations and blocks

-- the widths of the variables and the dimensions of the memories, the widths of the memories' words, and whether there may be stores
module _ (shapes : Shapes) (words : List ℕ) (stores : Bool) where
  -- operands of n bits, behind these operations
  abbrev pub AllHave : List OpTree → ℕ → List Operand → Type 0
  AllHave before n [] = Unit {0}
  AllHave before n (x ∷ xs) = HasBits shapes.widths words before n x.value × AllHave before n xs

  -- A sum or difference that is checked is of a signed type, and its operands have its width.
  pub record IsCheckedSum (before : List OpTree) (op : OpTree) : Type 0 where
    pub signed : op.signed ≡ true
    pub some : 1 ≤ op.bits
    pub widths : AllHave before op.bits op.args

  -- what is asked of an operation by its kind
  abbrev pub IsChecked : List OpTree → OpTree → OpKind → Type 0
  IsChecked before op o.Load = IsSoundAccess shapes op (length op.args)
  IsChecked before op o.Store = (stores ≡ true) × IsSoundAccess shapes op (length op.args - 1)
  IsChecked before op o.Add = is_some op.flag ≡ true → IsCheckedSum before op
  IsChecked before op o.Sub = is_some op.flag ≡ true → IsCheckedSum before op
  IsChecked before op o.Div = AllHave before op.bits op.args
  IsChecked before op o.Rem = AllHave before op.bits op.args
  IsChecked before op kind = Unit {0}

  pub record OpIsReady (before : List OpTree) (op : OpTree) : Type 0 where
    pub args : AreNear op.args
    pub guard : IsNearIf op.guard
    pub few : HasFew op.kind op.args
    pub kind : IsChecked before op op.kind

  -- operations behind others
  abbrev pub OpsAreReady : List OpTree → List OpTree → Type 0
  OpsAreReady before [] = Unit {0}
  OpsAreReady before (op ∷ ops) = OpIsReady before op × OpsAreReady (before ++ op ∷ []) ops

  -- The operands are there, of their widths and of the same iteration, and each variable is set once.
  pub record BlockIsReady (b : BlockTree) : Type 0 where
    pub typed : BlockIsTyped shapes.widths words b
    pub once : Once b.outs
    pub ops : OpsAreReady [] b.ops
    pub outs : OutsAreNear b.outs
    pub exit : ExitIsNear b.exit
