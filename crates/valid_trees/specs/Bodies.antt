-- When a block, or the body of a loop that is overlapped, is valid.
use Rattle.std.specs.Prelude.{◌≡◌, ℕ, ◌≤◌, true, List, [], ◌∷◌, ◌++◌, slice_get, Some}
use Rattle.std.specs.List.{list_all}
use Rattle.ir_core.specs.declared.body.OpKind.TheVariants as o
use Rattle.ir_core.specs.declared.body.Out.{Out}
use Rattle.ir_core.specs.Bodies.{OpTree}
use Rattle.ir_core.specs.Trees.{ExitTree, branch, choose, BlockTree, BodyTree}
use Rattle.ir_core.specs.TreeRuns.{tested}
use Rattle.program_validity.specs.Bodies.{is_result_out, name_different}
use Rattle.valid_trees.specs.Shapes.{FrameShape}
use Rattle.valid_trees.specs.Operands.{IsOperand, IsOperandIf, AllAreOperands}
use Rattle.valid_trees.specs.Operations.{OpIsValid}

-- Each out is the result of an operation of its own, and no store comes before the test is known.
pub record BodyOverlaps (b : BodyTree) : Type 0 where
  pub results : list_all is_result_out b.outs ≡ true
  pub different : name_different b.outs ≡ true
  pub stores : (k : ℕ) (op : OpTree) → slice_get b.ops k ≡ Some op → op.kind ≡ o.Store → tested b.test ≤ k

module _ (frame : FrameShape) (carried : List Out) where
  -- operations behind others
  abbrev pub OpsAreValid : List OpTree → List OpTree → Type 0
  OpsAreValid before [] = Unit {0}
  OpsAreValid before (op ∷ ops) = OpIsValid frame carried before op × OpsAreValid (before ++ op ∷ []) ops

  -- An out sets a variable to a value of its width.
  pub record OutIsValid (ops : List OpTree) (x : Out) : Type 0 where
    pub bits : ℕ
    pub there : slice_get frame.widths x.variable.0 ≡ Some bits
    pub value : IsOperand frame carried ops bits x.value

  abbrev pub OutsAreValid : List OpTree → List Out → Type 0
  OutsAreValid ops [] = Unit {0}
  OutsAreValid ops (x ∷ xs) = OutIsValid ops x × OutsAreValid ops xs

module _ (frame : FrameShape) where
  -- ---- blocks

  -- a block is left by bits
  abbrev pub ExitIsValid : List OpTree → ExitTree → Type 0
  ExitIsValid ops (branch test) = IsOperand frame [] ops 1 test
  ExitIsValid ops (choose cases) = AllAreOperands frame [] ops 1 cases
  ExitIsValid ops exit = Unit {0}

  pub record BlockIsValid (b : BlockTree) : Type 0 where
    pub ops : OpsAreValid frame [] [] b.ops
    pub outs : OutsAreValid frame [] b.ops b.outs
    pub exit : ExitIsValid b.ops b.exit

  -- ---- loops that are overlapped

  pub record BodyIsValid (b : BodyTree) : Type 0 where
    pub ops : OpsAreValid frame b.outs [] b.ops
    pub outs : OutsAreValid frame b.outs b.ops b.outs
    pub test : IsOperandIf frame b.outs b.ops 1 b.test
    pub overlaps : BodyOverlaps b
