-- Trees of basic blocks without where they lie in memory.
use Rattle.std.specs.Prelude.{ℕ, Bool, List, [], ◌∷◌, map, Option, Some, None}
use Rattle.std.specs.Option.{option_map}
use Rattle.hls_base.specs.declared.point.Point.{Point}
use Rattle.ir_core.specs.declared.body.Operand.{Operand}
use Rattle.ir_core.specs.declared.body.Out.{Out}
use Rattle.ir_core.specs.declared.body.Body.{Body}
use Rattle.ir_core.specs.declared.stamp.Untimed.{Untimed}
use Rattle.ir_core.specs.declared.tree.LandId.{LandId}
use Rattle.ir_core.specs.declared.tree.Exit.{Exit}
use Rattle.ir_core.specs.declared.tree.Exit.TheVariants as exit
use Rattle.ir_core.specs.declared.tree.BasicBlock.{BasicBlock}
use Rattle.ir_core.specs.declared.tree.Sequence.{Sequence}
use Rattle.ir_core.specs.declared.tree.Part.{Part}
use Rattle.ir_core.specs.declared.tree.Shape.{Shape}
use Rattle.ir_core.specs.declared.tree.Shape.TheOpen.{Sequence-F, Part-F, Shape-F}
use Rattle.ir_core.specs.declared.tree.Shape.TheFolds.{fold-Sequence, fold-Part, fold-Shape}
use Rattle.ir_core.specs.Bodies.{OpTree, op_of}

-- how a block is left: to what stands behind it, by the value of an operand, by the case whose operand is 1, or to another place
pub data ExitTree : Type 0 where
  next : ExitTree
  branch : (test : Operand) → ExitTree
  choose : (cases : List Operand) → ExitTree
  break_ : ExitTree
  continue_ : ExitTree
  leave : (land : LandId) → ExitTree

pub record BlockTree : Type 0 where
  pub point : Point
  pub ops : List OpTree
  pub outs : List Out
  pub exit : ExitTree

-- operations, what they set, and the test of an iteration
pub record BodyTree : Type 0 where
  pub ops : List OpTree
  pub outs : List Out
  pub test : Option Operand

mutual
  pub data SequenceTree : Type 0 where
    sequence : (first : BlockTree) (rest : PartTrees) → SequenceTree

  -- what stands between two blocks, and the block behind it, one after another
  pub data PartTrees : Type 0 where
    no_part : PartTrees
    more_parts : (shape : ShapeTree) (after : BlockTree) (rest : PartTrees) → PartTrees

  pub data ShapeTree : Type 0 where
    fork : (yes_ no_ : SideTree) (convertible : Bool) → ShapeTree
    loop : (post : Bool) (test body : SequenceTree) (step : SideTree) (eligible : Bool) → ShapeTree
    switch : (dead : PartTrees) (targets : List ℕ) (other : Option ℕ) (arms : ArmTrees) → ShapeTree
    land : (number : LandId) → ShapeTree
    overlapped : (point : Point) (body : BodyTree) → ShapeTree

  -- a side that may have no blocks of its own
  pub data SideTree : Type 0 where
    no_side : SideTree
    side : (blocks : SequenceTree) → SideTree

  pub data ArmTrees : Type 0 where
    no_arm : ArmTrees
    more_arms : (first : SequenceTree) (rest : ArmTrees) → ArmTrees

-- ---- the code's trees

abbrev pub exit_of : Exit → ExitTree
exit_of exit.Next = next
exit_of (exit.Branch test) = branch test
exit_of (exit.Choose cases) = choose cases.items
exit_of exit.Break = break_
exit_of exit.Continue = continue_
exit_of (exit.Leave number) = leave number

abbrev pub block_of : BasicBlock → BlockTree
block_of b = record { point = b.point; ops = map op_of b.ops.items; outs = b.outs.items; exit = exit_of b.exit }

abbrev pub body_of : Body Untimed → BodyTree
body_of b = record { ops = map op_of b.ops.items; outs = b.outs.items; test = b.test }

-- a part, to stand before others
pub record PartTree : Type 0 where
  pub shape : ShapeTree
  pub after : BlockTree

abbrev pub part_row : List PartTree → PartTrees
part_row [] = no_part
part_row (p ∷ ps) = more_parts p.shape p.after (part_row ps)

abbrev pub arm_row : List SequenceTree → ArmTrees
arm_row [] = no_arm
arm_row (s ∷ ss) = more_arms s (arm_row ss)

abbrev pub side_of : Option SequenceTree → SideTree
side_of None = no_side
side_of (Some s) = side s

abbrev pub sequence_step : Sequence-F ShapeTree PartTree SequenceTree → SequenceTree
sequence_step s = sequence (block_of s.first) (part_row s.rest.items)

abbrev pub part_step : Part-F ShapeTree PartTree SequenceTree → PartTree
part_step p = record { shape = p.shape; after = block_of p.after }

abbrev pub shape_step : Shape-F ShapeTree PartTree SequenceTree → ShapeTree
shape_step (Shape-F.Fork yes_ no_ convertible) = fork (side_of yes_) (side_of no_) convertible
shape_step (Shape-F.Loop post test body step eligible) = loop post test.value body.value (side_of (option_map (λ b. b.value) step)) eligible
shape_step (Shape-F.Choose dead targets other arms) = switch (part_row dead.items) targets.items other (arm_row arms.items)
shape_step (Shape-F.Land number) = land number
shape_step (Shape-F.Overlapped point body) = overlapped point (body_of body)

abbrev pub sequence_of : Sequence → SequenceTree
sequence_of = fold-Sequence ShapeTree PartTree SequenceTree shape_step part_step sequence_step

abbrev pub part_of : Part → PartTree
part_of = fold-Part ShapeTree PartTree SequenceTree shape_step part_step sequence_step

abbrev pub shape_of : Shape → ShapeTree
shape_of = fold-Shape ShapeTree PartTree SequenceTree shape_step part_step sequence_step
