-- What the blocks of a tree come to together.
use Rattle.std.specs.Prelude.{ℕ, ◌+◌, length}
use Rattle.ir_core.specs.Trees.{BlockTree, BodyTree, SequenceTree, sequence, PartTrees, no_part, more_parts, ShapeTree, fork, loop, switch, land, overlapped, SideTree, no_side, side, ArmTrees, no_arm, more_arms}

-- what is counted of a block, and of the body of a loop that is overlapped
pub record Measure : Type 0 where
  pub of_block : BlockTree → ℕ
  pub of_body : BodyTree → ℕ

-- the operations
abbrev pub operations : Measure
operations = record { of_block = λ b. length b.ops; of_body = λ b. length b.ops }

-- the variables that are set
abbrev pub settings : Measure
settings = record { of_block = λ b. length b.outs; of_body = λ b. length b.outs }

abbrev mutual
  pub sequence_total : Measure → SequenceTree → ℕ
  sequence_total m (sequence first rest) = m.of_block first + parts_total m rest

  pub parts_total : Measure → PartTrees → ℕ
  parts_total m no_part = 0
  parts_total m (more_parts shape after rest) = shape_total m shape + m.of_block after + parts_total m rest

  pub shape_total : Measure → ShapeTree → ℕ
  shape_total m (fork yes_ no_ convertible) = side_total m yes_ + side_total m no_
  shape_total m (loop post test body step eligible) = sequence_total m test + sequence_total m body + side_total m step
  shape_total m (switch dead targets other arms) = parts_total m dead + arms_total m arms
  shape_total m (land number) = 0
  shape_total m (overlapped point body) = m.of_body body

  pub side_total : Measure → SideTree → ℕ
  side_total m no_side = 0
  side_total m (side blocks) = sequence_total m blocks

  pub arms_total : Measure → ArmTrees → ℕ
  arms_total m no_arm = 0
  arms_total m (more_arms first rest) = sequence_total m first + arms_total m rest
