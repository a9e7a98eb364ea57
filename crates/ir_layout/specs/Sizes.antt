-- How many nodes the parts of a tree become: one for each block, and one for each loop whose iterations may overlap.
use Rattle.std.specs.Prelude.{ℕ, suc, ◌+◌}
use Rattle.ir_core.specs.Trees.{SequenceTree, sequence, PartTrees, no_part, more_parts, ShapeTree, fork, loop, switch, land, overlapped, SideTree, no_side, side, ArmTrees, no_arm, more_arms}

abbrev mutual
  pub sequence_size : SequenceTree → ℕ
  sequence_size (sequence first rest) = suc (parts_size rest)

  pub parts_size : PartTrees → ℕ
  parts_size no_part = 0
  parts_size (more_parts shape after rest) = shape_size shape + suc (parts_size rest)

  pub shape_size : ShapeTree → ℕ
  shape_size (fork yes_ no_ convertible) = side_size yes_ + side_size no_
  shape_size (loop post test body step eligible) = sequence_size test + (sequence_size body + side_size step)
  shape_size (switch dead targets other arms) = parts_size dead + arms_size arms
  shape_size (land number) = 0
  shape_size (overlapped point body) = 1

  pub side_size : SideTree → ℕ
  side_size no_side = 0
  side_size (side blocks) = sequence_size blocks

  pub arms_size : ArmTrees → ℕ
  arms_size no_arm = 0
  arms_size (more_arms first rest) = sequence_size first + arms_size rest
