-- How many folds a tree has: forks that may be converted, and loops that may be overlapped.
use Rattle.std.specs.Prelude.{ℕ, ◌+◌, if◌then◌else◌}
use Rattle.ir_core.specs.Trees.{SequenceTree, sequence, PartTrees, no_part, more_parts, ShapeTree, fork, loop, switch, land, overlapped, SideTree, no_side, side, ArmTrees, no_arm, more_arms}

abbrev mutual
  pub sequence_folds : SequenceTree → ℕ
  sequence_folds (sequence first rest) = parts_folds rest

  pub parts_folds : PartTrees → ℕ
  parts_folds no_part = 0
  parts_folds (more_parts shape after rest) = shape_folds shape + parts_folds rest

  pub shape_folds : ShapeTree → ℕ
  shape_folds (fork yes_ no_ convertible) = (if convertible then 1 else 0) + side_folds yes_ + side_folds no_
  shape_folds (loop post test body step eligible) = (if eligible then 1 else 0) + sequence_folds test + sequence_folds body + side_folds step
  shape_folds (switch dead targets other arms) = parts_folds dead + arms_folds arms
  shape_folds (land number) = 0
  shape_folds (overlapped point body) = 0

  pub side_folds : SideTree → ℕ
  side_folds no_side = 0
  side_folds (side blocks) = sequence_folds blocks

  pub arms_folds : ArmTrees → ℕ
  arms_folds no_arm = 0
  arms_folds (more_arms first rest) = sequence_folds first + arms_folds rest
