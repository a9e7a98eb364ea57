-- What converting the forks of a tree of blocks may add.
use Rattle.std.specs.Prelude.{ℕ, ◌+◌, if◌then◌else◌}
use Rattle.ir_core.specs.Trees.{SequenceTree, sequence, PartTrees, no_part, more_parts, ShapeTree, fork, loop, switch, land, overlapped, SideTree, no_side, side, ArmTrees, no_arm, more_arms}
use Rattle.passes.specs.Totals.{operations, settings, side_total}

-- no more than the operations of its sides, the variables that they set, and 4
abbrev pub merging_adds : SideTree → SideTree → ℕ
merging_adds yes_ no_ = side_total operations yes_ + side_total operations no_ + side_total settings yes_ + side_total settings no_ + 4

abbrev mutual
  pub sequence_additions : SequenceTree → ℕ
  sequence_additions (sequence first rest) = parts_additions rest

  pub parts_additions : PartTrees → ℕ
  parts_additions no_part = 0
  parts_additions (more_parts shape after rest) = shape_additions shape + parts_additions rest

  pub shape_additions : ShapeTree → ℕ
  shape_additions (fork yes_ no_ convertible) = (if convertible then merging_adds yes_ no_ else 0) + side_additions yes_ + side_additions no_
  shape_additions (loop post test body step eligible) = sequence_additions test + sequence_additions body + side_additions step
  shape_additions (switch dead targets other arms) = parts_additions dead + arms_additions arms
  shape_additions (land number) = 0
  shape_additions (overlapped point body) = 0

  pub side_additions : SideTree → ℕ
  side_additions no_side = 0
  side_additions (side blocks) = sequence_additions blocks

  pub arms_additions : ArmTrees → ℕ
  arms_additions no_arm = 0
  arms_additions (more_arms first rest) = sequence_additions first + arms_additions rest
