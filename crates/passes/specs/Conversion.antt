-- What conversion makes of a tree of blocks.
pub mod Outs
pub mod Joining
pub mod Merging
pub mod Overlapping
pub mod Examples
use Rattle.std.specs.Prelude.{ℕ, Bool, ◌&&◌, List, Option, Some, None}
use Rattle.ir_core.specs.Trees.{BlockTree, SequenceTree, sequence, PartTrees, no_part, more_parts, ShapeTree, fork, loop, switch, land, overlapped, SideTree, no_side, side, ArmTrees, no_arm, more_arms}
use Rattle.passes.specs.Conversion.Merging.{Branches, branches_of, opened, merged, joined}
use Rattle.passes.specs.Conversion.Overlapping.{converted_loop}

-- what is the same for all blocks: the widths of the variables, and whether loops are overlapped
pub record Scope : Type 0 where
  pub widths : List ℕ
  pub loops : Bool

-- the block that goes on behind a shape: the one before it, where the shape is a fork that is merged, and else the one that stands there
abbrev pub going_on : List ℕ → BlockTree → Option Branches → BlockTree → BlockTree
going_on widths b None after = opened after
going_on widths b (Some f) after = joined widths (merged widths b f) after

abbrev pub part_before : ShapeTree → SequenceTree → PartTrees
part_before shape (sequence first rest) = more_parts shape first rest

-- what follows a shape, with the block before it where that is another one
abbrev pub behind : BlockTree → ShapeTree → Option Branches → SequenceTree → SequenceTree
behind b shape None blocks = sequence b (part_before shape blocks)
behind b shape (Some f) blocks = blocks

-- Inner forks are converted first.
abbrev mutual
  pub converted_sequence : Scope → SequenceTree → SequenceTree
  converted_sequence scope (sequence first rest) = converted_behind scope (opened first) rest

  -- a block, and the parts behind it
  pub converted_behind : Scope → BlockTree → PartTrees → SequenceTree
  converted_behind scope b no_part = sequence b no_part
  converted_behind scope b (more_parts shape after rest) =
      behind b (converted_shape scope shape) (branches_of b.exit (converted_shape scope shape))
      (converted_behind scope (going_on scope.widths b (branches_of b.exit (converted_shape scope shape)) after) rest)

  -- parts that no block stands before
  pub converted_parts : Scope → PartTrees → PartTrees
  converted_parts scope no_part = no_part
  converted_parts scope (more_parts shape after rest) = part_before (converted_shape scope shape) (converted_behind scope (opened after) rest)

  pub converted_shape : Scope → ShapeTree → ShapeTree
  converted_shape scope (fork yes_ no_ convertible) = fork (converted_side scope yes_) (converted_side scope no_) convertible
  converted_shape scope (loop post test body step eligible) =
      converted_loop scope.widths (eligible && scope.loops) post (converted_sequence scope test) (converted_sequence scope body) (converted_side scope step)
  converted_shape scope (switch dead targets other arms) = switch (converted_parts scope dead) targets other (converted_arms scope arms)
  converted_shape scope (land number) = land number
  converted_shape scope (overlapped point body) = overlapped point body

  pub converted_side : Scope → SideTree → SideTree
  converted_side scope no_side = no_side
  converted_side scope (side blocks) = side (converted_sequence scope blocks)

  pub converted_arms : Scope → ArmTrees → ArmTrees
  converted_arms scope no_arm = no_arm
  converted_arms scope (more_arms first rest) = more_arms (converted_sequence scope first) (converted_arms scope rest)
