-- No block of a numbered tree has two operations that do the same.
use Rattle.ir_core.specs.Trees.{SequenceTree, sequence, PartTrees, no_part, more_parts, ShapeTree, fork, loop, switch, land, overlapped, SideTree, no_side, side, ArmTrees, no_arm, more_arms}
use Rattle.passes.specs.Numbering.{Scope, in_loop, numbered_sequence, numbered_parts, numbered_shape, numbered_side, numbered_arms}
use Rattle.passes.specs.DistinctOperations.{TreeHasNoTwins, PartsHaveNoTwins, ShapeHasNoTwins, SideHasNoTwins, ArmsHaveNoTwins}
use Rattle.passes.proofs.DistinctOperations.Blocks.{block_distinct}

mutual
  pub tree_distinct : (scope : Scope) (s : SequenceTree) → TreeHasNoTwins scope (numbered_sequence scope s)
  tree_distinct scope (sequence first rest) = (block_distinct scope first, parts_distinct scope rest)

  parts_distinct : (scope : Scope) (p : PartTrees) → PartsHaveNoTwins scope (numbered_parts scope p)
  parts_distinct scope no_part = tt
  parts_distinct scope (more_parts shape after rest) = (shape_distinct scope shape, block_distinct scope after, parts_distinct scope rest)

  shape_distinct : (scope : Scope) (shape : ShapeTree) → ShapeHasNoTwins scope (numbered_shape scope shape)
  shape_distinct scope (fork yes_ no_ convertible) = (side_distinct scope yes_, side_distinct scope no_)
  shape_distinct scope (loop post test body step eligible) =
      (tree_distinct (in_loop scope eligible) test, tree_distinct (in_loop scope eligible) body, side_distinct (in_loop scope eligible) step)
  shape_distinct scope (switch dead targets other arms) = (parts_distinct scope dead, arms_distinct scope arms)
  shape_distinct scope (land number) = tt
  shape_distinct scope (overlapped point body) = tt

  side_distinct : (scope : Scope) (s : SideTree) → SideHasNoTwins scope (numbered_side scope s)
  side_distinct scope no_side = tt
  side_distinct scope (side blocks) = tree_distinct scope blocks

  arms_distinct : (scope : Scope) (p : ArmTrees) → ArmsHaveNoTwins scope (numbered_arms scope p)
  arms_distinct scope no_arm = tt
  arms_distinct scope (more_arms first rest) = (tree_distinct scope first, arms_distinct scope rest)
