-- A numbered tree is valid.
use Rattle.ir_core.specs.Trees.{SequenceTree, sequence, PartTrees, no_part, more_parts, ShapeTree, fork, loop, switch, land, overlapped, SideTree, no_side, side, ArmTrees, no_arm, more_arms}
use Rattle.passes.specs.Numbering.{Scope, in_loop, numbered_sequence, numbered_parts, numbered_shape, numbered_side, numbered_arms}
use Rattle.valid_trees.specs.Shapes.{FrameShape}
use Rattle.valid_trees.specs.Bodies.{BlockIsValid, BodyIsValid}
use Rattle.valid_trees.specs.Trees.{TreeIsValid, PartsHave, ShapeHas, SideHas, ArmsHave}
use Rattle.valid_trees.proofs.ValidNumbering.Blocks.{block_valid}

mutual
  pub sequence_valid : (frame : FrameShape) (scope : Scope) (s : SequenceTree) → TreeIsValid frame s → TreeIsValid frame (numbered_sequence scope s)
  sequence_valid frame scope (sequence first rest) h = (block_valid frame scope first h.0, parts_valid frame scope rest h.1)

  parts_valid : (frame : FrameShape) (scope : Scope) (p : PartTrees) → PartsHave (BlockIsValid frame) (BodyIsValid frame) p → PartsHave (BlockIsValid frame) (BodyIsValid frame) (numbered_parts scope p)
  parts_valid frame scope no_part h = tt
  parts_valid frame scope (more_parts shape after rest) h = (shape_valid frame scope shape h.0, block_valid frame scope after h.1, parts_valid frame scope rest h.2)

  shape_valid : (frame : FrameShape) (scope : Scope) (shape : ShapeTree) → ShapeHas (BlockIsValid frame) (BodyIsValid frame) shape → ShapeHas (BlockIsValid frame) (BodyIsValid frame) (numbered_shape scope shape)
  shape_valid frame scope (fork yes_ no_ c) h = (side_valid frame scope yes_ h.0, side_valid frame scope no_ h.1)
  shape_valid frame scope (loop post t b s e) h = (sequence_valid frame (in_loop scope e) t h.0, sequence_valid frame (in_loop scope e) b h.1, side_valid frame (in_loop scope e) s h.2)
  shape_valid frame scope (switch dead targets other arms) h = (parts_valid frame scope dead h.0, arms_valid frame scope arms h.1)
  shape_valid frame scope (land number) h = tt
  shape_valid frame scope (overlapped point body) h = h

  side_valid : (frame : FrameShape) (scope : Scope) (s : SideTree) → SideHas (BlockIsValid frame) (BodyIsValid frame) s → SideHas (BlockIsValid frame) (BodyIsValid frame) (numbered_side scope s)
  side_valid frame scope no_side h = tt
  side_valid frame scope (side blocks) h = sequence_valid frame scope blocks h

  arms_valid : (frame : FrameShape) (scope : Scope) (p : ArmTrees) → ArmsHave (BlockIsValid frame) (BodyIsValid frame) p → ArmsHave (BlockIsValid frame) (BodyIsValid frame) (numbered_arms scope p)
  arms_valid frame scope no_arm h = tt
  arms_valid frame scope (more_arms first rest) h = (sequence_valid frame scope first h.0, arms_valid frame scope rest h.1)
