-- Loops that stand before the blocks at their Ends, in trees of blocks and in the pieces that they are lowered from.
use Rattle.std.specs.Prelude.{◌≡◌}
use Rattle.hls_base.specs.declared.point.Point.{Point}
use Rattle.pieces.specs.Trees as tree
use Rattle.pieces.specs.Trees.{PieceTree, PieceTrees}
use Rattle.passes.specs.Lowering.Shapes.{first_point, or_at}
use Rattle.ir_core.specs.Trees.{SequenceTree, sequence, PartTrees, no_part, more_parts, ShapeTree, fork, loop, switch, land, overlapped, SideTree, no_side, side, ArmTrees, no_arm, more_arms}
use Rattle.passes.specs.Conversion.Merging.{first_of}
use Rattle.report_rows.specs.Costs.{end_of}

-- the block behind a loop begins at the End of the point of the loop's body
abbrev pub EndsAt : ShapeTree → Point → Type 0
EndsAt (loop post test body step eligible) after = after ≡ end_of (first_of body).point
EndsAt (overlapped point body) after = after ≡ end_of point
EndsAt shape after = Unit {0}

abbrev mutual
  pub LoopsEnd : SequenceTree → Type 0
  LoopsEnd (sequence first rest) = PartsEnd rest

  pub PartsEnd : PartTrees → Type 0
  PartsEnd no_part = Unit {0}
  PartsEnd (more_parts shape after rest) = ShapeEnds shape × EndsAt shape after.point × PartsEnd rest

  pub ShapeEnds : ShapeTree → Type 0
  ShapeEnds (fork yes_ no_ convertible) = SideEnds yes_ × SideEnds no_
  ShapeEnds (loop post test body step eligible) = LoopsEnd test × LoopsEnd body × SideEnds step
  ShapeEnds (switch dead targets other arms) = PartsEnd dead × ArmsEnd arms
  ShapeEnds (land number) = Unit {0}
  ShapeEnds (overlapped point body) = Unit {0}

  pub SideEnds : SideTree → Type 0
  SideEnds no_side = Unit {0}
  SideEnds (side blocks) = LoopsEnd blocks

  pub ArmsEnd : ArmTrees → Type 0
  ArmsEnd no_arm = Unit {0}
  ArmsEnd (more_arms first rest) = LoopsEnd first × ArmsEnd rest

-- ---- pieces

-- each loop ends at the End of the point at which its body begins
abbrev mutual
  pub PiecesLoopsEnd : PieceTrees → Type 0
  PiecesLoopsEnd tree.no_pieces = Unit {0}
  PiecesLoopsEnd (tree.then_ piece rest) = PieceLoopsEnd piece × PiecesLoopsEnd rest

  pub PieceLoopsEnd : PieceTree → Type 0
  PieceLoopsEnd (tree.fork test yes_ no_ end) = PiecesLoopsEnd yes_ × PiecesLoopsEnd no_
  PieceLoopsEnd (tree.repeat_ id post before test body step end) = (end ≡ end_of (or_at end (first_point body))) × PiecesLoopsEnd before × PiecesLoopsEnd body × PiecesLoopsEnd step
  PieceLoopsEnd (tree.pick test labels body end) = PiecesLoopsEnd body
  PieceLoopsEnd piece = Unit {0}
