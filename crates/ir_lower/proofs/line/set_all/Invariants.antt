use Rattle.std.proofs.Common.{◌≡◌, drop}
use Rattle.hls_base.specs.declared.point.Point.{Point}
use Rattle.pieces.specs.View.{pieces_of}
use Rattle.ir_core.specs.Trees.{ExitTree}
use Rattle.passes.specs.Lowering.Blocks.{all_set}
use Rattle.block_draft.specs.Drafts.{scope_of, open_at}
use Rattle.ir_lower.proofs.line.set_all.Given as goal

abbrev pub invariant-loop-piece : goal.invariant-loop-piece
invariant-loop-piece l =
    (point : Point) (exit : ExitTree) → all_set (scope_of l.expanded) (pieces_of (drop l.piece-index l.pieces.items)) (open_at point exit l.draft) ≡ all_set (scope_of l.expanded) (pieces_of l.pieces.items) (open_at point exit l.initial.draft)
