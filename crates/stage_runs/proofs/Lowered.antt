-- The trees of the stages, one after another.
use Rattle.std.proofs.Common.{◌≡◌, ◌∙◌, Option, Some, None, Bool, refl}
use Rattle.hls_base.specs.declared.point.Point.{Point}
use Rattle.pieces.specs.declared.expanded.Expanded.{Expanded}
use Rattle.pieces.specs.Program.{ExpandedTree, expanded_of}
use Rattle.ir_core.specs.declared.tree.BlockTree.{BlockTree}
use Rattle.ir_core.specs.Trees.{sequence_of, side}
use Rattle.passes.specs.Lowering.Shapes.{first_point}
use Rattle.passes.specs.Lowering.{scope_of, last, lowered, lowering, side_from}
use Rattle.ir_lower.specs.Frames.{frame_view, frame_of}
use Rattle.compile_steps.specs.Flat.{tree_of}
use Rattle.compile_steps.specs.Resets.{expanded_frame}
use Rattle.compile_steps.proofs.Resets.{frame_is}
use Rattle.stage_runs.specs.declared.stage.StageName.TheVariants as name
use Rattle.stage_runs.specs.Stages.{IsTreeOf}

begins_at : (e : ExpandedTree) (plain : Bool) (tree : BlockTree) (x : Option Point) → first_point e.pieces ≡ x → frame_view tree.frame ≡ expanded_frame e → tree.result ≡ e.result
    → side (sequence_of tree.blocks) ≡ side_from (lowered (scope_of e) e.pieces last) x → IsTreeOf e plain name.Lowered tree
begins_at e plain tree None at frame returned made = absurd (cc)
begins_at e plain tree (Some start) at frame returned made =
    let same : sequence_of tree.blocks ≡ tree_of e start = cc in
    record { start = start; starts = at; frame = frame; returned = returned; blocks = same }

pub lowered_is : (expanded : Expanded) (plain : Bool) (tree : BlockTree) → frame_view tree.frame ≡ frame_of expanded → tree.result ≡ expanded.result
    → side (sequence_of tree.blocks) ≡ lowering (expanded_of expanded) → IsTreeOf (expanded_of expanded) plain name.Lowered tree
lowered_is expanded plain tree frame returned made =
    begins_at (expanded_of expanded) plain tree (first_point (expanded_of expanded).pieces) refl (frame ∙ frame_is expanded) returned made
