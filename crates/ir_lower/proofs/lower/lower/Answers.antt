use Rattle.std.proofs.Common.{◌∙◌, ap, sym}
use Rattle.std.specs.Option.{option_map}
use Rattle.pieces.specs.View.{pieces_of}
use Rattle.ir_core.specs.Trees.{sequence_of, side, side_of}
use Rattle.passes.specs.Lowering.{last, lowered, side_from}
use Rattle.block_draft.specs.Drafts.{scope_of}
use Rattle.ir_lower.proofs.lower.lower.Goals as goal

pub returns-in_ok-frame_of-in-Some-clause-blocks : goal.returns-in_ok-frame_of-in-Some-clause-blocks
returns-in_ok-frame_of-in-Some-clause-blocks c =
    ap (λ b. side (sequence_of b)) c.into_inner.ensures ∙ ap (λ x. side_of (option_map (λ b. sequence_of b.value) x)) (sym c.in-Some.is) ∙ c.in_ok-blocks.ensures
    ∙ ap (side_from (lowered (scope_of c.args.expanded.now) (pieces_of c.args.expanded.now.pieces.items) last)) c.first_point-first.ensures
