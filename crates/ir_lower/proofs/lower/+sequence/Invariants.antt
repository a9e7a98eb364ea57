use Rattle.std.proofs.Common.{◌≡◌, drop}
use Rattle.pieces.specs.View.{pieces_of}
use Rattle.ir_core.specs.Trees.{more_arms, break_}
use Rattle.passes.specs.Lowering.Blocks.{begun}
use Rattle.passes.specs.Lowering as spec
use Rattle.passes.specs.Lowering.{Rest}
use Rattle.block_draft.specs.Drafts.{scope_of}
use Rattle.ir_lower.specs.Lines.{ended, ended_arms}
use Rattle.ir_lower.proofs.lower.+sequence.Given as goal

abbrev pub invariant-lower_all-loop-piece : goal.invariant-lower_all-loop-piece
invariant-lower_all-loop-piece l =
    (rest : Rest) → ended l.line (spec.lowered (scope_of l.expanded) (pieces_of (drop l.piece-index l.pieces.items)) rest) ≡ ended l.initial.line (spec.lowered (scope_of l.expanded) (pieces_of l.pieces.items) rest)

-- what is left of the body stands behind the open arm, and the arms that are to come behind that
abbrev pub invariant-lower_arms-loop-i : goal.invariant-lower_arms-loop-i
invariant-lower_arms-loop-i l =
    ended_arms l.arms (spec.before_arm (scope_of l.expanded) l.labels l.i (pieces_of (drop l.i l.body.items))) (spec.arms (scope_of l.expanded) l.labels l.i (pieces_of (drop l.i l.body.items)) l.end)
    ≡ more_arms (spec.before_arm (scope_of l.expanded) l.labels 0 (pieces_of l.body.items) (record (begun l.end) { exit = break_ })) (spec.arms (scope_of l.expanded) l.labels 0 (pieces_of l.body.items) l.end)
