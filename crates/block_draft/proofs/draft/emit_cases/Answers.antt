use Rattle.block_draft.specs.Views.{ops_of}
use Rattle.passes.specs.Lowering.Blocks.{cases}
use Rattle.std.proofs.Common.{◌+◌, drop}
use Rattle.block_draft.proofs.Drafting.{case_next}
use Rattle.block_draft.proofs.draft.emit_cases.Goals as goal

pub loop-label-preserved : goal.loop-label-preserved
loop-label-preserved c =
    let i = c.loop-label.label-index in
    let labels = c.args.labels.now in
    case_next c.args.kind c.args.value labels i _ (ops_of c.loop-label.ops) c.loop-label.cases.items _ _ (c.in_ok-add_case.ensures (λ ops. cases c.args.kind c.args.value (drop (i + 1) labels) ops)) c.loop-label-test.true c.loop-label.invariant
