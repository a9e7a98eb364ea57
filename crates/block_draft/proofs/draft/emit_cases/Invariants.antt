use Rattle.std.proofs.Common.{◌≡◌, drop}
use Rattle.passes.specs.Lowering.Blocks.{cases}
use Rattle.block_draft.specs.Views.{ops_of}
use Rattle.block_draft.specs.Drafts.{with_earlier}
use Rattle.block_draft.proofs.draft.emit_cases.Given as goal

abbrev pub invariant-loop-label : goal.invariant-loop-label
invariant-loop-label l = with_earlier l.cases.items (cases l.kind l.value (drop l.label-index l.labels) (ops_of l.ops)) ≡ cases l.kind l.value l.labels (ops_of l.initial.ops)
