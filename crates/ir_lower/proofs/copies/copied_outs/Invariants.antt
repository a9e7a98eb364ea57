use Rattle.std.proofs.Common.{◌≡◌, [], drop, map}
use Rattle.ir_core.specs.Bodies.{op_of}
use Rattle.ir_core.specs.Trees.{part_of, part_row}
use Rattle.passes.specs.Lowering.Copies.{copied_outs}
use Rattle.block_draft.specs.Drafts.{scope_of}
use Rattle.ir_lower.specs.Copies.{fixed_of, copied_of}
use Rattle.ir_lower.proofs.copies.copied_outs.Given as goal

abbrev pub invariant-loop-out : goal.invariant-loop-out
invariant-loop-out l =
    copied_outs (scope_of l.expanded) (part_row (map part_of l.later.items)) (fixed_of l.fixed) (copied_of l.copied) (drop l.out-index l.outs.items)
    ≡ copied_outs (scope_of l.expanded) (part_row (map part_of l.later.items)) (fixed_of l.fixed) (record { ops = map op_of l.fn.ops.items; outs = []; taken = [] }) l.outs.items
