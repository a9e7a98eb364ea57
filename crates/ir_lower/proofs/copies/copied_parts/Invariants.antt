use Rattle.std.proofs.Common.{◌≡◌, map, length}
use Rattle.std.specs.Prelude.{reverse}
use Rattle.ir_core.specs.Trees.{part_of, part_row}
use Rattle.passes.specs.Lowering.Copies.{copied_parts}
use Rattle.block_draft.specs.Drafts.{scope_of}
use Rattle.ir_lower.specs.Copies.{is_in}
use Rattle.ir_lower.specs.Lines.{with_parts}
use Rattle.ir_lower.proofs.copies.copied_parts.Given as goal

abbrev pub invariant-behind : goal.invariant-behind
invariant-behind l =
    with_parts (map part_of l.parts.items) (copied_parts (scope_of l.expanded) (is_in l.known.items) (part_row (map part_of (reverse l.left.items))))
    ≡ copied_parts (scope_of l.expanded) (is_in l.fn.known.items) (part_row (map part_of l.fn.rest.items))

abbrev pub decreases-behind : goal.decreases-behind
decreases-behind l = length l.left.items
