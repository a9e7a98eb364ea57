use Rattle.std.proofs.Common.{◌≡◌, drop, map}
use Rattle.ir_core.specs.Trees.{part_of, part_row}
use Rattle.passes.specs.Lowering.Copies.{parts_set}
use Rattle.ir_lower.proofs.sets.+sets.Given as goal

abbrev pub invariant-parts_set-loop-part : goal.invariant-parts_set-loop-part
invariant-parts_set-loop-part l = parts_set (part_row (map part_of l.parts.items)) l.variable ≡ parts_set (part_row (map part_of (drop l.part-index l.parts.items))) l.variable
