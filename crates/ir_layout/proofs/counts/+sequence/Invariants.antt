use Rattle.std.proofs.Common.{◌≡◌, ◌+◌, map, drop}
use Rattle.ir_core.specs.Trees.{part_of, part_row}
use Rattle.ir_layout.specs.Listing.{ArePartsSized}
use Rattle.ir_layout.specs.Sizes.{parts_size}
use Rattle.ir_layout.proofs.counts.+sequence.Given as goal

abbrev pub invariant-behind_parts-loop-part : goal.invariant-behind_parts-loop-part
invariant-behind_parts-loop-part l = record {
  behind : l.behind + parts_size (part_row (map part_of (drop l.part-index l.parts))) ≡ l.place + parts_size (part_row (map part_of l.parts));
  sized : ArePartsSized l.sizes l.behind (part_row (map part_of (drop l.part-index l.parts)));
}
