use Rattle.std.proofs.Common.{◌≡◌, ◌++◌, map, drop}
use Rattle.ir_core.specs.Trees.{part_of, part_row}
use Rattle.ir_layout.specs.Listing.{ends_of, ArePartsSized}
use Rattle.ir_layout.proofs.counts.shape_ends.Given as goal

abbrev pub invariant-loop-part : goal.invariant-loop-part
invariant-loop-part l = record {
  ends : l.ends.items ++ ends_of l.place (part_row (map part_of (drop l.part-index l.parts))) ≡ ends_of l.base (part_row (map part_of l.parts));
  sized : ArePartsSized l.sizes l.place (part_row (map part_of (drop l.part-index l.parts)));
}
