use Rattle.std.proofs.Common.{◌≡◌, ◌≤◌, ◌+◌, length, map, take, drop}
use Rattle.ir_core.specs.Trees.{part_of, part_row}
use Rattle.ir_layout.specs.Sizes.{parts_size}
use Rattle.ir_layout.specs.Layout.{lands_in}
use Rattle.ir_layout.specs.Views.{stacked}
use Rattle.ir_layout.proofs.flat.Flat.note_lands.Given as goal

abbrev pub invariant-loop-left : goal.invariant-loop-left
invariant-loop-left l = record {
  nodes : l.self.nodes ≡ l.initial.self.nodes;
  within : l.left ≤ length l.parts;
  lands : stacked l.self.lands.items ≡ lands_in (l.base + parts_size (part_row (map part_of (take l.left l.parts)))) (part_row (map part_of (drop l.left l.parts))) (stacked l.initial.self.lands.items);
}

abbrev pub decreases-loop-left : goal.decreases-loop-left
decreases-loop-left l = l.left
