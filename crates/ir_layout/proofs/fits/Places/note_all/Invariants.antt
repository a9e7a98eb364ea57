use Rattle.std.proofs.Common.{◌≡◌, ◌≤◌, length, map, drop}
use Rattle.ir_core.specs.Trees.{part_of, part_row}
use Rattle.ir_layout.specs.WellFormed.{lands_in}
use Rattle.ir_layout.specs.Fitting.{numbered}
use Rattle.ir_layout.proofs.fits.Places.note_all.Given as goal

abbrev pub invariant-loop-left : goal.invariant-loop-left
invariant-loop-left l = record {
  within : l.left ≤ length l.parts;
  lands : numbered l.self.lands.items ≡ lands_in (part_row (map part_of (drop l.left l.parts))) (numbered l.initial.self.lands.items);
}

abbrev pub decreases-loop-left : goal.decreases-loop-left
decreases-loop-left l = l.left
