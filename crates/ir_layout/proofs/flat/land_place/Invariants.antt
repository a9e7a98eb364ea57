use Rattle.std.proofs.Common.{◌≡◌, ◌≤◌, length, take}
use Rattle.ir_layout.specs.Layout as spec
use Rattle.ir_layout.specs.Views.{stacked}
use Rattle.ir_layout.proofs.flat.land_place.Given as goal

abbrev pub invariant-loop-left : goal.invariant-loop-left
invariant-loop-left l = record {
  within : l.left ≤ length l.lands;
  same : spec.land_place (stacked (take l.left l.lands)) l.land.0 ≡ spec.land_place (stacked l.lands) l.land.0;
}

abbrev pub decreases-loop-left : goal.decreases-loop-left
decreases-loop-left l = l.left
