use Rattle.std.proofs.Common.{◌≡◌, ◌≤◌, length, take}
use Rattle.ir_layout.specs.WellFormed.{has_number}
use Rattle.ir_layout.specs.Fitting.{numbered}
use Rattle.ir_layout.proofs.fits.is_noted.Given as goal

abbrev pub invariant-loop-left : goal.invariant-loop-left
invariant-loop-left l = record {
  within : l.left ≤ length l.lands;
  same : has_number (numbered (take l.left l.lands)) l.land.0 ≡ has_number (numbered l.lands) l.land.0;
}

abbrev pub decreases-loop-left : goal.decreases-loop-left
decreases-loop-left l = l.left
