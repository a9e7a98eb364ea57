use Rattle.std.proofs.Common.{◌<◌, length}
use Rattle.diff_solve.proofs.Trails.{GoesOn}
use Rattle.diff_solve.proofs.solve.is_in_a_loop.Given as goal

abbrev pub invariant-back : goal.invariant-back
invariant-back l = record {
  in_range : l.node < length l.entered;
  goes_on : GoesOn l.constraints l.entered l.start l._step l.node;
}
