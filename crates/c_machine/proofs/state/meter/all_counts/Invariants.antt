use Rattle.std.proofs.Common.{◌≡◌, take}
use Rattle.c_machine.specs.State.Metering.{counts_of}
use Rattle.c_machine.proofs.state.meter.all_counts.Given as goal

abbrev pub invariant-loop-i : goal.invariant-loop-i
invariant-loop-i l = l.all.items ≡ counts_of l.calls.entries (take l.i l.counts.entries)
