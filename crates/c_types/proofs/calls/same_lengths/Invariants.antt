use Rattle.std.proofs.Common.{◌≡◌, drop, length}
use Rattle.c_meaning.specs.Checks.Calls.{same_lengths}
use Rattle.c_types.proofs.calls.same_lengths.Given as goal

abbrev pub invariant-loop-i : goal.invariant-loop-i
invariant-loop-i l = (length l.ns ≡ length l.ms) × (same_lengths (drop l.i l.ns) (drop l.i l.ms) ≡ same_lengths l.ns l.ms)
