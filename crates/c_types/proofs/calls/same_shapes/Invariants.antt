use Rattle.std.proofs.Common.{◌≡◌, drop, length}
use Rattle.c_meaning.specs.Checks.Calls.{same_shapes}
use Rattle.c_types.proofs.calls.same_shapes.Given as goal

abbrev pub invariant-loop-i : goal.invariant-loop-i
invariant-loop-i l = (length l.ss ≡ length l.ts) × (same_shapes (drop l.i l.ss) (drop l.i l.ts) ≡ same_shapes l.ss l.ts)
