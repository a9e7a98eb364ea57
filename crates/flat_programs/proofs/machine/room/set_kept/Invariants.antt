use Rattle.std.proofs.Common.{◌≡◌, drop, length}
use Rattle.ir_core.specs.FirstContents.{with_kept}
use Rattle.flat_programs.specs.Machine.Held.{held}
use Rattle.flat_programs.specs.Machine.Sizes.{KeptThere}
use Rattle.flat_programs.proofs.machine.room.set_kept.Given as goal

abbrev pub invariant-loop-one : goal.invariant-loop-one
invariant-loop-one l = KeptThere l.kept (length l.initial.variables) → with_kept (drop l.one-index l.kept) (held l.variables) ≡ with_kept l.kept (held l.initial.variables)
