use Rattle.std.proofs.Common.{◌≡◌, drop, length}
use Rattle.ir_core.specs.FirstContents.{with_kept}
use Rattle.clock_machine.specs.Lines.Registers.{held}
use Rattle.clock_machine.specs.Starts.{KeptThere}
use Rattle.clock_machine.proofs.first.set_kept.Given as goal

abbrev pub invariant-loop-one : goal.invariant-loop-one
invariant-loop-one l = KeptThere l.kept (length l.initial.variables) → with_kept (drop l.one-index l.kept) (held l.variables) ≡ with_kept l.kept (held l.initial.variables)
