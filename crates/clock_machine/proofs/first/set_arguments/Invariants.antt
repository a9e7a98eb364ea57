use Rattle.std.proofs.Common.{◌≡◌, drop, length}
use Rattle.ir_core.specs.FirstContents.{with_arguments}
use Rattle.clock_machine.specs.Lines.Registers.{held}
use Rattle.clock_machine.specs.Starts.{ParametersThere}
use Rattle.clock_machine.proofs.first.set_arguments.Given as goal

abbrev pub invariant-loop-index : goal.invariant-loop-index
invariant-loop-index l = ParametersThere l.params (length l.initial.variables) → with_arguments (drop l.index l.params) (drop l.index l.scalars) (held l.variables) ≡ with_arguments l.params l.scalars (held l.initial.variables)
