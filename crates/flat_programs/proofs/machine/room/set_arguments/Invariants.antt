use Rattle.std.proofs.Common.{◌≡◌, drop, length}
use Rattle.ir_core.specs.FirstContents.{with_arguments}
use Rattle.flat_programs.specs.Machine.Held.{held}
use Rattle.flat_programs.specs.Machine.Sizes.{ParametersThere}
use Rattle.flat_programs.proofs.machine.room.set_arguments.Given as goal

abbrev pub invariant-loop-index : goal.invariant-loop-index
invariant-loop-index l = ParametersThere l.params (length l.initial.variables) → with_arguments (drop l.index l.params) (drop l.index l.scalars) (held l.variables) ≡ with_arguments l.params l.scalars (held l.initial.variables)
