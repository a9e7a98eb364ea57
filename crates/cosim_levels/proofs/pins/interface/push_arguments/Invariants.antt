use Rattle.std.proofs.Common.{◌≡◌, ◌++◌, drop}
use Rattle.rtl_core.specs.Interface.{argument_pins}
use Rattle.cosim_levels.proofs.pins.interface.push_arguments.Given as goal

abbrev pub invariant-loop-k : goal.invariant-loop-k
invariant-loop-k l = l.all.items ++ argument_pins l.k (drop l.k l.scalars) ≡ l.initial.all.items ++ argument_pins 0 l.scalars
