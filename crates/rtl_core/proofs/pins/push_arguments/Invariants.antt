use Rattle.std.proofs.Common.{◌≡◌, ◌++◌, take}
use Rattle.rtl_core.specs.Interface.{argument_pins}
use Rattle.rtl_core.specs.FramePins.{scalar_bits}
use Rattle.rtl_core.proofs.pins.push_arguments.Given as goal

abbrev pub invariant-loop-k : goal.invariant-loop-k
invariant-loop-k l = l.all.items ≡ l.initial.all.items ++ argument_pins 0 (scalar_bits l.variables (take l.k l.params))
