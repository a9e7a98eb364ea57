use Rattle.std.proofs.Common.{◌≡◌, map, take}
use Rattle.verilog_syntax.specs.ModuleViews.{declared_view}
use Rattle.verilog_read.specs.Circuit.{input_of}
use Rattle.verilog_read.proofs.circuit.inputs_of.Given as goal

abbrev pub invariant-loop-x : goal.invariant-loop-x
invariant-loop-x l = l.pins.items ≡ map input_of (map declared_view (take l.x-index l.inputs))
