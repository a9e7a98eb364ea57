use Rattle.std.proofs.Common.{◌≡◌, map, take}
use Rattle.verilog_syntax.specs.ModuleViews.{wire_view}
use Rattle.verilog_read.specs.NameTable.{scope_in}
use Rattle.verilog_read.specs.Circuit.{wire_of}
use Rattle.verilog_read.proofs.circuit.wires_of.Given as goal

abbrev pub invariant-loop-x : goal.invariant-loop-x
invariant-loop-x l = l.all.items ≡ map (wire_of (scope_in l.names)) (map wire_view (take l.x-index l.wires))
