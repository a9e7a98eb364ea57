use Rattle.std.proofs.Common.{◌≡◌, ◌++◌, ◌-◌, map, drop, length}
use Rattle.verilog_syntax.specs.ModuleViews.{drive_view}
use Rattle.verilog_read.specs.NameTable.{scope_in}
use Rattle.verilog_read.specs.Circuit.{further_ports, block_ports}
use Rattle.verilog_read.proofs.circuit.block_ports.Given as goal

abbrev pub invariant-loop-i : goal.invariant-loop-i
invariant-loop-i l = l.ports.items ++ further_ports (scope_in l.names) (map drive_view (drop l.i l.drives)) ≡ block_ports (scope_in l.names) (drop l.start (map drive_view l.drives))

abbrev pub decreases-loop-i : goal.decreases-loop-i
decreases-loop-i l = length l.drives - l.i
