use Rattle.std.proofs.Common.{◌≡◌, ◌++◌, map, drop}
use Rattle.rtl_core.specs.Netlist.{memory_of as netlist_memory}
use Rattle.verilog_syntax.specs.ModuleViews.{memory_view, drive_view}
use Rattle.verilog_read.specs.NameTable.{scope_in}
use Rattle.verilog_read.specs.Circuit.{mems_from}
use Rattle.verilog_read.proofs.circuit.mems_of.Given as goal

abbrev pub invariant-loop-i : goal.invariant-loop-i
invariant-loop-i l = map netlist_memory l.all.items ++ mems_from (scope_in l.names) (map drive_view l.drives) l.slots l.i (map memory_view (drop l.i l.mems)) ≡ mems_from (scope_in l.names) (map drive_view l.drives) l.slots 0 (map memory_view l.mems)
