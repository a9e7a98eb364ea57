use Rattle.std.proofs.Common.{◌≡◌, ◌++◌, map, drop}
use Rattle.verilog_syntax.specs.ModuleViews.{declared_view, drive_view}
use Rattle.verilog_read.specs.NameTable.{scope_in}
use Rattle.verilog_read.specs.Circuit.{regs_from}
use Rattle.verilog_read.proofs.circuit.regs_of.Given as goal

abbrev pub invariant-loop-i : goal.invariant-loop-i
invariant-loop-i l = l.all.items ++ regs_from (scope_in l.names) (map drive_view l.drives) l.slots l.i (map declared_view (drop l.i l.regs)) ≡ regs_from (scope_in l.names) (map drive_view l.drives) l.slots 0 (map declared_view l.regs)
