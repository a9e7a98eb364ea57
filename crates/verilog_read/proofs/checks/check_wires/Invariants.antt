use Rattle.std.proofs.Common.{◌≡◌, map, drop}
use Rattle.verilog_syntax.specs.ModuleViews.{wire_view}
use Rattle.verilog_read.specs.NameTable.{scope_in}
use Rattle.verilog_read.specs.AddressSets.{addresses_in}
use Rattle.verilog_read.specs.Earliest.{noted}
use Rattle.verilog_read.specs.Faults.{wire_faults}
use Rattle.verilog_read.proofs.checks.check_wires.Given as goal

abbrev pub invariant-loop-i : goal.invariant-loop-i
invariant-loop-i l =
    noted l.first.found (wire_faults (scope_in l.names) (addresses_in l.addresses) l.i (map wire_view (drop l.i l.wires)))
    ≡ noted l.initial.first.found (wire_faults (scope_in l.names) (addresses_in l.addresses) 0 (map wire_view l.wires))
