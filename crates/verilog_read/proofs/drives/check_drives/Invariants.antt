use Rattle.std.proofs.Common.{◌≡◌, [], map, drop}
use Rattle.verilog_syntax.specs.ModuleViews.{drive_view}
use Rattle.verilog_read.specs.NameTable.{scope_in}
use Rattle.verilog_read.specs.Earliest.{noted}
use Rattle.verilog_read.specs.Faults.{drive_faults, after_drives}
use Rattle.verilog_read.proofs.drives.check_drives.Given as goal

abbrev pub invariant-loop-i : goal.invariant-loop-i
invariant-loop-i l =
    (noted l.first.found (drive_faults (scope_in l.names) (record { regs = l.regs; ports = l.ports; blocks = l.blocks; block = l.block }) l.i (map drive_view (drop l.i l.drives)))
    ≡ noted l.initial.first.found (drive_faults (scope_in l.names) (record { regs = l.initial.regs; ports = l.initial.ports; blocks = l.initial.blocks; block = [] }) 0 (map drive_view l.drives)))
    × (after_drives (scope_in l.names) (record { regs = l.regs; ports = l.ports; blocks = l.blocks; block = l.block }) l.i (map drive_view (drop l.i l.drives))
    ≡ after_drives (scope_in l.names) (record { regs = l.initial.regs; ports = l.initial.ports; blocks = l.initial.blocks; block = [] }) 0 (map drive_view l.drives))
