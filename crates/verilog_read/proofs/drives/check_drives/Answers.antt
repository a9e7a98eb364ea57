use Rattle.rtl_core.proofs.Checks.{map_drop}
use Rattle.verilog_syntax.specs.ModuleViews.{drive_view}
use Rattle.verilog_read.specs.NameTable.{scope_in}
use Rattle.verilog_read.specs.Faults.{Driven}
use Rattle.verilog_read.proofs.Assigning.{drive_on, drives_on}
use Rattle.verilog_read.proofs.drives.check_drives.Goals as goal

pub loop-i-preserved : goal.loop-i-preserved
loop-i-preserved c =
    let scope = scope_in c.args.names.now in
    let left = map_drop drive_view c.args.drives.now c.loop-i.i _ c.loop-i-test.true in
    let s : Driven = record { regs = c.loop-i.regs; ports = c.loop-i.ports; blocks = c.loop-i.blocks; block = c.loop-i.block.now } in (
      drive_on scope s _ c.loop-i.i _ _ _ c.loop-i.first.found c.check_drive.new.first.found _ left c.note_drive-block.ensures (c.check_drive.ensures c.loop-i.ports) c.loop-i.invariant.0,
      drives_on scope s _ c.loop-i.i _ _ _ _ left c.note_drive-block.ensures c.loop-i.invariant.1,
    )
