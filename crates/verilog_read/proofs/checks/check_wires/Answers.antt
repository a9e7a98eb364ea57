use Rattle.std.proofs.Common.{map, drop, ap, ◌∙◌, ◌+◌, sym}
use Rattle.rtl_core.proofs.Checks.{map_drop}
use Rattle.verilog_syntax.specs.ModuleViews.{wire_view}
use Rattle.verilog_read.specs.NameTable.{scope_in}
use Rattle.verilog_read.specs.AddressSets.{addresses_in}
use Rattle.verilog_read.specs.Earliest.{noted}
use Rattle.verilog_read.specs.Faults.{wire_faults}
use Rattle.verilog_read.proofs.Loops.{none_left, noted_rest}
use Rattle.verilog_read.proofs.checks.check_wires.Goals as goal

pub loop-i-preserved : goal.loop-i-preserved
loop-i-preserved c =
    let faults = wire_faults (scope_in c.args.names.now) (addresses_in c.args.addresses.now) in
    let i = c.loop-i.i in
    noted_rest c.loop-i.first.found c.check_wire.new.first.found _ (faults i (map wire_view (drop i c.args.wires.now))) _ (faults (i + 1) (map wire_view (drop (i + 1) c.args.wires.now)))
    (ap (faults i) (map_drop wire_view c.args.wires.now i _ c.loop-i-test.true)) c.check_wire.ensures c.loop-i.invariant

pub returns : goal.returns
returns c =
    ap (λ xs. noted c.loop-i.first.found (wire_faults (scope_in c.args.names.now) (addresses_in c.args.addresses.now) c.loop-i.i xs)) (sym (none_left wire_view c.args.wires.now c.loop-i.i c.loop-i-test.false))
    ∙ c.loop-i.invariant
