use Rattle.std.proofs.Common.{ap, ◌∙◌}
use Rattle.verilog_syntax.specs.ModuleViews.{wire_view}
use Rattle.verilog_read.specs.NameTable.{scope_in}
use Rattle.verilog_read.specs.AddressSets.{addresses_in}
use Rattle.verilog_read.specs.Numbers.{declared_bits}
use Rattle.verilog_read.specs.Earliest.{noted}
use Rattle.verilog_read.specs.Faults.{unless, net_faults, net_fits}
use Rattle.verilog_read.proofs.Loops.{noted_two}
use Rattle.verilog_read.proofs.checks.check_wire.Goals as goal

pub returns : goal.returns
returns c =
    let scope = scope_in c.args.names.now in
    let x = wire_view c.args.x in
    let fits = c.net_fits.ensures ∙ ap (λ n. net_fits scope (addresses_in c.args.addresses.now) n x.net) c.bits_of.ensures in
    noted_two c.args.first.now.found c.check_names.new.first.found c.require.new.self.found (net_faults scope c.args.wire x.net)
    (unless (net_fits scope (addresses_in c.args.addresses.now) (declared_bits x.high) x.net) 53 x.place) c.check_names.ensures
    (c.require.ensures ∙ ap (λ b. noted c.check_names.new.first.found (unless b 53 x.place)) fits)
