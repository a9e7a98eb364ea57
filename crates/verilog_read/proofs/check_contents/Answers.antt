use Rattle.std.proofs.Common.{◌≡◌, ◌∙◌, ap, map}
use Rattle.verilog_syntax.specs.ModuleViews.{module_view, wire_view, drive_view}
use Rattle.verilog_read.specs.NameTable.{scope_in}
use Rattle.verilog_read.specs.AddressSets.{addresses_in}
use Rattle.verilog_read.specs.Earliest.{noted}
use Rattle.verilog_read.specs.Faults.{wire_faults, port_addresses, assignment_faults}
use Rattle.verilog_read.proofs.Loops.{noted_two}
use Rattle.verilog_read.proofs.check_contents.Goals as goal

pub returns-clause-faults : goal.returns-clause-faults
returns-clause-faults c =
    let m = module_view c.args.module.now in
    let scope = scope_in c.args.names.now in
    let start = c.args.first.now.found in
    let same : addresses_in c.in_ok-addresses.addresses ≡ port_addresses scope (map drive_view c.deref.result.now) = λ i k a. c.in_ok-addresses.ensures k a i in
    noted_two start c.check_wires.new.first.found c.check_assignments.new.first.found (wire_faults scope (port_addresses scope m.drives) 0 m.wires) (assignment_faults scope m)
    (c.check_wires.ensures ∙ (ap (λ a. noted start (wire_faults scope a 0 (map wire_view c.deref-2.result.now))) same
    ∙ (ap (λ x. noted start (wire_faults scope (port_addresses scope (map drive_view x)) 0 (map wire_view c.deref-2.result.now))) c.deref.ensures.value
    ∙ ap (λ x. noted start (wire_faults scope (port_addresses scope m.drives) 0 (map wire_view x))) c.deref-2.ensures.value)))
    c.in_ok-assigned.ensures.faults
