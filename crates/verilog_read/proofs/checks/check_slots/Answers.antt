use Rattle.std.proofs.Common.{ap, ◌∙◌, ◌++◌, []}
use Rattle.verilog_syntax.specs.ModuleViews.{module_view}
use Rattle.verilog_read.specs.NameTable.{scope_in}
use Rattle.verilog_read.specs.Earliest.{noted}
use Rattle.verilog_read.specs.Faults.{Driven, assign_faults, after_assigns, drive_faults, after_drives, never_faults, declared_names, memory_names}
use Rattle.verilog_read.proofs.Loops.{noted_three}
use Rattle.verilog_read.proofs.checks.check_slots.Goals as goal

pub returns-clause-faults : goal.returns-clause-faults
returns-clause-faults c =
    let scope = scope_in c.args.names.now in
    let m = module_view c.args.module.now in
    let s : Driven = record { regs = c.args.regs.now; ports = c.args.ports.now; blocks = c.args.blocks.now; block = [] } in
    let after = after_drives scope s 0 m.drives in
    let last = c.check_module_drives.new.first.found in
    let all = c.check_all_assigned.ensures ∙ (ap (λ o. noted last (never_faults o 0 (declared_names m.outputs) ++ (never_faults c.check_module_drives.new.regs 0 (declared_names m.regs) ++ never_faults c.check_module_drives.new.ports 0 (memory_names m.mems)))) c.check_module_assigns.ensures.slots
    ∙ (ap (λ r. noted last (never_faults (after_assigns scope c.args.outputs.now 0 m.assigns) 0 (declared_names m.outputs) ++ (never_faults r 0 (declared_names m.regs) ++ never_faults c.check_module_drives.new.ports 0 (memory_names m.mems)))) c.check_module_drives.ensures.regs
    ∙ ap (λ p. noted last (never_faults (after_assigns scope c.args.outputs.now 0 m.assigns) 0 (declared_names m.outputs) ++ (never_faults after.regs 0 (declared_names m.regs) ++ never_faults p 0 (memory_names m.mems)))) c.check_module_drives.ensures.ports)) in
    noted_three c.args.first.now.found c.check_module_assigns.new.first.found last c.check_all_assigned.new.first.found (assign_faults scope c.args.outputs.now 0 m.assigns) (drive_faults scope s 0 m.drives)
    (never_faults (after_assigns scope c.args.outputs.now 0 m.assigns) 0 (declared_names m.outputs) ++ (never_faults after.regs 0 (declared_names m.regs) ++ never_faults after.ports 0 (memory_names m.mems)))
    c.check_module_assigns.ensures.faults c.check_module_drives.ensures.faults all
