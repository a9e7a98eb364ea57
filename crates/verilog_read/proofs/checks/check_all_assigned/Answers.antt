use Rattle.std.proofs.Common.{ap, map, ◌∙◌}
use Rattle.verilog_syntax.specs.ModuleViews.{module_view, declared_view, memory_view}
use Rattle.verilog_read.specs.Earliest.{noted}
use Rattle.verilog_read.specs.Faults.{never_faults, declared_names, memory_names}
use Rattle.verilog_read.proofs.Loops.{noted_three}
use Rattle.verilog_read.proofs.checks.check_all_assigned.Goals as goal

pub returns : goal.returns
returns c =
    let m = module_view c.args.module.now in
    noted_three c.args.first.now.found c.check_never.new.first.found c.check_never-2.new.first.found c.check_never_written.new.first.found (never_faults c.args.outputs.now 0 (declared_names m.outputs))
    (never_faults c.args.regs.now 0 (declared_names m.regs)) (never_faults c.args.ports.now 0 (memory_names m.mems))
    (c.check_never.ensures ∙ ap (λ x. noted c.args.first.now.found (never_faults c.args.outputs.now 0 (declared_names (map declared_view x)))) c.deref.ensures.value)
    (c.check_never-2.ensures ∙ ap (λ x. noted c.check_never.new.first.found (never_faults c.args.regs.now 0 (declared_names (map declared_view x)))) c.deref-2.ensures.value)
    (c.check_never_written.ensures ∙ ap (λ x. noted c.check_never-2.new.first.found (never_faults c.args.ports.now 0 (memory_names (map memory_view x)))) c.deref-3.ensures.value)
