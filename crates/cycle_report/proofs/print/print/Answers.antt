use Rattle.std.proofs.Common.{codes, ◌++◌, ◌∙◌, ap, map, subst}
use Rattle.std.specs.List.{All}
use Rattle.cycle_report.specs.ReportForm.{FitsCost, FitsLoop, FitsMemory}
use Rattle.std.specs.Fmt.{decimal}
use Rattle.cycle_report.specs.PlainReport.{loop_of, plain_of, units_of}
use Rattle.cycle_report.specs.ReportText.{head_lines, init_line, units_line, lines_of, cost_line, loop_lines, memory_line, last_lines}
use Rattle.cycle_report.proofs.Appends.{printed}
use Rattle.cycle_report.proofs.Texts.{last_flat}
use Rattle.cycle_report.proofs.Whole.{one_report}
use Rattle.cycle_report.proofs.print.print.Goals as goal

pub returns-clause-text : goal.returns-clause-text
returns-clause-text c =
    let r = c.args.report.now in
    printed (head_lines r.settings r.formula.base) (init_line r.init) (lines_of cost_line r.formula.rows.items) (lines_of loop_lines (map loop_of r.loops.items))
    (units_line (units_of r)) (lines_of memory_line r.memories.items) (codes "registers ") (decimal r.registers) (codes "\nend\n") (last_lines r.registers) (last_flat r.registers)
    _ _ _ _ _ _ _ _ _ _ c.new-out.ensures.items c.in_ok-print_head.ensures.text c.in_ok-print_init.ensures.text
    (c.in_ok-print_costs.ensures.text ∙ ap (λ x. c.print_init.new.out.items ++ lines_of cost_line x) c.deref.ensures.value)
    (c.in_ok-print_loops.ensures.text ∙ ap (λ x. c.print_costs.new.out.items ++ lines_of loop_lines (map loop_of x)) c.deref-2.ensures.value)
    c.in_ok-print_units.ensures.text
    (c.in_ok-print_memories.ensures.text ∙ ap (λ x. c.print_units.new.out.items ++ lines_of memory_line x) c.deref-3.ensures.value)
    c.in_ok-print_u64.ensures.text c.in_ok-extend_from_slice.ensures.items c.new.ensures

pub returns-clause-related : goal.returns-clause-related
returns-clause-related c = record {
  form = c.requires;
  fits = record {
    base = c.in_ok-print_head.ensures.fits;
    init = c.in_ok-print_init.ensures.fits;
    rows = subst (All FitsCost) c.deref.ensures.value c.in_ok-print_costs.ensures.fits;
    loops = subst (λ rows. All FitsLoop (map loop_of rows)) c.deref-2.ensures.value c.in_ok-print_loops.ensures.fits;
    units = c.in_ok-print_units.ensures.fits;
    memories = subst (All FitsMemory) c.deref-3.ensures.value c.in_ok-print_memories.ensures.fits;
    registers = c.in_ok-print_u64.ensures.fits;
  };
  text = returns-clause-text c;
}

pub returns-clause-only : goal.returns-clause-only
returns-clause-only c = λ other is. one_report c.new.result other (plain_of c.args.report.now) is (returns-clause-related c)
