use Rattle.std.proofs.Common.{arith, subst}
use Rattle.std.proofs.lemmas.List.Elements.{All-more}
use Rattle.cycle_report.specs.ReportForm.{FitsMemory}
use Rattle.cycle_report.specs.ReportText.{memory_line}
use Rattle.cycle_report.proofs.Appends.{more_lines}
use Rattle.cycle_report.proofs.print.print_memories.Goals as goal

pub loop-row-preserved : goal.loop-row-preserved
loop-row-preserved c = record {
  text = more_lines memory_line _ _ _ _ _ _ (omega arith) c.row-item.is c.loop-row.invariant.text c.in_ok-print_memory.ensures.text;
  fits = All-more FitsMemory _ _ c.row-item.result (omega arith) c.loop-row.invariant.fits (subst FitsMemory c.row-item.is c.in_ok-print_memory.ensures.fits);
}
