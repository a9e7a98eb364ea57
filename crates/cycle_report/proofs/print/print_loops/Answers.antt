use Rattle.std.proofs.Common.{arith}
use Rattle.cycle_report.specs.PlainReport.{loop_of}
use Rattle.cycle_report.specs.ReportText.{loop_lines}
use Rattle.cycle_report.proofs.Appends.{more_mapped, mapped_more}
use Rattle.cycle_report.specs.ReportForm.{FitsLoop}
use Rattle.cycle_report.proofs.print.print_loops.Goals as goal

pub loop-row-preserved : goal.loop-row-preserved
loop-row-preserved c = record {
  text = more_mapped loop_of loop_lines _ _ _ _ _ _ (omega arith) c.row-item.is c.loop-row.invariant.text c.in_ok-print_loop.ensures.text;
  fits = mapped_more FitsLoop loop_of _ c.row-item.result _ (omega arith) c.row-item.is c.loop-row.invariant.fits c.in_ok-print_loop.ensures.fits;
}
