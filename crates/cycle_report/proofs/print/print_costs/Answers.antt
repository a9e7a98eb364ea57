use Rattle.std.proofs.Common.{arith, subst}
use Rattle.std.proofs.lemmas.List.Elements.{All-more}
use Rattle.cycle_report.specs.ReportForm.{FitsCost}
use Rattle.cycle_report.specs.ReportText.{cost_line}
use Rattle.cycle_report.proofs.Appends.{more_lines}
use Rattle.cycle_report.proofs.print.print_costs.Goals as goal

pub loop-row-preserved : goal.loop-row-preserved
loop-row-preserved c = record {
  text = more_lines cost_line _ _ _ _ _ _ (omega arith) c.row-item.is c.loop-row.invariant.text c.in_ok-print_cost.ensures.text;
  fits = All-more FitsCost _ _ c.row-item.result (omega arith) c.loop-row.invariant.fits (subst FitsCost c.row-item.is c.in_ok-print_cost.ensures.fits);
}
