use Rattle.std.proofs.Common.{subst}
use Rattle.std.specs.List.{All}
use Rattle.cycle_report.specs.ReportForm.{FitsPlace}
use Rattle.std.proofs.Common.{codes, ◌++◌, ◌∙◌, ap}
use Rattle.cycle_report.specs.ReportText.{path_text}
use Rattle.cycle_report.proofs.Appends.{then_number, then_text}
use Rattle.cycle_report.proofs.print.print_cost.Goals as goal

pub returns-clause-text : goal.returns-clause-text
returns-clause-text c =
    then_number _ _ _ (codes "cost ") _ _ c.in_ok-print_u64.ensures.text
    (then_text _ _ _ (codes " ") _ c.in_ok-extend_from_slice.ensures.items
    (then_text _ _ _ _ _ (c.in_ok-extend_from_slice-2.ensures.items ∙ ap (λ t. c.extend_from_slice.new.self.items ++ t) c.kind_text.ensures)
    (then_text _ _ _ (codes " ") _ c.in_ok-extend_from_slice-3.ensures.items
    (then_text _ _ _ _ _ c.in_ok-print_place.ensures.text
    (then_text _ _ _ (codes " ") _ c.in_ok-extend_from_slice-4.ensures.items
    (then_text _ _ _ _ _ (c.in_ok-print_path.ensures.text ∙ ap (λ t. c.extend_from_slice-4.new.self.items ++ path_text t) c.items.ensures)
    c.in_ok-extend_from_slice-5.ensures.items))))))

pub returns-clause-fits : goal.returns-clause-fits
returns-clause-fits c = record {
  point = record { at = c.in_ok-print_place.ensures.fits; path = subst (All FitsPlace) c.items.ensures c.in_ok-print_path.ensures.fits };
  cost = c.in_ok-print_u64.ensures.fits;
}
