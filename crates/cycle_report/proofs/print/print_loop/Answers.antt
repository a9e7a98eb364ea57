use Rattle.std.proofs.Common.{subst}
use Rattle.std.specs.List.{All}
use Rattle.std.proofs.lemmas.List.{take_all}
use Rattle.cycle_report.specs.ReportForm.{FitsPlace}
use Rattle.std.proofs.Common.{arith, codes, ◌++◌, ◌∙◌, ap, get_or}
use Rattle.std.proofs.lemmas.List.Elements.{All-more}
use Rattle.cycle_report.specs.ReportForm.{FitsEdge}
use Rattle.cycle_report.specs.ReportText.{edge_line, path_text}
use Rattle.cycle_report.proofs.Appends.{then_number, then_text, all_lines, more_lines_at}
use Rattle.cycle_report.proofs.print.print_loop.Goals as goal

pub returns-clause-text : goal.returns-clause-text
returns-clause-text c =
    then_text _ _ _ _ _
    (then_text _ _ _ (codes "loop ") _ c.in_ok-extend_from_slice.ensures.items
    (then_text _ _ _ _ _ c.in_ok-print_place.ensures.text
    (then_text _ _ _ (codes " ") _ c.in_ok-extend_from_slice-2.ensures.items
    (then_text _ _ _ _ _ (c.in_ok-print_path.ensures.text ∙ ap (λ t. c.extend_from_slice-2.new.self.items ++ path_text t) c.items.ensures)
    (then_number _ _ _ (codes " ii ") _ _ c.in_ok-print_u32.ensures.text
    (then_number _ _ _ (codes " exit ") _ _ c.in_ok-print_u32-2.ensures.text c.in_ok-extend_from_slice-3.ensures.items))))))
    (all_lines edge_line _ _ _ _ (omega (arith, c.deref-edge-items.ensures.len)) c.loop-edge.invariant.text)

pub loop-edge-preserved : goal.loop-edge-preserved
loop-edge-preserved c = record {
  text = more_lines_at edge_line _ _ _ _ _ _ (omega (arith, c.deref-edge-items.ensures.len)) c.loop-edge.invariant.text (c.in_ok-print_edge.ensures.text ∙ ap (λ es. c.loop-edge.out.items ++ edge_line (get_or es c.loop-edge.edge-index record { from = 0; to = 0; latency = 0; distance = 0 })) c.deref-edge-items.ensures.value);
  fits = All-more FitsEdge _ _ record { from = 0; to = 0; latency = 0; distance = 0 } (omega (arith, c.deref-edge-items.ensures.len)) c.loop-edge.invariant.fits
      (subst (λ es. FitsEdge (get_or es c.loop-edge.edge-index record { from = 0; to = 0; latency = 0; distance = 0 })) c.deref-edge-items.ensures.value c.in_ok-print_edge.ensures.fits);
}

pub returns-clause-fits : goal.returns-clause-fits
returns-clause-fits c = record {
  point = record { at = c.in_ok-print_place.ensures.fits; path = subst (All FitsPlace) c.items.ensures c.in_ok-print_path.ensures.fits };
  ii = c.in_ok-print_u32.ensures.fits;
  exit = c.in_ok-print_u32-2.ensures.fits;
  cycle = subst (All FitsEdge) (take_all _ _ (omega (arith, c.deref-edge-items.ensures.len))) c.loop-edge.invariant.fits;
}
