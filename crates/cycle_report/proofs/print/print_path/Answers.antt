use Rattle.std.proofs.Common.{subst}
use Rattle.std.specs.List.{All}
use Rattle.std.proofs.lemmas.List.{take_all}
use Rattle.std.proofs.lemmas.List.Elements.{All-cons}
use Rattle.std.proofs.Common.{arith, codes, ◌++◌, ◌∙◌, ap, sym}
use Rattle.cycle_report.specs.ReportText.{path_text}
use Rattle.std.proofs.lemmas.List.Elements.{All-more}
use Rattle.cycle_report.specs.ReportForm.{FitsPlace}
use Rattle.hls_base.specs.PlaceText.{place_text}
use Rattle.cycle_report.proofs.Appends.{then_text, all_lines, more_lines_at}
use Rattle.cycle_report.proofs.print.print_path.Goals as goal

pub loop-place-preserved : goal.loop-place-preserved
loop-place-preserved c = record {
  text = more_lines_at (λ p. codes "," ++ place_text p) _ _ _ _ _ _ (omega arith) c.loop-place.invariant.text c.in_ok-print_further.ensures.text;
  fits = All-more FitsPlace _ _ record { line = 0; column = 0; part = 0 } (omega arith) c.loop-place.invariant.fits c.in_ok-print_further.ensures.fits;
}

pub returns-clause-text : goal.returns-clause-text
returns-clause-text c =
    then_text _ _ _ _ _ c.in_ok-print_place.ensures.text (all_lines (λ p. codes "," ++ place_text p) _ _ _ _ (omega arith) c.loop-place.invariant.text)
    ∙ ap (λ ps. c.args.out.now.items ++ path_text ps) (sym c.in-Some.ensures.cases.0)

pub returns-clause-fits : goal.returns-clause-fits
returns-clause-fits c = subst (All FitsPlace) (sym c.in-Some.ensures.cases.0)
    (All-cons FitsPlace _ _ c.in_ok-print_place.ensures.fits (subst (All FitsPlace) (take_all _ _ (omega arith)) c.loop-place.invariant.fits))
