use Rattle.std.proofs.Common.{◌≡◌, ◌++◌, take, codes}
use Rattle.std.specs.List.{All}
use Rattle.hls_base.specs.PlaceText.{place_text}
use Rattle.cycle_report.specs.ReportForm.{FitsPlace}
use Rattle.cycle_report.specs.ReportText as text
use Rattle.cycle_report.proofs.print.print_path.Given as goal

abbrev pub invariant-loop-place : goal.invariant-loop-place
invariant-loop-place l = record {
  text : l.out.items ≡ l.initial.out.items ++ (text.lines_of (λ p. codes "," ++ place_text p) (take l.place-index l.rest));
  fits : All FitsPlace (take l.place-index l.rest);
}
