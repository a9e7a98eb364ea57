use Rattle.cycle_report.specs.Forms as forms
use Rattle.cycle_report.proofs.Reading.{any_follows, view_found, view_stuck, first_stuck, later_stuck, later_found, passed, joined}
use Rattle.cycle_report.proofs.Forms.{some_place, further_view}
use Rattle.cycle_report.proofs.lines.further_place.Goals as goal

pub returns-in_err-word : goal.returns-in_err-word
returns-in_err-word c =
    passed _ _ c.from_residual.ensures.1 (λ y e. e) c.in_err-word.ensures
    (λ k. view_stuck (further_view _) (first_stuck k some_place (λ y v i f. any_follows _)))

pub returns : goal.returns
returns c =
    joined forms.further _ c.place.result c.place.ensures
    (λ x k. view_found (further_view _) (later_found c.in_ok-word.ensures k (λ y v i f. any_follows _)))
    (λ k. view_stuck (further_view _) (later_stuck c.in_ok-word.ensures k (λ y v i f. any_follows _)))
