use Rattle.std.proofs.Common.{refl, codes}
use Rattle.cycle_report.proofs.Reading.{view_found, view_stuck, first_stuck, later_stuck, later_found, has_both, passed}
use Rattle.cycle_report.proofs.Forms.{some32, place_view, part_follows, some_part}
use Rattle.cycle_report.proofs.lines.place.Goals as goal

pub returns-in_err-line : goal.returns-in_err-line
returns-in_err-line c =
    passed _ _ c.from_residual.ensures.1 (λ y e. e) c.in_err-line.ensures
    (λ k. view_stuck (place_view _) (first_stuck k (has_both (some32 (codes ":")) some_part) (λ y v i f. refl)))

pub returns-in_err-column : goal.returns-in_err-column
returns-in_err-column c =
    passed _ _ c.from_residual-in_err-column.ensures.1 (λ y e. e) c.in_err-column.ensures
    (λ k. view_stuck (place_view _) (later_stuck c.in_ok-line.ensures (first_stuck k some_part part_follows) (λ y v i f. refl)))

pub returns-in_err-part : goal.returns-in_err-part
returns-in_err-part c =
    passed _ _ c.from_residual-in_err-part.ensures.1 (λ y e. e) c.in_err-part.ensures
    (λ k. view_stuck (place_view _) (later_stuck c.in_ok-line.ensures (later_stuck c.in_ok-column.ensures k part_follows) (λ y v i f. refl)))

pub returns : goal.returns
returns c = view_found (place_view _) (later_found c.in_ok-line.ensures (later_found c.in_ok-column.ensures c.in_ok-part.ensures part_follows) (λ y v i f. refl))
