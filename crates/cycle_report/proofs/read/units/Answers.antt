use Rattle.std.proofs.Common.{refl, codes}
use Rattle.cycle_report.proofs.Reading.{view_found, view_stuck, first_stuck, later_stuck, later_found, has_both, passed_as}
use Rattle.cycle_report.proofs.Forms.{some32, newline, units_view}
use Rattle.cycle_report.specs.Views.{units_of_counts}
use Rattle.cycle_report.proofs.read.units.Goals as goal

pub returns-in_err-mul32 : goal.returns-in_err-mul32
returns-in_err-mul32 c =
    passed_as units_of_counts _ _ c.from_residual.ensures.1 (λ y e. e) c.in_err-mul32.ensures
    (λ k. view_stuck (units_view _) (first_stuck k (has_both (some32 (codes " mul64 ")) (has_both (some32 (codes " div32 ")) (has_both (some32 (codes " div64 ")) newline))) (λ y v i f. refl)))

pub returns-in_err-mul64 : goal.returns-in_err-mul64
returns-in_err-mul64 c =
    passed_as units_of_counts _ _ c.from_residual-in_err-mul64.ensures.1 (λ y e. e) c.in_err-mul64.ensures
    (λ k. view_stuck (units_view _) (later_stuck c.in_ok-mul32.ensures (first_stuck k (has_both (some32 (codes " div32 ")) (has_both (some32 (codes " div64 ")) newline)) (λ y v i f. refl)) (λ y v i f. refl)))

pub returns-in_err-div32 : goal.returns-in_err-div32
returns-in_err-div32 c =
    passed_as units_of_counts _ _ c.from_residual-in_err-div32.ensures.1 (λ y e. e) c.in_err-div32.ensures
    (λ k. view_stuck (units_view _) (later_stuck c.in_ok-mul32.ensures (later_stuck c.in_ok-mul64.ensures (first_stuck k (has_both (some32 (codes " div64 ")) newline) (λ y v i f. refl)) (λ y v i f. refl)) (λ y v i f. refl)))

pub returns-in_err-div64 : goal.returns-in_err-div64
returns-in_err-div64 c =
    passed_as units_of_counts _ _ c.from_residual-in_err-div64.ensures.1 (λ y e. e) c.in_err-div64.ensures
    (λ k. view_stuck (units_view _) (later_stuck c.in_ok-mul32.ensures (later_stuck c.in_ok-mul64.ensures (later_stuck c.in_ok-div32.ensures (first_stuck k newline (λ y v i f. refl)) (λ y v i f. refl)) (λ y v i f. refl)) (λ y v i f. refl)))

pub returns-in_err-word : goal.returns-in_err-word
returns-in_err-word c =
    passed_as units_of_counts _ _ c.from_residual-in_err-word.ensures.1 (λ y e. e) c.in_err-word.ensures
    (λ k. view_stuck (units_view _) (later_stuck c.in_ok-mul32.ensures (later_stuck c.in_ok-mul64.ensures (later_stuck c.in_ok-div32.ensures (later_stuck c.in_ok-div64.ensures k (λ y v i f. refl)) (λ y v i f. refl)) (λ y v i f. refl)) (λ y v i f. refl)))

pub returns : goal.returns
returns c = view_found (units_view _) (later_found c.in_ok-mul32.ensures (later_found c.in_ok-mul64.ensures (later_found c.in_ok-div32.ensures (later_found c.in_ok-div64.ensures c.in_ok-word.ensures (λ y v i f. refl)) (λ y v i f. refl)) (λ y v i f. refl)) (λ y v i f. refl))
