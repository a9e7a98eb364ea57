use Rattle.std.proofs.Common.{refl}
use Rattle.cycle_report.proofs.Reading.{any_follows, view_found, view_stuck, first_stuck, later_stuck, later_found, has_both, passed}
use Rattle.cycle_report.proofs.Forms.{some_site, some_kind, cost_view, newline, blank}
use Rattle.cycle_report.proofs.lines.cost.Goals as goal

pub returns-in_err-cost : goal.returns-in_err-cost
returns-in_err-cost c =
    passed _ _ c.from_residual.ensures.1 (λ y e. e) c.in_err-cost.ensures
    (λ k. view_stuck (cost_view _) (first_stuck k (has_both blank (has_both some_kind (has_both blank (has_both some_site newline)))) (λ y v i f. refl)))

pub returns-in_err-word : goal.returns-in_err-word
returns-in_err-word c =
    passed _ _ c.from_residual-in_err-word.ensures.1 (λ y e. e) c.in_err-word.ensures
    (λ k. view_stuck (cost_view _) (later_stuck c.in_ok-cost.ensures (first_stuck k (has_both some_kind (has_both blank (has_both some_site newline))) (λ y v i f. any_follows _)) (λ y v i f. refl)))

pub returns-in_err-kind : goal.returns-in_err-kind
returns-in_err-kind c =
    passed _ _ c.from_residual-in_err-kind.ensures.1 (λ y e. e) c.in_err-kind.ensures
    (λ k. view_stuck (cost_view _) (later_stuck c.in_ok-cost.ensures (later_stuck c.in_ok-word.ensures (first_stuck k (has_both blank (has_both some_site newline)) (λ y v i f. refl)) (λ y v i f. any_follows _)) (λ y v i f. refl)))

pub returns-in_err-word-2 : goal.returns-in_err-word-2
returns-in_err-word-2 c =
    passed _ _ c.from_residual-in_err-word-2.ensures.1 (λ y e. e) c.in_err-word-2.ensures
    (λ k. view_stuck (cost_view _) (later_stuck c.in_ok-cost.ensures (later_stuck c.in_ok-word.ensures (later_stuck c.in_ok-kind.ensures (first_stuck k (has_both some_site newline) (λ y v i f. any_follows _)) (λ y v i f. refl)) (λ y v i f. any_follows _)) (λ y v i f. refl)))

pub returns-in_err-at : goal.returns-in_err-at
returns-in_err-at c =
    passed _ _ c.from_residual-in_err-at.ensures.1 (λ y e. e) c.in_err-at.ensures
    (λ k. view_stuck (cost_view _) (later_stuck c.in_ok-cost.ensures (later_stuck c.in_ok-word.ensures (later_stuck c.in_ok-kind.ensures (later_stuck c.in_ok-word-2.ensures (first_stuck k newline (λ y v i f. refl)) (λ y v i f. any_follows _)) (λ y v i f. refl)) (λ y v i f. any_follows _)) (λ y v i f. refl)))

pub returns-in_err-word-3 : goal.returns-in_err-word-3
returns-in_err-word-3 c =
    passed _ _ c.from_residual-in_err-word-3.ensures.1 (λ y e. e) c.in_err-word-3.ensures
    (λ k. view_stuck (cost_view _) (later_stuck c.in_ok-cost.ensures (later_stuck c.in_ok-word.ensures (later_stuck c.in_ok-kind.ensures (later_stuck c.in_ok-word-2.ensures (later_stuck c.in_ok-at.ensures k (λ y v i f. refl)) (λ y v i f. any_follows _)) (λ y v i f. refl)) (λ y v i f. any_follows _)) (λ y v i f. refl)))

pub returns : goal.returns
returns c = view_found (cost_view _) (later_found c.in_ok-cost.ensures (later_found c.in_ok-word.ensures (later_found c.in_ok-kind.ensures (later_found c.in_ok-word-2.ensures (later_found c.in_ok-at.ensures c.in_ok-word-3.ensures (λ y v i f. refl)) (λ y v i f. any_follows _)) (λ y v i f. refl)) (λ y v i f. any_follows _)) (λ y v i f. refl))
