use Rattle.std.proofs.Common.{refl, codes}
use Rattle.cycle_report.proofs.Reading.{view_found, view_stuck, first_stuck, later_stuck, later_found, has_both, passed}
use Rattle.cycle_report.proofs.Forms.{some32, edge_view, newline}
use Rattle.cycle_report.proofs.lines.edge.Goals as goal

pub returns-in_err-from : goal.returns-in_err-from
returns-in_err-from c =
    passed _ _ c.from_residual.ensures.1 (λ y e. e) c.in_err-from.ensures
    (λ k. view_stuck (edge_view _) (first_stuck k (has_both (some32 (codes " ")) (has_both (some32 (codes " ")) (has_both (some32 (codes " ")) newline))) (λ y v i f. refl)))

pub returns-in_err-to : goal.returns-in_err-to
returns-in_err-to c =
    passed _ _ c.from_residual-in_err-to.ensures.1 (λ y e. e) c.in_err-to.ensures
    (λ k. view_stuck (edge_view _) (later_stuck c.in_ok-from.ensures (first_stuck k (has_both (some32 (codes " ")) (has_both (some32 (codes " ")) newline)) (λ y v i f. refl)) (λ y v i f. refl)))

pub returns-in_err-latency : goal.returns-in_err-latency
returns-in_err-latency c =
    passed _ _ c.from_residual-in_err-latency.ensures.1 (λ y e. e) c.in_err-latency.ensures
    (λ k. view_stuck (edge_view _) (later_stuck c.in_ok-from.ensures (later_stuck c.in_ok-to.ensures (first_stuck k (has_both (some32 (codes " ")) newline) (λ y v i f. refl)) (λ y v i f. refl)) (λ y v i f. refl)))

pub returns-in_err-distance : goal.returns-in_err-distance
returns-in_err-distance c =
    passed _ _ c.from_residual-in_err-distance.ensures.1 (λ y e. e) c.in_err-distance.ensures
    (λ k. view_stuck (edge_view _) (later_stuck c.in_ok-from.ensures (later_stuck c.in_ok-to.ensures (later_stuck c.in_ok-latency.ensures (first_stuck k newline (λ y v i f. refl)) (λ y v i f. refl)) (λ y v i f. refl)) (λ y v i f. refl)))

pub returns-in_err-word : goal.returns-in_err-word
returns-in_err-word c =
    passed _ _ c.from_residual-in_err-word.ensures.1 (λ y e. e) c.in_err-word.ensures
    (λ k. view_stuck (edge_view _) (later_stuck c.in_ok-from.ensures (later_stuck c.in_ok-to.ensures (later_stuck c.in_ok-latency.ensures (later_stuck c.in_ok-distance.ensures k (λ y v i f. refl)) (λ y v i f. refl)) (λ y v i f. refl)) (λ y v i f. refl)))

pub returns : goal.returns
returns c = view_found (edge_view _) (later_found c.in_ok-from.ensures (later_found c.in_ok-to.ensures (later_found c.in_ok-latency.ensures (later_found c.in_ok-distance.ensures c.in_ok-word.ensures (λ y v i f. refl)) (λ y v i f. refl)) (λ y v i f. refl)) (λ y v i f. refl))
