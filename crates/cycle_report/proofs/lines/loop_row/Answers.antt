use Rattle.std.proofs.Common.{refl, codes}
use Rattle.cycle_report.proofs.Reading.{any_follows, view_found, view_stuck, first_stuck, later_stuck, later_found, has_both, passed_as}
use Rattle.cycle_report.proofs.Forms.{some32, some_site, loop_view, newline, some_edges}
use Rattle.cycle_report.specs.PlainReport.{loop_of}
use Rattle.cycle_report.proofs.lines.loop_row.Goals as goal

pub returns-in_err-word : goal.returns-in_err-word
returns-in_err-word c =
    passed_as loop_of _ _ c.from_residual.ensures.1 (λ y e. e) c.in_err-word.ensures
    (λ k. view_stuck (loop_view _) (first_stuck k (has_both some_site (has_both (some32 (codes " ii ")) (has_both (some32 (codes " exit ")) (has_both newline some_edges)))) (λ y v i f. any_follows _)))

pub returns-in_err-at : goal.returns-in_err-at
returns-in_err-at c =
    passed_as loop_of _ _ c.from_residual-in_err-at.ensures.1 (λ y e. e) c.in_err-at.ensures
    (λ k. view_stuck (loop_view _) (later_stuck c.in_ok-word.ensures (first_stuck k (has_both (some32 (codes " ii ")) (has_both (some32 (codes " exit ")) (has_both newline some_edges))) (λ y v i f. refl)) (λ y v i f. any_follows _)))

pub returns-in_err-ii : goal.returns-in_err-ii
returns-in_err-ii c =
    passed_as loop_of _ _ c.from_residual-in_err-ii.ensures.1 (λ y e. e) c.in_err-ii.ensures
    (λ k. view_stuck (loop_view _) (later_stuck c.in_ok-word.ensures (later_stuck c.in_ok-at.ensures (first_stuck k (has_both (some32 (codes " exit ")) (has_both newline some_edges)) (λ y v i f. refl)) (λ y v i f. refl)) (λ y v i f. any_follows _)))

pub returns-in_err-exit : goal.returns-in_err-exit
returns-in_err-exit c =
    passed_as loop_of _ _ c.from_residual-in_err-exit.ensures.1 (λ y e. e) c.in_err-exit.ensures
    (λ k. view_stuck (loop_view _) (later_stuck c.in_ok-word.ensures (later_stuck c.in_ok-at.ensures (later_stuck c.in_ok-ii.ensures (first_stuck k (has_both newline some_edges) (λ y v i f. refl)) (λ y v i f. refl)) (λ y v i f. refl)) (λ y v i f. any_follows _)))

pub returns-in_err-word-2 : goal.returns-in_err-word-2
returns-in_err-word-2 c =
    passed_as loop_of _ _ c.from_residual-in_err-word-2.ensures.1 (λ y e. e) c.in_err-word-2.ensures
    (λ k. view_stuck (loop_view _) (later_stuck c.in_ok-word.ensures (later_stuck c.in_ok-at.ensures (later_stuck c.in_ok-ii.ensures (later_stuck c.in_ok-exit.ensures (first_stuck k some_edges (λ y v i f. any_follows _)) (λ y v i f. refl)) (λ y v i f. refl)) (λ y v i f. refl)) (λ y v i f. any_follows _)))

pub returns-in_err-cycle : goal.returns-in_err-cycle
returns-in_err-cycle c =
    passed_as loop_of _ _ c.from_residual-in_err-cycle.ensures.1 (λ y e. e) c.in_err-cycle.ensures
    (λ k. view_stuck (loop_view _) (later_stuck c.in_ok-word.ensures (later_stuck c.in_ok-at.ensures (later_stuck c.in_ok-ii.ensures (later_stuck c.in_ok-exit.ensures (later_stuck c.in_ok-word-2.ensures k (λ y v i f. any_follows _)) (λ y v i f. refl)) (λ y v i f. refl)) (λ y v i f. refl)) (λ y v i f. any_follows _)))

pub returns : goal.returns
returns c = view_found (loop_view _) (later_found c.in_ok-word.ensures (later_found c.in_ok-at.ensures (later_found c.in_ok-ii.ensures (later_found c.in_ok-exit.ensures (later_found c.in_ok-word-2.ensures c.in_ok-cycle.ensures (λ y v i f. any_follows _)) (λ y v i f. refl)) (λ y v i f. refl)) (λ y v i f. refl)) (λ y v i f. any_follows _))
