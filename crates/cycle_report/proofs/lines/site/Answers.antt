use Rattle.std.proofs.Common.{refl, codes}
use Rattle.cycle_report.proofs.Reading.{any_follows, view_found, view_stuck, first_stuck, later_stuck, later_found, has_both, passed}
use Rattle.cycle_report.proofs.Atoms.{some_word}
use Rattle.cycle_report.proofs.Forms.{some_path, site_view}
use Rattle.cycle_report.proofs.lines.site.Goals as goal

pub returns-in_err-at : goal.returns-in_err-at
returns-in_err-at c =
    passed _ _ c.from_residual.ensures.1 (λ y e. e) c.in_err-at.ensures
    (λ k. view_stuck (site_view _) (first_stuck k (has_both (some_word (codes " ")) some_path) (λ y v i f. refl)))

pub returns-in_err-word : goal.returns-in_err-word
returns-in_err-word c =
    passed _ _ c.from_residual-in_err-word.ensures.1 (λ y e. e) c.in_err-word.ensures
    (λ k. view_stuck (site_view _) (later_stuck c.in_ok-at.ensures (first_stuck k some_path (λ y v i f. any_follows _)) (λ y v i f. refl)))

pub returns-in_err-path : goal.returns-in_err-path
returns-in_err-path c =
    passed _ _ c.from_residual-in_err-path.ensures.1 (λ y e. e) c.in_err-path.ensures
    (λ k. view_stuck (site_view _) (later_stuck c.in_ok-at.ensures (later_stuck c.in_ok-word.ensures k (λ y v i f. any_follows _)) (λ y v i f. refl)))

pub returns : goal.returns
returns c = view_found (site_view _) (later_found c.in_ok-at.ensures (later_found c.in_ok-word.ensures c.in_ok-path.ensures (λ y v i f. any_follows _)) (λ y v i f. refl))
