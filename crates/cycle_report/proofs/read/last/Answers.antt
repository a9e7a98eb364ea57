use Rattle.std.proofs.Common.{refl}
use Rattle.cycle_report.proofs.Reading.{view_found, view_stuck, first_stuck, later_stuck, later_found, passed}
use Rattle.cycle_report.proofs.Forms.{last_view, the_end}
use Rattle.cycle_report.proofs.read.last.Goals as goal

pub returns-in_err-registers : goal.returns-in_err-registers
returns-in_err-registers c =
    passed _ _ c.from_residual.ensures.1 (λ y e. e) c.in_err-registers.ensures
    (λ k. view_stuck (last_view _) (first_stuck k the_end (λ y v i f. refl)))

pub returns-in_err-word : goal.returns-in_err-word
returns-in_err-word c =
    passed _ _ c.from_residual-in_err-word.ensures.1 (λ y e. e) c.in_err-word.ensures
    (λ k. view_stuck (last_view _) (later_stuck c.in_ok-registers.ensures k (λ y v i f. refl)))

pub returns : goal.returns
returns c = view_found (last_view _) (later_found c.in_ok-registers.ensures c.in_ok-word.ensures (λ y v i f. refl))
