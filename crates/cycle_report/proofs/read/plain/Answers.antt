use Rattle.cycle_report.proofs.Reading.{view_found, view_stuck, passed}
use Rattle.cycle_report.proofs.Forms.{plain_view}
use Rattle.cycle_report.proofs.read.plain.Goals as goal

pub returns-in_err-flag : goal.returns-in_err-flag
returns-in_err-flag c = passed _ _ c.from_residual.ensures.1 (λ y e. e) c.in_err-flag.ensures (λ k. view_stuck (plain_view _) k)

pub returns : goal.returns
returns c = view_found (plain_view _) c.in_ok-flag.ensures
