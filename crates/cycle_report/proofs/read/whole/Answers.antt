use Rattle.cycle_report.proofs.Ends.{not_empty, is_empty, whole_found, whole_trailing, whole_passed}
use Rattle.cycle_report.proofs.read.whole.Goals as goal

pub returns-in_err-report : goal.returns-in_err-report
returns-in_err-report c = whole_passed _ _ _ c.from_residual.ensures.1 (λ y e. e) c.in_err-report.ensures

pub returns-then-not-is_empty : goal.returns-then-not-is_empty
returns-then-not-is_empty c = whole_trailing _ _ _ c.in_ok-report.ensures (not_empty _ _ _ c.left.ensures c.is_empty.ensures c.if-not-is_empty.true)

pub returns : goal.returns
returns c = whole_found _ _ _ c.in_ok-report.ensures (is_empty _ _ _ c.left.ensures c.is_empty.ensures c.if-not-is_empty.false)
