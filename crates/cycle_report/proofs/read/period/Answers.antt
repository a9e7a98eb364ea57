use Rattle.std.proofs.Common.{◌∙◌, sym}
use Rattle.cycle_report.specs.Forms as forms
use Rattle.cycle_report.proofs.Reading.{view_found, view_stuck, joined}
use Rattle.cycle_report.proofs.Atoms.{nothing_found}
use Rattle.cycle_report.proofs.Forms.{period_none, period_some}
use Rattle.cycle_report.proofs.read.period.Goals as goal

pub returns-then-not-is_at : goal.returns-then-not-is_at
returns-then-not-is_at c = view_found (period_none _ (sym c.is_at.ensures ∙ c.if-not-is_at.true)) (nothing_found _)

pub returns : goal.returns
returns c =
    let v = period_some c.args.cursor.now (sym c.is_at.ensures ∙ c.if-not-is_at.false) in
    joined forms.period _ c.count_u32.result c.count_u32.ensures (λ x k. view_found v k) (λ k. view_stuck v k)
