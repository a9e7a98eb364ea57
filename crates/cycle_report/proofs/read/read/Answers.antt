use Rattle.std.proofs.Common.{◌∙◌, ◌-◌, ap, subst, take, length}
use Rattle.cycle_report.specs.PlainReport.{plain_of}
use Rattle.cycle_report.specs.ReportForm.{IsReport}
use Rattle.cycle_report.specs.Views.{StopsReport}
use Rattle.cycle_report.proofs.Whole.{one_report}
use Rattle.cycle_report.proofs.Ends.{refused_place}
use Rattle.cycle_report.proofs.read.read.Goals as goal

pub returns-in-Ok-clause-only : goal.returns-in-Ok-clause-only
returns-in-Ok-clause-only c = λ other is. one_report _ _ _ is (subst (λ z. IsReport z (plain_of c.in-Ok.report)) c.new-cursor.ensures c.in-Ok.ensures)

pub returns-in-Err-Refused-clause-refused : goal.returns-in-Err-Refused-clause-refused
returns-in-Err-Refused-clause-refused c =
    let bytes = c.args.bytes.now in
    let stops = subst (λ z. StopsReport z c.whole.new.cursor) c.new-cursor.ensures (rw c.in-Err-Refused.field-0-is at c.in-Err-Refused.ensures) in
    rw c.refusal-in-Err-Refused.ensures
    (refused_place bytes c.whole.new.cursor c.split_at.result.0.now _ stops (c.split_at.ensures.front ∙ ap (λ z. take (length bytes - length z) bytes) c.left.ensures) c.if-bytes-gt-LARGEST_REPORT.false c.place_after.ensures.value)
