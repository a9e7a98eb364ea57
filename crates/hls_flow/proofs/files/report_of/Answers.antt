use Rattle.std.proofs.Common.{◌≡◌, true, false, refl, sym, ◌∙◌}
use Rattle.cycle_report.specs.PlainReport.{plain_of}
use Rattle.hls_flow.specs.Verdicts.{no_report, other_function}
use Rattle.hls_flow.proofs.files.report_of.Goals as goal

pub returns-then-is_same-clause-found : goal.returns-then-is_same-clause-found
returns-then-is_same-clause-found c = record {
  is = rw c.items.ensures at c.in-Ok.ensures.read;
  small = rw c.items.ensures at c.in-Ok.ensures.small;
  named = c.if-is_same.ensures.0 refl ∙ c.items-2.ensures;
}

pub returns-else-is_same-clause-refused : goal.returns-else-is_same-clause-refused
returns-else-is_same-clause-refused c =
    other_function (plain_of c.in-Ok.report) (rw c.items.ensures at c.in-Ok.ensures.read) (rw c.items.ensures at c.in-Ok.ensures.small) (λ e. let same : false ≡ true = c.if-is_same.ensures.1 (e ∙ sym c.items-2.ensures) in cc) refl

pub returns-in-Err-Refused-clause-refused : goal.returns-in-Err-Refused-clause-refused
returns-in-Err-Refused-clause-refused c = no_report (rw (c.in-Err-Refused.field-0-is, c.items.ensures) at c.in-Err-Refused.ensures.refused)
