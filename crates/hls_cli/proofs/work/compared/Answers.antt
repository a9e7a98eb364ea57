use Rattle.std.proofs.Common.{◌∙◌}
use Rattle.cosim_levels.specs.Verdicts.{verdict_of}
use Rattle.hls_cli.specs.Comparisons as comparisons
use Rattle.hls_cli.proofs.work.compared.Goals as goal

pub returns-in_ok-verdict_lines-in-Ok-clause-answer : goal.returns-in_ok-verdict_lines-in-Ok-clause-answer
returns-in_ok-verdict_lines-in-Ok-clause-answer c =
    comparisons.verdict (verdict_of c.in-Ok.verdict) c.in-Ok.ensures.verdict c.verdict_status.ensures.value (c.new.ensures ∙ c.in_ok-verdict_lines-in-Ok.ensures)

pub returns-in_ok-refused-in-Err-Refused-clause-answer : goal.returns-in_ok-refused-in-Err-Refused-clause-answer
returns-in_ok-refused-in-Err-Refused-clause-answer c =
    comparisons.refused c.in-Err-Refused.refusal (rw c.in-Err-Refused.field-0-is at c.in-Err-Refused.ensures.refused)
    c.in_ok-refused-in-Err-Refused.ensures.status c.in_ok-refused-in-Err-Refused.ensures.lines
