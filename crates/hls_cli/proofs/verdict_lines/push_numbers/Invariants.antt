use Rattle.std.proofs.Common.{◌≡◌, ◌++◌, drop}
use Rattle.hls_cli.specs.VerdictLines.{numbers}
use Rattle.hls_cli.proofs.verdict_lines.push_numbers.Given as goal

abbrev pub invariant-loop-value : goal.invariant-loop-value
invariant-loop-value l = l.lines.items ++ numbers (drop l.value-index l.values) ≡ l.initial.lines.items ++ numbers l.values
