use Rattle.std.proofs.Common.{◌≡◌}
use Rattle.cycle_report.proofs.KindWords.{Tried}
use Rattle.cycle_report.proofs.lines.kind.Given as goal

abbrev pub invariant-loop-kind : goal.invariant-loop-kind
invariant-loop-kind l = (l.cursor ≡ l.fn.cursor) × Tried l.fn.cursor l.kind-items l.kind-index l.most
