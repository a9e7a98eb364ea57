use Rattle.std.proofs.Common.{length}
use Rattle.cycle_report.specs.Forms as forms
use Rattle.cycle_report.proofs.Reading.{Begun}
use Rattle.cycle_report.proofs.lines.costs.Given as goal

abbrev pub invariant-rows : goal.invariant-rows
invariant-rows l = Begun 99 forms.cost l.rows.items l.fn.cursor l.cursor

abbrev pub decreases-rows : goal.decreases-rows
decreases-rows l = length l.cursor
