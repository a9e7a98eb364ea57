use Rattle.std.proofs.Common.{length, map}
use Rattle.cycle_report.specs.PlainReport.{loop_of}
use Rattle.cycle_report.specs.Forms as forms
use Rattle.cycle_report.proofs.Reading.{Begun}
use Rattle.cycle_report.proofs.lines.loops.Given as goal

abbrev pub invariant-rows : goal.invariant-rows
invariant-rows l = Begun 108 forms.loop (map loop_of l.rows.items) l.fn.cursor l.cursor

abbrev pub decreases-rows : goal.decreases-rows
decreases-rows l = length l.cursor
