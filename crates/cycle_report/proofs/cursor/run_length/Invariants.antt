use Rattle.std.proofs.Common.{◌≤◌, ◌-◌, IsTrue, take, length}
use Rattle.std.specs.List.{list_all}
use Rattle.cycle_report.specs.ReportForm.{is_word_byte}
use Rattle.cycle_report.proofs.cursor.run_length.Given as goal

abbrev pub invariant-loop-n : goal.invariant-loop-n
invariant-loop-n l = IsTrue (list_all is_word_byte (take l.n l.bytes)) × (l.n ≤ length l.bytes) × (l.n ≤ l.most)

abbrev pub decreases-loop-n : goal.decreases-loop-n
decreases-loop-n l = length l.bytes - l.n
