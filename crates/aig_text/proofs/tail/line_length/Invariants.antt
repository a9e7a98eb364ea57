use Rattle.std.proofs.Common.{◌≤◌, ◌-◌, IsTrue, take, length}
use Rattle.std.specs.List.{list_all}
use Rattle.aig_text.specs.TextForm.{in_line}
use Rattle.aig_text.proofs.tail.line_length.Given as goal

abbrev pub invariant-loop-n : goal.invariant-loop-n
invariant-loop-n l = IsTrue (list_all in_line (take l.n l.bytes)) × (l.n ≤ length l.bytes)

abbrev pub decreases-loop-n : goal.decreases-loop-n
decreases-loop-n l = length l.bytes - l.n
