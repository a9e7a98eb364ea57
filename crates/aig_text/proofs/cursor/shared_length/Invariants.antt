use Rattle.std.proofs.Common.{◌≡◌, ◌-◌, ◌≤◌, take, length}
use Rattle.aig_text.proofs.cursor.shared_length.Given as goal

abbrev pub invariant-loop-n : goal.invariant-loop-n
invariant-loop-n l = (take l.n l.a ≡ take l.n l.b) × (l.n ≤ length l.a) × (l.n ≤ length l.b)

abbrev pub decreases-loop-n : goal.decreases-loop-n
decreases-loop-n l = length l.a - l.n
