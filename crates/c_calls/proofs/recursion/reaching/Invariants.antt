use Rattle.std.proofs.Common.{◌≡◌, ◌≤◌, ◌-◌, ℕ, List, length}
use Rattle.c_calls.specs.Linked.{AreWithin, AreBelow, HasSources}
use Rattle.c_calls.proofs.Rounds.{Reached}
use Rattle.c_calls.proofs.recursion.reaching.Given as goal

abbrev pub invariant-loop-round : goal.invariant-loop-round
invariant-loop-round l = record {
  bound : l.round ≤ l.rounds;
  long : length l.wave.marks.items ≡ length l.rows;
  below : AreBelow (length l.rows) l.wave.front.items;
  reached : (links : List (ℕ × ℕ)) → AreWithin (length l.rows) links → HasSources links (length l.rows) l.rows → Reached links (length l.rows) l.round l.target l.wave.marks.items l.wave.front.items;
}

abbrev pub decreases-loop-round : goal.decreases-loop-round
decreases-loop-round l = l.rounds - l.round
