use Rattle.std.proofs.Common.{◌≡◌, ◌<◌, ℕ, length, get_or}
use Rattle.rtl_logic.proofs.Keeping.{marked_before}
use Rattle.rtl_logic.proofs.prune.places_before.Given as goal

abbrev pub invariant-loop-mark : goal.invariant-loop-mark
invariant-loop-mark l = record {
  count : length l.all.items ≡ l.mark-index;
  next : l.next ≡ marked_before l.marks l.mark-index;
  each : (k d : ℕ) → k < l.mark-index → get_or l.all.items k d ≡ marked_before l.marks k;
}
