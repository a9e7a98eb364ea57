use Rattle.std.proofs.Common.{◌≡◌, ℕ, ◌<◌, ◌≤◌, ◌++◌, List, length, slice_index}
use Rattle.reg_binding.specs.Sharing.{IsShared}
use Rattle.reg_binding.proofs.share.share_by_comparing.Given as goal

abbrev pub invariant-loop-life : goal.invariant-loop-life
invariant-loop-life l = record {
  shared : IsShared l.period l.lives l.life-index l.widths.items l.choices.items;
  grown : (more : List ℕ) × (l.widths.items ≡ l.initial.widths.items ++ more);
  used : (r : ℕ) → length l.initial.widths.items ≤ r → r < length l.widths.items → (i : ℕ) × (i < l.life-index) × (slice_index l.choices.items i ≡ r);
}
