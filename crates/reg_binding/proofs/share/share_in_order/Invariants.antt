use Rattle.std.proofs.Common.{◌≡◌, ℕ, ◌+◌, ◌<◌, ◌≤◌, ◌++◌, List, None, length, slice_index}
use Rattle.reg_binding.specs.Sharing.{IsShared, life_at}
use Rattle.reg_binding.specs.Pools.{IsPool}
use Rattle.reg_binding.proofs.share.share_in_order.Given as goal

abbrev pub invariant-loop-life : goal.invariant-loop-life
invariant-loop-life l = record {
  shared : IsShared None l.lives l.life-index l.widths.items l.choices.items;
  grown : (more : List ℕ) × (l.widths.items ≡ l.initial.widths.items ++ more);
  used : (r : ℕ) → length l.initial.widths.items ≤ r → r < length l.widths.items → (i : ℕ) × (i < l.life-index) × (slice_index l.choices.items i ≡ r);
  pool : (time : ℕ) × IsPool l.lives l.life-index l.choices.items l.widths.items time l.pool
      × ((i : ℕ) → l.life-index ≤ i → i < length l.lives → (life_at l.lives i).width ≡ l.pool.width → time ≤ (life_at l.lives i).start);
  last : (i : ℕ) → i + 1 ≡ l.life-index → (life_at l.lives i).width ≡ l.pool.width;
}
