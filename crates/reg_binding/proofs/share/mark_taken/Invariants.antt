use Rattle.std.proofs.Common.{◌≡◌, ℕ, ◌<◌, length, slice_index, slice_index_or, true, false}
use Rattle.reg_binding.specs.Sharing.{Meet, life_at}
use Rattle.reg_binding.proofs.share.mark_taken.Given as goal

abbrev pub invariant-loop-number : goal.invariant-loop-number
invariant-loop-number l = record {
  count : length l.taken ≡ length l.initial.taken;
  all : (i : ℕ) → i < l.number → Meet l.period (life_at l.lives i) l.life → slice_index_or l.taken (slice_index l.choices i) false ≡ true;
  only : (k : ℕ) → slice_index_or l.taken k false ≡ true → (i : ℕ) × (i < l.number) × (slice_index l.choices i ≡ k) × Meet l.period (life_at l.lives i) l.life;
}
