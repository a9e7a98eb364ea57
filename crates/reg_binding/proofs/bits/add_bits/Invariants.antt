use Rattle.std.proofs.Common.{◌≡◌, ℕ, ◌<◌, ◌≤◌, true, false, length, get_or}
use Rattle.std.specs.Prelude.{bit_or}
use Rattle.reg_binding.specs.Sets.{free_bits}
use Rattle.reg_binding.proofs.bits.add_bits.Given as goal

abbrev pub invariant-loop-index : goal.invariant-loop-index
invariant-loop-index l = record {
  count : length l.words.items ≡ length l.initial.words.items;
  added : (k : ℕ) → k < l.index → get_or l.words.items k 0 ≡ bit_or (get_or l.initial.words.items k 0) (get_or l.others k 0);
  left : (k : ℕ) → l.index ≤ k → get_or l.words.items k 0 ≡ get_or l.initial.words.items k 0;
  same : l.more ≡ false → l.words ≡ l.initial.words;
  fewer : l.more ≡ true → free_bits l.words.items < free_bits l.initial.words.items;
}
