use Rattle.std.proofs.Common.{◌≡◌, ℕ, ◌<◌, None, drop, length, get_or}
use Rattle.reg_binding.specs.Lives.{last_from, last_read}
use Rattle.reg_binding.proofs.block_reads.last_reads.Given as goal

abbrev pub invariant-loop-read : goal.invariant-loop-read
invariant-loop-read l = record {
  count : length l.last.items ≡ l.count;
  last : (k : ℕ) → k < l.count → last_from (get_or l.last.items k None) (drop l.read-index l.reads) k ≡ last_read l.reads k;
}
