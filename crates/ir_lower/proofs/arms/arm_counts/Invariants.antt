use Rattle.std.proofs.Common.{◌≡◌, ℕ, ◌<◌, length, get_or}
use Rattle.passes.specs.Lowering.{arms_before}
use Rattle.ir_lower.proofs.arms.arm_counts.Given as goal

abbrev pub invariant-loop-i : goal.invariant-loop-i
invariant-loop-i l = record {
  now : l.count ≡ arms_before l.labels l.i;
  as_many : length l.counts.items ≡ l.i;
  counts : (k : ℕ) → k < l.i → get_or l.counts.items k 0 ≡ arms_before l.labels k;
}
