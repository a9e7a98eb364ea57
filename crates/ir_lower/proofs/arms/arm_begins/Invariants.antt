use Rattle.std.proofs.Common.{◌≡◌, ℕ, false, ◌&&◌, ◌||◌, drop, length, get_or}
use Rattle.std.specs.Prelude.{nat_lt}
use Rattle.passes.specs.Lowering.{is_named}
use Rattle.ir_lower.specs.Arms.{begins_arm}
use Rattle.ir_lower.proofs.arms.arm_begins.Given as goal

abbrev pub invariant-loop-label : goal.invariant-loop-label
invariant-loop-label l = record {
  count : length l.named.items ≡ l.pieces;
  marks : (i : ℕ) → (get_or l.named.items i false || (nat_lt i l.pieces && is_named (drop l.label-index l.labels) i)) ≡ begins_arm l.labels l.pieces i;
}
