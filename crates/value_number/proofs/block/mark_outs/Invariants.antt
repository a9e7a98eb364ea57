use Rattle.std.proofs.Common.{◌≡◌, ℕ, ◌<◌, ◌||◌, false, length, drop, slice_index_or}
use Rattle.passes.specs.Numbering as n
use Rattle.value_number.proofs.block.mark_outs.Given as goal

abbrev pub invariant-loop-out : goal.invariant-loop-out
invariant-loop-out l = record {
  count : length l.marks ≡ length l.initial.marks;
  marks : (i : ℕ) → i < length l.initial.marks →
      (slice_index_or l.marks i false || n.makes_out (drop l.out-index l.outs) i) ≡ (slice_index_or l.initial.marks i false || n.makes_out l.outs i);
}
