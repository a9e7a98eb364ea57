use Rattle.std.proofs.Common.{◌≡◌, ℕ, ◌<◌, slice_index, slice_index_or, true, false}
use Rattle.reg_binding.proofs.share.first_free.Given as goal

abbrev pub invariant-loop-number : goal.invariant-loop-number
invariant-loop-number l =
    (k : ℕ) → k < l.number → slice_index l.widths k ≡ l.width → slice_index_or l.taken k false ≡ true
