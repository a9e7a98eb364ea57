use Rattle.std.proofs.Common.{◌≡◌, ◌<◌, ℕ, false, length, slice_get, Some}
use Rattle.reg_binding.specs.declared.var_set.VarSet.{VarSet}
use Rattle.reg_binding.specs.Sets.{has}
use Rattle.reg_binding.proofs.live.empty_sets.Given as goal

abbrev pub invariant-loop-number : goal.invariant-loop-number
invariant-loop-number l = record {
  count : length l.sets.items ≡ l._number;
  empty : (i : ℕ) (set : VarSet) → slice_get l.sets.items i ≡ Some set → (set.variables ≡ l.variables) × ((n : ℕ) → n < l.variables → has set n ≡ false);
}
