use Rattle.std.proofs.Common.{◌≡◌, ◌<◌, ℕ, length, slice_get, Some}
use Rattle.reg_binding.specs.Sets.{has}
use Rattle.circuit_control.proofs.savings.savings.members.Given as goal

abbrev pub invariant-loop-number : goal.invariant-loop-number
invariant-loop-number l = record {
  count : length l.read.items ≡ l.number;
  members : (v : ℕ) → v < l.number → slice_get l.read.items v ≡ Some (has l.set v);
}
