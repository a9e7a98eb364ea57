use Rattle.std.proofs.Common.{◌≡◌, ◌+◌, ◌-◌, ℕ}
use Rattle.c_machine.specs.State.Objects.{state}
use Rattle.c_meaning.specs.Statement.{zeros}
use Rattle.c_machine.proofs.state.store.write_zeros.Given as goal

abbrev pub invariant-loop-k : goal.invariant-loop-k
invariant-loop-k l =
    (left : ℕ) → zeros (l.count - l.k) l.object (l.element + l.k) (state l.objects.items left) ≡ zeros l.count l.object l.element (state l.initial.objects.items left)
