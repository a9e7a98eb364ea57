use Rattle.std.proofs.Common.{◌≡◌, ◌<◌, ℕ, true, Some, slice_get}
use Rattle.rtl_core.specs.declared.design.Atom.TheVariants as atom
use Rattle.rtl_core.specs.declared.design.Wire.{Wire}
use Rattle.rtl_logic.specs.Pruning.{Marked, is_unit, IsMarked}
use Rattle.rtl_logic.specs.Marking.{marked_of, search_of, Spreads, StaysIn}
use Rattle.rtl_logic.proofs.prune.Marks.follow_units.Given as goal

abbrev pub invariant-loop-k : goal.invariant-loop-k
invariant-loop-k l = record {
  spreads : Spreads (search_of l.initial.self) (search_of l.self);
  marked : (j : ℕ) (w : Wire) → j < l.k → slice_get l.wires j ≡ Some w → is_unit w ≡ true → IsMarked (marked_of l.self) (atom.Wire j);
  least : (n : Marked) → ((j : ℕ) (w : Wire) → slice_get l.wires j ≡ Some w → is_unit w ≡ true → IsMarked n (atom.Wire j)) → StaysIn n (search_of l.initial.self) (search_of l.self);
}
