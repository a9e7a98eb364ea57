-- The order of constraints does not matter.
use Rattle.std.proofs.Common.{ℕ, List}
use Rattle.std.specs.List.Sorted.{IsPermutation}
use Rattle.std.proofs.lemmas.List.Sorted.{All-permutation, IsPermutation-sym}
use Rattle.diff_solve.specs.declared.solve.Constraint.{Constraint}
use Rattle.diff_solve.specs.Times.{Meets, Solves, IsBelowAll}

pub solves_permuted : (n : ℕ) (cs ds : List Constraint) (times : List ℕ) → IsPermutation cs ds → Solves n cs times → Solves n ds times
solves_permuted n cs ds times p s = record {
  count = s.count;
  start = s.start;
  meets = All-permutation (Meets times) cs ds p s.meets;
}

pub below_permuted : (n : ℕ) (cs ds : List Constraint) (times : List ℕ) → IsPermutation cs ds → IsBelowAll n cs times → IsBelowAll n ds times
below_permuted n cs ds times p b other s v v_in = b other (solves_permuted n ds cs other (IsPermutation-sym cs ds p) s) v v_in
