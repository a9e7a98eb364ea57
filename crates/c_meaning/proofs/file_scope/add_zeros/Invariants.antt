use Rattle.std.proofs.Common.{◌≡◌, ◌++◌, replicate, Some, pos}
use Rattle.c_meaning.proofs.file_scope.add_zeros.Given as goal

abbrev pub invariant-loop-k : goal.invariant-loop-k
invariant-loop-k l =
    l.elements.items ≡ l.initial.elements.items ++ replicate l.k (Some (pos 0))
