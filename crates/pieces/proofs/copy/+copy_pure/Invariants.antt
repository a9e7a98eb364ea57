use Rattle.std.proofs.Common.{◌≡◌, ◌++◌, map, drop}
use Rattle.pieces.specs.View.{pure_of}
use Rattle.pieces.proofs.copy.+copy_pure.Given as goal

abbrev pub invariant-copy_pures-loop-pure : goal.invariant-copy_pures-loop-pure
invariant-copy_pures-loop-pure l = map pure_of l.all.items ++ map pure_of (drop l.pure-index l.pures.items) ≡ map pure_of l.pures.items
