use Rattle.std.proofs.Common.{◌≡◌, drop}
use Rattle.cosim_levels.specs.Comparison.{in_arrays}
use Rattle.cosim_levels.proofs.ArrayParameters.{arrays_from}
use Rattle.cosim_levels.proofs.difference.in_arrays.Given as goal

abbrev pub invariant-loop-k : goal.invariant-loop-k
invariant-loop-k l = in_arrays (arrays_from l.k l.params) (drop l.array l.expected) (drop l.array l.found) ≡ in_arrays (arrays_from 0 l.params) l.expected l.found
