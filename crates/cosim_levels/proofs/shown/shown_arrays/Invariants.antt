use Rattle.std.proofs.Common.{◌≡◌, ◌++◌, map, drop}
use Rattle.cosim_levels.specs.Verdicts.{shown_of}
use Rattle.cosim_levels.specs.Comparison.{shown_arrays}
use Rattle.cosim_levels.proofs.ArrayParameters.{arrays_from}
use Rattle.cosim_levels.proofs.shown.shown_arrays.Given as goal

abbrev pub invariant-loop-k : goal.invariant-loop-k
invariant-loop-k l = map shown_of l.all.items ++ shown_arrays (arrays_from l.k l.params) (drop l.array l.arrays) ≡ shown_arrays (arrays_from 0 l.params) l.arrays
