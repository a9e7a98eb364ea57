use Rattle.std.proofs.Common.{◌≡◌, map, drop, slice_index_or, None}
use Rattle.c_tree.specs.View.{param_of}
use Rattle.cosim_levels.specs.RunFile.{inputs_from, with_front}
use Rattle.cosim_levels.proofs.read.inputs_of.Given as goal

abbrev pub invariant-loop-k : goal.invariant-loop-k
invariant-loop-k l =
    with_front l.scalars.items l.arrays.items (inputs_from l.line (λ k. slice_index_or l.given k None) l.k (map param_of (drop l.k l.params)))
    ≡ inputs_from l.line (λ k. slice_index_or l.given k None) 0 (map param_of l.params)
