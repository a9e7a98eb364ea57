use Rattle.std.proofs.Common.{◌≡◌, ◌++◌, map, drop}
use Rattle.passes.specs.Conversion.Joining as spec
use Rattle.if_convert.specs.Views.{values_of}
use Rattle.if_convert.specs.Entries.{outs_of}
use Rattle.if_convert.proofs.joining.renamed_outs.Given as goal

abbrev pub invariant-loop-out : goal.invariant-loop-out
invariant-loop-out l = l.done.items ++ map (spec.renamed_out (outs_of l.sets) (values_of l.values)) (drop l.out-index l.outs) ≡ map (spec.renamed_out (outs_of l.sets) (values_of l.values)) l.outs
