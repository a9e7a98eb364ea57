use Rattle.std.proofs.Common.{◌≡◌, ◌++◌, map, drop}
use Rattle.passes.specs.Conversion.Overlapping as spec
use Rattle.if_convert.specs.Entries.{outs_of}
use Rattle.if_convert.proofs.overlap.carried_outs.Given as goal

abbrev pub invariant-loop-out : goal.invariant-loop-out
invariant-loop-out l = l.done.items ++ map (spec.carried_out (outs_of l.sets)) (drop l.out-index l.outs) ≡ map (spec.carried_out (outs_of l.sets)) l.outs
