use Rattle.std.proofs.Common.{◌≡◌, ◌++◌, map, drop}
use Rattle.passes.specs.Conversion.Overlapping as spec
use Rattle.if_convert.specs.Entries.{outs_of}
use Rattle.if_convert.proofs.overlap.carried_args.Given as goal

abbrev pub invariant-loop-arg : goal.invariant-loop-arg
invariant-loop-arg l = l.done.items ++ map (spec.carried (outs_of l.sets)) (drop l.arg-index l.args) ≡ map (spec.carried (outs_of l.sets)) l.args
