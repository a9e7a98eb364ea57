use Rattle.std.proofs.Common.{◌≡◌, ◌++◌, map, drop}
use Rattle.passes.specs.Conversion.Joining as spec
use Rattle.if_convert.specs.Views.{values_of}
use Rattle.if_convert.specs.Entries.{outs_of}
use Rattle.if_convert.proofs.joining.renamed_args.Given as goal

abbrev pub invariant-loop-operand : goal.invariant-loop-operand
invariant-loop-operand l = l.done.items ++ map (spec.renamed (outs_of l.sets) (values_of l.values)) (drop l.operand-index l.operands) ≡ map (spec.renamed (outs_of l.sets) (values_of l.values)) l.operands
