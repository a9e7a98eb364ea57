use Rattle.std.proofs.Common.{◌≡◌, ◌++◌, map, drop}
use Rattle.passes.specs.Conversion.Joining as spec
use Rattle.if_convert.specs.Views.{values_of}
use Rattle.if_convert.specs.Entries.{outs_of}
use Rattle.if_convert.proofs.joining.renamed_cases.Given as goal

abbrev pub invariant-loop-case : goal.invariant-loop-case
invariant-loop-case l = l.done.items ++ map (spec.renamed (outs_of l.sets) (values_of l.values)) (drop l.case-index l.cases) ≡ map (spec.renamed (outs_of l.sets) (values_of l.values)) l.cases
