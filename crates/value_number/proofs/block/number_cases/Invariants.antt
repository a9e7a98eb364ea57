use Rattle.std.proofs.Common.{◌≡◌, ◌++◌, map, drop}
use Rattle.passes.specs.Numbering.{renamed}
use Rattle.value_number.specs.Views.{values_of}
use Rattle.value_number.proofs.block.number_cases.Given as goal

abbrev pub invariant-loop-case : goal.invariant-loop-case
invariant-loop-case l = l.done.items ++ map (renamed (values_of l.numbering)) (drop l.case-index l.cases) ≡ map (renamed (values_of l.numbering)) l.cases
