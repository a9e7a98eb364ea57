use Rattle.std.proofs.Common.{◌≡◌, ◌++◌, map, drop}
use Rattle.passes.specs.Numbering.{renamed}
use Rattle.value_number.specs.Views.{values_of}
use Rattle.value_number.proofs.block.Numbering.mapped.Given as goal

abbrev pub invariant-loop-arg : goal.invariant-loop-arg
invariant-loop-arg l = l.mapped.items ++ map (renamed (values_of l.self)) (drop l.arg-index l.args) ≡ map (renamed (values_of l.self)) l.args
