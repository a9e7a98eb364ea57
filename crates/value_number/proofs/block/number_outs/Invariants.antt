use Rattle.std.proofs.Common.{◌≡◌, ◌++◌, map, drop}
use Rattle.passes.specs.Numbering.{renamed_out}
use Rattle.value_number.specs.Views.{values_of}
use Rattle.value_number.proofs.block.number_outs.Given as goal

abbrev pub invariant-loop-out : goal.invariant-loop-out
invariant-loop-out l = l.done.items ++ map (renamed_out (values_of l.numbering)) (drop l.out-index l.outs) ≡ map (renamed_out (values_of l.numbering)) l.outs
