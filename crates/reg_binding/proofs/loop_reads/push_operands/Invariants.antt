use Rattle.std.proofs.Common.{◌≡◌, ◌++◌, drop}
use Rattle.std.specs.List.{flat_map}
use Rattle.reg_binding.specs.Lives as spec
use Rattle.reg_binding.proofs.loop_reads.push_operands.Given as goal

abbrev pub invariant-loop-operand : goal.invariant-loop-operand
invariant-loop-operand l =
    l.reads.items ++ flat_map (spec.iteration_reads l.region.body.outs.items l.region.ii l.time) (drop l.operand-index l.operands) ≡ l.initial.reads.items ++ flat_map (spec.iteration_reads l.region.body.outs.items l.region.ii l.time) l.operands
