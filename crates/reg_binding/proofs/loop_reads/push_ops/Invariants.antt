use Rattle.std.proofs.Common.{◌≡◌, ◌++◌, drop}
use Rattle.std.specs.List.{flat_map}
use Rattle.reg_binding.specs.Lives as spec
use Rattle.reg_binding.proofs.loop_reads.push_ops.Given as goal

abbrev pub invariant-loop-op : goal.invariant-loop-op
invariant-loop-op l =
    l.reads.items ++ flat_map (spec.iteration_op_reads l.region.body.outs.items l.region.ii) (drop l.op-index l.region.body.ops.items) ≡ l.initial.reads.items ++ flat_map (spec.iteration_op_reads l.region.body.outs.items l.region.ii) l.region.body.ops.items
