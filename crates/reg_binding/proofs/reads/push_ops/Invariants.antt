use Rattle.std.proofs.Common.{◌≡◌, ◌++◌, drop}
use Rattle.std.specs.List.{flat_map}
use Rattle.reg_binding.specs.Liveness.{op_reads}
use Rattle.reg_binding.proofs.reads.push_ops.Given as goal

abbrev pub invariant-loop-op : goal.invariant-loop-op
invariant-loop-op g l =
    l.reads.items ++ flat_map op_reads (drop l.op-index l.ops) ≡ l.initial.reads.items ++ flat_map op_reads l.ops
