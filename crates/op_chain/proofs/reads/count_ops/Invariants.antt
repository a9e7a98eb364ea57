use Rattle.std.proofs.Common.{◌≡◌, map, drop}
use Rattle.ir_core.specs.Bodies.{op_of}
use Rattle.op_chain.specs.Reads.{ops_operands}
use Rattle.op_chain.specs.Views.{counted}
use Rattle.op_chain.proofs.reads.count_ops.Given as goal

abbrev pub invariant-loop-op : goal.invariant-loop-op
invariant-loop-op l = counted l.counts (ops_operands (map op_of (drop l.op-index l.ops))) ≡ counted l.initial.counts (ops_operands (map op_of l.ops))
