use Rattle.std.proofs.Common.{◌≡◌, drop}
use Rattle.op_chain.specs.Reads.{out_operands}
use Rattle.op_chain.specs.Views.{counted}
use Rattle.op_chain.proofs.reads.count_outs.Given as goal

abbrev pub invariant-loop-out : goal.invariant-loop-out
invariant-loop-out l = counted l.counts (out_operands (drop l.out-index l.outs)) ≡ counted l.initial.counts (out_operands l.outs)
