use Rattle.std.proofs.Common.{◌≡◌, drop}
use Rattle.op_chain.specs.Views.{counted}
use Rattle.op_chain.proofs.reads.count_all.Given as goal

abbrev pub invariant-loop-operand : goal.invariant-loop-operand
invariant-loop-operand l = counted l.counts (drop l.operand-index l.operands) ≡ counted l.initial.counts l.operands
