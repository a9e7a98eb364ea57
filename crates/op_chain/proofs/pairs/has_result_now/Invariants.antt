use Rattle.std.proofs.Common.{◌≡◌, drop}
use Rattle.std.specs.List.{list_any}
use Rattle.op_chain.specs.Reads.{is_result_now}
use Rattle.op_chain.proofs.pairs.has_result_now.Given as goal

abbrev pub invariant-loop-operand : goal.invariant-loop-operand
invariant-loop-operand l = list_any (is_result_now l.index) (drop l.operand-index l.operands) ≡ list_any (is_result_now l.index) l.operands
