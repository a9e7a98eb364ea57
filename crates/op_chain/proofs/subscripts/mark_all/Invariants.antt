use Rattle.std.proofs.Common.{◌≡◌, drop}
use Rattle.op_chain.specs.Views.{marked_results, marked_variables}
use Rattle.op_chain.proofs.subscripts.mark_all.Given as goal

abbrev pub invariant-loop-operand : goal.invariant-loop-operand
invariant-loop-operand l = record {
  results : marked_results l.results (drop l.operand-index l.operands) ≡ marked_results l.initial.results l.operands;
  variables : marked_variables l.variables (drop l.operand-index l.operands) ≡ marked_variables l.initial.variables l.operands;
}
