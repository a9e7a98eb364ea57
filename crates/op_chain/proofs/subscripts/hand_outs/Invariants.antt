use Rattle.std.proofs.Common.{◌≡◌, drop}
use Rattle.op_chain.specs.Subscripts.{outs_hand}
use Rattle.op_chain.specs.Views.{marked_results, marked_variables}
use Rattle.op_chain.proofs.subscripts.hand_outs.Given as goal

abbrev pub invariant-loop-out : goal.invariant-loop-out
invariant-loop-out l = record {
  results : marked_results l.results (outs_hand l.reaching (drop l.out-index l.outs)) ≡ marked_results l.initial.results (outs_hand l.reaching l.outs);
  variables : marked_variables l.variables (outs_hand l.reaching (drop l.out-index l.outs)) ≡ marked_variables l.initial.variables (outs_hand l.reaching l.outs);
}
