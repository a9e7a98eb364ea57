use Rattle.aig_graph.specs.Words.{IsNegation}
use Rattle.aig_graph.proofs.constant.negated.Given as goal

abbrev pub invariant-loop-x : goal.invariant-loop-x
invariant-loop-x l = IsNegation l.xs l.x-index l.word.items
