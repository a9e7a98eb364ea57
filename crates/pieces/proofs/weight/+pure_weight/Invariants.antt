use Rattle.std.proofs.Common.{◌≡◌, ◌+◌, ◌≤◌, drop}
use Rattle.pieces.specs.View.{pure_of, pures_of}
use Rattle.pieces.specs.Weight.{weight, weights}
use Rattle.pieces.specs.declared.pure_expr.Pure.{size-Pure}
use Rattle.pieces.proofs.weight.+pure_weight.Given as goal

abbrev pub invariant-rest_after_pure-chain : goal.invariant-rest_after_pure-chain
invariant-rest_after_pure-chain l = record {
  no_deeper : size-Pure l.part ≤ size-Pure l.fn.pure;
  whole : l.rest + weight (pure_of l.fn.pure) ≡ l.fn.room + weight (pure_of l.part);
}

abbrev pub invariant-rest_after_pures-loop-pure : goal.invariant-rest_after_pures-loop-pure
invariant-rest_after_pures-loop-pure l = l.rest + weights (pures_of l.pures.items) ≡ l.room + weights (pures_of (drop l.pure-index l.pures.items))

abbrev pub decreases-rest_after_pure-chain : goal.decreases-rest_after_pure-chain
decreases-rest_after_pure-chain l = size-Pure l.part
