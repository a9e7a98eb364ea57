use Rattle.std.proofs.Common.{rules}
use Rattle.std.proofs.lemmas.List.Sorted.{IsNonDecreasingBy-from_sort_by_key}
use Rattle.dep_graph.specs.declared.edge.Edge.{Edge}
use Rattle.unit_binding.proofs.times.sorted_within.Goals as goal

pub returns-clause-sorted : goal.returns-clause-sorted
returns-clause-sorted c = IsNonDecreasingBy-from_sort_by_key (λ (edge : Edge). edge.to) _ c.in_ok-sort_by_key.ensures.sorted (λ a r q k. search rules)
