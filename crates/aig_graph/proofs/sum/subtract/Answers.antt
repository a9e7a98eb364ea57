use Rattle.std.proofs.lemmas.List.Elements.{All-same}
use Rattle.aig_graph.specs.Making.{gates_of, IsLiteral}
use Rattle.aig_graph.proofs.Totals.{difference_of}
use Rattle.aig_graph.proofs.sum.subtract.Goals as goal

pub sum-requires-clause-second : goal.sum-requires-clause-second
sum-requires-clause-second c = All-same (IsLiteral (gates_of c.args.graph.now)) _ _ c.as_slice.ensures.value (c.in_ok-inverse.ensures.fits (gates_of c.args.graph.now) c.requires.second)

pub returns : goal.returns
returns c = difference_of _ _ c.args.xs.now c.args.ys.now _ _ _ _ c.requires.same c.in_ok-inverse.ensures c.as_slice.ensures.value c.in_ok-total.ensures
