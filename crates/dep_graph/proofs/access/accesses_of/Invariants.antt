use Rattle.std.proofs.Common.{◌≡◌, ◌++◌, map, drop}
use Rattle.std.specs.List.{All}
use Rattle.dep_graph.specs.Meetings.{reach, reaches_from}
use Rattle.dep_graph.specs.Sizes.{IsOfSmallBody}
use Rattle.dep_graph.proofs.access.accesses_of.Given as goal

abbrev pub invariant-loop-number : goal.invariant-loop-number
invariant-loop-number l =
    (map reach l.accesses.items ++ reaches_from l.body l.sums l.number (drop l.number l.body.ops.items) ≡ reaches_from l.body l.sums 0 l.body.ops.items)
    × All IsOfSmallBody l.accesses.items
