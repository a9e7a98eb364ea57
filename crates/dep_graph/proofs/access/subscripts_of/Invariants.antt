use Rattle.std.proofs.Common.{◌≡◌, map, take}
use Rattle.std.specs.List.{All}
use Rattle.dep_graph.specs.Meetings.{subscript_of}
use Rattle.dep_graph.specs.Sizes.{IsNearSubscript}
use Rattle.dep_graph.proofs.access.subscripts_of.Given as goal

abbrev pub invariant-loop-operand : goal.invariant-loop-operand
invariant-loop-operand l =
    (l.subscripts.items ≡ map (subscript_of l.body l.sums l.op.guard) (take l.operand-index l.operand-items)) × All IsNearSubscript l.subscripts.items
