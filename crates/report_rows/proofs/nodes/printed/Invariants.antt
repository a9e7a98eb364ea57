use Rattle.std.proofs.Common.{◌≡◌, map, take}
use Rattle.report_rows.specs.Timing.{printed_edge}
use Rattle.report_rows.proofs.nodes.printed.Given as goal

abbrev pub invariant-loop-edge : goal.invariant-loop-edge
invariant-loop-edge l = l.cycle.items ≡ map printed_edge (take l.edge-index l.edges)
