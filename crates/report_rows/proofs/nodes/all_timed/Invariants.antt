use Rattle.std.proofs.Common.{map, take}
use Rattle.cycle_report.specs.PlainReport.{loop_of}
use Rattle.report_rows.specs.Timing.{AreTimed}
use Rattle.report_rows.proofs.nodes.all_timed.Given as goal

abbrev pub invariant-loop-node : goal.invariant-loop-node
invariant-loop-node l =
    AreTimed l.memories l.units (take l.node-index l.nodes) l.timed.items (map loop_of l.loops.items)
