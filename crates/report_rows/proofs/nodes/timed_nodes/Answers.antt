use Rattle.cycle_report.specs.PlainReport.{loop_of}
use Rattle.std.proofs.Common.{map}
use Rattle.report_rows.proofs.Loops.{nodes_timed}
use Rattle.report_rows.proofs.nodes.timed_nodes.Goals as goal

pub returns : goal.returns
returns c =
    nodes_timed c.args.memories.now c.args.units c.args.nodes.now c.in_ok-nodes.field-0.nodes.items (map loop_of c.in_ok-nodes.field-0.loops.items) (map loop_of c.in_ok-sorted.field-0.items)
    c.in_ok-nodes.ensures c.in_ok-sorted.ensures.moved c.in_ok-sorted.ensures.sorted
