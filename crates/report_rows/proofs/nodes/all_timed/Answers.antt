use Rattle.report_rows.proofs.Loops.{next_node}
use Rattle.report_rows.proofs.nodes.all_timed.Goals as goal

pub loop-node-preserved : goal.loop-node-preserved
loop-node-preserved c =
    next_node c.args.memories.now c.args.units c.args.nodes.now c.loop-node.node-index c.loop-node.timed.items c.push.new.self.items c.loop-node.loops.items c.push_row.new.loops.items
    c.node-item.result c.in_ok-node.node c.in_ok-node.row c.loop-node-test.true c.node-item.is c.loop-node.invariant c.in_ok-node.ensures c.in_ok-push.ensures.items c.in_ok-push_row.ensures
