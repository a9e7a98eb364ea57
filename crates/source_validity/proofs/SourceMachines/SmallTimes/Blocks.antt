-- The operations of a block that has the least times start early.
use Rattle.std.proofs.Common.{◌+◌, List, length, arith}
use Rattle.std.specs.Prelude.{◌==◌}
use Rattle.std.specs.List.{All}
use Rattle.std.proofs.lemmas.List.Elements.{All-filter}
use Rattle.hls_base.specs.declared.settings.Units.{Units}
use Rattle.ir_core.specs.declared.cfg.Block.{Block}
use Rattle.ir_core.specs.declared.cfg.Memory.{Memory}
use Rattle.ir_core.specs.declared.stamp.Untimed.{Untimed}
use Rattle.ir_core.specs.declared.timed.Timed.{Timed}
use Rattle.dep_graph.specs.declared.edge.Edge.{Edge}
use Rattle.dep_graph.specs.Dependences.{edges_of}
use Rattle.dep_graph.specs.ForwardBodies.{IsForwardBody, IsForwardEdge}
use Rattle.dep_graph.proofs.ForwardEdges.{edges_forward}
use Rattle.unit_binding.proofs.Leading.{orders_forward}
use Rattle.unit_binding.proofs.EarlyTimes.{least_early}
use Rattle.block_schedule.specs.Constraints.{block_constraints}
use Rattle.block_schedule.proofs.Leading.{block_in_range, block_leads_on}
use Rattle.report_rows.specs.Timing.{request_order, edges_within, IsTimedBlock}
use Rattle.reg_binding.specs.SmallTimes.{IsEarlyBody}
use Rattle.source_validity.specs.SourceMachines.SmallTimes.NearOuts.{HasNearOuts}
use Rattle.source_validity.proofs.SourceMachines.SmallTimes.Serving.{by_time}
use Rattle.source_validity.proofs.SourceMachines.SmallTimes.Copies.{within_all, body_early}

pub block_early : (memories : List Memory) (units : Units) (block : Block Untimed) (timed : Block Timed) → IsForwardBody block.body → HasNearOuts block.body → IsTimedBlock memories units block timed → IsEarlyBody timed.body
block_early memories units block timed forward near (binding, (bound, (times, is))) =
    let ops = length block.body.ops.items in
    let edges = edges_within block.body in
    let orders = binding.orders.items in
    let leads : All (IsForwardEdge (ops + 1)) edges = All-filter (λ (e : Edge). e.distance == 0) (IsForwardEdge (ops + 1)) (edges_of block.body) (edges_forward block.body forward) in
    let ordered = orders_forward request_order by_time block.body memories edges units binding forward leads bound in
    let ranks = ordered.leading in
    let early = least_early ranks.0 127 (ops + 1) (omega arith) ranks.1.first (block_constraints edges orders) (block_in_range ops edges orders leads ordered) (block_leads_on ops edges orders leads ordered)
    times is.solves.count is.least in
    let small = forward.small in
    body_early (ops + 1) times binding.unit_of.items (omega (arith, small)) (within_all (ops + 1) times (omega arith) early) block.body timed.body forward near is.body
