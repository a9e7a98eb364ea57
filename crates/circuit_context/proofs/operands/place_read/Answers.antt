use Rattle.std.proofs.Common.{◌∙◌, sym}
use Rattle.clock_ir.specs.Flows.{ready}
use Rattle.clock_ir.specs.ClockRuns.{timed_node}
use Rattle.datapath.specs.Plans.{body_of}
use Rattle.circuit_context.proofs.Chains.{no_interval}
use Rattle.circuit_context.proofs.operands.place_read.Goals as goal

pub returns-then-interval-eq0 : goal.returns-then-interval-eq0
returns-then-interval-eq0 c =
    let b = body_of (timed_node c.args.node.now) in
    no_interval b.interval (ready b c.args.op) c.args.time c.args.distance (sym c.interval_of-interval.ensures ∙ c.if-interval-eq0.true)
