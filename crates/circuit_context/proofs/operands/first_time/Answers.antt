use Rattle.std.proofs.Common.{◌≡◌, ◌^◌, ◌-◌, subst, arith}
use Rattle.std.specs.Prelude.{min}
use Rattle.clock_ir.specs.Flows.{ready}
use Rattle.clock_ir.specs.ClockRuns.{timed_node}
use Rattle.datapath.specs.Plans.{body_of}
use Rattle.circuit_context.proofs.Early.{early_result}
use Rattle.circuit_context.proofs.operands.first_time.Goals as goal

pub returns : goal.returns
returns c =
    let node = timed_node c.args.node.now in
    let capped : c.ready_at.result ≡ min (ready (body_of node) c.args.op) (2 ^ 64 - 1) =
    subst (λ b. c.ready_at.result ≡ min (ready b c.args.op) (2 ^ 64 - 1)) c.body_of.ensures (c.ready_at.ensures (body_of node).interval) in
    omega (arith, capped, early_result c.args.node.now c.args.op c.requires)
