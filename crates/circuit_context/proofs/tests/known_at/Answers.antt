use Rattle.std.proofs.Common.{◌≡◌, ◌^◌, ◌-◌, subst, arith}
use Rattle.std.specs.Prelude.{min}
use Rattle.clock_ir.specs.Flows.{known}
use Rattle.clock_ir.specs.ClockRuns.{timed_node}
use Rattle.datapath.specs.Plans.{body_of}
use Rattle.circuit_context.proofs.Early.{early_test}
use Rattle.circuit_context.proofs.tests.known_at.Goals as goal

pub returns : goal.returns
returns c =
    let node = timed_node c.args.node.now in
    let capped : c.test_known.result ≡ min (known (body_of node)) (2 ^ 64 - 1) =
    subst (λ b. c.test_known.result ≡ min (known b) (2 ^ 64 - 1)) c.body_of.ensures (c.test_known.ensures (body_of node).interval) in
    omega (arith, capped, early_test c.args.node.now c.requires)
