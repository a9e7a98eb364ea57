use Rattle.std.proofs.Common.{◌≡◌, ◌^◌, ◌-◌, ◌∙◌, sym, ap, subst, arith}
use Rattle.std.specs.Prelude.{min}
use Rattle.clock_ir.specs.Flows.{TimedBody, ready}
use Rattle.clock_ir.specs.ClockRuns.{timed_node}
use Rattle.datapath.specs.Plans as plans
use Rattle.circuit_context.proofs.Early.{early_node, early_result}
use Rattle.fsm_datapath.proofs.Standing.{body_stands}
use Rattle.fsm_datapath.proofs.nodes.there_at.Goals as goal

pub returns-clause-early : goal.returns-clause-early
returns-clause-early c =
    let n = c.node_at.result.now in
    let b = plans.body_of (timed_node n) in
    let capped : c.ready_at.result ≡ min (ready b c.args.op) (2 ^ 64 - 1) =
    subst (λ b. c.ready_at.result ≡ min (ready b c.args.op) (2 ^ 64 - 1)) c.body_of.ensures (c.ready_at.ensures b.interval) in
    omega (arith, capped, early_result n c.args.op (early_node c.args.of.now.cfg.now c.args.node.0 n c.args.of.now.buildable c.node_at.ensures.stands))

pub returns-clause-ready : goal.returns-clause-ready
returns-clause-ready c = λ p names h.
    let n = c.node_at.result.now in
    let b = plans.body_of (timed_node n) in
    let capped : c.ready_at.result ≡ min (ready b c.args.op) (2 ^ 64 - 1) =
    subst (λ b. c.ready_at.result ≡ min (ready b c.args.op) (2 ^ 64 - 1)) c.body_of.ensures (c.ready_at.ensures b.interval) in
    let early = early_result n c.args.op (early_node c.args.of.now.cfg.now c.args.node.0 n c.args.of.now.buildable c.node_at.ensures.stands) in
    let whole : c.ready_at.result ≡ ready b c.args.op = omega (arith, capped, early) in
    whole ∙ ap (λ (b : TimedBody). ready b c.args.op) (sym (body_stands p c.args.node.0 (timed_node n) (c.node_at.ensures.timed p names h)))
