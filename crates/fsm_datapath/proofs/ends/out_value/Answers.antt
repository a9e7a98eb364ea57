use Rattle.std.proofs.Common.{◌≡◌, ◌∙◌, sym, ap, subst, IfOk}
use Rattle.ir_core.specs.declared.cfg.Node.TheVariants as node
use Rattle.clock_ir.specs.ClockRuns.{TimedNode, timed_node}
use Rattle.rtl_logic.specs.Making.{circuit}
use Rattle.datapath.specs.Cycles.{Cycle}
use Rattle.datapath.specs.Values.{out_value}
use Rattle.circuit_context.specs.Wanted.Logs.{CarriesSome}
use Rattle.fsm_datapath.proofs.Standing.{same_node}
use Rattle.fsm_datapath.proofs.Outs.{out_inside}
use Rattle.fsm_datapath.proofs.ends.out_value.Goals as goal

pub returns-in-Plain : goal.returns-in-Plain
returns-in-Plain c = λ p names n h begun computed answers stands.
    let i = c.args.node.0 in
    let same : timed_node (node.Plain c.in-Plain.field-0) ≡ n = ap timed_node (sym c.in-Plain.is) ∙ same_node p i (timed_node c.node_at.result.now) n (c.node_at.ensures.timed p names h) stands in
    subst (λ (m : TimedNode). IfOk c.last_value.result (λ a. CarriesSome p names (circuit c.args.logic.now) a (λ (x : Cycle). out_value p x i m c.args.out))) same
    (c.last_value.ensures p names h begun computed answers)

pub returns-in-Looped : goal.returns-in-Looped
returns-in-Looped c = λ p names n h begun computed answers stands.
    let i = c.args.node.0 in
    let same : timed_node (node.Looped c.in-Looped.region) ≡ n = ap timed_node (sym c.in-Looped.is) ∙ same_node p i (timed_node c.node_at.result.now) n (c.node_at.ensures.timed p names h) stands in
    subst (λ (m : TimedNode). IfOk c.exit_value.result (λ a. CarriesSome p names (circuit c.args.logic.now) a (λ (x : Cycle). out_value p x i m c.args.out))) same
    (c.exit_value.ensures p names h begun)

pub node_at-requires : goal.node_at-requires
node_at-requires c = out_inside c.args.of.now c.args.node.0 c.args.out c.requires
