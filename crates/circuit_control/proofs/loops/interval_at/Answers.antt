use Rattle.std.proofs.Common.{Some, sym, ap, ◌∙◌}
use Rattle.ir_core.specs.declared.cfg.Node.{Node}
use Rattle.ir_core.specs.declared.timed.Timed.{Timed}
use Rattle.clock_ir.specs.ClockRuns.{TimedNode, timed_node}
use Rattle.datapath.specs.Plans.{body_of}
use Rattle.datapath.specs.Control.{is_loop}
use Rattle.circuit_control.proofs.Pieces.{interval_is}
use Rattle.circuit_control.proofs.loops.interval_at.Goals as goal

pub returns-in-Plain : goal.returns-in-Plain
returns-in-Plain c = λ p names n context stands.
    ap (λ (m : TimedNode). is_loop (Some m)) (sym (c.node_at.ensures p names n context stands)) ∙ ap (λ (k : Node Timed). is_loop (Some (timed_node k))) c.in-Plain.is

pub returns-in-Looped : goal.returns-in-Looped
returns-in-Looped c = λ p names n context stands.
    let same = c.node_at.ensures p names n context stands in (
      ap (λ (m : TimedNode). is_loop (Some m)) (sym same) ∙ ap (λ (k : Node Timed). is_loop (Some (timed_node k))) c.in-Looped.is,
      ap (λ (k : Node Timed). (body_of (timed_node k)).interval) (sym c.in-Looped.is) ∙ interval_is p c.args.number c.node_at.result.now n stands same,
    )
