use Rattle.std.proofs.Common.{Some, ap, ◌∙◌}
use Rattle.clock_ir.specs.ClockRuns.{TimedNode}
use Rattle.datapath.specs.Control.{is_loop}
use Rattle.circuit_control.proofs.bits.is_loop.Goals as goal

pub returns : goal.returns
returns c = λ p names n context stands. c.is_looped.ensures ∙ ap (λ (m : TimedNode). is_loop (Some m)) (c.node_at.ensures p names n context stands)
