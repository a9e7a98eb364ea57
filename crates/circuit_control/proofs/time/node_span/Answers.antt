use Rattle.circuit_control.proofs.time.node_span.Goals as goal

pub returns : goal.returns
returns c = λ p names n context begun stands. (c.span_at-span.ensures p names n context stands, c.in_ok-active.ensures p names n context begun stands)
