use Rattle.circuit_control.proofs.Pieces.{node_span}
use Rattle.circuit_control.proofs.time.span_at.Goals as goal

pub returns : goal.returns
returns c = λ p names n context stands. node_span p c.args.number c.span.result c.node_at.result.now n stands (c.node_at.ensures p names n context stands) c.span.ensures.value
