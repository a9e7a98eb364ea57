use Rattle.circuit_control.proofs.Pieces.{node_found}
use Rattle.circuit_control.proofs.bits.node_at.Goals as goal

pub returns : goal.returns
returns c = λ p names n context stands. node_found p names c.args.of.now c.args.number c.index.result.now n context c.requires c.index.ensures stands
