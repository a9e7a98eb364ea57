use Rattle.std.proofs.Common.{refl, arith}
use Rattle.aig_graph.specs.Making.{gates_of}
use Rattle.aig_graph.proofs.Growing.{gate_made}
use Rattle.aig_graph.proofs.builder.Builder.gate.Goals as goal

pub returns : goal.returns
returns c = λ sound left right.
    let s = c.in_ok-index.ensures.stored in
    gate_made (gates_of c.args.self.now) _ (record { left = c.args.left; right = c.args.right }) s.0 _ _ refl c.in_ok-index.ensures.keys s.1 s.2 (omega arith) (omega arith) sound left right
