use Rattle.aig_text.proofs.tests.one_gate.Goals as goal

pub print-requires : goal.print-requires
print-requires g c = c.in_ok-graph.ensures.read.valid
