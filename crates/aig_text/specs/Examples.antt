-- A graph with one gate, and its text.
use Rattle.std.specs.Prelude.{◌≡◌, [], ◌∷◌, codes, refl}
use Rattle.aig_graph.specs.Graphs.{AndGraph}
use Rattle.aig_text.specs.GraphText.{numeral, graph_text}

abbrev one_gate : AndGraph
one_gate = record { inputs = 2; latches = []; outputs = 6 ∷ []; ands = record { left = 4; right = 2 } ∷ [] }

pub one_gate_text : graph_text one_gate ≡ codes "aag 3 2 0 1 1\n2\n4\n6\n6 4 2\n"
unfolding numeral
one_gate_text = refl
