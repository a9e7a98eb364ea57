-- The lines of the commands on modules.
use Rattle.std.specs.Prelude.{ℕ, List, [], ◌∷◌, ◌++◌, codes, length}
use Rattle.std.specs.Fmt.{decimal}
use Rattle.hls_base.specs.PlaceText.{place_text}
use Rattle.hls_base.specs.declared.refusal.Refusal.{Refusal}
use Rattle.aig_graph.specs.Graphs.{AndGraph}

-- each number after a blank
abbrev pub wire_numbers : List ℕ → List ℕ
wire_numbers [] = []
wire_numbers (k ∷ ks) = codes " " ++ (decimal k ++ wire_numbers ks)

-- the delay of a path, and the numbers of its wires
abbrev pub path_line : ℕ → List ℕ → List ℕ
path_line delay wires = codes "delay " ++ (decimal delay ++ (codes " path" ++ (wire_numbers wires ++ codes "\n")))

-- the bits of the inputs of a graph, and its latches
abbrev pub blasted_line : AndGraph → List ℕ
blasted_line g = codes "blasted inputs " ++ (decimal g.inputs ++ (codes " latches " ++ (decimal (length g.latches) ++ codes "\n")))

-- the number of stages
abbrev pub linked_line : ℕ → List ℕ
linked_line count = codes "linked " ++ (decimal count ++ codes " stages\n")

abbrev pub module_refusal_line : Refusal → List ℕ
module_refusal_line r = codes "module rule " ++ (decimal r.rule ++ (codes " at " ++ (place_text r.place ++ codes "\n")))
