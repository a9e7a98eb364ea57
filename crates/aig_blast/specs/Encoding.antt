-- The bits of the pins and contents of a circuit, and when a graph follows a circuit.
use Rattle.std.specs.Prelude.{◌≡◌, ℕ, zero, suc, ◌/◌, ◌%◌, ◌==◌, Bool, List, [], ◌∷◌, ◌++◌, map, length, sum}
use Rattle.std.specs.List.{All, flat_map}
use Rattle.aig_graph.specs.Graphs.{AndGraph, graph_run}
use Rattle.aig_graph.specs.Graphs as graphs
use Rattle.rtl_core.specs.declared.design.OutPin.{OutPin}
use Rattle.rtl_core.specs.Netlist.{Netlist, Memory}
use Rattle.rtl_core.specs.ClockStep.{State, input_widths, register_widths, outputs, stepped, IsState, ArePins}
use Rattle.aig_blast.specs.Weight.{latch_count}

-- the lowest n bits of a number, the lowest first
abbrev pub word_bits : ℕ → ℕ → List Bool
word_bits zero x = []
word_bits (suc n) x = (x % 2 == 1) ∷ word_bits n (x / 2)

-- the bits of numbers of these widths
abbrev pub encoded : List ℕ → List ℕ → List Bool
encoded [] xs = []
encoded (n ∷ ns) [] = []
encoded (n ∷ ns) (x ∷ xs) = word_bits n x ++ encoded ns xs

-- the bits of the words of memories, in order
abbrev pub memory_bits : List Memory → List (List ℕ) → List Bool
memory_bits [] xs = []
memory_bits (m ∷ ms) [] = []
memory_bits (m ∷ ms) (words ∷ mems) = flat_map (word_bits m.bits) words ++ memory_bits ms mems

abbrev pub output_widths : Netlist → List ℕ
output_widths d = map (λ (o : OutPin). o.bits) d.outputs

abbrev pub pin_bits : Netlist → List ℕ → List Bool
pin_bits d pins = encoded (input_widths d) pins

-- the bits of the registers, then of the words of memories
abbrev pub state_bits : Netlist → State → List Bool
state_bits d s = encoded (register_widths d) s.regs ++ memory_bits d.mems s.mems

abbrev pub output_bits : Netlist → List ℕ → List Bool
output_bits d outs = encoded (output_widths d) outs

-- the outputs of a circuit in each cycle, from its contents in the first and the pins in each
abbrev pub circuit_run : Netlist → State → List (List ℕ) → List (List ℕ)
circuit_run d s [] = []
circuit_run d s (pins ∷ rest) = outputs d s pins ∷ circuit_run d (stepped d s pins) rest

-- From the same bits, the outputs of the graph are those of the circuit in every cycle, for all contents and all pins.
abbrev pub GraphFollows : Netlist → AndGraph → Type 0
GraphFollows d g =
    (s : State) (pins : List (List ℕ)) → IsState d s → All (ArePins d) pins → graph_run g (state_bits d s) (map (pin_bits d) pins) ≡ map (output_bits d) (circuit_run d s pins)

-- a valid graph with the inputs and latches of the circuit, that follows it
pub record IsGraphOf (d : Netlist) (g : AndGraph) : Type 0 where
  pub valid : graphs.IsValid g
  pub inputs : g.inputs ≡ sum (input_widths d)
  pub latches : length g.latches ≡ latch_count d
  pub follows : GraphFollows d g
