-- The parts of a finished graph, and what they say of it.
use Rattle.std.specs.Prelude.{◌≡◌, ℕ, List, sum}
use Rattle.std.specs.List.{All}
use Rattle.aig_graph.specs.Graphs.{AndGraph}
use Rattle.aig_graph.specs.Making.{Gates, IsLiteral, Always}
use Rattle.aig_graph.specs.Words.{bits}
use Rattle.rtl_core.specs.Netlist.{Netlist}
use Rattle.rtl_core.specs.ClockStep.{input_widths, outputs, stepped}
use Rattle.rtl_core.specs.Valid.{IsValid}
use Rattle.aig_blast.specs.declared.literals.Literals.{Literals}
use Rattle.aig_blast.specs.Encoding.{state_bits, output_bits, IsGraphOf}
use Rattle.aig_blast.specs.Literals.{state_shown, pins_shown, IsBlasted}

-- The latches take the bits of the contents after the edge, and the outputs are those of the circuit.
pub record IsFinished (d : Netlist) (e : Gates) (t : Literals) (nexts tops : List ℕ) : Type 0 where
  pub blasted : IsBlasted d d.wires e t
  pub latches_fit : All (IsLiteral e) nexts
  pub outputs_fit : All (IsLiteral e) tops
  pub latches : Always e (λ w. bits w nexts ≡ state_bits d (stepped d (state_shown t w) (pins_shown t w)))
  pub outs : Always e (λ w. bits w tops ≡ output_bits d (outputs d (state_shown t w) (pins_shown t w)))

abbrev pub finished_graph : Netlist → Gates → List ℕ → List ℕ → AndGraph
finished_graph d e latches outs = record { inputs = sum (input_widths d); latches = latches; outputs = outs; ands = e.ands }

-- From the same bits, for all contents and all pins, such a graph gives the outputs of its circuit in every cycle.
abbrev pub FinishedGraphsFollow : Type 0
FinishedGraphsFollow = (d : Netlist) (e : Gates) (t : Literals) (latches outs : List ℕ) → IsValid d → IsFinished d e t latches outs → IsGraphOf d (finished_graph d e latches outs)
