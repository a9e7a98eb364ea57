-- Cycles of a module of a function: the values that a host gives to the inputs, and what the outputs then show. An input that a cycle does not name is low.
use Rattle.std.specs.Prelude.{◌≡◌, ℕ, zero, suc, ◌==◌, List, [], ◌∷◌, replicate, find, Option}
use Rattle.std.specs.List.{range_with_len}
use Rattle.rtl_core.specs.Netlist.{Netlist}
use Rattle.rtl_core.specs.ClockStep.{input_widths, State, stepped, outputs}
use Rattle.verilog_cycle.specs.Simulation.{reduced_pins}

-- a circuit with so many arguments, what it holds, and what its outputs were in the cycle before
pub record Driven : Type 0 where
  pub netlist : Netlist
  pub arguments : ℕ
  pub state : State
  pub outs : List ℕ

-- behind a cycle with these values of the inputs, each modulo its width
abbrev pub clocked : Driven → List ℕ → Driven
clocked s pins = record {
  netlist = s.netlist;
  arguments = s.arguments;
  state = stepped s.netlist s.state (reduced_pins s.netlist pins);
  outs = outputs s.netlist s.state (reduced_pins s.netlist pins);
}

-- behind cycles with these values, one after another
abbrev pub clocked_all : Driven → List (List ℕ) → Driven
clocked_all s [] = s
clocked_all s (pins ∷ rest) = clocked_all (clocked s pins) rest

-- the inputs in order: reset, start, h_en, h_we, h_sel, h_addr, h_wdata, and the arguments
abbrev pub low_row : ℕ → List ℕ
low_row n = 0 ∷ 0 ∷ 0 ∷ 0 ∷ 0 ∷ 0 ∷ 0 ∷ replicate n 0

abbrev pub reset_row : ℕ → List ℕ
reset_row n = 1 ∷ 0 ∷ 0 ∷ 0 ∷ 0 ∷ 0 ∷ 0 ∷ replicate n 0

abbrev pub start_row : List ℕ → List ℕ
start_row arguments = 0 ∷ 1 ∷ 0 ∷ 0 ∷ 0 ∷ 0 ∷ 0 ∷ arguments

abbrev pub write_row : ℕ → ℕ → ℕ → ℕ → List ℕ
write_row n array address word = 0 ∷ 0 ∷ 1 ∷ 1 ∷ array ∷ address ∷ word ∷ replicate n 0

abbrev pub read_row : ℕ → ℕ → ℕ → List ℕ
read_row n array address = 0 ∷ 0 ∷ 1 ∷ 0 ∷ array ∷ address ∷ 0 ∷ replicate n 0

-- behind so many cycles in which all inputs are low
abbrev pub waited : Driven → ℕ → Driven
waited s zero = s
waited s (suc k) = clocked (waited s k) (low_row s.arguments)

-- the first of so many such cycles in which an output is high, counted from 1
abbrev pub first_high : (List ℕ → ℕ) → Driven → ℕ → Option ℕ
first_high pin s cycles = find (λ k. pin (waited s k).outs == 1) (range_with_len 1 cycles)

-- behind a cycle in which the host asks for an element, and one in which it is shown
abbrev pub asked : Driven → ℕ → ℕ → Driven
asked s array address = clocked (clocked s (read_row s.arguments array address)) (low_row s.arguments)

-- the circuit begins with the inputs of the host, which have these widths
pub record HasHostInputs (d : Netlist) : Type 0 where
  pub arguments : List ℕ
  pub widths : input_widths d ≡ 1 ∷ 1 ∷ 1 ∷ 1 ∷ 5 ∷ 16 ∷ 64 ∷ arguments
