-- Which netlists are the circuit of a plan. A netlist may leave out registers that are not needed and share wires as it likes, but what it holds and shows in each cycle is what the circuit may hold and show.
use Rattle.std.specs.Prelude.{◌≡◌, ℕ, ◌^◌, ◌<◌, List, map, take, count_by, None, is_none}
use Rattle.rtl_core.specs.Netlist.{Netlist}
use Rattle.rtl_core.specs.ClockStep.{State, IsState, ArePins, register_widths, word_at, stepped, outputs}
use Rattle.rtl_core.specs.Interface.{HasPins, HoldArrays}
use Rattle.rtl_logic.specs.Reducing.{IsReducedBy}
use Rattle.datapath.specs.Plans.{Plan, Array, array_at, depth, interface}
use Rattle.datapath.specs.Cycles.{Register, Contents}
use Rattle.datapath.specs.Circuits.{width, Step, Shows}

-- the memory of an array in a netlist; a table has none
abbrev pub memory_of : Plan → ℕ → ℕ
memory_of p a = count_by (λ (b : Array). is_none b.table) (take a p.arrays)

-- The registers of the netlist, by these names, and its memories hold this, and each register a number of its width.
pub record Holds (p : Plan) (names : List Register) (s : State) (x : Contents) : Type 0 where
  pub regs : s.regs ≡ map x.regs names
  pub fit : (r : Register) → x.regs r < 2 ^ width p r
  pub memories : (a address : ℕ) → (array_at p a).table ≡ None → address < 2 ^ depth p a → word_at s.mems (memory_of p a) address ≡ x.memories a address

-- what the circuit holds behind a cycle of the netlist
pub record Follows (p : Plan) (names : List Register) (d : Netlist) (s : State) (pins : List ℕ) (x : Contents) : Type 0 where
  pub after : Contents
  pub step : Step p x pins after
  pub holds : Holds p names (stepped d s pins) after

-- The netlist is the circuit of the plan: its registers are some of the circuit's, and from whatever they hold, they go on as the circuit may.
pub record IsCircuitOf (p : Plan) (d : Netlist) : Type 0 where
  pub pins : HasPins d (interface p)
  pub arrays : HoldArrays d.mems (interface p).arrays
  pub names : List Register
  pub widths : register_widths d ≡ map (width p) names
  pub begins : (s : State) → IsState d s → (x : Contents) × Holds p names s x
  pub shows : (s : State) (pins : List ℕ) (x : Contents) → IsState d s → ArePins d pins → Holds p names s x → Shows p x (outputs d s pins)
  pub goes_on : (s : State) (pins : List ℕ) (x : Contents) → IsState d s → ArePins d pins → Holds p names s x → Follows p names d s pins x

-- ---- the same circuit with fewer registers and wires

-- what is reduced stays the circuit
abbrev pub ReducedIsCircuit : Type 0
ReducedIsCircuit = (p : Plan) (keep : List ℕ) (d e : Netlist) → IsCircuitOf p d → IsReducedBy keep d e → IsCircuitOf p e
