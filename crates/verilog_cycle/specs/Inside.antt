-- What the parts of a simulator hold.
use Rattle.std.specs.Prelude.{ℕ, ◌≡◌, ◌<◌, ◌^◌, List, length}
use Rattle.rtl_core.specs.declared.design.Atom.{Atom}
use Rattle.rtl_core.specs.declared.design.Atom.TheVariants as atom
use Rattle.rtl_core.specs.declared.design.Port.{Port}
use Rattle.rtl_core.specs.Netlist.{Netlist}
use Rattle.rtl_core.specs.ClockStep.{State, value_of, input_widths, register_widths, wire_widths, wire_values, Fit, AreMemories}
use Rattle.rtl_core.specs.Valid.{IsValid}
use Rattle.verilog_cycle.specs.declared.values.Values.{Values}

-- the value of an atom
abbrev pub value_in : Values → Atom → ℕ
value_in v a = value_of v.pins.items v.regs.items v.wires.items a

-- an atom that names something that there is
abbrev pub IsThereIn : List ℕ → List ℕ → List ℕ → Atom → Type 0
IsThereIn pins regs wires (atom.Constant bits value) = Unit {0}
IsThereIn pins regs wires (atom.Input k) = k < length pins
IsThereIn pins regs wires (atom.Reg k) = k < length regs
IsThereIn pins regs wires (atom.Wire k) = k < length wires

abbrev pub IsThere : Values → Atom → Type 0
IsThere v a = IsThereIn v.pins.items v.regs.items v.wires.items a

abbrev pub IsWord : Values → Atom → Type 0
IsWord v a = IsThere v a × (value_in v a < 2 ^ 64)

-- values of all inputs, registers and wires, each within its width, and room for the next ones of the registers
pub record AreValues (d : Netlist) (v : Values) : Type 0 where
  pub pins : Fit (input_widths d) v.pins.items
  pub regs : Fit (register_widths d) v.regs.items
  pub wires : Fit (wire_widths d.wires) v.wires.items
  pub next : length v.next.items ≡ length d.regs

-- a port that writes into one of so many words, or into none
pub record PortIsInside (v : Values) (count : ℕ) (p : Port) : Type 0 where
  pub enable : IsThere v p.enable
  pub address : IsWord v p.addr
  pub inside : value_in v p.addr < count
  pub word : IsWord v p.value

abbrev pub state_of : Values → List (List ℕ) → State
state_of v mems = record { regs = v.regs.items; mems = mems }

-- a simulator between two cycles
pub record IsReady (d : Netlist) (v : Values) (mems : List (List ℕ)) : Type 0 where
  pub valid : IsValid d
  pub values : AreValues d v
  pub words : AreMemories d.mems mems

-- the wires have their values in a cycle with these inputs, and registers still hold what they did
pub record Settled (d : Netlist) (s : State) (v : Values) (pins : List ℕ) : Type 0 where
  pub pins_are : v.pins.items ≡ pins
  pub regs : v.regs.items ≡ s.regs
  pub wires : v.wires.items ≡ wire_values d s pins
  pub next : length v.next.items ≡ length d.regs
