-- The same circuit with fewer registers and wires.
use Rattle.std.specs.Prelude.{◌≡◌, ℕ, ◌<◌, List, [], ◌∷◌, map, length, slice_index}
use Rattle.rtl_core.specs.Netlist.{Netlist, Memory}
use Rattle.rtl_core.specs.ClockStep.{State, IsState, ArePins, register_widths, stepped, outputs}
use Rattle.rtl_core.specs.Interface.{outer}

-- the contents of some of the registers
abbrev pub kept_registers : List ℕ → State → State
kept_registers keep s = record { regs = map (λ k. slice_index s.regs k) keep; mems = s.mems }

-- a memory without its ports
abbrev pub sized : Memory → Memory
sized m = record m { ports = [] }

abbrev pub AreBelow : ℕ → List ℕ → Type 0
AreBelow n [] = Unit {0}
AreBelow n (k ∷ ks) = (k < n) × AreBelow n ks

-- The second netlist has some registers of the first one, in this order, and may hold whatever these may hold. In each cycle, from whatever they hold, these registers, the memories and the outputs have the values that they have in the first.
pub record IsReducedBy (keep : List ℕ) (d e : Netlist) : Type 0 where
  pub inputs : e.inputs ≡ d.inputs
  pub pins : map outer e.outputs ≡ map outer d.outputs
  pub memories : map sized e.mems ≡ map sized d.mems
  pub below : AreBelow (length d.regs) keep
  pub widths : register_widths e ≡ map (λ k. slice_index (register_widths d) k) keep
  pub begins : (t : State) → IsState e t → (s : State) × (IsState d s × (kept_registers keep s ≡ t))
  pub shows : (s : State) (pins : List ℕ) → IsState d s → ArePins d pins → outputs e (kept_registers keep s) pins ≡ outputs d s pins
  pub steps : (s : State) (pins : List ℕ) → IsState d s → ArePins d pins → stepped e (kept_registers keep s) pins ≡ kept_registers keep (stepped d s pins)
