-- The memories and ports of a plan.
pub mod Places
use Rattle.std.specs.Prelude.{◌≡◌, ◌≢◌, ◌<◌, ℕ, List, [], ◌∷◌, length, map, flat_map, slice_get, Some, None}
use Rattle.std.specs.List.{enumerate_from, range_with_len}
use Rattle.rtl_core.specs.Netlist.{Netlist, Memory}
use Rattle.rtl_core.proofs.Stability.{Extends}
use Rattle.datapath.specs.Plans.{Plan, Array}
use Rattle.datapath.specs.Cycles.{Register, Word, AddressOf, StoredOf}
use Rattle.datapath.specs.Netlists.{memory_of}
use Rattle.datapath.specs.Ports.{port_count}
use Rattle.datapath.specs.CircuitWires.Carrying.{IsBegun}
use Rattle.circuit_context.specs.Wanted.Driving.{Seen, IsDriven, IsMemory, ShowsSignal}
use Rattle.circuit_units.specs.declared.memories.memories.PortWires.{PortWires}
use Rattle.circuit_units.specs.declared.memories.memories.PortTable.{PortTable}

abbrev pub port_signals : ℕ → ℕ × PortWires → List Seen
port_signals a n = (AddressOf a n.0, n.1.address) ∷ (StoredOf a n.0, n.1.stored) ∷ []

abbrev pub array_signals : ℕ × List PortWires → List Seen
array_signals a = flat_map (port_signals a.0) (enumerate_from 0 a.1)

abbrev pub signals_of : PortTable → List Seen
signals_of table = flat_map array_signals (enumerate_from 0 (map (λ ports. ports.items) table.ports.items))

abbrev pub IsOther : Register → Type 0
IsOther r = (a n : ℕ) → r ≢ Word a n

-- The memories are added, each with its ports, and the registers of the words that are read are driven. All other registers and the outputs stay as they are.
pub record AddsMemories (p : Plan) (names : List Register) (d e : Netlist) (table : PortTable) : Type 0 where
  pub extends : Extends d e
  pub begun : IsBegun p names e
  pub others : (k : ℕ) (r : Register) → slice_get names k ≡ Some r → IsOther r → slice_get e.regs k ≡ slice_get d.regs k
  pub words : (k a n : ℕ) → a < length p.arrays → n < port_count p a → slice_get names k ≡ Some (Word a n) → IsDriven p names (signals_of table) e k (Word a n)
  pub outputs : e.outputs ≡ d.outputs
  pub counts : map (λ ports. length ports.items) table.ports.items ≡ map (port_count p) (range_with_len 0 (length p.arrays))
  pub shown : (k : ℕ) (x : Seen) → slice_get (signals_of table) k ≡ Some x → ShowsSignal p names e x
  pub memories : (a : ℕ) (array : Array) → slice_get p.arrays a ≡ Some array → array.table ≡ None → (m : Memory) × IsMemory p names (signals_of table) e a m
  pub only : length e.mems ≡ memory_of p (length p.arrays)
