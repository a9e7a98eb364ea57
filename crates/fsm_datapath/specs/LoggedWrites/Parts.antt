-- The parts of a circuit.
use Rattle.std.specs.Prelude.{◌≡◌, ℕ, List, ◌++◌, length, map, slice_get, Some, None}
use Rattle.std.specs.List.{range_with_len}
use Rattle.ir_core.specs.AddressWords.{AreShort}
use Rattle.rtl_core.specs.Netlist.{Netlist, Memory}
use Rattle.datapath.specs.Plans.{Plan, Array}
use Rattle.datapath.specs.Netlists.{memory_of}
use Rattle.datapath.specs.Ports.{port_count}
use Rattle.circuit_context.specs.Wanted.Entries.{Entry, all_entries}
use Rattle.circuit_context.specs.Wanted.Logs.{IsThere}
use Rattle.circuit_context.specs.Wanted.Driving.{Seen}
use Rattle.circuit_units.specs.declared.units.units.UnitWires.{UnitWires}
use Rattle.circuit_units.specs.declared.units.units.UnitTable.{UnitTable}
use Rattle.circuit_units.specs.Units.{AreUnitsOf, registers_of, signals_of}
use Rattle.circuit_units.specs.declared.memories.memories.PortTable.{PortTable}
use Rattle.circuit_units.specs.Memories.{signals_of as port_signals_of}
use Rattle.fsm_datapath.specs.LoggedWrites.Roles.{names_with}

-- the signals of units and ports
abbrev pub all_signals : UnitTable → PortTable → List Seen
all_signals units ports = signals_of units ++ port_signals_of ports

-- A circuit with the registers that its log is for, the units that operations use, all ports of all arrays, and a memory for each array that is no table. Tables have addresses.
pub record HasAllParts (p : Plan) (gates stages : ℕ) (units : UnitTable) (ports : PortTable) (d : Netlist) : Type 0 where
  pub there : (k : ℕ) (it : Entry) → slice_get (all_entries p gates stages) k ≡ Some it → IsThere (names_with p gates stages (registers_of p units)) it.target
  pub units_ : AreUnitsOf p (map (λ (w : UnitWires). w.unit) units.wires.items)
  pub counts : map (λ ports. length ports.items) ports.ports.items ≡ map (port_count p) (range_with_len 0 (length p.arrays))
  pub memories : (a : ℕ) (array : Array) → slice_get p.arrays a ≡ Some array → array.table ≡ None → (m : Memory) × ((slice_get d.mems (memory_of p a) ≡ Some m) × (m.bits ≡ array.bits))
  pub only : length d.mems ≡ memory_of p (length p.arrays)
  pub short : (a : ℕ) (array : Array) (table : List ℕ) → slice_get p.arrays a ≡ Some array → array.table ≡ Some table → AreShort array.dims
