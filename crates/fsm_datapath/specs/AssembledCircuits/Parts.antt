-- The parts of a circuit: the registers of a bank, the shared units, the ports of memories and tables, and the outputs.
use Rattle.std.specs.Prelude.{◌≡◌, ℕ, List, [], ◌++◌, length, map, slice_get, Some, None}
use Rattle.std.specs.List.{range_with_len}
use Rattle.ir_core.specs.AddressWords.{AreShort}
use Rattle.rtl_core.specs.Netlist.{Netlist, Memory}
use Rattle.rtl_core.specs.Interface.{HasPins}
use Rattle.datapath.specs.Plans.{Plan, Array, interface}
use Rattle.datapath.specs.Cycles.{Register, Word}
use Rattle.datapath.specs.Netlists.{memory_of}
use Rattle.datapath.specs.Ports.{port_count}
use Rattle.datapath.specs.CircuitWires.Carrying.{IsBegun}
use Rattle.circuit_context.specs.declared.wanted.role.Role.{Role}
use Rattle.circuit_context.specs.Wanted.Roles.{named}
use Rattle.circuit_context.specs.Wanted.Entries.{Entry, all_entries, all_roles}
use Rattle.circuit_context.specs.Wanted.Logs.{IsThere}
use Rattle.circuit_context.specs.Wanted.Driving.{Seen, IsDriven, AreDriven, AreDistinct, ShowsSignal, IsMemory, ShowsOutputs}
use Rattle.circuit_context.specs.declared.bank.bank.Bank.{Bank}
use Rattle.circuit_context.specs.Bank.Banks.{names_of}
use Rattle.circuit_units.specs.declared.units.units.UnitTable.{UnitTable}
use Rattle.circuit_units.specs.declared.units.units.UnitWires.{UnitWires}
use Rattle.circuit_units.specs.Units as units
use Rattle.circuit_units.specs.Units.{AreUnitsOf, registers_of}
use Rattle.circuit_units.specs.declared.memories.memories.PortTable.{PortTable}
use Rattle.circuit_units.specs.Memories as ports
use Rattle.circuit_control.specs.Drives.{IsNoWord}

-- the registers of the bank, and behind them those of the units
abbrev pub whole_names : Plan → Bank → UnitTable → List Register
whole_names p bank table = names_of bank ++ registers_of p table

-- the signals of the units, and behind them those of the ports
abbrev pub whole_signals : UnitTable → PortTable → List Seen
whole_signals table port_table = units.signals_of table ++ ports.signals_of port_table

-- All parts are there: each register but for those of words and of units is driven whatever the signals are, those of words by the signals of ports, those of units by the signals of units.
pub record AreParts (p : Plan) (bank : Bank) (table : UnitTable) (port_table : PortTable) (d : Netlist) : Type 0 where
  pub names : names_of bank ≡ map named (all_roles p bank.gates bank.stages)
  pub distinct : AreDistinct (names_of bank)
  pub pins : HasPins d (interface p)
  pub begun : IsBegun p (whole_names p bank table) d
  pub used : AreUnitsOf p (map (λ (w : UnitWires). w.unit) table.wires.items)
  pub counts : map (λ ports. length ports.items) port_table.ports.items ≡ map (port_count p) (range_with_len 0 (length p.arrays))
  pub driven : (k : ℕ) (r : Role) → slice_get bank.roles.keys k ≡ Some r → IsNoWord r → IsDriven p (whole_names p bank table) [] d k (named r)
  pub words : (k a n : ℕ) → slice_get (names_of bank) k ≡ Some (Word a n) → IsDriven p (whole_names p bank table) (ports.signals_of port_table) d k (Word a n)
  pub units_driven : AreDriven p (whole_names p bank table) (units.signals_of table) d (length (names_of bank)) (registers_of p table)
  pub unit_signals : (k : ℕ) (x : Seen) → slice_get (units.signals_of table) k ≡ Some x → ShowsSignal p (whole_names p bank table) d x
  pub port_signals : (k : ℕ) (x : Seen) → slice_get (ports.signals_of port_table) k ≡ Some x → ShowsSignal p (whole_names p bank table) d x
  pub memories : (a : ℕ) (array : Array) → slice_get p.arrays a ≡ Some array → array.table ≡ None → (m : Memory) × IsMemory p (whole_names p bank table) (ports.signals_of port_table) d a m
  pub only : length d.mems ≡ memory_of p (length p.arrays)
  pub short : (a : ℕ) (array : Array) (table : List ℕ) → slice_get p.arrays a ≡ Some array → array.table ≡ Some table → AreShort array.dims
  pub there : (k : ℕ) (it : Entry) → slice_get (all_entries p bank.gates bank.stages) k ≡ Some it → IsThere (whole_names p bank table) it.target
  pub outputs : ShowsOutputs p (whole_names p bank table) d
