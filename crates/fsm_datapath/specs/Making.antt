-- How a circuit is made, part by part.
use Rattle.std.specs.Prelude.{◌≡◌, ℕ, List, [], length, map, filter, slice_get, Some, None, is_none}
use Rattle.std.specs.List.{range_with_len}
use Rattle.ir_core.specs.declared.cfg.Cfg.{Cfg}
use Rattle.ir_core.specs.declared.cfg.Frame.{Frame}
use Rattle.ir_core.specs.declared.timed.Timed.{Timed}
use Rattle.reg_binding.specs.declared.live.Live.{Live}
use Rattle.reg_binding.specs.declared.registers.Registers.{Registers}
use Rattle.ir_core.specs.AddressWords.{AreShort}
use Rattle.rtl_core.specs.Netlist.{Netlist, Memory}
use Rattle.rtl_core.specs.Interface.{Interface, input_pins, output_pins, outer}
use Rattle.rtl_core.proofs.Stability.{Extends}
use Rattle.rtl_core.specs.FramePins.{interface_of}
use Rattle.datapath.specs.Plans.{Plan, Array, plan_of}
use Rattle.datapath.specs.Cycles.{Register, Word}
use Rattle.datapath.specs.Netlists.{IsCircuitOf, memory_of}
use Rattle.datapath.specs.Ports.{port_count}
use Rattle.datapath.specs.CircuitWires.Carrying.{IsBegun}
use Rattle.circuit_context.specs.Wanted.Roles.{named}
use Rattle.circuit_context.specs.Wanted.Entries.{Entry, all_entries, all_roles}
use Rattle.circuit_context.specs.Wanted.Logs.{IsThere}
use Rattle.circuit_context.specs.Wanted.Driving.{Seen, IsDriven, AreDriven, AreDistinct, ShowsSignal, IsMemory, ShowsOutputs}
use Rattle.datapath.specs.LeftOut.{savings_of}
use Rattle.circuit_context.specs.declared.bank.bank.Bank.{Bank}
use Rattle.circuit_context.specs.Bank.Banks.{names_of, IsAllotted}
use Rattle.circuit_context.specs.declared.context.Context.{Context}
use Rattle.circuit_context.specs.Contexts.{IsContext}
use Rattle.circuit_units.specs.Demands.Computed.{AreComputed}
use Rattle.circuit_units.specs.declared.units.units.UnitWires.{UnitWires}
use Rattle.circuit_units.specs.Units as units
use Rattle.circuit_units.specs.Units.{AreUnitsOf, HasAnswers, registers_of}
use Rattle.circuit_units.specs.Memories as ports
use Rattle.circuit_units.specs.Memories.{IsOther}
use Rattle.circuit_control.specs.Drives.{DrivesRegisters}
use Rattle.fsm_datapath.specs.CircuitParts.{HasSoundArrays}
use Rattle.fsm_datapath.specs.AssembledCircuits.Parts.{whole_names, AreParts}
use Rattle.fsm_datapath.specs.declared.parts.Parts.{Parts}

-- a circuit with a name and the inputs of a function's module, and nothing else
abbrev pub begun_with : List ℕ → Interface → Netlist
begun_with name i = record { name = name; inputs = input_pins i; outputs = []; regs = []; mems = []; wires = [] }

-- the plan of a program with these registers and what is live
abbrev pub plan_in : Cfg Timed → Registers → Live → Plan
plan_in cfg registers live = plan_of cfg registers (savings_of cfg live)

-- ---- what is known of the program

-- the registers of the bank are appended, and what is found for the program is right
pub record HasContext (of : Context) (cfg : Cfg Timed) (live : Live) (registers : Registers) (d e : Netlist) : Type 0 where
  pub cfg_ : of.cfg.now ≡ cfg
  pub live_ : of.live ≡ live
  pub registers_ : of.registers.now ≡ registers
  pub allotted : IsBegun (plan_in cfg registers of.live) [] d → IsAllotted (plan_in cfg registers of.live) d e of.bank
  pub context : IsBegun (plan_in cfg registers of.live) [] d → IsContext (plan_in cfg registers of.live) (names_of of.bank) of

-- ---- what computes

-- the registers of the bank are there, and nothing else
pub record CanCompute (p : Plan) (of : Context) (d : Netlist) : Type 0 where
  pub context : IsContext p (names_of of.bank) of
  pub begun : IsBegun p (names_of of.bank) d
  pub names : names_of of.bank ≡ map named (all_roles p of.bank.gates of.bank.stages)
  pub distinct : AreDistinct (names_of of.bank)
  pub none : d.mems ≡ []

-- the wires of operations, the units, and the ports of memories and tables are there
pub record HasParts (p : Plan) (bank : Bank) (d e : Netlist) (parts : Parts) : Type 0 where
  pub extends : Extends d e
  pub begun : IsBegun p (whole_names p bank parts.units) e
  pub others : (k : ℕ) (r : Register) → slice_get (names_of bank) k ≡ Some r → IsOther r → slice_get e.regs k ≡ slice_get d.regs k
  pub outputs : e.outputs ≡ d.outputs
  pub computed : AreComputed p (whole_names p bank parts.units) e parts.computed
  pub answers : HasAnswers p (whole_names p bank parts.units) e parts.units
  pub used : AreUnitsOf p (map (λ (w : UnitWires). w.unit) parts.units.wires.items)
  pub counts : map (λ ports. length ports.items) parts.ports.ports.items ≡ map (port_count p) (range_with_len 0 (length p.arrays))
  pub words : (k a n : ℕ) → slice_get (names_of bank) k ≡ Some (Word a n) → IsDriven p (whole_names p bank parts.units) (ports.signals_of parts.ports) e k (Word a n)
  pub units_driven : AreDriven p (whole_names p bank parts.units) (units.signals_of parts.units) e (length (names_of bank)) (registers_of p parts.units)
  pub unit_signals : (k : ℕ) (x : Seen) → slice_get (units.signals_of parts.units) k ≡ Some x → ShowsSignal p (whole_names p bank parts.units) e x
  pub port_signals : (k : ℕ) (x : Seen) → slice_get (ports.signals_of parts.ports) k ≡ Some x → ShowsSignal p (whole_names p bank parts.units) e x
  pub memories : (a : ℕ) (array : Array) → slice_get p.arrays a ≡ Some array → array.table ≡ None → (m : Memory) × IsMemory p (whole_names p bank parts.units) (ports.signals_of parts.ports) e a m
  pub only : length e.mems ≡ memory_of p (length p.arrays)
  pub short : (a : ℕ) (array : Array) (table : List ℕ) → slice_get p.arrays a ≡ Some array → array.table ≡ Some table → AreShort array.dims

-- ---- what registers take

-- each register of the bank but for those of words is driven, by entries for registers that are there
pub record HasMoves (p : Plan) (names : List Register) (bank : Bank) (d e : Netlist) : Type 0 where
  pub drives : DrivesRegisters p names bank.roles.keys d e
  pub there : (k : ℕ) (it : Entry) → slice_get (all_entries p bank.gates bank.stages) k ≡ Some it → IsThere names it.target

-- ---- outputs

-- the outputs are set, and nothing else but wires is appended
pub record HasOutputs (p : Plan) (names : List Register) (frame : Frame) (d e : Netlist) : Type 0 where
  pub extends : Extends d e
  pub begun : IsBegun p names e
  pub registers : e.regs ≡ d.regs
  pub memories : e.mems ≡ d.mems
  pub inputs : e.inputs ≡ d.inputs
  pub pins : map outer e.outputs ≡ output_pins (interface_of frame)
  pub shows : ShowsOutputs p names e

-- ---- the whole

-- a netlist of which all parts are there, where these variables are live
pub record IsWhole (cfg : Cfg Timed) (live : Live) (registers : Registers) (d : Netlist) : Type 0 where
  pub bank : Bank
  pub parts : Parts
  pub whole : AreParts (plan_in cfg registers live) bank parts.units parts.ports d

-- The netlist is the circuit of the program's plan, where hosts come first and stores name arrays, and has its memories.
pub record IsBuilt (cfg : Cfg Timed) (live : Live) (registers : Registers) (d : Netlist) : Type 0 where
  pub circuit : HasSoundArrays (plan_in cfg registers live) → IsCircuitOf (plan_in cfg registers live) d
  pub memories : map (λ (m : Memory). m.bits) d.mems ≡ map (λ (a : Array). a.bits) (filter (λ (a : Array). is_none a.table) (plan_in cfg registers live).arrays)
