-- What is wanted of a unit, and what is added for it.
use Rattle.std.specs.Prelude.{◌≡◌, ◌<◌, ◌++◌, ℕ, Bool, true, List, [], ◌∷◌, length, map, filter, flat_map, slice_get, Some, None}
use Rattle.std.specs.List.{list_any}
use Rattle.rtl_core.specs.declared.design.Atom.{Atom}
use Rattle.rtl_core.specs.Netlist.{Netlist}
use Rattle.rtl_core.proofs.Stability.{Extends}
use Rattle.rtl_logic.specs.Making.{Appends}
use Rattle.rtl_logic.specs.Choosing.{Write}
use Rattle.datapath.specs.Plans.{Plan, Placed}
use Rattle.datapath.specs.Cycles.{Register, Cycle}
use Rattle.datapath.specs.Units.{users, argument_writes, signed_writes}
use Rattle.datapath.specs.CircuitWires.Carrying.{IsBegun, CarriesWanted}
use Rattle.circuit_context.specs.declared.wanted.role.SharedUnit.{SharedUnit}
use Rattle.circuit_context.specs.declared.wanted.role.Target.{Target}
use Rattle.circuit_context.specs.declared.wanted.log.Groups.{Groups}
use Rattle.circuit_context.specs.declared.wanted.log.Push.{Push}
use Rattle.circuit_context.specs.Wanted.Roles.{class_of, same_target, given, choices_of}
use Rattle.circuit_context.specs.Wanted.Entries.{Entry, all_demands}
use Rattle.circuit_context.specs.Wanted.Logs.{target_bits, ArePushes}
use Rattle.circuit_context.specs.Wanted.Driving.{Seen, AreDriven, ShowsSignal}
use Rattle.circuit_units.specs.declared.units.units.UnitWires.{UnitWires}
use Rattle.circuit_units.specs.declared.units.units.UnitInputs.{UnitInputs}
use Rattle.circuit_units.specs.declared.units.uses.UnitUse.{UnitUse}
use Rattle.circuit_units.specs.Units.Uses.{has_signed}
use Rattle.circuit_units.specs.Units.{unit_registers, unit_signals, CarriesAnswers}

-- ---- what is wanted

-- what these entries want of a target in a cycle
abbrev pub wanted_in : Target → List Entry → Cycle → List Write
wanted_in target entries c = map (λ (it : Entry). it.write c) (filter (λ (it : Entry). same_target target it.target) entries)

-- the groups tell what the operations want
pub record AreDemands (p : Plan) (names : List Register) (d : Netlist) (groups : Groups) : Type 0 where
  pub begun : IsBegun p names d
  pub pushes : List Push
  pub are : ArePushes p names d pushes (all_demands p)
  pub given_ : (t : Target) → given groups t ≡ choices_of t pushes

-- what counts as this target takes so many bits
abbrev pub AreBits : Plan → Target → ℕ → Type 0
AreBits p target bits = (t : Target) → same_target target t ≡ true → target_bits p t ≡ bits

-- an atom that shows what these writes give is made by appending wires
pub record MakesWanted (p : Plan) (names : List Register) (d e : Netlist) (bits : ℕ) (a : Atom) (writes : Cycle → List Write) : Type 0 where
  pub appends : Appends d e
  pub begun : IsBegun p names e
  pub carries : CarriesWanted p names e bits a writes (λ c. None)

-- the operands of a unit are there
pub record AreInputs (p : Plan) (names : List Register) (e : Netlist) (unit : SharedUnit) (x : UnitInputs) : Type 0 where
  pub left : CarriesWanted p names e unit.bits x.left (λ c. argument_writes p c (class_of unit) unit.number 0) (λ c. None)
  pub right : CarriesWanted p names e unit.bits x.right (λ c. argument_writes p c (class_of unit) unit.number 1) (λ c. None)
  pub signed : CarriesWanted p names e 1 x.signed (λ c. signed_writes p c (class_of unit) unit.number) (λ c. None)

-- they are made by appending wires
pub record MakesInputs (p : Plan) (names : List Register) (d e : Netlist) (unit : SharedUnit) (x : UnitInputs) : Type 0 where
  pub appends : Appends d e
  pub begun : IsBegun p names e
  pub are : AreInputs p names e unit x

-- some operation uses the unit with signs
abbrev pub signs_of : Plan → SharedUnit → Bool
signs_of p unit = list_any (λ (x : Placed). x.op.op.signed) (users p (class_of unit) unit.number)

-- the uses tell which units are used with signs
abbrev pub AreSigns : Plan → List UnitUse → Type 0
AreSigns p uses = (unit : SharedUnit) → has_signed unit uses ≡ signs_of p unit

-- ---- what is added

abbrev pub registers_in : Plan → List UnitWires → List Register
registers_in p ws = flat_map (λ (w : UnitWires). unit_registers p w.unit) ws

abbrev pub signals_in : List UnitWires → List Seen
signals_in ws = flat_map unit_signals ws

-- Units are added: their registers come behind those that are there, each is driven, at the signals' atoms is seen what operations give, and their answers are carried. Registers that are there, memories and outputs stay as they are.
pub record Adds (p : Plan) (names : List Register) (d e : Netlist) (ws : List UnitWires) : Type 0 where
  pub extends : Extends d e
  pub begun : IsBegun p (names ++ registers_in p ws) e
  pub registers : (k : ℕ) → k < length d.regs → slice_get e.regs k ≡ slice_get d.regs k
  pub memories : e.mems ≡ d.mems
  pub outputs : e.outputs ≡ d.outputs
  pub driven : AreDriven p (names ++ registers_in p ws) (signals_in ws) e (length names) (registers_in p ws)
  pub shown : (k : ℕ) (x : Seen) → slice_get (signals_in ws) k ≡ Some x → ShowsSignal p (names ++ registers_in p ws) e x
  pub answers : (k : ℕ) (w : UnitWires) → slice_get ws k ≡ Some w → CarriesAnswers p (names ++ registers_in p ws) e w

-- one unit is added
abbrev pub AddsOne : Plan → List Register → Netlist → Netlist → UnitWires → Type 0
AddsOne p names d e w = Adds p names d e (w ∷ [])
