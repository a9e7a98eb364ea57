-- What is logged is what the plan wants, and registers that a circuit leaves out.
pub mod Roles
pub mod Wanted
pub mod Parts
use Rattle.std.specs.Prelude.{◌≡◌, ◌≢◌, ℕ, List, [], slice_get, Some}
use Rattle.rtl_core.specs.Netlist.{Netlist}
use Rattle.rtl_core.specs.ClockStep.{State}
use Rattle.datapath.specs.Plans.{Plan}
use Rattle.datapath.specs.Cycles.{Register, Contents, Signal, Cycle, in_cycle}
use Rattle.datapath.specs.Circuits.{register_writes}
use Rattle.datapath.specs.CircuitWires.Carrying.{IsMoment}
use Rattle.circuit_context.specs.declared.wanted.role.Role.{Role}
use Rattle.circuit_context.specs.declared.wanted.role.Target.TheVariants as t
use Rattle.circuit_context.specs.Wanted.Roles.{named}
use Rattle.circuit_context.specs.Wanted.Entries.{all_entries, all_roles}
use Rattle.circuit_context.specs.Wanted.Driving.{IsUnnamed, HaveElse, MayTake}
use Rattle.circuit_units.specs.declared.units.units.UnitTable.{UnitTable}
use Rattle.circuit_units.specs.Units.{registers_of}
use Rattle.circuit_units.specs.declared.memories.memories.PortTable.{PortTable}
use Rattle.fsm_datapath.specs.LoggedWrites.Wanted.{wanted_of, IsNoWord}
use Rattle.fsm_datapath.specs.LoggedWrites.Roles.{AreAllThere, IsOfValue, names_with}
use Rattle.fsm_datapath.specs.LoggedWrites.Parts.{HasAllParts, all_signals}

-- For a register that a circuit has, but for words that are read, is logged what the plan gives it.
abbrev pub LoggedForRegisters : Type 0
LoggedForRegisters = (p : Plan) (gates stages k : ℕ) (r : Role) (c : Cycle) → slice_get (all_roles p gates stages) k ≡ Some r → IsNoWord r
    → wanted_of c (t.Register r) (all_entries p gates stages) ≡ register_writes p c (named r)

-- for others nothing is logged
abbrev pub LoggedNowhereElse : Type 0
LoggedNowhereElse = (p : Plan) (gates stages : ℕ) (units : List Register) (r : Role) (c : Cycle) → AreAllThere p gates stages units
    → ((k : ℕ) → slice_get (all_roles p gates stages) k ≢ Some r) → wanted_of c (t.Register r) (all_entries p gates stages) ≡ []

-- so the plan gives nothing to registers for values that the circuit does not have
abbrev pub UnnamedAreGivenNothing : Type 0
UnnamedAreGivenNothing = (p : Plan) (gates stages : ℕ) (units : List Register) (r : Register) (c : Cycle) → AreAllThere p gates stages units
    → IsUnnamed (names_with p gates stages units) r → IsOfValue r → register_writes p c r ≡ []

-- In any cycle of a circuit with all its units, memories and ports a register that is left out may take something of its width.
abbrev pub UnnamedMayTake : Type 0
UnnamedMayTake = (p : Plan) (gates stages : ℕ) (units : UnitTable) (ports : PortTable) (d : Netlist) (s : State) (pins : List ℕ) (x : Contents) (signals : Signal → ℕ) (r : Register)
    → HasAllParts p gates stages units ports d → IsMoment p (names_with p gates stages (registers_of p units)) d d s pins x → HaveElse p (all_signals units ports) signals
    → IsUnnamed (names_with p gates stages (registers_of p units)) r → MayTake p r (in_cycle x signals pins)
