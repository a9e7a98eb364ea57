-- The registers of a bank, as they are given their next values.
use Rattle.std.specs.Prelude.{◌≡◌, ◌≢◌, ◌≤◌, ℕ, List, [], length, slice_get, Some}
use Rattle.std.specs.List.{All}
use Rattle.rtl_core.specs.ClockStep.{State, widths, seen}
use Rattle.rtl_logic.specs.declared.select.Choice.{Choice}
use Rattle.rtl_logic.specs.Choosing.{ChoiceFits, writes_in}
use Rattle.datapath.specs.Cycles.{Contents, Signal, in_cycle}
use Rattle.datapath.specs.CircuitWires.Carrying.{IsMoment}
use Rattle.circuit_context.specs.declared.wanted.log.Push.{Push}
use Rattle.circuit_context.specs.Wanted.Logs.{ArePushes}
use Rattle.circuit_context.proofs.WantedLemmas.Wanted.{wanted_in}
use Rattle.rtl_core.specs.Netlist.{Netlist}
use Rattle.rtl_core.proofs.Stability.{Extends}
use Rattle.rtl_logic.specs.Choosing.{Write, AllWant, is_any_wanted}
use Rattle.datapath.specs.Plans.{Plan}
use Rattle.datapath.specs.Cycles.{Register, Cycle}
use Rattle.datapath.specs.Circuits.{width, register_writes}
use Rattle.datapath.specs.CircuitWires.Carrying.{IsBegun, idle}
use Rattle.circuit_context.specs.declared.wanted.role.Role.{Role}
use Rattle.circuit_context.specs.declared.wanted.role.Role.TheVariants as role
use Rattle.circuit_context.specs.declared.wanted.role.Target.TheVariants as t
use Rattle.circuit_context.specs.Wanted.Roles.{named}
use Rattle.circuit_context.specs.Wanted.Entries.{Entry}
use Rattle.circuit_context.specs.Wanted.Driving.{IsDriven}

-- these writes stand for others: one is wanted where one of the others is, and all that they want is what all others want
pub record StandFor (ws vs : List Write) : Type 0 where
  pub any : is_any_wanted ws ≡ is_any_wanted vs
  pub all : (y : ℕ) → AllWant vs y → AllWant ws y

-- the register takes the word of a port
abbrev pub IsWord : Role → Type 0
IsWord (role.Word array port) = Unit {0}
IsWord r = ⊥

abbrev pub IsNoWord : Role → Type 0
IsNoWord r = IsWord r → ⊥

-- the entries want of each register but for those of words what the plan writes there
abbrev pub WantAsWritten : Plan → List Role → List Entry → Type 0
WantAsWritten p roles entries = (k : ℕ) (r : Role) → slice_get roles k ≡ Some r → IsNoWord r → (c : Cycle) → StandFor (wanted_in c (t.Register r) entries) (register_writes p c (named r))

-- each of these registers keeps what it has, but for those of words
abbrev pub AreIdle : Plan → List Role → Netlist → Type 0
AreIdle p roles d = (k : ℕ) (r : Role) → slice_get roles k ≡ Some r → IsNoWord r → slice_get d.regs k ≡ Some (idle (width p (named r)))

-- The first registers are these, and each but for those of words is driven, whatever the signals; all others, the memories and the outputs stay as they are.
pub record DrivesRegisters (p : Plan) (names : List Register) (roles : List Role) (d e : Netlist) : Type 0 where
  pub extends : Extends d e
  pub begun : IsBegun p names e
  pub driven : (k : ℕ) (r : Role) → slice_get roles k ≡ Some r → IsNoWord r → IsDriven p names [] e k (named r)
  pub words : (k : ℕ) (r : Role) → slice_get roles k ≡ Some r → IsWord r → slice_get e.regs k ≡ slice_get d.regs k
  pub others : (k : ℕ) → length roles ≤ k → slice_get e.regs k ≡ slice_get d.regs k
  pub memories : e.mems ≡ d.mems
  pub outputs : e.outputs ≡ d.outputs

-- ---- one register

-- The register keeps what it has so far, and these choices stand for what the plan writes there.
pub record CanDrive (p : Plan) (names : List Register) (d : Netlist) (k : ℕ) (r : Register) (choices : List Choice) : Type 0 where
  pub begun : IsBegun p names d
  pub named_ : slice_get names k ≡ Some r
  pub idle_ : slice_get d.regs k ≡ Some (idle (width p r))
  pub fit : All (ChoiceFits (widths d) (width p r)) choices
  pub stand : (e : Netlist) (s : State) (pins : List ℕ) (x : Contents) (signals : Signal → ℕ) → IsMoment p names d e s pins x
      → StandFor (writes_in (seen e s pins) choices) (register_writes p (in_cycle x signals pins) r)

-- the register is driven, and all others, the memories and the outputs stay as they are
pub record DrivesOne (p : Plan) (names : List Register) (d e : Netlist) (k : ℕ) (r : Register) : Type 0 where
  pub extends : Extends d e
  pub begun : IsBegun p names e
  pub driven : IsDriven p names [] e k r
  pub others : (j : ℕ) → j ≢ k → slice_get e.regs j ≡ slice_get d.regs j
  pub memories : e.mems ≡ d.mems
  pub outputs : e.outputs ≡ d.outputs

-- what is logged for the role stands for what the plan writes there, unless it is a word's
pub record CanDriveRole (p : Plan) (names : List Register) (d : Netlist) (k : ℕ) (r : Role) (pushes : List Push) (entries : List Entry) : Type 0 where
  pub begun : IsBegun p names d
  pub named_ : slice_get names k ≡ Some (named r)
  pub idle_ : IsNoWord r → slice_get d.regs k ≡ Some (idle (width p (named r)))
  pub pushes_ : ArePushes p names d pushes entries
  pub wanted : IsNoWord r → (c : Cycle) → StandFor (wanted_in c (t.Register r) entries) (register_writes p c (named r))

-- a word's register stays as it is, another is driven
pub record DrivesRole (p : Plan) (names : List Register) (d e : Netlist) (k : ℕ) (r : Role) : Type 0 where
  pub extends : Extends d e
  pub begun : IsBegun p names e
  pub driven : IsNoWord r → IsDriven p names [] e k (named r)
  pub word : IsWord r → slice_get e.regs k ≡ slice_get d.regs k
  pub others : (j : ℕ) → j ≢ k → slice_get e.regs j ≡ slice_get d.regs j
  pub memories : e.mems ≡ d.mems
  pub outputs : e.outputs ≡ d.outputs
