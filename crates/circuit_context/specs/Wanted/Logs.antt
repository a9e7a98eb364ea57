-- A log of a circuit under construction: what is pushed carries what the plan wants.
use Rattle.std.specs.Prelude.{◌≡◌, ℕ, List, [], ◌∷◌, ◌++◌, slice_get, Some}
use Rattle.rtl_core.specs.declared.design.Atom.{Atom}
use Rattle.rtl_core.specs.Netlist.{Netlist}
use Rattle.rtl_logic.specs.Making.{Appends}
use Rattle.datapath.specs.Plans.{Plan, array_at, depth}
use Rattle.datapath.specs.Cycles.{Register, Cycle}
use Rattle.datapath.specs.Circuits.{width}
use Rattle.datapath.specs.CircuitWires.Carrying.{Carries, Tells, IsBegun}
use Rattle.circuit_context.specs.declared.wanted.role.Target.{Target}
use Rattle.circuit_context.specs.declared.wanted.role.Target.TheVariants as t
use Rattle.circuit_context.specs.declared.wanted.log.Push.{Push}
use Rattle.circuit_context.specs.Wanted.Roles.{named}
use Rattle.circuit_context.specs.Wanted.Entries.{Entry}

-- the bits of what a target takes
abbrev pub target_bits : Plan → Target → ℕ
target_bits p (t.Register r) = width p (named r)
target_bits p (t.Left unit) = unit.bits
target_bits p (t.Right unit) = unit.bits
target_bits p (t.Signed unit) = 1
target_bits p (t.Address a port) = depth p a.0
target_bits p (t.Stored a port) = (array_at p a.0).bits
target_bits p (t.Refused a port) = 1
target_bits p (t.Entered node) = 1
target_bits p t.Ended = 1
target_bits p t.Tested = 1

-- a target that is a register is one of these
abbrev pub IsThere : List Register → Target → Type 0
IsThere names (t.Register r) = (k : ℕ) × (slice_get names k ≡ Some (named r))
IsThere names target = Unit {0}

-- in each cycle the bit of the push tells whether the entry is wanted, and its value is the entry's
pub record IsPush (p : Plan) (names : List Register) (d : Netlist) (push : Push) (it : Entry) : Type 0 where
  pub target : push.target ≡ it.target
  pub there : IsThere names it.target
  pub when : Tells p names d push.choice.when (λ c. (it.write c).wanted)
  pub value : Carries p names d (target_bits p it.target) push.choice.value (λ c. (it.write c).value)

-- so it is of each push and each entry, in order
abbrev pub ArePushes : Plan → List Register → Netlist → List Push → List Entry → Type 0
ArePushes p names d [] [] = Unit {0}
ArePushes p names d (push ∷ pushes) (it ∷ entries) = IsPush p names d push it × ArePushes p names d pushes entries
ArePushes p names d pushes entries = ⊥

-- wires are appended to the circuit, and pushes for these entries to the log
pub record Logs (p : Plan) (names : List Register) (d e : Netlist) (old new : List Push) (entries : List Entry) : Type 0 where
  pub more : List Push
  pub is : new ≡ old ++ more
  pub appends : Appends d e
  pub begun : IsBegun p names e
  pub are : ArePushes p names e more entries

-- an atom of some width carries this value
pub record CarriesSome (p : Plan) (names : List Register) (d : Netlist) (a : Atom) (value : Cycle → ℕ) : Type 0 where
  pub bits : ℕ
  pub carries : Carries p names d bits a value
