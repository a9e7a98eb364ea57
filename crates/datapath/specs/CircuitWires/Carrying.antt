-- A circuit under construction: which of a plan's registers its registers are, and what its wires carry.
use Rattle.std.specs.Prelude.{◌≡◌, ℕ, Bool, List, ◌++◌, map, slice_get, Option, Some}
use Rattle.rtl_core.specs.declared.design.Atom.{Atom}
use Rattle.rtl_core.specs.declared.design.Atom.TheVariants as atom
use Rattle.rtl_core.specs.Netlist.{Netlist}
use Rattle.rtl_core.specs.ClockStep.{State, IsState, ArePins, register_widths, widths, seen}
use Rattle.rtl_core.specs.declared.design.Reg.{Reg}
use Rattle.rtl_core.specs.Valid.{HasBits}
use Rattle.rtl_core.specs.Interface.{input_pins}
use Rattle.rtl_core.proofs.Stability.{Extends}
use Rattle.rtl_units.specs.Fragments.{register_of}
use Rattle.rtl_logic.specs.Making.{IsSound, Appends}
use Rattle.datapath.specs.Plans.{Plan, interface}
use Rattle.datapath.specs.Cycles.{Register, Contents, Signal, Cycle, in_cycle, bit}
use Rattle.rtl_logic.specs.Choosing.{Write, Takes}
use Rattle.datapath.specs.Circuits.{width}
use Rattle.datapath.specs.Netlists.{Holds}

-- the registers of the circuit, in order, are those of the plan with these names
abbrev pub AreNamed : Plan → List Register → Netlist → Type 0
AreNamed p names d = register_widths d ≡ map (width p) names

-- the atom is the register of this name
pub record IsRegister (names : List Register) (a : Atom) (r : Register) : Type 0 where
  pub number : ℕ
  pub is : a ≡ atom.Reg number
  pub named : slice_get names number ≡ Some r

-- A state of a circuit that this one becomes, in a cycle with these pins, and what the plan's registers and memories hold then.
pub record IsMoment (p : Plan) (names : List Register) (d e : Netlist) (s : State) (pins : List ℕ) (x : Contents) : Type 0 where
  pub extends : Extends d e
  pub sound : IsSound e
  pub state : IsState e s
  pub pins_ : ArePins e pins
  pub more : List Register
  pub holds : Holds p (names ++ more) s x

-- An atom of so many bits whose value is this in each cycle, whatever else the circuit becomes. It does not depend on what the shared units are given.
pub record Carries (p : Plan) (names : List Register) (d : Netlist) (bits : ℕ) (a : Atom) (value : Cycle → ℕ) : Type 0 where
  pub fits : HasBits (widths d) bits a
  pub value_ : (e : Netlist) (s : State) (pins : List ℕ) (x : Contents) (signals : Signal → ℕ) → IsMoment p names d e s pins x → seen e s pins a ≡ value (in_cycle x signals pins)

-- a bit that tells whether this holds
abbrev pub Tells : Plan → List Register → Netlist → Atom → (Cycle → Bool) → Type 0
Tells p names d a holds_ = Carries p names d 1 a (λ c. bit (holds_ c))

-- an atom of so many bits that in each cycle is what these writes give, where one of them is wanted and all that are want the same
pub record CarriesWanted (p : Plan) (names : List Register) (d : Netlist) (bits : ℕ) (a : Atom) (writes : Cycle → List Write) (other : Cycle → Option ℕ) : Type 0 where
  pub fits : HasBits (widths d) bits a
  pub value_ : (e : Netlist) (s : State) (pins : List ℕ) (x : Contents) (signals : Signal → ℕ) → IsMoment p names d e s pins x
      → Takes (writes (in_cycle x signals pins)) (other (in_cycle x signals pins)) (seen e s pins a)

-- ---- what is appended

-- A circuit of the plan under construction: its registers have these names, its inputs are the pins of the plan's function, and its wires use only wires before them.
pub record IsBegun (p : Plan) (names : List Register) (d : Netlist) : Type 0 where
  pub named : AreNamed p names d
  pub pins : d.inputs ≡ input_pins (interface p)
  pub sound : IsSound d

-- an atom that carries this value is made by appending wires
pub record MakesCarrying (p : Plan) (names : List Register) (d e : Netlist) (bits : ℕ) (a : Atom) (value : Cycle → ℕ) : Type 0 where
  pub appends : Appends d e
  pub begun : IsBegun p names e
  pub carries : Carries p names e bits a value

-- a bit that tells whether this holds is made by appending wires
abbrev pub MakesTelling : Plan → List Register → Netlist → Netlist → Atom → (Cycle → Bool) → Type 0
MakesTelling p names d e a holds_ = MakesCarrying p names d e 1 a (λ c. bit (holds_ c))

-- a register that keeps what it has
abbrev pub idle : ℕ → Reg
idle bits = register_of bits (atom.Constant 1 0) (atom.Constant bits 0)

-- registers with these names are appended, which keep what they have, and nothing else changes
pub record AppendsRegisters (p : Plan) (names more : List Register) (d e : Netlist) : Type 0 where
  pub is : e ≡ record d { regs = d.regs ++ map (λ r. idle (width p r)) more }
  pub begun : IsBegun p (names ++ more) e
