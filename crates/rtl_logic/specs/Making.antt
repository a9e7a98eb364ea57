-- A circuit while it is made: wires are appended, and an atom that is given back keeps its value, whatever is appended later.
use Rattle.std.specs.Prelude.{◌≡◌, ◌⊎◌, ℕ, zero, suc, ◌==◌, Bool, true, false, List, [], ◌∷◌, ◌++◌, slice_get, Option, Some, None}
use Rattle.std.specs.Option.{option_map}
use Rattle.rtl_core.specs.declared.design.Atom.{Atom}
use Rattle.rtl_core.specs.declared.design.Atom.TheVariants as atom
use Rattle.rtl_core.specs.declared.design.Net.{Net}
use Rattle.rtl_core.specs.declared.design.Pair.{Pair}
use Rattle.rtl_core.specs.declared.design.Pair.TheVariants as pair
use Rattle.rtl_core.specs.declared.design.Wire.{Wire}
use Rattle.rtl_core.specs.declared.design.Reg.{Reg}
use Rattle.rtl_core.specs.Netlist.{Netlist, netlist_of}
use Rattle.rtl_core.specs.ClockStep.{State, widths, seen, IsState, ArePins}
use Rattle.rtl_core.specs.Valid.{HasBits, WiresFit}
use Rattle.rtl_core.proofs.Stability.{Extends}
use Rattle.rtl_logic.specs.declared.logic.Logic.{Logic}

-- each wire uses only wires before it
abbrev pub IsSound : Netlist → Type 0
IsSound d = WiresFit d [] d.wires

-- nothing changes but that wires are appended
pub record Appends (d e : Netlist) : Type 0 where
  pub more : List Wire
  pub is : e ≡ record d { wires = d.wires ++ more }

-- the wire is there, appended if it was not there before, and the atom names it
pub record AddsWire (d e : Netlist) (w : Wire) (a : Atom) : Type 0 where
  pub appends : (e ≡ d) ⊎ (e ≡ record d { wires = d.wires ++ w ∷ [] })
  pub number : ℕ
  pub names : a ≡ atom.Wire number
  pub there : slice_get e.wires number ≡ Some w

-- it holds in each cycle of each circuit that this one becomes, of the values that the atoms have there
abbrev pub Always : Netlist → ((Atom → ℕ) → Type 0) → Type 0
Always d P = (e : Netlist) (s : State) (pins : List ℕ) → Extends d e → IsSound e → IsState e s → ArePins e pins → P (seen e s pins)

-- An atom of so many bits. In each cycle of each circuit that this one becomes, its value and the values of all atoms are as P says.
pub record Shows (d : Netlist) (bits : ℕ) (a : Atom) (P : (Atom → ℕ) → ℕ → Type 0) : Type 0 where
  pub fits : HasBits (widths d) bits a
  pub value : Always d (λ v. P v (v a))

-- such an atom is made by appending wires
pub record Makes (d e : Netlist) (bits : ℕ) (a : Atom) (P : (Atom → ℕ) → ℕ → Type 0) : Type 0 where
  pub appends : Appends d e
  pub sound : IsSound e
  pub shows : Shows e bits a P

-- ---- what an atom is

-- the number of a constant
abbrev pub number_in : Atom → Option ℕ
number_in (atom.Constant bits value) = Some value
number_in (atom.Input k) = None
number_in (atom.Reg k) = None
number_in (atom.Wire k) = None

abbrev pub is_same : ℕ → Option ℕ → Bool
is_same n None = false
is_same n (Some m) = m == n

-- the expression of a wire
abbrev pub net_in : Netlist → Atom → Option Net
net_in d (atom.Wire k) = option_map (λ (w : Wire). w.net) (slice_get d.wires k)
net_in d (atom.Constant bits value) = None
net_in d (atom.Input k) = None
net_in d (atom.Reg k) = None

-- whether an operator with 0 on its right gives its left side
abbrev pub keeps_left : Pair → Bool
keeps_left pair.Add = true
keeps_left pair.Sub = true
keeps_left pair.Or = true
keeps_left pair.Xor = true
keeps_left pair.Left = true
keeps_left pair.Right = true
keeps_left pair.Mul = false
keeps_left pair.And = false
keeps_left pair.Equal = false
keeps_left pair.Below = false

-- whether an operator with 0 on its left gives its right side
abbrev pub keeps_right : Pair → Bool
keeps_right pair.Add = true
keeps_right pair.Or = true
keeps_right pair.Xor = true
keeps_right pair.Sub = false
keeps_right pair.Mul = false
keeps_right pair.And = false
keeps_right pair.Equal = false
keeps_right pair.Below = false
keeps_right pair.Left = false
keeps_right pair.Right = false

-- ---- registers

-- what the register takes next, and when
abbrev pub next_set : Atom → Atom → Reg → Reg
next_set enable next r = record { bits = r.bits; enable = enable; next = next }

abbrev pub with_next_at : ℕ → Atom → Atom → List Reg → List Reg
with_next_at k enable next [] = []
with_next_at zero enable next (r ∷ rs) = next_set enable next r ∷ rs
with_next_at (suc k) enable next (r ∷ rs) = r ∷ with_next_at k enable next rs

abbrev pub with_next : Netlist → Atom → Atom → Atom → Netlist
with_next d (atom.Reg k) enable next = record d { regs = with_next_at k enable next d.regs }
with_next d (atom.Constant bits value) enable next = d
with_next d (atom.Input k) enable next = d
with_next d (atom.Wire k) enable next = d

abbrev pub next_or : Atom → Option Reg → Atom
next_or other None = other
next_or other (Some r) = r.next

abbrev pub next_in : Netlist → Atom → Atom
next_in d (atom.Reg k) = next_or (atom.Reg k) (slice_get d.regs k)
next_in d (atom.Constant bits value) = atom.Constant bits value
next_in d (atom.Input k) = atom.Input k
next_in d (atom.Wire k) = atom.Wire k

-- the circuit that is made so far
abbrev pub circuit : Logic → Netlist
circuit l = netlist_of l.builder.design
