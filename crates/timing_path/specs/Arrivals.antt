-- When the values of wires arrive, if those of inputs, registers and memories are there at 0; and the way back from the last one.
use Rattle.std.specs.Prelude.{◌≡◌, ◌⊎◌, ℕ, ◌+◌, ◌-◌, ◌<◌, ◌≤◌, min, max, List, [], ◌∷◌, length, slice_index, Option, None, Some}
use Rattle.rtl_core.specs.declared.design.Atom.{Atom}
use Rattle.rtl_core.specs.declared.design.Atom.TheVariants as atom
use Rattle.rtl_core.specs.declared.design.Net.{Net}
use Rattle.rtl_core.specs.declared.design.Net.TheVariants as net
use Rattle.rtl_core.specs.Netlist.{Netlist}
use Rattle.timing_path.specs.Paths.{Names, net_of, delay_of}

-- when an atom's value arrives
abbrev pub atom_time : List ℕ → Atom → ℕ
atom_time times (atom.Constant bits value) = 0
atom_time times (atom.Input k) = 0
atom_time times (atom.Reg k) = 0
atom_time times (atom.Wire k) = slice_index times k

-- the atoms that an expression reads, the last one repeated where there are fewer than three
abbrev pub operands : Net → Atom × Atom × Atom
operands (net.Copy a) = (a, a, a)
operands (net.Not a) = (a, a, a)
operands (net.Two op a b) = (a, b, b)
operands (net.Pick test a b) = (test, a, b)
operands (net.Join high low) = (high, low, low)
operands (net.Part a high low) = (a, a, a)
operands (net.Word mem address) = (address, address, address)

-- when all that an expression reads has arrived
abbrev pub net_time : List ℕ → Net → ℕ
net_time times e = let o = operands e in max (atom_time times o.0) (max (atom_time times o.1) (atom_time times o.2))

-- a time for each of the first wires
abbrev pub AreTimes : Netlist → List ℕ → Type 0
AreTimes d times = (k : ℕ) → k < length times → slice_index times k ≡ delay_of d k + net_time times (net_of d k)

-- the wires of these times
abbrev pub Within : List ℕ → ℕ → Type 0
Within times j = j < length times

-- the last of the times, 0 if there is none
pub record IsLatest (times : List ℕ) (last : ℕ) : Type 0 where
  pub above : (j : ℕ) → slice_index times j ≤ last
  pub some : (last ≡ 0) ⊎ ((j : ℕ) × Within times j × (slice_index times j ≡ last))

abbrev pub lesser : Option ℕ → Option ℕ → Option ℕ
lesser None k = k
lesser (Some j) None = Some j
lesser (Some j) (Some k) = Some (min j k)

-- the least wire of C whose value arrives at this time
abbrev pub IsLeastAt : (ℕ → Type 0) → List ℕ → ℕ → Option ℕ → Type 0
IsLeastAt C times time None = (j : ℕ) → C j → slice_index times j ≡ time → ⊥
IsLeastAt C times time (Some k) = C k × (slice_index times k ≡ time) × ((j : ℕ) → C j → slice_index times j ≡ time → k ≤ j)

-- where the way back goes on while there is delay left: at the least wire of C whose value arrives just then
abbrev pub LeadsBack : (ℕ → Type 0) → List ℕ → ℕ → Option ℕ → Type 0
LeadsBack C times left None = left ≡ 0
LeadsBack C times left (Some k) = (0 < left) × IsLeastAt C times left (Some k)

-- these wires are the way back from C with so much delay left
abbrev pub IsWayBack : Netlist → List ℕ → (ℕ → Type 0) → ℕ → List ℕ → Type 0
IsWayBack d times C left [] = LeadsBack C times left None
IsWayBack d times C left (k ∷ ks) = LeadsBack C times left (Some k) × IsWayBack d times (Names (net_of d k)) (left - delay_of d k) ks
