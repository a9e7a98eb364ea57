-- The delays of wires, the paths of a circuit, and which of its longest paths is meant.
use Rattle.std.specs.Prelude.{◌≡◌, ◌⊎◌, ℕ, ◌+◌, ◌*◌, ◌<◌, ◌≤◌, List, [], ◌∷◌, length, reverse, slice_index_or}
use Rattle.std.specs.List.{sum_by}
use Rattle.rtl_core.specs.declared.design.Atom.{Atom}
use Rattle.rtl_core.specs.declared.design.Atom.TheVariants as atom
use Rattle.rtl_core.specs.declared.design.Pair.{Pair}
use Rattle.rtl_core.specs.declared.design.Pair.TheVariants as pair
use Rattle.rtl_core.specs.declared.design.Net.{Net}
use Rattle.rtl_core.specs.declared.design.Net.TheVariants as net
use Rattle.rtl_core.specs.declared.design.Wire.{Wire}
use Rattle.rtl_core.specs.Netlist.{Netlist}
use Rattle.rtl_core.specs.ClockStep.{bits_of, widths}

-- ---- delays

-- a shift by a constant is wiring
abbrev pub shift_delay : (Atom → ℕ) → Atom → ℕ
shift_delay bits (atom.Constant n value) = 0
shift_delay bits (atom.Input k) = 2 * bits (atom.Input k)
shift_delay bits (atom.Reg k) = 2 * bits (atom.Reg k)
shift_delay bits (atom.Wire k) = 2 * bits (atom.Wire k)

-- where two operands have to be equally wide, the first one's bits are counted
abbrev pub pair_delay : (Atom → ℕ) → Pair → Atom → Atom → ℕ
pair_delay bits pair.Add a b = bits a
pair_delay bits pair.Sub a b = bits a
pair_delay bits pair.Mul a b = 2 * bits a
pair_delay bits pair.And a b = 1
pair_delay bits pair.Or a b = 1
pair_delay bits pair.Xor a b = 1
pair_delay bits pair.Equal a b = bits a
pair_delay bits pair.Below a b = bits a
pair_delay bits pair.Left a b = shift_delay bits b
pair_delay bits pair.Right a b = shift_delay bits b

-- the delay of an expression, from the bits of atoms
abbrev pub net_delay : (Atom → ℕ) → Net → ℕ
net_delay bits (net.Copy a) = 0
net_delay bits (net.Not a) = 1
net_delay bits (net.Two op a b) = pair_delay bits op a b
net_delay bits (net.Pick test a b) = 2
net_delay bits (net.Join high low) = 0
net_delay bits (net.Part a high low) = 0
net_delay bits (net.Word mem address) = 8

-- stands for the wire at a place where there is none: it has no delay and names no wire
abbrev pub nothing : Wire
nothing = record { bits = 0; net = net.Copy (atom.Constant 0 0) }

abbrev pub net_of : Netlist → ℕ → Net
net_of d k = (slice_index_or d.wires k nothing).net

-- the delay of the wire of this number
abbrev pub delay_of : Netlist → ℕ → ℕ
delay_of d k = net_delay (bits_of (widths d)) (net_of d k)

-- ---- paths

abbrev pub IsWire : Atom → ℕ → Type 0
IsWire a j = a ≡ atom.Wire j

-- the expression reads the wire: as an operand, a test, a count or an address
abbrev pub Names : Net → ℕ → Type 0
Names (net.Copy a) j = IsWire a j
Names (net.Not a) j = IsWire a j
Names (net.Two op a b) j = IsWire a j ⊎ IsWire b j
Names (net.Pick test a b) j = IsWire test j ⊎ (IsWire a j ⊎ IsWire b j)
Names (net.Join high low) j = IsWire high j ⊎ IsWire low j
Names (net.Part a high low) j = IsWire a j
Names (net.Word mem address) j = IsWire address j

-- numbers of wires, each of whose expressions names the wire before
abbrev pub IsPath : Netlist → List ℕ → Type 0
IsPath d [] = Unit {0}
IsPath d (k ∷ []) = k < length d.wires
IsPath d (j ∷ (k ∷ ks)) = Names (net_of d k) j × IsPath d (k ∷ ks)

abbrev pub path_delay : Netlist → List ℕ → ℕ
path_delay d ks = sum_by (delay_of d) ks

-- ---- the longest path

-- it does not begin with a wire of delay 0
abbrev pub BeginsWithDelay : Netlist → List ℕ → Type 0
BeginsWithDelay d [] = Unit {0}
BeginsWithDelay d (k ∷ ks) = 0 < delay_of d k

-- where the two first differ, the first list has the lesser number
abbrev pub IsAtMost : List ℕ → List ℕ → Type 0
IsAtMost [] ys = Unit {0}
IsAtMost (x ∷ xs) [] = ⊥
IsAtMost (x ∷ xs) (y ∷ ys) = (x < y) ⊎ ((x ≡ y) × IsAtMost xs ys)

-- the same where both are read from the back
abbrev pub IsAtMostFromBack : List ℕ → List ℕ → Type 0
IsAtMostFromBack xs ys = IsAtMost (reverse xs) (reverse ys)

-- A path of this delay, and no path has a greater one. It does not begin with a wire of delay 0; of all such paths it is the least when they are read from the back.
pub record IsLongest (d : Netlist) (total : ℕ) (ks : List ℕ) : Type 0 where
  pub path : IsPath d ks
  pub delay : path_delay d ks ≡ total
  pub greatest : (js : List ℕ) → IsPath d js → path_delay d js ≤ total
  pub begins : BeginsWithDelay d ks
  pub least : (js : List ℕ) → IsPath d js → path_delay d js ≡ total → BeginsWithDelay d js → IsAtMostFromBack ks js
