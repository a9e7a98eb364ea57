-- How marks spread: what is marked is followed once, to all that it reads.
use Rattle.std.specs.Prelude.{◌≡◌, ◌⊎◌, ℕ, ◌+◌, ◌-◌, ◌≤◌, true, List, length, slice_get, slice_index_or, slice_set, Some}
use Rattle.std.specs.List.{Contains}
use Rattle.rtl_core.specs.declared.design.Atom.{Atom}
use Rattle.rtl_core.specs.declared.design.Atom.TheVariants as atom
use Rattle.rtl_core.specs.declared.design.Wire.{Wire}
use Rattle.rtl_core.specs.declared.design.Reg.{Reg}
use Rattle.rtl_core.specs.Netlist.{Netlist}
use Rattle.rtl_logic.specs.declared.prune.Marks.{Marks}
use Rattle.rtl_logic.specs.declared.prune.Numbers.{Numbers}
use Rattle.rtl_logic.specs.Pruning.{Marked, IsMarked, NetIsMarked, RegIsMarked, marks_in, place_in}

-- what is marked, and what is still to be followed
pub record Search : Type 0 where
  pub marked : Marked
  pub waiting : List Atom

abbrev pub marked_of : Marks → Marked
marked_of x = record { regs = x.regs.items; wires = x.wires.items }

abbrev pub search_of : Marks → Search
search_of x = record { marked = marked_of x; waiting = x.waiting.items }

-- one more is marked
abbrev pub with_mark : Marked → Atom → Marked
with_mark m (atom.Reg k) = record { regs = slice_set m.regs k true; wires = m.wires }
with_mark m (atom.Wire k) = record { regs = m.regs; wires = slice_set m.wires k true }
with_mark m (atom.Constant bits value) = m
with_mark m (atom.Input k) = m

-- how many registers and wires are marked
abbrev pub mark_count : Marked → ℕ
mark_count m = marks_in m.regs + marks_in m.wires

-- all that the other marks mark is marked
abbrev pub Covers : Marked → Marked → Type 0
Covers n m = (a : Atom) → IsMarked m a → IsMarked n a

-- the marks of the same circuit, and of more of it
pub record MarksMore (m n : Marked) : Type 0 where
  pub regs : length n.regs ≡ length m.regs
  pub wires : length n.wires ≡ length m.wires
  pub stays : Covers n m

-- More is marked. What is marked anew is still to be followed, once, and so is what was to be followed before.
pub record Spreads (x y : Search) : Type 0 where
  pub more : MarksMore x.marked y.marked
  pub fresh : (a : Atom) → IsMarked y.marked a → IsMarked x.marked a ⊎ Contains y.waiting a
  pub waits : (a : Atom) → Contains x.waiting a → Contains y.waiting a
  pub once : mark_count y.marked + length x.waiting ≡ mark_count x.marked + length y.waiting

-- all that is marked, or still to be followed, is marked here
pub record IsIn (n : Marked) (x : Search) : Type 0 where
  pub marked : Covers n x.marked
  pub waiting : (a : Atom) → Contains x.waiting a → IsMarked n a

-- the search stays in these marks
abbrev pub StaysIn : Marked → Search → Search → Type 0
StaysIn n x y = IsIn n x → IsIn n y

-- all that the register or the wire reads is marked
abbrev pub ReadsMarked : Netlist → Marked → Atom → Type 0
ReadsMarked d m (atom.Reg k) = (r : Reg) → slice_get d.regs k ≡ Some r → RegIsMarked m r
ReadsMarked d m (atom.Wire k) = (w : Wire) → slice_get d.wires k ≡ Some w → NetIsMarked m w.net
ReadsMarked d m (atom.Constant bits value) = Unit {0}
ReadsMarked d m (atom.Input k) = Unit {0}

-- what is marked is still to be followed, or all that it reads is marked
abbrev pub IsUnderWay : Netlist → Search → Type 0
IsUnderWay d x = (a : Atom) → IsMarked x.marked a → Contains x.waiting a ⊎ ReadsMarked d x.marked a

-- what is still to be followed is no more than what was marked, but for so many that were followed
abbrev pub IsSpent : ℕ → Search → Type 0
IsSpent n x = length x.waiting ≤ mark_count x.marked - n

-- so many rounds, of which each follows one that is still to be followed, if there is one
pub record Rounds (d : Netlist) (n : ℕ) (x y : Search) : Type 0 where
  pub more : MarksMore x.marked y.marked
  pub under_way : IsUnderWay d x → IsUnderWay d y
  pub spent : (k : ℕ) → IsSpent k x → IsSpent (k + n) y

-- the new numbers of what is marked
pub record AreNumbers (numbers : Numbers) (m : Marked) : Type 0 where
  pub regs : (k : ℕ) → slice_index_or numbers.regs.items k k ≡ place_in m.regs k
  pub wires : (k : ℕ) → slice_index_or numbers.wires.items k k ≡ place_in m.wires k
