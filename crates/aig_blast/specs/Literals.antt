-- The literals of the words of a circuit, and the values that they show.
use Rattle.std.specs.Prelude.{◌≡◌, ℕ, zero, suc, ◌≤◌, ◌*◌, ◌^◌, Bool, List, [], ◌∷◌, ◌++◌, map, length}
use Rattle.std.specs.List.{All, flat_map}
use Rattle.aig_graph.specs.Making.{Gates, IsSound, IsLiteral, Extends, Always}
use Rattle.aig_graph.specs.Words.{bits, worded, numbers, word_at, constant_word, HasLength}
use Rattle.rtl_core.specs.declared.design.Atom.{Atom}
use Rattle.rtl_core.specs.declared.design.Atom.TheVariants as atom
use Rattle.rtl_core.specs.declared.design.Net.{Net}
use Rattle.rtl_core.specs.declared.design.Wire.{Wire}
use Rattle.rtl_core.specs.Netlist.{Netlist, Memory}
use Rattle.rtl_core.specs.ClockStep.{State, input_widths, register_widths, wire_widths, widths_after, values_behind, net_value}
use Rattle.rtl_core.specs.Valid.{NetFits}
use Rattle.aig_blast.specs.declared.literals.Literals.{Literals}
use Rattle.aig_blast.specs.Weight.{bit_count}

-- the literals of an atom
abbrev pub literals_of : Literals → Atom → List ℕ
literals_of t (atom.Constant bits value) = constant_word bits value
literals_of t (atom.Input k) = word_at t.inputs.items k
literals_of t (atom.Reg k) = word_at t.regs.items k
literals_of t (atom.Wire k) = word_at t.wires.items k

-- the value of an atom by its literals
abbrev pub shown : Literals → List Bool → Atom → ℕ
shown t w a = worded w (literals_of t a)

abbrev pub width_shown : Literals → Atom → ℕ
width_shown t a = length (literals_of t a)

abbrev pub memories_shown : Literals → List Bool → List (List ℕ)
memories_shown t w = map (numbers w) t.mems.items

abbrev pub state_shown : Literals → List Bool → State
state_shown t w = record { regs = numbers w t.regs.items; mems = memories_shown t w }

abbrev pub pins_shown : Literals → List Bool → List ℕ
pins_shown t w = numbers w t.inputs.items

-- the value of an expression by the literals of what it reads
abbrev pub net_shown : Literals → List Bool → ℕ → Net → ℕ
net_shown t w n e = net_value (width_shown t) (shown t w) (memories_shown t w) n e

-- words of a memory of this shape
pub record IsBank (m : Memory) (lss : List (List ℕ)) : Type 0 where
  pub count : length lss ≡ 2 ^ m.depth_log
  pub wide : All (HasLength m.bits) lss

abbrev pub AreBanks : List Memory → List (List (List ℕ)) → Type 0
AreBanks [] [] = Unit {0}
AreBanks [] (b ∷ bs) = ⊥
AreBanks (m ∷ ms) [] = ⊥
AreBanks (m ∷ ms) (b ∷ bs) = IsBank m b × AreBanks ms bs

-- all literals are of the graph
pub record AreOf (d : Gates) (t : Literals) : Type 0 where
  pub inputs : All (All (IsLiteral d)) t.inputs.items
  pub regs : All (All (IsLiteral d)) t.regs.items
  pub mems : All (All (All (IsLiteral d))) t.mems.items
  pub wires : All (All (IsLiteral d)) t.wires.items

-- the literals of so many variables from number n on
abbrev pub literals_from : ℕ → ℕ → List ℕ
literals_from n zero = []
literals_from n (suc k) = 2 * n ∷ literals_from (suc n) k

abbrev pub joined : List (List ℕ) → List ℕ
joined lss = flat_map (λ (ls : List ℕ). ls) lss

-- the widths are those of the circuit up to these wires
pub record AreShaped (d : Netlist) (ws : List Wire) (t : Literals) : Type 0 where
  pub inputs : map length t.inputs.items ≡ input_widths d
  pub regs : map length t.regs.items ≡ register_widths d
  pub wires : map length t.wires.items ≡ wire_widths ws
  pub mems : AreBanks d.mems t.mems.items

-- the words of all memories, in order
abbrev pub all_words : List (List (List ℕ)) → List (List ℕ)
all_words bs = flat_map (λ (b : List (List ℕ)). b) bs

-- the literals of all variables that are given, and none of wires
pub record AreGiven (d : Netlist) (t : Literals) : Type 0 where
  pub shaped : AreShaped d [] t
  pub given : joined t.inputs.items ++ (joined t.regs.items ++ joined (all_words t.mems.items)) ≡ literals_from 1 (bit_count d)

-- The graph has the values of the circuit's wires up to these; inputs, registers and memory words are its variables, in order.
pub record IsBlasted (d : Netlist) (ws : List Wire) (e : Gates) (t : Literals) : Type 0 where
  pub sound : IsSound e
  pub shaped : AreShaped d ws t
  pub fits : AreOf e t
  pub given : joined t.inputs.items ++ (joined t.regs.items ++ joined (flat_map (λ (b : List (List ℕ)). b) t.mems.items)) ≡ literals_from 1 e.given
  pub value : Always e (λ w. numbers w t.wires.items ≡ values_behind d (state_shown t w) (pins_shown t w) [] [] ws)

-- literals that fit an expression
pub record CanMake (e : Gates) (t : Literals) (n : ℕ) (x : Net) : Type 0 where
  pub design : Netlist
  pub before : List Wire
  pub shaped : AreShaped design before t
  pub sound : IsSound e
  pub fits : AreOf e t
  pub narrow : n ≤ 128
  pub deep : All (λ (m : Memory). 1 ≤ m.depth_log) design.mems
  pub net : NetFits (widths_after design before) design.mems n x

-- gates are appended for literals whose bits are these
pub record Shows (d e : Gates) (ls : List ℕ) (V : List Bool → List Bool) : Type 0 where
  pub extends : Extends d e
  pub sound : IsSound e
  pub fits : All (IsLiteral e) ls
  pub value : Always e (λ w. bits w ls ≡ V w)
