-- A part of a larger circuit behaves as it does alone.
pub mod Placing
use Rattle.std.specs.Prelude.{◌≡◌, ℕ, List, [], ◌++◌, map}
use Rattle.std.specs.List.{All}
use Rattle.rtl_core.specs.declared.design.Atom.{Atom}
use Rattle.rtl_core.specs.declared.design.Wire.{Wire}
use Rattle.rtl_core.specs.Netlist.{Netlist}
use Rattle.rtl_core.specs.ClockStep.{State, widths, seen, clocked_registers, clocked_memories}
use Rattle.rtl_core.specs.Valid.{HasBits, WiresFit, RegisterFits, MemoryFits}
use Rattle.chain_box.specs.StageEmbedding.Placing.{Place, renamed, renamed_register, renamed_memory, renamed_wires, HasPlace, HoldsPlace}

-- The renamed wires are valid after the wires `before`.
abbrev pub PartsFit : Type 0
PartsFit = (d h : Netlist) (before : List Wire) (p : Place) → WiresFit d [] d.wires → HasPlace d h before p → WiresFit h before (renamed_wires p d.wires)

-- The pins of the part are the values of its input atoms. With these pins every atom of the part has the value that it has alone, and so do its registers and memories after an edge.
pub record SeesTheSame (d h : Netlist) (s t : State) (all : List ℕ) (p : Place) : Type 0 where
  pub atoms : (n : ℕ) (a : Atom) → HasBits (widths d) n a → seen h t all (renamed p a) ≡ seen d s (map (seen h t all) p.inputs) a
  pub registers : All (RegisterFits (widths d)) d.regs → (xs : List ℕ)
      → clocked_registers (seen h t all) (map (renamed_register p) d.regs) xs ≡ clocked_registers (seen d s (map (seen h t all) p.inputs)) d.regs xs
  pub memories : All (MemoryFits (widths d)) d.mems → (xs : List (List ℕ))
      → clocked_memories (seen h t all) (map (renamed_memory p) d.mems) xs ≡ clocked_memories (seen d s (map (seen h t all) p.inputs)) d.mems xs

abbrev pub PartsSeeTheSame : Type 0
PartsSeeTheSame = (d h : Netlist) (before after : List Wire) (p : Place) → WiresFit d [] d.wires → HasPlace d h before p → h.wires ≡ before ++ (renamed_wires p d.wires ++ after)
    → (s t : State) (all : List ℕ) → HoldsPlace d s t p → SeesTheSame d h s t all p
