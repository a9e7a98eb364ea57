-- Two circuits and the delays of their paths.
use Rattle.std.specs.Prelude.{◌≡◌, ℕ, List, [], ◌∷◌, codes, refl}
use Rattle.rtl_core.specs.declared.design.Atom.{Atom}
use Rattle.rtl_core.specs.declared.design.Atom.TheVariants as atom
use Rattle.rtl_core.specs.declared.design.Pair.TheVariants as pair
use Rattle.rtl_core.specs.declared.design.Net.TheVariants as net
use Rattle.rtl_core.specs.declared.design.Wire.{Wire}
use Rattle.rtl_core.specs.Netlist.{Netlist}
use Rattle.timing_path.specs.Paths.{path_delay}

abbrev one : Atom
one = atom.Constant 1 1

-- a register of 4 bits to which an input is added
abbrev pub accumulator : Netlist
accumulator = record {
  name = codes "t";
  inputs = record { name = codes "a"; bits = 4 } ∷ [];
  outputs = record { name = codes "y"; bits = 4; from = atom.Reg 0 } ∷ [];
  regs = record { bits = 4; enable = one; next = atom.Wire 0 } ∷ [];
  mems = [];
  wires = record { bits = 4; net = net.Two pair.Add (atom.Reg 0) (atom.Input 0) } ∷ [];
}

pub accumulator_delay : path_delay accumulator (0 ∷ []) ≡ 4
accumulator_delay = refl

-- the wires of a comparison of the copied register with the input, and of a choice by it
abbrev chosen_wires : List Wire
chosen_wires = record { bits = 4; net = net.Copy (atom.Reg 0) }
    ∷ record { bits = 1; net = net.Two pair.Below (atom.Wire 0) (atom.Input 0) }
    ∷ record { bits = 4; net = net.Pick (atom.Wire 1) (atom.Wire 0) (atom.Input 0) }
    ∷ record { bits = 4; net = net.Two pair.Left (atom.Wire 2) one } ∷ []

abbrev pub chooser : Netlist
chooser = record {
  name = codes "t";
  inputs = record { name = codes "a"; bits = 4 } ∷ [];
  outputs = record { name = codes "y"; bits = 4; from = atom.Reg 0 } ∷ [];
  regs = record { bits = 4; enable = one; next = atom.Wire 3 } ∷ [];
  mems = [];
  wires = chosen_wires;
}

pub chooser_delay : path_delay chooser (1 ∷ 2 ∷ []) ≡ 6
chooser_delay = refl

-- a copy and a shift by a constant take no time
pub chooser_same_delay : path_delay chooser (0 ∷ 1 ∷ 2 ∷ 3 ∷ []) ≡ 6
chooser_same_delay = refl
