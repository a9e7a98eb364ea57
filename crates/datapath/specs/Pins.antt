-- What the inputs of the module of a function are.
use Rattle.std.specs.Prelude.{◌≡◌, ℕ, ◌+◌, ◌<◌, List, length, slice_index}
use Rattle.rtl_core.specs.declared.design.Atom.{Atom}
use Rattle.rtl_core.specs.declared.design.Atom.TheVariants as atom
use Rattle.rtl_core.specs.Netlist.{Netlist}
use Rattle.rtl_core.specs.ClockStep.{State, widths, seen}
use Rattle.rtl_core.specs.Interface.{Interface, input_pins, arguments_of}
use Rattle.rtl_core.specs.Valid.{HasBits}

-- the atom has so many bits in a circuit with the pins of a function, and in each cycle it is what the pins have
pub record IsPin (a : Atom) (bits : ℕ) (value : List ℕ → ℕ) : Type 0 where
  pub fits : (d : Netlist) (i : Interface) → d.inputs ≡ input_pins i → HasBits (widths d) bits a
  pub shows : (d : Netlist) (s : State) (pins : List ℕ) → seen d s pins a ≡ value pins

-- from this number on the inputs are the arguments, in order
pub record ArgumentsFrom (first : ℕ) : Type 0 where
  pub fits : (d : Netlist) (i : Interface) (k : ℕ) → d.inputs ≡ input_pins i → k < length i.scalars → HasBits (widths d) (slice_index i.scalars k) (atom.Input (first + k))
  pub shows : (d : Netlist) (s : State) (pins : List ℕ) (k : ℕ) → seen d s pins (atom.Input (first + k)) ≡ slice_index (arguments_of pins) k
