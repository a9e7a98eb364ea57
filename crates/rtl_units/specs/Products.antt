-- A multiplier gives in each cycle the product of its operands of two cycles before.
use Rattle.std.specs.Prelude.{◌≡◌, ℕ, ◌+◌, ◌*◌, ◌%◌, ◌^◌, List, [], length, slice_get, slice_index, Some}
use Rattle.rtl_core.specs.declared.design.Atom.{Atom}
use Rattle.rtl_core.specs.declared.design.Atom.TheVariants as atom
use Rattle.rtl_core.specs.declared.design.Pair.TheVariants as pair
use Rattle.rtl_core.specs.declared.design.Net.TheVariants as net
use Rattle.rtl_core.specs.declared.design.Wire.{Wire}
use Rattle.rtl_core.specs.declared.design.Reg.{Reg}
use Rattle.rtl_core.specs.Netlist.{Netlist, Memory}
use Rattle.rtl_core.specs.ClockStep.{State, seen, stepped}
use Rattle.rtl_core.specs.Valid.{WiresFit}
use Rattle.rtl_units.specs.Fragments.{register_of, wire_of, one_bit, grown, multiplier_registers, multiplier_wires}

-- the registers from number r on and the wire number w are those of a multiplier
pub record HasMultiplier (d : Netlist) (r w bits : ℕ) (left right : Atom) : Type 0 where
  pub takes_left : slice_get d.regs r ≡ Some (register_of bits one_bit left)
  pub takes_right : slice_get d.regs (r + 1) ≡ Some (register_of bits one_bit right)
  pub product : slice_get d.regs (r + 2) ≡ Some (register_of bits one_bit (atom.Wire w))
  pub wire : slice_get d.wires w ≡ Some (wire_of bits (net.Two pair.Mul (atom.Reg r) (atom.Reg (r + 1))))

-- a circuit to which a multiplier is appended has it, and what is appended later leaves it there
abbrev pub MultiplierStays : Type 0
MultiplierStays = (d : Netlist) (bits : ℕ) (left right : Atom) (regs : List Reg) (mems : List Memory) (wires : List Wire)
    → HasMultiplier (grown (grown d (multiplier_registers (length d.wires) bits left right) [] (multiplier_wires (length d.regs) bits)) regs mems wires) (length d.regs) (length d.wires) bits left right

-- the product of the operands of one cycle is there two cycles later, whatever the pins
abbrev pub GivesProducts : Type 0
GivesProducts = (d : Netlist) (r w bits : ℕ) (left right : Atom) (s : State) (pins later : List ℕ) → WiresFit d [] d.wires → length s.regs ≡ length d.regs
    → HasMultiplier d r w bits left right
    → slice_index (stepped d (stepped d s pins) later).regs (r + 2) ≡ (seen d s pins left * seen d s pins right) % 2 ^ bits
