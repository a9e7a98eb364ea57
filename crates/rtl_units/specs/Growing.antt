-- What stands in a circuit after a fragment was added.
use Rattle.std.specs.Prelude.{◌≡◌, ℕ, ◌+◌, List, [], ◌∷◌, length}
use Rattle.rtl_core.specs.declared.design.Atom.{Atom}
use Rattle.rtl_core.specs.declared.design.Atom.TheVariants as atom
use Rattle.rtl_core.specs.declared.design.Wire.{Wire}
use Rattle.rtl_core.specs.Netlist.{Netlist}
use Rattle.rtl_units.specs.declared.builder.Fragment.{Fragment}
use Rattle.rtl_units.specs.declared.builder.Fragment.TheVariants as fragment
use Rattle.rtl_units.specs.declared.divider.Division.{Division}
use Rattle.rtl_units.specs.Fragments.{grown, memory_with, port_wires, wires_from, multiplier_registers, multiplier_wires}
use Rattle.rtl_units.specs.Division.{divider_registers, divider_wires, quotient_atom, remainder_atom}

abbrev pub division_of : ℕ → Atom → Atom → Atom → Atom → Division
division_of bits signed start left right = record { bits = bits; signed = signed; start = start; left = left; right = right }

-- What stands before stays as it is, and only a store appends a memory.
abbrev pub Grows : Netlist → Fragment → Netlist → Type 0
Grows d (fragment.Store bits depth_log ports) e = e ≡ grown d [] (memory_with bits depth_log ports.items ∷ []) (port_wires (length d.mems) bits ports.items)
Grows d (fragment.Table bits words addr) e = (wires : List Wire) × (e ≡ grown d [] [] wires)
Grows d (fragment.Multiplier bits left right) e = e ≡ grown d (multiplier_registers (length d.wires) bits left right) [] (multiplier_wires (length d.regs) bits)
Grows d (fragment.Divider bits signed start left right) e =
    e ≡ grown d (divider_registers (length d.wires) (division_of bits signed start left right)) [] (divider_wires (length d.regs) (length d.wires) (division_of bits signed start left right))

-- the atoms that show what a fragment gives
abbrev pub Shows : Netlist → Fragment → List Atom → Type 0
Shows d (fragment.Store bits depth_log ports) atoms = atoms ≡ wires_from (length d.wires) (length ports.items)
Shows d (fragment.Table bits words addr) atoms = length atoms ≡ 1
Shows d (fragment.Multiplier bits left right) atoms = atoms ≡ atom.Reg (length d.regs + 2) ∷ []
Shows d (fragment.Divider bits signed start left right) atoms =
    atoms
    ≡ quotient_atom (length d.regs) (length d.wires) (division_of bits signed start left right)
    ∷ remainder_atom (length d.regs) (length d.wires) (division_of bits signed start left right)
    ∷ []
