-- A divider is added, with signs or without.
use Rattle.std.proofs.Common.{◌≡◌, ℕ, ◌+◌, Bool, true, false, List, [], ◌∷◌, length, get_or, refl, sym, ap, ◌∙◌, subst}
use Rattle.std.specs.Prelude.{not, if◌then◌else◌}
use Rattle.rtl_core.specs.declared.design.Atom.{Atom}
use Rattle.rtl_core.specs.declared.design.Atom.TheVariants as atom
use Rattle.rtl_core.specs.Netlist.{Netlist}
use Rattle.rtl_core.specs.Valid.{IsBetween}
use Rattle.rtl_units.specs.Fragments.{grown, up}
use Rattle.rtl_units.specs.Division.{is_unsigned, unsigned_wires, unsigned_registers, signed_wires, signed_registers, divider_wires, divider_registers, quotient_atom, remainder_atom}
use Rattle.rtl_units.specs.Growing.{division_of}
use Rattle.datapath.specs.Plans.{Plan}
use Rattle.datapath.specs.Cycles.{Register}
use Rattle.datapath.specs.Units.{is_dividing, has_signs}
use Rattle.datapath.specs.CircuitWires.Carrying.{IsBegun, Tells}
use Rattle.circuit_context.specs.declared.wanted.role.UnitKind.TheVariants as kind
use Rattle.circuit_context.specs.declared.wanted.role.SharedUnit.{SharedUnit}
use Rattle.circuit_units.specs.declared.units.units.UnitInputs.{UnitInputs}
use Rattle.circuit_units.specs.Units.Uses.{unit_with}
use Rattle.circuit_units.specs.Units.Adding.{AreInputs, Adds}
use Rattle.circuit_units.proofs.UnitsLemmas.Multipliers.{wires_with}
use Rattle.circuit_units.proofs.UnitsLemmas.Dividers.{IsDivision}
use Rattle.circuit_units.proofs.UnitsLemmas.Unsigned.{unsigned_added}
use Rattle.circuit_units.proofs.UnitsLemmas.Signed.{signed_added}

not_true : (b : Bool) → true ≡ not b → b ≡ false
not_true true e = e
not_true false e = refl

not_false : (b : Bool) → false ≡ not b → b ≡ true
not_false true e = refl
not_false false e = e

-- a divider that is appended
divider_by : (p : Plan) (names : List Register) (d : Netlist) (bits n : ℕ) (x : UnitInputs) (start : Atom) → IsDivision p names d bits n x start → is_unsigned x.signed ≡ not (has_signs p bits n)
    → Adds p names d (grown d (divider_registers (length d.wires) (division_of bits x.signed start x.left x.right)) [] (divider_wires (length d.regs) (length d.wires) (division_of bits x.signed start x.left x.right)))
    (wires_with (unit_with kind.Divider bits n) x (quotient_atom (length d.regs) (length d.wires) (division_of bits x.signed start x.left x.right))
    (remainder_atom (length d.regs) (length d.wires) (division_of bits x.signed start x.left x.right)) ∷ [])
divider_by p names d bits n x start g agree = by (is_unsigned x.signed) refl where
  by : (b : Bool) → is_unsigned x.signed ≡ b
      → Adds p names d (grown d (if b then unsigned_registers (length d.wires) (division_of bits x.signed start x.left x.right) else signed_registers (length d.wires) (division_of bits x.signed start x.left x.right)) []
      (if b then unsigned_wires (length d.regs) (length d.wires) (division_of bits x.signed start x.left x.right) else signed_wires (length d.regs) (length d.wires) (division_of bits x.signed start x.left x.right)))
      (wires_with (unit_with kind.Divider bits n) x (if b then atom.Reg (length d.regs + 1) else atom.Wire (up 30 (length d.wires))) (if b then atom.Reg (length d.regs + 2) else atom.Wire (up 32 (length d.wires))) ∷ [])
  by true e = unsigned_added p names d bits n x start g e (not_true (has_signs p bits n) (sym e ∙ agree))
  by false e = signed_added p names d bits n x start g (not_false (has_signs p bits n) (sym e ∙ agree))

pub divider_adds : (p : Plan) (names : List Register) (d e : Netlist) (unit : SharedUnit) (x : UnitInputs) (start first second : Atom) → IsBegun p names d → unit ≡ unit_with kind.Divider unit.bits unit.number
    → IsBetween 32 64 unit.bits → AreInputs p names d unit x → Tells p names d start (λ c. is_dividing p c unit.bits unit.number) → is_unsigned x.signed ≡ not (has_signs p unit.bits unit.number)
    → e ≡ grown d (divider_registers (length d.wires) (division_of unit.bits x.signed start x.left x.right)) [] (divider_wires (length d.regs) (length d.wires) (division_of unit.bits x.signed start x.left x.right))
    → first ≡ quotient_atom (length d.regs) (length d.wires) (division_of unit.bits x.signed start x.left x.right) → second ≡ remainder_atom (length d.regs) (length d.wires) (division_of unit.bits x.signed start x.left x.right)
    → Adds p names d e (wires_with unit x first second ∷ [])
divider_adds p names d e unit x start first second begun is between inputs starting agree grows one two =
    let it : SharedUnit = unit_with kind.Divider unit.bits unit.number in
    let q : Atom = quotient_atom (length d.regs) (length d.wires) (division_of unit.bits x.signed start x.left x.right) in
    let r : Atom = remainder_atom (length d.regs) (length d.wires) (division_of unit.bits x.signed start x.left x.right) in
    let f : Netlist = grown d (divider_registers (length d.wires) (division_of unit.bits x.signed start x.left x.right)) [] (divider_wires (length d.regs) (length d.wires) (division_of unit.bits x.signed start x.left x.right)) in
    let g : IsDivision p names d unit.bits unit.number x start = record { begun = begun; low = between.0; high = between.1; inputs = subst (λ (y : SharedUnit). AreInputs p names d y x) is inputs; starting = starting } in
    let added : Adds p names d f (wires_with it x q r ∷ []) = divider_by p names d unit.bits unit.number x start g agree in
    subst (λ (m : Netlist). Adds p names d m (wires_with unit x first second ∷ [])) (sym grows)
    (subst (λ (a : Atom). Adds p names d f (wires_with unit x a second ∷ [])) (sym one)
    (subst (λ (b : Atom). Adds p names d f (wires_with unit x q b ∷ [])) (sym two)
    (subst (λ (y : SharedUnit). Adds p names d f (wires_with y x q r ∷ [])) (sym is) added)))

-- the first and the second of two pins
pub only_pin : (items : List Atom) (a q : Atom) → a ≡ get_or items 0 a → items ≡ q ∷ [] → a ≡ q
only_pin items a q at is = at ∙ ap (λ l. get_or l 0 a) is

pub first_pin : (items : List Atom) (a q r : Atom) → a ≡ get_or items 0 a → items ≡ q ∷ r ∷ [] → a ≡ q
first_pin items a q r at is = at ∙ ap (λ l. get_or l 0 a) is

pub second_pin : (items : List Atom) (a q r : Atom) → a ≡ get_or items 1 a → items ≡ q ∷ r ∷ [] → a ≡ r
second_pin items a q r at is = at ∙ ap (λ l. get_or l 1 a) is
