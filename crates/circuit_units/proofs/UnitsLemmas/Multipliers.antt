-- A multiplier that is added.
use Rattle.std.proofs.Common.{◌≡◌, ℕ, zero, suc, ◌+◌, true, List, [], ◌∷◌, ◌++◌, length, slice_get, Some, None, refl, sym, ap, ◌∙◌, subst, arith}
use Rattle.std.specs.Option.{option_map}
use Rattle.std.proofs.lemmas.List.{append-nil}
use Rattle.std.proofs.lemmas.List.Elements.{All-head, All-tail}
use Rattle.std.proofs.lemmas.Option.{none-some, same_Some, slice_get-map}
use Rattle.ir_core.specs.declared.timing.UnitClass.TheVariants as u
use Rattle.rtl_core.specs.declared.design.Atom.{Atom}
use Rattle.rtl_core.specs.declared.design.Atom.TheVariants as atom
use Rattle.rtl_core.specs.declared.design.Pair.TheVariants as pair
use Rattle.rtl_core.specs.declared.design.Reg.{Reg}
use Rattle.rtl_core.specs.declared.design.Wire.{Wire}
use Rattle.rtl_core.specs.Netlist.{Netlist}
use Rattle.rtl_core.specs.ClockStep.{register_widths, seen}
use Rattle.rtl_core.specs.Valid.{WiresFit, IsBetween}
use Rattle.rtl_core.proofs.Stability.{Extends}
use Rattle.rtl_units.specs.Fragments.{grown, up, register_of, one_bit, multiplier_registers, multiplier_wires}
use Rattle.rtl_logic.specs.Making.{next_in, next_or}
use Rattle.rtl_logic.proofs.Making.{fits_later}
use Rattle.datapath.specs.Plans.{Plan}
use Rattle.datapath.specs.Cycles.{Register, Left, Right, Product, LeftOf, RightOf, SignedOf, bit}
use Rattle.datapath.specs.Units.{argument_writes, signed_writes, product}
use Rattle.datapath.specs.CircuitWires.Carrying.{IsBegun}
use Rattle.circuit_context.specs.declared.wanted.role.UnitKind.TheVariants as kind
use Rattle.circuit_context.specs.declared.wanted.role.SharedUnit.{SharedUnit}
use Rattle.circuit_context.specs.Wanted.Driving.{Seen, IsDriven, AreDriven, ShowsSignal}
use Rattle.circuit_units.specs.declared.units.units.UnitWires.{UnitWires}
use Rattle.circuit_units.specs.declared.units.units.UnitInputs.{UnitInputs}
use Rattle.circuit_units.specs.Units.{CarriesAnswers}
use Rattle.circuit_units.specs.Units.Uses.{unit_with}
use Rattle.circuit_units.specs.Units.Adding.{AreInputs, signals_in, Adds}
use Rattle.circuit_units.proofs.UnitsLemmas.Adding.{name_count, wanted_stays}
use Rattle.circuit_units.proofs.UnitsLemmas.Seeing.{at_end, at_up, Has, carries_without, has_register, has_constant, has_two, driven_by, all_fit, grown_extends, grown_begun, grown_keeps}

-- a unit with what it is given and what it gives
abbrev pub wires_with : SharedUnit → UnitInputs → Atom → Atom → UnitWires
wires_with unit x first second = record { unit = unit; left = x.left; right = x.right; signed = x.signed; first = first; second = second }

module _ (p : Plan) (names : List Register) (d : Netlist) (bits n : ℕ) (x : UnitInputs) (begun : IsBegun p names d) (between : IsBetween 1 64 bits) (inputs : AreInputs p names d (unit_with kind.Multiplier bits n) x) where
  abbrev more : List Register
  more = Left bits n ∷ Right bits n ∷ Product bits n ∷ []

  abbrev all_names : List Register
  all_names = names ++ more

  abbrev regs : List Reg
  regs = multiplier_registers (length d.wires) bits x.left x.right

  abbrev ws : List Wire
  ws = multiplier_wires (length d.regs) bits

  abbrev e : Netlist
  e = grown d regs [] ws

  abbrev the_wires : UnitWires
  the_wires = wires_with (unit_with kind.Multiplier bits n) x (atom.Wire (length d.wires)) (atom.Wire (length d.wires))

  abbrev sigs : List Seen
  sigs = signals_in (the_wires ∷ [])

  abbrev seen_right : Seen
  seen_right = (RightOf (u.Multiplier bits) n, x.right)

  abbrev seen_signed : Seen
  seen_signed = (SignedOf (u.Multiplier bits) n, x.signed)

  count : length names ≡ length d.regs
  count = name_count p names d begun

  name_at : (k : ℕ) (r : Register) → slice_get more k ≡ Some r → slice_get all_names (up k (length d.regs)) ≡ Some r
  name_at k r h = ap (λ m. slice_get all_names (up k m)) (sym count) ∙ at_up names more k r h

  reg_at : (k : ℕ) (g : Reg) → slice_get regs k ≡ Some g → slice_get e.regs (length names + k) ≡ Some g
  reg_at k g h = ap (λ m. slice_get e.regs (m + k)) count ∙ at_end d.regs regs k g h

  wide_at : (k : ℕ) (g : Reg) → slice_get regs k ≡ Some g → slice_get (register_widths e) (up k (length d.regs)) ≡ Some g.bits
  wide_at k g h = slice_get-map (λ (r : Reg). r.bits) e.regs (up k (length d.regs)) ∙ ap (option_map (λ (r : Reg). r.bits)) (at_up d.regs regs k g h)

  fit : WiresFit e d.wires ws
  fit = all_fit e d.wires ws ((between.0, omega (arith, between.1)), (wide_at 0 (register_of bits one_bit x.left) refl, wide_at 1 (register_of bits one_bit x.right) refl), tt)

  begun_e : IsBegun p all_names e
  begun_e = grown_begun p names more d regs ws begun refl fit

  longer : Extends d e
  longer = grown_extends d regs ws

  has_product : (ss : List Seen) → Has p all_names ss e bits (atom.Wire (length d.wires)) (λ c. product c bits n)
  has_product ss =
      has_two p all_names ss e (length d.wires) bits bits bits pair.Mul (atom.Reg (length d.regs)) (atom.Reg (length d.regs + 1)) (λ c. c.regs (Left bits n)) (λ c. c.regs (Right bits n))
      (at_up d.wires ws 0 _ refl)
      (has_register p all_names ss e (length d.regs) bits (Left bits n) begun_e (name_at 0 (Left bits n) refl) refl)
      (has_register p all_names ss e (length d.regs + 1) bits (Right bits n) begun_e (name_at 1 (Right bits n) refl) refl)

  has_one : Has p all_names sigs e 1 one_bit (λ c. bit true)
  has_one = has_constant p all_names sigs e 1 1 (omega arith, omega arith) (omega arith)

  has_left : Has p all_names sigs e bits x.left (λ c. c.signals (LeftOf (u.Multiplier bits) n))
  has_left = record {
    fits = fits_later d e longer bits x.left inputs.left.fits;
    value_ = λ f s pins y signals m follow. sym (All-head (λ (z : Seen). signals z.0 ≡ seen f s pins z.1) (LeftOf (u.Multiplier bits) n, x.left) (seen_right ∷ seen_signed ∷ []) follow);
  }

  has_right : Has p all_names sigs e bits x.right (λ c. c.signals (RightOf (u.Multiplier bits) n))
  has_right = record {
    fits = fits_later d e longer bits x.right inputs.right.fits;
    value_ = λ f s pins y signals m follow. let P : Seen → Type 0 = λ (z : Seen). signals z.0 ≡ seen f s pins z.1 in sym (All-head P seen_right (seen_signed ∷ []) (All-tail P (LeftOf (u.Multiplier bits) n, x.left) (seen_right ∷ seen_signed ∷ []) follow));
  }

  driven : AreDriven p all_names sigs e (length names) more
  driven zero r at =
      subst (IsDriven p all_names sigs e (length names + 0)) (same_Some (Left bits n) r at)
      (driven_by p all_names sigs e (length names + 0) bits (register_of bits one_bit x.left) (Left bits n) (λ c. true) (λ c. c.signals (LeftOf (u.Multiplier bits) n)) (λ c. c.signals (LeftOf (u.Multiplier bits) n))
      (reg_at 0 (register_of bits one_bit x.left) refl) has_one has_left (λ c h. refl) (λ c. refl))
  driven (suc zero) r at =
      subst (IsDriven p all_names sigs e (length names + 1)) (same_Some (Right bits n) r at)
      (driven_by p all_names sigs e (length names + 1) bits (register_of bits one_bit x.right) (Right bits n) (λ c. true) (λ c. c.signals (RightOf (u.Multiplier bits) n)) (λ c. c.signals (RightOf (u.Multiplier bits) n))
      (reg_at 1 (register_of bits one_bit x.right) refl) has_one has_right (λ c h. refl) (λ c. refl))
  driven (suc (suc zero)) r at =
      subst (IsDriven p all_names sigs e (length names + 2)) (same_Some (Product bits n) r at)
      (driven_by p all_names sigs e (length names + 2) bits (register_of bits one_bit (atom.Wire (length d.wires))) (Product bits n) (λ c. true) (λ c. product c bits n) (λ c. product c bits n)
      (reg_at 2 (register_of bits one_bit (atom.Wire (length d.wires))) refl) has_one (has_product sigs) (λ c h. refl) (λ c. refl))
  driven (suc (suc (suc k))) r at = absurd (none-some r at)

  shown : (k : ℕ) (y : Seen) → slice_get sigs k ≡ Some y → ShowsSignal p all_names e y
  shown zero y at = subst (ShowsSignal p all_names e) (same_Some (LeftOf (u.Multiplier bits) n, x.left) y at) (record {
    bits = bits;
    carries = wanted_stays p names more d e bits x.left (λ c. argument_writes p c (u.Multiplier bits) n 0) (λ c. None) longer inputs.left;
  })
  shown (suc zero) y at = subst (ShowsSignal p all_names e) (same_Some (RightOf (u.Multiplier bits) n, x.right) y at) (record {
    bits = bits;
    carries = wanted_stays p names more d e bits x.right (λ c. argument_writes p c (u.Multiplier bits) n 1) (λ c. None) longer inputs.right;
  })
  shown (suc (suc zero)) y at = subst (ShowsSignal p all_names e) (same_Some (SignedOf (u.Multiplier bits) n, x.signed) y at) (record {
    bits = 1;
    carries = wanted_stays p names more d e 1 x.signed (λ c. signed_writes p c (u.Multiplier bits) n) (λ c. None) longer inputs.signed;
  })
  shown (suc (suc (suc k))) y at = absurd (none-some y at)

  answers : (k : ℕ) (w : UnitWires) → slice_get (the_wires ∷ []) k ≡ Some w → CarriesAnswers p all_names e w
  answers zero w at = subst (CarriesAnswers p all_names e) (same_Some the_wires w at) (
    record { bits = bits; carries = carries_without p all_names e bits (atom.Wire (length d.wires)) (λ c. product c bits n) (has_product []) },
    record { bits = bits; carries = carries_without p all_names e bits (atom.Wire (length d.wires)) (λ c. product c bits n) (has_product []) },
  )
  answers (suc k) w at = absurd (none-some w at)

  pub multiplier_added : Adds p names d e (the_wires ∷ [])
  multiplier_added = record {
    extends = longer;
    begun = begun_e;
    registers = λ k less. grown_keeps d.regs regs k less;
    memories = append-nil d.mems;
    outputs = refl;
    driven = driven;
    shown = shown;
    answers = answers;
  }

-- what the product's register takes next
pub product_next : (d : Netlist) (bits : ℕ) (left right : Atom) → next_in (grown d (multiplier_registers (length d.wires) bits left right) [] (multiplier_wires (length d.regs) bits)) (atom.Reg (length d.regs + 2)) ≡ atom.Wire (length d.wires)
product_next d bits left right =
    ap (next_or (atom.Reg (length d.regs + 2))) (at_end d.regs (multiplier_registers (length d.wires) bits left right) 2 (register_of bits one_bit (atom.Wire (length d.wires))) refl)

-- a multiplier is added, and its product is what its register takes next
pub multiplier_adds : (p : Plan) (names : List Register) (d e : Netlist) (unit : SharedUnit) (x : UnitInputs) (a : Atom) → IsBegun p names d → unit ≡ unit_with kind.Multiplier unit.bits unit.number → IsBetween 1 64 unit.bits
    → AreInputs p names d unit x → e ≡ grown d (multiplier_registers (length d.wires) unit.bits x.left x.right) [] (multiplier_wires (length d.regs) unit.bits) → a ≡ next_in e (atom.Reg (length d.regs + 2))
    → Adds p names d e (wires_with unit x a a ∷ [])
multiplier_adds p names d e unit x a begun is between inputs grows next =
    let it : SharedUnit = unit_with kind.Multiplier unit.bits unit.number in
    let f : Netlist = grown d (multiplier_registers (length d.wires) unit.bits x.left x.right) [] (multiplier_wires (length d.regs) unit.bits) in
    let same : a ≡ atom.Wire (length d.wires) = next ∙ (ap (λ (m : Netlist). next_in m (atom.Reg (length d.regs + 2))) grows ∙ product_next d unit.bits x.left x.right) in
    let added : Adds p names d f (wires_with it x (atom.Wire (length d.wires)) (atom.Wire (length d.wires)) ∷ []) =
    multiplier_added p names d unit.bits unit.number x begun between (subst (λ (y : SharedUnit). AreInputs p names d y x) is inputs) in
    subst (λ (m : Netlist). Adds p names d m (wires_with unit x a a ∷ [])) (sym grows)
    (subst (λ (b : Atom). Adds p names d f (wires_with unit x b b ∷ [])) (sym same)
    (subst (λ (y : SharedUnit). Adds p names d f (wires_with y x (atom.Wire (length d.wires)) (atom.Wire (length d.wires)) ∷ [])) (sym is) added))
