-- A divider that is added.
use Rattle.std.proofs.Common.{◌≡◌, ◌≤◌, ℕ, zero, suc, ◌+◌, ◌-◌, ◌^◌, List, [], ◌∷◌, ◌++◌, length, map, slice_get, Some, None, refl, sym, ap, ◌∙◌, subst}
use Rattle.std.specs.Prelude.{◌==◌, ◌||◌, not, if◌then◌else◌}
use Rattle.std.proofs.lemmas.List.{append-nil}
use Rattle.std.proofs.lemmas.List.Elements.{All-head, All-tail}
use Rattle.std.proofs.lemmas.Option.{none-some, same_Some}
use Rattle.ir_core.specs.declared.timing.UnitClass.TheVariants as u
use Rattle.rtl_core.specs.declared.design.Atom.{Atom}
use Rattle.rtl_core.specs.declared.design.Atom.TheVariants as atom
use Rattle.rtl_core.specs.declared.design.Reg.{Reg}
use Rattle.rtl_core.specs.declared.design.Wire.{Wire}
use Rattle.rtl_core.specs.Netlist.{Netlist}
use Rattle.rtl_core.specs.ClockStep.{State, widths, seen}
use Rattle.rtl_core.specs.Valid.{HasBits, WiresFit}
use Rattle.rtl_core.proofs.Stability.{Extends}
use Rattle.rtl_units.specs.Fragments.{grown, up, register_of}
use Rattle.rtl_units.specs.Division.{step_bits}
use Rattle.rtl_logic.specs.Choosing.{where_}
use Rattle.rtl_logic.proofs.Making.{fits_later}
use Rattle.datapath.specs.Plans.{Plan}
use Rattle.datapath.specs.Cycles.{Register, Steps, Dividend, Remainder, Divisor, Signal, LeftOf, RightOf, SignedOf, Cycle, bit}
use Rattle.datapath.specs.Circuits.{width, register_writes}
use Rattle.datapath.specs.Units.{is_dividing, argument_writes, signed_writes, negated_if, left_negative, next_dividend, next_remainder}
use Rattle.datapath.specs.CircuitWires.Carrying.{IsBegun, Tells}
use Rattle.datapath.proofs.Carrying as carrying
use Rattle.circuit_context.specs.declared.wanted.role.UnitKind.TheVariants as kind
use Rattle.circuit_context.specs.Wanted.Driving.{Seen, Follow, IsDriven, AreDriven, ShowsSignal}
use Rattle.circuit_units.specs.declared.units.units.UnitWires.{UnitWires}
use Rattle.circuit_units.specs.declared.units.units.UnitInputs.{UnitInputs}
use Rattle.circuit_units.specs.Units.{CarriesAnswers}
use Rattle.circuit_units.specs.Units.Uses.{unit_with}
use Rattle.circuit_units.specs.Units.Adding.{AreInputs, registers_in, signals_in, Adds}
use Rattle.circuit_units.proofs.UnitsLemmas.Adding.{name_count, wanted_stays}
use Rattle.circuit_units.proofs.UnitsLemmas.Seeing.{at_end, at_up, Stand, Has, has_carried, has_register, driven_by, grown_extends, grown_begun, grown_keeps}
use Rattle.circuit_units.proofs.UnitsLemmas.Parts.{step_bits_are}
use Rattle.circuit_units.proofs.UnitsLemmas.Dividing.{AreState, IsWork, step_taken}

-- ---- what is appended

-- a circuit to which these registers and wires are appended
pub record IsGrown (p : Plan) (names more : List Register) (d e : Netlist) (regs : List Reg) (ws : List Wire) : Type 0 where
  pub from : IsBegun p names d
  pub begun : IsBegun p (names ++ more) e
  pub longer : Extends d e
  pub regs_ : e.regs ≡ d.regs ++ regs
  pub wires_ : e.wires ≡ d.wires ++ ws
  pub mems_ : e.mems ≡ d.mems
  pub outputs_ : e.outputs ≡ d.outputs

pub grown_is : (p : Plan) (names more : List Register) (d : Netlist) (regs : List Reg) (ws : List Wire) → IsBegun p names d → map (λ (r : Reg). r.bits) regs ≡ map (width p) more
    → WiresFit (grown d regs [] ws) d.wires ws → IsGrown p names more d (grown d regs [] ws) regs ws
grown_is p names more d regs ws from same fit = record {
  from = from;
  begun = grown_begun p names more d regs ws from same fit;
  longer = grown_extends d regs ws;
  regs_ = refl;
  wires_ = refl;
  mems_ = append-nil d.mems;
  outputs_ = refl;
}

follow_at : (sigs : List Seen) (e : Netlist) (s : State) (pins : List ℕ) (signals : Signal → ℕ) → Follow sigs e s pins signals → (k : ℕ) (y : Seen) → slice_get sigs k ≡ Some y → signals y.0 ≡ seen e s pins y.1
follow_at [] e s pins signals h k y at = absurd (none-some y at)
follow_at (x ∷ xs) e s pins signals h zero y at = subst (λ (z : Seen). signals z.0 ≡ seen e s pins z.1) (same_Some x y at) (All-head (λ (z : Seen). signals z.0 ≡ seen e s pins z.1) x xs h)
follow_at (x ∷ xs) e s pins signals h (suc k) y at = follow_at xs e s pins signals (All-tail (λ (z : Seen). signals z.0 ≡ seen e s pins z.1) x xs h) k y at

-- an atom at which a signal is seen
pub has_signal : (p : Plan) (names : List Register) (sigs : List Seen) (e : Netlist) (bits k : ℕ) (signal : Signal) (a : Atom) → slice_get sigs k ≡ Some (signal, a) → HasBits (widths e) bits a
    → Has p names sigs e bits a (λ c. c.signals signal)
has_signal p names sigs e bits k signal a at fits = record { fits = fits; value_ = λ f s pins x signals m follow. sym (follow_at sigs f s pins signals follow k (signal, a) at) }

-- the same value, where an atom has two values that are one
pub has_known : (p : Plan) (names : List Register) (sigs : List Seen) (e : Netlist) (bits n m : ℕ) (a b : Atom) (value other U V : Cycle → ℕ) → Has p names sigs e n b U → Has p names sigs e m b V
    → ((c : Cycle) → U c ≡ V c → value c ≡ other c) → Has p names sigs e bits a value → Has p names sigs e bits a other
has_known p names sigs e bits n m a b value other U V first second same h = record {
  fits = h.fits;
  value_ = λ f s pins x signals mo follow.
      h.value_ f s pins x signals mo follow ∙ same _ (sym (first.value_ f s pins x signals mo follow) ∙ second.value_ f s pins x signals mo follow);
}

-- a unit is added whose registers are these
pub adds_with : (p : Plan) (names more : List Register) (d e : Netlist) (regs : List Reg) (ws : List Wire) (w : UnitWires) → IsGrown p names more d e regs ws → registers_in p (w ∷ []) ≡ more
    → AreDriven p (names ++ more) (signals_in (w ∷ [])) e (length names) more → ((k : ℕ) (y : Seen) → slice_get (signals_in (w ∷ [])) k ≡ Some y → ShowsSignal p (names ++ more) e y)
    → CarriesAnswers p (names ++ more) e w → Adds p names d e (w ∷ [])
adds_with p names more d e regs ws w h same driven shown answers = record {
  extends = h.longer;
  begun = subst (λ rs. IsBegun p (names ++ rs) e) (sym same) h.begun;
  registers = λ k less. ap (λ l. slice_get l k) h.regs_ ∙ grown_keeps d.regs regs k less;
  memories = h.mems_;
  outputs = h.outputs_;
  driven = subst (λ (rs : List Register). AreDriven p (names ++ rs) (signals_in (w ∷ [])) e (length names) rs) (sym same) driven;
  shown = λ k y at. subst (λ rs. ShowsSignal p (names ++ rs) e y) (sym same) (shown k y at);
  answers = λ k v at. subst (λ rs. CarriesAnswers p (names ++ rs) e v) (sym same) (one v k at);
} where
  one : (v : UnitWires) (k : ℕ) → slice_get (w ∷ []) k ≡ Some v → CarriesAnswers p (names ++ more) e v
  one v zero at = subst (CarriesAnswers p (names ++ more) e) (same_Some w v at) answers
  one v (suc k) at = absurd (none-some v at)

-- ---- what a divider is given

abbrev pub seen_at : ℕ → ℕ → UnitInputs → List Seen
seen_at bits n x = (LeftOf (u.Divider bits) n, x.left) ∷ (RightOf (u.Divider bits) n, x.right) ∷ (SignedOf (u.Divider bits) n, x.signed) ∷ []

pub record IsDivision (p : Plan) (names : List Register) (d : Netlist) (bits n : ℕ) (x : UnitInputs) (start : Atom) : Type 0 where
  pub begun : IsBegun p names d
  pub low : 32 ≤ bits
  pub high : bits ≤ 64
  pub inputs : AreInputs p names d (unit_with kind.Divider bits n) x
  pub starting : Tells p names d start (λ c. is_dividing p c bits n)

module _ (p : Plan) (names more : List Register) (d e : Netlist) (regs : List Reg) (ws : List Wire) (h : IsGrown p names more d e regs ws) where
  count : length names ≡ length d.regs
  count = name_count p names d h.from

  pub name_at : (k : ℕ) (r : Register) → slice_get more k ≡ Some r → slice_get (names ++ more) (length d.regs + k) ≡ Some r
  name_at k r at = ap (λ m. slice_get (names ++ more) (m + k)) (sym count) ∙ at_end names more k r at

  reg_at : (k : ℕ) (g : Reg) → slice_get regs k ≡ Some g → slice_get e.regs (length names + k) ≡ Some g
  reg_at k g at = ap (λ m. slice_get e.regs (m + k)) count ∙ (ap (λ l. slice_get l (length d.regs + k)) h.regs_ ∙ at_end d.regs regs k g at)

  pub all_stand : Stand e (length d.wires) ws
  all_stand k w at = ap (λ l. slice_get l (up k (length d.wires))) h.wires_ ∙ at_up d.wires ws k w at

  module _ (bits n : ℕ) (x : UnitInputs) (start : Atom) (g : IsDivision p names d bits n x start) where
    pub all_shown : (k : ℕ) (y : Seen) → slice_get (seen_at bits n x) k ≡ Some y → ShowsSignal p (names ++ more) e y
    all_shown zero y at = subst (ShowsSignal p (names ++ more) e) (same_Some (LeftOf (u.Divider bits) n, x.left) y at) (record {
      bits = bits;
      carries = wanted_stays p names more d e bits x.left (λ c. argument_writes p c (u.Divider bits) n 0) (λ c. None) h.longer g.inputs.left;
    })
    all_shown (suc zero) y at = subst (ShowsSignal p (names ++ more) e) (same_Some (RightOf (u.Divider bits) n, x.right) y at) (record {
      bits = bits;
      carries = wanted_stays p names more d e bits x.right (λ c. argument_writes p c (u.Divider bits) n 1) (λ c. None) h.longer g.inputs.right;
    })
    all_shown (suc (suc zero)) y at = subst (ShowsSignal p (names ++ more) e) (same_Some (SignedOf (u.Divider bits) n, x.signed) y at) (record {
      bits = 1;
      carries = wanted_stays p names more d e 1 x.signed (λ c. signed_writes p c (u.Divider bits) n) (λ c. None) h.longer g.inputs.signed;
    })
    all_shown (suc (suc (suc k))) y at = absurd (none-some y at)

    pub has_left : Has p (names ++ more) (seen_at bits n x) e bits x.left (λ c. c.signals (LeftOf (u.Divider bits) n))
    has_left = has_signal p (names ++ more) (seen_at bits n x) e bits 0 (LeftOf (u.Divider bits) n) x.left refl (fits_later d e h.longer bits x.left g.inputs.left.fits)

    pub has_right : Has p (names ++ more) (seen_at bits n x) e bits x.right (λ c. c.signals (RightOf (u.Divider bits) n))
    has_right = has_signal p (names ++ more) (seen_at bits n x) e bits 1 (RightOf (u.Divider bits) n) x.right refl (fits_later d e h.longer bits x.right g.inputs.right.fits)

    pub has_signed : Has p (names ++ more) (seen_at bits n x) e 1 x.signed (λ c. c.signals (SignedOf (u.Divider bits) n))
    has_signed = has_signal p (names ++ more) (seen_at bits n x) e 1 2 (SignedOf (u.Divider bits) n) x.signed refl (fits_later d e h.longer 1 x.signed g.inputs.signed.fits)

    pub has_start : Has p (names ++ more) (seen_at bits n x) e 1 start (λ c. bit (is_dividing p c bits n))
    has_start = has_carried p (names ++ more) (seen_at bits n x) e 1 start (λ c. bit (is_dividing p c bits n)) (carrying.stays p names more d e 1 start (λ c. bit (is_dividing p c bits n)) g.begun.named h.begun.named h.longer g.starting)

    pub are_state : slice_get more 0 ≡ Some (Steps bits n) → slice_get more 1 ≡ Some (Dividend bits n) → slice_get more 2 ≡ Some (Remainder bits n) → slice_get more 3 ≡ Some (Divisor bits n)
        → AreState p (names ++ more) (seen_at bits n x) e bits n (length d.regs)
    are_state a b c f = record {
      steps = has_register p (names ++ more) (seen_at bits n x) e (length d.regs + 0) (step_bits bits) (Steps bits n) h.begun (name_at 0 (Steps bits n) a) (step_bits_are bits g.low g.high);
      dividend = has_register p (names ++ more) (seen_at bits n x) e (length d.regs + 1) bits (Dividend bits n) h.begun (name_at 1 (Dividend bits n) b) refl;
      remainder = has_register p (names ++ more) (seen_at bits n x) e (length d.regs + 2) bits (Remainder bits n) h.begun (name_at 2 (Remainder bits n) c) refl;
      divisor = has_register p (names ++ more) (seen_at bits n x) e (length d.regs + 3) bits (Divisor bits n) h.begun (name_at 3 (Divisor bits n) f) refl;
    }

    -- the registers that change with each step are driven
    pub steps_driven : (m : ℕ) (L : Cycle → ℕ) → slice_get regs 0 ≡ Some (register_of (step_bits bits) (atom.Wire (up 2 m)) (atom.Wire (up 4 m))) → IsWork p (names ++ more) (seen_at bits n x) e bits n m L
        → IsDriven p (names ++ more) (seen_at bits n x) e (length names + 0) (Steps bits n)
    steps_driven m L at work =
        driven_by p (names ++ more) (seen_at bits n x) e (length names + 0) (step_bits bits) (register_of (step_bits bits) (atom.Wire (up 2 m)) (atom.Wire (up 4 m))) (Steps bits n)
        (λ c. is_dividing p c bits n || not (c.regs (Steps bits n) == 0)) (λ c. if is_dividing p c bits n then bits else (if c.regs (Steps bits n) == 0 then 2 ^ step_bits bits - 1 else c.regs (Steps bits n) - 1))
        (λ c. if is_dividing p c bits n then bits else c.regs (Steps bits n) - 1) (reg_at 0 _ at) work.enable work.steps
        (λ c going. step_taken (is_dividing p c bits n) (c.regs (Steps bits n)) bits (2 ^ step_bits bits - 1) going) (λ c. refl)

    pub dividend_driven : (m : ℕ) → slice_get regs 1 ≡ Some (register_of bits (atom.Wire (up 2 m)) (atom.Wire (up 5 m)))
        → IsWork p (names ++ more) (seen_at bits n x) e bits n m (λ c. negated_if (left_negative c bits n) bits (c.signals (LeftOf (u.Divider bits) n))) → IsDriven p (names ++ more) (seen_at bits n x) e (length names + 1) (Dividend bits n)
    dividend_driven m at work =
        driven_by p (names ++ more) (seen_at bits n x) e (length names + 1) bits (register_of bits (atom.Wire (up 2 m)) (atom.Wire (up 5 m))) (Dividend bits n)
        (λ c. is_dividing p c bits n || not (c.regs (Steps bits n) == 0))
        (λ c. if is_dividing p c bits n then negated_if (left_negative c bits n) bits (c.signals (LeftOf (u.Divider bits) n)) else next_dividend c bits n)
        (λ c. if is_dividing p c bits n then negated_if (left_negative c bits n) bits (c.signals (LeftOf (u.Divider bits) n)) else next_dividend c bits n) (reg_at 1 _ at) work.enable work.dividend (λ c going. refl) (λ c. refl)

    pub remainder_driven : (m : ℕ) (L : Cycle → ℕ) → slice_get regs 2 ≡ Some (register_of bits (atom.Wire (up 2 m)) (atom.Wire (up 6 m))) → IsWork p (names ++ more) (seen_at bits n x) e bits n m L
        → IsDriven p (names ++ more) (seen_at bits n x) e (length names + 2) (Remainder bits n)
    remainder_driven m L at work =
        driven_by p (names ++ more) (seen_at bits n x) e (length names + 2) bits (register_of bits (atom.Wire (up 2 m)) (atom.Wire (up 6 m))) (Remainder bits n)
        (λ c. is_dividing p c bits n || not (c.regs (Steps bits n) == 0)) (λ c. if is_dividing p c bits n then 0 else next_remainder c bits n)
        (λ c. if is_dividing p c bits n then 0 else next_remainder c bits n) (reg_at 2 _ at) work.enable work.remainder (λ c going. refl) (λ c. refl)

    -- a register that is taken as a division begins
    pub begun_driven : (k wide : ℕ) (r : Register) (a : Atom) (V : Cycle → ℕ) → slice_get regs k ≡ Some (register_of wide start a) → Has p (names ++ more) (seen_at bits n x) e wide a V
        → ((c : Cycle) → register_writes p c r ≡ where_ (is_dividing p c bits n) (V c) ∷ []) → IsDriven p (names ++ more) (seen_at bits n x) e (length names + k) r
    begun_driven k wide r a V at has writes =
        driven_by p (names ++ more) (seen_at bits n x) e (length names + k) wide (register_of wide start a) r (λ c. is_dividing p c bits n) V V (reg_at k _ at) has_start has (λ c going. refl) writes
