-- A divider that only divides numbers without signs.
use Rattle.std.proofs.Common.{◌≡◌, ◌≤◌, ℕ, zero, suc, ◌+◌, true, false, List, [], ◌∷◌, ◌++◌, length, slice_get, Some, refl, sym, ap, ◌∙◌, subst, arith}
use Rattle.std.specs.Prelude.{◌==◌, ◌&&◌}
use Rattle.std.proofs.lemmas.Bool.{false≢true, eqb-true}
use Rattle.std.proofs.lemmas.Option.{none-some, same_Some, slice_get-map}
use Rattle.std.specs.Option.{option_map}
use Rattle.ir_core.specs.declared.timing.UnitClass.TheVariants as u
use Rattle.rtl_core.specs.declared.design.Atom.{Atom}
use Rattle.rtl_core.specs.declared.design.Atom.TheVariants as atom
use Rattle.rtl_core.specs.declared.design.Reg.{Reg}
use Rattle.rtl_core.specs.declared.design.Wire.{Wire}
use Rattle.rtl_core.specs.Netlist.{Netlist}
use Rattle.rtl_core.specs.ClockStep.{State, register_widths, widths, widths_after, seen}
use Rattle.rtl_core.specs.Valid.{HasBits, WiresFit}
use Rattle.rtl_core.proofs.Growth.{wires_append}
use Rattle.rtl_core.proofs.Stability.{bits_kept, longer_before}
use Rattle.rtl_units.specs.Fragments.{grown, up}
use Rattle.rtl_units.specs.Division.{is_unsigned, step_bits, state_at, step_wires, unsigned_wires, unsigned_registers}
use Rattle.rtl_units.specs.Growing.{division_of}
use Rattle.datapath.specs.Plans.{Plan}
use Rattle.datapath.specs.Cycles.{Register, Steps, Dividend, Remainder, Divisor, QuotientSign, RemainderSign, LeftOf, RightOf, SignedOf, Cycle, holds}
use Rattle.datapath.specs.Units.{has_signs, negated_if, top_bit, left_negative, right_negative, quotient, remainder}
use Rattle.circuit_context.specs.declared.wanted.role.UnitKind.TheVariants as kind
use Rattle.circuit_context.specs.Wanted.Driving.{Seen, IsDriven, AreDriven}
use Rattle.circuit_units.specs.declared.units.units.UnitInputs.{UnitInputs}
use Rattle.circuit_units.specs.Units.{sign_registers, CarriesAnswers}
use Rattle.circuit_units.specs.Units.Uses.{unit_with}
use Rattle.circuit_units.specs.Units.Adding.{Adds}
use Rattle.circuit_units.proofs.UnitsLemmas.Seeing.{at_end, Stand, stand_first, stand_second, Has, carries_without, has_register, has_as, outer, inner, grown_extends}
use Rattle.circuit_units.proofs.UnitsLemmas.Parts.{step_bits_are}
use Rattle.circuit_units.proofs.UnitsLemmas.Dividing.{work_of, AreState, IsWork, step_shown, work_shown}
use Rattle.circuit_units.proofs.UnitsLemmas.Fitting.{length_up, step_fits, work_fits}
use Rattle.circuit_units.proofs.UnitsLemmas.Multipliers.{wires_with}
use Rattle.circuit_units.proofs.UnitsLemmas.Dividers.{IsGrown, grown_is, has_known, adds_with, seen_at, IsDivision, name_at, all_stand, all_shown, has_left, has_right, has_signed, has_start, are_state, steps_driven, dividend_driven, remainder_driven, begun_driven}

-- the constant 0 is seen as 0
zero_seen : (a : Atom) → is_unsigned a ≡ true → (e : Netlist) (s : State) (pins : List ℕ) → seen e s pins a ≡ 0
zero_seen (atom.Constant bits value) h e s pins = eqb-true value 0 h
zero_seen (atom.Input k) h e s pins = absurd (false≢true h)
zero_seen (atom.Reg k) h e s pins = absurd (false≢true h)
zero_seen (atom.Wire k) h e s pins = absurd (false≢true h)

module _ (p : Plan) (names : List Register) (d : Netlist) (bits n : ℕ) (x : UnitInputs) (start : Atom) (g : IsDivision p names d bits n x start) (unsigned : is_unsigned x.signed ≡ true)
    (signs : has_signs p bits n ≡ false) where
  abbrev more : List Register
  more = Steps bits n ∷ Dividend bits n ∷ Remainder bits n ∷ Divisor bits n ∷ []

  abbrev regs : List Reg
  regs = unsigned_registers (length d.wires) (division_of bits x.signed start x.left x.right)

  abbrev step : List Wire
  step = step_wires (length d.wires) bits (state_at (length d.regs))

  abbrev work : List Wire
  work = work_of (up 11 (length d.wires)) bits start x.left (length d.regs) (length d.wires)

  abbrev ws : List Wire
  ws = unsigned_wires (length d.regs) (length d.wires) (division_of bits x.signed start x.left x.right)

  abbrev e : Netlist
  e = grown d regs [] ws

  some : 2 ≤ bits
  some = omega (arith, g.low)

  wide_at : (k : ℕ) (q : Reg) → slice_get regs k ≡ Some q → slice_get (register_widths e) (length d.regs + k) ≡ Some q.bits
  wide_at k q at = slice_get-map (λ (v : Reg). v.bits) e.regs (length d.regs + k) ∙ ap (option_map (λ (v : Reg). v.bits)) (at_end d.regs regs k q at)

  there : (bits_ : ℕ) (a : Atom) → HasBits (widths d) bits_ a → HasBits (widths_after e d.wires) bits_ a
  there bits_ a = bits_kept (widths d) (widths_after e d.wires) (longer_before d e (grown_extends d regs ws) d.wires) bits_ a

  fit : WiresFit e d.wires ws
  fit =
      let before : List Wire = d.wires ++ step in
      wires_append e d.wires step work (step_fits e d.wires bits some g.high (length d.regs) (wide_at 1 _ refl) (wide_at 2 _ refl) (wide_at 3 _ refl))
      (subst (λ q. WiresFit e before (work_of q bits start x.left (length d.regs) (length d.wires))) (length_up d.wires step)
      (work_fits e before bits some g.high (length d.regs) (length d.wires) start x.left (wide_at 0 _ refl) (outer e d.wires step 1 start (there 1 start g.starting.fits))
      (outer e d.wires step bits x.left (there bits x.left g.inputs.left.fits)) (inner e d.wires step 9 _ refl) (inner e d.wires step 10 _ refl)))

  is : IsGrown p names more d e regs ws
  is = grown_is p names more d regs ws g.begun (ap (λ w. w ∷ bits ∷ bits ∷ bits ∷ []) (sym (step_bits_are bits g.low g.high))) fit

  abbrev all_names : List Register
  all_names = names ++ more

  abbrev sigs : List Seen
  sigs = seen_at bits n x

  stand : Stand e (length d.wires) ws
  stand = all_stand p names more d e regs ws is

  no_sign : Has p all_names sigs e 1 x.signed (λ c. 0)
  no_sign = record { fits = (has_signed p names more d e regs ws is bits n x start g).fits; value_ = λ f s pins y signals mo follow. zero_seen x.signed unsigned f s pins }

  -- an operand without a sign is its own absolute value
  same_operand : (a : Atom) (X : Cycle → ℕ) → Has p all_names sigs e bits a X → Has p all_names sigs e bits a (λ c. negated_if ((c.signals (SignedOf (u.Divider bits) n) == 1) && top_bit bits (X c)) bits (X c))
  same_operand a X has =
      has_known p all_names sigs e bits 1 1 a x.signed X (λ c. negated_if ((c.signals (SignedOf (u.Divider bits) n) == 1) && top_bit bits (X c)) bits (X c)) (λ c. c.signals (SignedOf (u.Divider bits) n)) (λ c. 0)
      (has_signed p names more d e regs ws is bits n x start g) no_sign (λ c none. sym (ap (λ s. negated_if ((s == 1) && top_bit bits (X c)) bits (X c)) none)) has

  state : AreState p all_names sigs e bits n (length d.regs)
  state = are_state p names more d e regs ws is bits n x start g refl refl refl refl

  worked : IsWork p all_names sigs e bits n (up 11 (length d.wires)) (λ c. negated_if (left_negative c bits n) bits (c.signals (LeftOf (u.Divider bits) n)))
  worked =
      work_shown p all_names sigs e (up 11 (length d.wires)) bits n (length d.regs) (length d.wires) start x.left (λ c. negated_if (left_negative c bits n) bits (c.signals (LeftOf (u.Divider bits) n))) some g.high
      (stand_second e (length d.wires) step work stand) (has_start p names more d e regs ws is bits n x start g) state
      (same_operand x.left (λ c. c.signals (LeftOf (u.Divider bits) n)) (has_left p names more d e regs ws is bits n x start g))
      (step_shown p all_names sigs e (length d.wires) bits n (length d.regs) some g.high (stand_first e (length d.wires) step work stand) state)

  driven : AreDriven p all_names sigs e (length names) more
  driven zero q at = subst (IsDriven p all_names sigs e (length names + 0)) (same_Some (Steps bits n) q at) (steps_driven p names more d e regs ws is bits n x start g (up 11 (length d.wires)) _ refl worked)
  driven (suc zero) q at = subst (IsDriven p all_names sigs e (length names + 1)) (same_Some (Dividend bits n) q at) (dividend_driven p names more d e regs ws is bits n x start g (up 11 (length d.wires)) refl worked)
  driven (suc (suc zero)) q at =
      subst (IsDriven p all_names sigs e (length names + 2)) (same_Some (Remainder bits n) q at) (remainder_driven p names more d e regs ws is bits n x start g (up 11 (length d.wires)) _ refl worked)
  driven (suc (suc (suc zero))) q at =
      subst (IsDriven p all_names sigs e (length names + 3)) (same_Some (Divisor bits n) q at)
      (begun_driven p names more d e regs ws is bits n x start g 3 bits (Divisor bits n) x.right (λ c. negated_if (right_negative c bits n) bits (c.signals (RightOf (u.Divider bits) n))) refl
      (same_operand x.right (λ c. c.signals (RightOf (u.Divider bits) n)) (has_right p names more d e regs ws is bits n x start g)) (λ c. refl))
  driven (suc (suc (suc (suc k)))) q at = absurd (none-some q at)

  bare : AreState p all_names [] e bits n (length d.regs)
  bare = record {
    steps = has_register p all_names [] e (length d.regs + 0) (step_bits bits) (Steps bits n) is.begun (name_at p names more d e regs ws is 0 (Steps bits n) refl) (step_bits_are bits g.low g.high);
    dividend = has_register p all_names [] e (length d.regs + 1) bits (Dividend bits n) is.begun (name_at p names more d e regs ws is 1 (Dividend bits n) refl) refl;
    remainder = has_register p all_names [] e (length d.regs + 2) bits (Remainder bits n) is.begun (name_at p names more d e regs ws is 2 (Remainder bits n) refl) refl;
    divisor = has_register p all_names [] e (length d.regs + 3) bits (Divisor bits n) is.begun (name_at p names more d e regs ws is 3 (Divisor bits n) refl) refl;
  }

  answers : CarriesAnswers p all_names e (wires_with (unit_with kind.Divider bits n) x (atom.Reg (length d.regs + 1)) (atom.Reg (length d.regs + 2)))
  answers = (
    record {
      bits = bits;
      carries = carries_without p all_names e bits (atom.Reg (length d.regs + 1)) (λ c. quotient p c bits n)
          (has_as p all_names [] e bits (atom.Reg (length d.regs + 1)) (λ c. c.regs (Dividend bits n)) (λ c. quotient p c bits n)
          (λ c. sym (ap (λ b. negated_if (b && holds c (QuotientSign bits n)) bits (c.regs (Dividend bits n))) signs)) bare.dividend);
    },
    record {
      bits = bits;
      carries = carries_without p all_names e bits (atom.Reg (length d.regs + 2)) (λ c. remainder p c bits n)
          (has_as p all_names [] e bits (atom.Reg (length d.regs + 2)) (λ c. c.regs (Remainder bits n)) (λ c. remainder p c bits n)
          (λ c. sym (ap (λ b. negated_if (b && holds c (RemainderSign bits n)) bits (c.regs (Remainder bits n))) signs)) bare.remainder);
    },
  )

  pub unsigned_added : Adds p names d e (wires_with (unit_with kind.Divider bits n) x (atom.Reg (length d.regs + 1)) (atom.Reg (length d.regs + 2)) ∷ [])
  unsigned_added =
      adds_with p names more d e regs ws (wires_with (unit_with kind.Divider bits n) x (atom.Reg (length d.regs + 1)) (atom.Reg (length d.regs + 2))) is
      (ap (λ b. Steps bits n ∷ Dividend bits n ∷ Remainder bits n ∷ Divisor bits n ∷ (sign_registers b bits n ++ [])) signs) driven (all_shown p names more d e regs ws is bits n x start g) answers
