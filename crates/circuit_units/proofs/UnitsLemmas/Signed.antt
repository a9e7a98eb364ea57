-- A divider that divides numbers with signs.
use Rattle.std.proofs.Common.{◌≡◌, ◌≤◌, ℕ, zero, suc, ◌+◌, ◌%◌, true, List, [], ◌∷◌, ◌++◌, length, slice_get, Some, refl, sym, ap, ◌∙◌, subst, arith}
use Rattle.std.specs.Prelude.{◌&&◌}
use Rattle.std.proofs.lemmas.Option.{none-some, same_Some, slice_get-map}
use Rattle.std.specs.Option.{option_map}
use Rattle.ir_core.specs.declared.timing.UnitClass.TheVariants as u
use Rattle.rtl_core.specs.declared.design.Atom.{Atom}
use Rattle.rtl_core.specs.declared.design.Atom.TheVariants as atom
use Rattle.rtl_core.specs.declared.design.Net.TheVariants as net
use Rattle.rtl_core.specs.declared.design.Pair.TheVariants as pair
use Rattle.rtl_core.specs.declared.design.Reg.{Reg}
use Rattle.rtl_core.specs.declared.design.Wire.{Wire}
use Rattle.rtl_core.specs.Netlist.{Netlist}
use Rattle.rtl_core.specs.ClockStep.{register_widths, widths, widths_after}
use Rattle.rtl_core.specs.Valid.{HasBits, WiresFit}
use Rattle.rtl_core.proofs.Growth.{wires_append}
use Rattle.rtl_core.proofs.Stability.{bits_kept, longer_before}
use Rattle.rtl_units.specs.Fragments.{grown, up, wire_of}
use Rattle.rtl_units.specs.Division.{state_at, sign_wires, negated_wires, take_wires, step_wires, signed_wires, signed_registers}
use Rattle.rtl_units.specs.Growing.{division_of}
use Rattle.datapath.specs.Plans.{Plan}
use Rattle.datapath.specs.Cycles.{Register, Steps, Dividend, Remainder, Divisor, QuotientSign, RemainderSign, LeftOf, RightOf, SignedOf, holds, bit}
use Rattle.datapath.specs.Circuits.{width}
use Rattle.datapath.specs.Units.{has_signs, negated_if, left_negative, right_negative, quotient, remainder}
use Rattle.circuit_context.specs.declared.wanted.role.UnitKind.TheVariants as kind
use Rattle.circuit_context.specs.Wanted.Driving.{Seen, IsDriven, AreDriven}
use Rattle.circuit_units.specs.declared.units.units.UnitInputs.{UnitInputs}
use Rattle.circuit_units.specs.Units.{sign_registers}
use Rattle.circuit_units.specs.Units.Uses.{unit_with}
use Rattle.circuit_units.specs.Units.Adding.{Adds}
use Rattle.circuit_units.proofs.UnitsLemmas.Seeing.{at_end, Stand, stand_first, stand_second, Has, carries_without, has_register, has_as, has_bounded, has_two, outer, inner, grown_extends}
use Rattle.circuit_units.proofs.UnitsLemmas.Parts.{bit_is_one, differ_is, step_bits_are}
use Rattle.circuit_units.proofs.UnitsLemmas.Dividing.{work_of, sign_shown, negated_shown, AreState, IsWork, step_shown, work_shown}
use Rattle.circuit_units.proofs.UnitsLemmas.Fitting.{length_up, step_fits, work_fits, take_fits, negated_fits}
use Rattle.circuit_units.proofs.UnitsLemmas.Multipliers.{wires_with}
use Rattle.circuit_units.proofs.UnitsLemmas.Dividers.{IsGrown, grown_is, adds_with, seen_at, IsDivision, name_at, all_stand, all_shown, has_left, has_right, has_signed, has_start, are_state, steps_driven, dividend_driven, remainder_driven, begun_driven}

module _ (p : Plan) (names : List Register) (d : Netlist) (bits n : ℕ) (x : UnitInputs) (start : Atom) (g : IsDivision p names d bits n x start) (signs : has_signs p bits n ≡ true) where
  abbrev more : List Register
  more = Steps bits n ∷ Dividend bits n ∷ Remainder bits n ∷ Divisor bits n ∷ QuotientSign bits n ∷ RemainderSign bits n ∷ []

  abbrev regs : List Reg
  regs = signed_registers (length d.wires) (division_of bits x.signed start x.left x.right)

  abbrev taken : List Wire
  taken = take_wires (length d.wires) (division_of bits x.signed start x.left x.right)

  abbrev step : List Wire
  step = step_wires (up 11 (length d.wires)) bits (state_at (length d.regs))

  abbrev work : List Wire
  work = work_of (up 22 (length d.wires)) bits start (atom.Wire (up 7 (length d.wires))) (length d.regs) (up 11 (length d.wires))

  abbrev first : List Wire
  first = negated_wires (up 29 (length d.wires)) bits (atom.Reg (length d.regs + 4)) (atom.Reg (length d.regs + 1))

  abbrev second : List Wire
  second = negated_wires (up 31 (length d.wires)) bits (atom.Reg (length d.regs + 5)) (atom.Reg (length d.regs + 2))

  abbrev ws : List Wire
  ws = signed_wires (length d.regs) (length d.wires) (division_of bits x.signed start x.left x.right)

  abbrev e : Netlist
  e = grown d regs [] ws

  some : 2 ≤ bits
  some = omega (arith, g.low)

  one : 1 ≤ bits
  one = omega (arith, g.low)

  wide_at : (k : ℕ) (q : Reg) → slice_get regs k ≡ Some q → slice_get (register_widths e) (length d.regs + k) ≡ Some q.bits
  wide_at k q at = slice_get-map (λ (v : Reg). v.bits) e.regs (length d.regs + k) ∙ ap (option_map (λ (v : Reg). v.bits)) (at_end d.regs regs k q at)

  there : (bits_ : ℕ) (a : Atom) → HasBits (widths d) bits_ a → HasBits (widths_after e d.wires) bits_ a
  there bits_ a = bits_kept (widths d) (widths_after e d.wires) (longer_before d e (grown_extends d regs ws) d.wires) bits_ a

  -- ---- the wires fit

  abbrev after_taken : List Wire
  after_taken = d.wires ++ taken

  abbrev after_step : List Wire
  after_step = after_taken ++ step

  abbrev after_work : List Wire
  after_work = after_step ++ work

  at_step : length after_taken ≡ up 11 (length d.wires)
  at_step = length_up d.wires taken

  at_work : length after_step ≡ up 22 (length d.wires)
  at_work = length_up after_taken step ∙ ap (up 11) at_step

  at_first : length after_work ≡ up 29 (length d.wires)
  at_first = length_up after_step work ∙ ap (up 7) at_work

  at_second : length (after_work ++ first) ≡ up 31 (length d.wires)
  at_second = length_up after_work first ∙ ap (up 2) at_first

  taken_fit : WiresFit e d.wires taken
  taken_fit = take_fits e d.wires bits some g.high x.signed start x.left x.right (there 1 x.signed g.inputs.signed.fits) (there bits x.left g.inputs.left.fits) (there bits x.right g.inputs.right.fits)

  step_fit : WiresFit e after_taken step
  step_fit = subst (λ q. WiresFit e after_taken (step_wires q bits (state_at (length d.regs)))) at_step (step_fits e after_taken bits some g.high (length d.regs) (wide_at 1 _ refl) (wide_at 2 _ refl) (wide_at 3 _ refl))

  stepped : (k n_ : ℕ) → HasBits (widths_after e after_step) n_ (atom.Wire (up k (length after_taken))) → HasBits (widths_after e after_step) n_ (atom.Wire (up k (up 11 (length d.wires))))
  stepped k n_ = subst (λ q. HasBits (widths_after e after_step) n_ (atom.Wire (up k q))) at_step

  work_fit : WiresFit e after_step work
  work_fit = subst (λ q. WiresFit e after_step (work_of q bits start (atom.Wire (up 7 (length d.wires))) (length d.regs) (up 11 (length d.wires)))) at_work
      (work_fits e after_step bits some g.high (length d.regs) (up 11 (length d.wires)) start (atom.Wire (up 7 (length d.wires))) (wide_at 0 _ refl)
      (outer e after_taken step 1 start (outer e d.wires taken 1 start (there 1 start g.starting.fits)))
      (outer e after_taken step bits (atom.Wire (up 7 (length d.wires))) (inner e d.wires taken 7 _ refl))
      (stepped 9 bits (inner e after_taken step 9 _ refl)) (stepped 10 bits (inner e after_taken step 10 _ refl)))

  first_fit : WiresFit e after_work first
  first_fit = subst (λ q. WiresFit e after_work (negated_wires q bits (atom.Reg (length d.regs + 4)) (atom.Reg (length d.regs + 1)))) at_first
      (negated_fits e after_work bits some g.high (length d.regs + 4) (length d.regs + 1) (wide_at 4 _ refl) (wide_at 1 _ refl))

  second_fit : WiresFit e (after_work ++ first) second
  second_fit = subst (λ q. WiresFit e (after_work ++ first) (negated_wires q bits (atom.Reg (length d.regs + 5)) (atom.Reg (length d.regs + 2)))) at_second
      (negated_fits e (after_work ++ first) bits some g.high (length d.regs + 5) (length d.regs + 2) (wide_at 5 _ refl) (wide_at 2 _ refl))

  fit : WiresFit e d.wires ws
  fit =
      wires_append e d.wires taken (step ++ (work ++ (first ++ second))) taken_fit
      (wires_append e after_taken step (work ++ (first ++ second)) step_fit (wires_append e after_step work (first ++ second) work_fit (wires_append e after_work first second first_fit second_fit)))

  is : IsGrown p names more d e regs ws
  is = grown_is p names more d regs ws g.begun (ap (λ w. w ∷ bits ∷ bits ∷ bits ∷ 1 ∷ 1 ∷ []) (sym (step_bits_are bits g.low g.high))) fit

  -- ---- what the wires have

  abbrev all_names : List Register
  all_names = names ++ more

  abbrev sigs : List Seen
  sigs = seen_at bits n x

  stand : Stand e (length d.wires) ws
  stand = all_stand p names more d e regs ws is

  stand_taken : Stand e (length d.wires) taken
  stand_taken = stand_first e (length d.wires) taken (step ++ (work ++ (first ++ second))) stand

  stand_rest : Stand e (up 11 (length d.wires)) (step ++ (work ++ (first ++ second)))
  stand_rest = stand_second e (length d.wires) taken (step ++ (work ++ (first ++ second))) stand

  stand_step : Stand e (up 11 (length d.wires)) step
  stand_step = stand_first e (up 11 (length d.wires)) step (work ++ (first ++ second)) stand_rest

  stand_behind : Stand e (up 22 (length d.wires)) (work ++ (first ++ second))
  stand_behind = stand_second e (up 11 (length d.wires)) step (work ++ (first ++ second)) stand_rest

  stand_work : Stand e (up 22 (length d.wires)) work
  stand_work = stand_first e (up 22 (length d.wires)) work (first ++ second) stand_behind

  stand_answers : Stand e (up 29 (length d.wires)) (first ++ second)
  stand_answers = stand_second e (up 22 (length d.wires)) work (first ++ second) stand_behind

  abbrev left_signs : List Wire
  left_signs = sign_wires (length d.wires) bits x.signed x.left

  abbrev right_signs : List Wire
  right_signs = sign_wires (up 3 (length d.wires)) bits x.signed x.right

  abbrev left_values : List Wire
  left_values = negated_wires (up 6 (length d.wires)) bits (atom.Wire (up 2 (length d.wires))) x.left

  abbrev right_values : List Wire
  right_values = negated_wires (up 8 (length d.wires)) bits (atom.Wire (up 5 (length d.wires))) x.right

  abbrev differing : List Wire
  differing = wire_of 1 (net.Two pair.Xor (atom.Wire (up 2 (length d.wires))) (atom.Wire (up 5 (length d.wires)))) ∷ []

  stand_signs : Stand e (length d.wires) (left_signs ++ right_signs)
  stand_signs = stand_first e (length d.wires) (left_signs ++ right_signs) ((left_values ++ right_values) ++ differing) stand_taken

  stand_values : Stand e (up 6 (length d.wires)) ((left_values ++ right_values) ++ differing)
  stand_values = stand_second e (length d.wires) (left_signs ++ right_signs) ((left_values ++ right_values) ++ differing) stand_taken

  stand_both : Stand e (up 6 (length d.wires)) (left_values ++ right_values)
  stand_both = stand_first e (up 6 (length d.wires)) (left_values ++ right_values) differing stand_values

  left_sign : Has p all_names sigs e 1 (atom.Wire (up 2 (length d.wires))) (λ c. bit (left_negative c bits n))
  left_sign =
      sign_shown p all_names sigs e (length d.wires) bits x.signed x.left (λ c. c.signals (SignedOf (u.Divider bits) n)) (λ c. c.signals (LeftOf (u.Divider bits) n)) one
      (stand_first e (length d.wires) left_signs right_signs stand_signs) (has_signed p names more d e regs ws is bits n x start g) (has_left p names more d e regs ws is bits n x start g)

  right_sign : Has p all_names sigs e 1 (atom.Wire (up 5 (length d.wires))) (λ c. bit (right_negative c bits n))
  right_sign =
      sign_shown p all_names sigs e (up 3 (length d.wires)) bits x.signed x.right (λ c. c.signals (SignedOf (u.Divider bits) n)) (λ c. c.signals (RightOf (u.Divider bits) n)) one
      (stand_second e (length d.wires) left_signs right_signs stand_signs) (has_signed p names more d e regs ws is bits n x start g) (has_right p names more d e regs ws is bits n x start g)

  left_value : Has p all_names sigs e bits (atom.Wire (up 7 (length d.wires))) (λ c. negated_if (left_negative c bits n) bits (c.signals (LeftOf (u.Divider bits) n)))
  left_value =
      negated_shown p all_names sigs e (up 6 (length d.wires)) bits (atom.Wire (up 2 (length d.wires))) x.left (λ c. left_negative c bits n) (λ c. c.signals (LeftOf (u.Divider bits) n)) one g.high
      (stand_first e (up 6 (length d.wires)) left_values right_values stand_both) left_sign (has_left p names more d e regs ws is bits n x start g)

  right_value : Has p all_names sigs e bits (atom.Wire (up 9 (length d.wires))) (λ c. negated_if (right_negative c bits n) bits (c.signals (RightOf (u.Divider bits) n)))
  right_value =
      negated_shown p all_names sigs e (up 8 (length d.wires)) bits (atom.Wire (up 5 (length d.wires))) x.right (λ c. right_negative c bits n) (λ c. c.signals (RightOf (u.Divider bits) n)) one g.high
      (stand_second e (up 6 (length d.wires)) left_values right_values stand_both) right_sign (has_right p names more d e regs ws is bits n x start g)

  quotient_sign : Has p all_names sigs e 1 (atom.Wire (up 10 (length d.wires))) (λ c. (bit (left_negative c bits n) + bit (right_negative c bits n)) % 2)
  quotient_sign =
      has_as p all_names sigs e 1 (atom.Wire (up 10 (length d.wires))) _ (λ c. (bit (left_negative c bits n) + bit (right_negative c bits n)) % 2) (λ c. differ_is (left_negative c bits n) (right_negative c bits n))
      (has_two p all_names sigs e (up 10 (length d.wires)) 1 1 1 pair.Xor (atom.Wire (up 2 (length d.wires))) (atom.Wire (up 5 (length d.wires))) (λ c. bit (left_negative c bits n)) (λ c. bit (right_negative c bits n))
      (stand_taken 10 _ refl) left_sign right_sign)

  state : AreState p all_names sigs e bits n (length d.regs)
  state = are_state p names more d e regs ws is bits n x start g refl refl refl refl

  worked : IsWork p all_names sigs e bits n (up 22 (length d.wires)) (λ c. negated_if (left_negative c bits n) bits (c.signals (LeftOf (u.Divider bits) n)))
  worked =
      work_shown p all_names sigs e (up 22 (length d.wires)) bits n (length d.regs) (up 11 (length d.wires)) start (atom.Wire (up 7 (length d.wires)))
      (λ c. negated_if (left_negative c bits n) bits (c.signals (LeftOf (u.Divider bits) n))) some g.high stand_work (has_start p names more d e regs ws is bits n x start g) state left_value
      (step_shown p all_names sigs e (up 11 (length d.wires)) bits n (length d.regs) some g.high stand_step state)

  -- ---- registers

  driven : AreDriven p all_names sigs e (length names) more
  driven zero q at = subst (IsDriven p all_names sigs e (length names + 0)) (same_Some (Steps bits n) q at) (steps_driven p names more d e regs ws is bits n x start g (up 22 (length d.wires)) _ refl worked)
  driven (suc zero) q at = subst (IsDriven p all_names sigs e (length names + 1)) (same_Some (Dividend bits n) q at) (dividend_driven p names more d e regs ws is bits n x start g (up 22 (length d.wires)) refl worked)
  driven (suc (suc zero)) q at =
      subst (IsDriven p all_names sigs e (length names + 2)) (same_Some (Remainder bits n) q at) (remainder_driven p names more d e regs ws is bits n x start g (up 22 (length d.wires)) _ refl worked)
  driven (suc (suc (suc zero))) q at =
      subst (IsDriven p all_names sigs e (length names + 3)) (same_Some (Divisor bits n) q at)
      (begun_driven p names more d e regs ws is bits n x start g 3 bits (Divisor bits n) (atom.Wire (up 9 (length d.wires))) (λ c. negated_if (right_negative c bits n) bits (c.signals (RightOf (u.Divider bits) n))) refl right_value
      (λ c. refl))
  driven (suc (suc (suc (suc zero)))) q at =
      subst (IsDriven p all_names sigs e (length names + 4)) (same_Some (QuotientSign bits n) q at)
      (begun_driven p names more d e regs ws is bits n x start g 4 1 (QuotientSign bits n) (atom.Wire (up 10 (length d.wires))) (λ c. (bit (left_negative c bits n) + bit (right_negative c bits n)) % 2) refl quotient_sign
      (λ c. refl))
  driven (suc (suc (suc (suc (suc zero))))) q at =
      subst (IsDriven p all_names sigs e (length names + 5)) (same_Some (RemainderSign bits n) q at)
      (begun_driven p names more d e regs ws is bits n x start g 5 1 (RemainderSign bits n) (atom.Wire (up 2 (length d.wires))) (λ c. bit (left_negative c bits n)) refl left_sign (λ c. refl))
  driven (suc (suc (suc (suc (suc (suc k)))))) q at = absurd (none-some q at)

  -- ---- answers

  -- a sign that is held
  has_sign : (k : ℕ) (q : Register) → slice_get more k ≡ Some q → width p q ≡ 1 → Has p all_names [] e 1 (atom.Reg (length d.regs + k)) (λ c. bit (holds c q))
  has_sign k q at wide =
      let has : Has p all_names [] e 1 (atom.Reg (length d.regs + k)) (λ c. c.regs q) = has_register p all_names [] e (length d.regs + k) 1 q is.begun (name_at p names more d e regs ws is k q at) wide in
      has_bounded p all_names [] e 1 (atom.Reg (length d.regs + k)) (λ c. c.regs q) (λ c. bit (holds c q)) 1 (atom.Reg (length d.regs + k)) (λ c. c.regs q) has (λ c less. bit_is_one (c.regs q) less) has

  has_value : (k : ℕ) (q : Register) → slice_get more k ≡ Some q → width p q ≡ bits → Has p all_names [] e bits (atom.Reg (length d.regs + k)) (λ c. c.regs q)
  has_value k q at wide = has_register p all_names [] e (length d.regs + k) bits q is.begun (name_at p names more d e regs ws is k q at) wide

  has_quotient : Has p all_names [] e bits (atom.Wire (up 30 (length d.wires))) (λ c. quotient p c bits n)
  has_quotient =
      has_as p all_names [] e bits (atom.Wire (up 30 (length d.wires))) (λ c. negated_if (holds c (QuotientSign bits n)) bits (c.regs (Dividend bits n))) (λ c. quotient p c bits n)
      (λ c. sym (ap (λ b. negated_if (b && holds c (QuotientSign bits n)) bits (c.regs (Dividend bits n))) signs))
      (negated_shown p all_names [] e (up 29 (length d.wires)) bits (atom.Reg (length d.regs + 4)) (atom.Reg (length d.regs + 1)) (λ c. holds c (QuotientSign bits n)) (λ c. c.regs (Dividend bits n)) one g.high
      (stand_first e (up 29 (length d.wires)) first second stand_answers) (has_sign 4 (QuotientSign bits n) refl refl) (has_value 1 (Dividend bits n) refl refl))

  has_remainder : Has p all_names [] e bits (atom.Wire (up 32 (length d.wires))) (λ c. remainder p c bits n)
  has_remainder =
      has_as p all_names [] e bits (atom.Wire (up 32 (length d.wires))) (λ c. negated_if (holds c (RemainderSign bits n)) bits (c.regs (Remainder bits n))) (λ c. remainder p c bits n)
      (λ c. sym (ap (λ b. negated_if (b && holds c (RemainderSign bits n)) bits (c.regs (Remainder bits n))) signs))
      (negated_shown p all_names [] e (up 31 (length d.wires)) bits (atom.Reg (length d.regs + 5)) (atom.Reg (length d.regs + 2)) (λ c. holds c (RemainderSign bits n)) (λ c. c.regs (Remainder bits n)) one g.high
      (stand_second e (up 29 (length d.wires)) first second stand_answers) (has_sign 5 (RemainderSign bits n) refl refl) (has_value 2 (Remainder bits n) refl refl))

  pub signed_added : Adds p names d e (wires_with (unit_with kind.Divider bits n) x (atom.Wire (up 30 (length d.wires))) (atom.Wire (up 32 (length d.wires))) ∷ [])
  signed_added =
      adds_with p names more d e regs ws (wires_with (unit_with kind.Divider bits n) x (atom.Wire (up 30 (length d.wires))) (atom.Wire (up 32 (length d.wires)))) is
      (ap (λ b. Steps bits n ∷ Dividend bits n ∷ Remainder bits n ∷ Divisor bits n ∷ (sign_registers b bits n ++ [])) signs) driven (all_shown p names more d e regs ws is bits n x start g) (
        record { bits = bits; carries = carries_without p all_names e bits (atom.Wire (up 30 (length d.wires))) (λ c. quotient p c bits n) has_quotient },
        record { bits = bits; carries = carries_without p all_names e bits (atom.Wire (up 32 (length d.wires))) (λ c. remainder p c bits n) has_remainder },
      )
