-- The wires of a divider fit: each uses only what stands before it.
use Rattle.std.proofs.Common.{◌≡◌, ◌≤◌, ℕ, ◌+◌, ◌-◌, List, ◌++◌, length, take, slice_get, Some, refl, sym, ◌∙◌, subst, arith, length-append}
use Rattle.std.proofs.lemmas.Nat.{pow_pos}
use Rattle.rtl_core.specs.declared.design.Atom.{Atom}
use Rattle.rtl_core.specs.declared.design.Atom.TheVariants as atom
use Rattle.rtl_core.specs.declared.design.Wire.{Wire}
use Rattle.rtl_core.specs.Netlist.{Netlist}
use Rattle.rtl_core.specs.ClockStep.{register_widths, widths_after}
use Rattle.rtl_core.specs.Valid.{HasBits, WiresFit, IsBetween}
use Rattle.rtl_units.specs.Fragments.{up, zero_of}
use Rattle.rtl_units.specs.Division.{wider, step_bits, take_wires, state_at, step_wires, negated_wires}
use Rattle.rtl_units.specs.Growing.{division_of}
use Rattle.circuit_units.proofs.UnitsLemmas.Seeing.{all_fit, outer, inner, up_is}
use Rattle.circuit_units.proofs.UnitsLemmas.Parts.{wider_is, ones_fit, steps_fit, step_between}
use Rattle.circuit_units.proofs.UnitsLemmas.Dividing.{work_of}

-- the number of the wire behind these
pub length_up : {A : Type 0} (before ws : List A) → length (before ++ ws) ≡ up (length ws) (length before)
length_up before ws = length-append before ws ∙ sym (up_is (length ws) (length before))

module _ (e : Netlist) (before : List Wire) (bits : ℕ) (low : 2 ≤ bits) (high : bits ≤ 64) where
  m : ℕ
  m = length before

  abbrev Wide : List Wire → ℕ → Atom → Type 0
  Wide done n a = HasBits (widths_after e (before ++ done)) n a

  wide : IsBetween 1 128 bits
  wide = (omega (arith, low), omega (arith, high))

  one : IsBetween 1 128 1
  one = (omega arith, omega arith)

  wider_fits : IsBetween 1 128 (wider bits)
  wider_fits = subst (IsBetween 1 128) (sym (wider_is bits high)) (omega arith, omega (arith, high))

  zero_fits : (done : List Wire) → Wide done bits (zero_of bits)
  zero_fits done = (refl, wide, pow_pos bits)

  -- ---- one step

  abbrev steps_of : ℕ → List Wire
  steps_of r = step_wires (length before) bits (state_at r)

  pub step_fits : (r : ℕ) → slice_get (register_widths e) (r + 1) ≡ Some bits → slice_get (register_widths e) (r + 2) ≡ Some bits → slice_get (register_widths e) (r + 3) ≡ Some bits
      → WiresFit e before (steps_of r)
  step_fits r dividend remainder divisor =
      let ws : List Wire = steps_of r in
      let is : wider bits ≡ bits + 1 = wider_is bits high in
      all_fit e before ws (
        one,
        ((λ x. x), (bits, dividend, omega (arith, low), omega arith, omega arith)),
        (
          wider_fits,
          (bits, 1, remainder, inner e before (take 1 ws) 0 _ refl, is),
          (
            wider_fits,
            (1, bits, (refl, one, omega arith), divisor, omega (arith, is)),
            (
              wider_fits,
              (inner e before (take 3 ws) 1 _ refl, inner e before (take 3 ws) 2 _ refl),
              (
                one,
                ((λ x. x), (wider bits, inner e before (take 4 ws) 3 _ refl, omega (arith, is), omega arith, omega arith)),
                (
                  wide,
                  ((λ x. x), (wider bits, inner e before (take 5 ws) 1 _ refl, omega (arith, is, low), omega arith, omega (arith, low))),
                  (
                    wide,
                    ((λ x. x), (wider bits, inner e before (take 6 ws) 3 _ refl, omega (arith, is, low), omega arith, omega (arith, low))),
                    (
                      one,
                      inner e before (take 7 ws) 4 _ refl,
                      (
                        (omega (arith, low), omega (arith, high)),
                        ((λ x. x), (bits, dividend, omega (arith, low), omega arith, omega (arith, low))),
                        (
                          wide,
                          (bits - 1, 1, inner e before (take 9 ws) 8 _ refl, inner e before (take 9 ws) 7 _ refl, omega (arith, low)),
                          (
                            wide,
                            (inner e before (take 10 ws) 4 _ refl, inner e before (take 10 ws) 5 _ refl, inner e before (take 10 ws) 6 _ refl),
                            tt,
                          ),
                        ),
                      ),
                    ),
                  ),
                ),
              ),
            ),
          ),
        ),
      )

  -- ---- the work

  pub work_fits : (r k : ℕ) (start left : Atom) → slice_get (register_widths e) (r + 0) ≡ Some (step_bits bits) → HasBits (widths_after e before) 1 start → HasBits (widths_after e before) bits left
      → HasBits (widths_after e before) bits (atom.Wire (up 9 k)) → HasBits (widths_after e before) bits (atom.Wire (up 10 k)) → WiresFit e before (work_of (length before) bits start left r k)
  work_fits r k start left steps starts has dividend remainder =
      let ws : List Wire = work_of (length before) bits start left r k in
      let sb : ℕ = step_bits bits in
      let least : 6 ≤ sb = (step_between bits).0 in
      let most : sb ≤ 7 = (step_between bits).1 in
      let fit : IsBetween 1 128 sb = (omega (arith, least), omega (arith, most)) in
      all_fit e before ws (
        one,
        (refl, (sb, steps, (refl, fit, pow_pos sb))),
        (
          one,
          inner e before (take 1 ws) 0 _ refl,
          (
            one,
            (outer e before (take 2 ws) 1 start starts, inner e before (take 2 ws) 1 _ refl),
            (
              fit,
              (steps, (refl, fit, ones_fit bits)),
              (
                fit,
                (outer e before (take 4 ws) 1 start starts, (refl, fit, steps_fit bits high), inner e before (take 4 ws) 3 _ refl),
                (
                  wide,
                  (outer e before (take 5 ws) 1 start starts, outer e before (take 5 ws) bits left has, outer e before (take 5 ws) bits (atom.Wire (up 9 k)) dividend),
                  (
                    wide,
                    (outer e before (take 6 ws) 1 start starts, zero_fits (take 6 ws), outer e before (take 6 ws) bits (atom.Wire (up 10 k)) remainder),
                    tt,
                  ),
                ),
              ),
            ),
          ),
        ),
      )

  -- ---- absolute values and signs

  pub take_fits : (signed start left right : Atom) → HasBits (widths_after e before) 1 signed → HasBits (widths_after e before) bits left → HasBits (widths_after e before) bits right
      → WiresFit e before (take_wires (length before) (division_of bits signed start left right))
  take_fits signed start left right signs first second =
      let ws : List Wire = take_wires (length before) (division_of bits signed start left right) in
      all_fit e before ws (
        wide,
        outer e before (take 0 ws) bits left first,
        (
          one,
          ((λ x. x), (bits, inner e before (take 1 ws) 0 _ refl, omega (arith, low), omega arith, omega arith)),
          (
            one,
            (outer e before (take 2 ws) 1 signed signs, inner e before (take 2 ws) 1 _ refl),
            (
              wide,
              outer e before (take 3 ws) bits right second,
              (
                one,
                ((λ x. x), (bits, inner e before (take 4 ws) 3 _ refl, omega (arith, low), omega arith, omega arith)),
                (
                  one,
                  (outer e before (take 5 ws) 1 signed signs, inner e before (take 5 ws) 4 _ refl),
                  (
                    wide,
                    (zero_fits (take 6 ws), outer e before (take 6 ws) bits left first),
                    (
                      wide,
                      (inner e before (take 7 ws) 2 _ refl, inner e before (take 7 ws) 6 _ refl, outer e before (take 7 ws) bits left first),
                      (
                        wide,
                        (zero_fits (take 8 ws), outer e before (take 8 ws) bits right second),
                        (
                          wide,
                          (inner e before (take 9 ws) 5 _ refl, inner e before (take 9 ws) 8 _ refl, outer e before (take 9 ws) bits right second),
                          (
                            one,
                            (inner e before (take 10 ws) 2 _ refl, inner e before (take 10 ws) 5 _ refl),
                            tt,
                          ),
                        ),
                      ),
                    ),
                  ),
                ),
              ),
            ),
          ),
        ),
      )

  -- ---- a register, or its negative

  pub negated_fits : (test value : ℕ) → slice_get (register_widths e) test ≡ Some 1 → slice_get (register_widths e) value ≡ Some bits
      → WiresFit e before (negated_wires (length before) bits (atom.Reg test) (atom.Reg value))
  negated_fits test value tests has =
      let ws : List Wire = negated_wires (length before) bits (atom.Reg test) (atom.Reg value) in
      all_fit e before ws (wide, (zero_fits (take 0 ws), has), (wide, (tests, inner e before (take 1 ws) 0 _ refl, has), tt))
