-- What is known of the circuits that are linked, from their pins and their validity.
use Rattle.std.proofs.Common.{map, ◌≡◌, ℕ, ◌≤◌, List, [], ◌∷◌, length, slice_get, slice_index, Some, None, Option, refl, sym, ap, ◌∙◌, subst, arith}
use Rattle.std.specs.List.{All, AllByRecursion}
use Rattle.std.specs.Option.{option_map}
use Rattle.std.proofs.lemmas.Option.{none-some, same_Some, slice_get-map, slice_get_within, get_or_from_slice_get}
use Rattle.rtl_core.specs.declared.design.Pin.{Pin}
use Rattle.rtl_core.specs.declared.design.OutPin.{OutPin}
use Rattle.rtl_core.specs.Netlist.{Netlist}
use Rattle.rtl_core.specs.ClockStep.{input_widths, widths}
use Rattle.rtl_core.specs.Interface.{outer, HasPins, output_pins}
use Rattle.rtl_core.specs.Valid.{IsBetween, OutputFits, IsValid}
use Rattle.chain_box.specs.StageBoxes.{stage_interface}
use Rattle.chain_link.specs.Linking.{argument_bits, result_bits, data_in}
use Rattle.chain_link.specs.Faults.{IsStage, AreStages}
use Rattle.chain_link.proofs.Placed.{stage_widths, HasOutput, IsShaped, AreShaped}

pub all_at : {X : Type 0} (P : X → Type 0) (xs : List X) → All P xs → (k : ℕ) (x : X) → slice_get xs k ≡ Some x → P x
all_at P xs h k x f = subst P (get_or_from_slice_get xs k x x f) (h k x (slice_get_within xs k x f))

bits_of_outer : (os : List OutPin) → map (λ (p : Pin). p.bits) (map outer os) ≡ map (λ (o : OutPin). o.bits) os
bits_of_outer [] = refl
bits_of_outer (o ∷ os) = ap (λ z. o.bits ∷ z) (bits_of_outer os)

found_outer : (o : Option OutPin) (p : Pin) → option_map outer o ≡ Some p → (x : OutPin) × (o ≡ Some x) × (outer x ≡ p)
found_outer None p e = absurd (none-some p e)
found_outer (Some x) p e = (x, refl, same_Some (outer x) p e)

module _ (d : Netlist) (argument result : ℕ) (h : HasPins d (stage_interface argument result)) where
  pub widths_are : input_widths d ≡ stage_widths argument
  widths_are = ap (map (λ (p : Pin). p.bits)) h.inputs

  pub argument_is : argument_bits d ≡ argument
  argument_is = ap (λ z. slice_index z 7) widths_are

  pub result_is : result_bits d ≡ result
  result_is = ap (λ z. slice_index z 3) (sym (bits_of_outer d.outputs) ∙ ap (map (λ (p : Pin). p.bits)) h.outputs)

  output_there : (k : ℕ) (p : Pin) → slice_get (output_pins (stage_interface argument result)) k ≡ Some p → HasOutput d k p.bits
  output_there k p f =
      let found = found_outer (slice_get d.outputs k) p (sym (slice_get-map outer d.outputs k) ∙ (ap (λ z. slice_get z k) h.outputs ∙ f)) in
      (found.0, found.1, ap (λ (x : Pin). x.bits) found.2)

  pub shape_is : d.mems ≡ [] → IsValid d → IsShaped (argument_bits d) d
  shape_is none valid =
      let ret : HasOutput d 3 (result_bits d) = subst (λ z. HasOutput d 3 z) (sym result_is) (output_there 3 _ refl) in
      let fits = all_at (OutputFits (widths d)) d.outputs valid.outputs 3 ret.0 ret.1 in
      record {
        inputs = widths_are ∙ ap stage_widths (sym argument_is);
        ready = output_there 0 _ refl;
        done = output_there 1 _ refl;
        ret = ret;
        mems = none;
        wires = valid.wires;
        outs = valid.outputs;
        regs = valid.regs;
        result = subst (λ z. IsBetween 1 64 z) ret.2 fits.bits;
      }

pub stage_shape : (before : Option ℕ) (d : Netlist) → IsStage before d → IsValid d → IsShaped (argument_bits d) d
stage_shape before d s valid = shape_is d s.pins.0 s.pins.1 s.pins.2 s.mems valid

rest_shaped : (bits : ℕ) (ds : List Netlist) → AreStages (Some bits) ds → AllByRecursion IsValid ds → AreShaped bits ds
rest_shaped bits [] s valid = tt
rest_shaped bits (d ∷ ds) s valid = (subst (λ z. IsShaped z d) s.0.joins (stage_shape (Some bits) d s.0 valid.0), rest_shaped (result_bits d) ds s.1 valid.1)

pub stages_shaped : (ds : List Netlist) → AreStages None ds → AllByRecursion IsValid ds → AreShaped (data_in ds) ds
stages_shaped [] s valid = tt
stages_shaped (d ∷ ds) s valid = (stage_shape None d s.0 valid.0, rest_shaped (result_bits d) ds s.1 valid.1)

-- the items put in have 1 to 64 bits
pub first_bits : (ds : List Netlist) → 1 ≤ length ds → AreStages None ds → AllByRecursion IsValid ds → IsBetween 1 64 (data_in ds)
first_bits [] some s valid = absurd (omega (arith, some))
first_bits (d ∷ ds) some s valid =
    let there : slice_get (input_widths d) 7 ≡ Some (argument_bits d) = ap (λ z. slice_get z 7) (stage_shape None d s.0 valid.0).inputs in
    between_of d.inputs valid.0.inputs 7 (argument_bits d) there where
      between_of : (ps : List Pin) → All (λ (p : Pin). IsBetween 1 64 p.bits) ps → (k n : ℕ) → slice_get (map (λ (p : Pin). p.bits) ps) k ≡ Some n → IsBetween 1 64 n
      between_of ps h k n f = at (slice_get ps k) refl (sym (slice_get-map (λ (p : Pin). p.bits) ps k) ∙ f) where
        at : (o : Option Pin) → slice_get ps k ≡ o → option_map (λ (p : Pin). p.bits) o ≡ Some n → IsBetween 1 64 n
        at None e g = absurd (none-some n g)
        at (Some p) e g = subst (λ z. IsBetween 1 64 z) (same_Some p.bits n g) (all_at (λ (p : Pin). IsBetween 1 64 p.bits) ps h k p e)
