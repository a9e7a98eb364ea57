-- Products, two cycles later.
use Rattle.std.proofs.Common.{◌≡◌, ◌<◌, ℕ, zero, suc, ◌+◌, ◌*◌, ◌%◌, ◌^◌, List, [], ◌∷◌, ◌++◌, length, slice_get, slice_index, Some, refl, sym, ap, ◌∙◌, arith, append_assoc}
use Rattle.std.proofs.lemmas.List.{length-map}
use Rattle.rtl_core.specs.declared.design.Reg.{Reg}
use Rattle.rtl_core.specs.Netlist.{Netlist}
use Rattle.rtl_core.specs.ClockStep.{State, seen, stepped, wire_values, register_widths}
use Rattle.rtl_core.proofs.Stability.{get_same, wire_equation}
use Rattle.rtl_units.specs.Fragments.{grown, multiplier_registers, multiplier_wires}
use Rattle.rtl_units.specs.Products.{HasMultiplier, GivesProducts, MultiplierStays}
use Rattle.rtl_units.proofs.Edge.{length-clocked_registers, register_after}

-- what stands at a place behind a list
at_end : {X : Type 0} (before xs : List X) (k : ℕ) (x : X) → slice_get xs k ≡ Some x → slice_get (before ++ xs) (length before + k) ≡ Some x
at_end [] xs k x e = let place : 0 + k ≡ k = omega arith in ap (slice_get xs) place ∙ e
at_end (b ∷ before) xs k x e = let place : suc (length before) + k ≡ suc (length before + k) = omega arith in ap (slice_get (b ∷ (before ++ xs))) place ∙ at_end before xs k x e

behind : {X : Type 0} (before xs after : List X) (k : ℕ) (x : X) → slice_get xs k ≡ Some x → slice_get ((before ++ xs) ++ after) (length before + k) ≡ Some x
behind before xs after k x e = get_same (before ++ xs) ((before ++ xs) ++ after) after (length before + k) x refl (at_end before xs k x e)

pub stays : MultiplierStays
stays d bits left right regs mems wires =
    let rs = multiplier_registers (length d.wires) bits left right in
    let ws = multiplier_wires (length d.regs) bits in
    let r : length d.regs ≡ length d.regs + 0 = omega arith in
    let w : length d.wires ≡ length d.wires + 0 = omega arith in
    record {
      takes_left = ap (slice_get ((d.regs ++ rs) ++ regs)) r ∙ behind d.regs rs regs 0 _ refl;
      takes_right = behind d.regs rs regs 1 _ refl;
      product = behind d.regs rs regs 2 _ refl;
      wire = ap (slice_get ((d.wires ++ ws) ++ wires)) w ∙ behind d.wires ws wires 0 _ refl;
    }

pub products : GivesProducts
products d r w bits left right s pins later fit count has =
    let t : State = stepped d s pins in
    let n : length t.regs ≡ length d.regs = length-clocked_registers (seen d s pins) d.regs s.regs count in
    let a : slice_index t.regs r ≡ seen d s pins left = register_after (seen d s pins) d.regs s.regs r _ count has.takes_left in
    let b : slice_index t.regs (r + 1) ≡ seen d s pins right = register_after (seen d s pins) d.regs s.regs (r + 1) _ count has.takes_right in
    let widths_count : length (register_widths d) ≡ length t.regs = length-map d.regs (λ (q : Reg). q.bits) ∙ sym n in
    let p : slice_index (wire_values d t later) w ≡ (slice_index t.regs r * slice_index t.regs (r + 1)) % 2 ^ bits = wire_equation d t later widths_count fit w _ has.wire in
    register_after (seen d t later) d.regs t.regs (r + 2) _ n has.product
    ∙ (p ∙ (ap (λ x. (x * slice_index t.regs (r + 1)) % 2 ^ bits) a ∙ ap (λ y. (seen d s pins left * y) % 2 ^ bits) b))
