-- Pins that are those of a stage, one by one and as lists.
use Rattle.std.proofs.Common.{◌≡◌, ◌<◌, ◌≤◌, ◌↔◌, ℕ, suc, Bool, List, [], ◌∷◌, length, map, drop, get_or, nat_lt, slice_get, Some, Option, refl, sym, ap, ◌∙◌, subst, inl, arith, drop-cons, add-one, ◌+◌}
use Rattle.std.specs.Prelude.{IsTrue, codes}
use Rattle.std.specs.Fmt.{digits}
use Rattle.std.specs.Option.{option_map}
use Rattle.std.proofs.lemmas.Bool.{ltb-true}
use Rattle.std.proofs.lemmas.List.{length-map}
use Rattle.std.proofs.lemmas.Option.{same_Some, slice_get-map, slice_get-get_or, slice_get_within}
use Rattle.hls_base.specs.declared.refusal.Refusal.{Refusal}
use Rattle.rtl_core.specs.declared.design.Pin.{Pin}
use Rattle.rtl_core.specs.declared.design.OutPin.{OutPin}
use Rattle.rtl_core.specs.declared.design.Design.{Design}
use Rattle.rtl_core.specs.Netlist.{Netlist, netlist_of}
use Rattle.rtl_core.specs.Interface.{pin, outer, input_pins}
use Rattle.chain_box.specs.StageBoxes.{stage_interface}
use Rattle.chain_link.specs.Faults.{AreStageInputs, AreStageOutputs, HaveStageInputs, HaveStageOutputs, HasStagePins, IsStageFault, IsFirstFault, refusal_at}

-- ---- the result pin

pub result_named : (os : List OutPin) (k : ℕ) (x : OutPin) (name : List ℕ) (b : Bool) → k < length os → x ≡ get_or os k x → IsTrue b ↔ (x.name ≡ name)
    → IsTrue b ↔ ((bits : ℕ) × (slice_get (map outer os) k ≡ Some (pin name bits)))
result_named os k x name b lt is iff =
    let there : slice_get (map outer os) k ≡ Some (outer x) = slice_get-map outer os k ∙ ap (option_map outer) (slice_get-get_or os k x lt ∙ ap Some (sym is)) in
    (λ h. (x.bits, there ∙ ap (λ z. Some (pin z x.bits)) (iff.0 h)), λ h. iff.1 (ap (λ (p : Pin). p.name) (same_Some (outer x) (pin name h.0) (sym there ∙ h.1))))

pub no_result : (os : List OutPin) (k : ℕ) (name : List ℕ) → length os ≤ k → IsTrue (nat_lt k (length os)) ↔ ((bits : ℕ) × (slice_get (map outer os) k ≡ Some (pin name bits)))
no_result os k name le =
    (λ h. absurd (let l = ltb-true k (length os) h in omega arith), λ h. absurd (let l = slice_get_within (map outer os) k (pin name h.0) h.1 in omega (arith, length-map os outer)))

-- ---- all inputs

abbrev eight : Pin → Pin → Pin → Pin → Pin → Pin → Pin → Pin → List Pin
eight a b c d e f g h = a ∷ b ∷ c ∷ d ∷ e ∷ f ∷ g ∷ h ∷ []

-- the text of 0
inputs_are : (bits : ℕ) → input_pins (stage_interface bits 0)
    ≡ eight (pin (codes "reset") 1) (pin (codes "start") 1) (pin (codes "h_en") 1) (pin (codes "h_we") 1) (pin (codes "h_sel") 5) (pin (codes "h_addr") 16) (pin (codes "h_wdata") 64) (pin (codes "arg_0") bits)
unfolding digits
inputs_are bits = refl

inputs_join : (ps : List Pin) → HaveStageInputs ps → AreStageInputs ps
inputs_join [] h = absurd (omega (arith, h.0))
inputs_join (a ∷ []) h = absurd (omega (arith, h.0))
inputs_join (a ∷ (b ∷ [])) h = absurd (omega (arith, h.0))
inputs_join (a ∷ (b ∷ (c ∷ []))) h = absurd (omega (arith, h.0))
inputs_join (a ∷ (b ∷ (c ∷ (d ∷ [])))) h = absurd (omega (arith, h.0))
inputs_join (a ∷ (b ∷ (c ∷ (d ∷ (e ∷ []))))) h = absurd (omega (arith, h.0))
inputs_join (a ∷ (b ∷ (c ∷ (d ∷ (e ∷ (f ∷ [])))))) h = absurd (omega (arith, h.0))
inputs_join (a ∷ (b ∷ (c ∷ (d ∷ (e ∷ (f ∷ (g ∷ []))))))) h = absurd (omega (arith, h.0))
inputs_join (a ∷ (b ∷ (c ∷ (d ∷ (e ∷ (f ∷ (g ∷ (i ∷ [])))))))) h =
    let bits = h.3.0 in
    let p0 = pin (codes "reset") 1 in
    let p1 = pin (codes "start") 1 in
    let p2 = pin (codes "h_en") 1 in
    let p3 = pin (codes "h_we") 1 in
    let p4 = pin (codes "h_sel") 5 in
    let p5 = pin (codes "h_addr") 16 in
    let p6 = pin (codes "h_wdata") 64 in (
      bits,
      (ap (λ z. eight z b c d e f g i) (same_Some a p0 h.1.0)
          ∙ (ap (λ z. eight p0 z c d e f g i) (same_Some b p1 h.1.1)
          ∙ (ap (λ z. eight p0 p1 z d e f g i) (same_Some c p2 h.1.2)
          ∙ (ap (λ z. eight p0 p1 p2 z e f g i) (same_Some d p3 h.1.3)
          ∙ (ap (λ z. eight p0 p1 p2 p3 z f g i) (same_Some e p4 h.2.0)
          ∙ (ap (λ z. eight p0 p1 p2 p3 p4 z g i) (same_Some f p5 h.2.1)
          ∙ (ap (λ z. eight p0 p1 p2 p3 p4 p5 z i) (same_Some g p6 h.2.2) ∙ ap (λ z. eight p0 p1 p2 p3 p4 p5 p6 z) (same_Some i (pin (codes "arg_0") bits) h.3.1)))))))) ∙ sym (inputs_are bits),
    )
inputs_join (a ∷ (b ∷ (c ∷ (d ∷ (e ∷ (f ∷ (g ∷ (i ∷ (j ∷ ps))))))))) h = absurd (omega (arith, h.0))

inputs_part : (ps : List Pin) → AreStageInputs ps → HaveStageInputs ps
inputs_part ps h = subst HaveStageInputs (sym (h.1 ∙ inputs_are h.0)) (refl, (refl, refl, refl, refl), (refl, refl, refl), (h.0, refl))

pub inputs_iff : (ps : List Pin) (b : Bool) → IsTrue b ↔ HaveStageInputs ps → IsTrue b ↔ AreStageInputs ps
inputs_iff ps b iff = (λ h. inputs_join ps (iff.0 h), λ h. iff.1 (inputs_part ps h))

-- ---- all outputs

abbrev four : Pin → Pin → Pin → Pin → List Pin
four a b c d = a ∷ b ∷ c ∷ d ∷ []

outputs_join : (ps : List Pin) → HaveStageOutputs ps → AreStageOutputs ps
outputs_join [] h = absurd (omega (arith, h.0))
outputs_join (a ∷ []) h = absurd (omega (arith, h.0))
outputs_join (a ∷ (b ∷ [])) h = absurd (omega (arith, h.0))
outputs_join (a ∷ (b ∷ (c ∷ []))) h = absurd (omega (arith, h.0))
outputs_join (a ∷ (b ∷ (c ∷ (d ∷ [])))) h =
    let bits = h.2.0 in
    let p0 = pin (codes "ready") 1 in
    let p1 = pin (codes "done") 1 in
    let p2 = pin (codes "h_rdata") 64 in (
      bits,
      ap (λ z. four z b c d) (same_Some a p0 h.1.0)
          ∙ (ap (λ z. four p0 z c d) (same_Some b p1 h.1.1) ∙ (ap (λ z. four p0 p1 z d) (same_Some c p2 h.1.2) ∙ ap (λ z. four p0 p1 p2 z) (same_Some d (pin (codes "ret") bits) h.2.1))),
    )
outputs_join (a ∷ (b ∷ (c ∷ (d ∷ (e ∷ ps))))) h = absurd (omega (arith, h.0))

outputs_part : (ps : List Pin) → AreStageOutputs ps → HaveStageOutputs ps
outputs_part ps h = subst HaveStageOutputs (sym h.1) (refl, (refl, refl, refl), (h.0, refl))

pub outputs_iff : (ps : List Pin) (b : Bool) → IsTrue b ↔ HaveStageOutputs ps → IsTrue b ↔ AreStageOutputs ps
outputs_iff ps b iff = (λ h. outputs_join ps (iff.0 h), λ h. iff.1 (outputs_part ps h))

-- ---- both

pub pins_iff : (d : Netlist) (b : Bool) → AreStageInputs d.inputs → IsTrue b ↔ AreStageOutputs (map outer d.outputs) → IsTrue b ↔ HasStagePins d
pins_iff d b ins iff = (
  λ h. (let outs = iff.0 h in (ins.0, outs.0, record { inputs = ins.1; outputs = outs.1 })),
  λ h. iff.1 (h.1, h.2.outputs),
)

-- ---- the first fault

pub next_stage : (stages : List Design) (k : ℕ) (x : Design) → k < length stages → x ≡ get_or stages k x → drop k stages ≡ x ∷ drop (k + 1) stages
next_stage stages k x lt is = drop-cons stages k x lt ∙ (ap (λ (y : Design). y ∷ drop (suc k) stages) (sym is) ∙ ap (λ n. x ∷ drop n stages) (sym (add-one k)))

pub fault_at : (stages : List Design) (k : ℕ) (x : Design) (before : Option ℕ) (rule : ℕ) (r : Refusal) → k < length stages → x ≡ get_or stages k x → IsStageFault before (netlist_of x) rule → r ≡ refusal_at rule (k + 1)
    → IsFirstFault (k + 1) before (map netlist_of (drop k stages)) r
fault_at stages k x before rule r lt is fault e =
    subst (λ z. IsFirstFault (k + 1) before (map netlist_of (drop k stages)) z) (sym e)
    (subst (λ l. IsFirstFault (k + 1) before (map netlist_of l) (refusal_at rule (k + 1))) (sym (next_stage stages k x lt is)) (inl (fault, refl)))
