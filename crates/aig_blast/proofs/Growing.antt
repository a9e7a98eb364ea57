-- The literals of more and more wires.
use Rattle.std.proofs.Common.{◌≡◌, ◌<◌, ◌≤◌, ◌+◌, ℕ, suc, zero, Bool, List, [], ◌∷◌, ◌++◌, map, length, take, get_or, Vec, Global, refl, sym, ap, ◌∙◌, subst, append_assoc}
use Rattle.std.specs.Prelude.{slice_get, Some}
use Rattle.std.specs.List.{All}
use Rattle.std.proofs.lemmas.List.{append-nil, map_push, take_more, take_all}
use Rattle.std.proofs.lemmas.List.Elements.{All-push, All-weaker}
use Rattle.std.proofs.lemmas.Option.{none-some, same_Some, slice_get-get_or}
use Rattle.aig_graph.specs.Making.{Gates, IsSound, IsLiteral, Extends}
use Rattle.aig_graph.proofs.Growing.{always_later}
use Rattle.aig_graph.specs.Words.{Computes, worded, numbers}
use Rattle.aig_graph.proofs.Making.{Constants, both, all_later}
use Rattle.rtl_core.specs.declared.design.Wire.{Wire}
use Rattle.rtl_core.specs.Netlist.{Netlist}
use Rattle.rtl_core.specs.ClockStep.{widths_after, wire_widths, bits_of, value_of, values_behind, net_value}
use Rattle.rtl_core.specs.Valid.{IsBetween, NetFits, WiresFit, IsValid}
use Rattle.rtl_core.proofs.Fits.{width_is}
use Rattle.rtl_core.proofs.Stability.{net_kept, values_append}
use Rattle.aig_blast.specs.declared.literals.Literals.{Literals}
use Rattle.aig_blast.specs.Literals.{shown, width_shown, state_shown, pins_shown, net_shown, AreOf, IsBlasted, CanMake, literals_from}
use Rattle.aig_blast.proofs.Context.{atom_length, atom_value}

wire_at : (d : Netlist) (before ws : List Wire) → WiresFit d before ws → (k : ℕ) (x : Wire) → slice_get ws k ≡ Some x → IsBetween 1 128 x.bits × NetFits (widths_after d (before ++ take k ws)) d.mems x.bits x.net
wire_at d before [] h k x e = absurd (none-some x e)
wire_at d before (y ∷ ws) h zero x e =
    subst (λ (z : Wire). IsBetween 1 128 z.bits × NetFits (widths_after d (before ++ [])) d.mems z.bits z.net) (same_Some y x e)
    (h.0, subst (λ z. NetFits (widths_after d z) d.mems y.bits y.net) (sym (append-nil before)) h.1)
wire_at d before (y ∷ ws) h (suc k) x e =
    let r = wire_at d (before ++ y ∷ []) ws h.2 k x e in
    (r.0, subst (λ z. NetFits (widths_after d z) d.mems x.bits x.net) (append_assoc before (y ∷ []) (take k ws)) r.1)

fits_at : (d : Netlist) → IsValid d → (k : ℕ) (x : Wire) → k < length d.wires → x ≡ get_or d.wires k x → IsBetween 1 128 x.bits × NetFits (widths_after d (take k d.wires)) d.mems x.bits x.net
fits_at d valid k x h is = wire_at d [] d.wires valid.wires k x (slice_get-get_or d.wires k x h ∙ ap Some (sym is))

pub can_make : (d : Netlist) (e : Gates) (t : Literals) (k : ℕ) (x : Wire) → IsValid d → k < length d.wires → x ≡ get_or d.wires k x → IsBlasted d (take k d.wires) e t → CanMake e t x.bits x.net
can_make d e t k x valid h is b =
    let f = fits_at d valid k x h is in
    record {
      design = d;
      before = take k d.wires;
      shaped = b.shaped;
      sound = b.sound;
      fits = b.fits;
      narrow = f.0.1;
      deep = λ j m inside. (valid.mems j m inside).depth.0;
      net = f.1;
    }

pub of_later : (e f : Gates) (t : Literals) → Extends e f → AreOf e t → AreOf f t
of_later e f t x h =
    let words = All-weaker (All (IsLiteral e)) (All (IsLiteral f)) (λ ls k. all_later e f x ls k) in
    record {
      inputs = words t.inputs.items h.inputs;
      regs = words t.regs.items h.regs;
      mems = All-weaker (All (All (IsLiteral e))) (All (All (IsLiteral f))) (λ lss k. words lss k) t.mems.items h.mems;
      wires = words t.wires.items h.wires;
    }

pub blasted_later : (d : Netlist) (ws : List Wire) (e f : Gates) (t : Literals) → Extends e f → IsSound f → IsBlasted d ws e t → IsBlasted d ws f t
blasted_later d ws e f t x sound b = record {
  sound = sound;
  shaped = b.shaped;
  fits = of_later e f t x b.fits;
  given = b.given ∙ ap (literals_from 1) (sym x.given);
  value = always_later e f (λ w. numbers w t.wires.items ≡ values_behind d (state_shown t w) (pins_shown t w) [] [] ws) x b.value;
}

abbrev with_wires : Literals → Vec (List ℕ) Global → Literals
with_wires t wires = record { inputs = t.inputs; regs = t.regs; mems = t.mems; wires = wires }

-- one wire more has the value of its expression
wire_value : (d : Netlist) (e : Gates) (k : ℕ) (x : Wire) (t : Literals) (w : List Bool) (ls : List ℕ) → Constants w → k < length d.wires → x ≡ get_or d.wires k x → NetFits (widths_after d (take k d.wires)) d.mems x.bits x.net
    → IsBlasted d (take k d.wires) e t → numbers w t.wires.items ≡ values_behind d (state_shown t w) (pins_shown t w) [] [] (take k d.wires) → worded w ls ≡ net_shown t w x.bits x.net
    → numbers w (t.wires.items ++ ls ∷ []) ≡ values_behind d (state_shown t w) (pins_shown t w) [] [] (take (k + 1) d.wires)
wire_value d e k x t w ls c h is fits b before now =
    let ws = take k d.wires in
    let S = state_shown t w in
    let P = pins_shown t w in
    let W = widths_after d ws in
    let V = numbers w t.wires.items in
    let kept : net_shown t w x.bits x.net ≡ net_value (bits_of W) (value_of P S.regs V) S.mems x.bits x.net =
    net_kept W d.mems S.mems S.mems (bits_of W) (width_shown t) (value_of P S.regs V) (shown t w)
    (λ n a f. atom_length d ws t b.shaped n a f ∙ sym (width_is W n a f)) (λ n a f. atom_value w c t W n a f) (λ j m q. refl) x.bits x.net fits in
    let more : take (k + 1) d.wires ≡ ws ++ x ∷ [] = take_more d.wires k x h ∙ ap (λ z. ws ++ z ∷ []) (sym is) in
    map_push (worded w) t.wires.items ls
    ∙ (ap (λ z. V ++ z ∷ []) (now ∙ kept)
    ∙ (ap (λ z. z ++ net_value (bits_of W) (value_of P S.regs z) S.mems x.bits x.net ∷ []) before
    ∙ (sym (values_append d S P [] [] ws (x ∷ [])) ∙ ap (λ z. values_behind d S P [] [] z) (sym more))))

pub wires_more : (d : Netlist) (e f : Gates) (t : Literals) (wires : Vec (List ℕ) Global) (k : ℕ) (x : Wire) (ls : List ℕ) → IsValid d → k < length d.wires → x ≡ get_or d.wires k x → IsBlasted d (take k d.wires) e t
    → Computes e f ls x.bits (λ w. net_shown t w x.bits x.net) → wires.items ≡ t.wires.items ++ ls ∷ [] → IsBlasted d (take (k + 1) d.wires) f (with_wires t wires)
wires_more d e f t wires k x ls valid h is b m pushed =
    let ws = take k d.wires in
    let t2 = with_wires t wires in
    let more : take (k + 1) d.wires ≡ ws ++ x ∷ [] = take_more d.wires k x h ∙ ap (λ z. ws ++ z ∷ []) (sym is) in
    let old = of_later e f t m.extends b.fits in
    let net = (fits_at d valid k x h is).1 in
    record {
      sound = m.sound;
      shaped = record {
        inputs = b.shaped.inputs;
        regs = b.shaped.regs;
        wires =
            ap (map length) pushed ∙ (map_push length t.wires.items ls ∙ (ap (λ z. z ++ length ls ∷ []) b.shaped.wires ∙ (ap (λ z. wire_widths ws ++ z ∷ []) m.count
            ∙ (sym (map_push (λ (z : Wire). z.bits) ws x) ∙ ap wire_widths (sym more)))));
        mems = b.shaped.mems;
      };
      fits = record {
        inputs = old.inputs;
        regs = old.regs;
        mems = old.mems;
        wires = subst (All (All (IsLiteral f))) (sym pushed) (All-push (All (IsLiteral f)) t.wires.items ls old.wires m.fits);
      };
      given = b.given ∙ ap (literals_from 1) (sym m.extends.given);
      value = both e f (λ w. numbers w t.wires.items ≡ values_behind d (state_shown t w) (pins_shown t w) [] [] ws) (λ w. worded w ls ≡ net_shown t w x.bits x.net)
          (λ w. numbers w wires.items ≡ values_behind d (state_shown t w) (pins_shown t w) [] [] (take (k + 1) d.wires)) m.extends b.value m.value
          (λ w c p q. ap (numbers w) pushed ∙ wire_value d e k x t w ls c h is net b p q);
    }

pub wires_done : (d : Netlist) (e : Gates) (t : Literals) (k : ℕ) → length d.wires ≤ k → IsBlasted d (take k d.wires) e t → IsBlasted d d.wires e t
wires_done d e t k h b = subst (λ z. IsBlasted d z e t) (take_all k d.wires h) b
