-- Atoms that are made keep what they show.
use Rattle.std.proofs.Common.{◌≡◌, ◌<◌, ◌⊎◌, inl, inr, ℕ, zero, suc, ◌++◌, ◌^◌, List, [], ◌∷◌, slice_get, Some, refl, sym, ap, ◌∙◌, subst, append_assoc}
use Rattle.std.proofs.lemmas.List.{append-nil, map-append}
use Rattle.std.proofs.lemmas.Option.{slice_get-map, none-some, same_Some}
use Rattle.std.specs.Option.{option_map}
use Rattle.rtl_core.specs.declared.design.Atom.{Atom}
use Rattle.rtl_core.specs.declared.design.Atom.TheVariants as atom
use Rattle.rtl_core.specs.declared.design.Net.{Net}
use Rattle.rtl_core.specs.declared.design.Wire.{Wire}
use Rattle.rtl_core.specs.Netlist.{Netlist}
use Rattle.rtl_core.specs.ClockStep.{State, bits_of, widths, widths_after, wire_widths, wire_values, seen, net_value, register_widths, fit_none, IsState, ArePins}
use Rattle.rtl_core.specs.Valid.{HasBits, NetFits, WiresFit, IsBetween}
use Rattle.rtl_core.proofs.Stability.{Extends, Longer, bits_kept, get_same, wire_equation}
use Rattle.rtl_core.proofs.Growth.{longer_whole, net_grows, wires_append}
use Rattle.rtl_core.proofs.Fits.{fit_length, atom_fits, values_fit}
use Rattle.rtl_units.specs.Fragments.{wire_of}
use Rattle.rtl_logic.specs.Making.{IsSound, Appends, AddsWire, Shows, Makes}

-- ---- circuits that go on

pub stays : (d : Netlist) → Extends d d
stays d = record { inputs = refl; more_regs = []; regs = sym (append-nil (register_widths d)); more_wires = []; wires = sym (append-nil d.wires) }

pub goes_on : (d e f : Netlist) → Extends d e → Extends e f → Extends d f
goes_on d e f x y = record {
  inputs = y.inputs ∙ x.inputs;
  more_regs = x.more_regs ++ y.more_regs;
  regs = y.regs ∙ (ap (λ l. l ++ y.more_regs) x.regs ∙ append_assoc (register_widths d) x.more_regs y.more_regs);
  more_wires = x.more_wires ++ y.more_wires;
  wires = y.wires ∙ (ap (λ l. l ++ y.more_wires) x.wires ∙ append_assoc d.wires x.more_wires y.more_wires);
}

abbrev with_wires : Netlist → List Wire → Netlist
with_wires d more = record d { wires = d.wires ++ more }

pub appended : (d e : Netlist) → Appends d e → Extends d e
appended d e x = subst (Extends d) (sym x.is) (record { inputs = refl; more_regs = []; regs = sym (append-nil (register_widths d)); more_wires = x.more; wires = refl })

pub appends_none : (d : Netlist) → Appends d d
appends_none d = record { more = []; is = ap (λ ws. record d { wires = ws }) (sym (append-nil d.wires)) }

pub appends_both : (d e f : Netlist) → Appends d e → Appends e f → Appends d f
appends_both d e f x y = record {
  more = x.more ++ y.more;
  is = y.is ∙ (ap (λ n. with_wires n y.more) x.is ∙ ap (λ ws. record d { wires = ws }) (append_assoc d.wires x.more y.more));
}

-- ---- atoms

pub fits_later : (d e : Netlist) → Extends d e → (n : ℕ) (a : Atom) → HasBits (widths d) n a → HasBits (widths e) n a
fits_later d e x n a h = bits_kept (widths d) (widths e) (longer_whole d e x) n a h

pub seen_bound : (d : Netlist) (s : State) (pins : List ℕ) → IsSound d → IsState d s → ArePins d pins → (n : ℕ) (a : Atom) → HasBits (widths d) n a → seen d s pins a < 2 ^ n
seen_bound d s pins sound is are = atom_fits (widths d) pins s.regs (wire_values d s pins) are is.regs (values_fit d s pins is are [] [] d.wires fit_none sound)

-- an atom that is there shows its own value
pub itself : (d : Netlist) (n : ℕ) (a : Atom) → HasBits (widths d) n a → Shows d n a (λ v x. x ≡ v a)
itself d n a h = record { fits = h; value = λ e s pins x sound is are. refl }

pub shows_later : (d e : Netlist) (n : ℕ) (a : Atom) (P : (Atom → ℕ) → ℕ → Type 0) → Extends d e → Shows d n a P → Shows e n a P
shows_later d e n a P x h = record { fits = fits_later d e x n a h.fits; value = λ f s pins y sound is are. h.value f s pins (goes_on d e f x y) sound is are }

-- nothing is made where the atom is there
pub made_before : (d : Netlist) (n : ℕ) (a : Atom) (P : (Atom → ℕ) → ℕ → Type 0) → IsSound d → Shows d n a P → Makes d d n a P
made_before d n a P sound h = record { appends = appends_none d; sound = sound; shows = h }

-- ---- wires

-- widths where more wires stand behind
longer_after : (d : Netlist) (before after : List Wire) → Longer (widths_after d before) (widths_after d (before ++ after))
longer_after d before after = record {
  inputs = refl;
  more_regs = [];
  regs = sym (append-nil (register_widths d));
  more_wires = wire_widths after;
  wires = map-append (λ (w : Wire). w.bits) before after;
}

-- an expression that fits still does where wires stand behind
net_later : (d : Netlist) (before after : List Wire) (n : ℕ) (e : Net) → NetFits (widths_after d before) d.mems n e → NetFits (widths_after d (before ++ after)) d.mems n e
net_later d before after n e h =
    subst (λ ms. NetFits (widths_after d (before ++ after)) ms n e) (append-nil d.mems) (net_grows (widths_after d before) (widths_after d (before ++ after)) d.mems [] (longer_after d before after) n e h)

wire_behind : (d : Netlist) (before ws : List Wire) → WiresFit d before ws → (k : ℕ) (w : Wire) → slice_get ws k ≡ Some w → NetFits (widths_after d (before ++ ws)) d.mems w.bits w.net
wire_behind d before [] h k w e = absurd (none-some w e)
wire_behind d before (x ∷ ws) h zero w e = subst (λ (v : Wire). NetFits (widths_after d (before ++ x ∷ ws)) d.mems v.bits v.net) (same_Some x w e) (net_later d before (x ∷ ws) x.bits x.net h.1)
wire_behind d before (x ∷ ws) h (suc k) w e =
    subst (λ b. NetFits (widths_after d b) d.mems w.bits w.net) (append_assoc before (x ∷ []) ws) (wire_behind d (before ++ x ∷ []) ws h.2 k w e)

-- the expression of a wire fits
pub wire_fits : (d : Netlist) → IsSound d → (k : ℕ) (w : Wire) → slice_get d.wires k ≡ Some w → NetFits (widths d) d.mems w.bits w.net
wire_fits d sound k w e = wire_behind d [] d.wires sound k w e

-- what a wire shows
pub wire_value : (d e : Netlist) (s : State) (pins : List ℕ) → Extends d e → IsSound e → IsState e s → (k : ℕ) (w : Wire) → slice_get d.wires k ≡ Some w
    → seen e s pins (atom.Wire k) ≡ net_value (bits_of (widths e)) (seen e s pins) s.mems w.bits w.net
wire_value d e s pins x sound is k w there =
    wire_equation e s pins (fit_length (register_widths e) s.regs is.regs) sound k w (get_same d.wires e.wires x.more_wires k w x.wires there)

-- what is as the expression of the wire says
abbrev pub IsAs : Netlist → ℕ → Net → ((Atom → ℕ) → ℕ → Type 0) → Type 0
IsAs d n net P = (e : Netlist) (s : State) (pins : List ℕ) → Extends d e → IsSound e → IsState e s → ArePins e pins → P (seen e s pins) (net_value (bits_of (widths e)) (seen e s pins) s.mems n net)

grows_sound : (d e : Netlist) (w : Wire) → IsSound d → IsBetween 1 128 w.bits → NetFits (widths d) d.mems w.bits w.net → (e ≡ d) ⊎ (e ≡ with_wires d (w ∷ [])) → IsSound e
grows_sound d e w sound bits fits (inl same) = subst IsSound (sym same) sound
grows_sound d e w sound bits fits (inr more) = subst IsSound (sym more) (wires_append (with_wires d (w ∷ [])) [] d.wires (w ∷ []) (same_fit d (w ∷ []) [] d.wires sound) (bits, fits, tt)) where
  same_fit : (d : Netlist) (more before ws : List Wire) → WiresFit d before ws → WiresFit (with_wires d more) before ws
  same_fit d more before [] h = tt
  same_fit d more before (x ∷ ws) h = (h.0, h.1, same_fit d more (before ++ x ∷ []) ws h.2)

grows_appends : (d e : Netlist) (w : Wire) → (e ≡ d) ⊎ (e ≡ with_wires d (w ∷ [])) → Appends d e
grows_appends d e w (inl same) = subst (Appends d) (sym same) (appends_none d)
grows_appends d e w (inr more) = record { more = w ∷ []; is = more }

-- a wire with an expression that fits is made
pub adds_makes : (d e : Netlist) (n : ℕ) (net : Net) (a : Atom) (P : (Atom → ℕ) → ℕ → Type 0) → IsSound d → IsBetween 1 128 n → NetFits (widths d) d.mems n net → AddsWire d e (wire_of n net) a
    → IsAs d n net P → Makes d e n a P
adds_makes d e n net a P sound bits fits adds is_as =
    let appends = grows_appends d e (wire_of n net) adds.appends in
    let extends = appended d e appends in
    record {
      appends = appends;
      sound = grows_sound d e (wire_of n net) sound bits fits adds.appends;
      shows = record {
        fits = subst (HasBits (widths e) n) (sym adds.names) (slice_get-map (λ (w : Wire). w.bits) e.wires adds.number ∙ ap (option_map (λ (w : Wire). w.bits)) adds.there);
        value = λ f s pins x sound_f is are.
            subst (λ b. P (seen f s pins) (seen f s pins b)) (sym adds.names)
            (subst (P (seen f s pins)) (sym (wire_value e f s pins x sound_f is adds.number (wire_of n net) adds.there)) (is_as f s pins (goes_on d e f extends x) sound_f is are));
      };
    }
