-- A netlist with fewer registers and wires is the same circuit.
use Rattle.std.proofs.Common.{◌≡◌, ℕ, zero, suc, ◌^◌, ◌<◌, List, [], ◌∷◌, map, length, get_or, refl, sym, ap, ap₂, ◌∙◌, subst, arith}
use Rattle.std.specs.Prelude.{slice_index}
use Rattle.std.specs.List.{All}
use Rattle.std.proofs.lemmas.List.{length-map}
use Rattle.rtl_core.specs.declared.design.Pin.{Pin}
use Rattle.rtl_core.specs.declared.design.Reg.{Reg}
use Rattle.rtl_core.specs.Netlist.{Memory}
use Rattle.rtl_core.specs.ClockStep.{State, Fit, fit_none, fit_one, AreWords, AreMemories, one_memory, IsState, ArePins, word_at, stepped, outputs}
use Rattle.rtl_core.specs.Interface.{ArrayShape, HoldArrays}
use Rattle.datapath.specs.Plans.{Plan, interface}
use Rattle.datapath.specs.Cycles.{Register, Ready, Contents}
use Rattle.datapath.specs.Circuits.{width, Shows}
use Rattle.rtl_logic.specs.Reducing.{kept_registers, sized, AreBelow}
use Rattle.datapath.specs.Netlists.{memory_of, Holds, ReducedIsCircuit}

-- ---- registers

abbrev chosen : List Register → List ℕ → List Register
chosen names keep = map (λ k. get_or names k Ready) keep

index_map : (f : Register → ℕ) (names : List Register) (k : ℕ) → k < length names → slice_index (map f names) k ≡ f (get_or names k Ready)
index_map f [] k h = absurd (omega arith)
index_map f (r ∷ rs) zero h = refl
index_map f (r ∷ rs) (suc k) h = index_map f rs k (omega arith)

chosen_map : (f : Register → ℕ) (names : List Register) (keep : List ℕ) → AreBelow (length names) keep → map (λ k. slice_index (map f names) k) keep ≡ map f (chosen names keep)
chosen_map f names [] below = refl
chosen_map f names (k ∷ ks) below = ap₂ (λ x l. x ∷ l) (index_map f names k below.0) (chosen_map f names ks below.1)

all_fit : (p : Plan) (x : Contents) (names : List Register) → ((r : Register) → x.regs r < 2 ^ width p r) → Fit (map (width p) names) (map x.regs names)
all_fit p x [] fit = fit_none
all_fit p x (r ∷ rs) fit = fit_one (width p r) (x.regs r) (map (width p) rs) (map x.regs rs) (fit r) (all_fit p x rs fit)

-- ---- memories

arrays_held : (ms ns : List Memory) (arrays : List ArrayShape) → map sized ns ≡ map sized ms → HoldArrays ms arrays → HoldArrays ns arrays
arrays_held ms ns [] same held = _
arrays_held [] ns (a ∷ arrays) same held = absurd held
arrays_held (m ∷ ms) [] (a ∷ arrays) same held = absurd (cc)
arrays_held (m ∷ ms) (n ∷ ns) (a ∷ arrays) same held =
    let first : sized n ≡ sized m = cc in
    let rest : map sized ns ≡ map sized ms = cc in
    (ap (λ (z : Memory). z.bits) first ∙ held.0, ap (λ (z : Memory). z.depth_log) first ∙ held.1, arrays_held ms ns arrays rest held.2)

words_fit : (m n : Memory) (words : List ℕ) → sized n ≡ sized m → AreWords n words → AreWords m words
words_fit m n words same w =
    let bits : n.bits ≡ m.bits = ap (λ (z : Memory). z.bits) same in
    let deep : n.depth_log ≡ m.depth_log = ap (λ (z : Memory). z.depth_log) same in
    record { count = w.count ∙ ap (λ k. 2 ^ k) deep; fit = subst (λ b. All (λ x. x < 2 ^ b) words) bits w.fit }

memories_fit : (ms ns : List Memory) (mems : List (List ℕ)) → map sized ns ≡ map sized ms → AreMemories ns mems → AreMemories ms mems
memories_fit [] [] mems same fit = fit
memories_fit (m ∷ ms) [] mems same fit = absurd (cc)
memories_fit [] (n ∷ ns) mems same fit = absurd (cc)
memories_fit (m ∷ ms) (n ∷ ns) mems same (one_memory a words b rest_ w rest) =
    let first : sized n ≡ sized m = cc in
    let others : map sized ns ≡ map sized ms = cc in
    one_memory m words ms rest_ (words_fit m n words first w) (memories_fit ms ns rest_ others rest)

-- ---- the whole

abbrev holding : List (List ℕ) → List ℕ → State
holding mems regs = record { regs = regs; mems = mems }

pub reduced : ReducedIsCircuit
reduced p keep d e c r =
    let names : List Register = c.names in
    let count : length d.regs ≡ length names =
    sym (length-map d.regs (λ (q : Reg). q.bits)) ∙ (ap length c.widths ∙ length-map names (width p)) in
    let below : AreBelow (length names) keep = subst (λ n. AreBelow n keep) count r.below in
    let whole : State → Contents → State = λ t x. record { regs = map x.regs names; mems = t.mems } in
    let pins_of : (pins : List ℕ) → ArePins e pins → ArePins d pins = λ pins are. subst (λ (i : List Pin). Fit (map (λ (q : Pin). q.bits) i) pins) r.inputs are in
    let kept : (s : State) (x : Contents) → Holds p names s x → (kept_registers keep s).regs ≡ map x.regs (chosen names keep) = λ s x h.
    ap (λ l. map (λ k. slice_index l k) keep) h.regs ∙ chosen_map x.regs names keep below in
    let held : (t : State) (x : Contents) → Holds p (chosen names keep) t x → Holds p names (whole t x) x = λ t x h. record { regs = refl; fit = h.fit; memories = h.memories } in
    let same : (t : State) (x : Contents) → Holds p (chosen names keep) t x → kept_registers keep (whole t x) ≡ t = λ t x h.
    ap (holding t.mems) (chosen_map x.regs names keep below ∙ sym h.regs) in
    let states : (t : State) (x : Contents) → IsState e t → Holds p (chosen names keep) t x → IsState d (whole t x) = λ t x is h.
    record { regs = subst (λ w. Fit w (map x.regs names)) (sym c.widths) (all_fit p x names h.fit); mems = memories_fit d.mems e.mems t.mems r.memories is.mems } in
    record {
      pins = record { inputs = r.inputs ∙ c.pins.inputs; outputs = r.pins ∙ c.pins.outputs };
      arrays = arrays_held d.mems e.mems (interface p).arrays r.memories c.arrays;
      names = chosen names keep;
      widths = r.widths ∙ (ap (λ l. map (λ k. slice_index l k) keep) c.widths ∙ chosen_map (width p) names keep below);
      begins = λ t is.
          let b = r.begins t is in
          let x = c.begins b.0 b.1.0 in (
            x.0,
            record {
              regs = ap (λ (z : State). z.regs) (sym b.1.1) ∙ kept b.0 x.0 x.1;
              fit = x.1.fit;
              memories = λ a address plain low. ap (λ (z : State). word_at z.mems (memory_of p a) address) (sym b.1.1) ∙ x.1.memories a address plain low;
            },
          );
      shows = λ t pins x is are h.
          subst (λ o. Shows p x o) (sym (r.shows (whole t x) pins (states t x is h) (pins_of pins are)) ∙ ap (λ z. outputs e z pins) (same t x h))
          (c.shows (whole t x) pins x (states t x is h) (pins_of pins are) (held t x h));
      goes_on = λ t pins x is are h.
          let f = c.goes_on (whole t x) pins x (states t x is h) (pins_of pins are) (held t x h) in
          let behind : stepped e t pins ≡ kept_registers keep (stepped d (whole t x) pins) =
          sym (ap (λ z. stepped e z pins) (same t x h)) ∙ r.steps (whole t x) pins (states t x is h) (pins_of pins are) in
          record {
            after = f.after;
            step = f.step;
            holds = subst (λ z. Holds p (chosen names keep) z f.after) (sym behind)
                (record { regs = kept (stepped d (whole t x) pins) f.after f.holds; fit = f.holds.fit; memories = f.holds.memories });
          };
    }
