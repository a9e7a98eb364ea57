-- The atoms that stand in the place of a part's inputs: that they fit gives the part its place, and their values are pins that it can have.
use Rattle.std.proofs.Common.{map, ◌≡◌, ℕ, suc, zero, ◌+◌, ◌^◌, ◌<◌, List, [], ◌∷◌, ◌++◌, length, slice_get, slice_index, slice_index_or, Some, refl, sym, ap, ◌∙◌, subst, arith}
use Rattle.std.proofs.lemmas.List.{append-nil, map-append, length-map, get_or-map}
use Rattle.std.proofs.lemmas.Option.{none-some, same_Some, slice_get_within, slice_get-map}
use Rattle.std.specs.Option.{option_map}
use Rattle.rtl_core.specs.declared.design.Atom.{Atom}
use Rattle.rtl_core.specs.declared.design.Atom.TheVariants as atom
use Rattle.rtl_core.specs.declared.design.Pin.{Pin}
use Rattle.rtl_core.specs.declared.design.Wire.{Wire}
use Rattle.rtl_core.specs.Netlist.{Netlist, Memory}
use Rattle.rtl_core.specs.ClockStep.{State, Widths, input_widths, register_widths, wire_widths, widths_after, widths, seen, Fit, fit_none, fit_one, IsState, ArePins}
use Rattle.rtl_core.specs.Valid.{HasBits, IsConstant, IsValid}
use Rattle.rtl_core.proofs.Stability.{bits_kept}
use Rattle.rtl_core.proofs.Fits.{seen_fits}
use Rattle.chain_box.specs.StageEmbedding.Placing.{Place, renamed, renamed_port, renamed_memory, renamed_wires, Part, HasMemory, HasPlace}
use Rattle.chain_box.proofs.Embedding.{atom_fits_renamed}
use Rattle.chain_box.proofs.Assembling.{Stands, Owns}

-- an atom of each width, none of them constant
abbrev pub AreInputs : Widths → List ℕ → List Atom → Type 0
AreInputs w [] [] = Unit {0}
AreInputs w [] (a ∷ atoms) = ⊥
AreInputs w (n ∷ ns) [] = ⊥
AreInputs w (n ∷ ns) (a ∷ atoms) = HasBits w n a × (¬ IsConstant a) × AreInputs w ns atoms

inputs_count : (w : Widths) (ns : List ℕ) (atoms : List Atom) → AreInputs w ns atoms → length atoms ≡ length ns
inputs_count w [] [] h = refl
inputs_count w [] (a ∷ atoms) h = absurd h
inputs_count w (n ∷ ns) [] h = absurd h
inputs_count w (n ∷ ns) (a ∷ atoms) h = ap suc (inputs_count w ns atoms h.2)

inputs_have : (w : Widths) (ns : List ℕ) (atoms : List Atom) → AreInputs w ns atoms → (k n : ℕ) → slice_get ns k ≡ Some n
    → HasBits w n (slice_index_or atoms k (atom.Constant 1 0)) × (¬ IsConstant (slice_index_or atoms k (atom.Constant 1 0)))
inputs_have w [] atoms h k n f = absurd (none-some n f)
inputs_have w (m ∷ ns) [] h k n f = absurd h
inputs_have w (m ∷ ns) (a ∷ atoms) h zero n f = (subst (λ z. HasBits w z a) (same_Some m n f) h.0, h.1)
inputs_have w (m ∷ ns) (a ∷ atoms) h (suc k) n f = inputs_have w ns atoms h.2 k n f

pub placed_at : (d h : Netlist) (before : List Wire) (p : Place) → p.wires ≡ length before → AreInputs (widths_after h before) (input_widths d) p.inputs
    → ((k n : ℕ) → slice_get (register_widths d) k ≡ Some n → slice_get (register_widths h) (p.regs + k) ≡ Some n)
    → ((k : ℕ) (m : Memory) → slice_get d.mems k ≡ Some m → HasMemory p m h.mems (p.mems + k)) → HasPlace d h before p
placed_at d h before p start inputs regs mems = record {
  start = start;
  count = inputs_count (widths_after h before) (input_widths d) p.inputs inputs ∙ length-map d.inputs (λ (x : Pin). x.bits);
  inputs = λ k n f. (inputs_have (widths_after h before) (input_widths d) p.inputs inputs k n f).0;
  varies = λ k n f. (inputs_have (widths_after h before) (input_widths d) p.inputs inputs k n f).1;
  regs = regs;
  mems = mems;
}

-- an atom that fits behind some wires fits where more stand behind
pub fits_later : (h : Netlist) (before more : List Wire) (n : ℕ) (a : Atom) → HasBits (widths_after h before) n a → HasBits (widths_after h (before ++ more)) n a
fits_later h before more n a f =
    bits_kept (widths_after h before) (widths_after h (before ++ more))
    (record {
      inputs = refl;
      more_regs = [];
      regs = sym (append-nil (register_widths h));
      more_wires = wire_widths more;
      wires = map-append (λ (w : Wire). w.bits) before more;
    })
    n a f

-- the atoms of a part fit behind its wires
pub fits_behind_part : (d h : Netlist) (before : List Wire) (p : Place) → HasPlace d h before p → (n : ℕ) (a : Atom) → HasBits (widths d) n a
    → HasBits (widths_after h (before ++ renamed_wires p d.wires)) n (renamed p a)
fits_behind_part d h before p place n a f = atom_fits_renamed d h before p place d.wires n a f

-- a part that brings its memories has them
pub own_memory : (h : Netlist) (q : Part) → Owns h q → (k : ℕ) (m : Memory) → slice_get q.circuit.mems k ≡ Some m → HasMemory q.place m h.mems (q.place.mems + k)
own_memory h q o k m f = record {
  memory = renamed_memory q.place m;
  found = o.mems k m f;
  bits = refl;
  depth = refl;
  ports = λ i x found. (i, renamed_port q.place x, slice_get-map (renamed_port q.place) m.ports i ∙ ap (option_map (renamed_port q.place)) found, refl);
}

-- ---- values of the inputs

fit_from : (ws xs : List ℕ) → length ws ≡ length xs → ((k n : ℕ) → slice_get ws k ≡ Some n → slice_index xs k < 2 ^ n) → Fit ws xs
fit_from [] [] e f = fit_none
fit_from [] (x ∷ xs) e f = absurd (omega (arith, e))
fit_from (w ∷ ws) [] e f = absurd (omega (arith, e))
fit_from (w ∷ ws) (x ∷ xs) e f = fit_one w x ws xs (f 0 w refl) (fit_from ws xs (omega (arith, e)) (λ k n g. f (suc k) n g))

pub part_pins_fit : (h : Netlist) (q : Part) (t : State) (all : List ℕ) → Stands h q → IsValid h → IsState h t → ArePins h all → ArePins q.circuit (map (seen h t all) q.place.inputs)
part_pins_fit h q t all st valid is are =
    let v = seen h t all in
    let bits : Pin → ℕ = λ x. x.bits in
    fit_from (input_widths q.circuit) (map v q.place.inputs) (length-map q.circuit.inputs bits ∙ (sym st.count ∙ sym (length-map q.place.inputs v)))
    (λ k n f.
    let within : k < length q.place.inputs = subst (λ z. k < z) (length-map q.circuit.inputs bits ∙ sym st.count) (slice_get_within (input_widths q.circuit) k n f) in
    subst (λ z. z < 2 ^ n) (sym (get_or-map v q.place.inputs k (atom.Constant 1 0) 0 within)) (seen_fits h t all valid is are n (renamed q.place (atom.Input k)) (st.fits n (atom.Input k) f)))
