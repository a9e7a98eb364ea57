-- A circuit with a wire for each output: it is valid where the circuit is, and these wires have the values of the outputs.
use Rattle.std.proofs.Common.{map, ◌≡◌, ℕ, suc, zero, ◌+◌, ◌<◌, List, [], ◌∷◌, ◌++◌, length, slice_get, slice_index, Some, refl, sym, ap, ◌∙◌, subst, append_assoc, arith}
use Rattle.std.specs.List.{All}
use Rattle.std.proofs.lemmas.List.{append-nil, map-append, length-map}
use Rattle.std.proofs.lemmas.List.Elements.{All-head, All-tail}
use Rattle.std.proofs.lemmas.Option.{slice_get_within, none-some, same_Some, get_or_from_slice_get, slice_get-map}
use Rattle.std.specs.Option.{option_map}
use Rattle.rtl_core.specs.declared.design.Atom.TheVariants as atom
use Rattle.rtl_core.specs.declared.design.Wire.{Wire}
use Rattle.rtl_core.specs.declared.design.OutPin.{OutPin}
use Rattle.rtl_core.specs.Netlist.{Netlist}
use Rattle.rtl_core.specs.ClockStep.{State, register_widths, wire_widths, widths_after, widths, seen, outputs}
use Rattle.rtl_core.specs.Valid.{HasBits, IsBetween, WiresFit, OutputFits}
use Rattle.rtl_core.proofs.Stability.{Extends, Holds, bits_kept, wire_equation, seen_kept}
use Rattle.rtl_core.proofs.Growth.{wires_extended}
use Rattle.chain_box.specs.StageEmbedding.Placing.{exit_wire, with_exits}
use Rattle.chain_box.proofs.Embedding.{get_behind}

abbrev pub exits_extend : (d : Netlist) → Extends d (with_exits d)
exits_extend d = record { inputs = refl; more_regs = []; regs = sym (append-nil (register_widths d)); more_wires = map exit_wire d.outputs; wires = refl }

between_more : (n : ℕ) → IsBetween 1 64 n → IsBetween 1 128 n
between_more n h = (h.0, let l = h.1 in omega (arith, l))

exits_fit : (d : Netlist) (more : List Wire) (os : List OutPin) → All (OutputFits (widths d)) os → WiresFit (with_exits d) (d.wires ++ more) (map exit_wire os)
exits_fit d more [] fits = tt
exits_fit d more (o ∷ os) fits =
    let f = All-head (OutputFits (widths d)) o os fits in (
      between_more o.bits f.bits,
      bits_kept (widths d) (widths_after (with_exits d) (d.wires ++ more)) (record {
        inputs = refl;
        more_regs = [];
        regs = sym (append-nil (register_widths d));
        more_wires = wire_widths more;
        wires = map-append (λ (w : Wire). w.bits) d.wires more;
      }) o.bits o.from f.from,
      subst (λ z. WiresFit (with_exits d) z (map exit_wire os)) (sym (append_assoc d.wires more (exit_wire o ∷ []))) (exits_fit d (more ++ exit_wire o ∷ []) os (All-tail (OutputFits (widths d)) o os fits)),
    )

pub exits_are_valid : (d : Netlist) → WiresFit d [] d.wires → All (OutputFits (widths d)) d.outputs → WiresFit (with_exits d) [] (with_exits d).wires
exits_are_valid d fit outs =
    wires_extended d (with_exits d) [] (exits_extend d) (sym (append-nil d.mems)) fit (subst (λ z. WiresFit (with_exits d) z (map exit_wire d.outputs)) (append-nil d.wires) (exits_fit d [] d.outputs outs))

-- the exit of an output has its width
pub exit_fits : (d : Netlist) (k : ℕ) (o : OutPin) → slice_get d.outputs k ≡ Some o → HasBits (widths (with_exits d)) o.bits (atom.Wire (length d.wires + k))
exit_fits d k o found =
    ap (λ z. slice_get z (length d.wires + k)) (map-append (λ (w : Wire). w.bits) d.wires (map exit_wire d.outputs))
    ∙ (ap (λ z. slice_get (wire_widths d.wires ++ wire_widths (map exit_wire d.outputs)) (z + k)) (sym (length-map d.wires (λ (w : Wire). w.bits)))
    ∙ (get_behind (wire_widths d.wires) (wire_widths (map exit_wire d.outputs)) k
    ∙ (slice_get-map (λ (w : Wire). w.bits) (map exit_wire d.outputs) k
    ∙ (ap (option_map (λ (w : Wire). w.bits)) (slice_get-map exit_wire d.outputs k ∙ ap (option_map exit_wire) found)))))

-- and the output's value
pub exit_shows : (d : Netlist) (s : State) (pins : List ℕ) → WiresFit d [] d.wires → All (OutputFits (widths d)) d.outputs → length (register_widths d) ≡ length s.regs → (k : ℕ) (o : OutPin)
    → slice_get d.outputs k ≡ Some o → seen (with_exits d) s pins (atom.Wire (length d.wires + k)) ≡ slice_index (outputs d s pins) k
exit_shows d s pins fit outs count k o found =
    let e = with_exits d in
    let there : slice_get e.wires (length d.wires + k) ≡ Some (exit_wire o) = get_behind d.wires (map exit_wire d.outputs) k ∙ (slice_get-map exit_wire d.outputs k ∙ ap (option_map exit_wire) found) in
    let here : slice_get (outputs d s pins) k ≡ Some (seen d s pins o.from) =
    slice_get-map (λ (x : OutPin). seen d s pins x.from) d.outputs k ∙ ap (option_map (λ (x : OutPin). seen d s pins x.from)) found in
    let held : Holds d s s = record { count = count; more_regs = []; regs = sym (append-nil s.regs); mems = λ k m f. refl } in
    let within : k < length d.outputs = slice_get_within d.outputs k o found in
    wire_equation e s pins count (exits_are_valid d fit outs) (length d.wires + k) (exit_wire o) there
    ∙ (seen_kept d e s s pins (exits_extend d) held fit o.bits o.from (output_has d.outputs outs k o found) ∙ sym (get_or_from_slice_get (outputs d s pins) k (seen d s pins o.from) 0 here)) where
      output_has : (os : List OutPin) → All (OutputFits (widths d)) os → (k : ℕ) (o : OutPin) → slice_get os k ≡ Some o → HasBits (widths d) o.bits o.from
      output_has [] fits k o f = absurd (none-some o f)
      output_has (x ∷ os) fits zero o f = subst (λ (y : OutPin). HasBits (widths d) y.bits y.from) (same_Some x o f) (All-head (OutputFits (widths d)) x os fits).from
      output_has (x ∷ os) fits (suc k) o f = output_has os (All-tail (OutputFits (widths d)) x os fits) k o f
