-- The names of a chain's pins are those of no register, memory or wire.
use Rattle.std.proofs.Common.{◌≡◌, ℕ, ◌<◌, ◌≤◌, Bool, true, List, [], ◌∷◌, map, refl, sym, ap, subst, ◌∙◌, arith}
use Rattle.std.specs.Prelude.{◌&&◌, nat_le, not}
use Rattle.std.specs.List.{All}
use Rattle.std.proofs.lemmas.List.Elements.{All-append, All-cons, All-nil}
use Rattle.std.proofs.lemmas.Bool.{and_parts}
use Rattle.std.proofs.lemmas.Bool.Decides.{nat_tests}
use Rattle.rtl_core.specs.Netlist.{Netlist}
use Rattle.rtl_core.specs.declared.design.Pin.{Pin}
use Rattle.rtl_core.specs.declared.design.OutPin.{OutPin}
use Rattle.rtl_core.specs.Interface.{outer}
use Rattle.chain_box.specs.Agreement.{HasChainPins, chain_inputs, chain_outputs}
use Rattle.verilog_print.specs.PrintableNames.{IsNumbered, HasPrintableNames}

-- the second byte is no digit
abbrev is_free : List ℕ → Bool
is_free [] = true
is_free (c ∷ []) = true
is_free (c ∷ d ∷ ds) = not (nat_le 48 d && nat_le d 57)

free : (name : List ℕ) → is_free name ≡ true → ¬ IsNumbered name
free [] e = λ h. h
free (c ∷ []) e = λ h. let some : 0 < 0 = h.1.0 in omega arith
free (c ∷ d ∷ ds) e = λ h. let digit : (48 ≤ d) × (d ≤ 57) = h.1.1 0 0 (omega arith) in grind (arith, nat_tests)

abbrev are_free : List Pin → Bool
are_free [] = true
are_free (p ∷ pins) = is_free p.name && are_free pins

all_free : (pins : List Pin) → are_free pins ≡ true → All (λ n. ¬ IsNumbered n) (map (λ (p : Pin). p.name) pins)
all_free [] e = All-nil _
all_free (p ∷ pins) e =
    let parts = and_parts (is_free p.name) (are_free pins) e in
    All-cons (λ n. ¬ IsNumbered n) p.name (map (λ (q : Pin). q.name) pins) (free p.name parts.0) (all_free pins parts.1)

inputs_free : (bits : ℕ) → are_free (chain_inputs bits) ≡ true
inputs_free bits = refl

outputs_free : (bits : ℕ) → are_free (chain_outputs bits) ≡ true
outputs_free bits = refl

outer_names : (outputs : List OutPin) → map (λ (o : OutPin). o.name) outputs ≡ map (λ (p : Pin). p.name) (map outer outputs)
outer_names [] = refl
outer_names (o ∷ outputs) = ap (λ names. o.name ∷ names) (outer_names outputs)

pub printable : (d : Netlist) (argument result : ℕ) → HasChainPins d argument result → HasPrintableNames d
printable d argument result pins =
    let inputs = subst (λ (ps : List Pin). All (λ n. ¬ IsNumbered n) (map (λ (p : Pin). p.name) ps)) (sym pins.inputs) (all_free (chain_inputs argument) (inputs_free argument)) in
    let names : map (λ (o : OutPin). o.name) d.outputs ≡ map (λ (p : Pin). p.name) (chain_outputs result) = outer_names d.outputs ∙ ap (λ ps. map (λ (p : Pin). p.name) ps) pins.outputs in
    let outputs = subst (λ (ns : List (List ℕ)). All (λ n. ¬ IsNumbered n) ns) (sym names) (all_free (chain_outputs result) (outputs_free result)) in
    All-append (λ n. ¬ IsNumbered n) (map (λ (p : Pin). p.name) d.inputs) (map (λ (o : OutPin). o.name) d.outputs) inputs outputs
