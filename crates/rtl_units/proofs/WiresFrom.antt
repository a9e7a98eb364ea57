-- The words at a memory's ports, one after another.
use Rattle.std.proofs.Common.{◌≡◌, ◌<◌, ℕ, zero, suc, ◌+◌, List, [], ◌∷◌, ◌++◌, length, take, get_or, refl, sym, ap, ◌∙◌, arith}
use Rattle.std.proofs.lemmas.List.{take_more, map-append}
use Rattle.rtl_core.specs.declared.design.Atom.{Atom}
use Rattle.rtl_core.specs.declared.design.Atom.TheVariants as atom
use Rattle.rtl_core.specs.declared.design.Wire.{Wire}
use Rattle.rtl_core.specs.declared.design.Port.{Port}
use Rattle.rtl_units.specs.Fragments.{port_wire, port_wires, wires_from}

-- one more wire stands behind the others
pub one_more : (w n : ℕ) → wires_from w (suc n) ≡ wires_from w n ++ (atom.Wire (w + n) ∷ [])
one_more w zero = ap (λ k. atom.Wire k ∷ []) (omega arith)
one_more w (suc n) = ap (λ l. atom.Wire w ∷ l) (one_more (suc w) n ∙ ap (λ k. wires_from (suc w) n ++ (atom.Wire k ∷ [])) (omega arith))

pub more_ports : (m bits : ℕ) (ports : List Port) (d : Port) (i : ℕ) (old new : List Wire) → i < length ports → old ≡ port_wires m bits (take i ports)
    → new ≡ old ++ (port_wire m bits (get_or ports i d) ∷ []) → new ≡ port_wires m bits (take (i + 1) ports)
more_ports m bits ports d i old new h e f =
    f ∙ (ap (λ l. l ++ (port_wire m bits (get_or ports i d) ∷ [])) e
    ∙ (sym (map-append (port_wire m bits) (take i ports) (get_or ports i d ∷ [])) ∙ ap (port_wires m bits) (sym (take_more ports i d h))))

pub more_words : (w i next : ℕ) (a : Atom) (old new : List Atom) → next ≡ w + i → a ≡ atom.Wire next → old ≡ wires_from w i → new ≡ old ++ (a ∷ []) → new ≡ wires_from w (i + 1)
more_words w i next a old new place is f g =
    let up : suc i ≡ i + 1 = omega arith in
    g ∙ (ap (λ l. l ++ (a ∷ [])) f ∙ (ap (λ x. wires_from w i ++ (x ∷ [])) (is ∙ ap (λ k. atom.Wire k) place) ∙ (sym (one_more w i) ∙ ap (wires_from w) up)))

pub next_up : (w i next after : ℕ) → next ≡ w + i → after ≡ next + 1 → after ≡ w + (i + 1)
next_up w i next after e f = omega (arith, e, f)
