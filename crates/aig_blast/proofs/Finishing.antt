-- The graph of a circuit from its parts.
use Rattle.std.proofs.Common.{◌≡◌, ℕ, Bool, List, ◌++◌, sum, sym, ap, ◌∙◌, subst}
use Rattle.std.proofs.lemmas.List.{map-append}
use Rattle.std.proofs.lemmas.List.Elements.{All-append}
use Rattle.aig_graph.specs.declared.aig.Gate.{Gate}
use Rattle.aig_graph.specs.Graphs.{literal}
use Rattle.aig_graph.specs.Making.{Gates, IsLiteral}
use Rattle.aig_graph.proofs.Growing.{goes_on}
use Rattle.aig_graph.specs.Words.{bits}
use Rattle.aig_graph.proofs.Making.{both, all_later}
use Rattle.rtl_core.specs.Netlist.{Netlist}
use Rattle.rtl_core.specs.ClockStep.{input_widths, register_widths, clocked_registers, clocked_memories, seen, outputs, stepped}
use Rattle.rtl_core.specs.Valid.{IsValid}
use Rattle.aig_blast.specs.declared.literals.Literals.{Literals}
use Rattle.aig_blast.specs.Encoding.{encoded, memory_bits, state_bits, output_bits, IsGraphOf}
use Rattle.aig_blast.specs.Literals.{state_shown, pins_shown, memories_shown, IsBlasted, Shows}
use Rattle.aig_blast.proofs.Cycles.{finished_follows}
use Rattle.aig_blast.proofs.Growing.{blasted_later}

abbrev pub register_after : Netlist → Literals → List Bool → List Bool
register_after d t w = encoded (register_widths d) (clocked_registers (seen d (state_shown t w) (pins_shown t w)) d.regs (state_shown t w).regs)

abbrev pub memory_after : Netlist → Literals → List Bool → List Bool
memory_after d t w = memory_bits d.mems (clocked_memories (seen d (state_shown t w) (pins_shown t w)) d.mems (memories_shown t w))

abbrev pub state_after : Netlist → Literals → List Bool → List Bool
state_after d t w = state_bits d (stepped d (state_shown t w) (pins_shown t w))

pub next_joined : (d : Netlist) (t : Literals) (e f g : Gates) (ls ms words after : List ℕ) → Shows e f ls (register_after d t) → Shows f g ms (memory_after d t) → words ≡ ms → after ≡ ls ++ words → Shows e g after (state_after d t)
next_joined d t e f g ls ms words after a b same is =
    subst (λ z. Shows e g z (state_after d t)) (sym (is ∙ ap (λ z. ls ++ z) same)) (record {
      extends = goes_on e f g a.extends b.extends;
      sound = b.sound;
      fits = All-append (IsLiteral g) ls ms (all_later f g b.extends ls a.fits) b.fits;
      value = both f g (λ w. bits w ls ≡ register_after d t w) (λ w. bits w ms ≡ memory_after d t w) (λ w. bits w (ls ++ ms) ≡ state_after d t w) b.extends a.value b.value
          (λ w c p q. map-append (literal w) ls ms ∙ (ap (λ z. z ++ bits w ms) p ∙ ap (λ z. register_after d t w ++ z) q));
    })

pub graph_made : (d : Netlist) (t : Literals) (e f : Gates) (nexts tops : List ℕ) (n : ℕ) (ands : List Gate) → IsValid d → IsBlasted d d.wires e t → Shows e f nexts (state_after d t)
    → Shows f f tops (λ w. output_bits d (outputs d (state_shown t w) (pins_shown t w))) → n ≡ sum (input_widths d) → ands ≡ f.ands → IsGraphOf d (record { inputs = n; latches = nexts; outputs = tops; ands = ands })
graph_made d t e f nexts tops n ands valid b a o count same =
    subst (λ z. IsGraphOf d (record { inputs = z; latches = nexts; outputs = tops; ands = ands })) (sym count)
    (subst (λ z. IsGraphOf d (record { inputs = sum (input_widths d); latches = nexts; outputs = tops; ands = z })) (sym same)
    (finished_follows d f t nexts tops valid (record { blasted = blasted_later d d.wires e f t a.extends a.sound b; latches_fit = a.fits; outputs_fit = o.fits; latches = a.value; outs = o.value })))
