-- In each cycle the graph has the bits of the circuit.
use Rattle.std.proofs.Common.{◌≡◌, ◌<◌, ◌≤◌, ◌+◌, ◌*◌, ℕ, suc, Bool, false, List, [], ◌∷◌, ◌++◌, map, length, sum, replicate, refl, sym, ap, ◌∙◌, subst, length-append, arith}
use Rattle.std.specs.List.{All, sum_by}
use Rattle.std.proofs.lemmas.List.{length-replicate}
use Rattle.std.proofs.lemmas.List.Elements.{All-head, All-tail, All-weaker}
use Rattle.std.proofs.lemmas.List.Sums.{sum_by-cons}
use Rattle.std.proofs.lemmas.Grind.{flat_map-append}
use Rattle.aig_graph.specs.Graphs.{AndGraph, literal, values, Ordered, graph_run, variables, graph_outputs, next_latches}
use Rattle.aig_graph.specs.Graphs as graphs
use Rattle.aig_graph.specs.Making.{Gates, IsLiteral, Always}
use Rattle.aig_graph.proofs.Growing.{stays}
use Rattle.aig_graph.specs.Words.{bits, numbers, HasLength}
use Rattle.aig_graph.proofs.Numbers.{bits_length}
use Rattle.rtl_core.specs.Netlist.{Netlist, Memory}
use Rattle.rtl_core.specs.ClockStep.{State, input_widths, register_widths, outputs, stepped, IsState, ArePins}
use Rattle.rtl_core.specs.Valid.{IsValid}
use Rattle.rtl_core.proofs.Fits.{step_is_state}
use Rattle.aig_blast.specs.declared.literals.Literals.{Literals}
use Rattle.aig_blast.specs.Weight.{latch_count, memory_size}
use Rattle.aig_blast.specs.Encoding.{encoded, memory_bits, pin_bits, state_bits, output_bits, circuit_run, IsGraphOf}
use Rattle.aig_blast.specs.Literals.{state_shown, pins_shown, memories_shown, joined, AreBanks}
use Rattle.aig_blast.specs.Finished.{IsFinished, finished_graph}
use Rattle.aig_blast.proofs.Bits.{encoded_length, memory_length, split_words, split_banks, numbers_fit, banks_fit, all_given, from_length, flat}

state_length : (d : Netlist) (s : State) → IsState d s → length (state_bits d s) ≡ latch_count d
state_length d s h =
    length-append (encoded (register_widths d) s.regs) (memory_bits d.mems s.mems)
    ∙ (ap (λ z. z + length (memory_bits d.mems s.mems)) (encoded_length (register_widths d) s.regs h.regs) ∙ ap (λ z. sum (register_widths d) + z) (memory_length d.mems s.mems h.mems))

now : (e : Gates) (bs : List Bool) (P : List Bool → Type 0) → Always e P → length bs ≡ e.given → P (values (false ∷ bs) e.ands)
now e bs P h same = h e bs (stays e) same

module _ (d : Netlist) (e : Gates) (t : Literals) (latches outs : List ℕ) (valid : IsValid d) (made : IsFinished d e t latches outs) where
  -- what is shown is contents and pins, whatever bits are given
  shown_state : (w : List Bool) → IsState d (state_shown t w)
  shown_state w = record { regs = numbers_fit w (register_widths d) t.regs.items made.blasted.shaped.regs; mems = banks_fit w d.mems t.mems.items made.blasted.shaped.mems }

  shown_pins : (w : List Bool) → ArePins d (pins_shown t w)
  shown_pins w = numbers_fit w (input_widths d) t.inputs.items made.blasted.shaped.inputs

  -- for any bits, since the words have lengths of their own
  joined_length : (lss : List (List ℕ)) → length (joined lss) ≡ sum (map length lss)
  joined_length [] = refl
  joined_length (ls ∷ lss) = length-append ls (joined lss) ∙ (ap (λ z. length ls + z) (joined_length lss) ∙ sym (sum_by-cons (λ z. z) (length ls) (map length lss)))

  bank_length : (n : ℕ) (lss : List (List ℕ)) → All (HasLength n) lss → length (joined lss) ≡ length lss * n
  bank_length n [] h = (let q : 0 ≡ 0 * n = omega arith in q)
  bank_length n (ls ∷ lss) h =
      let rest : length (joined lss) ≡ length lss * n = bank_length n lss (All-tail (HasLength n) ls lss h) in
      let first : length ls ≡ n = All-head (HasLength n) ls lss h in
      let q : suc (length lss) * n ≡ n + length lss * n = omega arith in
      length-append ls (joined lss) ∙ (ap (λ z. z + length (joined lss)) first ∙ (ap (λ z. n + z) rest ∙ sym q))

  banks_length : (ms : List Memory) (bs : List (List (List ℕ))) → AreBanks ms bs → length (joined (flat bs)) ≡ sum_by memory_size ms
  banks_length [] [] h = refl
  banks_length [] (b ∷ bs) h = absurd h
  banks_length (m ∷ ms) [] h = absurd h
  banks_length (m ∷ ms) (b ∷ bs) h =
      ap length (flat_map-append (λ (ls : List ℕ). ls) b (flat bs)) ∙ (length-append (joined b) (joined (flat bs))
      ∙ (ap (λ z. z + length (joined (flat bs))) (bank_length m.bits b h.0.wide ∙ ap (λ z. z * m.bits) h.0.count) ∙ (ap (λ z. memory_size m + z) (banks_length ms bs h.1) ∙ sym (sum_by-cons memory_size m ms))))

  given_count : e.given ≡ sum (input_widths d) + latch_count d
  given_count =
      let a = joined t.inputs.items in
      let b = joined t.regs.items in
      let c = joined (flat t.mems.items) in
      let shape = made.blasted.shaped in
      sym (ap length made.blasted.given ∙ from_length 1 e.given) ∙ (length-append a (b ++ c) ∙ (ap (λ z. length a + z) (length-append b c)
      ∙ (ap (λ z. z + (length b + length c)) (joined_length t.inputs.items ∙ ap sum shape.inputs) ∙ (ap (λ z. sum (input_widths d) + (z + length c)) (joined_length t.regs.items ∙ ap sum shape.regs)
      ∙ ap (λ z. sum (input_widths d) + (sum (register_widths d) + z)) (banks_length d.mems t.mems.items shape.mems)))))

  abbrev any : List Bool
  any = replicate e.given false

  any_long : length any ≡ e.given
  any_long = length-replicate {A = Bool} e.given false

  abbrev w0 : List Bool
  w0 = values (false ∷ any) e.ands

  latches_length : length latches ≡ latch_count d
  latches_length =
      sym (bits_length w0 latches) ∙ (ap length (now e any (λ w. bits w latches ≡ state_bits d (stepped d (state_shown t w) (pins_shown t w))) made.latches any_long)
      ∙ state_length d (stepped d (state_shown t w0) (pins_shown t w0)) (step_is_state d (state_shown t w0) (pins_shown t w0) valid (shown_state w0) (shown_pins w0)))

  -- ---- one cycle

  abbrev g : AndGraph
  g = finished_graph d e latches outs

  module _ (s : State) (pins : List ℕ) (state : IsState d s) (are : ArePins d pins) where
    abbrev bs : List Bool
    bs = pin_bits d pins ++ state_bits d s

    long : length bs ≡ e.given
    long =
        length-append (pin_bits d pins) (state_bits d s) ∙ (ap (λ z. z + length (state_bits d s)) (encoded_length (input_widths d) pins are)
        ∙ (ap (λ z. sum (input_widths d) + z) (state_length d s state) ∙ sym given_count))

    abbrev w : List Bool
    w = values (false ∷ bs) e.ands

    whole : bits w (joined t.inputs.items ++ (joined t.regs.items ++ joined (flat t.mems.items))) ≡ bs
    whole = ap (bits w) made.blasted.given ∙ all_given e bs long

    abbrev others : List ℕ
    others = joined t.regs.items ++ joined (flat t.mems.items)

    inputs_split : (numbers w t.inputs.items ≡ pins) × (bits w others ≡ state_bits d s)
    inputs_split = split_words w (input_widths d) pins are t.inputs.items others (state_bits d s) made.blasted.shaped.inputs whole

    regs_split : (numbers w t.regs.items ≡ s.regs) × (bits w (joined (flat t.mems.items)) ≡ memory_bits d.mems s.mems)
    regs_split = split_words w (register_widths d) s.regs state.regs t.regs.items (joined (flat t.mems.items)) (memory_bits d.mems s.mems) made.blasted.shaped.regs inputs_split.1

    mems_same : memories_shown t w ≡ s.mems
    mems_same = split_banks w d.mems s.mems state.mems t.mems.items made.blasted.shaped.mems regs_split.1

    state_same : state_shown t w ≡ s
    state_same = ap (λ z. record { regs = z; mems = memories_shown t w }) regs_split.0 ∙ ap (λ z. record { regs = s.regs; mems = z }) mems_same

    next_same : next_latches g (state_bits d s) (pin_bits d pins) ≡ state_bits d (stepped d s pins)
    next_same =
        now e bs (λ v. bits v latches ≡ state_bits d (stepped d (state_shown t v) (pins_shown t v))) made.latches long
        ∙ (ap (λ z. state_bits d (stepped d z (pins_shown t w))) state_same ∙ ap (λ z. state_bits d (stepped d s z)) inputs_split.0)

    outs_same : graph_outputs g (state_bits d s) (pin_bits d pins) ≡ output_bits d (outputs d s pins)
    outs_same =
        now e bs (λ v. bits v outs ≡ output_bits d (outputs d (state_shown t v) (pins_shown t v))) made.outs long
        ∙ (ap (λ z. output_bits d (outputs d z (pins_shown t w))) state_same ∙ ap (λ z. output_bits d (outputs d s z)) inputs_split.0)

  -- ---- all cycles

  run_same : (s : State) (pins : List (List ℕ)) → IsState d s → All (ArePins d) pins → graph_run g (state_bits d s) (map (pin_bits d) pins) ≡ map (output_bits d) (circuit_run d s pins)
  run_same s [] state are = refl
  run_same s (p ∷ pins) state are =
      let here = All-head (ArePins d) p pins are in
      ap (λ z. z ∷ graph_run g (next_latches g (state_bits d s) (pin_bits d p)) (map (pin_bits d) pins)) (outs_same s p state here)
      ∙ (ap (λ z. output_bits d (outputs d s p) ∷ graph_run g z (map (pin_bits d) pins)) (next_same s p state here)
      ∙ ap (λ z. output_bits d (outputs d s p) ∷ z) (run_same (stepped d s p) pins (step_is_state d s p valid state here) (All-tail (ArePins d) p pins are)))

  variables_same : graphs.variable_count g ≡ e.given + length e.ands
  variables_same = ap (λ z. z + length e.ands) (ap (λ z. sum (input_widths d) + z) latches_length ∙ sym given_count)

  of_graph : (ls : List ℕ) → All (IsLiteral e) ls → All (graphs.IsLiteralOf g) ls
  of_graph ls h = All-weaker (IsLiteral e) (graphs.IsLiteralOf g) (λ l k. subst (λ z. l < 2 * suc z) (sym variables_same) (let q : l < 2 * suc (e.given + length e.ands) = omega arith in q)) ls h

  graph_valid : graphs.IsValid g
  graph_valid = record {
    latches = of_graph latches made.latches_fit;
    outputs = of_graph outs made.outputs_fit;
    ands = subst (λ z. Ordered (suc z) e.ands) (given_count ∙ ap (λ z. sum (input_widths d) + z) (sym latches_length)) made.blasted.sound.ordered;
    few = subst (λ z. z ≤ 2147483647) (sym variables_same) made.blasted.sound.few;
  }

pub finished_follows : (d : Netlist) (e : Gates) (t : Literals) (latches outs : List ℕ) → IsValid d → IsFinished d e t latches outs → IsGraphOf d (finished_graph d e latches outs)
finished_follows d e t latches outs valid made = record {
  valid = graph_valid d e t latches outs valid made;
  inputs = refl;
  latches = latches_length d e t latches outs valid made;
  follows = run_same d e t latches outs valid made;
}
