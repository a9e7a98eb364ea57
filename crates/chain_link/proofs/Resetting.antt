-- Behind a cycle of reset, whatever was held before, the queues are empty and the stages stand with their boxes.
use Rattle.std.proofs.Common.{map, ◌≡◌, ℕ, suc, zero, ◌+◌, ◌^◌, ◌<◌, false, ◌==◌, List, [], ◌∷◌, length, refl, sym, ap, ◌∙◌, arith}
use Rattle.std.specs.List.{AllByRecursion}
use Rattle.rtl_core.specs.declared.design.Atom.{Atom}
use Rattle.rtl_core.specs.declared.design.Atom.TheVariants as atom
use Rattle.rtl_core.specs.Netlist.{Netlist, Memory}
use Rattle.rtl_core.specs.ClockStep.{State, bit_of, seen, stepped, AreMemories, IsState, ArePins}
use Rattle.rtl_core.specs.Interface.{reset_of}
use Rattle.rtl_core.specs.Valid.{IsValid}
use Rattle.rtl_core.proofs.Fits.{fit_get, fit_length}
use Rattle.chain_box.specs.StageBoxes.{StageBox}
use Rattle.chain_box.specs.Chains.{begun_link}
use Rattle.chain_box.specs.Agreement.{AreStagesOf}
use Rattle.chain_box.proofs.Assembling.{Stands, Both, IsStateOf, next_states, memory_parts}
use Rattle.chain_box.proofs.Pins.{part_pins_fit}
use Rattle.chain_link.specs.declared.numbers.Sizes.{Sizes}
use Rattle.chain_link.specs.declared.numbers.Queue.{Queue}
use Rattle.chain_link.specs.Units.{queue_back, control, memory_of, reading_port, writing_port}
use Rattle.chain_link.specs.Queues.{Ring, ring_state, HoldsQueue, back_pins}
use Rattle.chain_link.specs.Linking.{some_of, exit_of, behind_asked, start_of, control_part, back_part, started_part, last_part, sizes_behind, queue_behind, owned_parts}
use Rattle.chain_link.proofs.Queues.{queue_resets}
use Rattle.chain_link.proofs.Controls.{control_state, control_resets}
use Rattle.chain_link.proofs.Standing.{Cell, states_from, Stand, initial_result}

one_long : {A : Type 0} (xs : List A) → length xs ≡ 1 → (x : A) × (xs ≡ x ∷ [])
one_long [] e = absurd (omega (arith, e))
one_long (x ∷ []) e = (x, refl)
one_long (x ∷ (y ∷ xs)) e = absurd (omega (arith, e))

two_long : {A : Type 0} (xs : List A) → length xs ≡ 2 → (x : A) × (y : A) × (xs ≡ x ∷ y ∷ [])
two_long [] e = absurd (omega (arith, e))
two_long (x ∷ []) e = absurd (omega (arith, e))
two_long (x ∷ (y ∷ [])) e = (x, y, refl)
two_long (x ∷ (y ∷ (z ∷ xs))) e = absurd (omega (arith, e))

-- the number of a bit
pub bit_is : (x : ℕ) → x < 2 ^ 1 → x ≡ bit_of (x == 1)
bit_is zero h = refl
bit_is (suc zero) h = refl
bit_is (suc (suc k)) h = absurd (omega arith)

no_more : (ys : List (List ℕ)) → AreMemories [] ys → ys ≡ []
no_more [] a = refl
no_more (y ∷ ys) a = absurd (memory_parts [] (y ∷ ys) a)

words_of : (m : Memory) (ys : List (List ℕ)) → AreMemories (m ∷ []) ys → (words : List ℕ) × (ys ≡ words ∷ []) × (length words ≡ 2 ^ m.depth_log)
words_of m [] a = absurd (memory_parts (m ∷ []) [] a)
words_of m (y ∷ ys) a =
    let p = memory_parts (m ∷ []) (y ∷ ys) a in
    (y, ap (λ z. y ∷ z) (no_more ys p.1), p.0.count)

-- contents of the circuit of a queue
ring_of : (log bits : ℕ) (s : State) → IsState (queue_back log bits) s → (r : Ring) × (s ≡ ring_state r) × (length r.words ≡ 2 ^ log)
ring_of log bits s is =
    let regs = two_long s.regs (sym (fit_length (log ∷ (log + 1) ∷ []) s.regs is.regs)) in
    let mems = words_of (memory_of log bits (writing_port ∷ reading_port bits ∷ [])) s.mems is.mems in
    let make : List ℕ → List (List ℕ) → State = λ xs ys. record { regs = xs; mems = ys } in
    (record { words = mems.0; head = regs.0; count = regs.1 }, ap (λ z. make z s.mems) regs.2 ∙ ap (λ z. make (regs.0 ∷ regs.1 ∷ []) z) mems.1, mems.2)

control_of : (s : State) → IsState control s → (x : ℕ) × (s ≡ record { regs = x ∷ []; mems = [] })
control_of s is =
    let regs = one_long s.regs (sym (fit_length (1 ∷ []) s.regs is.regs)) in
    let make : List ℕ → List (List ℕ) → State = λ xs ys. record { regs = xs; mems = ys } in
    (regs.0, ap (λ z. make z s.mems) regs.1 ∙ ap (λ z. make (regs.0 ∷ []) z) (no_more s.mems is.mems))

ring_reset : (log bits : ℕ) (s : State) (reset take give x : ℕ) → IsState (queue_back log bits) s → reset ≡ 1 → take < 2 ^ 1 → give < 2 ^ 1
    → (next : Ring) × (stepped (queue_back log bits) s (back_pins reset take give x) ≡ ring_state next) × HoldsQueue log next []
ring_reset log bits s reset take give x is e t g =
    let r = ring_of log bits s is in
    let b = queue_resets log bits r.0 (take == 1) (give == 1) x r.2 in (
      b.0,
      ap (λ z. stepped (queue_back log bits) z (back_pins reset take give x)) r.1
          ∙ (ap (λ z. stepped (queue_back log bits) (ring_state r.0) (back_pins z take give x)) e
          ∙ (ap (λ z. stepped (queue_back log bits) (ring_state r.0) (back_pins 1 z give x)) (bit_is take t)
          ∙ (ap (λ z. stepped (queue_back log bits) (ring_state r.0) (back_pins 1 (bit_of (take == 1)) z x)) (bit_is give g) ∙ b.1))),
      b.2,
    )

control_reset : (s : State) (reset ready done room some : ℕ) → IsState control s → reset ≡ 1 → stepped control s (reset ∷ ready ∷ done ∷ room ∷ some ∷ []) ≡ control_state false
control_reset s reset ready done room some is e =
    let c = control_of s is in
    ap (λ z. stepped control z (reset ∷ ready ∷ done ∷ room ∷ some ∷ [])) c.1
    ∙ (ap (λ z. stepped control (record { regs = c.0 ∷ []; mems = [] }) (z ∷ ready ∷ done ∷ room ∷ some ∷ [])) e ∙ control_resets c.0 ready done room some)

module _ (h : Netlist) (log : ℕ) (valid : IsValid h) (t : State) (all : List ℕ) (is : IsState h t) (are : ArePins h all) (reset : reset_of all ≡ 1) where
  abbrev v : Atom → ℕ
  v = seen h t all

  pub record StandReset (ds : List Netlist) (boxes : List StageBox) (s : Sizes) (q : Queue) (old : List State) : Type 0 where
    pub ring : Ring
    pub cells : List Cell
    pub states : next_states v (owned_parts log s q ds) old ≡ states_from ring cells
    pub queue : HoldsQueue log ring []
    pub stand : Stand log ds cells (map begun_link boxes)

  pub chain_resets : (ds : List Netlist) (boxes : List StageBox) (ss : List State) (s : Sizes) (q : Queue) → AreStagesOf ds boxes → AllByRecursion (Stands h) (owned_parts log s q ds) → Both IsStateOf (owned_parts log s q ds) ss
      → StandReset ds boxes s q ss
  chain_resets [] [] [] s q agree st states = absurd states
  chain_resets [] [] (x ∷ []) s q agree st states =
      let fit = part_pins_fit h (last_part log s q) t all st.0 valid is are in
      let widths = 1 ∷ 1 ∷ 1 ∷ q.bits ∷ [] in
      let pins = map v (last_part log s q).place.inputs in
      let ring = ring_reset log q.bits x (v (atom.Input 0)) (v (atom.Wire (s.wires + 0))) (v (atom.Wire q.give)) (v q.item) states.0 reset (fit_get widths pins fit 1 1 refl) (fit_get widths pins fit 2 1 refl) in
      record { ring = ring.0; cells = []; states = ap (λ z. z ∷ []) ring.1; queue = ring.2; stand = tt }
  chain_resets [] [] (x ∷ (y ∷ ss)) s q agree st states = absurd states.1
  chain_resets [] (b ∷ boxes) ss s q agree st states = absurd agree
  chain_resets (d ∷ ds) [] ss s q agree st states = absurd agree
  chain_resets (d ∷ ds) (b ∷ boxes) [] s q agree st states = absurd states
  chain_resets (d ∷ ds) (b ∷ boxes) (x ∷ []) s q agree st states = absurd states.1
  chain_resets (d ∷ ds) (b ∷ boxes) (x ∷ (y ∷ [])) s q agree st states = absurd states.1.1
  chain_resets (d ∷ ds) (b ∷ boxes) (x ∷ (y ∷ (z ∷ ss))) s q agree st states =
      let rest = chain_resets ds boxes ss (sizes_behind s d) (queue_behind s d) agree.2 st.1.1.1 states.1.1.1 in
      let fit = part_pins_fit h (back_part log s q d) t all st.0 valid is are in
      let widths = 1 ∷ 1 ∷ 1 ∷ q.bits ∷ [] in
      let pins = map v (back_part log s q d).place.inputs in
      let ring = ring_reset log q.bits x (v (atom.Input 0)) (v (start_of s d)) (v (atom.Wire q.give)) (v q.item) states.0 reset (fit_get widths pins fit 1 1 refl) (fit_get widths pins fit 2 1 refl) in
      let fresh = control_reset y (v (atom.Input 0)) (v (exit_of s d 0)) (v (exit_of s d 1)) (v (atom.Wire (behind_asked s d + 1))) (v (some_of q)) states.1.0 reset in
      let stage_pins = map v (started_part s q d).place.inputs in
      let stage_fit = part_pins_fit h (started_part s q d) t all st.1.1.0 valid is are in
      let after = stepped d z stage_pins in
      let cell : Cell = record { held = after; fresh = false; ring = rest.ring } in
      let others = next_states v (owned_parts log (sizes_behind s d) (queue_behind s d) ds) ss in
      record {
        ring = ring.0;
        cells = cell ∷ rest.cells;
        states =
            ap (λ w. w ∷ stepped control y (map v (control_part s q d).place.inputs) ∷ after ∷ others) ring.1
            ∙ (ap (λ w. ring_state ring.0 ∷ w ∷ after ∷ others) fresh ∙ ap (λ w. ring_state ring.0 ∷ control_state false ∷ after ∷ w) rest.states);
        queue = ring.2;
        stand = (
          record {
            goes = λ later quiet. agree.0.follows z stage_pins later states.1.1.0 stage_fit reset quiet;
            results = agree.1;
            result = initial_result b.init;
            fresh = refl;
            queue = rest.queue;
          },
          rest.stand,
        );
      }
