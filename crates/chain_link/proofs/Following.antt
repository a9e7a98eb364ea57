-- From a reset on, a linked circuit follows the chain of the boxes of its stages.
use Rattle.std.proofs.Common.{map, ◌≡◌, ℕ, ◌+◌, Bool, true, ◌&&◌, List, [], ◌∷◌, slice_get, slice_index, refl, sym, ap, ◌∙◌, subst}
use Rattle.std.specs.List.{All}
use Rattle.std.proofs.lemmas.Bool.{and_parts}
use Rattle.std.proofs.lemmas.List.Elements.{All-head, All-tail}
use Rattle.std.proofs.lemmas.Option.{none-some}
use Rattle.rtl_core.specs.declared.design.Atom.{Atom}
use Rattle.rtl_core.specs.declared.design.Atom.TheVariants as atom
use Rattle.rtl_core.specs.declared.design.Reg.{Reg}
use Rattle.rtl_core.specs.Netlist.{Netlist}
use Rattle.rtl_core.specs.ClockStep.{State, bit_of, seen, stepped, outputs, IsState, ArePins}
use Rattle.rtl_core.specs.Interface.{reset_of}
use Rattle.rtl_core.specs.Valid.{IsBetween, IsValid}
use Rattle.rtl_core.proofs.Fits.{fit_get, step_is_state}
use Rattle.chain_box.specs.StageBoxes.{StageBox}
use Rattle.chain_box.specs.Chains.{Chain, Pins, is_some_item, first, has_room, chain_outs, ChainStep, begun, AreSound}
use Rattle.chain_box.specs.Agreement.{pins_of, ShowsOuts, FollowsChain, AgreesWithChain, AreStagesOf}
use Rattle.chain_box.specs.StageEmbedding.Placing.{Part, HoldsPlace}
use Rattle.chain_box.proofs.Assembling.{Both, HasCounts, IsHeld, joined, next_states, states_held, parts_step, states_split, states_count, next_counts}
use Rattle.chain_link.specs.declared.numbers.Queue.{Queue}
use Rattle.chain_link.specs.Units.{low_pins, both_bits, queue_front}
use Rattle.chain_link.specs.Queues.{HasLog, Ring, HoldsQueue}
use Rattle.chain_link.specs.Linking.{data_in, entry_sizes, placed}
use Rattle.chain_link.proofs.Controls.{both_shown}
use Rattle.chain_link.proofs.Placed.{AreShaped}
use Rattle.chain_link.proofs.Standing.{Cell, states_from, Stand, SeesQueue, SeesGiven, SeesLow, queue_seen, next_held, last_sees, StandBehind, chain_steps}
use Rattle.chain_link.proofs.Resetting.{bit_is, chain_resets}
use Rattle.chain_link.proofs.Whole.{h, first_queue, owned, owned_counted, all_stand, owned_stand, owned_reads, linked_valid}

module _ (depth log : ℕ) (has : HasLog depth log) (ds : List Netlist) (bits : IsBetween 1 64 (data_in ds)) (shapes : AreShaped (data_in ds) ds) where
  abbrev d : Netlist
  d = h depth log has ds bits shapes

  abbrev q : Queue
  q = first_queue depth log has ds bits shapes

  abbrev parts : List Part
  parts = owned depth log has ds bits shapes

  valid : IsValid d
  valid = linked_valid depth log has ds bits shapes

  abbrev ins : List ℕ
  ins = 1 ∷ 1 ∷ data_in ds ∷ 1 ∷ []

  nothing : State
  nothing = record { regs = []; mems = [] }

  -- a circuit without registers and memories holds nothing anywhere
  held_nothing : (t : State) (x : Part) → x.circuit.regs ≡ [] → x.circuit.mems ≡ [] → HoldsPlace x.circuit nothing t x.place
  held_nothing t x er em = record {
    regs = λ k n f. absurd (none-some n (sym (ap (λ rs. slice_get (map (λ (r : Reg). r.bits) rs) k) er) ∙ f));
    mems = λ k m f. absurd (none-some m (sym (ap (λ ms. slice_get ms k) em) ∙ f));
  }

  -- what holds in a cycle with reset low
  module _ (r : Ring) (cs : List Cell) (c : Chain) (all : List ℕ) (is : IsState d (joined (states_from r cs))) (are : ArePins d all) (low : reset_of all ≡ 0) (counts : Both HasCounts parts (states_from r cs))
      (holds : HoldsQueue log r c.entry) (stand : Stand log ds cs c.links) where
    abbrev t : State
    t = joined (states_from r cs)

    abbrev v : Atom → ℕ
    v = seen d t all

    held : Both (IsHeld t) parts (states_from r cs)
    held = states_held t [] [] 0 0 parts (states_from r cs) refl refl refl refl (owned_counted depth log has ds bits shapes) counts

    sees_low : SeesLow v
    sees_low =
        let st = (all_stand depth log has ds bits shapes).0 in
        let sees = st.sees nothing t all (held_nothing t (placed low_pins [] 0 0 0) refl refl) in
        record { reset = low; low = sees.atoms 1 (atom.Wire 0) refl; select = sees.atoms 5 (atom.Wire 1) refl; address = sees.atoms 16 (atom.Wire 2) refl; data_ = sees.atoms 64 (atom.Wire 3) refl }

    entry_shown : (v (atom.Wire 4) ≡ bit_of (is_some_item c.entry)) × (v (atom.Wire 5) ≡ bit_of (has_room depth c.entry))
        × (is_some_item c.entry ≡ true → v (atom.Wire 6) ≡ first c.entry)
    entry_shown =
        queue_seen d depth log has valid t all is are (data_in ds) r c.entry (placed (queue_front depth log (data_in ds)) [] 0 0 4) refl (all_stand depth log has ds bits shapes).1.0
        (next_held depth log t entry_sizes q ds r cs (placed (queue_front depth log (data_in ds)) [] 0 0 4).place refl refl held) holds refl

    sees_entry : SeesQueue v q c.entry
    sees_entry = record { some = entry_shown.0; first = entry_shown.2 }

    abbrev p : Pins
    p = pins_of all

    abbrev put : Bool
    put = p.in_valid && has_room depth c.entry

    put_value : v (atom.Wire 7) ≡ bit_of put
    put_value =
        let st = (all_stand depth log has ds bits shapes).1.1.0 in
        let part = placed both_bits (atom.Input 1 ∷ atom.Wire (4 + 1) ∷ []) 0 0 7 in
        let sees = st.sees nothing t all (held_nothing t part refl refl) in
        sees.atoms 1 (atom.Wire 0) refl
        ∙ (ap (λ z. seen both_bits nothing (z ∷ v (atom.Wire 5) ∷ []) (atom.Wire 0)) (bit_is (slice_index all 1) (fit_get ins all are 1 1 refl))
        ∙ (ap (λ z. seen both_bits nothing (bit_of p.in_valid ∷ z ∷ []) (atom.Wire 0)) entry_shown.1 ∙ both_shown nothing p.in_valid (has_room depth c.entry)))

    sees_given : SeesGiven v depth q c.entry put p.in_data
    sees_given = record { wire = put_value; room = λ e. (and_parts _ _ e).1; item = λ e. refl }

    takes : v (atom.Input 3) ≡ bit_of p.out_take
    takes = bit_is (slice_index all 3) (fit_get ins all are 3 1 refl)

    outs_shown : AreSound c.links → ShowsOuts (chain_outs depth c) (outputs d t all)
    outs_shown sound =
        let last =
        last_sees d depth log has valid t all is are ds cs c.links entry_sizes q r c.entry put p.in_data sees_low sees_entry sees_given holds stand sound shapes (all_stand depth log has ds bits shapes).1.1.1 held counts in
        record { in_room = entry_shown.1; out_valid = last.some; out_data = last.first }

    steps : AreSound c.links → (next : Chain) → ChainStep depth p c next → StandBehind d depth log has valid t all is are ds next.links entry_sizes q (states_from r cs) next.entry
    steps sound next step =
        let b =
        chain_steps d depth log has valid t all is are ds cs c.links next.links entry_sizes q r c.entry put p.in_data p.out_take takes sees_low sees_entry sees_given holds stand sound shapes (all_stand depth log has ds bits shapes).1.1.1 held counts step.links in
        subst (λ z. StandBehind d depth log has valid t all is are ds next.links entry_sizes q (states_from r cs) z) (sym step.entry) b

    stepped_as : stepped d t all ≡ joined (next_states v parts (states_from r cs))
    stepped_as = parts_step d parts (states_from r cs) all refl refl (owned_stand depth log has ds bits shapes) (owned_reads depth log has ds bits shapes) counts held

  abbrev IsQuietList : List (List ℕ) → Type 0
  IsQuietList rest = All (λ pins. ArePins d pins × (reset_of pins ≡ 0)) rest

  follows : (rest : List (List ℕ)) (r : Ring) (cs : List Cell) (c : Chain) → IsQuietList rest → IsState d (joined (states_from r cs)) → Both HasCounts parts (states_from r cs) → HoldsQueue log r c.entry → Stand log ds cs c.links
      → FollowsChain d depth (joined (states_from r cs)) c rest
  follows [] r cs c quiet is counts holds stand = tt
  follows (all ∷ rest) r cs c quiet is counts holds stand =
      let P : List ℕ → Type 0 = λ pins. ArePins d pins × (reset_of pins ≡ 0) in
      let now = All-head P all rest quiet in
      let t = joined (states_from r cs) in
      λ sound. (
        outs_shown r cs c all is now.0 now.1 counts holds stand sound,
        (λ next step.
            let b = steps r cs c all is now.0 now.1 counts holds stand sound next step in
            let same : stepped d t all ≡ joined (states_from b.ring b.cells) = stepped_as r cs c all is now.0 now.1 counts holds stand ∙ ap joined b.states in
            subst (λ z. FollowsChain d depth z next rest) (sym same)
            (follows rest b.ring b.cells next (All-tail P all rest quiet) (subst (λ z. IsState d z) same (step_is_state d t all valid is now.0))
            (subst (λ z. Both HasCounts parts z) b.states (next_counts (seen d t all) parts (states_from r cs) counts)) b.queue b.stand)),
      )

  -- the beginning
  pub agrees : (boxes : List StageBox) → AreStagesOf ds boxes → AgreesWithChain d depth boxes
  agrees boxes stages power_up start rest stream =
      let x = states_split parts power_up.regs power_up.mems stream.contents.regs stream.contents.mems in
      let ss = x.0 in
      let counts = states_count parts ss x.3 in
      let make : List ℕ → List (List ℕ) → State = λ regs mems. record { regs = regs; mems = mems } in
      let same : joined ss ≡ power_up = ap (λ z. make z (joined ss).mems) x.1 ∙ ap (λ z. make power_up.regs z) x.2 in
      let is : IsState d (joined ss) = subst (λ z. IsState d z) (sym same) stream.contents in
      let held = states_held (joined ss) [] [] 0 0 parts ss refl refl refl refl (owned_counted depth log has ds bits shapes) counts in
      let b = chain_resets d log valid (joined ss) start is stream.begins stream.reset ds boxes ss entry_sizes q stages (owned_stand depth log has ds bits shapes) x.3 in
      let after : stepped d (joined ss) start ≡ joined (states_from b.ring b.cells) =
      parts_step d parts ss start refl refl (owned_stand depth log has ds bits shapes) (owned_reads depth log has ds bits shapes) counts held ∙ ap joined b.states in
      subst (λ z. FollowsChain d depth (stepped d z start) (begun boxes) rest) same
      (subst (λ z. FollowsChain d depth z (begun boxes) rest) (sym after)
      (follows rest b.ring b.cells (begun boxes) stream.goes_on (subst (λ z. IsState d z) after (step_is_state d (joined ss) start valid is stream.begins))
      (subst (λ z. Both HasCounts parts z) b.states (next_counts (seen d (joined ss) start) parts ss counts)) b.queue b.stand))
