-- Where each stage stands with its box and each ring holds its queue, the wires of a linked circuit say what the chain does, and all of it stands so behind an edge.
use Rattle.std.proofs.Common.{map, ◌≡◌, ℕ, suc, zero, ◌+◌, Bool, true, false, not, ◌&&◌, ◌||◌, List, [], ◌∷◌, ◌++◌, length, slice_get, slice_index, slice_index_or, Some, None, Option, refl, sym, ap, ◌∙◌, subst}
use Rattle.std.specs.Prelude.{unwrap_or}
use Rattle.std.specs.List.{All, AllByRecursion}
use Rattle.std.proofs.lemmas.Bool.{and_parts}
use Rattle.std.proofs.lemmas.List.{length-map}
use Rattle.std.proofs.lemmas.List.Elements.{All-nil, All-cons}
use Rattle.std.proofs.lemmas.Option.{none-some}
use Rattle.hls_base.specs.FileScope.{FileScope}
use Rattle.rtl_core.specs.declared.design.Atom.{Atom}
use Rattle.rtl_core.specs.declared.design.Atom.TheVariants as atom
use Rattle.rtl_core.specs.declared.design.Reg.{Reg}
use Rattle.rtl_core.specs.Netlist.{Netlist, Memory}
use Rattle.rtl_core.specs.ClockStep.{State, widths, bit_of, seen, stepped, outputs, IsState, ArePins}
use Rattle.rtl_core.specs.Interface.{reset_of}
use Rattle.rtl_core.specs.Box.{Answer, Ended, Undefined, Endless, Phase, Init, Idle, Busy, Done, Forever, Broken, Box, BoxStep, StepIn, Waits, initial, entered, waited}
use Rattle.rtl_core.specs.Agreement.{ShowsPhase, ShowsValue, ShowsResult, Shows, IsBroken, Follows}
use Rattle.rtl_core.specs.Valid.{HasBits, IsValid}
use Rattle.chain_box.specs.StageBoxes.{StageBox, StageStep, answers_of, interface_of, stage_pins, is_ready, is_done, given_result, HasResult, HasResults}
use Rattle.chain_box.specs.Chains.{Link, is_some_item, first, has_room, gives, starts, taken, popped, pushed, fresh_after, LinkStep, LinksStep, last, AreSound}
use Rattle.chain_box.specs.StageEmbedding.Placing.{Place, Part, with_exits, HoldsPlace}
use Rattle.chain_box.proofs.Assembling.{Stands, Both, HasCounts, IsHeld, next_states}
use Rattle.chain_box.proofs.Exits.{exit_fits, exit_shows}
use Rattle.chain_box.proofs.Pins.{part_pins_fit}
use Rattle.chain_link.specs.declared.numbers.Sizes.{Sizes}
use Rattle.chain_link.specs.declared.numbers.Queue.{Queue}
use Rattle.chain_link.specs.Units.{both_bits, queue_front, queue_back, control, memory_of, reading_port, writing_port}
use Rattle.chain_link.specs.Queues.{HasLog, Ring, ring_state, HoldsQueue, back_pins}
use Rattle.chain_link.specs.Linking.{result_bits, some_of, first_of, exit_of, behind_asked, start_of, stage_inputs, asked_part, front_part, control_part, back_part, started_part, take_part, last_part, sizes_behind, queue_behind, stage_parts, chain_parts, owned_parts, last_queue}
use Rattle.chain_link.proofs.Queues.{queue_works}
use Rattle.chain_link.proofs.Controls.{control_state, control_pins, gives_shown, starts_shown, control_steps, both_shown}
use Rattle.chain_link.proofs.Placed.{HasOutput, IsShaped, AreShaped}

-- ---- what a box shows

shows_ready : (p : Phase) (ready done : ℕ) → ¬ IsBroken p → ShowsPhase p ready done → ready ≡ bit_of (is_ready p)
shows_ready (Init cycles) ready done sound h = h.0
shows_ready Idle ready done sound h = h.0
shows_ready (Busy cycles result arrays file_scope) ready done sound h = h.0
shows_ready (Done result) ready done sound h = h.0
shows_ready Forever ready done sound h = h.0
shows_ready Broken ready done sound h = absurd (sound tt)

shows_done : (p : Phase) (ready done : ℕ) → ¬ IsBroken p → ShowsPhase p ready done → done ≡ bit_of (is_done p)
shows_done (Init cycles) ready done sound h = h.1
shows_done Idle ready done sound h = h.1
shows_done (Busy cycles result arrays file_scope) ready done sound h = h.1
shows_done (Done result) ready done sound h = h.1
shows_done Forever ready done sound h = h.1
shows_done Broken ready done sound h = absurd (sound tt)

-- a run that has ended has a result, and so has one that will end
abbrev pub IsWithResult : Phase → Type 0
IsWithResult (Init cycles) = Unit {0}
IsWithResult Idle = Unit {0}
IsWithResult (Busy cycles result arrays file_scope) = (x : ℕ) × (result ≡ Some x)
IsWithResult (Done result) = (x : ℕ) × (result ≡ Some x)
IsWithResult Forever = Unit {0}
IsWithResult Broken = Unit {0}

shown_value : (result : Option ℕ) (x ret : ℕ) → result ≡ Some x → ShowsValue result ret → ret ≡ unwrap_or result 0
shown_value None x ret e h = absurd (none-some x e)
shown_value (Some y) x ret e h = h

shows_ret : (p : Phase) (ret : ℕ) → IsWithResult p → ShowsResult p ret → is_done p ≡ true → ret ≡ given_result p
shows_ret (Init cycles) ret r h e = absurd (cc)
shows_ret Idle ret r h e = absurd (cc)
shows_ret (Busy cycles result arrays file_scope) ret r h e = absurd (cc)
shows_ret (Done result) ret r h e = shown_value result r.0 ret r.1 h
shows_ret Forever ret r h e = absurd (cc)
shows_ret Broken ret r h e = absurd (cc)

pub initial_result : (k : ℕ) → IsWithResult (initial k)
initial_result zero = tt
initial_result (suc k) = tt

entered_result : (b : Box) (a : Answer) → HasResult a → IsWithResult (entered b a).phase
entered_result b (Ended cycles result arrays file_scope) h = h
entered_result b Undefined h = tt
entered_result b Endless h = tt

waited_result : (b : Box) (k : ℕ) (r : Option ℕ) (arrays : List (List ℕ)) (file_scope : FileScope) → (x : ℕ) × (r ≡ Some x) → IsWithResult (waited b k r arrays file_scope).phase
waited_result b zero r arrays file_scope h = h
waited_result b (suc zero) r arrays file_scope h = h
waited_result b (suc (suc k)) r arrays file_scope h = h

waits_with_result : (s : StageBox) (b c : Box) (start : Bool) (x : ℕ) → HasResults s → IsWithResult b.phase → Waits (interface_of s) (answers_of s.answers) b (stage_pins start x) c → IsWithResult c.phase
waits_with_result s b c true x has r h =
    let t = h.taken refl in
    subst (λ (y : Box). IsWithResult y.phase) (sym t.2) (entered_result b t.0 (has b.file_scope (x ∷ []) b.arrays t.0 t.1))
waits_with_result s b c false x has r h = subst (λ (y : Box). IsWithResult y.phase) (sym (h.kept (λ e. (cc)))) r

goes_with_result : (p : Phase) (s : StageBox) (arrays : List (List ℕ)) (file_scope : FileScope) (shown : Option ℕ) (c : Box) (start : Bool) (x : ℕ) → HasResults s → IsWithResult p
    → StageStep s (record { phase = p; arrays = arrays; file_scope = file_scope; shown = shown }) start x c → IsWithResult c.phase
goes_with_result (Init cycles) s arrays file_scope shown c start x has r h = subst (λ (y : Box). IsWithResult y.phase) (sym h) (initial_result _)
goes_with_result Idle s arrays file_scope shown c start x has r h = waits_with_result s _ c start x has r h
goes_with_result (Busy cycles result ends scope) s arrays file_scope shown c start x has r h = subst (λ (y : Box). IsWithResult y.phase) (sym h) (waited_result (record { phase = Busy cycles result ends scope; arrays = arrays; file_scope = file_scope; shown = shown }) cycles result ends scope r)
goes_with_result (Done result) s arrays file_scope shown c start x has r h = waits_with_result s _ c start x has r h
goes_with_result Forever s arrays file_scope shown c start x has r h = subst (λ (y : Box). IsWithResult y.phase) (sym h) tt
goes_with_result Broken s arrays file_scope shown c start x has r h = subst (λ (y : Box). IsWithResult y.phase) (sym h) tt

-- the argument counts only in a start
waits_otherwise : (s : StageBox) (b c : Box) (x y : ℕ) → Waits (interface_of s) (answers_of s.answers) b (stage_pins false x) c → Waits (interface_of s) (answers_of s.answers) b (stage_pins false y) c
waits_otherwise s b c x y h = record { taken = λ e. absurd (cc); kept = λ e. h.kept (λ z. (cc)) }

goes_otherwise : (p : Phase) (s : StageBox) (b c : Box) (x y : ℕ) → StepIn p (interface_of s) (answers_of s.answers) b (stage_pins false x) c → StepIn p (interface_of s) (answers_of s.answers) b (stage_pins false y) c
goes_otherwise (Init cycles) s b c x y h = h
goes_otherwise Idle s b c x y h = waits_otherwise s b c x y h
goes_otherwise (Busy cycles result arrays file_scope) s b c x y h = h
goes_otherwise (Done result) s b c x y h = waits_otherwise s b c x y h
goes_otherwise Forever s b c x y h = h
goes_otherwise Broken s b c x y h = h

other_argument : (s : StageBox) (b c : Box) (start : Bool) (x y : ℕ) → (start ≡ true → y ≡ x) → StageStep s b start x c → StageStep s b start y c
other_argument s b c true x y e h = subst (λ z. StageStep s b true z c) (sym (e refl)) h
other_argument s b c false x y e h = goes_otherwise b.phase s b c x y h

-- ---- what stands where

-- what the registers of a stage hold, whether its result is fresh, and the ring behind it
pub record Cell : Type 0 where
  pub held : State
  pub fresh : Bool
  pub ring : Ring

-- the contents of all parts that bring registers or memories, in their order
abbrev pub states_from : Ring → List Cell → List State
states_from r [] = ring_state r ∷ []
states_from r (c ∷ cs) = ring_state r ∷ control_state c.fresh ∷ c.held ∷ states_from c.ring cs

abbrev pub IsQuiet : Netlist → List (List ℕ) → Type 0
IsQuiet d rest = All (λ pins. ArePins d pins × (reset_of pins ≡ 0)) rest

pub record CellStands (log : ℕ) (d : Netlist) (c : Cell) (l : Link) : Type 0 where
  pub goes : (rest : List (List ℕ)) → IsQuiet d rest → Follows d (interface_of l.stage) (answers_of l.stage.answers) c.held l.box rest
  pub results : HasResults l.stage
  pub result : IsWithResult l.box.phase
  pub fresh : c.fresh ≡ l.fresh
  pub queue : HoldsQueue log c.ring l.queue

abbrev pub Stand : ℕ → List Netlist → List Cell → List Link → Type 0
Stand log [] [] [] = Unit {0}
Stand log [] [] (l ∷ ls) = ⊥
Stand log [] (c ∷ cs) ls = ⊥
Stand log (d ∷ ds) [] ls = ⊥
Stand log (d ∷ ds) (c ∷ cs) [] = ⊥
Stand log (d ∷ ds) (c ∷ cs) (l ∷ ls) = CellStands log d c l × Stand log ds cs ls

-- ---- what the wires say

-- the queue before a stage
pub record SeesQueue (v : Atom → ℕ) (q : Queue) (items : List ℕ) : Type 0 where
  pub some : v (some_of q) ≡ bit_of (is_some_item items)
  pub first : is_some_item items ≡ true → v (first_of q) ≡ first items

-- what it gets
pub record SeesGiven (v : Atom → ℕ) (depth : ℕ) (q : Queue) (items : List ℕ) (give : Bool) (x : ℕ) : Type 0 where
  pub wire : v (atom.Wire q.give) ≡ bit_of give
  pub room : give ≡ true → has_room depth items ≡ true
  pub item : give ≡ true → v q.item ≡ x

-- the pins that are low
pub record SeesLow (v : Atom → ℕ) : Type 0 where
  pub reset : v (atom.Input 0) ≡ 0
  pub low : v (atom.Wire 0) ≡ 0
  pub select : v (atom.Wire 1) ≡ 0
  pub address : v (atom.Wire 2) ≡ 0
  pub data_ : v (atom.Wire 3) ≡ 0

-- ---- the ring behind a stage is the first of those that follow

one_memory_only : {P : Type 0} (m x : Memory) (k : ℕ) → slice_get (m ∷ []) (suc k) ≡ Some x → P
one_memory_only m x k f = absurd (none-some x f)

pub front_held : (depth log bits : ℕ) (r : Ring) (t : State) (p x : Place) → p.regs ≡ x.regs → p.mems ≡ x.mems → HoldsPlace (queue_back log bits) (ring_state r) t x → HoldsPlace (queue_front depth log bits) (ring_state r) t p
front_held depth log bits r t p x er em h = record {
  regs = λ k n f. ap (λ z. slice_index t.regs (z + k)) er ∙ h.regs k n f;
  mems = memory;
} where
  memory : (k : ℕ) (m : Memory) → slice_get (queue_front depth log bits).mems k ≡ Some m → slice_index_or t.mems (p.mems + k) [] ≡ slice_index_or (ring_state r).mems k []
  memory zero m f = ap (λ z. slice_index_or t.mems (z + 0) []) em ∙ h.mems 0 (memory_of log bits (writing_port ∷ reading_port bits ∷ [])) refl
  memory (suc k) m f = one_memory_only (memory_of log bits (reading_port bits ∷ [])) m k f

pub next_held : (depth log : ℕ) (t : State) (s : Sizes) (q : Queue) (ds : List Netlist) (r : Ring) (cs : List Cell) (p : Place) → p.regs ≡ s.regs → p.mems ≡ s.mems
    → Both (IsHeld t) (owned_parts log s q ds) (states_from r cs) → HoldsPlace (queue_front depth log q.bits) (ring_state r) t p
next_held depth log t s q [] r [] p er em h = front_held depth log q.bits r t p (last_part log s q).place er em h.0
next_held depth log t s q [] r (c ∷ cs) p er em h = absurd h.1
next_held depth log t s q (d ∷ ds) r [] p er em h = absurd h.1
next_held depth log t s q (d ∷ ds) r (c ∷ cs) p er em h = front_held depth log q.bits r t p (back_part log s q d).place er em h.0

-- an item counts only where it is given
given_alike : (b : Bool) (y z : ℕ) (rest : List ℕ) → (b ≡ true → y ≡ z) → pushed b y rest ≡ pushed b z rest
given_alike true y z rest f = ap (λ w. rest ++ w ∷ []) (f refl)
given_alike false y z rest f = refl

five : (a b c d e a2 b2 c2 d2 e2 : ℕ) → a ≡ a2 → b ≡ b2 → c ≡ c2 → d ≡ d2 → e ≡ e2 → a ∷ b ∷ c ∷ d ∷ e ∷ [] ≡ a2 ∷ b2 ∷ c2 ∷ d2 ∷ e2 ∷ []
five a b c d e a2 b2 c2 d2 e2 ea eb ec ed ee =
    ap (λ z. z ∷ b ∷ c ∷ d ∷ e ∷ []) ea
    ∙ (ap (λ z. a2 ∷ z ∷ c ∷ d ∷ e ∷ []) eb ∙ (ap (λ z. a2 ∷ b2 ∷ z ∷ d ∷ e ∷ []) ec ∙ (ap (λ z. a2 ∷ b2 ∷ c2 ∷ z ∷ e ∷ []) ed ∙ ap (λ z. a2 ∷ b2 ∷ c2 ∷ d2 ∷ z ∷ []) ee)))

module _ (h : Netlist) (depth log : ℕ) (has : HasLog depth log) (valid : IsValid h) (t : State) (all : List ℕ) (is : IsState h t) (are : ArePins h all) where
  abbrev v : Atom → ℕ
  v = seen h t all

  -- what a queue shows, from what its ring holds
  pub queue_seen : (bits : ℕ) (r : Ring) (items : List ℕ) (q : Part) → q.circuit ≡ queue_front depth log bits → Stands h q → HoldsPlace (queue_front depth log bits) (ring_state r) t q.place → HoldsQueue log r items
      → q.place.inputs ≡ []
      → (v (atom.Wire (q.place.wires + 0)) ≡ bit_of (is_some_item items)) × (v (atom.Wire (q.place.wires + 1)) ≡ bit_of (has_room depth items))
      × (is_some_item items ≡ true → v (atom.Wire (q.place.wires + 2)) ≡ first items)
  queue_seen bits r items q e st held holds none =
      let f = queue_front depth log bits in
      let st2 : Stands h (record { circuit = f; place = q.place }) = subst (λ (d : Netlist). Stands h (record { circuit = d; place = q.place })) e st in
      let sees = st2.sees (ring_state r) t all held in
      let works = queue_works depth log bits r items has holds in
      let at : (n : ℕ) (a : Atom) → HasBits (widths f) n a → seen f (ring_state r) (map v q.place.inputs) a ≡ seen f (ring_state r) [] a = λ n a x. ap (λ z. seen f (ring_state r) (map v z) a) none in (
        sees.atoms 1 (atom.Wire 0) refl ∙ (at 1 (atom.Wire 0) refl ∙ works.some),
        sees.atoms 1 (atom.Wire 1) refl ∙ (at 1 (atom.Wire 1) refl ∙ works.room),
        (λ x. sees.atoms bits (atom.Wire 2) refl ∙ (at bits (atom.Wire 2) refl ∙ works.first x)),
      )

  module _ (s : Sizes) (q : Queue) (d : Netlist) (c : Cell) (l : Link) (r : Ring) (items : List ℕ) (give : Bool) (x : ℕ) (low : SeesLow v) (sees : SeesQueue v q items) (given : SeesGiven v depth q items give x)
      (holds : HoldsQueue log r items) (stands : CellStands log d c l) (sound : ¬ IsBroken l.box.phase) (shape : IsShaped q.bits d) (st : AllByRecursion (Stands h) (stage_parts depth log s q d))
      (back_held : HoldsPlace (queue_back log q.bits) (ring_state r) t (back_part log s q d).place) (control_held : HoldsPlace control (control_state c.fresh) t (control_part s q d).place)
      (stage_held : HoldsPlace d c.held t (started_part s q d).place) (behind_held : HoldsPlace (queue_front depth log (result_bits d)) (ring_state c.ring) t (front_part depth log s d).place)
      (count : length c.held.regs ≡ length d.regs) where
    abbrev asked_pins : List ℕ
    asked_pins = map v (stage_inputs (atom.Wire 0) (first_of q))

    asked_are : ArePins d asked_pins
    asked_are = part_pins_fit h (asked_part s q d) t all st.0 valid is are

    asked_shows : Shows l.box (outputs d c.held asked_pins)
    asked_shows = (stands.goes (asked_pins ∷ []) (All-cons (λ pins. ArePins d pins × (reset_of pins ≡ 0)) asked_pins [] (asked_are, low.reset) (All-nil (λ pins. ArePins d pins × (reset_of pins ≡ 0)))) sound).0

    exit_value : (k bits : ℕ) → HasOutput d k bits → v (exit_of s d k) ≡ slice_index (outputs d c.held asked_pins) k
    exit_value k bits out =
        let held : HoldsPlace (with_exits d) c.held t (asked_part s q d).place = record { regs = stage_held.regs; mems = stage_held.mems } in
        (st.0.sees c.held t all held).atoms bits (atom.Wire (length d.wires + k)) (subst (λ z. HasBits (widths (with_exits d)) z (atom.Wire (length d.wires + k))) out.2 (exit_fits d k out.0 out.1))
        ∙ exit_shows d c.held asked_pins shape.wires shape.outs (length-map d.regs (λ (y : Reg). y.bits) ∙ sym count) k out.0 out.1

    ready_value : v (exit_of s d 0) ≡ bit_of (is_ready l.box.phase)
    ready_value = exit_value 0 1 shape.ready ∙ shows_ready l.box.phase _ _ sound asked_shows.phase

    done_value : v (exit_of s d 1) ≡ bit_of (is_done l.box.phase)
    done_value = exit_value 1 1 shape.done ∙ shows_done l.box.phase _ _ sound asked_shows.phase

    ret_value : is_done l.box.phase ≡ true → v (exit_of s d 3) ≡ given_result l.box.phase
    ret_value e = exit_value 3 (result_bits d) shape.ret ∙ shows_ret l.box.phase _ stands.result asked_shows.result e

    abbrev behind : (v (some_of (queue_behind s d)) ≡ bit_of (is_some_item l.queue)) × (v (atom.Wire (behind_asked s d + 1)) ≡ bit_of (has_room depth l.queue))
        × (is_some_item l.queue ≡ true → v (first_of (queue_behind s d)) ≡ first l.queue)
    behind = queue_seen (result_bits d) c.ring l.queue (front_part depth log s d) refl st.1.0 behind_held stands.queue refl

    abbrev ready : Bool
    ready = is_ready l.box.phase

    abbrev done : Bool
    done = is_done l.box.phase

    abbrev room : Bool
    room = has_room depth l.queue

    abbrev some : Bool
    some = is_some_item items

    control_values : map v (control_part s q d).place.inputs ≡ control_pins ready done room some
    control_values = five _ _ _ _ _ 0 (bit_of ready) (bit_of done) (bit_of room) (bit_of some) low.reset ready_value done_value behind.1 sees.some

    control_sees : (k : ℕ) → HasBits (widths control) 1 (atom.Wire k) → v (atom.Wire (behind_asked s d + 3 + k)) ≡ seen control (control_state c.fresh) (control_pins ready done room some) (atom.Wire k)
    control_sees k f =
        (st.1.1.0.sees (control_state c.fresh) t all control_held).atoms 1 (atom.Wire k) f ∙ ap (λ z. seen control (control_state c.fresh) z (atom.Wire k)) control_values

    fresh_gives : (done && (c.fresh && room)) ≡ gives depth l
    fresh_gives = ap (λ z. done && (z && room)) stands.fresh

    fresh_starts : (ready && ((not c.fresh || (done && (c.fresh && room))) && some)) ≡ starts depth items l
    fresh_starts = ap (λ z. ready && ((not z || (done && (z && room))) && some)) stands.fresh

    gives_value : v (atom.Wire (queue_behind s d).give) ≡ bit_of (gives depth l)
    gives_value = control_sees 1 refl ∙ (gives_shown c.fresh ready done room some ∙ ap bit_of fresh_gives)

    starts_value : v (start_of s d) ≡ bit_of (starts depth items l)
    starts_value = control_sees 5 refl ∙ (starts_shown c.fresh ready done room some ∙ ap bit_of fresh_starts)

    starts_some : starts depth items l ≡ true → is_some_item items ≡ true
    starts_some e = (and_parts _ _ (and_parts _ _ e).1).1

    -- what the queue behind the stage shows and gets
    pub behind_sees : SeesQueue v (queue_behind s d) l.queue
    behind_sees = record { some = behind.0; first = behind.2 }

    pub behind_given : SeesGiven v depth (queue_behind s d) l.queue (gives depth l) (given_result l.box.phase)
    behind_given = record {
      wire = gives_value;
      room = λ e. (and_parts _ _ (and_parts _ _ e).1).1;
      item = λ e. ret_value (and_parts _ _ e).0;
    }

    -- what stands there behind the edge
    pub control_behind : stepped control (control_state c.fresh) (map v (control_part s q d).place.inputs) ≡ control_state (fresh_after (starts depth items l) (gives depth l) l.fresh)
    control_behind =
        ap (stepped control (control_state c.fresh)) control_values
        ∙ (control_steps c.fresh ready done room some (starts depth items l) (gives depth l) (ap bit_of fresh_gives) (ap bit_of fresh_starts)
        ∙ ap (λ z. control_state (fresh_after (starts depth items l) (gives depth l) z)) stands.fresh)

    back_values : map v (back_part log s q d).place.inputs ≡ back_pins 0 (bit_of (starts depth items l)) (bit_of give) (v q.item)
    back_values =
        ap (λ z. z ∷ v (start_of s d) ∷ v (atom.Wire q.give) ∷ v q.item ∷ []) low.reset
        ∙ (ap (λ z. 0 ∷ z ∷ v (atom.Wire q.give) ∷ v q.item ∷ []) starts_value ∙ ap (λ z. 0 ∷ bit_of (starts depth items l) ∷ z ∷ v q.item ∷ []) given.wire)

    pub ring_behind : (next : Ring) × (stepped (queue_back log q.bits) (ring_state r) (map v (back_part log s q d).place.inputs) ≡ ring_state next) × HoldsQueue log next (pushed give x (popped (starts depth items l) items))
    ring_behind =
        let e = (queue_works depth log q.bits r items has holds).edge (starts depth items l) give (v q.item) starts_some given.room in
        (e.0, ap (stepped (queue_back log q.bits) (ring_state r)) back_values ∙ e.1, subst (λ z. HoldsQueue log e.0 z) (given_alike give (v q.item) x (popped (starts depth items l) items) given.item) e.2)

    abbrev real_pins : List ℕ
    real_pins = map v (stage_inputs (start_of s d) (first_of q))

    real_values : real_pins ≡ stage_pins (starts depth items l) (v (first_of q))
    real_values =
        ap (λ z. z ∷ v (start_of s d) ∷ v (atom.Wire 0) ∷ v (atom.Wire 0) ∷ v (atom.Wire 1) ∷ v (atom.Wire 2) ∷ v (atom.Wire 3) ∷ v (first_of q) ∷ []) low.reset
        ∙ (ap (λ z. 0 ∷ z ∷ v (atom.Wire 0) ∷ v (atom.Wire 0) ∷ v (atom.Wire 1) ∷ v (atom.Wire 2) ∷ v (atom.Wire 3) ∷ v (first_of q) ∷ []) starts_value
        ∙ (ap (λ z. 0 ∷ bit_of (starts depth items l) ∷ z ∷ z ∷ v (atom.Wire 1) ∷ v (atom.Wire 2) ∷ v (atom.Wire 3) ∷ v (first_of q) ∷ []) low.low
        ∙ (ap (λ z. 0 ∷ bit_of (starts depth items l) ∷ 0 ∷ 0 ∷ z ∷ v (atom.Wire 2) ∷ v (atom.Wire 3) ∷ v (first_of q) ∷ []) low.select
        ∙ (ap (λ z. 0 ∷ bit_of (starts depth items l) ∷ 0 ∷ 0 ∷ 0 ∷ z ∷ v (atom.Wire 3) ∷ v (first_of q) ∷ []) low.address
        ∙ ap (λ z. 0 ∷ bit_of (starts depth items l) ∷ 0 ∷ 0 ∷ 0 ∷ 0 ∷ z ∷ v (first_of q) ∷ []) low.data_))))

    real_are : ArePins d real_pins
    real_are = part_pins_fit h (started_part s q d) t all st.1.1.1.1.0 valid is are

    abbrev made_cell : Ring → Cell
    made_cell next = record { held = stepped d c.held real_pins; fresh = fresh_after (starts depth items l) (gives depth l) l.fresh; ring = next }

    pub cell_behind : (take : Bool) (m : Link) (next : Ring) → LinkStep depth items take l m → HoldsQueue log next (pushed (gives depth l) (given_result l.box.phase) (popped take l.queue)) → CellStands log d (made_cell next) m
    cell_behind take m next step queue =
        let P : List ℕ → Type 0 = λ pins. ArePins d pins × (reset_of pins ≡ 0) in
        let box : StageStep l.stage l.box (starts depth items l) (v (first_of q)) m.box =
        other_argument l.stage l.box m.box (starts depth items l) (first items) (v (first_of q)) (λ e. sees.first (starts_some e)) step.box in
        record {
          goes = λ rest quiet.
              subst (λ (b : StageBox). Follows d (interface_of b) (answers_of b.answers) (stepped d c.held real_pins) m.box rest) (sym step.stage)
              ((stands.goes (real_pins ∷ rest) (All-cons P real_pins rest (real_are, low.reset) quiet) sound).1 m.box
              (subst (λ pins. BoxStep (interface_of l.stage) (answers_of l.stage.answers) l.box pins m.box) (sym real_values) box));
          results = subst HasResults (sym step.stage) stands.results;
          result = goes_with_result l.box.phase l.stage l.box.arrays l.box.file_scope l.box.shown m.box (starts depth items l) (first items) stands.results stands.result step.box;
          fresh = sym step.fresh;
          queue = subst (λ z. HoldsQueue log next z) (sym step.queue) queue;
        }

  -- ---- all of them

  -- the queue behind the last stage
  pub last_sees : (ds : List Netlist) (cs : List Cell) (ls : List Link) (s : Sizes) (q : Queue) (r : Ring) (items : List ℕ) (give : Bool) (x : ℕ) → SeesLow v → SeesQueue v q items → SeesGiven v depth q items give x
      → HoldsQueue log r items → Stand log ds cs ls → AreSound ls → AreShaped q.bits ds → AllByRecursion (Stands h) (chain_parts depth log s q ds) → Both (IsHeld t) (owned_parts log s q ds) (states_from r cs)
      → Both HasCounts (owned_parts log s q ds) (states_from r cs) → SeesQueue v (last_queue s q ds) (last items ls)
  last_sees [] [] [] s q r items give x low sees given holds stand sound shapes st held counts = sees
  last_sees [] [] (l ∷ ls) s q r items give x low sees given holds stand sound shapes st held counts = absurd stand
  last_sees [] (c ∷ cs) ls s q r items give x low sees given holds stand sound shapes st held counts = absurd stand
  last_sees (d ∷ ds) [] ls s q r items give x low sees given holds stand sound shapes st held counts = absurd stand
  last_sees (d ∷ ds) (c ∷ cs) [] s q r items give x low sees given holds stand sound shapes st held counts = absurd stand
  last_sees (d ∷ ds) (c ∷ cs) (l ∷ ls) s q r items give x low sees given holds stand sound shapes st held counts =
      let mine : AllByRecursion (Stands h) (stage_parts depth log s q d) = (st.0, (st.1.0, (st.1.1.0, (st.1.1.1.0, (st.1.1.1.1.0, tt))))) in
      let front = next_held depth log t (sizes_behind s d) (queue_behind s d) ds c.ring cs (front_part depth log s d).place refl refl held.1.1.1 in
      last_sees ds cs ls (sizes_behind s d) (queue_behind s d) c.ring l.queue (gives depth l) (given_result l.box.phase) low
      (behind_sees s q d c l r items give x low sees given holds stand.0 sound.0 shapes.0 mine held.0 held.1.0 held.1.1.0 front counts.1.1.0.0)
      (behind_given s q d c l r items give x low sees given holds stand.0 sound.0 shapes.0 mine held.0 held.1.0 held.1.1.0 front counts.1.1.0.0)
      stand.0.queue stand.1 sound.1 shapes.1 st.1.1.1.1.1 held.1.1.1 counts.1.1.1

  pub record StandBehind (ds : List Netlist) (ms : List Link) (s : Sizes) (q : Queue) (old : List State) (items : List ℕ) : Type 0 where
    pub ring : Ring
    pub cells : List Cell
    pub states : next_states v (owned_parts log s q ds) old ≡ states_from ring cells
    pub queue : HoldsQueue log ring items
    pub stand : Stand log ds cells ms

  -- the user takes an item
  module _ (s : Sizes) (q : Queue) (r : Ring) (items : List ℕ) (give : Bool) (x : ℕ) (take : Bool) (low : SeesLow v) (sees : SeesQueue v q items) (given : SeesGiven v depth q items give x)
      (holds : HoldsQueue log r items) (takes : v (atom.Input 3) ≡ bit_of take) (st : Stands h (take_part s q)) where
    abbrev popping : Bool
    popping = take && is_some_item items

    pop_value : v (atom.Wire (s.wires + 0)) ≡ bit_of popping
    pop_value =
        let nothing : State = record { regs = []; mems = [] } in
        let held : HoldsPlace both_bits nothing t (take_part s q).place = record { regs = λ k n f. absurd (none-some n f); mems = λ k m f. absurd (none-some m f) } in
        (st.sees nothing t all held).atoms 1 (atom.Wire 0) refl
        ∙ (ap (λ z. seen both_bits nothing (z ∷ v (some_of q) ∷ []) (atom.Wire 0)) takes
        ∙ (ap (λ z. seen both_bits nothing (bit_of take ∷ z ∷ []) (atom.Wire 0)) sees.some ∙ both_shown nothing take (is_some_item items)))

    last_values : map v (last_part log s q).place.inputs ≡ back_pins 0 (bit_of popping) (bit_of give) (v q.item)
    last_values =
        ap (λ z. z ∷ v (atom.Wire (s.wires + 0)) ∷ v (atom.Wire q.give) ∷ v q.item ∷ []) low.reset
        ∙ (ap (λ z. 0 ∷ z ∷ v (atom.Wire q.give) ∷ v q.item ∷ []) pop_value ∙ ap (λ z. 0 ∷ bit_of popping ∷ z ∷ v q.item ∷ []) given.wire)

    last_behind : (next : Ring) × (stepped (queue_back log q.bits) (ring_state r) (map v (last_part log s q).place.inputs) ≡ ring_state next) × HoldsQueue log next (pushed give x (popped popping items))
    last_behind =
        let e = (queue_works depth log q.bits r items has holds).edge popping give (v q.item) (λ y. (and_parts _ _ y).1) given.room in
        (e.0, ap (stepped (queue_back log q.bits) (ring_state r)) last_values ∙ e.1, subst (λ z. HoldsQueue log e.0 z) (given_alike give (v q.item) x (popped popping items) given.item) e.2)

  -- all of it stands behind the edge
  pub chain_steps : (ds : List Netlist) (cs : List Cell) (ls ms : List Link) (s : Sizes) (q : Queue) (r : Ring) (items : List ℕ) (give : Bool) (x : ℕ) (take : Bool) → v (atom.Input 3) ≡ bit_of take → SeesLow v → SeesQueue v q items
      → SeesGiven v depth q items give x → HoldsQueue log r items → Stand log ds cs ls → AreSound ls → AreShaped q.bits ds → AllByRecursion (Stands h) (chain_parts depth log s q ds) → Both (IsHeld t) (owned_parts log s q ds) (states_from r cs)
      → Both HasCounts (owned_parts log s q ds) (states_from r cs) → LinksStep depth take items ls ms → StandBehind ds ms s q (states_from r cs) (pushed give x (popped (taken depth take items ls) items))
  chain_steps [] [] [] [] s q r items give x take takes low sees given holds stand sound shapes st held counts step =
      let b = last_behind s q r items give x take low sees given holds takes st.0 in
      record { ring = b.0; cells = []; states = ap (λ z. z ∷ []) b.1; queue = b.2; stand = tt }
  chain_steps [] [] [] (m ∷ ms) s q r items give x take takes low sees given holds stand sound shapes st held counts step = absurd step
  chain_steps [] [] (l ∷ ls) ms s q r items give x take takes low sees given holds stand sound shapes st held counts step = absurd stand
  chain_steps [] (c ∷ cs) ls ms s q r items give x take takes low sees given holds stand sound shapes st held counts step = absurd stand
  chain_steps (d ∷ ds) [] ls ms s q r items give x take takes low sees given holds stand sound shapes st held counts step = absurd stand
  chain_steps (d ∷ ds) (c ∷ cs) [] ms s q r items give x take takes low sees given holds stand sound shapes st held counts step = absurd stand
  chain_steps (d ∷ ds) (c ∷ cs) (l ∷ ls) [] s q r items give x take takes low sees given holds stand sound shapes st held counts step = absurd step
  chain_steps (d ∷ ds) (c ∷ cs) (l ∷ ls) (m ∷ ms) s q r items give x take takes low sees given holds stand sound shapes st held counts step =
      let mine : AllByRecursion (Stands h) (stage_parts depth log s q d) = (st.0, (st.1.0, (st.1.1.0, (st.1.1.1.0, (st.1.1.1.1.0, tt))))) in
      let front = next_held depth log t (sizes_behind s d) (queue_behind s d) ds c.ring cs (front_part depth log s d).place refl refl held.1.1.1 in
      let count = counts.1.1.0.0 in
      let rest =
      chain_steps ds cs ls ms (sizes_behind s d) (queue_behind s d) c.ring l.queue (gives depth l) (given_result l.box.phase) take takes low
      (behind_sees s q d c l r items give x low sees given holds stand.0 sound.0 shapes.0 mine held.0 held.1.0 held.1.1.0 front count)
      (behind_given s q d c l r items give x low sees given holds stand.0 sound.0 shapes.0 mine held.0 held.1.0 held.1.1.0 front count)
      stand.0.queue stand.1 sound.1 shapes.1 st.1.1.1.1.1 held.1.1.1 counts.1.1.1 step.1 in
      let ring = ring_behind s q d c l r items give x low sees given holds stand.0 sound.0 shapes.0 mine held.0 held.1.0 held.1.1.0 front count in
      let fresh = control_behind s q d c l r items give x low sees given holds stand.0 sound.0 shapes.0 mine held.0 held.1.0 held.1.1.0 front count in
      let after = stepped d c.held (map v (started_part s q d).place.inputs) in
      let cell : Cell = record { held = after; fresh = fresh_after (starts depth items l) (gives depth l) l.fresh; ring = rest.ring } in
      let others = next_states v (owned_parts log (sizes_behind s d) (queue_behind s d) ds) (states_from c.ring cs) in
      record {
        ring = ring.0;
        cells = cell ∷ rest.cells;
        states =
            ap (λ z. z ∷ stepped control (control_state c.fresh) (map v (control_part s q d).place.inputs) ∷ after ∷ others) ring.1
            ∙ (ap (λ z. ring_state ring.0 ∷ z ∷ after ∷ others) fresh ∙ ap (λ z. ring_state ring.0 ∷ control_state cell.fresh ∷ after ∷ z) rest.states);
        queue = ring.2;
        stand = (
          cell_behind s q d c l r items give x low sees given holds stand.0 sound.0 shapes.0 mine held.0 held.1.0 held.1.1.0 front count (taken depth take l.queue ls) m rest.ring step.0 rest.queue,
          rest.stand,
        );
      }
