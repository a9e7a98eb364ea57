-- What a circuit holds behind an edge.
use Rattle.std.proofs.Common.{◌≡◌, ℕ, zero, suc, ◌+◌, ◌^◌, ◌<◌, ◌≤◌, List, [], ◌∷◌, map, length, get_or, Option, Some, None, inl, inr, refl, sym, ap, ap₂, ◌∙◌, subst, arith}
use Rattle.std.specs.Prelude.{slice_get, slice_index, slice_index_or, ◌==◌, if◌then◌else◌}
use Rattle.std.specs.Option.{option_map}
use Rattle.std.proofs.lemmas.Bool.{cases_lt, cond_both, false≢true}
use Rattle.std.proofs.lemmas.List.{append-nil, length-map}
use Rattle.std.proofs.lemmas.List.Elements.{All-get_or}
use Rattle.std.proofs.lemmas.Option.{none-some, same_Some, slice_get-map, slice_get_within, slice_get-get_or, get_or_from_slice_get}
use Rattle.rtl_core.specs.declared.design.Atom.{Atom}
use Rattle.rtl_core.specs.declared.design.Port.{Port}
use Rattle.rtl_core.specs.declared.design.Reg.{Reg}
use Rattle.rtl_core.specs.Netlist.{Netlist, Memory}
use Rattle.rtl_core.specs.ClockStep.{State, IsState, ArePins, AreMemories, no_memory, one_memory, register_widths, widths, word_at, seen, clocked_registers, written_words, clocked_memories, stepped}
use Rattle.rtl_core.specs.Valid.{RegisterFits}
use Rattle.rtl_core.proofs.Fits.{seen_fits, words_of}
use Rattle.rtl_logic.specs.Choosing.{Write, Takes}
use Rattle.rtl_logic.proofs.Making as making
use Rattle.datapath.specs.Plans.{Plan, no_array, array_at, depth}
use Rattle.datapath.specs.Cycles.{Register, Signal, AddressOf, StoredOf, Contents, Cycle, in_cycle}
use Rattle.datapath.specs.Circuits.{width, signal_writes, signal_else, register_writes, IsCycle}
use Rattle.datapath.specs.Ports.{next_words, port_count, behind_ports}
use Rattle.datapath.specs.Netlists.{memory_of, Holds, Follows}
use Rattle.datapath.specs.CircuitWires.Carrying.{IsMoment}
use Rattle.circuit_context.specs.Wanted.Driving.{Seen, Follow, HaveElse, IsUnseen, unseen_value, behind_edge, IsPort, IsMemory, IsAssembled}
use Rattle.fsm_datapath.specs.CircuitParts.{HasSoundArrays}
use Rattle.fsm_datapath.proofs.CircuitParts.Naming.{Place, place, no_place, place_of, Sight, sight, no_sight, sight_of}
use Rattle.fsm_datapath.proofs.CircuitParts.Memories.{PortShows, ports_write, memory_past}
use Rattle.fsm_datapath.proofs.CircuitParts.Absent.{words_stay, takes_unseen}

-- ---- registers

clocked_are : (v : Atom → ℕ) (regs : List Reg) (names : List Register) (f g : Register → ℕ) → length regs ≡ length names
    → ((k : ℕ) (q : Reg) (r : Register) → slice_get regs k ≡ Some q → slice_get names k ≡ Some r → (if v q.enable == 1 then v q.next else f r) ≡ g r)
    → clocked_registers v regs (map f names) ≡ map g names
clocked_are v [] [] f g count h = refl
clocked_are v [] (r ∷ names) f g count h = absurd (omega (arith, count))
clocked_are v (q ∷ regs) [] f g count h = absurd (omega (arith, count))
clocked_are v (q ∷ regs) (r ∷ names) f g count h =
    ap₂ (λ (x : ℕ) (l : List ℕ). x ∷ l) (h 0 q r refl refl) (clocked_are v regs names f g (omega (arith, count)) (λ k x y e i. h (suc k) x y e i))

-- ---- memories

clocked_at : (v : Atom → ℕ) (ms : List Memory) (mems : List (List ℕ)) → AreMemories ms mems → (k : ℕ) (m : Memory) → slice_get ms k ≡ Some m
    → slice_index_or (clocked_memories v ms mems) k [] ≡ written_words v m.ports (slice_index_or mems k [])
clocked_at v _ _ no_memory k m e = absurd (none-some m e)
clocked_at v _ _ (one_memory q words ms mems here all) zero m e = ap (λ (z : Memory). written_words v z.ports words) (same_Some q m e)
clocked_at v _ _ (one_memory q words ms mems here all) (suc k) m e = clocked_at v ms mems all k m e

clocked_past : (v : Atom → ℕ) (ms : List Memory) (mems : List (List ℕ)) → AreMemories ms mems → (k : ℕ) → length ms ≤ k → slice_index_or (clocked_memories v ms mems) k [] ≡ slice_index_or mems k []
clocked_past v _ _ no_memory k past = refl
clocked_past v _ _ (one_memory q words ms mems here all) zero past = absurd (omega (arith, past))
clocked_past v _ _ (one_memory q words ms mems here all) (suc k) past = clocked_past v ms mems all k (omega (arith, past))

nothing_given : (writes : List Write) (other : Option ℕ) (x : ℕ) → writes ≡ [] → other ≡ None → Takes writes other x
nothing_given writes other x none nothing =
    subst (λ w. Takes w other x) (sym none) (subst (λ z. Takes [] z x) (sym nothing) (record { wanted = λ y some all. absurd (false≢true some); else_ = λ e. tt }))

-- ---- one edge

module _ (p : Plan) (names : List Register) (sigs : List Seen) (d : Netlist) (sound : HasSoundArrays p) (h : IsAssembled p names sigs d)
    (s : State) (pins : List ℕ) (x : Contents) (state : IsState d s) (are : ArePins d pins) (holds : Holds p names s x) where
  moment : IsMoment p names d d s pins x
  moment = record { extends = making.stays d; sound = h.begun.sound; state = state; pins_ = are; more = []; holds = subst (λ ns. Holds p ns s x) (sym (append-nil names)) holds }

  -- what is seen at the atom of a signal
  abbrev signal_at : (signal : Signal) → Sight sigs signal → ℕ
  signal_at signal (sight k a there) = seen d s pins a
  signal_at signal (no_sight none) = unseen_value p signal

  abbrev signals : Signal → ℕ
  signals signal = signal_at signal (sight_of sigs signal)

  abbrev cycle : Cycle
  cycle = in_cycle x signals pins

  sight_is : (signal : Signal) (w : Sight sigs signal) (k : ℕ) (a : Atom) → slice_get sigs k ≡ Some (signal, a) → signal_at signal w ≡ seen d s pins a
  sight_is signal (no_sight none) k a is = absurd (none k a is)
  sight_is signal (sight j b there) k a is =
      let same : j ≡ k = h.once j k (signal, b) (signal, a) there is refl in
      ap (λ (z : Seen). seen d s pins z.1) (same_Some (signal, b) (signal, a) (sym there ∙ (ap (slice_get sigs) same ∙ is)))

  seen_is : (signal : Signal) (k : ℕ) (a : Atom) → slice_get sigs k ≡ Some (signal, a) → signals signal ≡ seen d s pins a
  seen_is signal k a is = sight_is signal (sight_of sigs signal) k a is

  follow : Follow sigs d s pins signals
  follow = λ k z low. seen_is (get_or sigs k z).0 k (get_or sigs k z).1 (slice_get-get_or sigs k z low)

  unseen_is : (signal : Signal) (w : Sight sigs signal) → IsUnseen sigs signal → signal_at signal w ≡ unseen_value p signal
  unseen_is signal (sight k a there) none = absurd (none k a there)
  unseen_is signal (no_sight none_) none = refl

  have_else : HaveElse p sigs signals
  have_else = λ signal none. unseen_is signal (sight_of sigs signal) none

  signal_takes : (signal : Signal) (w : Sight sigs signal) → Takes (signal_writes p cycle signal) (signal_else p cycle signal) (signal_at signal w)
  signal_takes signal (sight k a there) = (h.signals k (signal, a) there).carries.value_ d s pins x signals moment
  signal_takes signal (no_sight none) =
      takes_unseen p cycle sound signal
      (λ inside. let given = h.unseen signal inside none cycle in nothing_given (signal_writes p cycle signal) (signal_else p cycle signal) (unseen_value p signal) given.0 given.1)

  is_cycle : IsCycle p cycle
  is_cycle = λ signal. signal_takes signal (sight_of sigs signal)

  -- what a register takes
  abbrev taken : (r : Register) → Place names r → ℕ
  taken r (place k there) = behind_edge d s pins (h.driven k r there).reg (x.regs r)
  taken r (no_place none) = (h.unnamed r none s pins x signals moment follow have_else).value

  register_takes : (r : Register) (w : Place names r) → Takes (register_writes p cycle r) (Some (x.regs r)) (taken r w)
  register_takes r (place k there) = (h.driven k r there).takes d s pins x signals moment follow
  register_takes r (no_place none) = (h.unnamed r none s pins x signals moment follow have_else).takes

  stands_at : (k : ℕ) (r : Register) (there : slice_get names k ≡ Some r) → slice_get d.regs k ≡ Some (h.driven k r there).reg
  stands_at k r there = let same : k ≡ 0 + k = omega arith in ap (slice_get d.regs) same ∙ (h.driven k r there).stands

  reg_bits : (k : ℕ) (q : Reg) (r : Register) → slice_get d.regs k ≡ Some q → slice_get names k ≡ Some r → q.bits ≡ width p r
  reg_bits k q r at_ named =
      let left : slice_get (register_widths d) k ≡ Some q.bits = slice_get-map (λ (z : Reg). z.bits) d.regs k ∙ ap (option_map (λ (z : Reg). z.bits)) at_ in
      let right : slice_get (map (width p) names) k ≡ Some (width p r) = slice_get-map (width p) names k ∙ ap (option_map (width p)) named in
      same_Some q.bits (width p r) (sym left ∙ (ap (λ l. slice_get l k) h.begun.named ∙ right))

  taken_fits : (r : Register) (w : Place names r) → taken r w < 2 ^ width p r
  taken_fits r (no_place none) = (h.unnamed r none s pins x signals moment follow have_else).fits
  taken_fits r (place k there) =
      let q : Reg = (h.driven k r there).reg in
      let at_ : slice_get d.regs k ≡ Some q = stands_at k r there in
      let fits : RegisterFits (widths d) q =
      subst (RegisterFits (widths d)) (get_or_from_slice_get d.regs k q q at_) (All-get_or (RegisterFits (widths d)) d.regs k q (slice_get_within d.regs k q at_) h.valid.regs) in
      let next : seen d s pins q.next < 2 ^ width p r =
      subst (λ b. seen d s pins q.next < 2 ^ b) (reg_bits k q r at_ there) (seen_fits d s pins h.valid state are q.bits q.next fits.next) in
      cond_both (seen d s pins q.enable == 1) (seen d s pins q.next) (x.regs r) (λ y. y < 2 ^ width p r) (λ e. next) (λ e. holds.fit r)

  taken_is : (k : ℕ) (q : Reg) (r : Register) → slice_get d.regs k ≡ Some q → slice_get names k ≡ Some r → (w : Place names r) → behind_edge d s pins q (x.regs r) ≡ taken r w
  taken_is k q r at_ named (no_place none) = absurd (none k named)
  taken_is k q r at_ named (place j there) =
      let same : k ≡ j = h.distinct k j r named there in
      ap (λ (z : Reg). behind_edge d s pins z (x.regs r)) (same_Some q (h.driven j r there).reg (sym at_ ∙ (ap (slice_get d.regs) same ∙ stands_at j r there)))

  abbrev after : Contents
  after = record { regs = λ r. taken r (place_of names r); memories = λ a address. next_words p cycle a address }

  as_many : length d.regs ≡ length names
  as_many = sym (length-map d.regs (λ (q : Reg). q.bits)) ∙ (ap length h.begun.named ∙ length-map names (width p))

  registers : (stepped d s pins).regs ≡ map after.regs names
  registers =
      ap (clocked_registers (seen d s pins) d.regs) holds.regs
      ∙ clocked_are (seen d s pins) d.regs names x.regs after.regs as_many (λ k q r at_ named. taken_is k q r at_ named (place_of names r))

  port_shows : (a n : ℕ) (port : Port) → IsPort p names sigs d a n port → PortShows p cycle a n (seen d s pins) port
  port_shows a n port is = record {
    enable = is.enable.value_ d s pins x signals moment;
    address = sym (seen_is (AddressOf a n) is.address.0 port.addr is.address.1);
    stored = sym (seen_is (StoredOf a n) is.value.0 port.value is.value.1);
  }

  known_memory : (a address : ℕ) (m : Memory) → IsMemory p names sigs d a m → (array_at p a).table ≡ None → address < 2 ^ depth p a
      → word_at (stepped d s pins).mems (memory_of p a) address ≡ next_words p cycle a address
  known_memory a address m is plain low =
      let words : List ℕ = slice_index_or s.mems (memory_of p a) [] in
      let size : length words ≡ 2 ^ depth p a = (words_of d.mems s.mems state.mems (memory_of p a) m is.stands).count ∙ ap (λ k. 2 ^ k) is.depth_log in
      ap (λ l. slice_index l address) (clocked_at (seen d s pins) d.mems s.mems state.mems (memory_of p a) m is.stands)
      ∙ (ports_write p cycle a (seen d s pins) (2 ^ depth p a) m.ports 0 words (x.memories a)
      (λ k port at_. let same : k ≡ 0 + k = omega arith in subst (λ n. PortShows p cycle a n (seen d s pins) port) same (port_shows a k port (is.ports k port at_)))
      size (λ i under. holds.memories a i plain under) address low
      ∙ ap (λ n. behind_ports p cycle a 0 n (x.memories a) address) is.count)

  no_memory_there : (a address : ℕ) → length p.arrays ≤ a → (array_at p a).table ≡ None → address < 2 ^ depth p a
      → word_at (stepped d s pins).mems (memory_of p a) address ≡ next_words p cycle a address
  no_memory_there a address past plain low =
      ap (λ l. slice_index l address) (clocked_past (seen d s pins) d.mems s.mems state.mems (memory_of p a) (memory_past p names sigs d h a past))
      ∙ (holds.memories a address plain low ∙ sym (words_stay p cycle sound a past (port_count p a) 0 (x.memories a) address))

  memories : (a address : ℕ) → (array_at p a).table ≡ None → address < 2 ^ depth p a → word_at (stepped d s pins).mems (memory_of p a) address ≡ next_words p cycle a address
  memories a address plain low =
      elim (cases_lt a (length p.arrays)) [
        | inl within ↦ let m = h.memories a (array_at p a) (slice_get-get_or p.arrays a no_array within) plain in known_memory a address m.0 m.1 plain low
        | inr past ↦ no_memory_there a address past plain low
      ]

  pub follows : Follows p names d s pins x
  follows = record {
    after = after;
    step = record { signals = signals; is_cycle = is_cycle; is_after = record { regs = λ r. register_takes r (place_of names r); memories = λ a address. refl } };
    holds = record { regs = registers; fit = λ r. taken_fits r (place_of names r); memories = memories };
  }
