-- Each part of a linked circuit has its place.
use Rattle.std.proofs.Common.{map, length-append, ◌≡◌, ℕ, suc, zero, ◌+◌, List, [], ◌∷◌, ◌++◌, length, slice_get, Some, refl, sym, ap, ◌∙◌, subst, arith}
use Rattle.std.specs.List.{All, AllByRecursion}
use Rattle.std.proofs.lemmas.List.{length-map}
use Rattle.std.proofs.lemmas.Option.{none-some, same_Some}
use Rattle.rtl_core.specs.declared.design.Atom.{Atom}
use Rattle.rtl_core.specs.declared.design.Atom.TheVariants as atom
use Rattle.rtl_core.specs.declared.design.Wire.{Wire}
use Rattle.rtl_core.specs.declared.design.Port.{Port}
use Rattle.rtl_core.specs.declared.design.OutPin.{OutPin}
use Rattle.rtl_core.specs.Netlist.{Netlist, Memory}
use Rattle.rtl_core.specs.ClockStep.{input_widths, register_widths, widths_after, widths}
use Rattle.rtl_core.specs.Valid.{IsBetween, HasBits, IsConstant, WiresFit, RegisterFits, OutputFits}
use Rattle.chain_box.specs.StageEmbedding.Placing.{Place, renamed, renamed_wire, renamed_port, renamed_memory, with_exits, exit_wire, part_wires, HasMemory, HasPlace}
use Rattle.chain_box.proofs.Assembling.{ArePlaced, Owns}
use Rattle.chain_box.proofs.Exits.{exits_are_valid, exit_fits}
use Rattle.chain_box.proofs.Pins.{AreInputs, placed_at, fits_later, fits_behind_part, own_memory}
use Rattle.chain_link.specs.declared.numbers.Sizes.{Sizes}
use Rattle.chain_link.specs.declared.numbers.Queue.{Queue}
use Rattle.chain_link.specs.Units.{low_pins, both_bits, queue_front, queue_back, control, memory_of, writing_port, reading_port}
use Rattle.chain_link.specs.Queues.{HasLog}
use Rattle.chain_link.specs.Linking.{result_bits, some_of, first_of, exit_of, behind_asked, start_of, stage_inputs, placed, entry_parts, entry_sizes, entry_queue, asked_part, front_part, control_part, back_part, started_part, take_part, last_part, sizes_behind, queue_behind, chain_parts, owned_parts}
use Rattle.chain_link.proofs.UnitsFit.{low_fit, both_fit, control_fits, front_fits, back_fits}

-- ---- what is known of a stage

abbrev pub stage_widths : ℕ → List ℕ
stage_widths argument = 1 ∷ 1 ∷ 1 ∷ 1 ∷ 5 ∷ 16 ∷ 64 ∷ argument ∷ []

abbrev pub HasOutput : Netlist → ℕ → ℕ → Type 0
HasOutput d k bits = (o : OutPin) × (slice_get d.outputs k ≡ Some o) × (o.bits ≡ bits)

pub record IsShaped (argument : ℕ) (d : Netlist) : Type 0 where
  pub inputs : input_widths d ≡ stage_widths argument
  pub ready : HasOutput d 0 1
  pub done : HasOutput d 1 1
  pub ret : HasOutput d 3 (result_bits d)
  pub mems : d.mems ≡ []
  pub wires : WiresFit d [] d.wires
  pub outs : All (OutputFits (widths d)) d.outputs
  pub regs : All (RegisterFits (widths d)) d.regs
  pub result : IsBetween 1 64 (result_bits d)

-- each takes what the one before it gives
abbrev pub AreShaped : ℕ → List Netlist → Type 0
AreShaped argument [] = Unit {0}
AreShaped argument (d ∷ ds) = IsShaped argument d × AreShaped (result_bits d) ds

-- ---- what stands before a stage

pub record StandsBefore (h : Netlist) (before : List Wire) (s : Sizes) (q : Queue) : Type 0 where
  pub count : s.wires ≡ length before
  pub reset : HasBits (widths_after h before) 1 (atom.Input 0)
  pub take : HasBits (widths_after h before) 1 (atom.Input 3)
  pub low : HasBits (widths_after h before) 1 (atom.Wire 0)
  pub low_select : HasBits (widths_after h before) 5 (atom.Wire 1)
  pub low_address : HasBits (widths_after h before) 16 (atom.Wire 2)
  pub low_data : HasBits (widths_after h before) 64 (atom.Wire 3)
  pub some : HasBits (widths_after h before) 1 (some_of q)
  pub first : HasBits (widths_after h before) q.bits (first_of q)
  pub give : HasBits (widths_after h before) 1 (atom.Wire q.give)
  pub item : HasBits (widths_after h before) q.bits q.item
  pub varies : ¬ IsConstant q.item

none_there : {P : Type 0} (d : Netlist) (k : ℕ) (m : Memory) → d.mems ≡ [] → slice_get d.mems k ≡ Some m → P
none_there d k m e f = absurd (none-some m (sym (ap (λ z. slice_get z k) e) ∙ f))

no_registers : {P : Type 0} (k n : ℕ) → slice_get [] k ≡ Some n → P
no_registers k n f = absurd (none-some n f)

no_memories : {P : Type 0} (k : ℕ) (m : Memory) → slice_get [] k ≡ Some m → P
no_memories k m f = absurd (none-some m f)

-- the first part whose registers and memory stand there is the queue before the next stage
pub record OwnsQueue (h : Netlist) (log bits : ℕ) (s : Sizes) : Type 0 where
  pub regs : (k n : ℕ) → slice_get (log ∷ (log + 1) ∷ []) k ≡ Some n → slice_get (register_widths h) (s.regs + k) ≡ Some n
  pub memory : Place
  pub found : slice_get h.mems (s.mems + 0) ≡ Some (renamed_memory memory (memory_of log bits (writing_port ∷ reading_port bits ∷ [])))
  pub start : memory.regs ≡ s.regs

pub owns_queue : (h : Netlist) (log : ℕ) (s : Sizes) (q : Queue) (ds : List Netlist) → AllByRecursion (Owns h) (owned_parts log s q ds) → OwnsQueue h log q.bits s
owns_queue h log s q [] o = record { regs = o.0.regs; memory = (last_part log s q).place; found = o.0.mems 0 _ refl; start = refl }
owns_queue h log s q (d ∷ ds) o = record { regs = o.0.regs; memory = (back_part log s q d).place; found = o.0.mems 0 _ refl; start = refl }

-- the port that reads is there
reading_there : (log bits : ℕ) (place p : Place) (i : ℕ) (x : Port) → p.regs ≡ place.regs → slice_get (reading_port bits ∷ []) i ≡ Some x
    → (j : ℕ) × (y : Port) × (slice_get (map (renamed_port place) (writing_port ∷ reading_port bits ∷ [])) j ≡ Some y) × (y.addr ≡ renamed p x.addr)
reading_there log bits place p zero x e f =
    let same : reading_port bits ≡ x = same_Some (reading_port bits) x f in
    (1, renamed_port place (reading_port bits), refl, ap (λ z. atom.Reg (z + 0)) (sym e) ∙ ap (λ (y : Port). renamed p y.addr) same)
reading_there log bits place p (suc i) x e f = absurd (none-some x f)

front_memory : (h : Netlist) (log bits : ℕ) (s : Sizes) (p : Place) → OwnsQueue h log bits s → p.regs ≡ s.regs → p.mems ≡ s.mems → (k : ℕ) (m : Memory)
    → slice_get (memory_of log bits (reading_port bits ∷ []) ∷ []) k ≡ Some m → HasMemory p m h.mems (p.mems + k)
front_memory h log bits s p o er em zero m f =
    subst (λ (x : Memory). HasMemory p x h.mems (p.mems + 0)) (same_Some (memory_of log bits (reading_port bits ∷ [])) m f)
    (record {
      memory = renamed_memory o.memory (memory_of log bits (writing_port ∷ reading_port bits ∷ []));
      found = ap (λ z. slice_get h.mems (z + 0)) em ∙ o.found;
      bits = refl;
      depth = refl;
      ports = λ i x found. reading_there log bits o.memory p i x (er ∙ sym o.start) found;
    })
front_memory h log bits s p o er em (suc k) m f = absurd (none-some m f)

front_placed : (h : Netlist) (depth log bits : ℕ) (s : Sizes) (before : List Wire) (p : Place) → OwnsQueue h log bits s → p.wires ≡ length before → p.inputs ≡ [] → p.regs ≡ s.regs → p.mems ≡ s.mems
    → HasPlace (queue_front depth log bits) h before p
front_placed h depth log bits s before p o start none er em =
    placed_at (queue_front depth log bits) h before p start (subst (λ z. AreInputs (widths_after h before) [] z) (sym none) tt) (λ k n f. ap (λ z. slice_get (register_widths h) (z + k)) er ∙ o.regs k n f)
    (front_memory h log bits s p o er em)

-- ---- a stage

module _ (h : Netlist) (depth log : ℕ) (has : HasLog depth log) where
  module _ (before : List Wire) (s : Sizes) (q : Queue) (d : Netlist) (b : StandsBefore h before s q) (shape : IsShaped q.bits d) (bits : IsBetween 1 64 q.bits) where
    abbrev w1 : List Wire
    w1 = before ++ part_wires (asked_part s q d)

    abbrev w2 : List Wire
    w2 = w1 ++ part_wires (front_part depth log s d)

    abbrev w3 : List Wire
    w3 = w2 ++ part_wires (control_part s q d)

    abbrev w4 : List Wire
    w4 = w3 ++ part_wires (back_part log s q d)

    abbrev w5 : List Wire
    w5 = w4 ++ part_wires (started_part s q d)

    count_asked : behind_asked s d ≡ length w1
    count_asked =
        ap (λ z. z + (length d.wires + length d.outputs)) b.count
        ∙ (ap (λ z. length before + z) (ap (λ z. length d.wires + z) (sym (length-map d.outputs exit_wire)) ∙ (sym (length-append d.wires (map exit_wire d.outputs)) ∙ sym (length-map (with_exits d).wires (renamed_wire (asked_part s q d).place))))
        ∙ sym (length-append before (part_wires (asked_part s q d))))

    count_front : behind_asked s d + 3 ≡ length w2
    count_front = ap (λ z. z + 3) count_asked ∙ sym (length-append w1 (part_wires (front_part depth log s d)))

    count_control : behind_asked s d + 12 ≡ length w3
    count_control = (omega (arith, count_front, length-append w2 (part_wires (control_part s q d))))

    count_back : behind_asked s d + 23 ≡ length w4
    count_back = (omega (arith, count_control, length-append w3 (part_wires (back_part log s q d))))

    count_started : behind_asked s d + 23 + length d.wires ≡ length w5
    count_started = ap (λ z. z + length d.wires) count_back ∙ (ap (λ z. length w4 + z) (sym (length-map d.wires (renamed_wire (started_part s q d).place))) ∙ sym (length-append w4 (part_wires (started_part s q d))))

    module _ (owns : AllByRecursion (Owns h) (back_part log s q d ∷ control_part s q d ∷ started_part s q d ∷ [])) (next : OwnsQueue h log (result_bits d) (sizes_behind s d)) where
      asked_placed : HasPlace (with_exits d) h before (asked_part s q d).place
      asked_placed =
          placed_at (with_exits d) h before (asked_part s q d).place b.count
          (subst (λ z. AreInputs (widths_after h before) z (stage_inputs (atom.Wire 0) (first_of q))) (sym shape.inputs)
          (b.reset, (λ x. x), (b.low, (λ x. x), (b.low, (λ x. x), (b.low, (λ x. x), (b.low_select, (λ x. x), (b.low_address, (λ x. x), (b.low_data, (λ x. x), (b.first, (λ x. x), tt)))))))))
          owns.1.1.0.regs (λ k m f. none_there d k m shape.mems f)

      exit_there : (k bits : ℕ) → HasOutput d k bits → HasBits (widths_after h w1) bits (exit_of s d k)
      exit_there k bits out =
          fits_behind_part (with_exits d) h before (asked_part s q d).place asked_placed bits (atom.Wire (length d.wires + k))
          (subst (λ z. HasBits (widths (with_exits d)) z (atom.Wire (length d.wires + k))) out.2 (exit_fits d k out.0 out.1))

      front_there : HasPlace (queue_front depth log (result_bits d)) h w1 (front_part depth log s d).place
      front_there = front_placed h depth log (result_bits d) (sizes_behind s d) w1 (front_part depth log s d).place next count_asked refl refl refl

      control_placed : HasPlace control h w2 (control_part s q d).place
      control_placed =
          let f = part_wires (front_part depth log s d) in
          let a = part_wires (asked_part s q d) in
          placed_at control h w2 (control_part s q d).place count_front (
            b.reset,
            (λ x. x),
            (
              fits_later h w1 f 1 (exit_of s d 0) (exit_there 0 1 shape.ready),
              (λ x. x),
              (
                fits_later h w1 f 1 (exit_of s d 1) (exit_there 1 1 shape.done),
                (λ x. x),
                (
                  fits_behind_part (queue_front depth log (result_bits d)) h w1 (front_part depth log s d).place front_there 1 (atom.Wire 1) refl,
                  (λ x. x),
                  (fits_later h w1 f 1 (some_of q) (fits_later h before a 1 (some_of q) b.some), (λ x. x), tt),
                ),
              ),
            ),
          )
          owns.1.0.regs (λ k m f. no_memories k m f)

      -- an atom before the stage, behind its control
      later_control : (n : ℕ) (a : Atom) → HasBits (widths_after h before) n a → HasBits (widths_after h w3) n a
      later_control n a f =
          fits_later h w2 (part_wires (control_part s q d)) n a
          (fits_later h w1 (part_wires (front_part depth log s d)) n a (fits_later h before (part_wires (asked_part s q d)) n a f))

      start_there : HasBits (widths_after h w3) 1 (start_of s d)
      start_there = fits_behind_part control h w2 (control_part s q d).place control_placed 1 (atom.Wire 5) refl

      back_placed : HasPlace (queue_back log q.bits) h w3 (back_part log s q d).place
      back_placed =
          placed_at (queue_back log q.bits) h w3 (back_part log s q d).place count_control
          (b.reset, (λ x. x), (start_there, (λ x. x), (later_control 1 (atom.Wire q.give) b.give, (λ x. x), (later_control q.bits q.item b.item, b.varies, tt))))
          owns.0.regs (own_memory h (back_part log s q d) owns.0)

      later_back : (n : ℕ) (a : Atom) → HasBits (widths_after h w3) n a → HasBits (widths_after h w4) n a
      later_back n a f = fits_later h w3 (part_wires (back_part log s q d)) n a f

      started_placed : HasPlace d h w4 (started_part s q d).place
      started_placed =
          let before_back : (n : ℕ) (a : Atom) → HasBits (widths_after h before) n a → HasBits (widths_after h w4) n a = λ n a f. later_back n a (later_control n a f) in
          placed_at d h w4 (started_part s q d).place count_back
          (subst (λ z. AreInputs (widths_after h w4) z (stage_inputs (start_of s d) (first_of q))) (sym shape.inputs) (
            b.reset,
            (λ x. x),
            (
              later_back 1 (start_of s d) start_there,
              (λ x. x),
              (
                before_back 1 (atom.Wire 0) b.low,
                (λ x. x),
                (
                  before_back 1 (atom.Wire 0) b.low,
                  (λ x. x),
                  (before_back 5 (atom.Wire 1) b.low_select, (λ x. x), (before_back 16 (atom.Wire 2) b.low_address, (λ x. x), (before_back 64 (atom.Wire 3) b.low_data, (λ x. x), (before_back q.bits (first_of q) b.first, (λ x. x), tt)))),
                ),
              ),
            ),
          ))
          owns.1.1.0.regs (λ k m f. none_there d k m shape.mems f)

      stands_behind : StandsBefore h w5 (sizes_behind s d) (queue_behind s d)
      stands_behind =
          let last : (n : ℕ) (a : Atom) → HasBits (widths_after h w4) n a → HasBits (widths_after h w5) n a = λ n a f. fits_later h w4 (part_wires (started_part s q d)) n a f in
          let from_control : (n : ℕ) (a : Atom) → HasBits (widths_after h w3) n a → HasBits (widths_after h w5) n a = λ n a f. last n a (later_back n a f) in
          let from_front : (n : ℕ) (a : Atom) → HasBits (widths_after h w2) n a → HasBits (widths_after h w5) n a = λ n a f. from_control n a (fits_later h w2 (part_wires (control_part s q d)) n a f) in
          let from_asked : (n : ℕ) (a : Atom) → HasBits (widths_after h w1) n a → HasBits (widths_after h w5) n a = λ n a f. from_front n a (fits_later h w1 (part_wires (front_part depth log s d)) n a f) in
          let all : (n : ℕ) (a : Atom) → HasBits (widths_after h before) n a → HasBits (widths_after h w5) n a = λ n a f. from_control n a (later_control n a f) in
          let shown = fits_behind_part (queue_front depth log (result_bits d)) h w1 (front_part depth log s d).place front_there in
          record {
            count = count_started;
            reset = b.reset;
            take = b.take;
            low = all 1 (atom.Wire 0) b.low;
            low_select = all 5 (atom.Wire 1) b.low_select;
            low_address = all 16 (atom.Wire 2) b.low_address;
            low_data = all 64 (atom.Wire 3) b.low_data;
            some = from_front 1 (some_of (queue_behind s d)) (shown 1 (atom.Wire 0) refl);
            first = from_front (result_bits d) (first_of (queue_behind s d)) (shown (result_bits d) (atom.Wire 2) refl);
            give = from_control 1 (atom.Wire (queue_behind s d).give) (fits_behind_part control h w2 (control_part s q d).place control_placed 1 (atom.Wire 1) refl);
            item = from_asked (result_bits d) (exit_of s d 3) (exit_there 3 (result_bits d) shape.ret);
            varies = λ x. x;
          }

  -- ---- all of them

  last_placed : (before : List Wire) (s : Sizes) (q : Queue) → StandsBefore h before s q → IsBetween 1 64 q.bits → Owns h (last_part log s q) → ArePlaced h before (take_part s q ∷ last_part log s q ∷ [])
  last_placed before s q b bits owns =
      let t = part_wires (take_part s q) in
      let w = before ++ t in
      let taking : HasPlace both_bits h before (take_part s q).place =
      placed_at both_bits h before (take_part s q).place b.count (b.take, (λ x. x), (b.some, (λ x. x), tt)) (λ k n f. no_registers k n f) (λ k m f. no_memories k m f) in
      let count : s.wires + 1 ≡ length w = ap (λ z. z + 1) b.count ∙ sym (length-append before t) in
      let behind : HasPlace (queue_back log q.bits) h w (last_part log s q).place =
      placed_at (queue_back log q.bits) h w (last_part log s q).place count (
        b.reset,
        (λ x. x),
        (
          fits_behind_part both_bits h before (take_part s q).place taking 1 (atom.Wire 0) refl,
          (λ x. x),
          (fits_later h before t 1 (atom.Wire q.give) b.give, (λ x. x), (fits_later h before t q.bits q.item b.item, b.varies, tt)),
        ),
      )
      owns.regs (own_memory h (last_part log s q) owns) in
      ((both_fit, taking), ((back_fits depth log q.bits has bits, behind), tt))

  pub chain_placed : (ds : List Netlist) (before : List Wire) (s : Sizes) (q : Queue) → StandsBefore h before s q → AreShaped q.bits ds → IsBetween 1 64 q.bits → AllByRecursion (Owns h) (owned_parts log s q ds)
      → ArePlaced h before (chain_parts depth log s q ds)
  chain_placed [] before s q b shapes bits owns = last_placed before s q b bits owns.0
  chain_placed (d ∷ ds) before s q b shapes bits owns =
      let shape = shapes.0 in
      let mine : AllByRecursion (Owns h) (back_part log s q d ∷ control_part s q d ∷ started_part s q d ∷ []) = (owns.0, (owns.1.0, (owns.1.1.0, tt))) in
      let next = owns_queue h log (sizes_behind s d) (queue_behind s d) ds owns.1.1.1 in (
        (exits_are_valid d shape.wires shape.outs, asked_placed before s q d b shape bits mine next),
        (
          (front_fits depth log (result_bits d) has shape.result, front_there before s q d b shape bits mine next),
          (
            (control_fits, control_placed before s q d b shape bits mine next),
            (
              (back_fits depth log q.bits has bits, back_placed before s q d b shape bits mine next),
              (
                (shape.wires, started_placed before s q d b shape bits mine next),
                chain_placed ds (w5 before s q d b shape bits) (sizes_behind s d) (queue_behind s d) (stands_behind before s q d b shape bits mine next) shapes.1 shape.result owns.1.1.1,
              ),
            ),
          ),
        ),
      )

  -- ---- from the entry on

  pub all_placed : (bits : ℕ) (ds : List Netlist) → input_widths h ≡ 1 ∷ 1 ∷ bits ∷ 1 ∷ [] → IsBetween 1 64 bits → AreShaped bits ds → AllByRecursion (Owns h) (owned_parts log entry_sizes (entry_queue bits) ds)
      → ArePlaced h [] (entry_parts depth log bits ++ chain_parts depth log entry_sizes (entry_queue bits) ds)
  all_placed bits ds inputs between shapes owns =
      let low = placed low_pins [] 0 0 0 in
      let front = placed (queue_front depth log bits) [] 0 0 4 in
      let both = placed both_bits (atom.Input 1 ∷ atom.Wire (4 + 1) ∷ []) 0 0 7 in
      let v1 = [] ++ part_wires low in
      let v2 = v1 ++ part_wires front in
      let v3 = v2 ++ part_wires both in
      let input : (k n : ℕ) → slice_get (1 ∷ 1 ∷ bits ∷ 1 ∷ []) k ≡ Some n → slice_get (input_widths h) k ≡ Some n = λ k n f. ap (λ z. slice_get z k) inputs ∙ f in
      let low_placed : HasPlace low_pins h [] low.place = placed_at low_pins h [] low.place refl tt (λ k n f. no_registers k n f) (λ k m f. no_memories k m f) in
      let first_placed : HasPlace (queue_front depth log bits) h v1 front.place =
      front_placed h depth log bits entry_sizes v1 front.place (owns_queue h log entry_sizes (entry_queue bits) ds owns) refl refl refl refl in
      let gate_placed : HasPlace both_bits h v2 both.place =
      placed_at both_bits h v2 both.place refl (input 1 1 refl, (λ x. x), (refl, (λ x. x), tt)) (λ k n f. no_registers k n f) (λ k m f. no_memories k m f) in
      let b : StandsBefore h v3 entry_sizes (entry_queue bits) =
      record {
        count = refl;
        reset = input 0 1 refl;
        take = input 3 1 refl;
        low = refl;
        low_select = refl;
        low_address = refl;
        low_data = refl;
        some = refl;
        first = refl;
        give = refl;
        item = input 2 bits refl;
        varies = λ x. x;
      } in
      ((low_fit, low_placed), ((front_fits depth log bits has between, first_placed), ((both_fit, gate_placed), chain_placed ds v3 entry_sizes (entry_queue bits) b shapes between owns)))
