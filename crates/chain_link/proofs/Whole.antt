-- A linked circuit is valid, and all its parts stand in it.
use Rattle.std.proofs.Common.{◌≡◌, ℕ, ◌+◌, List, [], ◌∷◌, ◌++◌, length, refl, sym, ap, subst, arith}
use Rattle.std.specs.Prelude.{codes}
use Rattle.std.specs.List.{All, AllByRecursion}
use Rattle.std.proofs.lemmas.List.Elements.{All-nil, All-cons}
use Rattle.rtl_core.specs.declared.design.Pin.{Pin}
use Rattle.rtl_core.specs.declared.design.Atom.TheVariants as atom
use Rattle.rtl_core.specs.Netlist.{Netlist}
use Rattle.rtl_core.specs.ClockStep.{widths}
use Rattle.rtl_core.specs.Interface.{pin}
use Rattle.rtl_core.specs.Valid.{IsBetween, HasBits, IsName, AreDistinct, MemoryFits, OutputFits, IsValid}
use Rattle.rtl_core.proofs.Tokens.{name_true, names_true, differ_true}
use Rattle.chain_box.specs.Agreement.{HasChainPins, chain_outputs}
use Rattle.chain_box.specs.StageEmbedding.Placing.{Part}
use Rattle.chain_box.proofs.Assembling.{ArePlaced, wires_placed, Stands, parts_stand, AreCounted, Owns, parts_own, ReadsFit, registers_fit, memories_fit}
use Rattle.chain_link.specs.declared.numbers.Sizes.{Sizes}
use Rattle.chain_link.specs.declared.numbers.Queue.{Queue}
use Rattle.chain_link.specs.Queues.{HasLog}
use Rattle.chain_link.specs.Linking.{result_bits, data_in, some_of, first_of, entry_parts, entry_sizes, entry_queue, sizes_behind, queue_behind, control_part, back_part, last_part, chain_parts, owned_parts, last_queue, output_of, linked}
use Rattle.chain_link.specs.Laws.{data_out}
use Rattle.chain_link.proofs.UnitsFit.{back_reads, control_reads}
use Rattle.chain_link.proofs.Placed.{AreShaped, all_placed}

-- ---- numbers of registers and memories

pub counted : (log : ℕ) (ds : List Netlist) (s : Sizes) (q : Queue) (r j : ℕ) → AreShaped q.bits ds → s.regs ≡ r → s.mems ≡ j → AreCounted r j (owned_parts log s q ds)
counted log [] s q r j shapes e f = (e, f, tt)
counted log (d ∷ ds) s q r j shapes e f =
    let none : length d.mems ≡ 0 = ap length shapes.0.mems in (
      e,
      f,
      (
        ap (λ z. z + 2) e,
        ap (λ z. z + 1) f,
        (
          (omega arith),
          (omega arith),
          counted log ds (sizes_behind s d) (queue_behind s d) (r + 2 + 1 + length d.regs) (j + 1 + 0 + length d.mems) shapes.1 (omega arith) (omega arith),
        ),
      ),
    )

-- ---- what registers and memories read

reads_nothing : (d : Netlist) → d.mems ≡ [] → All (MemoryFits (widths d)) d.mems
reads_nothing d e = subst (λ ms. All (MemoryFits (widths d)) ms) (sym e) (All-nil (MemoryFits (widths d)))

pub reads_fit : (depth log : ℕ) (has : HasLog depth log) (ds : List Netlist) (s : Sizes) (q : Queue) → AreShaped q.bits ds → IsBetween 1 64 q.bits → AllByRecursion ReadsFit (owned_parts log s q ds)
reads_fit depth log has [] s q shapes bits = (back_reads depth log q.bits has bits (last_part log s q) refl, tt)
reads_fit depth log has (d ∷ ds) s q shapes bits = (
  back_reads depth log q.bits has bits (back_part log s q d) refl,
  (
    control_reads (control_part s q d) refl,
    (record { regs = shapes.0.regs; mems = reads_nothing d shapes.0.mems }, reads_fit depth log has ds (sizes_behind s d) (queue_behind s d) shapes.1 shapes.0.result),
  ),
)

-- ---- those that bring registers and memories are among all parts

pub owned_among : (P : Part → Type 0) (depth log : ℕ) (ds : List Netlist) (s : Sizes) (q : Queue) → AllByRecursion P (chain_parts depth log s q ds) → AllByRecursion P (owned_parts log s q ds)
owned_among P depth log [] s q h = (h.1.0, tt)
owned_among P depth log (d ∷ ds) s q h = (h.1.1.1.0, (h.1.1.0, (h.1.1.1.1.0, owned_among P depth log ds (sizes_behind s d) (queue_behind s d) h.1.1.1.1.1)))

-- ---- the last queue

record QueueFits (h : Netlist) (q : Queue) : Type 0 where
  pub some : HasBits (widths h) 1 (some_of q)
  pub first : HasBits (widths h) q.bits (first_of q)
  pub bits : IsBetween 1 64 q.bits

last_fits : (h : Netlist) (depth log : ℕ) (ds : List Netlist) (s : Sizes) (q : Queue) → QueueFits h q → AreShaped q.bits ds → AllByRecursion (Stands h) (chain_parts depth log s q ds) → QueueFits h (last_queue s q ds)
last_fits h depth log [] s q f shapes st = f
last_fits h depth log (d ∷ ds) s q f shapes st =
    last_fits h depth log ds (sizes_behind s d) (queue_behind s d)
    (record { some = st.1.0.fits 1 (atom.Wire 0) refl; first = st.1.0.fits (result_bits d) (atom.Wire 2) refl; bits = shapes.0.result }) shapes.1 st.1.1.1.1.1

last_bits : (ds : List Netlist) (d : Netlist) (s : Sizes) (q : Queue) → (last_queue s q (d ∷ ds)).bits ≡ data_out (d ∷ ds)
last_bits [] d s q = refl
last_bits (e ∷ ds) d s q = last_bits ds e (sizes_behind s d) (queue_behind s d)

pub linked_pins : (depth log : ℕ) (ds : List Netlist) → IsBetween 1 64 (data_in ds) → HasChainPins (linked depth log ds) (data_in ds) (data_out ds)
linked_pins depth log [] b = absurd (let l = b.0 in omega (arith, l))
linked_pins depth log (d ∷ ds) b = record { inputs = refl; outputs = ap (λ z. chain_outputs z) (last_bits ds d entry_sizes (entry_queue (data_in (d ∷ ds)))) }

-- ---- the whole

module _ (depth log : ℕ) (has : HasLog depth log) (ds : List Netlist) (bits : IsBetween 1 64 (data_in ds)) (shapes : AreShaped (data_in ds) ds) where
  abbrev pub h : Netlist
  h = linked depth log ds

  abbrev pub first_queue : Queue
  first_queue = entry_queue (data_in ds)

  abbrev pub owned : List Part
  owned = owned_parts log entry_sizes first_queue ds

  pub owned_counted : AreCounted 0 0 owned
  owned_counted = counted log ds entry_sizes first_queue 0 0 shapes refl refl

  owns : AllByRecursion (Owns h) owned
  owns = parts_own h [] [] 0 0 owned refl refl refl refl owned_counted

  parts_placed : ArePlaced h [] (entry_parts depth log (data_in ds) ++ chain_parts depth log entry_sizes first_queue ds)
  parts_placed = all_placed h depth log has (data_in ds) ds refl bits shapes owns

  pub all_stand : AllByRecursion (Stands h) (entry_parts depth log (data_in ds) ++ chain_parts depth log entry_sizes first_queue ds)
  all_stand = parts_stand h [] (entry_parts depth log (data_in ds) ++ chain_parts depth log entry_sizes first_queue ds) refl parts_placed

  pub owned_stand : AllByRecursion (Stands h) owned
  owned_stand = owned_among (Stands h) depth log ds entry_sizes first_queue all_stand.1.1.1

  pub owned_reads : AllByRecursion ReadsFit owned
  owned_reads = reads_fit depth log has ds entry_sizes first_queue shapes bits

  first_fits : QueueFits h first_queue
  first_fits = record { some = all_stand.1.0.fits 1 (atom.Wire 0) refl; first = all_stand.1.0.fits (data_in ds) (atom.Wire 2) refl; bits = bits }

  outputs_fit : All (OutputFits (widths h)) h.outputs
  outputs_fit =
      let P = OutputFits (widths h) in
      let q = last_queue entry_sizes first_queue ds in
      let f = last_fits h depth log ds entry_sizes first_queue first_fits shapes all_stand.1.1.1 in
      let one : IsBetween 1 64 1 = (omega arith, omega arith) in
      let valid = output_of (codes "out_valid") 1 (some_of q) in
      let item = output_of (codes "out_data") q.bits (first_of q) in
      All-cons P (output_of (codes "in_room") 1 (atom.Wire (4 + 1))) (valid ∷ item ∷ []) (record { bits = one; from = all_stand.1.0.fits 1 (atom.Wire 1) refl })
      (All-cons P valid (item ∷ []) (record { bits = one; from = f.some }) (All-cons P item [] (record { bits = f.bits; from = f.first }) (All-nil P)))

  inputs_fit : All (λ (p : Pin). IsBetween 1 64 p.bits) h.inputs
  inputs_fit =
      let P : Pin → Type 0 = λ p. IsBetween 1 64 p.bits in
      let one : IsBetween 1 64 1 = (omega arith, omega arith) in
      let valid = pin (codes "in_valid") 1 in
      let item = pin (codes "in_data") (data_in ds) in
      let take = pin (codes "out_take") 1 in
      All-cons P (pin (codes "reset") 1) (valid ∷ item ∷ take ∷ []) one (All-cons P valid (item ∷ take ∷ []) one (All-cons P item (take ∷ []) bits (All-cons P take [] one (All-nil P))))

  chain_names : List (List ℕ)
  chain_names = codes "reset" ∷ codes "in_valid" ∷ codes "in_data" ∷ codes "out_take" ∷ codes "in_room" ∷ codes "out_valid" ∷ codes "out_data" ∷ []

  names_are : All IsName chain_names
  unfolding chain_names
  names_are = names_true chain_names refl

  names_differ : AreDistinct chain_names
  unfolding chain_names
  names_differ = differ_true chain_names refl

  pub linked_valid : IsValid h
  unfolding chain_names
  linked_valid = record {
    name = name_true (codes "hls_chain") refl;
    names = names_are;
    distinct = names_differ;
    inputs = inputs_fit;
    wires = wires_placed h [] (entry_parts depth log (data_in ds) ++ chain_parts depth log entry_sizes first_queue ds) parts_placed;
    regs = registers_fit h owned owned_stand owned_reads;
    mems = memories_fit h owned owned_stand owned_reads;
    outputs = outputs_fit;
  }
