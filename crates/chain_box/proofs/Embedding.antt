-- Renamed wires, one after another.
use Rattle.std.proofs.Common.{map, length-append, ◌≡◌, ℕ, suc, ◌+◌, ◌-◌, ◌*◌, ◌/◌, ◌%◌, ◌^◌, ◌<◌, cond, ◌==◌, List, [], ◌∷◌, ◌++◌, length, get_or, set, slice_get, slice_index, slice_index_or, Some, refl, sym, ap, ◌∙◌, subst, append_assoc, arith}
use Rattle.std.specs.List.{All}
use Rattle.std.proofs.lemmas.List.{append-nil, map-append, length-map, get_or-append-add, get_or_append_left, get_or-map}
use Rattle.std.proofs.lemmas.List.Elements.{All-head, All-tail}
use Rattle.std.proofs.lemmas.Option.{slice_get_within}
use Rattle.rtl_core.specs.declared.design.Atom.{Atom}
use Rattle.rtl_core.specs.declared.design.Atom.TheVariants as atom
use Rattle.rtl_core.specs.declared.design.Pair.{Pair}
use Rattle.rtl_core.specs.declared.design.Pair.TheVariants as pair
use Rattle.rtl_core.specs.declared.design.Net.{Net}
use Rattle.rtl_core.specs.declared.design.Net.TheVariants as net
use Rattle.rtl_core.specs.declared.design.Wire.{Wire}
use Rattle.rtl_core.specs.declared.design.Pin.{Pin}
use Rattle.rtl_core.specs.declared.design.Reg.{Reg}
use Rattle.rtl_core.specs.declared.design.Port.{Port}
use Rattle.rtl_core.specs.Netlist.{Netlist, Memory}
use Rattle.rtl_core.specs.ClockStep.{State, Widths, bits_of, value_of, pair_value, net_value, input_widths, register_widths, wire_widths, widths_after, values_behind, wire_values, widths, seen, clocked_registers, written_words, clocked_memories}
use Rattle.rtl_core.specs.Valid.{HasBits, OperandsFit, IsWordOf, NetFits, WiresFit, IsConstant, RegisterFits, PortFits, MemoryFits}
use Rattle.rtl_core.proofs.Stability.{Longer, bits_kept, values_extend, values_append, wire_values_length}
use Rattle.rtl_core.proofs.Fits.{width_is}
use Rattle.chain_box.specs.StageEmbedding.Placing.{Place, renamed, renamed_net, renamed_wire, renamed_register, renamed_port, renamed_memory, renamed_wires, HasMemory, HasPlace, HoldsPlace}
use Rattle.chain_box.specs.StageEmbedding.{SeesTheSame}

-- ---- an expression whose atoms are renamed

-- both operands have a width
operands_have : (op : Pair) (n : ℕ) (A B : ℕ → Type 0) → OperandsFit op n A B → ((m : ℕ) × A m) × ((m : ℕ) × B m)
operands_have pair.Add n A B h = ((n, h.0), (n, h.1))
operands_have pair.Sub n A B h = ((n, h.0), (n, h.1))
operands_have pair.Mul n A B h = ((n, h.0), (n, h.1))
operands_have pair.And n A B h = ((n, h.0), (n, h.1))
operands_have pair.Or n A B h = ((n, h.0), (n, h.1))
operands_have pair.Xor n A B h = ((n, h.0), (n, h.1))
operands_have pair.Equal n A B h = ((h.1.0, h.1.1), (h.1.0, h.1.2))
operands_have pair.Below n A B h = ((h.1.0, h.1.1), (h.1.0, h.1.2))
operands_have pair.Left n A B h = ((n, h.0), h.1)
operands_have pair.Right n A B h = ((n, h.0), h.1)

-- the words of the memories are the same
abbrev SameWords : Place → List Memory → List (List ℕ) → List (List ℕ) → Type 0
SameWords p ms mems mems2 = (k : ℕ) (m : Memory) → slice_get ms k ≡ Some m → slice_index_or mems2 (p.mems + k) [] ≡ slice_index_or mems k []

-- where atoms that fit have the same widths and values
net_renamed : (v : Widths) (ms : List Memory) (mems mems2 : List (List ℕ)) (p : Place) (width width2 value value2 : Atom → ℕ) → SameWords p ms mems mems2
    → ((n : ℕ) (a : Atom) → HasBits v n a → width2 (renamed p a) ≡ width a) → ((n : ℕ) (a : Atom) → HasBits v n a → value2 (renamed p a) ≡ value a)
    → (n : ℕ) (e : Net) → NetFits v ms n e → net_value width2 value2 mems2 n (renamed_net p e) ≡ net_value width value mems n e
net_renamed v ms mems mems2 p width width2 value value2 words ws vs n (net.Copy a) h = vs n a h
net_renamed v ms mems mems2 p width width2 value value2 words ws vs n (net.Not a) h = ap (λ x. 2 ^ n - 1 - x) (vs n a h)
net_renamed v ms mems mems2 p width width2 value value2 words ws vs n (net.Two op a b) h =
    let have = operands_have op n (λ m. HasBits v m a) (λ m. HasBits v m b) h in
    ap (λ x. pair_value op n x (value2 (renamed p b))) (vs have.0.0 a have.0.1) ∙ ap (λ y. pair_value op n (value a) y) (vs have.1.0 b have.1.1)
net_renamed v ms mems mems2 p width width2 value value2 words ws vs n (net.Pick test a b) h =
    ap (λ t. cond (t == 1) (value2 (renamed p a)) (value2 (renamed p b))) (vs 1 test h.0)
    ∙ (ap (λ x. cond (value test == 1) x (value2 (renamed p b))) (vs n a h.1) ∙ ap (λ y. cond (value test == 1) (value a) y) (vs n b h.2))
net_renamed v ms mems mems2 p width width2 value value2 words ws vs n (net.Join high low) h =
    ap (λ x. x * 2 ^ width2 (renamed p low) + value2 (renamed p low)) (vs h.0 high h.2)
    ∙ (ap (λ k. value high * 2 ^ k + value2 (renamed p low)) (ws h.1 low h.3) ∙ ap (λ y. value high * 2 ^ width low + y) (vs h.1 low h.3))
net_renamed v ms mems mems2 p width width2 value value2 words ws vs n (net.Part a high low) h = ap (λ x. x / 2 ^ low % 2 ^ (high + 1 - low)) (vs h.1.0 a h.1.1)
net_renamed v ms mems mems2 p width width2 value value2 words ws vs n (net.Word mem address) h =
    ap (λ xs. slice_index xs (value2 (renamed p address))) (words mem h.0 h.1) ∙ ap (λ x. slice_index (slice_index_or mems mem []) x) (vs h.0.depth_log address h.2.wide)

operands_renamed : (op : Pair) (n : ℕ) (A B C D : ℕ → Type 0) → ((m : ℕ) → A m → C m) → ((m : ℕ) → B m → D m) → OperandsFit op n A B → OperandsFit op n C D
operands_renamed pair.Add n A B C D f g h = (f n h.0, g n h.1)
operands_renamed pair.Sub n A B C D f g h = (f n h.0, g n h.1)
operands_renamed pair.Mul n A B C D f g h = (f n h.0, g n h.1)
operands_renamed pair.And n A B C D f g h = (f n h.0, g n h.1)
operands_renamed pair.Or n A B C D f g h = (f n h.0, g n h.1)
operands_renamed pair.Xor n A B C D f g h = (f n h.0, g n h.1)
operands_renamed pair.Equal n A B C D f g h = (h.0, (h.1.0, f h.1.0 h.1.1, g h.1.0 h.1.2))
operands_renamed pair.Below n A B C D f g h = (h.0, (h.1.0, f h.1.0 h.1.1, g h.1.0 h.1.2))
operands_renamed pair.Left n A B C D f g h = (f n h.0, (h.1.0, g h.1.0 h.1.1))
operands_renamed pair.Right n A B C D f g h = (f n h.0, (h.1.0, g h.1.0 h.1.1))

abbrev Varies : Widths → Place → Type 0
Varies v p = (k n : ℕ) → slice_get v.inputs k ≡ Some n → ¬ IsConstant (renamed p (atom.Input k))

-- no constant comes in the place of another atom
stays_no_constant : (v : Widths) (p : Place) → Varies v p → (n : ℕ) (a : Atom) → HasBits v n a → ¬ IsConstant a → ¬ IsConstant (renamed p a)
stays_no_constant v p varies n (atom.Constant bits value) fits h = h
stays_no_constant v p varies n (atom.Input k) fits h = varies k n fits
stays_no_constant v p varies n (atom.Reg k) fits h = λ x. x
stays_no_constant v p varies n (atom.Wire k) fits h = λ x. x

word_renamed : (v w : Widths) (p : Place) (n : ℕ) (address : Atom) (m : Memory) (ms : List Memory) (k : ℕ) (x : HasMemory p m ms k)
    → HasBits w m.depth_log (renamed p address) → IsWordOf v n address m → IsWordOf w n (renamed p address) x.memory
word_renamed v w p n address m ms k x wide h =
    let port = x.ports h.port.0 h.port.1 h.port.2 in
    record {
      bits = x.bits ∙ h.bits;
      wide = subst (λ i. HasBits w i (renamed p address)) (sym x.depth) wide;
      port = (port.0, port.1, port.2, port.3 ∙ ap (renamed p) h.port.3);
    }

net_fits_renamed : (v w : Widths) (ms more : List Memory) (p : Place) → ((k : ℕ) (m : Memory) → slice_get ms k ≡ Some m → HasMemory p m more (p.mems + k)) → Varies v p
    → ((n : ℕ) (a : Atom) → HasBits v n a → HasBits w n (renamed p a)) → (n : ℕ) (e : Net) → NetFits v ms n e → NetFits w more n (renamed_net p e)
net_fits_renamed v w ms more p mems varies f n (net.Copy a) h = f n a h
net_fits_renamed v w ms more p mems varies f n (net.Not a) h = f n a h
net_fits_renamed v w ms more p mems varies f n (net.Two op a b) h =
    operands_renamed op n (λ m. HasBits v m a) (λ m. HasBits v m b) (λ m. HasBits w m (renamed p a)) (λ m. HasBits w m (renamed p b)) (λ m x. f m a x) (λ m x. f m b x) h
net_fits_renamed v w ms more p mems varies f n (net.Pick test a b) h = (f 1 test h.0, f n a h.1, f n b h.2)
net_fits_renamed v w ms more p mems varies f n (net.Join high low) h = (h.0, h.1, f h.0 high h.2, f h.1 low h.3, h.4)
net_fits_renamed v w ms more p mems varies f n (net.Part a high low) h =
    (stays_no_constant v p varies h.1.0 a h.1.1 h.0, (h.1.0, f h.1.0 a h.1.1, h.1.2, h.1.3, h.1.4))
net_fits_renamed v w ms more p mems varies f n (net.Word mem address) h =
    let x = mems mem h.0 h.1 in
    (x.memory, x.found, word_renamed v w p n address h.0 more (p.mems + mem) x (f h.0.depth_log address h.2.wide) h.2)

-- ---- atoms

pub get_behind : {A : Type 0} (xs ys : List A) (k : ℕ) → slice_get (xs ++ ys) (length xs + k) ≡ slice_get ys k
get_behind [] ys k = ap (slice_get ys) (let e : 0 + k ≡ k = omega arith in e)
get_behind (x ∷ xs) ys k = ap (slice_get (x ∷ (xs ++ ys))) (let e : suc (length xs) + k ≡ suc (length xs + k) = omega arith in e) ∙ get_behind xs ys k

widths_renamed : (p : Place) (ws : List Wire) → wire_widths (renamed_wires p ws) ≡ wire_widths ws
widths_renamed p [] = refl
widths_renamed p (w ∷ ws) = ap (λ z. w.bits ∷ z) (widths_renamed p ws)

-- an atom that fits behind some wires has the same value where more stand behind
pub value_stays : (h : Netlist) (before : List Wire) (all regs values more : List ℕ) → length before ≡ length values → (n : ℕ) (a : Atom) → HasBits (widths_after h before) n a
    → value_of all regs (values ++ more) a ≡ value_of all regs values a
value_stays h before all regs values more count n (atom.Constant bits value) f = refl
value_stays h before all regs values more count n (atom.Input k) f = refl
value_stays h before all regs values more count n (atom.Reg k) f = refl
value_stays h before all regs values more count n (atom.Wire k) f =
    get_or_append_left values more 0 k (subst (λ z. k < z) (length-map before (λ (w : Wire). w.bits) ∙ count) (slice_get_within (wire_widths before) k n f))

module _ (d h : Netlist) (before : List Wire) (p : Place) (place : HasPlace d h before p) where
  -- the widths behind wires that are done
  longer : (done : List Wire) → Longer (widths_after h before) (widths_after h (before ++ renamed_wires p done))
  longer done = record {
    inputs = refl;
    more_regs = [];
    regs = sym (append-nil (register_widths h));
    more_wires = wire_widths (renamed_wires p done);
    wires = map-append (λ (w : Wire). w.bits) before (renamed_wires p done);
  }

  pub atom_fits_renamed : (done : List Wire) (n : ℕ) (a : Atom) → HasBits (widths_after d done) n a → HasBits (widths_after h (before ++ renamed_wires p done)) n (renamed p a)
  atom_fits_renamed done n (atom.Constant bits value) f = f
  atom_fits_renamed done n (atom.Input k) f = bits_kept (widths_after h before) (widths_after h (before ++ renamed_wires p done)) (longer done) n (renamed p (atom.Input k)) (place.inputs k n f)
  atom_fits_renamed done n (atom.Reg k) f = place.regs k n f
  atom_fits_renamed done n (atom.Wire k) f =
      let start : p.wires ≡ length (wire_widths before) = place.start ∙ sym (length-map before (λ (w : Wire). w.bits)) in
      ap (λ z. slice_get z (p.wires + k)) (map-append (λ (w : Wire). w.bits) before (renamed_wires p done) ∙ ap (λ z. wire_widths before ++ z) (widths_renamed p done))
      ∙ (ap (λ z. slice_get (wire_widths before ++ wire_widths done) (z + k)) start ∙ (get_behind (wire_widths before) (wire_widths done) k ∙ f))

  width_renamed : (done : List Wire) (n : ℕ) (a : Atom) → HasBits (widths_after d done) n a → bits_of (widths_after h (before ++ renamed_wires p done)) (renamed p a) ≡ bits_of (widths_after d done) a
  width_renamed done n a f = width_is (widths_after h (before ++ renamed_wires p done)) n (renamed p a) (atom_fits_renamed done n a f) ∙ sym (width_is (widths_after d done) n a f)

  fits_behind : (done ws : List Wire) → WiresFit d done ws → WiresFit h (before ++ renamed_wires p done) (renamed_wires p ws)
  fits_behind done [] f = tt
  fits_behind done (w ∷ ws) f = (
    f.0,
    net_fits_renamed (widths_after d done) (widths_after h (before ++ renamed_wires p done)) d.mems h.mems p place.mems place.varies (atom_fits_renamed done) w.bits w.net f.1,
    subst (λ z. WiresFit h z (renamed_wires p ws))
        (ap (λ z. before ++ z) (map-append (renamed_wire p) done (w ∷ [])) ∙ sym (append_assoc before (renamed_wires p done) (renamed_wire p w ∷ [])))
        (fits_behind (done ++ w ∷ []) ws f.2),
  )

  module _ (s t : State) (pins all values : List ℕ) (count : length before ≡ length values) (holds : HoldsPlace d s t p)
      (inputs : (k n : ℕ) → slice_get (input_widths d) k ≡ Some n → value_of all t.regs values (renamed p (atom.Input k)) ≡ slice_index pins k) where
    value_renamed : (done : List Wire) (xs : List ℕ) (n : ℕ) (a : Atom) → HasBits (widths_after d done) n a → value_of all t.regs (values ++ xs) (renamed p a) ≡ value_of pins s.regs xs a
    value_renamed done xs n (atom.Constant bits value) f = refl
    value_renamed done xs n (atom.Input k) f = value_stays h before all t.regs values xs count n (renamed p (atom.Input k)) (place.inputs k n f) ∙ inputs k n f
    value_renamed done xs n (atom.Reg k) f = holds.regs k n f
    value_renamed done xs n (atom.Wire k) f = ap (λ z. get_or (values ++ xs) (z + k) 0) (place.start ∙ count) ∙ get_or-append-add values xs k 0

    values_renamed : (done : List Wire) (xs : List ℕ) (ws : List Wire) → WiresFit d done ws
        → values_behind h t all (before ++ renamed_wires p done) (values ++ xs) (renamed_wires p ws) ≡ values ++ values_behind d s pins done xs ws
    values_renamed done xs [] f = refl
    values_renamed done xs (w ∷ ws) f =
        let new = net_value (bits_of (widths_after h (before ++ renamed_wires p done))) (value_of all t.regs (values ++ xs)) t.mems w.bits (renamed_net p w.net) in
        let old = net_value (bits_of (widths_after d done)) (value_of pins s.regs xs) s.mems w.bits w.net in
        let same : new ≡ old =
        net_renamed (widths_after d done) d.mems s.mems t.mems p (bits_of (widths_after d done)) (bits_of (widths_after h (before ++ renamed_wires p done))) (value_of pins s.regs xs) (value_of all t.regs (values ++ xs)) holds.mems
        (width_renamed done) (value_renamed done xs) w.bits w.net f.1 in
        let wires : (before ++ renamed_wires p done) ++ renamed_wire p w ∷ [] ≡ before ++ renamed_wires p (done ++ w ∷ []) =
        append_assoc before (renamed_wires p done) (renamed_wire p w ∷ []) ∙ ap (λ z. before ++ z) (sym (map-append (renamed_wire p) done (w ∷ []))) in
        let more : (values ++ xs) ++ new ∷ [] ≡ values ++ (xs ++ old ∷ []) = append_assoc values xs (new ∷ []) ∙ ap (λ z. values ++ (xs ++ z ∷ [])) same in
        ap (λ z. values_behind h t all z ((values ++ xs) ++ new ∷ []) (renamed_wires p ws)) wires
        ∙ (ap (λ z. values_behind h t all (before ++ renamed_wires p (done ++ w ∷ [])) z (renamed_wires p ws)) more
        ∙ values_renamed (done ++ w ∷ []) (xs ++ old ∷ []) ws f.2)

    pub values_embedded : WiresFit d [] d.wires → values_behind h t all before values (renamed_wires p d.wires) ≡ values ++ wire_values d s pins
    values_embedded fit =
        ap (λ z. values_behind h t all z values (renamed_wires p d.wires)) (sym (append-nil before))
        ∙ (ap (λ z. values_behind h t all (before ++ []) z (renamed_wires p d.wires)) (sym (append-nil values)) ∙ values_renamed [] [] d.wires fit)

pub parts_fit : (d h : Netlist) (before : List Wire) (p : Place) → WiresFit d [] d.wires → HasPlace d h before p → WiresFit h before (renamed_wires p d.wires)
parts_fit d h before p fit place = subst (λ z. WiresFit h z (renamed_wires p d.wires)) (append-nil before) (fits_behind d h before p place [] d.wires fit)

-- ---- what registers and memories take

pub registers_take : (w : Widths) (p : Place) (value value2 : Atom → ℕ) → ((n : ℕ) (a : Atom) → HasBits w n a → value2 (renamed p a) ≡ value a) → (rs : List Reg) → All (RegisterFits w) rs → (xs : List ℕ)
    → clocked_registers value2 (map (renamed_register p) rs) xs ≡ clocked_registers value rs xs
registers_take w p value value2 same [] fits xs = refl
registers_take w p value value2 same (r ∷ rs) fits [] = refl
registers_take w p value value2 same (r ∷ rs) fits (x ∷ xs) =
    let f = All-head (RegisterFits w) r rs fits in
    ap (λ z. cond (z == 1) (value2 (renamed p r.next)) x ∷ clocked_registers value2 (map (renamed_register p) rs) xs) (same 1 r.enable f.enable)
    ∙ (ap (λ z. cond (value r.enable == 1) z x ∷ clocked_registers value2 (map (renamed_register p) rs) xs) (same r.bits r.next f.next)
    ∙ ap (λ z. cond (value r.enable == 1) (value r.next) x ∷ z) (registers_take w p value value2 same rs (All-tail (RegisterFits w) r rs fits) xs))

words_take : (w : Widths) (p : Place) (m : Memory) (value value2 : Atom → ℕ) → ((n : ℕ) (a : Atom) → HasBits w n a → value2 (renamed p a) ≡ value a) → (ps : List Port) → All (PortFits w m) ps → (words : List ℕ)
    → written_words value2 (map (renamed_port p) ps) words ≡ written_words value ps words
words_take w p m value value2 same [] fits words = refl
words_take w p m value value2 same (x ∷ ps) fits words =
    let f = All-head (PortFits w m) x ps fits in
    ap (λ z. written_words value2 (map (renamed_port p) ps) (cond (z == 1) (set words (value2 (renamed p x.addr)) (value2 (renamed p x.value))) words)) (same 1 x.enable f.enable)
    ∙ (ap (λ z. written_words value2 (map (renamed_port p) ps) (cond (value x.enable == 1) (set words z (value2 (renamed p x.value))) words)) (same m.depth_log x.addr f.addr)
    ∙ (ap (λ z. written_words value2 (map (renamed_port p) ps) (cond (value x.enable == 1) (set words (value x.addr) z) words)) (same m.bits x.value f.value)
    ∙ words_take w p m value value2 same ps (All-tail (PortFits w m) x ps fits) (cond (value x.enable == 1) (set words (value x.addr) (value x.value)) words)))

pub memories_take : (w : Widths) (p : Place) (value value2 : Atom → ℕ) → ((n : ℕ) (a : Atom) → HasBits w n a → value2 (renamed p a) ≡ value a) → (ms : List Memory) → All (MemoryFits w) ms → (xs : List (List ℕ))
    → clocked_memories value2 (map (renamed_memory p) ms) xs ≡ clocked_memories value ms xs
memories_take w p value value2 same [] fits xs = refl
memories_take w p value value2 same (m ∷ ms) fits [] = refl
memories_take w p value value2 same (m ∷ ms) fits (words ∷ xs) =
    ap (λ z. z ∷ clocked_memories value2 (map (renamed_memory p) ms) xs) (words_take w p m value value2 same m.ports (All-head (MemoryFits w) m ms fits).ports words)
    ∙ ap (λ z. written_words value m.ports words ∷ z) (memories_take w p value value2 same ms (All-tail (MemoryFits w) m ms fits) xs)

-- ---- whatever stands behind

module _ (d h : Netlist) (before after : List Wire) (p : Place) (fit : WiresFit d [] d.wires) (place : HasPlace d h before p) (are : h.wires ≡ before ++ (renamed_wires p d.wires ++ after)) where
  -- an atom of the part fits in the whole
  pub fits_whole : (n : ℕ) (a : Atom) → HasBits (widths d) n a → HasBits (widths h) n (renamed p a)
  fits_whole n a f =
      subst (λ z. HasBits (widths_after h z) n (renamed p a)) (append_assoc before (renamed_wires p d.wires) after ∙ sym are)
      (bits_kept (widths_after h (before ++ renamed_wires p d.wires)) (widths_after h ((before ++ renamed_wires p d.wires) ++ after))
      (record {
        inputs = refl;
        more_regs = [];
        regs = sym (append-nil (register_widths h));
        more_wires = wire_widths after;
        wires = map-append (λ (w : Wire). w.bits) (before ++ renamed_wires p d.wires) after;
      })
      n (renamed p a) (atom_fits_renamed d h before p place d.wires n a f))

  module _ (s t : State) (all : List ℕ) (holds : HoldsPlace d s t p) where
    abbrev first : List ℕ
    first = values_behind h t all [] [] before

    abbrev pins : List ℕ
    pins = map (seen h t all) p.inputs

    count : length before ≡ length first
    count = (let r = values_extend h t all [] [] before in sym (ap length r.1 ∙ r.2))

    begins : (more : List ℕ) × (wire_values h t all ≡ first ++ more)
    begins =
        let rest = values_extend h t all before first (renamed_wires p d.wires ++ after) in
        (rest.0, ap (values_behind h t all [] []) are ∙ (values_append h t all [] [] before (renamed_wires p d.wires ++ after) ∙ rest.1))

    inputs_hold : (k n : ℕ) → slice_get (input_widths d) k ≡ Some n → value_of all t.regs first (renamed p (atom.Input k)) ≡ slice_index pins k
    inputs_hold k n f =
        let b = begins in
        let within : k < length p.inputs = subst (λ z. k < z) (length-map d.inputs (λ (x : Pin). x.bits) ∙ sym place.count) (slice_get_within (input_widths d) k n f) in
        sym (value_stays h before all t.regs first b.0 count n (renamed p (atom.Input k)) (place.inputs k n f))
        ∙ (ap (λ z. value_of all t.regs z (renamed p (atom.Input k))) (sym b.1) ∙ sym (get_or-map (seen h t all) p.inputs k (atom.Constant 1 0) 0 within))

    whole : (more : List ℕ) × (wire_values h t all ≡ (first ++ wire_values d s pins) ++ more)
    whole =
        let rest = values_extend h t all (before ++ renamed_wires p d.wires) (first ++ wire_values d s pins) after in (
          rest.0,
          ap (values_behind h t all [] []) are ∙ (values_append h t all [] [] before (renamed_wires p d.wires ++ after)
              ∙ (values_append h t all before first (renamed_wires p d.wires) after
              ∙ (ap (λ z. values_behind h t all (before ++ renamed_wires p d.wires) z after) (values_embedded d h before p place s t pins all first count holds inputs_hold fit) ∙ rest.1))),
        )

    atoms_same : (n : ℕ) (a : Atom) → HasBits (widths d) n a → seen h t all (renamed p a) ≡ seen d s pins a
    atoms_same n a f =
        let w = whole in
        let long : length (before ++ renamed_wires p d.wires) ≡ length (first ++ wire_values d s pins) =
        length-append before (renamed_wires p d.wires)
        ∙ (ap (λ z. z + length (renamed_wires p d.wires)) count
        ∙ (ap (λ z. length first + z) (length-map d.wires (renamed_wire p) ∙ sym (wire_values_length d s pins)) ∙ sym (length-append first (wire_values d s pins)))) in
        ap (λ z. value_of all t.regs z (renamed p a)) w.1
        ∙ (value_stays h (before ++ renamed_wires p d.wires) all t.regs (first ++ wire_values d s pins) w.0 long n (renamed p a) (atom_fits_renamed d h before p place d.wires n a f)
        ∙ value_renamed d h before p place s t pins all first count holds inputs_hold d.wires (wire_values d s pins) n a f)

    pub sees : SeesTheSame d h s t all p
    sees = record {
      atoms = atoms_same;
      registers = λ fits xs. registers_take (widths d) p (seen d s pins) (seen h t all) atoms_same d.regs fits xs;
      memories = λ fits xs. memories_take (widths d) p (seen d s pins) (seen h t all) atoms_same d.mems fits xs;
    }
