-- The bits of the words of memories after an edge, one memory after another.
use Rattle.std.proofs.Common.{◌≡◌, ◌<◌, ◌≤◌, ◌+◌, ◌==◌, ℕ, suc, zero, Bool, List, [], ◌∷◌, ◌++◌, cond, map, length, take, get_or, set, refl, sym, ap, ◌∙◌, subst, arith}
use Rattle.std.specs.Prelude.{Some}
use Rattle.std.specs.List.{All, flat_map}
use Rattle.std.proofs.lemmas.List.{append-nil, append_assoc, map-append, length-map, length-take-le, take_more, take_all, get_or-map, get_or_default}
use Rattle.std.proofs.lemmas.List.Elements.{All-append, All-nil, All-head, All-tail}
use Rattle.std.proofs.lemmas.Option.{slice_get-get_or}
use Rattle.aig_graph.specs.Graphs.{literal}
use Rattle.aig_graph.specs.Making.{Gates, IsSound, IsLiteral, Extends, Always}
use Rattle.aig_graph.proofs.Growing.{goes_on, stays, always_later}
use Rattle.aig_graph.specs.Words.{HasLength, bits, worded, numbers}
use Rattle.aig_graph.proofs.Making.{both, so, all_later}
use Rattle.rtl_core.specs.declared.design.Atom.{Atom}
use Rattle.rtl_core.specs.declared.design.Port.{Port}
use Rattle.rtl_core.specs.declared.design.Mem.{Mem}
use Rattle.rtl_core.specs.Netlist.{Netlist, Memory, memory_of}
use Rattle.rtl_core.specs.ClockStep.{widths, seen, wire_values, written_words, clocked_memories}
use Rattle.rtl_core.specs.Valid.{IsValid, MemoryFits}
use Rattle.aig_blast.specs.declared.literals.Literals.{Literals}
use Rattle.aig_blast.specs.Encoding.{word_bits, memory_bits}
use Rattle.aig_blast.specs.Literals.{shown, state_shown, pins_shown, memories_shown, joined, AreBanks, IsBank, IsBlasted, Shows}
use Rattle.aig_blast.specs.Ports.{CanWrite, WritesAll}
use Rattle.aig_blast.proofs.Context.{atom_length}
use Rattle.aig_blast.proofs.Growing.{of_later}
use Rattle.aig_blast.proofs.Bits.{bits_are}
use Rattle.aig_blast.proofs.Nets.{bank_at}
use Rattle.aig_blast.proofs.NextBits.{seen_shown}

-- ---- plain lists

words_bits : (w : List Bool) (n : ℕ) (lss : List (List ℕ)) → All (HasLength n) lss → bits w (joined lss) ≡ flat_map (word_bits n) (numbers w lss)
words_bits w n [] h = refl
words_bits w n (ls ∷ lss) h =
    map-append (literal w) ls (joined lss) ∙ (ap (λ z. z ++ bits w (joined lss)) (bits_are w ls n (All-head (HasLength n) ls lss h)) ∙ ap (λ z. word_bits n (worded w ls) ++ z) (words_bits w n lss (All-tail (HasLength n) ls lss h)))

memory_push : (ms : List Memory) (xs : List (List ℕ)) (m : Memory) (x : List ℕ) → length ms ≡ length xs → memory_bits (ms ++ m ∷ []) (xs ++ x ∷ []) ≡ memory_bits ms xs ++ flat_map (word_bits m.bits) x
memory_push [] [] m x h = append-nil (flat_map (word_bits m.bits) x)
memory_push [] (y ∷ xs) m x h = absurd (omega arith)
memory_push (k ∷ ms) [] m x h = absurd (omega arith)
memory_push (k ∷ ms) (y ∷ xs) m x h =
    let same : length ms ≡ length xs = omega arith in
    ap (λ z. flat_map (word_bits k.bits) y ++ z) (memory_push ms xs m x same) ∙ sym (append_assoc (flat_map (word_bits k.bits) y) (memory_bits ms xs) (flat_map (word_bits m.bits) x))

clocked_length : (v : Atom → ℕ) (ms : List Memory) (xs : List (List ℕ)) → length ms ≡ length xs → length (clocked_memories v ms xs) ≡ length ms
clocked_length v [] [] h = refl
clocked_length v [] (y ∷ xs) h = absurd (omega arith)
clocked_length v (m ∷ ms) [] h = absurd (omega arith)
clocked_length v (m ∷ ms) (y ∷ xs) h = let same : length ms ≡ length xs = omega arith in ap suc (clocked_length v ms xs same)

clocked_at : (v : Atom → ℕ) (ms : List Memory) (xs : List (List ℕ)) (k : ℕ) (m : Memory) → length ms ≡ length xs → k < length ms → m ≡ get_or ms k m → get_or (clocked_memories v ms xs) k [] ≡ written_words v m.ports (get_or xs k [])
clocked_at v [] xs k m h lt is = absurd (omega arith)
clocked_at v (n ∷ ms) [] k m h lt is = absurd (omega arith)
clocked_at v (n ∷ ms) (y ∷ xs) zero m h lt is = ap (λ (z : Memory). written_words v z.ports y) (sym is)
clocked_at v (n ∷ ms) (y ∷ xs) (suc k) m h lt is = let same : length ms ≡ length xs = omega arith in let less : k < length ms = omega arith in clocked_at v ms xs k m same less is

written_same : (v u : Atom → ℕ) (ps : List Port) (xs : List ℕ) → All (λ (p : Port). (v p.enable ≡ u p.enable) × (v p.addr ≡ u p.addr) × (v p.value ≡ u p.value)) ps → written_words v ps xs ≡ written_words u ps xs
written_same v u [] xs h = refl
written_same v u (p ∷ ps) xs h =
    let P : Port → Type 0 = λ (p : Port). (v p.enable ≡ u p.enable) × (v p.addr ≡ u p.addr) × (v p.value ≡ u p.value) in
    let e = All-head P p ps h in
    written_same v u ps (cond (v p.enable == 1) (set xs (v p.addr) (v p.value)) xs) (All-tail P p ps h)
    ∙ ap (written_words u ps) (ap (λ z. cond (z == 1) (set xs (v p.addr) (v p.value)) xs) e.0
    ∙ (ap (λ z. cond (u p.enable == 1) (set xs z (v p.value)) xs) e.1 ∙ ap (λ z. cond (u p.enable == 1) (set xs (u p.addr) z) xs) e.2))

banks_count : (ms : List Memory) (bs : List (List (List ℕ))) → AreBanks ms bs → length ms ≡ length bs
banks_count [] [] h = refl
banks_count [] (b ∷ bs) h = absurd h
banks_count (m ∷ ms) [] h = absurd h
banks_count (m ∷ ms) (b ∷ bs) h = ap suc (banks_count ms bs h.1)

-- ---- one memory

pub bank_there : (d : Netlist) (e : Gates) (t : Literals) (k : ℕ) → IsBlasted d d.wires e t → k < length d.mems → k < length t.mems.items
bank_there d e t k b h = (let n = banks_count d.mems t.mems.items b.shaped.mems in omega arith)

pub can_write : (d : Netlist) (e f : Gates) (t : Literals) (k : ℕ) (m : Memory) (B : List (List ℕ)) → IsValid d → IsBlasted d d.wires e t → Extends e f → IsSound f → k < length d.mems → m ≡ get_or d.mems k m → B ≡ get_or t.mems.items k B
    → CanWrite f t m.ports B m.bits m.depth_log
can_write d e f t k m B valid b x sound h is bank =
    let fit = subst (MemoryFits (widths d)) (sym is) (valid.mems k m h) in
    let there = bank_there d e t k b h in
    let at : B ≡ get_or t.mems.items k [] = bank ∙ get_or_default t.mems.items k B [] there in
    let shape = subst (IsBank m) (sym at) (bank_at d.mems t.mems.items b.shaped.mems k m (slice_get-get_or d.mems k m h ∙ ap Some (sym is))).1 in
    let fits = of_later e f t x b.fits in
    record {
      sound = sound;
      fits = fits;
      some = fit.some;
      count = shape.count;
      words = record { wide = shape.wide; fits = subst (All (All (IsLiteral f))) (sym at) (fits.mems k [] there) };
      ports = λ j p inside.
          (let port = fit.ports j p inside in
          record {
            enable = atom_length d d.wires t b.shaped 1 (get_or m.ports j p).enable port.enable;
            address = atom_length d d.wires t b.shaped m.depth_log (get_or m.ports j p).addr port.addr;
            value = atom_length d d.wires t b.shaped m.bits (get_or m.ports j p).value port.value;
          });
    }

abbrev pub memories_so_far : Netlist → Literals → ℕ → List Bool → List Bool
memories_so_far d t k w = memory_bits (take k d.mems) (take k (clocked_memories (seen d (state_shown t w) (pins_shown t w)) d.mems (memories_shown t w)))

memories_step : (d : Netlist) (e : Gates) (t : Literals) (w : List Bool) (k : ℕ) (m : Memory) → IsBlasted d d.wires e t → k < length d.mems → m ≡ get_or d.mems k m
    → memories_so_far d t (k + 1) w ≡ memories_so_far d t k w ++ flat_map (word_bits m.bits) (written_words (seen d (state_shown t w) (pins_shown t w)) m.ports (numbers w (get_or t.mems.items k [])))
memories_step d e t w k m b h is =
    let v = seen d (state_shown t w) (pins_shown t w) in
    let ms = d.mems in
    let xs = memories_shown t w in
    let same : length ms ≡ length xs = banks_count d.mems t.mems.items b.shaped.mems ∙ sym (length-map t.mems.items (numbers w)) in
    let ys = clocked_memories v ms xs in
    let ys_long : length ys ≡ length ms = clocked_length v ms xs same in
    let in_ys : k < length ys = omega arith in
    let there = bank_there d e t k b h in
    let held : get_or xs k [] ≡ numbers w (get_or t.mems.items k []) = get_or-map (numbers w) t.mems.items k [] [] there in
    let value : get_or ys k [] ≡ written_words v m.ports (numbers w (get_or t.mems.items k [])) = clocked_at v ms xs k m same h is ∙ ap (written_words v m.ports) held in
    let ms_taken : length (take k ms) ≡ k = length-take-le k ms (omega arith) in
    let ys_taken : length (take k ys) ≡ k = length-take-le k ys (omega arith) in
    ap (λ z. memory_bits z (take (k + 1) ys)) (take_more ms k m h ∙ ap (λ z. take k ms ++ z ∷ []) (sym is))
    ∙ (ap (λ z. memory_bits (take k ms ++ m ∷ []) z) (take_more ys k [] in_ys ∙ ap (λ z. take k ys ++ z ∷ []) value)
    ∙ memory_push (take k ms) (take k ys) m (written_words v m.ports (numbers w (get_or t.mems.items k []))) (ms_taken ∙ sym ys_taken))

pub memories_more : (d : Netlist) (e f g : Gates) (t : Literals) (ls joins now after : List ℕ) (B lss lss_now : List (List ℕ)) (k : ℕ) (m : Memory) → IsValid d → IsBlasted d d.wires e t → k < length d.mems → m ≡ get_or d.mems k m
    → B ≡ get_or t.mems.items k B → Shows e f ls (memories_so_far d t k) → WritesAll f g t m.ports B m.bits lss → lss_now ≡ lss → joins ≡ joined lss_now → now ≡ joins → after ≡ ls ++ now → Shows e g after (memories_so_far d t (k + 1))
memories_more d e f g t ls joins now after B lss lss_now k m valid b h is bank a writes lss_is joins_is now_is is_after =
    let there = bank_there d e t k b h in
    let at : B ≡ get_or t.mems.items k [] = bank ∙ get_or_default t.mems.items k B [] there in
    let fit = subst (MemoryFits (widths d)) (sym is) (valid.mems k m h) in
    let x = goes_on e f g a.extends writes.extends in
    let ms = joined lss in
    let whole : after ≡ ls ++ ms = is_after ∙ ap (λ z. ls ++ z) (now_is ∙ (joins_is ∙ ap joined lss_is)) in
    let wires : Always g (λ w. numbers w t.wires.items ≡ wire_values d (state_shown t w) (pins_shown t w)) = always_later e g (λ w. numbers w t.wires.items ≡ wire_values d (state_shown t w) (pins_shown t w)) x b.value in
    let seen_words : Always g (λ w. numbers w lss ≡ written_words (seen d (state_shown t w) (pins_shown t w)) m.ports (numbers w (get_or t.mems.items k []))) =
    both g g (λ w. numbers w t.wires.items ≡ wire_values d (state_shown t w) (pins_shown t w)) (λ w. numbers w lss ≡ written_words (shown t w) m.ports (numbers w B))
    (λ w. numbers w lss ≡ written_words (seen d (state_shown t w) (pins_shown t w)) m.ports (numbers w (get_or t.mems.items k []))) (stays g) wires writes.value
    (λ w c p q. q ∙ (ap (λ z. written_words (shown t w) m.ports (numbers w z)) at
    ∙ written_same (shown t w) (seen d (state_shown t w) (pins_shown t w)) m.ports (numbers w (get_or t.mems.items k []))
    (λ j o inside. (let port = fit.ports j o inside in (
      seen_shown d e t w 1 (get_or m.ports j o).enable c port.enable p,
      seen_shown d e t w m.depth_log (get_or m.ports j o).addr c port.addr p,
      seen_shown d e t w m.bits (get_or m.ports j o).value c port.value p,
    ))))) in
    subst (λ z. Shows e g z (memories_so_far d t (k + 1))) (sym whole) (record {
      extends = x;
      sound = writes.sound;
      fits = All-append (IsLiteral g) ls ms (all_later f g writes.extends ls a.fits) (joined_fit lss writes.words.fits);
      value = both f g (λ w. bits w ls ≡ memories_so_far d t k w) (λ w. numbers w lss ≡ written_words (seen d (state_shown t w) (pins_shown t w)) m.ports (numbers w (get_or t.mems.items k [])))
          (λ w. bits w (ls ++ ms) ≡ memories_so_far d t (k + 1) w) writes.extends a.value seen_words
          (λ w c p q. map-append (literal w) ls ms ∙ (ap (λ z. z ++ bits w ms) p ∙ (ap (λ z. memories_so_far d t k w ++ z) (words_bits w m.bits lss writes.words.wide ∙ ap (flat_map (word_bits m.bits)) q)
          ∙ sym (memories_step d e t w k m b h is))));
    }) where
      joined_fit : (lss : List (List ℕ)) → All (All (IsLiteral g)) lss → All (IsLiteral g) (joined lss)
      joined_fit [] h = All-nil (IsLiteral g)
      joined_fit (x ∷ xs) h = All-append (IsLiteral g) x (joined xs) (All-head (All (IsLiteral g)) x xs h) (joined_fit xs (All-tail (All (IsLiteral g)) x xs h))

pub memories_all : (d : Netlist) (e f : Gates) (t : Literals) (ls : List ℕ) (k : ℕ) → length d.mems ≤ k → IsBlasted d d.wires e t → Shows e f ls (memories_so_far d t k)
    → Shows e f ls (λ w. memory_bits d.mems (clocked_memories (seen d (state_shown t w) (pins_shown t w)) d.mems (memories_shown t w)))
memories_all d e f t ls k h b a = record {
  extends = a.extends;
  sound = a.sound;
  fits = a.fits;
  value = so f (λ w. bits w ls ≡ memories_so_far d t k w) (λ w. bits w ls ≡ memory_bits d.mems (clocked_memories (seen d (state_shown t w) (pins_shown t w)) d.mems (memories_shown t w))) a.value
      (λ w c p.
      let v = seen d (state_shown t w) (pins_shown t w) in
      let xs = memories_shown t w in
      let same : length d.mems ≡ length xs = banks_count d.mems t.mems.items b.shaped.mems ∙ sym (length-map t.mems.items (numbers w)) in
      let long : length (clocked_memories v d.mems xs) ≡ length d.mems = clocked_length v d.mems xs same in
      p ∙ (ap (λ z. memory_bits z (take k (clocked_memories v d.mems xs))) (take_all k d.mems h) ∙ ap (λ z. memory_bits d.mems z) (take_all k (clocked_memories v d.mems xs) (omega arith))));
}

-- a memory as the circuit has it
pub memory_listed : (ms : List Mem) (k : ℕ) (x : Mem) → k < length ms → x ≡ get_or ms k x → memory_of x ≡ get_or (map memory_of ms) k (memory_of x)
memory_listed ms k x h is = ap memory_of is ∙ sym (get_or-map memory_of ms k x (memory_of x) h)
