-- Circuits that are put together from parts: they are valid where each part has its place, and step part by part.
use Rattle.std.proofs.Common.{map, length-append, ◌≡◌, ℕ, suc, ◌+◌, ◌<◌, cond, ◌==◌, List, [], ◌∷◌, ◌++◌, length, get_or, slice_get, Some, refl, sym, ap, ◌∙◌, subst, append_assoc, arith}
use Rattle.std.specs.List.{All, AllByRecursion, flat_map}
use Rattle.std.proofs.lemmas.List.{map-append, length-map, get_or-append-add, get_or_append_left}
use Rattle.std.proofs.lemmas.List.Elements.{All-nil, All-append, All-map}
use Rattle.std.proofs.lemmas.Option.{slice_get_within, slice_get-map}
use Rattle.std.specs.Option.{option_map}
use Rattle.rtl_core.specs.declared.design.Atom.{Atom}
use Rattle.rtl_core.specs.declared.design.Wire.{Wire}
use Rattle.rtl_core.specs.declared.design.Reg.{Reg}
use Rattle.rtl_core.specs.declared.design.Port.{Port}
use Rattle.rtl_core.specs.Netlist.{Netlist, Memory}
use Rattle.rtl_core.specs.ClockStep.{State, register_widths, widths, seen, clocked_registers, written_words, clocked_memories, stepped, Fit, fit_none, fit_one, AreWords, AreMemories, no_memory, one_memory, IsState}
use Rattle.rtl_core.specs.Valid.{HasBits, WiresFit, RegisterFits, PortFits, MemoryFits}
use Rattle.rtl_core.proofs.Stability.{get_same}
use Rattle.rtl_core.proofs.Fits.{fit_length, fit_parts, fit_apart}
use Rattle.rtl_core.proofs.Growth.{wires_append}
use Rattle.chain_box.specs.StageEmbedding.Placing.{Place, renamed, renamed_register, renamed_port, renamed_memory, Part, part_wires, part_registers, part_memories, wires_of, registers_of, memories_of, HasPlace, HoldsPlace}
use Rattle.chain_box.specs.StageEmbedding.{SeesTheSame}
use Rattle.chain_box.proofs.Embedding.{get_behind, parts_fit, fits_whole, sees}

-- ---- parts one behind another

-- each has its place behind those before it
abbrev pub ArePlaced : Netlist → List Wire → List Part → Type 0
ArePlaced h before [] = Unit {0}
ArePlaced h before (q ∷ qs) = (WiresFit q.circuit [] q.circuit.wires × HasPlace q.circuit h before q.place) × ArePlaced h (before ++ part_wires q) qs

pub wires_placed : (h : Netlist) (before : List Wire) (qs : List Part) → ArePlaced h before qs → WiresFit h before (wires_of qs)
wires_placed h before [] a = tt
wires_placed h before (q ∷ qs) a =
    wires_append h before (part_wires q) (wires_of qs) (parts_fit q.circuit h before q.place a.0.0 a.0.1) (wires_placed h (before ++ part_wires q) qs a.1)

-- in the whole circuit, its atoms have their widths, and its values are those that it has alone
pub record Stands (h : Netlist) (q : Part) : Type 0 where
  pub count : length q.place.inputs ≡ length q.circuit.inputs
  pub fits : (n : ℕ) (a : Atom) → HasBits (widths q.circuit) n a → HasBits (widths h) n (renamed q.place a)
  pub sees : (s t : State) (all : List ℕ) → HoldsPlace q.circuit s t q.place → SeesTheSame q.circuit h s t all q.place

pub parts_stand : (h : Netlist) (before : List Wire) (qs : List Part) → h.wires ≡ before ++ wires_of qs → ArePlaced h before qs → AllByRecursion (Stands h) qs
parts_stand h before [] are a = tt
parts_stand h before (q ∷ qs) are a = (
  record { count = a.0.1.count; fits = fits_whole q.circuit h before (wires_of qs) q.place a.0.0 a.0.1 are; sees = sees q.circuit h before (wires_of qs) q.place a.0.0 a.0.1 are },
  parts_stand h (before ++ part_wires q) qs (are ∙ sym (append_assoc before (part_wires q) (wires_of qs))) a.1,
)

-- ---- parts that bring their registers and memories

-- the registers and memories are numbered one part after another
abbrev pub AreCounted : ℕ → ℕ → List Part → Type 0
AreCounted r j [] = Unit {0}
AreCounted r j (q ∷ qs) = (q.place.regs ≡ r) × (q.place.mems ≡ j) × AreCounted (r + length q.circuit.regs) (j + length q.circuit.mems) qs

pub record Owns (h : Netlist) (q : Part) : Type 0 where
  pub regs : (k n : ℕ) → slice_get (register_widths q.circuit) k ≡ Some n → slice_get (register_widths h) (q.place.regs + k) ≡ Some n
  pub mems : (k : ℕ) (m : Memory) → slice_get q.circuit.mems k ≡ Some m → slice_get h.mems (q.place.mems + k) ≡ Some (renamed_memory q.place m)

widths_of_registers : (p : Place) (rs : List Reg) → map (λ (r : Reg). r.bits) (map (renamed_register p) rs) ≡ map (λ (r : Reg). r.bits) rs
widths_of_registers p [] = refl
widths_of_registers p (r ∷ rs) = ap (λ z. r.bits ∷ z) (widths_of_registers p rs)

found_memory : (p : Place) (ms more : List Memory) (k : ℕ) (m : Memory) → slice_get ms k ≡ Some m → slice_get (map (renamed_memory p) ms ++ more) k ≡ Some (renamed_memory p m)
found_memory p ms more k m f =
    get_same (map (renamed_memory p) ms) (map (renamed_memory p) ms ++ more) more k (renamed_memory p m) refl (slice_get-map (renamed_memory p) ms k ∙ ap (option_map (renamed_memory p)) f)

pub parts_own : (h : Netlist) (rb : List Reg) (mb : List Memory) (r j : ℕ) (qs : List Part) → length rb ≡ r → length mb ≡ j → h.regs ≡ rb ++ registers_of qs → h.mems ≡ mb ++ memories_of qs → AreCounted r j qs
    → AllByRecursion (Owns h) qs
parts_own h rb mb r j [] lr lj er ej c = tt
parts_own h rb mb r j (q ∷ qs) lr lj er ej c =
    let bits : Reg → ℕ = λ x. x.bits in
    let more = map bits (registers_of qs) in
    let all : register_widths h ≡ map bits rb ++ (register_widths q.circuit ++ more) =
    ap (map bits) er
    ∙ (map-append bits rb (part_registers q ++ registers_of qs)
    ∙ ap (λ z. map bits rb ++ z) (map-append bits (part_registers q) (registers_of qs) ∙ ap (λ z. z ++ more) (widths_of_registers q.place q.circuit.regs))) in
    let first : q.place.regs ≡ length (map bits rb) = c.0 ∙ (sym lr ∙ sym (length-map rb bits)) in (
      record {
        regs = λ k n f.
            ap (λ z. slice_get z (q.place.regs + k)) all
            ∙ (ap (λ z. slice_get (map bits rb ++ (register_widths q.circuit ++ more)) (z + k)) first
            ∙ (get_behind (map bits rb) (register_widths q.circuit ++ more) k ∙ get_same (register_widths q.circuit) (register_widths q.circuit ++ more) more k n refl f));
        mems = λ k m f.
            ap (λ z. slice_get z (q.place.mems + k)) ej
            ∙ (ap (λ z. slice_get (mb ++ (part_memories q ++ memories_of qs)) (z + k)) (c.1 ∙ sym lj)
            ∙ (get_behind mb (part_memories q ++ memories_of qs) k ∙ found_memory q.place q.circuit.mems (memories_of qs) k m f));
      },
      parts_own h (rb ++ part_registers q) (mb ++ part_memories q) (r + length q.circuit.regs) (j + length q.circuit.mems) qs
          (length-append rb (part_registers q) ∙ (ap (λ z. z + length (part_registers q)) lr ∙ ap (λ z. r + z) (length-map q.circuit.regs (renamed_register q.place))))
          (length-append mb (part_memories q) ∙ (ap (λ z. z + length (part_memories q)) lj ∙ ap (λ z. j + z) (length-map q.circuit.mems (renamed_memory q.place))))
          (er ∙ sym (append_assoc rb (part_registers q) (registers_of qs))) (ej ∙ sym (append_assoc mb (part_memories q) (memories_of qs))) c.2,
    )

-- ---- what they hold

abbrev pub joined : List State → State
joined ss = record { regs = flat_map (λ (s : State). s.regs) ss; mems = flat_map (λ (s : State). s.mems) ss }

-- a state for each part
abbrev pub Both : (Part → State → Type 0) → List Part → List State → Type 0
Both P [] [] = Unit {0}
Both P [] (s ∷ ss) = ⊥
Both P (q ∷ qs) [] = ⊥
Both P (q ∷ qs) (s ∷ ss) = P q s × Both P qs ss

abbrev pub HasCounts : Part → State → Type 0
HasCounts q s = (length s.regs ≡ length q.circuit.regs) × (length s.mems ≡ length q.circuit.mems)

abbrev pub IsHeld : State → Part → State → Type 0
IsHeld t q s = HoldsPlace q.circuit s t q.place

abbrev pub IsStateOf : Part → State → Type 0
IsStateOf q s = IsState q.circuit s

pub states_held : (t : State) (xb : List ℕ) (yb : List (List ℕ)) (r j : ℕ) (qs : List Part) (ss : List State) → length xb ≡ r → length yb ≡ j → t.regs ≡ xb ++ (joined ss).regs → t.mems ≡ yb ++ (joined ss).mems
    → AreCounted r j qs → Both HasCounts qs ss → Both (IsHeld t) qs ss
states_held t xb yb r j [] [] lr lj er ej c h = tt
states_held t xb yb r j [] (s ∷ ss) lr lj er ej c h = absurd h
states_held t xb yb r j (q ∷ qs) [] lr lj er ej c h = absurd h
states_held t xb yb r j (q ∷ qs) (s ∷ ss) lr lj er ej c h = (
  record {
    regs = λ k n f.
        let within : k < length s.regs = subst (λ z. k < z) (length-map q.circuit.regs (λ (x : Reg). x.bits) ∙ sym h.0.0) (slice_get_within (register_widths q.circuit) k n f) in
        ap (λ z. get_or z (q.place.regs + k) 0) er
        ∙ (ap (λ z. get_or (xb ++ (s.regs ++ (joined ss).regs)) (z + k) 0) (c.0 ∙ sym lr)
        ∙ (get_or-append-add xb (s.regs ++ (joined ss).regs) k 0 ∙ get_or_append_left s.regs (joined ss).regs 0 k within));
    mems = λ k m f.
        let within : k < length s.mems = subst (λ z. k < z) (sym h.0.1) (slice_get_within q.circuit.mems k m f) in
        ap (λ z. get_or z (q.place.mems + k) []) ej
        ∙ (ap (λ z. get_or (yb ++ (s.mems ++ (joined ss).mems)) (z + k) []) (c.1 ∙ sym lj)
        ∙ (get_or-append-add yb (s.mems ++ (joined ss).mems) k [] ∙ get_or_append_left s.mems (joined ss).mems [] k within));
  },
  states_held t (xb ++ s.regs) (yb ++ s.mems) (r + length q.circuit.regs) (j + length q.circuit.mems) qs ss
      (length-append xb s.regs ∙ (ap (λ z. z + length s.regs) lr ∙ ap (λ z. r + z) h.0.0)) (length-append yb s.mems ∙ (ap (λ z. z + length s.mems) lj ∙ ap (λ z. j + z) h.0.1))
      (er ∙ sym (append_assoc xb s.regs (joined ss).regs)) (ej ∙ sym (append_assoc yb s.mems (joined ss).mems)) c.2 h.1,
)

-- ---- an edge

registers_apart : (v : Atom → ℕ) (rs qs : List Reg) (xs ys : List ℕ) → length xs ≡ length rs → clocked_registers v (rs ++ qs) (xs ++ ys) ≡ clocked_registers v rs xs ++ clocked_registers v qs ys
registers_apart v [] qs [] ys e = refl
registers_apart v [] qs (x ∷ xs) ys e = absurd (omega (arith, e))
registers_apart v (r ∷ rs) qs [] ys e = absurd (omega (arith, e))
registers_apart v (r ∷ rs) qs (x ∷ xs) ys e = ap (λ z. cond (v r.enable == 1) (v r.next) x ∷ z) (registers_apart v rs qs xs ys (omega (arith, e)))

memories_apart : (v : Atom → ℕ) (ms ns : List Memory) (xs ys : List (List ℕ)) → length xs ≡ length ms → clocked_memories v (ms ++ ns) (xs ++ ys) ≡ clocked_memories v ms xs ++ clocked_memories v ns ys
memories_apart v [] ns [] ys e = refl
memories_apart v [] ns (x ∷ xs) ys e = absurd (omega (arith, e))
memories_apart v (m ∷ ms) ns [] ys e = absurd (omega (arith, e))
memories_apart v (m ∷ ms) ns (x ∷ xs) ys e = ap (λ z. written_words v m.ports x ∷ z) (memories_apart v ms ns xs ys (omega (arith, e)))

-- what registers and memories read has its widths
pub record ReadsFit (q : Part) : Type 0 where
  pub regs : All (RegisterFits (widths q.circuit)) q.circuit.regs
  pub mems : All (MemoryFits (widths q.circuit)) q.circuit.mems

-- each part takes the values of its inputs for its pins
abbrev pub next_states : (Atom → ℕ) → List Part → List State → List State
next_states v [] ss = []
next_states v (q ∷ qs) [] = []
next_states v (q ∷ qs) (s ∷ ss) = stepped q.circuit s (map v q.place.inputs) ∷ next_states v qs ss

abbrev Sees : Netlist → State → List ℕ → Part → State → Type 0
Sees h t all q s = SeesTheSame q.circuit h s t all q.place

parts_see : (h : Netlist) (t : State) (all : List ℕ) (qs : List Part) (ss : List State) → AllByRecursion (Stands h) qs → Both (IsHeld t) qs ss → Both (Sees h t all) qs ss
parts_see h t all [] [] st h2 = tt
parts_see h t all [] (s ∷ ss) st h2 = absurd h2
parts_see h t all (q ∷ qs) [] st h2 = absurd h2
parts_see h t all (q ∷ qs) (s ∷ ss) st h2 = (st.0.sees s t all h2.0, parts_see h t all qs ss st.1 h2.1)

registers_step : (h : Netlist) (t : State) (all : List ℕ) (qs : List Part) (ss : List State) → Both HasCounts qs ss → AllByRecursion ReadsFit qs → Both (Sees h t all) qs ss
    → clocked_registers (seen h t all) (registers_of qs) (joined ss).regs ≡ (joined (next_states (seen h t all) qs ss)).regs
registers_step h t all [] [] c f s = refl
registers_step h t all [] (x ∷ ss) c f s = absurd c
registers_step h t all (q ∷ qs) [] c f s = absurd c
registers_step h t all (q ∷ qs) (x ∷ ss) c f s =
    let v = seen h t all in
    registers_apart v (part_registers q) (registers_of qs) x.regs (joined ss).regs (c.0.0 ∙ sym (length-map q.circuit.regs (renamed_register q.place)))
    ∙ (ap (λ z. z ++ clocked_registers v (registers_of qs) (joined ss).regs) (s.0.registers f.0.regs x.regs)
    ∙ ap (λ z. clocked_registers (seen q.circuit x (map v q.place.inputs)) q.circuit.regs x.regs ++ z) (registers_step h t all qs ss c.1 f.1 s.1))

memories_step : (h : Netlist) (t : State) (all : List ℕ) (qs : List Part) (ss : List State) → Both HasCounts qs ss → AllByRecursion ReadsFit qs → Both (Sees h t all) qs ss
    → clocked_memories (seen h t all) (memories_of qs) (joined ss).mems ≡ (joined (next_states (seen h t all) qs ss)).mems
memories_step h t all [] [] c f s = refl
memories_step h t all [] (x ∷ ss) c f s = absurd c
memories_step h t all (q ∷ qs) [] c f s = absurd c
memories_step h t all (q ∷ qs) (x ∷ ss) c f s =
    let v = seen h t all in
    memories_apart v (part_memories q) (memories_of qs) x.mems (joined ss).mems (c.0.1 ∙ sym (length-map q.circuit.mems (renamed_memory q.place)))
    ∙ (ap (λ z. z ++ clocked_memories v (memories_of qs) (joined ss).mems) (s.0.memories f.0.mems x.mems)
    ∙ ap (λ z. clocked_memories (seen q.circuit x (map v q.place.inputs)) q.circuit.mems x.mems ++ z) (memories_step h t all qs ss c.1 f.1 s.1))

-- the whole circuit steps as its parts do
pub parts_step : (h : Netlist) (qs : List Part) (ss : List State) (all : List ℕ) → h.regs ≡ registers_of qs → h.mems ≡ memories_of qs → AllByRecursion (Stands h) qs → AllByRecursion ReadsFit qs → Both HasCounts qs ss
    → Both (IsHeld (joined ss)) qs ss → stepped h (joined ss) all ≡ joined (next_states (seen h (joined ss) all) qs ss)
parts_step h qs ss all er ej st f c held =
    let v = seen h (joined ss) all in
    let s = parts_see h (joined ss) all qs ss st held in
    let make : List ℕ → List (List ℕ) → State = λ regs mems. record { regs = regs; mems = mems } in
    ap (λ z. make (clocked_registers v z (joined ss).regs) (clocked_memories v h.mems (joined ss).mems)) er
    ∙ (ap (λ z. make (clocked_registers v (registers_of qs) (joined ss).regs) (clocked_memories v z (joined ss).mems)) ej
    ∙ (ap (λ z. make z (clocked_memories v (memories_of qs) (joined ss).mems)) (registers_step h (joined ss) all qs ss c f s)
    ∙ ap (λ z. make (joined (next_states v qs ss)).regs z) (memories_step h (joined ss) all qs ss c f s)))

-- behind an edge there are as many
registers_count : (v : Atom → ℕ) (rs : List Reg) (xs : List ℕ) → length xs ≡ length rs → length (clocked_registers v rs xs) ≡ length rs
registers_count v [] xs e = refl
registers_count v (r ∷ rs) [] e = absurd (omega (arith, e))
registers_count v (r ∷ rs) (x ∷ xs) e = ap suc (registers_count v rs xs (omega (arith, e)))

memories_stay : (v : Atom → ℕ) (ms : List Memory) (xs : List (List ℕ)) → length xs ≡ length ms → length (clocked_memories v ms xs) ≡ length ms
memories_stay v [] xs e = refl
memories_stay v (m ∷ ms) [] e = absurd (omega (arith, e))
memories_stay v (m ∷ ms) (x ∷ xs) e = ap suc (memories_stay v ms xs (omega (arith, e)))

pub next_counts : (v : Atom → ℕ) (qs : List Part) (ss : List State) → Both HasCounts qs ss → Both HasCounts qs (next_states v qs ss)
next_counts v [] [] c = tt
next_counts v [] (s ∷ ss) c = absurd c
next_counts v (q ∷ qs) [] c = absurd c
next_counts v (q ∷ qs) (s ∷ ss) c =
    let value = seen q.circuit s (map v q.place.inputs) in
    ((registers_count value q.circuit.regs s.regs c.0.0, memories_stay value q.circuit.mems s.mems c.0.1), next_counts v qs ss c.1)

-- ---- what registers and memories read fits in the whole

register_fits : (h : Netlist) (q : Part) → Stands h q → (r : Reg) → RegisterFits (widths q.circuit) r → RegisterFits (widths h) (renamed_register q.place r)
register_fits h q st r f = record { bits = f.bits; enable = st.fits 1 r.enable f.enable; next = st.fits r.bits r.next f.next }

port_fits : (h : Netlist) (q : Part) → Stands h q → (m : Memory) (x : Port) → PortFits (widths q.circuit) m x → PortFits (widths h) (renamed_memory q.place m) (renamed_port q.place x)
port_fits h q st m x f = record { addr = st.fits m.depth_log x.addr f.addr; enable = st.fits 1 x.enable f.enable; value = st.fits m.bits x.value f.value }

memory_fits : (h : Netlist) (q : Part) → Stands h q → (m : Memory) → MemoryFits (widths q.circuit) m → MemoryFits (widths h) (renamed_memory q.place m)
memory_fits h q st m f = record {
  bits = f.bits;
  depth = f.depth;
  some = subst (λ z. 0 < z) (sym (length-map m.ports (renamed_port q.place))) f.some;
  ports = All-map (PortFits (widths h) (renamed_memory q.place m)) (renamed_port q.place) m.ports (λ k d lt. port_fits h q st m _ (f.ports k d lt));
}

pub registers_fit : (h : Netlist) (qs : List Part) → AllByRecursion (Stands h) qs → AllByRecursion ReadsFit qs → All (RegisterFits (widths h)) (registers_of qs)
registers_fit h [] st f = All-nil (RegisterFits (widths h))
registers_fit h (q ∷ qs) st f =
    All-append (RegisterFits (widths h)) (part_registers q) (registers_of qs)
    (All-map (RegisterFits (widths h)) (renamed_register q.place) q.circuit.regs (λ k d lt. register_fits h q st.0 _ (f.0.regs k d lt))) (registers_fit h qs st.1 f.1)

pub memories_fit : (h : Netlist) (qs : List Part) → AllByRecursion (Stands h) qs → AllByRecursion ReadsFit qs → All (MemoryFits (widths h)) (memories_of qs)
memories_fit h [] st f = All-nil (MemoryFits (widths h))
memories_fit h (q ∷ qs) st f =
    All-append (MemoryFits (widths h)) (part_memories q) (memories_of qs)
    (All-map (MemoryFits (widths h)) (renamed_memory q.place) q.circuit.mems (λ k d lt. memory_fits h q st.0 _ (f.0.mems k d lt))) (memories_fit h qs st.1 f.1)

-- ---- contents of the whole are contents of the parts

none_fit : (xs : List ℕ) → Fit [] xs → xs ≡ []
none_fit [] f = refl
none_fit (x ∷ xs) f = absurd (let n = fit_length [] (x ∷ xs) f in omega (arith, n))

split_fit : (ws vs xs : List ℕ) → Fit (ws ++ vs) xs → (ys : List ℕ) × (zs : List ℕ) × (ys ++ zs ≡ xs) × Fit ws ys × Fit vs zs
split_fit [] vs xs f = ([], xs, refl, fit_none, f)
split_fit (b ∷ ws) vs [] f = absurd (fit_apart b (ws ++ vs) f)
split_fit (b ∷ ws) vs (x ∷ xs) f =
    let p = fit_parts b x (ws ++ vs) xs f in
    let r = split_fit ws vs xs p.1 in
    (x ∷ r.0, r.1, ap (λ z. x ∷ z) r.2, fit_one b x ws r.0 p.0 r.3, r.4)

abbrev pub MemoryParts : List Memory → List (List ℕ) → Type 0
MemoryParts [] [] = Unit {0}
MemoryParts [] (y ∷ ys) = ⊥
MemoryParts (m ∷ ms) [] = ⊥
MemoryParts (m ∷ ms) (y ∷ ys) = AreWords m y × AreMemories ms ys

pub memory_parts : (ms : List Memory) (ys : List (List ℕ)) → AreMemories ms ys → MemoryParts ms ys
memory_parts _ _ no_memory = tt
memory_parts _ _ (one_memory m words ms mems here are) = (here, are)

no_memories : (ys : List (List ℕ)) → AreMemories [] ys → ys ≡ []
no_memories [] a = refl
no_memories (y ∷ ys) a = absurd (memory_parts [] (y ∷ ys) a)

split_memories : (p : Place) (ms ns : List Memory) (ys : List (List ℕ)) → AreMemories (map (renamed_memory p) ms ++ ns) ys
    → (us : List (List ℕ)) × (vs : List (List ℕ)) × (us ++ vs ≡ ys) × AreMemories ms us × AreMemories ns vs
split_memories p [] ns ys a = ([], ys, refl, no_memory, a)
split_memories p (m ∷ ms) ns [] a = absurd (memory_parts (renamed_memory p m ∷ (map (renamed_memory p) ms ++ ns)) [] a)
split_memories p (m ∷ ms) ns (y ∷ ys) a =
    let h = memory_parts (renamed_memory p m ∷ (map (renamed_memory p) ms ++ ns)) (y ∷ ys) a in
    let r = split_memories p ms ns ys h.1 in
    let same : AreWords m y = record { count = h.0.count; fit = h.0.fit } in
    (y ∷ r.0, r.1, ap (λ z. y ∷ z) r.2, one_memory m y ms r.0 same r.3, r.4)

pub states_split : (qs : List Part) (xs : List ℕ) (ys : List (List ℕ)) → Fit (map (λ (r : Reg). r.bits) (registers_of qs)) xs → AreMemories (memories_of qs) ys
    → (ss : List State) × ((joined ss).regs ≡ xs) × ((joined ss).mems ≡ ys) × Both IsStateOf qs ss
states_split [] xs ys f a = ([], sym (none_fit xs f), sym (no_memories ys a), tt)
states_split (q ∷ qs) xs ys f a =
    let bits : Reg → ℕ = λ r. r.bits in
    let e : map bits (part_registers q ++ registers_of qs) ≡ register_widths q.circuit ++ map bits (registers_of qs) =
    map-append bits (part_registers q) (registers_of qs) ∙ ap (λ z. z ++ map bits (registers_of qs)) (widths_of_registers q.place q.circuit.regs) in
    let r = split_fit (register_widths q.circuit) (map bits (registers_of qs)) xs (subst (λ z. Fit z xs) e f) in
    let m = split_memories q.place q.circuit.mems (memories_of qs) ys a in
    let rest = states_split qs r.1 m.1 r.4 m.4 in
    let s : State = record { regs = r.0; mems = m.0 } in
    (s ∷ rest.0, ap (λ z. r.0 ++ z) rest.1 ∙ r.2, ap (λ z. m.0 ++ z) rest.2 ∙ m.2, (record { regs = r.3; mems = m.3 }, rest.3))

memories_count : (ms : List Memory) (ys : List (List ℕ)) → AreMemories ms ys → length ys ≡ length ms
memories_count _ _ no_memory = refl
memories_count _ _ (one_memory m words ms mems here are) = ap suc (memories_count ms mems are)

pub state_counts : (q : Part) (s : State) → IsStateOf q s → HasCounts q s
state_counts q s h = (sym (fit_length (register_widths q.circuit) s.regs h.regs) ∙ length-map q.circuit.regs (λ (r : Reg). r.bits), memories_count q.circuit.mems s.mems h.mems)

pub states_count : (qs : List Part) (ss : List State) → Both IsStateOf qs ss → Both HasCounts qs ss
states_count [] [] h = tt
states_count [] (s ∷ ss) h = absurd h
states_count (q ∷ qs) [] h = absurd h
states_count (q ∷ qs) (s ∷ ss) h = (state_counts q s h.0, states_count qs ss h.1)
