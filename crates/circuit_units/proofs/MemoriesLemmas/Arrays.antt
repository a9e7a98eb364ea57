-- Arrays, one after another.
use Rattle.std.proofs.Common.{◌≡◌, ◌<◌, ◌⊎◌, inl, inr, ℕ, zero, suc, ◌+◌, List, [], ◌∷◌, ◌++◌, length, map, slice_get, Option, Some, None, refl, sym, ap, ◌∙◌, subst, length-append, arith}
use Rattle.std.specs.Option.{option_map}
use Rattle.std.specs.Prelude.{◌≢◌, is_none, Bool}
use Rattle.std.specs.List.{range_with_len}
use Rattle.std.proofs.lemmas.List.{append-nil, map-append, length-map}
use Rattle.std.proofs.lemmas.List.Sums.{count_by_more_yes, count_by_more_no}
use Rattle.std.proofs.lemmas.Bool.{cases_lt}
use Rattle.std.proofs.lemmas.Option.{none-some, same_Some, slice_get-map, slice_get_within, get_or_from_slice_get}
use Rattle.rtl_core.specs.declared.design.Atom.{Atom}
use Rattle.rtl_core.specs.declared.design.Port.{Port}
use Rattle.rtl_core.specs.Netlist.{Netlist, Memory}
use Rattle.rtl_core.specs.ClockStep.{seen}
use Rattle.rtl_core.proofs.Stability.{Extends, get_same}
use Rattle.rtl_units.specs.Fragments.{memory_with}
use Rattle.rtl_logic.specs.Making.{Appends}
use Rattle.rtl_logic.proofs.Making.{appended, goes_on, stays}
use Rattle.datapath.specs.Plans.{Plan, Array, array_at, no_array, depth}
use Rattle.datapath.specs.Cycles.{Register, Word, AddressOf, StoredOf}
use Rattle.datapath.specs.Netlists.{memory_of}
use Rattle.datapath.specs.Ports.{port_count}
use Rattle.datapath.specs.CircuitWires.Carrying.{IsBegun}
use Rattle.datapath.proofs.Combining.{carries_on}
use Rattle.circuit_context.proofs.WantedLemmas.Joining.{pushes_later}
use Rattle.circuit_context.specs.Wanted.Entries.{all_demands}
use Rattle.circuit_context.specs.Wanted.Driving.{Seen, IsDriven, IsPort, IsMemory, ShowsSignal}
use Rattle.circuit_context.specs.declared.wanted.log.Groups.{Groups}
use Rattle.circuit_context.specs.declared.context.Context.{Context}
use Rattle.circuit_units.specs.declared.memories.memories.PortWires.{PortWires}
use Rattle.circuit_units.specs.declared.memories.memories.PortTable.{PortTable}
use Rattle.circuit_units.specs.declared.memories.places.Outside.{Outside}
use Rattle.circuit_units.specs.Memories.{array_signals, IsOther, AddsMemories}
use Rattle.circuit_units.specs.Memories.Places.{IsReady, IsAccess, IsPortMade, wires_at, AreShownAt, SetsWords, MakesTablePorts, AddsArray}
use Rattle.circuit_units.proofs.MemoriesLemmas.Chosen.{wanted_later, other_later}
use Rattle.circuit_units.proofs.MemoriesLemmas.Registers.{driven_later, same_array}
use Rattle.circuit_units.proofs.MemoriesLemmas.Stores.{HasStore}
use Rattle.circuit_units.proofs.MemoriesLemmas.Signals.{Within, within_first, within_last, one_of, all_within, address_there, stored_there, at_port_of, signals_in, signals_more}

-- ---- later circuits

pub ready_later : (p : Plan) (names : List Register) (of : Context) (groups : Groups) (d e : Netlist) → Extends d e → IsBegun p names e → IsReady p names of groups d → IsReady p names of groups e
ready_later p names of groups d e longer begun h = record {
  context = h.context;
  begun = begun;
  distinct = h.distinct;
  pushes = h.pushes;
  are = pushes_later p names d e h.pushes (all_demands p) longer h.are;
  held = h.held;
}

pub access_later : (p : Plan) (names : List Register) (d e : Netlist) (a n : ℕ) (o : Option Outside) → Extends d e → IsAccess p names d a n o → IsAccess p names e a n o
access_later p names d e a n None longer h = h
access_later p names d e a n (Some o) longer h = record {
  addr = other_later p names d e (depth p a) o.addr _ longer h.addr;
  value = other_later p names d e (array_at p a).bits o.value _ longer h.value;
  enable = carries_on p names d e 1 o.enable _ longer h.enable;
}

pub port_later : (p : Plan) (names : List Register) (d e : Netlist) (a n : ℕ) (port : Port) → Extends d e → IsPortMade p names d a n port → IsPortMade p names e a n port
port_later p names d e a n port longer h = record {
  addr = wanted_later p names d e (depth p a) port.addr _ _ longer h.addr;
  value = wanted_later p names d e (array_at p a).bits port.value _ _ longer h.value;
  enable = carries_on p names d e 1 port.enable _ longer h.enable;
}

pub shown_later : (p : Plan) (names : List Register) (d e : Netlist) (a n : ℕ) (w : PortWires) → Extends d e → AreShownAt p names d a n w → AreShownAt p names e a n w
shown_later p names d e a n w longer h = record {
  address = wanted_later p names d e (depth p a) w.address _ _ longer h.address;
  stored = wanted_later p names d e (array_at p a).bits w.stored _ _ longer h.stored;
}

signal_later : (p : Plan) (names : List Register) (d e : Netlist) (x : Seen) → Extends d e → ShowsSignal p names d x → ShowsSignal p names e x
signal_later p names d e x longer h = record { bits = h.bits; carries = wanted_later p names d e h.bits x.1 _ _ longer h.carries }

driven_more : (p : Plan) (names : List Register) (xs ys : List Seen) (d : Netlist) (k : ℕ) (r : Register) → Within xs ys → IsDriven p names xs d k r → IsDriven p names ys d k r
driven_more p names xs ys d k r within h = record {
  reg = h.reg;
  stands = h.stands;
  takes = λ e s pins x signals m follow. h.takes e s pins x signals m (all_within (λ (y : Seen). signals y.0 ≡ seen e s pins y.1) xs ys within follow);
}

in_more : (x : Seen) (xs ys : List Seen) → Within xs ys → (k : ℕ) × (slice_get xs k ≡ Some x) → (k : ℕ) × (slice_get ys k ≡ Some x)
in_more x xs ys within at = within at.0 x at.1

memory_more : (p : Plan) (names : List Register) (xs ys : List Seen) (d e : Netlist) (a : ℕ) (m : Memory) (more : List Memory) → Within xs ys → Extends d e → e.mems ≡ d.mems ++ more → IsMemory p names xs d a m
    → IsMemory p names ys e a m
memory_more p names xs ys d e a m more within longer mems h = record {
  stands = get_same d.mems e.mems more (memory_of p a) m mems h.stands;
  bits = h.bits;
  depth_log = h.depth_log;
  count = h.count;
  ports = λ n port at.
      let port_h : IsPort p names xs d a n port = h.ports n port at in
      record {
        address = in_more (AddressOf a n, port.addr) xs ys within port_h.address;
        value = in_more (StoredOf a n, port.value) xs ys within port_h.value;
        enable = carries_on p names d e 1 port.enable _ longer port_h.enable;
      };
}

-- ---- the signals of an array

signals_shown : (p : Plan) (names : List Register) (d : Netlist) (a : ℕ) (wires : List PortWires) → ((n : ℕ) (w : PortWires) → slice_get wires n ≡ Some w → AreShownAt p names d a n w) → (k : ℕ) (x : Seen)
    → slice_get (array_signals (a, wires)) k ≡ Some x → ShowsSignal p names d x
signals_shown p names d a wires shown k x at =
    let there = at_port_of a k wires x at in by_kind there.0 there.1 (shown there.0 there.1 there.2) there.3
  where
    by_kind : (n : ℕ) (w : PortWires) → AreShownAt p names d a n w → (x ≡ (AddressOf a n, w.address)) ⊎ (x ≡ (StoredOf a n, w.stored)) → ShowsSignal p names d x
    by_kind n w h (inl is) = subst (ShowsSignal p names d) (sym is) (record { bits = depth p a; carries = h.address })
    by_kind n w h (inr is) = subst (ShowsSignal p names d) (sym is) (record { bits = (array_at p a).bits; carries = h.stored })

one_within : (a n : ℕ) (wires : List PortWires) (w : PortWires) → slice_get wires n ≡ Some w → Within ((AddressOf a n, w.address) ∷ []) (array_signals (a, wires))
one_within a n wires w at zero x is = let there = address_there a n wires w at in (there.0, there.1 ∙ is)
one_within a n wires w at (suc k) x is = absurd (none-some x is)

some_at : {A : Type 0} (xs : List A) (k : ℕ) → k < length xs → (x : A) × (slice_get xs k ≡ Some x)
some_at [] k h = absurd (omega (arith, h))
some_at (x ∷ xs) zero h = (x, refl)
some_at (x ∷ xs) (suc k) h = some_at xs k (omega (arith, h))

abbrev addresses_of : List PortWires → List Atom
addresses_of wires = map (λ (w : PortWires). w.address) wires

-- the registers of all ports
words_driven : (p : Plan) (names : List Register) (d e : Netlist) (a : ℕ) (wires : List PortWires) → length wires ≡ port_count p a → SetsWords p names d e a (addresses_of wires) → (k n : ℕ) → n < port_count p a
    → slice_get names k ≡ Some (Word a n) → IsDriven p names (array_signals (a, wires)) e k (Word a n)
words_driven p names d e a wires counted sets k n less here =
    let there = some_at wires n (omega (arith, less, counted)) in
    driven_more p names ((AddressOf a n, there.0.address) ∷ []) (array_signals (a, wires)) e k (Word a n) (one_within a n wires there.0 there.1)
    (sets.driven k n there.0.address (slice_get-map (λ (w : PortWires). w.address) wires n ∙ ap (option_map (λ (w : PortWires). w.address)) there.1) here)

-- ---- how many memories there are

abbrev is_memory : Array → Bool
is_memory b = is_none b.table

pub table_counted : (p : Plan) (a : ℕ) (words : List ℕ) → a < length p.arrays → (array_at p a).table ≡ Some words → memory_of p (a + 1) ≡ memory_of p a
table_counted p a words there is = count_by_more_no is_memory p.arrays a no_array there (ap is_none is)

pub memory_counted : (p : Plan) (a : ℕ) → a < length p.arrays → (array_at p a).table ≡ None → memory_of p (a + 1) ≡ memory_of p a + 1
memory_counted p a there is = count_by_more_yes is_memory p.arrays a no_array there (ap is_none is)

-- ---- one array

-- a table
pub table_added : (p : Plan) (names : List Register) (d e : Netlist) (a : ℕ) (words : List ℕ) (wires : List PortWires) → a < length p.arrays → (array_at p a).table ≡ Some words → length d.mems ≡ memory_of p a
    → length wires ≡ port_count p a → MakesTablePorts p names d e a wires → AddsArray p names d e a wires
table_added p names d e a words wires there is number counted h = record {
  extends = h.sets.extends;
  begun = h.sets.begun;
  others = λ k r here apart. h.sets.others k r here (λ n less. apart n);
  words = words_driven p names d e a wires counted h.sets;
  outputs = h.sets.outputs;
  count = counted;
  shown = signals_shown p names e a wires h.shown;
  more = [];
  mems = h.sets.mems ∙ sym (append-nil d.mems);
  memory = λ none. absurd (none-some words (sym none ∙ is));
  only = ap length h.sets.mems ∙ (number ∙ sym (table_counted p a words there is));
}

wires_get : (ports : List Port) (n : ℕ) (w : PortWires) → slice_get (map wires_at ports) n ≡ Some w → (port : Port) × (slice_get ports n ≡ Some port) × (w ≡ wires_at port)
wires_get [] n w h = absurd (none-some w h)
wires_get (q ∷ ports) zero w h = (q, refl, sym (same_Some (wires_at q) w h))
wires_get (q ∷ ports) (suc n) w h = wires_get ports n w h

ports_shown : (p : Plan) (names : List Register) (d e : Netlist) (a : ℕ) (ports : List Port) → Extends d e → ((n : ℕ) (port : Port) → slice_get ports n ≡ Some port → IsPortMade p names d a n port)
    → (n : ℕ) (w : PortWires) → slice_get (map wires_at ports) n ≡ Some w → AreShownAt p names e a n w
ports_shown p names d e a ports longer made n w at =
    let there = wires_get ports n w at in
    let port_h : IsPortMade p names e a n there.0 = port_later p names d e a n there.0 longer (made n there.0 there.1) in
    subst (AreShownAt p names e a n) (sym there.2) (record { address = port_h.addr; stored = port_h.value })

-- a memory, whose registers are driven last
pub memory_added : (p : Plan) (names : List Register) (b d e f : Netlist) (a bits depth_ : ℕ) (ports : List Port) (words : List Atom) → a < length p.arrays → (array_at p a).table ≡ None
    → bits ≡ (array_at p a).bits → depth_ ≡ depth p a → length b.mems ≡ memory_of p a → length ports ≡ port_count p a → Appends b d
    → ((n : ℕ) (port : Port) → slice_get ports n ≡ Some port → IsPortMade p names d a n port) → HasStore p names d e a bits depth_ ports words → SetsWords p names e f a (map (λ (port : Port). port.addr) ports)
    → AddsArray p names b f a (map wires_at ports)
memory_added p names b d e f a bits depth_ ports words there none wide deep number counted first made store sets = record {
  extends = goes_on b d f (appended b d first) later;
  begun = sets.begun;
  others = λ k r here apart. sets.others k r here (λ n less. apart n) ∙ (ap (λ l. slice_get l k) store.regs ∙ ap (λ (n : Netlist). slice_get n.regs k) first.is);
  words = words_driven p names e f a (map wires_at ports) (length-map ports wires_at ∙ counted) (subst (SetsWords p names e f a) (same_addresses ports) sets);
  outputs = sets.outputs ∙ (store.outputs ∙ ap (λ (n : Netlist). n.outputs) first.is);
  count = length-map ports wires_at ∙ counted;
  shown = signals_shown p names f a (map wires_at ports) (ports_shown p names d f a ports later made);
  more = m ∷ [];
  mems = mems;
  memory = λ is. (
    m,
    record {
      stands = ap (λ l. slice_get l (memory_of p a)) mems ∙ subst (λ k. slice_get (b.mems ++ m ∷ []) k ≡ Some m) number (last_of b.mems m);
      bits = wide;
      depth_log = deep;
      count = counted;
      ports = λ n port at. record {
        address = address_there a n (map wires_at ports) (wires_at port) (slice_get-map wires_at ports n ∙ ap (option_map wires_at) at);
        value = stored_there a n (map wires_at ports) (wires_at port) (slice_get-map wires_at ports n ∙ ap (option_map wires_at) at);
        enable = (port_later p names d f a n port later (made n port at)).enable;
      };
    },
  );
  only = ap length mems ∙ (length-append b.mems (m ∷ []) ∙ (ap (λ k. k + 1) number ∙ sym (memory_counted p a there none)));
} where
  m : Memory
  m = memory_with bits depth_ ports

  later : Extends d f
  later = goes_on d e f store.extends sets.extends

  mems : f.mems ≡ b.mems ++ m ∷ []
  mems = sets.mems ∙ (store.mems ∙ ap (λ (n : Netlist). n.mems ++ m ∷ []) first.is)

  last_of : (xs : List Memory) (x : Memory) → slice_get (xs ++ x ∷ []) (length xs) ≡ Some x
  last_of [] x = refl
  last_of (y ∷ ys) x = last_of ys x

  same_addresses : (qs : List Port) → map (λ (port : Port). port.addr) qs ≡ addresses_of (map wires_at qs)
  same_addresses [] = refl
  same_addresses (q ∷ qs) = ap (λ l. q.addr ∷ l) (same_addresses qs)

-- ---- all arrays

-- the first arrays are added, with their ports
pub record AddsFirst (p : Plan) (names : List Register) (d e : Netlist) (tables : List (List PortWires)) : Type 0 where
  pub extends : Extends d e
  pub begun : IsBegun p names e
  pub others : (k : ℕ) (r : Register) → slice_get names k ≡ Some r → IsOther r → slice_get e.regs k ≡ slice_get d.regs k
  pub words : (k a n : ℕ) → a < length tables → n < port_count p a → slice_get names k ≡ Some (Word a n) → IsDriven p names (signals_in tables) e k (Word a n)
  pub outputs : e.outputs ≡ d.outputs
  pub counts : map (λ (ports : List PortWires). length ports) tables ≡ map (port_count p) (range_with_len 0 (length tables))
  pub shown : (k : ℕ) (x : Seen) → slice_get (signals_in tables) k ≡ Some x → ShowsSignal p names e x
  pub memories : (a : ℕ) → a < length tables → (array_at p a).table ≡ None → (m : Memory) × IsMemory p names (signals_in tables) e a m
  pub only : length e.mems ≡ memory_of p (length tables)

pub none_added : (p : Plan) (names : List Register) (d : Netlist) → IsBegun p names d → d.mems ≡ [] → AddsFirst p names d d []
none_added p names d begun empty = record {
  extends = stays d;
  begun = begun;
  others = λ k r here other. refl;
  words = λ k a n less within here. absurd (omega (arith, less));
  outputs = refl;
  counts = refl;
  shown = λ k x at. absurd (none-some x at);
  memories = λ a less none. absurd (omega (arith, less));
  only = ap length empty;
}

range_more : (k n : ℕ) → range_with_len k (suc n) ≡ range_with_len k n ++ (k + n) ∷ []
range_more k zero = let e : k ≡ k + 0 = omega arith in ap (λ (i : ℕ). i ∷ []) e
range_more k (suc n) = let e : k + 1 + n ≡ k + suc n = omega arith in ap (λ l. k ∷ l) (range_more (k + 1) n ∙ ap (λ (i : ℕ). range_with_len (k + 1) n ++ i ∷ []) e)

pub one_added : (p : Plan) (names : List Register) (d e f : Netlist) (a : ℕ) (tables : List (List PortWires)) (wires : List PortWires) → a ≡ length tables → AddsFirst p names d e tables → AddsArray p names e f a wires
    → AddsFirst p names d f (tables ++ wires ∷ [])
one_added p names d e f a tables wires at h k = record {
  extends = goes_on d e f h.extends k.extends;
  begun = k.begun;
  others = λ j r here other. k.others j r here (λ n. other a n) ∙ h.others j r here other;
  words = λ j b n less within here. word_of_all j b n (by_array b (omega (arith, less, counted))) within here;
  outputs = k.outputs ∙ h.outputs;
  counts = map-append (λ (ports : List PortWires). length ports) tables (wires ∷ [])
      ∙ (ap (λ l. l ++ length wires ∷ []) h.counts
      ∙ (ap (λ (i : ℕ). map (port_count p) (range_with_len 0 (length tables)) ++ i ∷ []) (k.count ∙ ap (port_count p) (let e : a ≡ 0 + length tables = omega (arith, at) in e))
      ∙ (sym (map-append (port_count p) (range_with_len 0 (length tables)) ((0 + length tables) ∷ [])) ∙ ap (map (port_count p)) (sym (range_more 0 (length tables)) ∙ ap (range_with_len 0) (let e : suc (length tables) ≡ length (tables ++ wires ∷ []) = omega (arith, counted) in e)))));
  shown = λ j x there. shown_of_all x (one_of (signals_in tables) (array_signals (a, wires)) j x (ap (λ l. slice_get l j) (sym signals_are) ∙ there));
  memories = λ b less none. memory_of_all b (by_array b (omega (arith, less, counted))) none;
  only = k.only ∙ ap (memory_of p) (ap (λ (i : ℕ). i + 1) at ∙ sym counted);
} where
  counted : length (tables ++ wires ∷ []) ≡ length tables + 1
  counted = length-append tables (wires ∷ [])

  all : List Seen
  all = signals_in (tables ++ wires ∷ [])

  signals_are : all ≡ signals_in tables ++ array_signals (a, wires)
  signals_are = signals_more tables wires ∙ ap (λ (i : ℕ). signals_in tables ++ array_signals (i, wires)) (sym at)

  first : Within (signals_in tables) all
  first = subst (Within (signals_in tables)) (sym signals_are) (within_first (signals_in tables) (array_signals (a, wires)))

  last : Within (array_signals (a, wires)) all
  last = subst (Within (array_signals (a, wires))) (sym signals_are) (within_last (signals_in tables) (array_signals (a, wires)))

  by_array : (b : ℕ) → b < length tables + 1 → (b < length tables) ⊎ (b ≡ a)
  by_array b less = elim (cases_lt b (length tables)) [ inl low ↦ inl low | inr high ↦ inr (omega (arith, high, less, at)) ]

  word_of_all : (j b n : ℕ) → (b < length tables) ⊎ (b ≡ a) → n < port_count p b → slice_get names j ≡ Some (Word b n) → IsDriven p names all f j (Word b n)
  word_of_all j b n (inl low) within here =
      let apart : (i : ℕ) → Word b n ≢ Word a i = λ i e. absurd (omega (arith, low, at, same_array b a n i e)) in
      driven_more p names (signals_in tables) all f j (Word b n) first (driven_later p names (signals_in tables) e f j (Word b n) k.extends (k.others j (Word b n) here apart) (h.words j b n low within here))
  word_of_all j b n (inr is) within here =
      subst (λ (i : ℕ). IsDriven p names all f j (Word i n)) (sym is)
      (driven_more p names (array_signals (a, wires)) all f j (Word a n) last (k.words j n (subst (λ i. n < port_count p i) is within) (subst (λ (i : ℕ). slice_get names j ≡ Some (Word i n)) is here)))

  shown_of_all : (x : Seen) → ((j : ℕ) × (slice_get (signals_in tables) j ≡ Some x)) ⊎ ((j : ℕ) × (slice_get (array_signals (a, wires)) j ≡ Some x)) → ShowsSignal p names f x
  shown_of_all x (inl before) = signal_later p names e f x k.extends (h.shown before.0 x before.1)
  shown_of_all x (inr here) = k.shown here.0 x here.1

  memory_of_all : (b : ℕ) → (b < length tables) ⊎ (b ≡ a) → (array_at p b).table ≡ None → (m : Memory) × IsMemory p names all f b m
  memory_of_all b (inl low) none =
      let there = h.memories b low none in (there.0, memory_more p names (signals_in tables) all e f b there.0 k.more first k.extends k.mems there.1)
  memory_of_all b (inr is) none =
      let there = k.memory (subst (λ i. (array_at p i).table ≡ None) is none) in
      (there.0, subst (λ (i : ℕ). IsMemory p names all f i there.0) (sym is) (memory_more p names (array_signals (a, wires)) all f f a there.0 [] last (stays f) (sym (append-nil f.mems)) there.1))

table_of : (p : Plan) (a : ℕ) (array : Array) → slice_get p.arrays a ≡ Some array → array_at p a ≡ array
table_of p a array at = get_or_from_slice_get p.arrays a array no_array at

mapped_twice : {A B C : Type 0} (f : A → B) (g : B → C) (xs : List A) → map g (map f xs) ≡ map (λ x. g (f x)) xs
mapped_twice f g [] = refl
mapped_twice f g (x ∷ xs) = ap (λ l. g (f x) ∷ l) (mapped_twice f g xs)

-- all arrays are
pub all_added : (p : Plan) (names : List Register) (d e : Netlist) (table : PortTable) → length table.ports.items ≡ length p.arrays → AddsFirst p names d e (map (λ ports. ports.items) table.ports.items)
    → AddsMemories p names d e table
all_added p names d e table counted h = record {
  extends = h.extends;
  begun = h.begun;
  others = h.others;
  words = λ k a n less within here. h.words k a n (subst (λ m. a < m) (sym whole) less) within here;
  outputs = h.outputs;
  counts = sym (mapped_twice (λ ports. ports.items) (λ (ports : List PortWires). length ports) table.ports.items) ∙ (h.counts ∙ ap (λ m. map (port_count p) (range_with_len 0 m)) whole);
  shown = h.shown;
  memories = λ a array at none. h.memories a (subst (λ m. a < m) (sym whole) (slice_get_within p.arrays a array at)) (ap (λ (b : Array). b.table) (table_of p a array at) ∙ none);
  only = h.only ∙ ap (memory_of p) whole;
} where
  whole : length (map (λ ports. ports.items) table.ports.items) ≡ length p.arrays
  whole = length-map table.ports.items (λ ports. ports.items) ∙ counted
