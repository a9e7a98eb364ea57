-- Lists that grow, and ports one after another.
use Rattle.std.proofs.Common.{◌≡◌, ◌<◌, ◌≤◌, inl, inr, ℕ, ◌+◌, List, [], ◌∷◌, ◌++◌, length, map, take, get_or, slice_get, Some, sym, ap, ◌∙◌, subst, arith}
use Rattle.std.specs.Result.{IfOk}
use Rattle.std.specs.List.{range_with_len}
use Rattle.std.proofs.Common.{Result, Ok, Err}
use Rattle.std.proofs.lemmas.List.{take_more, take_all, map-append, length-take, length-map}
use Rattle.std.proofs.lemmas.List.FromFn.{get_or-map-range_with_len, length-map-range_with_len}
use Rattle.std.proofs.lemmas.Option.{none-some, slice_get_within, get_or_from_slice_get}
use Rattle.rtl_core.specs.declared.design.Atom.{Atom}
use Rattle.rtl_core.specs.declared.design.Port.{Port}
use Rattle.rtl_core.specs.Netlist.{Netlist}
use Rattle.rtl_logic.specs.Making.{Appends}
use Rattle.rtl_logic.proofs.Making.{appended, appends_none, appends_both, goes_on}
use Rattle.datapath.specs.Plans.{Plan}
use Rattle.datapath.specs.Cycles.{Register}
use Rattle.datapath.specs.Ports.{port_count}
use Rattle.datapath.specs.CircuitWires.Carrying.{IsBegun}
use Rattle.circuit_units.specs.declared.memories.memories.PortWires.{PortWires}
use Rattle.circuit_units.specs.declared.memories.places.Place.{Place}
use Rattle.circuit_units.specs.Memories.Places.{IsPlace, MakesPort, MakesPorts, IsPortMade, SetsWord, SetsWords, AreShownAt, MakesTablePort, MakesTablePorts}
use Rattle.circuit_units.proofs.MemoriesLemmas.Registers.{pushed, no_words, words_more}
use Rattle.circuit_units.proofs.MemoriesLemmas.Arrays.{port_later, shown_later}

-- ---- lists

pub both_ok : {X Y : Type 0} (r : Result X Y) (P Q R : X → Type 0) → ((x : X) → P x → Q x → R x) → IfOk r P → IfOk r Q → IfOk r R
both_ok (Ok x) P Q R f h k = f x h k
both_ok (Err e) P Q R f h k = tt

pub mapped_more : {A B : Type 0} (f : A → B) (xs : List A) (i : ℕ) (d : A) (old new : List B) → i < length xs → old ≡ map f (take i xs) → new ≡ old ++ f (get_or xs i d) ∷ [] → new ≡ map f (take (i + 1) xs)
mapped_more f xs i d old new within is more =
    more ∙ (ap (λ l. l ++ f (get_or xs i d) ∷ []) is ∙ (sym (map-append f (take i xs) (get_or xs i d ∷ [])) ∙ ap (map f) (sym (take_more xs i d within))))

pub mapped_all : {A B : Type 0} (f : A → B) (xs : List A) (i : ℕ) (all : List B) → length xs ≤ i → all ≡ map f (take i xs) → all ≡ map f xs
mapped_all f xs i all past is = is ∙ ap (map f) (take_all i xs past)

pub taken_more : {A : Type 0} (xs : List A) (i : ℕ) (x : A) → slice_get xs i ≡ Some x → take (i + 1) xs ≡ take i xs ++ x ∷ []
taken_more xs i x at = take_more xs i x (slice_get_within xs i x at) ∙ ap (λ y. take i xs ++ y ∷ []) (get_or_from_slice_get xs i x x at)

pub count_at : (p : Plan) (counts : List ℕ) (a d : ℕ) → counts ≡ map (port_count p) (range_with_len 0 (length p.arrays)) → a < length counts → get_or counts a d ≡ port_count p a
count_at p counts a d is within =
    let inside : a < length p.arrays = subst (λ n. a < n) (ap length is ∙ length-map-range_with_len (port_count p) 0 (length p.arrays)) within in
    let e : 0 + a ≡ a = omega arith in
    ap (λ l. get_or l a d) is ∙ get_or-map-range_with_len (port_count p) 0 (length p.arrays) a a d inside e

-- ---- ports

-- another port of the array
pub place_at : (p : Plan) (place : Place) (n : ℕ) → IsPlace p place → IsPlace p (record { array = place.array; port = n; bits = place.bits; depth = place.depth })
place_at p place n h = record { there = h.there; bits = h.bits; depth_ = h.depth_; wide = h.wide; deep = h.deep; short = h.short }

pub no_ports : (p : Plan) (names : List Register) (d : Netlist) (a : ℕ) → IsBegun p names d → MakesPorts p names d d a []
no_ports p names d a begun = record { appends = appends_none d; begun = begun; are = λ n port at. absurd (none-some port at) }

pub ports_more : (p : Plan) (names : List Register) (d e f : Netlist) (a n : ℕ) (ports : List Port) (port : Port) → n ≡ length ports → MakesPorts p names d e a ports → MakesPort p names e f a n port
    → MakesPorts p names d f a (ports ++ port ∷ [])
ports_more p names d e f a n ports port at h k = record {
  appends = appends_both d e f h.appends k.appends;
  begun = k.begun;
  are = λ m q there. elim (pushed ports port q m there) [
    | inl before ↦ port_later p names e f a m q (appended e f k.appends) (h.are m q before)
    | inr last ↦ subst (λ (i : ℕ). IsPortMade p names f a i q) (at ∙ sym last.0) (subst (IsPortMade p names f a n) last.1 k.is)
  ];
}

pub sets_behind : (p : Plan) (names : List Register) (d e f : Netlist) (a n : ℕ) (address : Atom) → Appends d e → SetsWord p names e f a n address → SetsWord p names d f a n address
sets_behind p names d e f a n address first h = record {
  extends = goes_on d e f (appended d e first) h.extends;
  begun = h.begun;
  others = λ k r here apart. h.others k r here apart ∙ ap (λ (x : Netlist). slice_get x.regs k) first.is;
  driven = h.driven;
  mems = h.mems ∙ ap (λ (x : Netlist). x.mems) first.is;
  outputs = h.outputs ∙ ap (λ (x : Netlist). x.outputs) first.is;
}

pub sets_all_behind : (p : Plan) (names : List Register) (d e f : Netlist) (a : ℕ) (addresses : List Atom) → Appends d e → SetsWords p names e f a addresses → SetsWords p names d f a addresses
sets_all_behind p names d e f a addresses first h = record {
  extends = goes_on d e f (appended d e first) h.extends;
  begun = h.begun;
  others = λ k r here apart. h.others k r here apart ∙ ap (λ (x : Netlist). slice_get x.regs k) first.is;
  driven = h.driven;
  mems = h.mems ∙ ap (λ (x : Netlist). x.mems) first.is;
  outputs = h.outputs ∙ ap (λ (x : Netlist). x.outputs) first.is;
}

pub no_table_ports : (p : Plan) (names : List Register) (d : Netlist) (a : ℕ) → IsBegun p names d → MakesTablePorts p names d d a []
no_table_ports p names d a begun = record { sets = no_words p names d a begun; shown = λ n w at. absurd (none-some w at) }

pub table_ports_more : (p : Plan) (names : List Register) (d e f : Netlist) (a n : ℕ) (wires : List PortWires) (w : PortWires) → n ≡ length wires → MakesTablePorts p names d e a wires → MakesTablePort p names e f a n w
    → MakesTablePorts p names d f a (wires ++ w ∷ [])
table_ports_more p names d e f a n wires w at h k = record {
  sets = subst (SetsWords p names d f a) (sym (map-append (λ (v : PortWires). v.address) wires (w ∷ [])))
      (words_more p names d e f a n (map (λ (v : PortWires). v.address) wires) w.address (at ∙ sym (length-map wires (λ (v : PortWires). v.address))) h.sets k.sets);
  shown = λ m v there. elim (pushed wires w v m there) [
    | inl before ↦ shown_later p names e f a m v k.sets.extends (h.shown m v before)
    | inr last ↦ subst (λ (i : ℕ). AreShownAt p names f a i v) (at ∙ sym last.0) (subst (AreShownAt p names f a n) last.1 k.shown)
  ];
}

-- ---- words one after another

pub words_taken : (p : Plan) (names : List Register) (d e f : Netlist) (a n : ℕ) (addresses : List Atom) (address : Atom) → slice_get addresses n ≡ Some address → SetsWords p names d e a (take n addresses)
    → SetsWord p names e f a n address → SetsWords p names d f a (take (n + 1) addresses)
words_taken p names d e f a n addresses address at h k =
    let within = slice_get_within addresses n address at in
    let count : n ≡ length (take n addresses) = omega (arith, within, length-take n addresses) in
    subst (SetsWords p names d f a) (sym (taken_more addresses n address at)) (words_more p names d e f a n (take n addresses) address count h k)
