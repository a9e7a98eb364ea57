-- The registers of the words that are read.
use Rattle.std.proofs.Common.{◌≡◌, ◌<◌, ◌⊎◌, inl, inr, ℕ, zero, suc, ◌+◌, ◌^◌, ◌%◌, List, [], ◌∷◌, ◌++◌, length, slice_get, Option, Some, refl, sym, ap, ◌∙◌, subst, length-append, arith}
use Rattle.std.specs.Prelude.{◌≢◌, ◌==◌, ◌&&◌, ◌||◌, Bool, true, false, not, is_some, map, if◌then◌else◌}
use Rattle.std.specs.List.{list_any}
use Rattle.std.proofs.lemmas.Bool.{false≢true, cases_eq, cond-true, cond-false, ne_eqb}
use Rattle.std.proofs.lemmas.Nat.{pow_pos}
use Rattle.std.proofs.lemmas.List.{length-map}
use Rattle.std.proofs.lemmas.List.Elements.{All-head}
use Rattle.std.proofs.lemmas.Option.{none-some, same_Some, slice_get_within}
use Rattle.rtl_core.specs.declared.design.Atom.{Atom}
use Rattle.rtl_core.specs.declared.design.Atom.TheVariants as atom
use Rattle.rtl_core.specs.declared.design.Reg.{Reg}
use Rattle.rtl_core.specs.Netlist.{Netlist}
use Rattle.rtl_core.specs.ClockStep.{State, seen}
use Rattle.rtl_core.specs.Valid.{IsBetween}
use Rattle.rtl_core.proofs.Stability.{Extends}
use Rattle.rtl_logic.specs.Making.{Makes, next_set, with_next_at, with_next}
use Rattle.rtl_logic.specs.Choosing.{Takes, where_}
use Rattle.rtl_logic.proofs.Making.{appended, appends_both, goes_on, stays, fits_later}
use Rattle.datapath.specs.Plans.{Plan, array_at}
use Rattle.datapath.specs.Cycles.{Register, Word, Contents, Signal, AddressOf, Cycle, in_cycle, bit}
use Rattle.datapath.specs.Circuits.{width}
use Rattle.datapath.specs.Ports.{port_count, loads, is_enabled, is_refused, is_reading, word_of, read_word}
use Rattle.datapath.specs.CircuitWires.Carrying.{IsRegister, IsMoment, IsBegun, Carries, Tells, MakesTelling}
use Rattle.datapath.proofs.Combining.{carries_on, moment_same, begun_after, bit_is, set_extends, set_begun}
use Rattle.circuit_context.specs.Wanted.Driving.{Seen, IsDriven, AreDistinct}
use Rattle.circuit_units.specs.Memories.Places.{ReadsWord, ReadWords, IsReading, AreReadings, SetsWord, SetsWords, reading_at}
use Rattle.circuit_units.specs.declared.memories.words.Reading.{Reading}
use Rattle.circuit_units.proofs.MemoriesLemmas.Chosen.{number_carries}

-- ---- lists

mapped_from : {A B : Type 0} (f : A → B) (xs : List A) (k : ℕ) (y : B) → slice_get (map f xs) k ≡ Some y → (x : A) × (slice_get xs k ≡ Some x) × (y ≡ f x)
mapped_from f [] k y h = absurd (none-some y h)
mapped_from f (x ∷ xs) zero y h = (x, refl, sym (same_Some (f x) y h))
mapped_from f (x ∷ xs) (suc k) y h = mapped_from f xs k y h

set_here : (regs : List Reg) (k : ℕ) (enable next : Atom) (r : Reg) → slice_get regs k ≡ Some r → slice_get (with_next_at k enable next regs) k ≡ Some (next_set enable next r)
set_here [] k enable next r h = absurd (none-some r h)
set_here (x ∷ xs) zero enable next r h = ap (λ (y : Reg). Some (next_set enable next y)) (same_Some x r h)
set_here (x ∷ xs) (suc k) enable next r h = set_here xs k enable next r h

set_there : (regs : List Reg) (k j : ℕ) (enable next : Atom) → j ≢ k → slice_get (with_next_at k enable next regs) j ≡ slice_get regs j
set_there [] k j enable next h = refl
set_there (x ∷ xs) zero zero enable next h = absurd (h refl)
set_there (x ∷ xs) zero (suc j) enable next h = refl
set_there (x ∷ xs) (suc k) zero enable next h = refl
set_there (x ∷ xs) (suc k) (suc j) enable next h = set_there xs k j enable next (λ e. h (ap suc e))

found : {A : Type 0} (xs : List A) (k : ℕ) → k < length xs → (x : A) × (slice_get xs k ≡ Some x)
found [] k h = absurd (omega (arith, h))
found (x ∷ xs) zero h = (x, refl)
found (x ∷ xs) (suc k) h = found xs k (omega (arith, h))

pub pushed : {A : Type 0} (xs : List A) (x y : A) (k : ℕ) → slice_get (xs ++ x ∷ []) k ≡ Some y → (slice_get xs k ≡ Some y) ⊎ ((k ≡ length xs) × (x ≡ y))
pushed [] x y zero h = inr (refl, same_Some x y h)
pushed [] x y (suc k) h = absurd (none-some y h)
pushed (z ∷ zs) x y zero h = inl h
pushed (z ∷ zs) x y (suc k) h = later (pushed zs x y k h) where
  later : (slice_get zs k ≡ Some y) ⊎ ((k ≡ length zs) × (x ≡ y)) → (slice_get zs k ≡ Some y) ⊎ ((suc k ≡ suc (length zs)) × (x ≡ y))
  later (inl at) = inl at
  later (inr is) = inr (ap suc is.0, is.1)

-- ---- names

abbrev port_of_word : Register → ℕ
port_of_word (Word a n) = n
port_of_word r = 0

abbrev array_of_word : Register → ℕ
array_of_word (Word a n) = a
array_of_word r = 0

pub same_port : (a b n m : ℕ) → Word a n ≡ Word b m → n ≡ m
same_port a b n m e = ap port_of_word e

pub same_array : (a b n m : ℕ) → Word a n ≡ Word b m → a ≡ b
same_array a b n m e = ap array_of_word e

-- ---- what is driven

pub driven_later : (p : Plan) (names : List Register) (sigs : List Seen) (d e : Netlist) (k : ℕ) (r : Register) → Extends d e → slice_get e.regs k ≡ slice_get d.regs k → IsDriven p names sigs d k r
    → IsDriven p names sigs e k r
driven_later p names sigs d e k r longer same h = record {
  reg = h.reg;
  stands = same ∙ h.stands;
  takes = λ f s pins x signals m follow. h.takes f s pins x signals (moment_same p names d e f s pins x longer m) follow;
}

takes_where : (enable v next old : ℕ) (b : Bool) → enable ≡ bit b → next ≡ v → Takes (where_ b v ∷ []) (Some old) (if enable == 1 then next else old)
takes_where enable v next old true is same = record {
  wanted = λ y any all. cond-true _ _ _ (ap (λ k. k == 1) is) ∙ (same ∙ all.0 refl);
  else_ = λ none. absurd (false≢true (sym none));
}
takes_where enable v next old false is same = record {
  wanted = λ y any all. absurd (false≢true any);
  else_ = λ none. cond-false _ _ _ (ap (λ k. k == 1) is);
}

-- the register takes the word where it is read, or 0
word_driven : (p : Plan) (names : List Register) (d : Netlist) (a n k : ℕ) (address when next : Atom) (r : Reg) → slice_get d.regs k ≡ Some (next_set when next r)
    → Tells p names d when (λ c. is_reading p c a n)
    → ((e : Netlist) (s : State) (pins : List ℕ) (x : Contents) (signals : Signal → ℕ) → IsMoment p names d e s pins x
    → seen e s pins next ≡ (if list_any (is_refused p (in_cycle x signals pins)) (loads p a n) then 0 else word_of (in_cycle x signals pins) a (array_at p a) (seen e s pins address)))
    → IsDriven p names ((AddressOf a n, address) ∷ []) d k (Word a n)
word_driven p names d a n k address when next r stands tells shows = record {
  reg = next_set when next r;
  stands = stands;
  takes = λ e s pins x signals m follow.
      let c : Cycle = in_cycle x signals pins in
      let there : signals (AddressOf a n) ≡ seen e s pins address = All-head (λ (x : Seen). signals x.0 ≡ seen e s pins x.1) (AddressOf a n, address) [] follow in
      takes_where (seen e s pins when) (read_word p c a n) (seen e s pins next) (x.regs (Word a n)) (is_reading p c a n) (tells.value_ e s pins x signals m)
      (shows e s pins x signals m ∙ ap (λ k. if list_any (is_refused p c) (loads p a n) then 0 else word_of c a (array_at p a) k) (sym there));
}

pub read_later : (p : Plan) (names : List Register) (d e : Netlist) (a : ℕ) (address word : Atom) → Extends d e → ReadsWord p names d a address word → ReadsWord p names e a address word
read_later p names d e a address word longer h = record {
  fits = fits_later d e longer (array_at p a).bits word h.fits;
  value_ = λ f s pins x signals m. h.value_ f s pins x signals (moment_same p names d e f s pins x longer m);
}

-- the registers that are not set
others_kept : (names : List Register) (regs : List Reg) (j : ℕ) (w : Register) (enable next : Atom) (k : ℕ) (r : Register) → slice_get names j ≡ Some w → slice_get names k ≡ Some r → r ≢ w
    → slice_get (with_next_at j enable next regs) k ≡ slice_get regs k
others_kept names regs j w enable next k r there here apart =
    set_there regs j k enable next (λ e. apart (same_Some r w (sym here ∙ (ap (slice_get names) e ∙ there))))

set_at_number : (p : Plan) (names : List Register) (d e f : Netlist) (a n bits j : ℕ) (address word when refused zero_ next : Atom) → IsBegun p names d → AreDistinct names → IsBetween 1 64 bits → bits ≡ (array_at p a).bits
    → slice_get names j ≡ Some (Word a n) → ReadsWord p names d a address word → Tells p names d when (λ c. is_reading p c a n) → MakesTelling p names d e refused (λ c. list_any (is_refused p c) (loads p a n)) → zero_ ≡ atom.Constant bits (0 % 2 ^ bits)
    → Makes e f bits next (λ v x. x ≡ (if v refused == 1 then v zero_ else v word)) → SetsWord p names d (with_next f (atom.Reg j) when next) a n address
set_at_number p names d e f a n bits j address word when refused zero_ next begun distinct between wide there reads tells made none picked =
    let g : Netlist = with_next f (atom.Reg j) when next in
    let first = appended d e made.appends in
    let second = appended e f picked.appends in
    let both = goes_on d e f first second in
    let appends = appends_both d e f made.appends picked.appends in
    let begun_f = begun_after p names e f made.begun picked.appends picked.sound in
    let last : Extends f g = set_extends f (atom.Reg j) when next in
    let regs : f.regs ≡ d.regs = ap (λ (x : Netlist). x.regs) appends.is in
    let counts : length names ≡ length f.regs = sym (length-map names (width p)) ∙ (sym (ap length begun_f.named) ∙ length-map f.regs (λ (r : Reg). r.bits)) in
    let at : (r : Reg) × (slice_get f.regs j ≡ Some r) = found f.regs j (subst (λ m. j < m) counts (slice_get_within names j (Word a n) there)) in
    let small : IsBetween 1 128 bits = (between.0, omega (arith, between.1)) in
    let zero_carries : Carries p names e bits zero_ (λ c. 0) = number_carries p names e bits 0 zero_ small (pow_pos bits) none in
    record {
      extends = goes_on d f g both last;
      begun = set_begun p names f (atom.Reg j) when next begun_f;
      others = λ k r here apart. others_kept names f.regs j (Word a n) when next k r there here apart ∙ ap (λ l. slice_get l k) regs;
      driven = λ k here.
          let same : j ≡ k = distinct j k (Word a n) there here in
          subst (λ k. IsDriven p names ((AddressOf a n, address) ∷ []) g k (Word a n)) same
          (word_driven p names g a n j address when next at.0 (set_here f.regs j when next at.0 at.1) (carries_on p names d g 1 when _ (goes_on d f g both last) tells) (λ h s pins x signals m.
          let c : Cycle = in_cycle x signals pins in
          let on_f = moment_same p names f g h s pins x last m in
          let on_e = moment_same p names e f h s pins x second on_f in
          let on_d = moment_same p names d e h s pins x first on_e in
          picked.shows.value h s pins on_f.extends on_f.sound on_f.state on_f.pins_
          ∙ (ap (λ b. if b then seen h s pins zero_ else seen h s pins word) (ap (λ k. k == 1) (made.carries.value_ h s pins x signals on_e) ∙ bit_is (list_any (is_refused p c) (loads p a n)))
          ∙ (ap (λ k. if list_any (is_refused p c) (loads p a n) then k else seen h s pins word) (zero_carries.value_ h s pins x signals on_e)
          ∙ ap (λ k. if list_any (is_refused p c) (loads p a n) then 0 else k) (reads.value_ h s pins x signals on_d)))));
      mems = ap (λ (x : Netlist). x.mems) appends.is;
      outputs = ap (λ (x : Netlist). x.outputs) appends.is;
    }

pub word_set : (p : Plan) (names : List Register) (d e f g : Netlist) (a n bits : ℕ) (address word when register_ refused zero_ next : Atom) → IsBegun p names d → AreDistinct names → IsBetween 1 64 bits
    → bits ≡ (array_at p a).bits → IsRegister names register_ (Word a n) → ReadsWord p names d a address word → Tells p names d when (λ c. is_reading p c a n)
    → MakesTelling p names d e refused (λ c. list_any (is_refused p c) (loads p a n))
    → zero_ ≡ atom.Constant bits (0 % 2 ^ bits) → Makes e f bits next (λ v x. x ≡ (if v refused == 1 then v zero_ else v word)) → g ≡ with_next f register_ when next
    → SetsWord p names d g a n address
word_set p names d e f g a n bits address word when register_ refused zero_ next begun distinct between wide is reads tells made none picked set =
    let same : g ≡ with_next f (atom.Reg is.number) when next = set ∙ ap (λ r. with_next f r when next) is.is in
    subst (λ h. SetsWord p names d h a n address) (sym same)
    (set_at_number p names d e f a n bits is.number address word when refused zero_ next begun distinct between wide is.named reads tells made none picked)

-- ---- where a word is read

-- at all ports alike
pub reading_alike : (p : Plan) (c : Cycle) (a n : ℕ) → n < port_count p a → is_reading p c a 0 ≡ is_reading p c a n
reading_alike p c a n within =
    elim (cases_eq (port_count p a) 1) [
      | inl one ↦ let first : 0 ≡ n = omega (arith, one, within) in ap (λ (m : ℕ). is_reading p c a m) first
      | inr more ↦
          let none : (port_count p a == 1) ≡ false = ne_eqb (port_count p a) 1 more in
          let all : (m : ℕ) → is_reading p c a m ≡ (is_some (array_at p a).table || true) = λ m. ap (λ (b : Bool). is_some (array_at p a).table || not (b && is_enabled p c a m)) none in
          all 0 ∙ sym (all n)
    ]

pub reads_at : (p : Plan) (names : List Register) (d : Netlist) (a : ℕ) (addresses words : List Atom) (when : Atom) → length words ≡ port_count p a → ReadWords p names d a addresses words
    → Tells p names d when (λ c. is_reading p c a 0) → AreReadings p names d a addresses (map (reading_at when) words)
reads_at p names d a addresses words when count reads tells n read at =
    let from = mapped_from (reading_at when) words n read at in
    let there = reads n from.0 from.1 in
    let within : n < port_count p a = let h = slice_get_within words n from.0 from.1 in omega (arith, h, count) in
    let at_port : Tells p names d when (λ c. is_reading p c a n) = record {
      fits = tells.fits;
      value_ = λ e s pins x signals m. tells.value_ e s pins x signals m ∙ ap bit (reading_alike p (in_cycle x signals pins) a n within);
    } in
    (there.0, there.1, subst (λ (r : Reading). IsReading p names d a n there.0 r) (sym from.2) (record { word = there.2; when = at_port }))

pub words_later : (p : Plan) (names : List Register) (d e : Netlist) (a : ℕ) (addresses words : List Atom) → Extends d e → ReadWords p names d a addresses words → ReadWords p names e a addresses words
words_later p names d e a addresses words longer h n word at = let there = h n word at in (there.0, there.1, read_later p names d e a there.0 word longer there.2)

pub reading_later : (p : Plan) (names : List Register) (d e : Netlist) (a n : ℕ) (address : Atom) (read : Reading) → Extends d e → IsReading p names d a n address read → IsReading p names e a n address read
reading_later p names d e a n address read longer h = record { word = read_later p names d e a address read.word longer h.word; when = carries_on p names d e 1 read.when _ longer h.when }

-- ---- one after another

pub no_words : (p : Plan) (names : List Register) (d : Netlist) (a : ℕ) → IsBegun p names d → SetsWords p names d d a []
no_words p names d a begun = record {
  extends = stays d;
  begun = begun;
  others = λ k r here apart. refl;
  driven = λ k n address at here. absurd (none-some address at);
  mems = refl;
  outputs = refl;
}

pub words_more : (p : Plan) (names : List Register) (d e f : Netlist) (a n : ℕ) (addresses : List Atom) (address : Atom) → n ≡ length addresses → SetsWords p names d e a addresses → SetsWord p names e f a n address
    → SetsWords p names d f a (addresses ++ address ∷ [])
words_more p names d e f a n addresses address at h k =
    let counted : length (addresses ++ address ∷ []) ≡ length addresses + 1 = length-append addresses (address ∷ []) in
    record {
      extends = goes_on d e f h.extends k.extends;
      begun = k.begun;
      others = λ j r here apart.
          k.others j r here (apart n (omega (arith, at, counted))) ∙ h.others j r here (λ m less. apart m (omega (arith, less, counted)));
      driven = λ j m b there here. by_place j m b here (pushed addresses address b m there);
      mems = k.mems ∙ h.mems;
      outputs = k.outputs ∙ h.outputs;
    }
  where
    by_place : (j m : ℕ) (b : Atom) → slice_get names j ≡ Some (Word a m) → (slice_get addresses m ≡ Some b) ⊎ ((m ≡ length addresses) × (address ≡ b)) → IsDriven p names ((AddressOf a m, b) ∷ []) f j (Word a m)
    by_place j m b here (inl before) =
        let less = slice_get_within addresses m b before in
        let apart : Word a m ≢ Word a n = λ e. absurd (omega (arith, less, at, same_port a a m n e)) in
        driven_later p names ((AddressOf a m, b) ∷ []) e f j (Word a m) k.extends (k.others j (Word a m) here apart) (h.driven j m b before here)
    by_place j m b here (inr last) =
        let same : n ≡ m = at ∙ sym last.0 in
        subst (λ (i : ℕ). IsDriven p names ((AddressOf a i, b) ∷ []) f j (Word a i)) same
        (subst (λ (x : Atom). IsDriven p names ((AddressOf a n, x) ∷ []) f j (Word a n)) last.1 (k.driven j (subst (λ (i : ℕ). slice_get names j ≡ Some (Word a i)) (sym same) here)))
