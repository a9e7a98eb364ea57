-- The memories of a circuit are those of its plan's arrays, and take what the ports write.
use Rattle.std.proofs.Common.{◌≡◌, ℕ, zero, suc, ◌+◌, ◌<◌, ◌≤◌, Bool, true, false, List, [], ◌∷◌, map, length, set, Option, Some, None, is_none, inl, inr, refl, sym, ap, ap₂, ◌∙◌, subst, length-set, get_or-set_same, get_or-set_other, arith}
use Rattle.std.specs.Prelude.{slice_get, slice_index, filter, take, cond, count_by, nat_lt, ◌==◌, if◌then◌else◌}
use Rattle.std.proofs.lemmas.Bool.{cases_Bool, cases_lt, cases_eq, lt-ltb, le-ltb, eq-eqb, ne_eqb, cond-true, cond-false, false≢true}
use Rattle.std.proofs.lemmas.Option.{none-some, same_Some, slice_get_within, get_or_from_slice_get}
use Rattle.std.proofs.lemmas.List.{take_all}
use Rattle.std.proofs.lemmas.List.Sums.{sum_by-cons}
use Rattle.hls_base.specs.ArrayAddress.{address_bits}
use Rattle.rtl_core.specs.declared.design.Atom.{Atom}
use Rattle.rtl_core.specs.declared.design.Port.{Port}
use Rattle.rtl_core.specs.Netlist.{Netlist, Memory}
use Rattle.rtl_core.specs.ClockStep.{written_words}
use Rattle.rtl_core.specs.Interface.{ArrayShape, HoldArrays}
use Rattle.ir_core.specs.Bodies.{with_word}
use Rattle.datapath.specs.Plans.{Plan, Array, no_array, host_arrays, interface}
use Rattle.datapath.specs.Cycles.{Register, Cycle, AddressOf, StoredOf, bit}
use Rattle.datapath.specs.Ports.{is_enabled, behind_ports}
use Rattle.datapath.specs.Netlists.{memory_of}
use Rattle.datapath.proofs.Combining.{bit_is}
use Rattle.circuit_context.specs.Wanted.Driving.{Seen, IsAssembled}
use Rattle.fsm_datapath.specs.CircuitParts.{HasSoundArrays, AssembledHasMemories}

-- ---- the memories of arrays that are no tables

abbrev is_plain : Array → Bool
is_plain a = is_none a.table

abbrev array_bits : Array → ℕ
array_bits a = a.bits

abbrev memory_bits : Memory → ℕ
memory_bits m = m.bits

-- the memory that stands where an array has its own has the array's bits
record HasBitsOf (mems : List Memory) (k : ℕ) (array : Array) : Type 0 where
  memory : Memory
  there : slice_get mems k ≡ Some memory
  bits : memory.bits ≡ array.bits

abbrev AllHaveBits : List Memory → List Array → Type 0
AllHaveBits mems arrays = (a : ℕ) (array : Array) → slice_get arrays a ≡ Some array → is_plain array ≡ true → HasBitsOf mems (count_by is_plain (take a arrays)) array

count_plain : (x : Array) (xs : List Array) → is_plain x ≡ true → count_by is_plain (x ∷ xs) ≡ suc (count_by is_plain xs)
count_plain x xs plain =
    let more = sum_by-cons (λ (z : Array). cond (is_plain z) 1 0) x xs in
    more ∙ (ap (λ n. n + count_by is_plain xs) (cond-true (is_plain x) 1 0 plain) ∙ (let z : 1 + count_by is_plain xs ≡ suc (count_by is_plain xs) = omega arith in z))

count_table : (x : Array) (xs : List Array) → is_plain x ≡ false → count_by is_plain (x ∷ xs) ≡ count_by is_plain xs
count_table x xs table =
    let more = sum_by-cons (λ (z : Array). cond (is_plain z) 1 0) x xs in
    more ∙ (ap (λ n. n + count_by is_plain xs) (cond-false (is_plain x) 1 0 table) ∙ (let z : 0 + count_by is_plain xs ≡ count_by is_plain xs = omega arith in z))

plain_first : (x : Array) (xs : List Array) (mems : List Memory) → is_plain x ≡ true → length mems ≡ suc (count_by is_plain xs) → AllHaveBits mems (x ∷ xs)
    → ((ms : List Memory) → length ms ≡ count_by is_plain xs → AllHaveBits ms xs → map memory_bits ms ≡ map array_bits (filter is_plain xs))
    → map memory_bits mems ≡ array_bits x ∷ map array_bits (filter is_plain xs)
plain_first x xs [] plain count all next = absurd (omega (arith, count))
plain_first x xs (m ∷ ms) plain count all next =
    let first : HasBitsOf (m ∷ ms) 0 x = all 0 x refl plain in
    let bits : m.bits ≡ x.bits = ap memory_bits (same_Some m first.memory first.there) ∙ first.bits in
    let rest : AllHaveBits ms xs = (λ a array at_ is.
    let h : HasBitsOf (m ∷ ms) (suc (count_by is_plain (take a xs))) array =
    subst (λ n. HasBitsOf (m ∷ ms) n array) (count_plain x (take a xs) plain) (all (suc a) array at_ is) in
    record { memory = h.memory; there = h.there; bits = h.bits }) in
    ap₂ (λ (b : ℕ) (l : List ℕ). b ∷ l) bits (next ms (omega (arith, count)) rest)

same_bits : (arrays : List Array) (mems : List Memory) → length mems ≡ count_by is_plain arrays → AllHaveBits mems arrays → map memory_bits mems ≡ map array_bits (filter is_plain arrays)
same_bits [] [] count all = refl
same_bits [] (m ∷ ms) count all = absurd (omega (arith, count))
same_bits (x ∷ xs) mems count all =
    elim (cases_Bool (is_plain x)) [
      | inl yes_ ↦
          plain_first x xs mems yes_ (count ∙ count_plain x xs yes_) all (λ ms few rest. same_bits xs ms few rest)
          ∙ sym (ap (map array_bits) (cond-true (is_plain x) (x ∷ filter is_plain xs) (filter is_plain xs) yes_))
      | inr no_ ↦
          same_bits xs mems (count ∙ count_table x xs no_)
          (λ a array at_ plain. subst (λ n. HasBitsOf mems n array) (count_table x (take a xs) no_) (all (suc a) array at_ plain))
          ∙ sym (ap (map array_bits) (cond-false (is_plain x) (x ∷ filter is_plain xs) (filter is_plain xs) no_))
    ]

none_is : {A : Type 0} (o : Option A) → is_none o ≡ true → o ≡ None
none_is None e = refl
none_is (Some x) e = absurd (false≢true e)

pub has_memories : AssembledHasMemories
has_memories p names sigs d h =
    same_bits p.arrays d.mems (h.only ∙ ap (count_by is_plain) (take_all (length p.arrays) p.arrays (omega arith)))
    (λ a array at_ plain.
    let m = h.memories a array at_ (none_is array.table plain) in
    record { memory = m.0; there = m.1.stands; bits = m.1.bits ∙ ap array_bits (get_or_from_slice_get p.arrays a array no_array at_) })

-- behind the last array there is no memory
pub memory_past : (p : Plan) (names : List Register) (sigs : List Seen) (d : Netlist) → IsAssembled p names sigs d → (a : ℕ) → length p.arrays ≤ a → length d.mems ≤ memory_of p a
memory_past p names sigs d h a past =
    let same : memory_of p a ≡ memory_of p (length p.arrays) = ap (count_by is_plain) (take_all a p.arrays past ∙ sym (take_all (length p.arrays) p.arrays (omega arith))) in
    let all = h.only in
    omega (arith, same, all)

-- ---- the memories of the arrays that the host reaches

pub record HasShape (mems : List Memory) (k : ℕ) (shape : ArrayShape) : Type 0 where
  pub memory : Memory
  pub there : slice_get mems k ≡ Some memory
  pub bits : memory.bits ≡ shape.bits
  pub deep : memory.depth_log ≡ address_bits shape.dims

held_from : (mems : List Memory) (shapes : List ArrayShape) → ((k : ℕ) (shape : ArrayShape) → slice_get shapes k ≡ Some shape → HasShape mems k shape) → HoldArrays mems shapes
held_from mems [] h = tt
held_from [] (s ∷ shapes) h = let first = h 0 s refl in absurd (none-some first.memory first.there)
held_from (m ∷ mems) (s ∷ shapes) h =
    let first : HasShape (m ∷ mems) 0 s = h 0 s refl in
    let same : m ≡ first.memory = same_Some m first.memory first.there in (
      ap (λ (z : Memory). z.bits) same ∙ first.bits,
      ap (λ (z : Memory). z.depth_log) same ∙ first.deep,
      held_from mems shapes (λ k shape at_. let r = h (suc k) shape at_ in record { memory = r.memory; there = r.there; bits = r.bits; deep = r.deep }),
    )

abbrev is_host : Array → Bool
is_host a = a.host

none_kept : (xs : List Array) → ((a : ℕ) (x : Array) → slice_get xs a ≡ Some x → x.host ≡ false) → filter is_host xs ≡ []
none_kept [] h = refl
none_kept (x ∷ xs) h = cond-false (is_host x) (x ∷ filter is_host xs) (filter is_host xs) (h 0 x refl) ∙ none_kept xs (λ a y e. h (suc a) y e)

-- where hosts come first, the hosts are the first arrays
first_hosts : (xs : List Array) (k n : ℕ) → ((a : ℕ) (x : Array) → slice_get xs a ≡ Some x → x.host ≡ nat_lt (k + a) n) → (a : ℕ) (array : Array) → slice_get (filter is_host xs) a ≡ Some array
    → slice_get xs a ≡ Some array
first_hosts [] k n h a array at_ = at_
first_hosts (x ∷ xs) k n h a array at_ =
    let later : (b : ℕ) (y : Array) → slice_get xs b ≡ Some y → y.host ≡ nat_lt (k + 1 + b) n =
    λ b y e. h (suc b) y e ∙ ap (λ q. nat_lt q n) (let z : k + suc b ≡ k + 1 + b = omega arith in z) in
    elim (cases_Bool (is_host x)) [
      | inl yes_ ↦
          at_place a (ap (λ (l : List Array). slice_get l a) (sym (cond-true (is_host x) (x ∷ filter is_host xs) (filter is_host xs) yes_)) ∙ at_) (λ b e. first_hosts xs (k + 1) n later b array e)
      | inr no_ ↦
          let over : n ≤ k = (elim (cases_lt (k + 0) n) [
            | inl under ↦ absurd (false≢true (sym no_ ∙ (h 0 x refl ∙ lt-ltb (k + 0) n under)))
            | inr above ↦ omega (arith, above)
          ]) in
          let none : filter is_host (x ∷ xs) ≡ [] = none_kept (x ∷ xs) (λ b y e. h b y e ∙ le-ltb (k + b) n (omega (arith, over))) in
          absurd (none-some array (ap (λ (l : List Array). slice_get l a) (sym none) ∙ at_))
    ]
  where
    at_place : (b : ℕ) → slice_get (x ∷ filter is_host xs) b ≡ Some array → ((c : ℕ) → slice_get (filter is_host xs) c ≡ Some array → slice_get xs c ≡ Some array) → slice_get (x ∷ xs) b ≡ Some array
    at_place zero e rest = e
    at_place (suc c) e rest = rest c e

-- all of the first elements pass the test
count_all : {A : Type 0} (test : A → Bool) (xs : List A) (a : ℕ) → a ≤ length xs → ((b : ℕ) (x : A) → b < a → slice_get xs b ≡ Some x → test x ≡ true) → count_by test (take a xs) ≡ a
count_all test xs zero low h = refl
count_all test [] (suc a) low h = absurd (omega (arith, low))
count_all test (x ∷ xs) (suc a) low h =
    let rest : count_by test (take a xs) ≡ a = count_all test xs a (omega (arith, low)) (λ b y under e. h (suc b) y (omega (arith, under)) e) in
    let lit : ℕ = 1 in
    let one : cond (test x) lit 0 ≡ lit = cond-true (test x) lit 0 (h 0 x (omega arith) refl) in
    let more = sum_by-cons (λ (z : _). cond (test z) 1 0) x (take a xs) in
    omega (arith, more, one, rest)

abbrev shape_of : Array → ArrayShape
shape_of a = record { bits = a.bits; dims = a.dims }

shape_from : (arrays : List Array) (k : ℕ) (shape : ArrayShape) → slice_get (map shape_of arrays) k ≡ Some shape → (array : Array) × ((slice_get arrays k ≡ Some array) × (shape_of array ≡ shape))
shape_from [] k shape e = absurd (none-some shape e)
shape_from (x ∷ xs) zero shape e = (x, (refl, same_Some (shape_of x) shape e))
shape_from (x ∷ xs) (suc k) shape e = shape_from xs k shape e

pub hold_arrays : (p : Plan) (d : Netlist) → HasSoundArrays p → ((a : ℕ) (array : Array) → slice_get p.arrays a ≡ Some array → array.table ≡ None → HasShape d.mems (memory_of p a) (shape_of array))
    → HoldArrays d.mems (interface p).arrays
hold_arrays p d sound h =
    held_from d.mems (interface p).arrays (λ k shape at_.
    let it = shape_from (host_arrays p) k shape at_ in
    let first : (a : ℕ) (x : Array) → slice_get p.arrays a ≡ Some x → x.host ≡ nat_lt (0 + a) (length (host_arrays p)) =
    λ a x e. sound.hosts_first a x e ∙ ap (λ q. nat_lt q (length (host_arrays p))) (let z : a ≡ 0 + a = omega arith in z) in
    let there : slice_get p.arrays k ≡ Some it.0 = first_hosts p.arrays 0 (length (host_arrays p)) first k it.0 it.1.0 in
    let low : k < length (host_arrays p) = slice_get_within (host_arrays p) k it.0 it.1.0 in
    let plain : (a : ℕ) (x : Array) → a < length (host_arrays p) → slice_get p.arrays a ≡ Some x → x.table ≡ None =
    λ a x under e. sound.hosts a x e (sound.hosts_first a x e ∙ lt-ltb a (length (host_arrays p)) under) in
    let within : k < length p.arrays = slice_get_within p.arrays k it.0 there in
    let own : memory_of p k ≡ k = count_all is_plain p.arrays k (omega (arith, within)) (λ b x under e. ap is_none (plain b x (omega (arith, under, low)) e)) in
    subst (HasShape d.mems k) it.1.1 (subst (λ n. HasShape d.mems n (shape_of it.0)) own (h k it.0 there (plain k it.0 low there))))

-- ---- what the ports write

-- in this cycle the atoms of a port have what the plan says
pub record PortShows (p : Plan) (c : Cycle) (a n : ℕ) (value : Atom → ℕ) (port : Port) : Type 0 where
  pub enable : value port.enable ≡ bit (is_enabled p c a n)
  pub address : value port.addr ≡ c.signals (AddressOf a n)
  pub stored : value port.value ≡ c.signals (StoredOf a n)

-- the words are these
abbrev pub AreWordsOf : ℕ → List ℕ → (ℕ → ℕ) → Type 0
AreWordsOf size words f = (address : ℕ) → address < size → slice_index words address ≡ f address

set_words : (size : ℕ) (words : List ℕ) (f : ℕ → ℕ) (i w : ℕ) → length words ≡ size → AreWordsOf size words f → AreWordsOf size (set words i w) (with_word f i w)
set_words size words f i w count are address low =
    elim (cases_eq i address) [
      | inl here ↦
          subst (λ k. slice_index (set words k w) address ≡ w) (sym here) (get_or-set_same words address w 0 (omega (arith, count, low)))
          ∙ sym (cond-true (i == address) w (f address) (eq-eqb i address here))
      | inr other ↦ get_or-set_other words i address w 0 (λ e. other (sym e)) ∙ (are address low ∙ sym (cond-false (i == address) w (f address) (ne_eqb i address other)))
    ]

abbrev one_port : Plan → Cycle → ℕ → ℕ → (ℕ → ℕ) → ℕ → ℕ
one_port p c a n f = if is_enabled p c a n then with_word f (c.signals (AddressOf a n)) (c.signals (StoredOf a n)) else f

port_writes : (size : ℕ) (words : List ℕ) (f : ℕ → ℕ) (e : Bool) (i w : ℕ) → length words ≡ size → AreWordsOf size words f
    → AreWordsOf size (if e then set words i w else words) (if e then with_word f i w else f)
port_writes size words f true i w count are = set_words size words f i w count are
port_writes size words f false i w count are = are

port_keeps : (size : ℕ) (words : List ℕ) (e : Bool) (i w : ℕ) → length words ≡ size → length (if e then set words i w else words) ≡ size
port_keeps size words true i w count = length-set words i w ∙ count
port_keeps size words false i w count = count

pub ports_write : (p : Plan) (c : Cycle) (a : ℕ) (value : Atom → ℕ) (size : ℕ) (ports : List Port) (n : ℕ) (words : List ℕ) (f : ℕ → ℕ)
    → ((k : ℕ) (port : Port) → slice_get ports k ≡ Some port → PortShows p c a (n + k) value port) → length words ≡ size → AreWordsOf size words f
    → AreWordsOf size (written_words value ports words) (behind_ports p c a n (length ports) f)
ports_write p c a value size [] n words f shows count are = are
ports_write p c a value size (port ∷ ports) n words f shows count are =
    let here : n + 0 ≡ n = omega arith in
    let first : PortShows p c a n value port = subst (λ k. PortShows p c a k value port) here (shows 0 port refl) in
    let enabled : (value port.enable == 1) ≡ is_enabled p c a n = ap (λ k. k == 1) first.enable ∙ bit_is (is_enabled p c a n) in
    let written : List ℕ = if value port.enable == 1 then set words (value port.addr) (value port.value) else words in
    let same : written ≡ (if is_enabled p c a n then set words (c.signals (AddressOf a n)) (c.signals (StoredOf a n)) else words) =
    ap (λ b. if b then set words (value port.addr) (value port.value) else words) enabled
    ∙ ap₂ (λ i w. if is_enabled p c a n then set words i w else words) first.address first.stored in
    let kept : length written ≡ size = port_keeps size words (value port.enable == 1) (value port.addr) (value port.value) count in
    let now : AreWordsOf size written (one_port p c a n f) =
    subst (λ l. AreWordsOf size l (one_port p c a n f)) (sym same) (port_writes size words f (is_enabled p c a n) (c.signals (AddressOf a n)) (c.signals (StoredOf a n)) count are) in
    ports_write p c a value size ports (suc n) written (one_port p c a n f)
    (λ k q e. let next : n + suc k ≡ suc n + k = omega arith in subst (λ m. PortShows p c a m value q) next (shows (suc k) q e)) kept now
