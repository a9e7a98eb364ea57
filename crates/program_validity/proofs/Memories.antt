-- What holds of a memory of a valid program.
use Rattle.std.proofs.Common.{◌≡◌, ℕ, zero, suc, ◌<◌, ◌≤◌, ◌^◌, ◌∙◌, sym, ap, refl, inl, inr, Bool, true, false, ◌&&◌, List, [], ◌∷◌, length, slice_index_or, arith}
use Rattle.std.specs.Prelude.{◌==◌, ◌||◌, not, nat_lt, nat_le, slice_get, Option, Some, None, is_some}
use Rattle.std.specs.List.{list_all, All}
use Rattle.std.proofs.lemmas.Bool.{and_parts, or_cases, eqb-true, ltb-true, leb-true, false≢true}
use Rattle.hls_base.specs.ArrayAddress.{address_bits, element_count}
use Rattle.ir_core.specs.AddressWords.{AreShort}
use Rattle.ir_core.specs.declared.cfg.Cfg.{Cfg}
use Rattle.ir_core.specs.declared.cfg.Memory.{Memory}
use Rattle.program_validity.specs.Widths.{is_width, is_word}
use Rattle.program_validity.specs.Frames.{are_dims, are_elements_if, has_one_origin, is_memory}
use Rattle.program_validity.specs.Programs.{is_consistent}
use Rattle.program_validity.proofs.Parts.{first_of_both, second_of_both, holds_at, frame_valid, memories_valid}

pub memory_valid : {S : Type 0} (cfg : Cfg S) (a : ℕ) (m : Memory) → is_consistent cfg ≡ true → slice_get cfg.frame.memories.items a ≡ Some m → is_memory m ≡ true
memory_valid cfg a m h at = holds_at is_memory cfg.frame.memories.items a m (memories_valid cfg.frame (frame_valid cfg h)) at

-- ---- widths

-- a value has 1 to 64 bits
pub narrow : (bits : ℕ) → is_width bits ≡ true → (1 ≤ bits) × (bits ≤ 64)
narrow bits h = elim (or_cases (bits == 1) _ h) [
  | inl e ↦ (let is = eqb-true bits 1 e in (omega (arith, is), omega (arith, is)))
  | inr more ↦ elim (or_cases (bits == 8) _ more) [
    | inl e ↦ (let is = eqb-true bits 8 e in (omega (arith, is), omega (arith, is)))
    | inr more ↦ elim (or_cases (bits == 16) _ more) [
      | inl e ↦ (let is = eqb-true bits 16 e in (omega (arith, is), omega (arith, is)))
      | inr more ↦ elim (or_cases (bits == 32) _ more) [
        | inl e ↦ (let is = eqb-true bits 32 e in (omega (arith, is), omega (arith, is)))
        | inr e ↦ (let is = eqb-true bits 64 e in (omega (arith, is), omega (arith, is)))
      ]
    ]
  ]
]

pub word_narrow : (m : Memory) → is_memory m ≡ true → (1 ≤ m.bits) × (m.bits ≤ 64)
word_narrow m h = narrow m.bits (first_of_both (is_width m.bits) _ h)

-- ---- dimensions

dims_valid : (m : Memory) → is_memory m ≡ true → are_dims m.dims.items ≡ true
dims_valid m h = first_of_both (are_dims m.dims.items) _ (second_of_both (is_width m.bits) _ h)

-- an address has at least one bit
some_bits : (dims : List ℕ) → 0 < length dims → 1 ≤ address_bits dims
some_bits [] h = absurd (omega (arith, h))
some_bits (len ∷ dims) h = omega arith

pub deep_address : (m : Memory) → is_memory m ≡ true → 1 ≤ address_bits m.dims.items
deep_address m h = some_bits m.dims.items (ltb-true 0 (length m.dims.items) (first_of_both (nat_lt 0 (length m.dims.items)) _ (dims_valid m h)))

short_lengths : (dims : List ℕ) → list_all (λ len. nat_le 1 len && nat_le len 65536) dims ≡ true → AreShort dims
short_lengths [] h = tt
short_lengths (len ∷ dims) h =
    let both = and_parts (nat_le 1 len && nat_le len 65536) (list_all (λ len. nat_le 1 len && nat_le len 65536) dims) h in
    (leb-true len 65536 (second_of_both (nat_le 1 len) (nat_le len 65536) both.0), short_lengths dims both.1)

-- no dimension has more than 65,536 places
pub short_dims : (m : Memory) → is_memory m ≡ true → AreShort m.dims.items
short_dims m h = short_lengths m.dims.items (first_of_both _ _ (second_of_both (nat_lt 0 (length m.dims.items)) _ (dims_valid m h)))

-- ---- where the words come from

origin_valid : (m : Memory) → is_memory m ≡ true → has_one_origin m ≡ true
origin_valid m h = first_of_both (has_one_origin m) _ (second_of_both (are_dims m.dims.items) _ (second_of_both (is_width m.bits) _ h))

not_true : (b : Bool) → not b ≡ true → b ≡ false
not_true false h = refl
not_true true h = absurd (false≢true h)

none_first : {A : Type 0} (o : Option A) → is_some o ≡ false → o ≡ None
none_first None h = refl
none_first (Some x) h = absurd (false≢true (sym h))

apart : (host table first : Bool) → (not (host && (table || first)) && not (table && first)) ≡ true → table ≡ true → (host ≡ false) × (first ≡ false)
apart false true false h is = (refl, refl)
apart false true true h is = absurd (false≢true h)
apart true true first h is = absurd (false≢true h)
apart host false first h is = absurd (false≢true is)

-- the host does not reach a table, and it has no other first contents
pub table_alone : (m : Memory) (words : List ℕ) → is_memory m ≡ true → m.table ≡ Some words → (m.host ≡ false) × (m.initial ≡ None)
table_alone m words h is =
    let both = apart m.host (is_some m.table) (is_some m.initial) (origin_valid m h) (ap is_some is) in
    (both.0, none_first m.initial both.1)

-- ---- words

words_fit : (bits : ℕ) (words : List ℕ) → list_all (is_word bits) words ≡ true → All (λ w. w < 2 ^ bits) words
words_fit bits words h = λ k d inside. ltb-true _ _ (at words k d h inside) where
  at : (xs : List ℕ) (k d : ℕ) → list_all (is_word bits) xs ≡ true → k < length xs → is_word bits (slice_index_or xs k d) ≡ true
  at [] k d h inside = absurd (omega (arith, inside))
  at (x ∷ xs) zero d h inside = first_of_both (is_word bits x) _ h
  at (x ∷ xs) (suc k) d h inside = at xs k d (second_of_both (is_word bits x) _ h) (omega (arith, inside))

elements_fit : (dims : List ℕ) (bits : ℕ) (given : Option (List ℕ)) (words : List ℕ) → are_elements_if dims bits given ≡ true → given ≡ Some words → All (λ w. w < 2 ^ bits) words
elements_fit dims bits None words h is = absurd (false≢true (ap is_some is))
elements_fit dims bits (Some given) words h is =
    words_fit bits words (ap (list_all (is_word bits)) (sym (same is)) ∙ second_of_both (length given == element_count dims) (list_all (is_word bits) given) h) where
      same : Some given ≡ Some words → given ≡ words
      same e = (cc)

elements_valid : (m : Memory) → is_memory m ≡ true → (are_elements_if m.dims.items m.bits m.table && are_elements_if m.dims.items m.bits m.initial) ≡ true
elements_valid m h = second_of_both (has_one_origin m) _ (second_of_both (are_dims m.dims.items) _ (second_of_both (is_width m.bits) _ h))

pub table_fits : (m : Memory) (words : List ℕ) → is_memory m ≡ true → m.table ≡ Some words → All (λ w. w < 2 ^ m.bits) words
table_fits m words h is = elements_fit m.dims.items m.bits m.table words (first_of_both _ _ (elements_valid m h)) is

pub first_fits : (m : Memory) (words : List ℕ) → is_memory m ≡ true → m.initial ≡ Some words → All (λ w. w < 2 ^ m.bits) words
first_fits m words h is = elements_fit m.dims.items m.bits m.initial words (second_of_both (are_elements_if m.dims.items m.bits m.table) _ (elements_valid m h)) is
