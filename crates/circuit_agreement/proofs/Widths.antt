-- The words of memories have the bits of their arrays.
use Rattle.std.proofs.Common.{◌≡◌, ℕ, zero, suc, ◌+◌, ◌^◌, ◌<◌, Bool, List, [], ◌∷◌, map, get_or, Some, None, is_none, inl, inr, refl, sym, ap, ap₂, ◌∙◌, subst, arith}
use Rattle.std.specs.Prelude.{slice_get, slice_index, filter, take, cond, count_by}
use Rattle.std.specs.List.{All}
use Rattle.std.proofs.lemmas.Bool.{cases_Bool, cases_eq, eq-eqb, ne_eqb, cond-true, cond-false}
use Rattle.std.proofs.lemmas.Nat.{pow_pos}
use Rattle.std.proofs.lemmas.List.Elements.{All-head, All-tail}
use Rattle.std.proofs.lemmas.List.Sums.{sum_by-cons}
use Rattle.rtl_core.specs.Netlist.{Netlist, Memory}
use Rattle.rtl_core.specs.ClockStep.{State, IsState, AreMemories, no_memory, one_memory, word_at}
use Rattle.ir_core.specs.FirstContents.{given_at}
use Rattle.datapath.specs.Plans.{Plan, Array, no_array, array_at, depth}
use Rattle.datapath.specs.Cycles.{Register, Contents}
use Rattle.datapath.specs.Netlists.{memory_of, Holds}
use Rattle.rtl_logic.specs.Reducing.{sized}
use Rattle.circuit_agreement.specs.Boxes.{HasMemories}
use Rattle.circuit_agreement.specs.Laws.{ReducedHasMemories}

-- ---- words of memories

word_fits : (bits : ℕ) (words : List ℕ) (k : ℕ) → All (λ (w : ℕ). w < 2 ^ bits) words → slice_index words k < 2 ^ bits
word_fits bits [] k h = pow_pos bits
word_fits bits (w ∷ words) zero h = All-head (λ (z : ℕ). z < 2 ^ bits) w words h
word_fits bits (w ∷ words) (suc k) h = word_fits bits words k (All-tail (λ (z : ℕ). z < 2 ^ bits) w words h)

memory_fits : (memories : List Memory) (mems : List (List ℕ)) (k address : ℕ) → AreMemories memories mems → word_at mems k address < 2 ^ get_or (map (λ (m : Memory). m.bits) memories) k 0
memory_fits [] [] k address no_memory = pow_pos 0
memory_fits [] (words ∷ mems) k address h = elim h [ ]
memory_fits (m ∷ ms) [] k address h = elim h [ ]
memory_fits (m ∷ ms) (words ∷ mems) zero address (one_memory _ _ _ _ own rest) = word_fits m.bits words address own.fit
memory_fits (m ∷ ms) (words ∷ mems) (suc k) address (one_memory _ _ _ _ own rest) = memory_fits ms mems k address rest

abbrev is_plain : Array → Bool
is_plain z = is_none z.table

abbrev bits_in : Array → ℕ
bits_in z = z.bits

-- the bits of an array that is no table, among those of all such
plain_at : (xs : List Array) (a : ℕ) → (get_or xs a no_array).table ≡ None → get_or (map bits_in (filter is_plain xs)) (count_by is_plain (take a xs)) 0 ≡ (get_or xs a no_array).bits
plain_at [] a e = refl
plain_at (x ∷ xs) zero e = ap (λ (l : List Array). get_or (map bits_in l) 0 0) (cond-true _ _ _ (ap is_none e))
plain_at (x ∷ xs) (suc a) e =
    let more = sum_by-cons (λ (z : Array). cond (is_plain z) 1 0) x (take a xs) in
    elim (cases_Bool (is_plain x)) [
      | inl yes_ ↦
          let count : count_by is_plain (take (suc a) (x ∷ xs)) ≡ suc (count_by is_plain (take a xs)) =
          more ∙ (ap (λ n. n + count_by is_plain (take a xs)) (cond-true (is_plain x) 1 0 yes_) ∙ (let z : 1 + count_by is_plain (take a xs) ≡ suc (count_by is_plain (take a xs)) = omega arith in z)) in
          ap₂ (λ (l : List Array) (n : ℕ). get_or (map bits_in l) n 0) (cond-true _ _ _ yes_) count ∙ plain_at xs a e
      | inr no_ ↦
          let count : count_by is_plain (take (suc a) (x ∷ xs)) ≡ count_by is_plain (take a xs) =
          more ∙ (ap (λ n. n + count_by is_plain (take a xs)) (cond-false (is_plain x) 1 0 no_) ∙ (let z : 0 + count_by is_plain (take a xs) ≡ count_by is_plain (take a xs) = omega arith in z)) in
          ap₂ (λ (l : List Array) (n : ℕ). get_or (map bits_in l) n 0) (cond-false _ _ _ no_) count ∙ plain_at xs a e
    ]

-- each word of an array that is no table has its bits
abbrev pub WordsFit : Plan → Contents → Type 0
WordsFit p x = (a address : ℕ) → (array_at p a).table ≡ None → address < 2 ^ depth p a → x.memories a address < 2 ^ (array_at p a).bits

pub words_fit : (p : Plan) (d : Netlist) (names : List Register) (s : State) (x : Contents) → HasMemories p d → IsState d s → Holds p names s x → WordsFit p x
words_fit p d names s x has state h a address plain low =
    let bits : get_or (map (λ (m : Memory). m.bits) d.mems) (memory_of p a) 0 ≡ (array_at p a).bits = ap (λ (l : List ℕ). get_or l (memory_of p a) 0) has ∙ plain_at p.arrays a plain in
    subst (λ (w : ℕ). w < 2 ^ (array_at p a).bits) (h.memories a address plain low)
    (subst (λ (b : ℕ). word_at s.mems (memory_of p a) address < 2 ^ b) bits (memory_fits d.mems s.mems (memory_of p a) address state.mems))

-- ---- fewer registers and wires

sized_bits : (memories : List Memory) → map (λ (m : Memory). m.bits) (map sized memories) ≡ map (λ (m : Memory). m.bits) memories
sized_bits [] = refl
sized_bits (m ∷ ms) = ap (λ (l : List ℕ). m.bits ∷ l) (sized_bits ms)

pub reduced_has_memories : ReducedHasMemories
reduced_has_memories p keep d e has reduced = sym (sized_bits e.mems) ∙ (ap (map (λ (m : Memory). m.bits)) reduced.memories ∙ (sized_bits d.mems ∙ has))

-- ---- words of tables

pub given_fits : (bits : ℕ) (places words : List ℕ) (address : ℕ) → ((n word : ℕ) → slice_get words n ≡ Some word → word < 2 ^ bits) → given_at places words address 0 < 2 ^ bits
given_fits bits [] [] address h = pow_pos bits
given_fits bits [] (w ∷ words) address h = pow_pos bits
given_fits bits (place ∷ places) [] address h = pow_pos bits
given_fits bits (place ∷ places) (w ∷ words) address h =
    elim (cases_eq place address) [
      | inl here ↦ subst (λ (z : ℕ). z < 2 ^ bits) (sym (cond-true _ _ _ (eq-eqb place address here))) (h 0 w refl)
      | inr other ↦ subst (λ (z : ℕ). z < 2 ^ bits) (sym (cond-false _ _ _ (ne_eqb place address other))) (given_fits bits places words address (λ n word e. h (suc n) word e))
    ]
