-- Memories of expanded programs are valid.
use Rattle.std.proofs.Common.{◌≡◌, ◌≢◌, ◌≤◌, ◌^◌, ℕ, suc, Bool, true, false, ◌&&◌, ◌||◌, not, refl, ap, List, [], ◌∷◌, map, length, arith, Option, Some, None}
use Rattle.std.specs.Prelude.{◌==◌, nat_lt, nat_le, slice_get, is_some}
use Rattle.std.specs.List.{list_all}
use Rattle.std.proofs.lemmas.Bool.{and_from}
use Rattle.hls_base.specs.ArrayAddress.{address_bits, element_count}
use Rattle.c_token.specs.declared.ctype.CType.{CType}
use Rattle.c_value.specs.Values.{width}
use Rattle.pieces.specs.Program.{ArrayTree}
use Rattle.ir_core.specs.declared.cfg.Memory.{Memory}
use Rattle.ir_lower.specs.Frames.{MemoryView, memory_view}
use Rattle.compile_steps.specs.Resets.{array_memory}
use Rattle.expand_runs.specs.Laws.{AreWords}
use Rattle.timed_pieces.specs.StartedWords.FirstWords.{FillsIfAny, HasOneSource, HasContents}
use Rattle.program_validity.specs.Widths.{is_width, is_word}
use Rattle.program_validity.specs.Frames.{are_dims, are_elements_if, is_memory}
use Rattle.source_validity.specs.ValidFrames.{LengthsFit, IsDimensioned}
use Rattle.source_validity.proofs.ValidFrames.Variables.{below_test, width_is}

-- ---- lengths

most_test : (n m : ℕ) → n ≤ m → nat_le n m ≡ true
most_test n m h = grind arith

equal_test : (n m : ℕ) → n ≡ m → (n == m) ≡ true
equal_test n m e = grind arith

lengths_hold : (lengths : List ℕ) → LengthsFit lengths → list_all (λ len. nat_le 1 len && nat_le len 65536) lengths ≡ true
lengths_hold [] h = refl
lengths_hold (len ∷ lengths) h = and_from _ _ (and_from _ _ (most_test 1 len h.0) (most_test len 65536 h.1)) (lengths_hold lengths h.2)

some_length : (lengths : List ℕ) → lengths ≢ [] → nat_lt 0 (length lengths) ≡ true
some_length [] h = absurd (h refl)
some_length (len ∷ lengths) h = below_test 0 (suc (length lengths)) (omega arith)

-- ---- contents

words_hold : (k : CType) (words : List ℕ) → AreWords k words → list_all (is_word (width k)) words ≡ true
words_hold k [] h = refl
words_hold k (w ∷ words) h = and_from _ _ (below_test w (2 ^ width k) h.0) (words_hold k words h.1)

filled : (a : ArrayTree) (row : Option (List ℕ)) → FillsIfAny a row → are_elements_if a.lengths (width a.kind) row ≡ true
filled a None h = refl
filled a (Some row) h = and_from _ _ (equal_test (length row) (element_count a.lengths) h.0) (words_hold a.kind row h.1)

one_source : (host : Bool) (table initial : Option (List ℕ)) → HasOneSource host table initial → (not (host && (is_some table || is_some initial)) && not (is_some table && is_some initial)) ≡ true
one_source true None None h = refl
one_source true None (Some initial) h = absurd h
one_source true (Some table) initial h = absurd h
one_source false None None h = refl
one_source false None (Some initial) h = refl
one_source false (Some table) None h = refl
one_source false (Some table) (Some initial) h = absurd h

-- ---- memories

abbrev pub IsMemory : MemoryView → Bool
IsMemory m =
    is_width m.bits
    && (are_dims m.dims && ((not (m.host && (is_some m.table || is_some m.initial)) && not (is_some m.table && is_some m.initial)) && (are_elements_if m.dims m.bits m.table && are_elements_if m.dims m.bits m.initial)))

pub views_hold : (ms : List Memory) → list_all is_memory ms ≡ list_all IsMemory (map memory_view ms)
views_hold [] = refl
views_hold (m ∷ ms) = ap (λ b. is_memory m && b) (views_hold ms)

array_holds : (a : ArrayTree) → IsDimensioned a → HasContents a → IsMemory (array_memory a) ≡ true
array_holds a d h =
    and_from _ _ (width_is a.kind)
    (and_from _ _ (and_from _ _ (some_length a.lengths d.some) (and_from _ _ (lengths_hold a.lengths d.lengths) (most_test (address_bits a.lengths) 16 d.address)))
    (and_from _ _ (one_source a.host a.table a.initial h.source) (and_from _ _ (filled a a.table h.table) (filled a a.initial h.initial))))

pub arrays_hold : (arrays : List ArrayTree) → ((i : ℕ) (a : ArrayTree) → slice_get arrays i ≡ Some a → IsDimensioned a) → ((i : ℕ) (a : ArrayTree) → slice_get arrays i ≡ Some a → HasContents a) → list_all IsMemory (map array_memory arrays) ≡ true
arrays_hold [] d h = refl
arrays_hold (a ∷ arrays) d h = and_from _ _ (array_holds a (d 0 a refl) (h 0 a refl)) (arrays_hold arrays (λ i x at. d (suc i) x at) (λ i x at. h (suc i) x at))
