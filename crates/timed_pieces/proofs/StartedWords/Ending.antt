-- Words that show a store at the end of a run hold its answer.
use Rattle.std.proofs.Common.{◌≡◌, ◌∙◌, ◌<◌, ℕ, zero, suc, ◌+◌, refl, ap, ap₂, sym, subst, arith, ℤ, List, [], ◌∷◌, map, length, get_or, Option, Some, None, slice_get, option_map, if◌then◌else◌}
use Rattle.std.specs.Prelude.{unsigned_abs}
use Rattle.std.proofs.lemmas.List.{get_or-map, length-map}
use Rattle.hls_base.specs.FileScope.{FileScope}
use Rattle.hls_base.specs.ArrayAddress.{addresses, element_count}
use Rattle.hls_base.specs.declared.number.Kept.{Kept}
use Rattle.hls_base.specs.declared.number.VarId.{VarId}
use Rattle.c_token.specs.declared.ctype.CType.{CType}
use Rattle.c_value.specs.Values.{pattern}
use Rattle.c_meaning.specs.Run.{ended}
use Rattle.c_meaning.specs.Store.{element_place}
use Rattle.pieces.specs.Program.{ArrayTree, ExpandedTree}
use Rattle.c_meaning.specs.PieceRuns.Values.{Store, lengths_in, element_number}
use Rattle.c_meaning.specs.PieceRuns.Pieces.{kind_in, type_of}
use Rattle.c_meaning.specs.PieceRuns.Runs.{frame_of, type_in, words_from, words_of, host_arrays, kept_arrays, kept_of, if_kept, result_word, variables_of}
use Rattle.ir_core.specs.Bodies.{Words, address_of}
use Rattle.pass_runs.specs.LowerRuns.Showing.{AreShort}
use Rattle.pass_runs.specs.LowerRuns.Holding.{Holds, none_hidden, ArraysAreShort, IsThere}
use Rattle.timed_pieces.specs.StartedWords.Contents.{elements_at, host_words, kept_words, words_in, file_words, ResultIsThere, KeptAreThere}
use Rattle.timed_pieces.specs.StartedWords.{EndedWordsShow}
use Rattle.timed_pieces.proofs.StartedWords.Places.{address_count, is_placed, subscripts_of, has_place}

-- a list of so many words is that of a row, where each word is
row_is : (k : CType) (row : ℕ → ℤ) (xs : List ℕ) (count i : ℕ) → length xs ≡ count → ((j : ℕ) → j < count → get_or xs j 0 ≡ pattern k (row (i + j))) → xs ≡ words_from count i k row
row_is k row [] zero i long each = refl
row_is k row [] (suc count) i long each = absurd (omega (arith, long))
row_is k row (x ∷ xs) zero i long each = absurd (omega (arith, long))
row_is k row (x ∷ xs) (suc count) i long each =
    let first : x ≡ pattern k (row i) = each 0 (omega arith) ∙ ap (λ n. pattern k (row n)) (let z : i + 0 ≡ i = omega arith in z) in
    let later : (j : ℕ) → j < count → get_or xs j 0 ≡ pattern k (row (i + 1 + j)) = λ j h. each (suc j) (omega (arith, h)) ∙ ap (λ n. pattern k (row n)) (let z : i + suc j ≡ i + 1 + j = omega arith in z) in
    ap₂ (λ y ys. y ∷ ys) first (row_is k row xs count (i + 1) (omega (arith, long)) later)

module _ (e : ExpandedTree) (s : Store) (t : Words) (short : ArraysAreShort (frame_of e)) (holds : Holds (frame_of e) none_hidden s t) where
  array_is : (i : ℕ) (a : ArrayTree) → slice_get e.arrays i ≡ Some a → elements_at a.lengths (t.memories i) ≡ words_of a (s.elements i)
  array_is i a at = row_is a.kind (s.elements i) (elements_at a.lengths (t.memories i)) (element_count a.lengths) 0 (length-map (addresses a.lengths) (t.memories i) ∙ address_count a.lengths) each where
    each : (j : ℕ) → j < element_count a.lengths → get_or (elements_at a.lengths (t.memories i)) j 0 ≡ pattern a.kind (s.elements i (0 + j))
    each j h =
        let subs = subscripts_of a.lengths j in
        let lengths : lengths_in (slice_get e.arrays i) ≡ a.lengths = ap lengths_in at in
        let place = has_place a.lengths j h in
        let numbered : element_number e.arrays i subs ≡ Some j = ap (λ l. element_place l subs) lengths ∙ place in
        let short_ = subst (λ l. AreShort l) lengths (short i) in
        let p = is_placed a.lengths subs j short_ place in
        let word = (holds.arrays i subs j numbered).word in
        let count = address_count a.lengths in
        let inside : j < length (addresses a.lengths) = omega (arith, count, h) in
        get_or-map (t.memories i) (addresses a.lengths) j 0 0 inside ∙ ap (t.memories i) (p.stands ∙ ap (λ l. address_of l (map unsigned_abs subs)) (sym lengths)) ∙ word
        ∙ ap (λ o. pattern (kind_in o) (s.elements i j)) at ∙ ap (λ n. pattern a.kind (s.elements i n)) (let z : j ≡ 0 + j = omega arith in z)

  later : (arrays : List ArrayTree) (a : ArrayTree) (i : ℕ) → ((j : ℕ) → slice_get (a ∷ arrays) j ≡ slice_get e.arrays (i + j)) → (j : ℕ) → slice_get arrays j ≡ slice_get e.arrays (i + 1 + j)
  later arrays a i at j = at (suc j) ∙ ap (slice_get e.arrays) (let n : i + suc j ≡ i + 1 + j = omega arith in n)

  here : (arrays : List ArrayTree) (a : ArrayTree) (i : ℕ) → ((j : ℕ) → slice_get (a ∷ arrays) j ≡ slice_get e.arrays (i + j)) → slice_get e.arrays i ≡ Some a
  here arrays a i at = ap (slice_get e.arrays) (let n : i ≡ i + 0 = omega arith in n) ∙ sym (at 0)

  hosts_are : (arrays : List ArrayTree) (i : ℕ) → ((j : ℕ) → slice_get arrays j ≡ slice_get e.arrays (i + j)) → host_words arrays i t.memories ≡ host_arrays arrays i s
  hosts_are [] i at = refl
  hosts_are (a ∷ rest) i at =
      let row = array_is i a (here rest a i at) in
      let rows = hosts_are rest (i + 1) (later rest a i at) in
      ap₂ (λ r rs. if a.host then r ∷ rs else rs) row rows

  kept_are : (arrays : List ArrayTree) (i : ℕ) → ((j : ℕ) → slice_get arrays j ≡ slice_get e.arrays (i + j)) → kept_words arrays i t.memories ≡ kept_arrays arrays i s
  kept_are [] i at = refl
  kept_are (a ∷ rest) i at = ap₂ (λ r rs. if_kept a.initial r rs) (array_is i a (here rest a i at)) (kept_are rest (i + 1) (later rest a i at))

  variable_is : (v : VarId) (k : CType) → slice_get e.variables v.0 ≡ Some k → t.variables v.0 ≡ pattern k (s.variables v.0)
  variable_is v k at = (holds.variables v k at refl).word

  scalars_are : (kept : List Kept) → ((i : ℕ) (k : Kept) → slice_get kept i ≡ Some k → IsThere (frame_of e) k.variable)
      → words_in (variables_of kept) t.variables ≡ map (λ k. pattern (type_in e k.variable) (s.variables k.variable.0)) kept
  scalars_are [] there = refl
  scalars_are (k ∷ kept) there =
      let own = there 0 k refl in
      ap₂ (λ x xs. x ∷ xs) (variable_is k.variable own.0 own.1 ∙ ap (λ z. pattern z (s.variables k.variable.0)) (sym (ap type_of own.1))) (scalars_are kept (λ i. there (suc i)))

  file_is : KeptAreThere e → file_words e t ≡ kept_of e s
  file_is there = ap₂ (λ xs rows. scope xs rows) (scalars_are e.kept there) (kept_are e.arrays 0 (λ j. ap (slice_get e.arrays) (let z : j ≡ 0 + j = omega arith in z))) where
    scope : List ℕ → List (List ℕ) → FileScope
    scope xs rows = record { scalars = xs; arrays = rows }

  result_is : (ret : Option CType) (result : Option VarId) → ResultIsThere e.variables ret result → option_map (λ (v : VarId). t.variables v.0) result ≡ result_word e ret result s
  result_is None None there = refl
  result_is None (Some v) there = absurd there
  result_is (Some k) None there = absurd there
  result_is (Some k) (Some v) there = ap Some (variable_is v k there)

  answer_is : (value : Option ℕ) → KeptAreThere e → ResultIsThere e.variables e.ret e.result → value ≡ option_map (λ (v : VarId). t.variables v.0) e.result → {A : Type 0} (g : Option ℕ → List (List ℕ) → FileScope → A)
      → g (result_word e e.ret e.result s) (host_arrays e.arrays 0 s) (kept_of e s) ≡ g value (host_words e.arrays 0 t.memories) (file_words e t)
  answer_is value kept result is g =
      ap (λ x. g x (host_arrays e.arrays 0 s) (kept_of e s)) (sym (is ∙ result_is e.ret e.result result))
      ∙ ap (λ x. g value x (kept_of e s)) (sym (hosts_are e.arrays 0 (λ j. ap (slice_get e.arrays) (let z : j ≡ 0 + j = omega arith in z))))
      ∙ ap (g value (host_words e.arrays 0 t.memories)) (sym (file_is kept))

pub ended_words_show : EndedWordsShow
ended_words_show e way s value t trace left short kept result done = answer_is e s t short done.2 value kept result done.1 (λ x rows file. ended x rows file trace)
