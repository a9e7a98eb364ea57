-- Objects whose elements are given as words.
use Rattle.std.proofs.Common.{◌≡◌, ℕ, zero, suc, ◌+◌, ◌<◌, ◌∙◌, sym, refl, ap, ℤ, Bool, true, false, List, [], ◌∷◌, length, map, slice_get, Option, Some, None, arith, if◌then◌else◌}
use Rattle.std.specs.Prelude.{slice_index}
use Rattle.std.proofs.lemmas.Option.{none-some, same_Some}
use Rattle.hls_base.specs.ArrayAddress.{element_count}
use Rattle.hls_base.specs.declared.number.VarId.{VarId}
use Rattle.hls_base.specs.declared.number.ArrayId.{ArrayId}
use Rattle.c_token.specs.declared.ctype.CType.{CType}
use Rattle.c_value.specs.Values.{number_of, pattern}
use Rattle.c_meaning.specs.Store.{Object, element_in}
use Rattle.c_meaning.specs.Run.{filled, element_pattern, patterns}
use Rattle.pieces.specs.Resolved.Core.{FileObjectTree}
use Rattle.piece_making.specs.declared.frame.Home.TheVariants as home
use Rattle.piece_making.specs.Objects.{array_like, file_info}
use Rattle.pieces.specs.Program.{ArrayTree}
use Rattle.c_meaning.specs.PieceRuns.Values.{Store, lengths_in}
use Rattle.c_meaning.specs.PieceRuns.Pieces.{Frame, kind_at}
use Rattle.c_meaning.specs.PieceRuns.Runs.{words_from, words_of}
use Rattle.expand_runs.specs.Reading.{variable_type}
use Rattle.expand_runs.specs.Showing.{Stands, IsWhole}

abbrev pub words_in : CType → List ℕ → List (Option ℤ)
words_in k row = map (λ word. Some (number_of k word)) row

-- an element that is written holds the number of its word
pub word_there : (k : CType) (row : List ℕ) (i : ℕ) (v : ℤ) → element_in (slice_get (words_in k row) i) ≡ Some v → number_of k (slice_index row i) ≡ v
word_there k [] i v e = absurd (none-some v e)
word_there k (w ∷ row) zero v e = same_Some (number_of k w) v e
word_there k (w ∷ row) (suc i) v e = word_there k row i v e

words_length : (k : CType) (row : List ℕ) → length (words_in k row) ≡ length row
words_length k [] = refl
words_length k (w ∷ row) = ap suc (words_length k row)

words_all : (k : CType) (row : List ℕ) (i : ℕ) → i < length (words_in k row) → (v : ℤ) × (slice_get (words_in k row) i ≡ Some (Some v))
words_all k [] i lt = absurd (omega (arith, lt))
words_all k (w ∷ row) zero lt = (number_of k w, refl)
words_all k (w ∷ row) (suc i) lt = words_all k row i (omega (arith, lt))

pub filled_whole : (k : CType) (lengths : List ℕ) (row : List ℕ) → length row ≡ element_count lengths → IsWhole (filled k lengths row)
filled_whole k lengths row e = record { long = words_length k row ∙ e; all = λ i lt. words_all k row i lt }

-- What is written of an object whose elements are given is in the array that stands for it.
pub row_stands : (f : Frame) (b : ArrayId) (k : CType) (lengths row : List ℕ) (t : Store) → kind_at f.arrays b.0 ≡ k → lengths_in (slice_get f.arrays b.0) ≡ lengths → ((j : ℕ) → t.elements b.0 j ≡ number_of k (slice_index row j)) → Stands f (home.Array b) (filled k lengths row) t
row_stands f b k lengths row t kind_ lengths_ held = (sym kind_, sym lengths_, λ i v e. held i ∙ word_there k row i v e)

pub word_stands : (f : Frame) (u : VarId) (k : CType) (w : ℕ) (t : Store) → variable_type f u.0 ≡ k → t.variables u.0 ≡ number_of k w → Stands f (home.Variable u) (filled k [] (w ∷ [])) t
word_stands f u k w t kind_ held = (sym kind_, refl, λ v e. held ∙ same_Some (number_of k w) v e)

-- ---- arrays of file scope

pub info_kind : (o : FileObjectTree) → (file_info o).kind ≡ o.object.kind
info_kind o = kind_if o.object.constant
  where
    kind_if : (b : Bool) → (if b then array_like o.object (Some o.first) None false else array_like o.object None (Some o.first) false).kind ≡ o.object.kind
    kind_if true = refl
    kind_if false = refl

pub info_lengths : (o : FileObjectTree) → (file_info o).lengths ≡ o.object.lengths
info_lengths o = lengths_if o.object.constant
  where
    lengths_if : (b : Bool) → (if b then array_like o.object (Some o.first) None false else array_like o.object None (Some o.first) false).lengths ≡ o.object.lengths
    lengths_if true = refl
    lengths_if false = refl

-- ---- what is left

patterns_from : (k : CType) (elements : List (Option ℤ)) (row : ℕ → ℤ) (i : ℕ) → ((j : ℕ) → j < length elements → (v : ℤ) × (slice_get elements j ≡ Some (Some v))) → ((j m : ℕ) (v : ℤ) → m ≡ i + j → element_in (slice_get elements j) ≡ Some v → row m ≡ v)
    → map (element_pattern k) elements ≡ words_from (length elements) i k row
patterns_from k [] row i all held = refl
patterns_from k (x ∷ elements) row i all held =
    let q = all 0 (omega arith) in
    let is : x ≡ Some q.0 = same_Some x (Some q.0) q.1 in
    let head_ : element_pattern k x ≡ pattern k (row i) = ap (element_pattern k) is ∙ ap (pattern k) (sym (held 0 i q.0 (omega arith) is)) in
    ap (λ z. z ∷ map (element_pattern k) elements) head_ ∙ ap (λ z. pattern k (row i) ∷ z) (patterns_from k elements row (i + 1) (λ j lt. all (suc j) (omega (arith, lt))) (λ j m v e1 e2. held (suc j) m v (omega (arith, e1)) e2))

-- The words of an array are the patterns of the object that it stands for.
pub array_words : (f : Frame) (b : ArrayId) (x : Object) (a : ArrayTree) (t : Store) → Stands f (home.Array b) x t → IsWhole x → x.kind ≡ a.kind → x.lengths ≡ a.lengths → patterns x ≡ words_of a (t.elements b.0)
array_words f b x a t stands whole kind_ lengths_ =
    patterns_from x.kind x.elements (t.elements b.0) 0 whole.all (λ j m v e1 e2. ap (t.elements b.0) (let z : m ≡ j = omega (arith, e1) in z) ∙ stands.2 j v e2)
    ∙ ap (λ z. words_from z 0 x.kind (t.elements b.0)) (whole.long ∙ ap element_count lengths_) ∙ ap (λ z. words_from (element_count a.lengths) 0 z (t.elements b.0)) kind_

pub scalar_words : (f : Frame) (u : VarId) (x : Object) (k : CType) (t : Store) → Stands f (home.Variable u) x t → IsWhole x → x.kind ≡ k → patterns x ≡ pattern k (t.variables u.0) ∷ []
scalar_words f u x k t stands whole kind_ =
    patterns_from x.kind x.elements (λ i. t.variables u.0) 0 whole.all (λ j m v e1 e2. one_element j v e2) ∙ ap (λ z. words_from z 0 x.kind (λ i. t.variables u.0)) long_ ∙ ap (λ z. pattern z (t.variables u.0) ∷ []) kind_
  where
    long_ : length x.elements ≡ 1
    long_ = whole.long ∙ ap element_count stands.1

    past : (xs : List (Option ℤ)) (j : ℕ) (v : ℤ) → length xs ≡ 1 → element_in (slice_get xs (suc j)) ≡ Some v → ⊥
    past [] j v l e = none-some v e
    past (y ∷ []) j v l e = none-some v e
    past (y ∷ (z ∷ zs)) j v l e = omega (arith, l)

    one_element : (j : ℕ) (v : ℤ) → element_in (slice_get x.elements j) ≡ Some v → t.variables u.0 ≡ v
    one_element zero v e = stands.2 v e
    one_element (suc j) v e = absurd (past x.elements j v long_ e)
