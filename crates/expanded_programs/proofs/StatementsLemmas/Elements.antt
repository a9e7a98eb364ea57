-- Elements that are written by their numbers, as initialisers write them.
use Rattle.std.proofs.Common.{◌≡◌, ℕ, ◌<◌, ◌≤◌, ◌^◌, ◌/◌, ◌%◌, ◌∙◌, map, sym, refl, ap, subst, inl, inr, List, [], ◌∷◌, ℤ, pos, Some}
use Rattle.std.specs.Prelude.{slice_get}
use Rattle.std.proofs.lemmas.Bool.Decides.{eqb_tells}
use Rattle.hls_base.specs.ArrayAddress.{element_count}
use Rattle.hls_base.specs.declared.place.Place.{Place}
use Rattle.hls_base.specs.declared.number.ArrayId.{ArrayId}
use Rattle.c_token.specs.declared.ctype.CType.{CType}
use Rattle.c_value.specs.Values.{convert, int_type, number_of}
use Rattle.c_meaning.specs.Store.{element_place}
use Rattle.pieces.specs.Trees as tree
use Rattle.pieces.specs.Trees.{PureTree}
use Rattle.pieces.specs.Program.{ArrayTree}
use Rattle.hls_base.specs.Valued.{Valued, is, and_then, valued}
use Rattle.hls_base.specs.Steps.{goes}
use Rattle.c_meaning.specs.PieceRuns.Values.{Store, value, values, with_element, element_number, lengths_in}
use Rattle.c_meaning.specs.PieceRuns.Pieces.{Frame, on, kind_at, put_at}
use Rattle.c_expand.specs.Statements.{subscripts_at, at_least_one}
use Rattle.c_meaning.proofs.Ranges.{number_in, zero_in}
use Rattle.expand_runs.specs.Subscripts.{numbers_at}
use Rattle.expand_runs.proofs.PieceCounts.ElementNumbers.{element_at_number}
use Rattle.expand_runs.specs.Reading.{IsTyped, IsNumber}
use Rattle.expand_runs.proofs.Rows.{one_piece}
use Rattle.expand_runs.proofs.Going.{Goes}
use Rattle.expand_runs.proofs.Showing.{row_here, row_beside, row_other}

pub zero_converted : (k : CType) → convert k (pos 0) ≡ pos 0
zero_converted k = number_in k (pos 0) (zero_in k)

subscript_values : (arrays : List ArrayTree) (lengths : List ℕ) (n : ℕ) (t : Store) → values arrays (subscripts_at lengths n) t ≡ is (numbers_at lengths n)
subscript_values arrays [] n t = refl
subscript_values arrays (len ∷ lengths) n t =
    let first = number_of int_type ((n / element_count (map at_least_one lengths)) % at_least_one len) in
    ap (λ (z : Valued (List ℤ)). and_then z (λ (xs : List ℤ). is (first ∷ xs))) (subscript_values arrays lengths n t)

-- The element with this number is put.
pub goes_put : (f : Frame) (a : ArrayId) (k : CType) (lengths : List ℕ) (n : ℕ) (x : PureTree) (v : ℤ) (at : Place) (t : Store) → kind_at f.arrays a.0 ≡ k → lengths_in (slice_get f.arrays a.0) ≡ lengths → n < element_count lengths → element_count lengths ≤ 2 ^ 31 → value f.arrays x t ≡ is v
    → Goes f (tree.put a (subscripts_at lengths n) x at ∷ []) t (with_element a.0 n (convert k v) t)
goes_put f a k lengths n x v at t type long lt few e m =
    let js = numbers_at lengths n in
    let there : element_number f.arrays a.0 js ≡ Some n = ap (λ ls. element_place ls js) long ∙ element_at_number lengths n lt few in
    one_piece f (tree.put a (subscripts_at lengths n) x at) t m
    ∙ ap (λ z. valued z (λ is_ t1. valued (value f.arrays x t1) (λ y t2. put_at f a.0 (element_number f.arrays a.0 is_) y at t2) t1) t m) (subscript_values f.arrays lengths n t)
    ∙ ap (λ z. valued z (λ y t2. put_at f a.0 (element_number f.arrays a.0 js) y at t2) t m) e
    ∙ ap (λ z. put_at f a.0 z v at t m) there ∙ ap (λ z. goes on (with_element a.0 n (convert z v) t) m) type

-- Each element holds a number of its type still.
pub typed_element : (f : Frame) (t : Store) (a i : ℕ) (v : ℤ) → IsTyped f t → IsNumber (kind_at f.arrays a) v → IsTyped f (with_element a i v t)
typed_element f t a i v h number = record { variables = h.variables; elements = λ d j. element_typed d j }
  where
    element_typed : (d j : ℕ) → IsNumber (kind_at f.arrays d) ((with_element a i v t).elements d j)
    element_typed d j = elim (eqb_tells a d) [
      | inl e ↦ subst (λ z. IsNumber (kind_at f.arrays z) ((with_element a i v t).elements z j)) e.1 (elim (eqb_tells i j) [
        | inl g ↦ subst (λ z. IsNumber (kind_at f.arrays a) ((with_element a i v t).elements a z)) g.1 (subst (λ z. IsNumber (kind_at f.arrays a) z) (sym (row_here t.elements a i v)) number)
        | inr g ↦ subst (λ z. IsNumber (kind_at f.arrays a) z) (sym (row_beside t.elements a i j v g.1)) (h.elements a j)
      ])
      | inr e ↦ subst (λ z. IsNumber (kind_at f.arrays d) z) (sym (row_other t.elements a i d j v e.1)) (h.elements d j)
    ]
