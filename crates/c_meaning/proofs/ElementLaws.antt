-- Reads of what was written, and places of elements.
use Rattle.std.proofs.Common.{◌≡◌, ◌≢◌, ℕ, zero, suc, ◌+◌, ◌*◌, ◌<◌, ◌≤◌, ◌∙◌, sym, refl, ap, subst, inl, inr, List, [], ◌∷◌, length, set, ℤ, pos, negsuc, Option, Some, None, arith}
use Rattle.std.specs.Prelude.{slice_get, nat_lt}
use Rattle.std.proofs.lemmas.Option.{slice_get_within}
use Rattle.std.proofs.lemmas.Bool.{cases_eq, cases_lt, cases_Bool, ltb-true}
use Rattle.std.proofs.Math.Nat.{mul-le-mul_right}
use Rattle.hls_base.specs.ArrayAddress.{element_count}
use Rattle.c_meaning.specs.Store.{Object, State, changed, with_element, element_in, elements_in, read_element, write_element, subscript_in, place_in_rows, element_place}
use Rattle.c_meaning.specs.Laws.{IsElement, Elements, Places}

-- ---- lists

get-set_same : {X : Type 0} (xs : List X) (i : ℕ) (x : X) → i < length xs → slice_get (set xs i x) i ≡ Some x
get-set_same [] i x h = absurd (omega arith)
get-set_same (y ∷ xs) zero x h = refl
get-set_same (y ∷ xs) (suc i) x h = get-set_same xs i x (omega arith)

get-set_other : {X : Type 0} (xs : List X) (i j : ℕ) (x : X) → i ≢ j → slice_get (set xs i x) j ≡ slice_get xs j
get-set_other [] i j x h = refl
get-set_other (y ∷ xs) zero zero x h = absurd (h refl)
get-set_other (y ∷ xs) zero (suc j) x h = refl
get-set_other (y ∷ xs) (suc i) zero x h = refl
get-set_other (y ∷ xs) (suc i) (suc j) x h = get-set_other xs i j x (λ e. h (ap suc e))

found : {X : Type 0} (xs : List X) (i : ℕ) → i < length xs → (x : X) × (slice_get xs i ≡ Some x)
found [] i h = absurd (omega arith)
found (x ∷ xs) zero h = (x, refl)
found (x ∷ xs) (suc i) h = found xs i (omega arith)

-- ---- writes

written_at : (os : List Object) (object element : ℕ) (n : ℤ) (o : Object) → slice_get os object ≡ Some o → object < length os → element < length o.elements
    → element_in (slice_get (elements_in (slice_get (changed (with_element element n) os object (slice_get os object)) object)) element) ≡ Some n
written_at os object element n o is within inside =
    ap (λ f. element_in (slice_get (elements_in (slice_get (changed (with_element element n) os object f) object)) element)) is
    ∙ (ap (λ f. element_in (slice_get (elements_in f) element)) (get-set_same os object (with_element element n o) within) ∙ ap element_in (get-set_same o.elements element (Some n) inside))

written : (s : State) (object element : ℕ) (n : ℤ) → IsElement s object element → read_element (write_element s object element n) object element ≡ Some n
written s object element n h =
    let f = found s.objects object h.0 in
    written_at s.objects object element n f.0 f.1 h.0 (subst (λ o. element < length (elements_in o)) f.1 h.1)

others_at : (os : List Object) (object element i j : ℕ) (n : ℤ) (o : Option Object) → slice_get os object ≡ o → (object ≡ i → element ≢ j)
    → element_in (slice_get (elements_in (slice_get (changed (with_element element n) os object o) i)) j) ≡ element_in (slice_get (elements_in (slice_get os i)) j)
others_at os object element i j n None is apart = refl
others_at os object element i j n (Some o) is apart =
    elim (cases_eq object i) [
      | inl same ↦
          let here : slice_get (set os object (with_element element n o)) i ≡ Some (with_element element n o) =
          ap (slice_get (set os object (with_element element n o))) (sym same) ∙ get-set_same os object (with_element element n o) (slice_get_within os object o is) in
          let there : slice_get os i ≡ Some o = ap (slice_get os) (sym same) ∙ is in
          ap (λ f. element_in (slice_get (elements_in f) j)) here
          ∙ (ap element_in (get-set_other o.elements element j (Some n) (apart same)) ∙ ap (λ f. element_in (slice_get (elements_in f) j)) (sym there))
      | inr other ↦ ap (λ f. element_in (slice_get (elements_in f) j)) (get-set_other os object i (with_element element n o) other)
    ]

others : (s : State) (object element i j : ℕ) (n : ℤ) → (object ≡ i → element ≢ j) → read_element (write_element s object element n) i j ≡ read_element s i j
others s object element i j n apart = others_at s.objects object element i j n (slice_get s.objects object) refl apart

pub elements_law : Elements
elements_law = record { written = written; others = others }

-- ---- places

subscript_of : (i : ℤ) (len row : ℕ) → subscript_in i len ≡ Some row → (i ≡ pos row) × (row < len)
subscript_of (pos n) len row e =
    elim (cases_Bool (nat_lt n len)) [
      | inl t ↦ let same : Some n ≡ Some row = rw t at e in let is : n ≡ row = cc in (ap pos is, subst (λ k. k < len) is (ltb-true n len t))
      | inr f ↦ absurd (let none : None ≡ Some row = rw f at e in cc)
    ]
subscript_of (negsuc n) len row e = absurd cc

-- a place in rows is that of a row and one within it
rows_of_place : (row : Option ℕ) (lengths : List ℕ) (rest : Option ℕ) (place : ℕ) → place_in_rows row lengths rest ≡ Some place
    → (i : ℕ) × (k : ℕ) × (row ≡ Some i) × (rest ≡ Some k) × (place ≡ i * element_count lengths + k)
rows_of_place None lengths rest place e = absurd cc
rows_of_place (Some i) lengths None place e = absurd cc
rows_of_place (Some i) lengths (Some k) place e = (i, k, refl, refl, cc)

within : (lengths : List ℕ) (is : List ℤ) (place : ℕ) → element_place lengths is ≡ Some place → place < element_count lengths
within [] [] place e = let is : 0 ≡ place = cc in omega (arith, is)
within [] (i ∷ is) place e = absurd cc
within (len ∷ lengths) [] place e = absurd cc
within (len ∷ lengths) (i ∷ is) place e =
    let parts = rows_of_place (subscript_in i len) lengths (element_place lengths is) place e in
    let row = subscript_of i len parts.0 parts.2 in
    let inner = within lengths is parts.1 parts.3 in
    mul_add_below parts.0 (element_count lengths) parts.1 len place row.1 inner parts.4
  where
    mul_add_below : (i w k h place : ℕ) → i < h → k < w → place ≡ i * w + k → place < h * w
    mul_add_below i w k h place below inside is =
        let le : (i + 1) * w ≤ h * w = mul-le-mul_right w (let h' : i + 1 ≤ h = omega (arith, below) in h') in
        omega (arith, le, inside, is)

same_parts : (w i j k l : ℕ) → k < w → l < w → i * w + k ≡ j * w + l → (i ≡ j) × (k ≡ l)
same_parts w i j k l hk hl e =
    elim (cases_lt i j) [
      | inl lt ↦ let le : (i + 1) * w ≤ j * w = mul-le-mul_right w (let h : i + 1 ≤ j = omega (arith, lt) in h) in absurd (omega (arith, le, hk, e))
      | inr ge ↦ elim (cases_lt j i) [
        | inl lt ↦ let le : (j + 1) * w ≤ i * w = mul-le-mul_right w (let h : j + 1 ≤ i = omega (arith, lt) in h) in absurd (omega (arith, le, hl, e))
        | inr le ↦
            let same : i ≡ j = omega (arith, ge, le) in
            let rows : i * w ≡ j * w = ap (λ n. n * w) same in
            (same, omega (arith, rows, e))
      ]
    ]

apart : (lengths : List ℕ) (is js : List ℤ) (place : ℕ) → element_place lengths is ≡ Some place → element_place lengths js ≡ Some place → is ≡ js
apart [] [] [] place e f = refl
apart [] [] (j ∷ js) place e f = absurd cc
apart [] (i ∷ is) js place e f = absurd cc
apart (len ∷ lengths) [] js place e f = absurd cc
apart (len ∷ lengths) (i ∷ is) [] place e f = absurd cc
apart (len ∷ lengths) (i ∷ is) (j ∷ js) place e f =
    let p = rows_of_place (subscript_in i len) lengths (element_place lengths is) place e in
    let q = rows_of_place (subscript_in j len) lengths (element_place lengths js) place f in
    let same = same_parts (element_count lengths) p.0 q.0 p.1 q.1 (within lengths is p.1 p.3) (within lengths js q.1 q.3) (sym p.4 ∙ q.4) in
    let first = subscript_of i len p.0 p.2 in
    let second = subscript_of j len q.0 q.2 in
    let heads : i ≡ j = first.0 ∙ (ap pos same.0 ∙ sym second.0) in
    let tails = apart lengths is js p.1 p.3 (q.3 ∙ ap (λ n. Some n) (sym same.1)) in
    λ n. heads n ∷ tails n

pub places_law : Places
places_law = record { within = within; apart = apart }
