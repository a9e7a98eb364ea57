-- Where elements stand among the addresses of their array.
use Rattle.std.proofs.Common.{◌≡◌, ◌∙◌, ◌<◌, ◌≤◌, ℕ, zero, suc, ◌+◌, ◌*◌, ◌/◌, ◌%◌, ◌^◌, refl, ap, sym, subst, arith, inl, inr, ℤ, pos, List, [], ◌∷◌, ◌++◌, map, length, get_or, length-append, Option, Some, None, mod-eq_of_lt, mul-le-mul_right, eq-zero-or-pos}
use Rattle.std.specs.Prelude.{unsigned_abs, if◌then◌else◌}
use Rattle.std.proofs.Math.Nat.{mod-add-div'}
use Rattle.std.proofs.lemmas.List.{get_or_append_left, get_or-append-add, get_or-map, length-map}
use Rattle.std.proofs.lemmas.Nat.{mod_below}
use Rattle.std.proofs.lemmas.Bool.{ltb-true, lt-ltb, cases_lt}
use Rattle.hls_base.specs.ArrayAddress.{subscript_bits, address_bits, element_count, row_addresses, addresses}
use Rattle.ir_core.proofs.Rising.{short-fits}
use Rattle.c_meaning.specs.Store.{element_place, place_in_rows, subscript_in}
use Rattle.ir_core.specs.Bodies.{address_of}
use Rattle.pass_runs.proofs.LowerRuns.Showing.{placed}
use Rattle.pass_runs.specs.LowerRuns.Showing.{AreShort}

-- ---- rows

row_count : (bits : ℕ) (row : List ℕ) (i n : ℕ) → length (row_addresses bits row i n) ≡ n * length row
row_count bits row i zero = omega arith
row_count bits row i (suc n) =
    let low = λ (low : ℕ). i * 2 ^ bits + low in
    let rest = row_count bits row (suc i) n in
    let first = length-map row low in
    length-append (map low row) (row_addresses bits row (suc i) n) ∙ omega (arith, rest, first)

pub address_count : (dims : List ℕ) → length (addresses dims) ≡ element_count dims
address_count [] = refl
address_count (len ∷ dims) = row_count (address_bits dims) (addresses dims) 0 len ∙ ap (λ n. len * n) (address_count dims)

row_at : (bits : ℕ) (row : List ℕ) (i n k j : ℕ) → k < n → j < length row → get_or (row_addresses bits row i n) (k * length row + j) 0 ≡ (i + k) * 2 ^ bits + get_or row j 0
row_at bits row i zero k j h g = absurd (omega (arith, h))
row_at bits row i (suc n) zero j h g =
    let low = λ (low : ℕ). i * 2 ^ bits + low in
    let rest = row_addresses bits row (suc i) n in
    let inside : j < length (map low row) = omega (arith, g, length-map row low) in
    let index : 0 * length row + j ≡ j = omega arith in
    let here : i * 2 ^ bits + get_or row j 0 ≡ (i + 0) * 2 ^ bits + get_or row j 0 = omega arith in
    ap (λ x. get_or (map low row ++ rest) x 0) index ∙ get_or_append_left (map low row) rest 0 j inside ∙ get_or-map low row j 0 0 g ∙ here
row_at bits row i (suc n) (suc k) j h g =
    let low = λ (low : ℕ). i * 2 ^ bits + low in
    let rest = row_addresses bits row (suc i) n in
    let count = length-map row low in
    let index : suc k * length row + j ≡ length (map low row) + (k * length row + j) = omega (arith, count) in
    let there : (suc i + k) * 2 ^ bits + get_or row j 0 ≡ (i + suc k) * 2 ^ bits + get_or row j 0 = ap (λ x. x * 2 ^ bits + get_or row j 0) (let e : suc i + k ≡ i + suc k = omega arith in e) in
    ap (λ x. get_or (map low row ++ rest) x 0) index ∙ get_or-append-add (map low row) rest (k * length row + j) 0 ∙ row_at bits row (suc i) n k j (omega (arith, h)) g ∙ there

-- ---- places

abbrev number : Option ℕ → ℕ
number None = 0
number (Some n) = n

row_below : (n len c j : ℕ) → n < len → j < c → n * c + j < len * c
row_below n len c j h g = let more : (n + 1) * c ≤ len * c = mul-le-mul_right c (let e : n + 1 ≤ len = omega (arith, h) in e) in omega (arith, more, g)

pub record IsPlaced (dims : List ℕ) (subs : List ℤ) (i : ℕ) : Type 0 where
  pub below : i < element_count dims
  pub stands : get_or (addresses dims) i 0 ≡ address_of dims (map unsigned_abs subs)

-- The element at these subscripts stands at their address.
pub is_placed : (dims : List ℕ) (subs : List ℤ) (i : ℕ) → AreShort dims → element_place dims subs ≡ Some i → IsPlaced dims subs i
is_placed [] [] i short e = let z : 0 ≡ i = ap number e in record { below = omega (arith, z); stands = let none : get_or (0 ∷ []) i 0 ≡ 0 = ap (λ n. get_or (0 ∷ []) n 0) (sym z) in none }
is_placed [] (v ∷ vs) i short e = absurd cc
is_placed (len ∷ dims) [] i short e = absurd cc
is_placed (len ∷ dims) (v ∷ vs) i short e =
    let p = placed len dims v vs i e in
    let n = p.here.0 in
    let j = p.rest.0 in
    let c = element_count dims in
    let inner = is_placed dims vs j short.1 p.rest.1 in
    let low : n < len = ltb-true n len p.here.2 in
    let own : n % 2 ^ subscript_bits len ≡ n = mod-eq_of_lt (let fits = short-fits len short.0 in let lt : n < 2 ^ subscript_bits len = omega (arith, fits, low) in lt) in
    let computed : element_place (len ∷ dims) (v ∷ vs) ≡ Some (n * c + j) =
    ap (λ z. place_in_rows (subscript_in z len) dims (element_place dims vs)) p.here.1 ∙ ap (λ b. place_in_rows (if b then Some n else None) dims (element_place dims vs)) p.here.2 ∙ ap (λ o. place_in_rows (Some n) dims o) p.rest.1 in
    let index : i ≡ n * c + j = ap number (sym e ∙ computed) in
    let count = address_count dims in
    let inside : j < length (addresses dims) = omega (arith, count, inner.below) in
    let spot : n * c + j ≡ n * length (addresses dims) + j = ap (λ z. n * z + j) (sym count) in
    let first : (0 + n) * 2 ^ address_bits dims + get_or (addresses dims) j 0 ≡ n * 2 ^ address_bits dims + get_or (addresses dims) j 0 = ap (λ z. z * 2 ^ address_bits dims + get_or (addresses dims) j 0) (let z : 0 + n ≡ n = omega arith in z) in
    record {
      below = subst (λ z. z < len * c) (sym index) (row_below n len c j low inner.below);
      stands = ap (λ z. get_or (addresses (len ∷ dims)) z 0) (index ∙ spot) ∙ row_at (address_bits dims) (addresses dims) 0 len n j low inside ∙ first
          ∙ ap (λ z. n * 2 ^ address_bits dims + z) inner.stands
          ∙ ap (λ z. z * 2 ^ address_bits dims + address_of dims (map unsigned_abs vs)) (sym own)
          ∙ ap (λ z. (unsigned_abs z % 2 ^ subscript_bits len) * 2 ^ address_bits dims + address_of dims (map unsigned_abs vs)) (sym p.here.1);
    }

-- the subscripts of the element of this number
abbrev pub subscripts_of : List ℕ → ℕ → List ℤ
subscripts_of [] i = []
subscripts_of (len ∷ dims) i = pos (i / element_count dims) ∷ subscripts_of dims (i % element_count dims)

pub has_place : (dims : List ℕ) (i : ℕ) → i < element_count dims → element_place dims (subscripts_of dims i) ≡ Some i
has_place [] i h = ap Some (let z : 0 ≡ i = omega (arith, h) in z)
has_place (len ∷ dims) i h =
    let c = element_count dims in
    let q = i / c in
    let r = i % c in
    let some : 0 < c = elim (eq-zero-or-pos c) [
      | inl none ↦ let all : i < len * 0 = subst (λ z. i < len * z) none h in absurd (omega (arith, all))
      | inr more ↦ more
    ] in
    let whole : r + q * c ≡ i = mod-add-div' i c in
    let low : q < len = elim (cases_lt q len) [
      | inl lt ↦ lt
      | inr ge ↦ let le : len * c ≤ q * c = mul-le-mul_right c ge in absurd (omega (arith, le, whole, h))
    ] in
    let rest = has_place dims r (mod_below i c some) in
    let index : q * c + r ≡ i = omega (arith, whole) in
    ap (λ b. place_in_rows (if b then Some q else None) dims (element_place dims (subscripts_of dims r))) (lt-ltb q len low) ∙ ap (λ o. place_in_rows (Some q) dims o) rest ∙ ap Some index
