-- An element that is written is in the memory.
use Rattle.std.proofs.Common.{◌≡◌, ◌∙◌, ◌<◌, ◌≤◌, ℕ, ◌+◌, ◌*◌, ◌^◌, ◌%◌, true, refl, ap, ap₂, sym, subst, arith, inl, inr, ℤ, pos, List, [], ◌∷◌, ◌++◌, map, length, length-append, Some}
use Rattle.std.specs.Prelude.{get_or, take, ◌-◌, nat_lt, unsigned_abs}
use Rattle.std.proofs.Math.Nat.{mod-eq_of_lt, mul-le-mul_right}
use Rattle.std.proofs.Math.Seq.{get_or-append_seam}
use Rattle.std.proofs.lemmas.Nat.{pow-add, pow_pos, mul-add-lt, mod_below}
use Rattle.std.proofs.lemmas.Bool.{ltb-true, cases_lt}
use Rattle.hls_base.specs.ArrayAddress.{subscript_bits, address_bits}
use Rattle.ir_core.proofs.Rising.{short-fits}
use Rattle.c_meaning.specs.Store.{element_place}
use Rattle.ir_core.specs.Bodies.{address_of}
use Rattle.pass_runs.proofs.LowerRuns.Showing.{placed}
use Rattle.pass_runs.specs.LowerRuns.Showing.{AreShort}

address_below : (dims subs : List ℕ) → address_of dims subs < 2 ^ address_bits dims
address_below [] subs = omega arith
address_below (len ∷ dims) [] = pow_pos (subscript_bits len + address_bits dims)
address_below (len ∷ dims) (i ∷ subs) =
    let low : i % 2 ^ subscript_bits len < 2 ^ subscript_bits len = mod_below i (2 ^ subscript_bits len) (pow_pos (subscript_bits len)) in
    let both = mul-add-lt (i % 2 ^ subscript_bits len) (2 ^ address_bits dims) (address_of dims subs) (2 ^ subscript_bits len) low (address_below dims subs) in
    let power = pow-add 2 (subscript_bits len) (address_bits dims) in
    let turned : 2 ^ address_bits dims * 2 ^ subscript_bits len ≡ 2 ^ subscript_bits len * 2 ^ address_bits dims = omega arith in
    subst (λ p. (i % 2 ^ subscript_bits len) * 2 ^ address_bits dims + address_of dims subs < p) (turned ∙ sym power) both

first_same : (i j w a b : ℕ) → a < w → b < w → i * w + a ≡ j * w + b → i ≡ j
first_same i j w a b p q e = elim (cases_lt i j) [
  | inl lt ↦ let le : (i + 1) * w ≤ j * w = mul-le-mul_right w (let h : i + 1 ≤ j = omega (arith, lt) in h) in absurd (omega (arith, le, p, q, e))
  | inr ge ↦ elim (cases_lt j i) [
    | inl lt ↦ let le : (j + 1) * w ≤ i * w = mul-le-mul_right w (let h : j + 1 ≤ i = omega (arith, lt) in h) in absurd (omega (arith, le, p, q, e))
    | inr le ↦ omega (arith, ge, le)
  ]
]

own_bits : (len i : ℕ) → len ≤ 65536 → nat_lt i len ≡ true → i % 2 ^ subscript_bits len ≡ i
own_bits len i short on =
    let fits = short-fits len short in
    let low = ltb-true i len on in
    let less : i < 2 ^ subscript_bits len = omega (arith, fits, low) in
    mod-eq_of_lt less

-- Elements at one address have the same subscripts.
pub same_subscripts : (dims : List ℕ) (is_ js : List ℤ) (i j : ℕ) → AreShort dims → element_place dims is_ ≡ Some i → element_place dims js ≡ Some j → address_of dims (map unsigned_abs is_) ≡ address_of dims (map unsigned_abs js) → is_ ≡ js
same_subscripts [] [] [] i j short e1 e2 e = refl
same_subscripts [] [] (y ∷ js) i j short e1 e2 e = absurd cc
same_subscripts [] (x ∷ is_) js i j short e1 e2 e = absurd cc
same_subscripts (len ∷ dims) [] js i j short e1 e2 e = absurd cc
same_subscripts (len ∷ dims) (x ∷ is_) [] i j short e1 e2 e = absurd cc
same_subscripts (len ∷ dims) (x ∷ is_) (y ∷ js) i j short e1 e2 e =
    let p = placed len dims x is_ i e1 in
    let q = placed len dims y js j e2 in
    let m = p.here.0 in
    let n = q.here.0 in
    let w = 2 ^ address_bits dims in
    let a = address_of dims (map unsigned_abs is_) in
    let b = address_of dims (map unsigned_abs js) in
    let row : (m % 2 ^ subscript_bits len) * w + a ≡ (n % 2 ^ subscript_bits len) * w + b =
    ap (λ z. (unsigned_abs z % 2 ^ subscript_bits len) * w + a) (sym p.here.1) ∙ e ∙ ap (λ z. (unsigned_abs z % 2 ^ subscript_bits len) * w + b) q.here.1 in
    let first = first_same (m % 2 ^ subscript_bits len) (n % 2 ^ subscript_bits len) w a b (address_below dims (map unsigned_abs is_)) (address_below dims (map unsigned_abs js)) row in
    let same : m ≡ n = sym (own_bits len m short.0 p.here.2) ∙ first ∙ own_bits len n short.0 q.here.2 in
    let rows : (m % 2 ^ subscript_bits len) * w ≡ (n % 2 ^ subscript_bits len) * w = ap (λ z. z * w) first in
    let rest : a ≡ b = omega (arith, row, rows) in
    ap₂ (λ z zs. z ∷ zs) (p.here.1 ∙ ap pos same ∙ sym q.here.1) (same_subscripts dims is_ js p.rest.0 q.rest.0 short.1 p.rest.1 q.rest.1 rest)

-- ---- the subscripts and the word of a store

pub all_but_last : (ws : List ℕ) (w : ℕ) → take (length (ws ++ w ∷ []) - 1) (ws ++ w ∷ []) ≡ ws
all_but_last ws w = ap (λ n. take n (ws ++ w ∷ [])) (let e = length-append ws (w ∷ []) in let h : length (ws ++ w ∷ []) - 1 ≡ length ws = omega (arith, e) in h) ∙ front ws (w ∷ []) where
  front : (xs ys : List ℕ) → take (length xs) (xs ++ ys) ≡ xs
  front [] ys = refl
  front (x ∷ xs) ys = ap (λ l. x ∷ l) (front xs ys)

pub last_one : (ws : List ℕ) (w : ℕ) → get_or (ws ++ w ∷ []) (length (ws ++ w ∷ []) - 1) 0 ≡ w
last_one ws w = ap (λ n. get_or (ws ++ w ∷ []) n 0) (let e = length-append ws (w ∷ []) in let h : length (ws ++ w ∷ []) - 1 ≡ length ws = omega (arith, e) in h) ∙ get_or-append_seam ws w [] 0
