-- A number is below 2 to the power of its bits.
use Rattle.std.proofs.Common.{◌≡◌, ℕ, zero, suc, ◌+◌, ◌-◌, ◌^◌, ◌<◌, ◌≤◌, List, [], ◌∷◌, Some, sym, ap, ◌∙◌, subst, inl, inr, arith}
use Rattle.std.specs.Prelude.{nat_le, cond, max, fold, slice_get}
use Rattle.std.specs.List.{range_with_len, enumerate_from}
use Rattle.std.proofs.lemmas.Bool.{cases_Bool, leb-false, cond-true, cond-false, cases_eq}
use Rattle.std.proofs.lemmas.Nat.{pow_below}
use Rattle.clock_ir.specs.ClockRuns.{TimedNode}
use Rattle.datapath.specs.Plans.{Plan, span, initial_cycles, bits_of, numbered}
use Rattle.datapath.specs.Control.{greatest_time, time_bits}

-- ---- bits

-- one more, where a power of two is not above the number
abbrev counted : ℕ → ℕ → ℕ → ℕ
counted n s k = s + cond (nat_le (2 ^ k) n) 1 0

grows : (n s : ℕ) (ks : List ℕ) → s ≤ fold (counted n) s ks
grows n s [] = omega arith
grows n s (k ∷ ks) =
    let more : s ≤ counted n s k = omega arith in
    let rest : counted n s k ≤ fold (counted n) (counted n s k) ks = grows n (counted n s k) ks in
    omega (arith, more, rest)

power_grows : (a b : ℕ) → a ≤ b → 2 ^ a ≤ 2 ^ b
power_grows a b h = elim (cases_eq a b) [
  | inl same ↦ let e : 2 ^ a ≡ 2 ^ b = ap (λ k. 2 ^ k) same in omega (arith, e)
  | inr other ↦ let less = pow_below a b (omega arith) in omega (arith, less)
]

below : (n a m : ℕ) → n < 2 ^ (a + m) → n < 2 ^ fold (counted n) a (range_with_len a m)
below n a zero h = let same : a + 0 ≡ a = omega arith in subst (λ k. n < 2 ^ k) same h
below n a (suc m) h =
    elim (cases_Bool (nat_le (2 ^ a) n)) [
      | inl within ↦
          let up : counted n a a ≡ a + 1 = ap (λ k. a + k) (cond-true _ _ _ within) in
          let next : a + suc m ≡ a + 1 + m = omega arith in
          subst (λ s. n < 2 ^ fold (counted n) s (range_with_len (a + 1) m)) (sym up) (below n (a + 1) m (subst (λ k. n < 2 ^ k) next h))
      | inr above ↦
          let low : n < 2 ^ a = let k = leb-false (2 ^ a) n above in omega arith in
          let up : counted n a a ≡ a = ap (λ k. a + k) (cond-false _ _ _ above) ∙ (let same : a + 0 ≡ a = omega arith in same) in
          let more : a ≤ fold (counted n) a (range_with_len (a + 1) m) = grows n a (range_with_len (a + 1) m) in
          let wide = power_grows a (fold (counted n) a (range_with_len (a + 1) m)) more in
          subst (λ s. n < 2 ^ fold (counted n) s (range_with_len (a + 1) m)) (sym up) (omega (arith, low, wide))
    ]

pub below_bits : (n : ℕ) → n < 2 ^ 64 → n < 2 ^ bits_of n
below_bits n h = below n 0 64 h

-- ---- times

abbrev at_most : (ℕ × TimedNode → ℕ) → ℕ → ℕ × TimedNode → ℕ
at_most f t n = max t (f n)

max_left : (a b : ℕ) → a ≤ max a b
max_left a b = omega arith

max_right : (a b : ℕ) → b ≤ max a b
max_right a b = omega arith

first_within : (f : ℕ × TimedNode → ℕ) (t : ℕ) (xs : List (ℕ × TimedNode)) → t ≤ fold (at_most f) t xs
first_within f t [] = omega arith
first_within f t (x ∷ xs) =
    let here = max_left t (f x) in
    let rest = first_within f (max t (f x)) xs in
    omega (arith, here, rest)

pub node_within : (f : ℕ × TimedNode → ℕ) (t k j : ℕ) (xs : List TimedNode) (x : TimedNode) → slice_get xs j ≡ Some x → f (k + j, x) ≤ fold (at_most f) t (enumerate_from k xs)
node_within f t k j [] x at_ = absurd (cc)
node_within f t k zero (y ∷ ys) x at_ =
    let same : y ≡ x = cc in
    let here : f (k + 0, x) ≡ f (k, y) = ap (λ n. f (n, x)) (let e : k + 0 ≡ k = omega arith in e) ∙ ap (λ z. f (k, z)) (sym same) in
    let more = max_right t (f (k, y)) in
    let rest = first_within f (max t (f (k, y))) (enumerate_from (k + 1) ys) in
    omega (arith, here, more, rest)
node_within f t k (suc j) (y ∷ ys) x at_ =
    let next : k + suc j ≡ k + 1 + j = omega arith in
    subst (λ n. f (n, x) ≤ fold (at_most f) t (enumerate_from k (y ∷ ys))) (sym next) (node_within f (max t (f (k, y))) (k + 1) j ys x at_)

-- the time of a node fits its register
pub time_fits : (p : Plan) (i : ℕ) (node : TimedNode) (time : ℕ) → greatest_time p < 2 ^ 64 → slice_get p.program.nodes i ≡ Some node → time < span p i → time < 2 ^ time_bits p
time_fits p i node time few at_ h =
    let zero_more : 0 + i ≡ i = omega arith in
    let within : span p i - 1 ≤ greatest_time p =
    subst (λ k. span p k - 1 ≤ greatest_time p) zero_more (node_within (λ n. span p n.0 - 1) (initial_cycles p - 1) 0 i p.program.nodes node at_) in
    let low = below_bits (greatest_time p) few in
    omega (arith, within, low, h)

-- and so does the time of the initial sequence
pub sequence_fits : (p : Plan) (time : ℕ) → greatest_time p < 2 ^ 64 → time < initial_cycles p → time < 2 ^ time_bits p
sequence_fits p time few h =
    let within : initial_cycles p - 1 ≤ greatest_time p = first_within (λ n. span p n.0 - 1) (initial_cycles p - 1) (numbered p) in
    let low = below_bits (greatest_time p) few in
    omega (arith, within, low, h)
