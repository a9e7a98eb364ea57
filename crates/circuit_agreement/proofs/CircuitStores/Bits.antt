-- A number is below 2 to the power of its bits.
use Rattle.std.proofs.Common.{◌≡◌, ℕ, zero, suc, ◌+◌, ◌^◌, ◌<◌, ◌≤◌, List, [], ◌∷◌, sym, ap, ◌∙◌, subst, inl, inr, arith}
use Rattle.std.specs.Prelude.{nat_le, cond, fold}
use Rattle.std.specs.List.{range_with_len}
use Rattle.std.proofs.Math.Nat.{pow-le-pow_right}
use Rattle.std.proofs.lemmas.Bool.{cases_Bool, leb-false, cond-true, cond-false}
use Rattle.datapath.specs.Plans.{bits_of}

-- one more, where a power of two is not above the number
abbrev counted : ℕ → ℕ → ℕ → ℕ
counted n s k = s + cond (nat_le (2 ^ k) n) 1 0

grows : (n s : ℕ) (ks : List ℕ) → s ≤ fold (counted n) s ks
grows n s [] = omega arith
grows n s (k ∷ ks) =
    let more : s ≤ counted n s k = omega arith in
    let rest : counted n s k ≤ fold (counted n) (counted n s k) ks = grows n (counted n s k) ks in
    omega (arith, more, rest)

below : (n a m : ℕ) → n < 2 ^ (a + m) → n < 2 ^ fold (counted n) a (range_with_len a m)
below n a zero h = let same : a + 0 ≡ a = omega arith in subst (λ k. n < 2 ^ k) same h
below n a (suc m) h =
    elim (cases_Bool (nat_le (2 ^ a) n)) [
      | inl within ↦
          let up : counted n a a ≡ a + 1 = ap (λ k. a + k) (cond-true _ _ _ within) in
          let next : a + suc m ≡ a + 1 + m = omega arith in
          subst (λ s. n < 2 ^ fold (counted n) s (range_with_len (a + 1) m)) (sym up) (below n (a + 1) m (subst (λ k. n < 2 ^ k) next h))
      | inr above ↦
          let low : n < 2 ^ a = let k = leb-false (2 ^ a) n above in omega arith in
          let up : counted n a a ≡ a = ap (λ k. a + k) (cond-false _ _ _ above) ∙ (let same : a + 0 ≡ a = omega arith in same) in
          let more : a ≤ fold (counted n) a (range_with_len (a + 1) m) = grows n a (range_with_len (a + 1) m) in
          let wide : 2 ^ a ≤ 2 ^ fold (counted n) a (range_with_len (a + 1) m) = pow-le-pow_right (omega arith) more in
          subst (λ s. n < 2 ^ fold (counted n) s (range_with_len (a + 1) m)) (sym up) (omega (arith, low, wide))
    ]

pub below_bits : (n : ℕ) → n < 2 ^ 64 → n < 2 ^ bits_of n
below_bits n h = below n 0 64 h
