-- The addresses of the elements rise, and stay below 2 to the power of the address bits.
use Rattle.std.proofs.Common.{◌≡◌, ℕ, zero, suc, ◌+◌, ◌*◌, ◌^◌, ◌<◌, ◌≤◌, List, [], ◌∷◌, ◌++◌, map, refl, sym, ap, ◌∙◌, subst, inl, inr, arith, cond}
use Rattle.std.specs.Prelude.{fold, nat_lt}
use Rattle.std.specs.List.{range_with_len}
use Rattle.std.proofs.Math.Nat.{mod-eq_of_lt, pow-le-pow_right, mul-le-mul_right}
use Rattle.std.proofs.lemmas.Nat.{pow-add}
use Rattle.std.proofs.lemmas.Bool.{lt-ltb, le-ltb, cases_lt}
use Rattle.hls_base.specs.ArrayAddress.{row_addresses, addresses, address_bits, subscript_bits}
use Rattle.ir_core.specs.AddressWords.{in_words, AreShort, AreRising}

-- ---- a subscript has bits enough

abbrev counted : ℕ → ℕ → List ℕ → ℕ
counted len from powers = fold (λ n k. n + cond (nat_lt (2 ^ k) len) 1 0) from powers

counted-yes : (len from lo : ℕ) (powers : List ℕ) → 2 ^ lo < len → counted len from (lo ∷ powers) ≡ counted len (from + 1) powers
counted-yes len from lo powers h = ap (λ b. counted len (from + cond b 1 0) powers) (lt-ltb (2 ^ lo) len h)

counted-no : (len from lo : ℕ) (powers : List ℕ) → len ≤ 2 ^ lo → counted len from (lo ∷ powers) ≡ counted len (from + 0) powers
counted-no len from lo powers h = ap (λ b. counted len (from + cond b 1 0) powers) (le-ltb (2 ^ lo) len h)

enough : (len from lo n : ℕ) → len ≤ 2 ^ (lo + n) → (extra : ℕ) × (counted len from (range_with_len lo n) ≡ from + extra) × (len ≤ 2 ^ (lo + extra))
enough len from lo zero h = (0, let e : from ≡ from + 0 = omega arith in e, h)
enough len from lo (suc n) h =
    let more : lo + suc n ≡ (lo + 1) + n = omega arith in
    let held : len ≤ 2 ^ ((lo + 1) + n) = subst (λ k. len ≤ 2 ^ k) more h in
    elim (cases_lt (2 ^ lo) len) [
      | inl low ↦
          let r = enough len (from + 1) (lo + 1) n held in
          let same : (lo + 1) + r.0 ≡ lo + suc r.0 = omega arith in
          (suc r.0, counted-yes len from lo (range_with_len (lo + 1) n) low ∙ r.1 ∙ (let e : from + 1 + r.0 ≡ from + suc r.0 = omega arith in e), subst (λ k. len ≤ 2 ^ k) same r.2)
      | inr high ↦
          let r = enough len (from + 0) (lo + 1) n held in
          let power : 2 ^ lo ≤ 2 ^ (lo + r.0) = pow-le-pow_right (omega arith) (omega arith) in
          (r.0, counted-no len from lo (range_with_len (lo + 1) n) high ∙ r.1 ∙ (let e : from + 0 + r.0 ≡ from + r.0 = omega arith in e), omega arith)
    ]

pub short-fits : (len : ℕ) → len ≤ 65536 → len ≤ 2 ^ subscript_bits len
short-fits len h =
    let r = enough len 0 1 15 h in
    let same : 1 + r.0 ≡ subscript_bits len = (let e : counted len 0 (range_with_len 1 15) ≡ r.0 = r.1 ∙ (let z : 0 + r.0 ≡ r.0 = omega arith in z) in ap (λ n. 1 + n) (sym e)) in
    subst (λ k. len ≤ 2 ^ k) same r.2

-- ---- rising lists

pub rising-wider : (lo low high hi : ℕ) (xs : List ℕ) → lo ≤ low → high ≤ hi → AreRising low xs high → AreRising lo xs hi
rising-wider lo low high hi [] l h r = omega arith
rising-wider lo low high hi (x ∷ xs) l h r = (omega (arith, r.0), rising-wider (suc x) (suc x) high hi xs (omega arith) h r.1)

rising-append : (lo mid hi : ℕ) (xs ys : List ℕ) → AreRising lo xs mid → AreRising mid ys hi → AreRising lo (xs ++ ys) hi
rising-append lo mid hi [] ys a b = rising-wider lo mid hi hi ys a (omega arith) b
rising-append lo mid hi (x ∷ xs) ys a b = (a.0, rising-append (suc x) mid hi xs ys a.1 b)

rising-moved : (by lo hi : ℕ) (xs : List ℕ) → AreRising lo xs hi → AreRising (by + lo) (map (λ x. by + x) xs) (by + hi)
rising-moved by lo hi [] r = omega (arith, r)
rising-moved by lo hi (x ∷ xs) r =
    let next : by + suc x ≡ suc (by + x) = omega arith in
    (omega (arith, r.0), subst (λ k. AreRising k (map (λ y. by + y) xs) (by + hi)) next (rising-moved by (suc x) hi xs r.1))

rising-rows : (bits : ℕ) (row : List ℕ) (i n : ℕ) → AreRising 0 row (2 ^ bits) → AreRising (i * 2 ^ bits) (row_addresses bits row i n) ((i + n) * 2 ^ bits)
rising-rows bits row i zero r = let e : i * 2 ^ bits ≤ (i + 0) * 2 ^ bits = omega arith in e
rising-rows bits row i (suc n) r =
    let first : AreRising (i * 2 ^ bits + 0) (map (λ low. i * 2 ^ bits + low) row) (i * 2 ^ bits + 2 ^ bits) = rising-moved (i * 2 ^ bits) 0 (2 ^ bits) row r in
    let begin : i * 2 ^ bits ≤ i * 2 ^ bits + 0 = omega arith in
    let next : i * 2 ^ bits + 2 ^ bits ≤ suc i * 2 ^ bits = omega arith in
    let last : (suc i + n) * 2 ^ bits ≤ (i + suc n) * 2 ^ bits = omega arith in
    rising-append (i * 2 ^ bits) (suc i * 2 ^ bits) ((i + suc n) * 2 ^ bits) (map (λ low. i * 2 ^ bits + low) row) (row_addresses bits row (suc i) n)
    (rising-wider (i * 2 ^ bits) (i * 2 ^ bits + 0) (i * 2 ^ bits + 2 ^ bits) (suc i * 2 ^ bits) (map (λ low. i * 2 ^ bits + low) row) begin next first)
    (rising-wider (suc i * 2 ^ bits) (suc i * 2 ^ bits) ((suc i + n) * 2 ^ bits) ((i + suc n) * 2 ^ bits) (row_addresses bits row (suc i) n) (omega arith) last (rising-rows bits row (suc i) n r))

pub addresses-rise : (dims : List ℕ) → AreShort dims → AreRising 0 (addresses dims) (2 ^ address_bits dims)
addresses-rise [] h = (omega arith, omega arith)
addresses-rise (len ∷ dims) h =
    let bits = address_bits dims in
    let rows : AreRising (0 * 2 ^ bits) (row_addresses bits (addresses dims) 0 len) ((0 + len) * 2 ^ bits) = rising-rows bits (addresses dims) 0 len (addresses-rise dims h.1) in
    let fits : len * 2 ^ bits ≤ 2 ^ subscript_bits len * 2 ^ bits = mul-le-mul_right (2 ^ bits) (short-fits len h.0) in
    let begin : 0 ≤ 0 * 2 ^ bits = omega arith in
    let end : (0 + len) * 2 ^ bits ≤ 2 ^ (subscript_bits len + bits) = subst (λ k. (0 + len) * 2 ^ bits ≤ k) (sym (pow-add 2 (subscript_bits len) bits)) (omega (arith, fits)) in
    rising-wider 0 (0 * 2 ^ bits) ((0 + len) * 2 ^ bits) (2 ^ (subscript_bits len + bits)) (row_addresses bits (addresses dims) 0 len) begin end rows

-- ---- addresses below 2^64 are words

pub rising-bound : (lo hi : ℕ) (xs : List ℕ) → AreRising lo xs hi → lo ≤ hi
rising-bound lo hi [] r = r
rising-bound lo hi (x ∷ xs) r = omega (arith, r.0, rising-bound (suc x) hi xs r.1)

pub rising-words : (lo hi : ℕ) (xs : List ℕ) → hi ≤ 2 ^ 64 → AreRising lo xs hi → in_words xs ≡ xs
rising-words lo hi [] h r = refl
rising-words lo hi (x ∷ xs) h r =
    let below : suc x ≤ hi = rising-bound (suc x) hi xs r.1 in
    let less : x < 2 ^ 64 = omega arith in
    ap (λ y. y ∷ in_words xs) (mod-eq_of_lt less) ∙ ap (λ ys. x ∷ ys) (rising-words (suc x) hi xs h r.1)
