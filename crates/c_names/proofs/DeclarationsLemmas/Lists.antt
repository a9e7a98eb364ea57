-- Lists from an index on, and products of lengths.
use Rattle.std.proofs.Common.{◌≡◌, ℕ, ◌+◌, ◌<◌, ◌≤◌, Bool, true, false, List, [], ◌∷◌, length, drop, get_or, refl, sym, ap, ◌∙◌, arith, Option, Some, None, nat_lt, min, ◌^◌, ◌||◌, ◌⊎◌, inl, inr, add_assoc, add-zero}
use Rattle.std.proofs.Math.ListN.{drop_of_length-le}
use Rattle.std.proofs.lemmas.List.{at_drop_more}
use Rattle.std.proofs.Math.Pow.{pow_mono}
use Rattle.hls_base.specs.ArrayAddress.{address_bits, subscript_bits}
use Rattle.c_meaning.specs.Checks.Lengths.{all_usable, with_first}

pub drop_beyond : {A : Type 0} (i : ℕ) (xs : List A) → length xs ≤ i → drop i xs ≡ []
drop_beyond i xs le = drop_of_length-le xs le

pub capped : (p : ℕ) → nat_lt 65536 (min p 131072) ≡ nat_lt 65536 p
capped p = grind arith

-- the product of the lengths that are left, after so many bits
abbrev pub scaled : ℕ → Option (List ℕ) → ℕ
scaled bits None = 0
scaled bits (Some ns) = 2 ^ (bits + address_bits ns)

scaled_more : (bits n : ℕ) (rest : Option (List ℕ)) → scaled (bits + subscript_bits n) rest ≡ scaled bits (with_first n rest)
scaled_more bits n None = refl
scaled_more bits n (Some ns) = ap (λ k. 2 ^ k) (add_assoc bits (subscript_bits n) (address_bits ns))

large : (k : ℕ) → 17 ≤ k → min (2 ^ k) 131072 ≡ 131072
large k le = let at_least : 2 ^ 17 ≤ 2 ^ k = pow_mono le in omega arith

scaled_capped : (bits : ℕ) (rest : Option (List ℕ)) → 17 < bits → min (scaled 17 rest) 131072 ≡ min (scaled bits rest) 131072
scaled_capped bits None lt = refl
scaled_capped bits (Some ns) lt = large (17 + address_bits ns) (omega arith) ∙ sym (large (bits + address_bits ns) (omega arith))

-- a loop's step over the lengths
pub product_more : (lengths : List (Option ℕ)) (i n bits more after total : ℕ) → i < length lengths → get_or lengths i None ≡ Some n → more ≡ subscript_bits n →
    (after ≡ bits + more) ⊎ ((17 < bits + more) × (after ≡ 17)) →
    min (scaled bits (all_usable (drop i lengths))) 131072 ≡ total → min (scaled after (all_usable (drop (i + 1) lengths))) 131072 ≡ total
product_more lengths i n bits more after total lt is m way invariant =
    let rest = all_usable (drop (i + 1) lengths) in
    let whole : min (scaled (bits + more) rest) 131072 ≡ total =
    ap (λ k. min (scaled (bits + k) rest) 131072) m
    ∙ ap (λ k. min k 131072) (scaled_more bits n rest)
    ∙ ap (λ o. min (scaled bits (all_usable (o ∷ drop (i + 1) lengths))) 131072) (sym is)
    ∙ ap (λ o. min (scaled bits o) 131072) (sym (at_drop_more all_usable lengths i None lt))
    ∙ invariant in
    elim way [
      | inl same ↦ ap (λ k. min (scaled k rest) 131072) same ∙ whole
      | inr above ↦ ap (λ k. min (scaled k rest) 131072) above.1 ∙ scaled_capped (bits + more) rest above.0 ∙ whole
    ]

pub product_end : (lengths : List (Option ℕ)) (i bits total : ℕ) → length lengths ≤ i → bits ≤ 17 → min (scaled bits (all_usable (drop i lengths))) 131072 ≡ total → 2 ^ bits ≡ total
product_end lengths i bits total le small invariant =
    let below : 2 ^ bits ≤ 2 ^ 17 = pow_mono small in
    let last : min (2 ^ (bits + 0)) 131072 ≡ total = ap (λ ns. min (scaled bits (all_usable ns)) 131072) (sym (drop_beyond i lengths le)) ∙ invariant in
    let same : 2 ^ (bits + 0) ≡ 2 ^ bits = ap (λ k. 2 ^ k) (add-zero bits) in
    omega arith

pub or_false : (b : Bool) → (b || false) ≡ b
or_false true = refl
or_false false = refl
