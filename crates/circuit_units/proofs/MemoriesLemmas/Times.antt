-- Where a memory has first contents, the time is counted.
use Rattle.std.proofs.Common.{◌≡◌, ℕ, zero, suc, ◌+◌, ◌-◌, ◌^◌, ◌<◌, ◌≤◌, Bool, List, [], ◌∷◌, length, slice_get, Some, ap, subst, arith}
use Rattle.std.specs.Prelude.{nat_le, cond, max, min, fold, is_some, if◌then◌else◌}
use Rattle.std.specs.List.{range_with_len}
use Rattle.std.proofs.Math.Pow.{pow_mono}
use Rattle.std.proofs.lemmas.Bool.{le-leb}
use Rattle.std.proofs.lemmas.Option.{none-some, same_Some}
use Rattle.std.proofs.lemmas.List.Sums.{count_by-le-length}
use Rattle.hls_base.specs.ArrayAddress.{address_bits}
use Rattle.clock_ir.specs.ClockRuns.{TimedNode}
use Rattle.datapath.specs.Plans.{Plan, Array, span, numbered, cycles_for, initial_cycles, bits_of}
use Rattle.datapath.specs.Control.{greatest_time, time_bits}

-- ---- bits

abbrev counted : (ℕ → Bool) → ℕ → ℕ → ℕ
counted f s k = s + cond (f k) 1 0

grows : (f : ℕ → Bool) (s : ℕ) (ks : List ℕ) → s ≤ fold (counted f) s ks
grows f s [] = omega arith
grows f s (k ∷ ks) =
    let rest : counted f s k ≤ fold (counted f) (counted f s k) ks = grows f (counted f s k) ks in
    omega (arith, rest)

-- a number that is not 0 has bits
pub some_bits : (n : ℕ) → 0 < n → 0 < bits_of n
some_bits n h =
    let first : counted (λ k. nat_le (2 ^ k) n) 0 0 ≡ 1 = ap (λ b. 0 + cond b 1 0) (le-leb 1 n h) in
    let rest : counted (λ k. nat_le (2 ^ k) n) 0 0 ≤ bits_of n = grows (λ k. nat_le (2 ^ k) n) (counted (λ k. nat_le (2 ^ k) n) 0 0) (range_with_len 1 63) in
    omega (arith, first, rest)

pub few_bits : (n : ℕ) → bits_of n ≤ 64
few_bits n = count_by-le-length (λ k. nat_le (2 ^ k) n) (range_with_len 0 64)

-- ---- times

abbrev at_most : {A : Type 0} → (A → ℕ) → ℕ → A → ℕ
at_most f t x = max t (f x)

start_within : {A : Type 0} (f : A → ℕ) (t : ℕ) (xs : List A) → t ≤ fold (at_most f) t xs
start_within f t [] = omega arith
start_within f t (x ∷ xs) =
    let rest : max t (f x) ≤ fold (at_most f) (max t (f x)) xs = start_within f (max t (f x)) xs in
    omega (arith, rest)

one_within : {A : Type 0} (f : A → ℕ) (t k : ℕ) (xs : List A) (x : A) → slice_get xs k ≡ Some x → f x ≤ fold (at_most f) t xs
one_within f t k [] x at = absurd (none-some x at)
one_within f t zero (y ∷ xs) x at =
    let rest : max t (f y) ≤ fold (at_most f) (max t (f y)) xs = start_within f (max t (f y)) xs in
    subst (λ z. f z ≤ fold (at_most f) (max t (f y)) xs) (same_Some y x at) (omega (arith, rest))
one_within f t (suc k) (y ∷ xs) x at = one_within f (max t (f y)) k xs x at

pub time_counted : (p : Plan) (a : ℕ) (array : Array) (words : List ℕ) → slice_get p.arrays a ≡ Some array → array.first ≡ Some words → 1 ≤ address_bits array.dims → 0 < time_bits p
time_counted p a array words at first deep =
    let cycles : cycles_for array ≡ 2 ^ address_bits array.dims = ap (λ o. if is_some o then 2 ^ address_bits array.dims else 0) first in
    let two : 2 ^ 1 ≤ 2 ^ address_bits array.dims = pow_mono deep in
    let initial : cycles_for array ≤ initial_cycles p = one_within cycles_for (min 1 (length p.kept)) a p.arrays array at in
    let time : initial_cycles p - 1 ≤ greatest_time p = start_within (λ (n : ℕ × TimedNode). span p n.0 - 1) (initial_cycles p - 1) (numbered p) in
    some_bits (greatest_time p) (omega (arith, cycles, two, initial, time))
