-- How many bits the words and the number of an array have.
use Rattle.std.proofs.Common.{◌≡◌, ℕ, zero, suc, ◌+◌, ◌-◌, ◌^◌, ◌<◌, ◌≤◌, List, [], ◌∷◌, length, map, slice_get, Some, refl, sym, ap, ◌∙◌, subst, arith}
use Rattle.std.specs.Prelude.{nat_le, cond, fold}
use Rattle.std.specs.List.{range_with_len}
use Rattle.std.specs.Option.{option_map}
use Rattle.std.proofs.lemmas.Bool.{le-leb}
use Rattle.std.proofs.lemmas.Option.{get_or_from_slice_get, slice_get-map}
use Rattle.std.proofs.lemmas.List.{length-map}
use Rattle.std.proofs.lemmas.List.Sums.{length-filter, count_by-le-length}
use Rattle.rtl_core.specs.Valid.{IsBetween}
use Rattle.program_validity.proofs.Memories.{memory_valid, word_narrow}
use Rattle.datapath.specs.Plans.{Plan, Array, array_at, array_of, no_array, bits_of, host_arrays, plan_of}
use Rattle.datapath.specs.LeftOut.{savings_of}
use Rattle.datapath.specs.Cycles.{Register, Word}
use Rattle.datapath.specs.Circuits.{width}
use Rattle.circuit_context.specs.declared.context.Context.{Context}
use Rattle.circuit_context.specs.Contexts.{IsContext}

some_there : {A : Type 0} (xs : List A) (k : ℕ) → k < length xs → (x : A) × (slice_get xs k ≡ Some x)
some_there [] k h = absurd (omega (arith, h))
some_there (x ∷ xs) zero h = (x, refl)
some_there (x ∷ xs) (suc k) h = some_there xs k (omega (arith, h))

-- the word of an array has 1 to 64 bits
pub word_width : (p : Plan) (names : List Register) (of : Context) (a : ℕ) → IsContext p names of → a < length of.cfg.now.frame.memories.items → IsBetween 1 64 (width p (Word a 0))
word_width p names of a context inside =
    let memories = of.cfg.now.frame.memories.items in
    let some = some_there memories a inside in
    let there : slice_get p.arrays a ≡ Some (array_of some.0) =
    ap (λ (q : Plan). slice_get q.arrays a) context.plan ∙ (slice_get-map array_of memories a ∙ ap (option_map array_of) some.1) in
    let is : array_at p a ≡ array_of some.0 = get_or_from_slice_get p.arrays a (array_of some.0) no_array there in
    subst (λ (x : Array). IsBetween 1 64 x.bits) (sym is) (word_narrow some.0 (memory_valid of.cfg.now a some.0 of.buildable.valid some.1))

-- the number of an array has at most 64 bits
pub few_bits : (n : ℕ) → bits_of n ≤ 64
few_bits n = count_by-le-length (λ k. nat_le (2 ^ k) n) (range_with_len 0 64)

abbrev counted : ℕ → ℕ → ℕ → ℕ
counted n s k = s + cond (nat_le (2 ^ k) n) 1 0

grows : (n s : ℕ) (ks : List ℕ) → s ≤ fold (counted n) s ks
grows n s [] = omega arith
grows n s (k ∷ ks) =
    let rest : counted n s k ≤ fold (counted n) (counted n s k) ks = grows n (counted n s k) ks in
    omega (arith, rest)

-- and one bit, where there are two arrays
pub some_bits : (n : ℕ) → 0 < n → 1 ≤ bits_of n
some_bits n h =
    let first : counted n 0 0 ≡ 1 = ap (λ b. 0 + cond b 1 0) (le-leb 1 n h) in
    let rest : counted n 0 0 ≤ bits_of n = grows n (counted n 0 0) (range_with_len 1 63) in
    omega (arith, first, rest)

-- the host reaches some of the arrays
pub hosts_within : (of : Context) → length (host_arrays (plan_of of.cfg.now of.registers.now (savings_of of.cfg.now of.live))) ≤ length of.cfg.now.frame.memories.items
hosts_within of =
    let arrays = map array_of of.cfg.now.frame.memories.items in
    omega (arith, length-filter (λ (a : Array). a.host) arrays, count_by-le-length (λ (a : Array). a.host) arrays, length-map of.cfg.now.frame.memories.items array_of)
