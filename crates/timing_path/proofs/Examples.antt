-- The longest path of the accumulator is its adder.
use Rattle.std.proofs.Common.{◌≡◌, ◌⊎◌, inl, inr, ◌<◌, ◌≤◌, ℕ, zero, suc, List, [], ◌∷◌, refl, lit<, arith}
use Rattle.rtl_core.specs.declared.design.Atom.TheVariants as atom
use Rattle.timing_path.specs.Paths.{Names, net_of, IsPath, path_delay, BeginsWithDelay, IsAtMostFromBack, IsLongest}
use Rattle.timing_path.specs.Examples.{accumulator}

no_names : (k j : ℕ) → Names (net_of accumulator k) j → ⊥
no_names zero j (inl h) = let e : atom.Reg 0 ≡ atom.Wire j = h in cc
no_names zero j (inr h) = let e : atom.Input 0 ≡ atom.Wire j = h in cc
no_names (suc k) j h = let e : atom.Constant 0 0 ≡ atom.Wire j = h in cc

at_most : (js : List ℕ) → IsPath accumulator js → path_delay accumulator js ≤ 4
at_most [] path = omega arith
at_most (zero ∷ []) path = omega arith
at_most (suc k ∷ []) path = absurd (omega arith)
at_most (j ∷ (k ∷ ks)) path = absurd (no_names k j path.0)

least : (js : List ℕ) → IsPath accumulator js → path_delay accumulator js ≡ 4 → BeginsWithDelay accumulator js → IsAtMostFromBack (0 ∷ []) js
least [] path e begins = absurd (omega arith)
least (zero ∷ []) path e begins = inr (refl, tt)
least (suc k ∷ []) path e begins = absurd (omega arith)
least (j ∷ (k ∷ ks)) path e begins = absurd (no_names k j path.0)

pub accumulator_longest : IsLongest accumulator 4 (0 ∷ [])
accumulator_longest = record { path = lit< tt; delay = refl; greatest = at_most; begins = lit< tt; least = least }
