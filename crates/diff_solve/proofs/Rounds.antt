-- Rounds of passes, and why their number is bounded.
use Rattle.std.proofs.Common.{◌≡◌, ℕ, ◌+◌, ◌*◌, ◌<◌, ◌≤◌, List, [], ◌∷◌, length, slice_index, replicate, inl, inr, pos, ◌≤ℤ◌, sym, ap, ◌∙◌, arith}
use Rattle.std.proofs.lemmas.Int.{ints}
use Rattle.std.proofs.lemmas.Bool.{cases_lt}
use Rattle.std.proofs.lemmas.List.{get_or-replicate, get_or_past, length-replicate}
use Rattle.diff_solve.specs.declared.solve.Constraint.{Constraint}
use Rattle.diff_solve.specs.Answers.{HasModestWeights}
use Rattle.diff_solve.specs.Cycles.{nothing, from_of, to_of, weight_of_all}
use Rattle.diff_solve.specs.Passes.{Back, HasPositiveLoops, IsTree, IsRunning, HoldsAcross, ComesHome}
use Rattle.diff_solve.proofs.Walks.{paid_back}

-- each time is at least the weight of each way of at most k constraints that ends there
abbrev pub Dominates : List Constraint → ℕ → List ℕ → Type 0
Dominates cs k times =
    (v : ℕ) (ps : List ℕ) (a : ℕ) → Back cs v ps a → length ps ≤ k → weight_of_all cs ps ≤ℤ pos (slice_index times v)

pub Dominates-none : (cs : List Constraint) (times : List ℕ) → Dominates cs 0 times
Dominates-none cs times v [] a back short = omega (arith, ints)
Dominates-none cs times v (p ∷ ps) a back short = absurd (omega arith)

pub Dominates-more : (cs : List Constraint) (k : ℕ) (old times : List ℕ) → Dominates cs k old → HoldsAcross cs (length cs) old times → Dominates cs (k + 1) times
Dominates-more cs k old times before across v [] a back short = omega (arith, ints)
Dominates-more cs k old times before across v (p ∷ ps) a (p_in, ends, rest) short =
    let there : slice_index times (to_of cs p) ≡ slice_index times v = ap (slice_index times) ends in
    omega (arith, ints, across p p_in, before (from_of cs p) ps a rest (omega arith))

-- a way weighs no more than its length allows
weight-bound : (cs : List Constraint) → HasModestWeights cs → (v : ℕ) (ps : List ℕ) (a : ℕ) → Back cs v ps a → weight_of_all cs ps ≤ℤ pos (length ps * 1048576)
weight-bound cs modest v [] a back = omega (arith, ints)
weight-bound cs modest v (p ∷ ps) a (p_in, ends, rest) =
    omega (arith, ints, (modest p nothing p_in).1, weight-bound cs modest (from_of cs p) ps a rest)

module _ (cs : List Constraint) (n : ℕ) (times entered : List ℕ) (tree : IsTree cs times entered) (v : ℕ) where
  pub ComesHome-from_zero : v ≡ 0 → 0 < slice_index times v → ComesHome n cs entered v
  ComesHome-from_zero zero_v some ps r back all unraised short =
      (zero_v, omega (arith, ints, paid_back cs times entered tree v ps r back all, tree.unraised r unraised))

  pub ComesHome-from_high : HasModestWeights cs → n * 1048576 < slice_index times v → ComesHome n cs entered v
  ComesHome-from_high modest high ps r back all unraised short =
      absurd (omega (arith, ints, paid_back cs times entered tree v ps r back all, tree.unraised r unraised, weight-bound cs modest v ps r back))

  pub ComesHome-from_rise : (old : List ℕ) → Dominates cs n old → slice_index old v < slice_index times v → ComesHome n cs entered v
  ComesHome-from_rise old before rose ps r back all unraised short =
      absurd (omega (arith, ints, paid_back cs times entered tree v ps r back all, tree.unraised r unraised, before v ps r back short))

replicate-zero : (n v : ℕ) → slice_index (replicate n 0) v ≡ 0
replicate-zero n v = elim (cases_lt v n) [
  | inl l ↦ get_or-replicate n v 0 0 l
  | inr l ↦ get_or_past (replicate n 0) v 0 (omega (arith, length-replicate {A = ℕ} n 0))
]

no_loops : (cs : List Constraint) (entered : List ℕ) → ((v : ℕ) → slice_index entered v ≡ 0) → HasPositiveLoops cs entered
no_loops cs entered zero_e v [] back all some = absurd (omega arith)
no_loops cs entered zero_e v (p ∷ ps) back (here, more) some = (let z = zero_e (to_of cs p) in absurd (omega arith))

-- at the start
pub IsRunning-start : (n : ℕ) (cs : List Constraint) (limit : ℕ) (times entered : List ℕ) → times ≡ replicate n 0 → entered ≡ replicate n 0 → IsRunning n cs limit times entered
IsRunning-start n cs limit times entered t e =
    let long : length times ≡ n = ap length t ∙ length-replicate {A = ℕ} n 0 in
    let zero_t : (v : ℕ) → slice_index times v ≡ 0 = λ v. rw t (replicate-zero n v) in
    let zero_e : (v : ℕ) → slice_index entered v ≡ 0 = λ v. rw e (replicate-zero n v) in
    record {
      count = long;
      tree = record {
        same_length = ap length e ∙ length-replicate {A = ℕ} n 0 ∙ sym long;
        ends = λ v p h. (let z = zero_e v in absurd (omega arith));
        paid = λ v p h. (let z = zero_e v in absurd (omega arith));
        unraised = λ v h. zero_t v;
        loops = no_loops cs entered zero_e;
      };
      start = zero_t 0;
      within = λ v. (let z = zero_t v in omega arith);
      below = λ other s v v_in. (let z = zero_t v in omega arith);
    }

-- a place with something above 0 is in the list
pub within-from_some : (xs : List ℕ) (v : ℕ) → 0 < slice_index xs v → v < length xs
within-from_some xs v some = elim (cases_lt v (length xs)) [
  | inl l ↦ l
  | inr l ↦ (let past : slice_index xs v ≡ 0 = get_or_past xs v 0 l in absurd (omega arith))
]
