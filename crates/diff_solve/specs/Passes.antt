-- What holds between the passes over the constraints.
use Rattle.std.specs.Prelude.{◌≡◌, ℕ, ◌+◌, ◌<◌, ◌≤◌, List, [], ◌∷◌, length, slice_index, ◌⊎◌, pos, ◌+ℤ◌, ◌<ℤ◌, ◌≤ℤ◌}
use Rattle.std.specs.List.{All}
use Rattle.diff_solve.specs.declared.solve.Constraint.{Constraint}
use Rattle.diff_solve.specs.declared.solve.Pass.{Pass}
use Rattle.diff_solve.specs.declared.solve.Pass.TheVariants.{Settled, Raised, TooHigh}
use Rattle.diff_solve.specs.Times.{Meets, IsBelowAll}
use Rattle.diff_solve.specs.Cycles.{from_of, to_of, weight_of, weight_of_all}

-- going back over the constraints at these positions, one comes from the node b to the node a
abbrev pub Back : List Constraint → ℕ → List ℕ → ℕ → Type 0
Back cs b [] a = b ≡ a
Back cs b (p ∷ ps) a = (p < length cs) × (to_of cs p ≡ b) × Back cs (from_of cs p) ps a

-- `entered` has, for each node, one more than the position of the constraint that raised it last, or 0:
-- each of these constraints is the one that raised the node where it ends
abbrev pub AllEntered : List Constraint → List ℕ → List ℕ → Type 0
AllEntered cs entered [] = Unit {0}
AllEntered cs entered (p ∷ ps) = (slice_index entered (to_of cs p) ≡ p + 1) × AllEntered cs entered ps

-- going back over the constraints that raised nodes, one passes through no cycle but a positive one
abbrev pub HasPositiveLoops : List Constraint → List ℕ → Type 0
HasPositiveLoops cs entered =
    (v : ℕ) (ps : List ℕ) → Back cs v ps v → AllEntered cs entered ps → 0 < length ps → pos 0 <ℤ weight_of_all cs ps

-- each constraint that raised a node ends there
abbrev pub HasEnds : List Constraint → List ℕ → Type 0
HasEnds cs entered = (v p : ℕ) → slice_index entered v ≡ p + 1 → (p < length cs) × (to_of cs p ≡ v)

-- each node that was raised has a time that the constraint which raised it still allows
pub record IsTree (cs : List Constraint) (times entered : List ℕ) : Type 0 where
  pub same_length : length entered ≡ length times
  pub ends : HasEnds cs entered
  pub paid : (v p : ℕ) → slice_index entered v ≡ p + 1 → pos (slice_index times v) ≤ℤ (pos (slice_index times (from_of cs p)) +ℤ weight_of cs p)
  pub unraised : (v : ℕ) → slice_index entered v ≡ 0 → slice_index times v ≡ 0
  pub loops : HasPositiveLoops cs entered

-- no contradiction has come up so far
pub record IsRunning (n : ℕ) (cs : List Constraint) (limit : ℕ) (times entered : List ℕ) : Type 0 where
  pub count : length times ≡ n
  pub tree : IsTree cs times entered
  pub start : slice_index times 0 ≡ 0
  pub within : (v : ℕ) → slice_index times v ≤ limit
  pub below : IsBelowAll n cs times

-- the first k constraints hold from the old times to the new ones
abbrev pub HoldsAcross : List Constraint → ℕ → List ℕ → List ℕ → Type 0
HoldsAcross cs k old new =
    (p : ℕ) → p < k → (pos (slice_index old (from_of cs p)) +ℤ weight_of cs p) ≤ℤ pos (slice_index new (to_of cs p))

-- what a pass leaves
abbrev pub Leaves : ℕ → List Constraint → ℕ → List ℕ → List ℕ → List ℕ → Pass → Type 0
Leaves n cs limit old times entered Settled = IsRunning n cs limit times entered × All (Meets times) cs
Leaves n cs limit old times entered (Raised v) =
    IsRunning n cs limit times entered × HoldsAcross cs (length cs) old times × (slice_index old v < slice_index times v)
Leaves n cs limit old times entered (TooHigh v) =
    IsTree cs times entered × (v < n) × (((v ≡ 0) × (0 < slice_index times v)) ⊎ (limit < slice_index times v))

-- a way back from the node to one that was never raised, in at most n steps, begins at node 0 and is positive
abbrev pub ComesHome : ℕ → List Constraint → List ℕ → ℕ → Type 0
ComesHome n cs entered v =
    (ps : List ℕ) (r : ℕ) → Back cs v ps r → AllEntered cs entered ps → slice_index entered r ≡ 0 → length ps ≤ n → (v ≡ 0) × (pos 0 <ℤ weight_of_all cs ps)

-- what shows that behind the node there is a cycle
pub record IsTangled (n : ℕ) (cs : List Constraint) (entered : List ℕ) (v : ℕ) : Type 0 where
  pub within : v < n
  pub ends : HasEnds cs entered
  pub loops : HasPositiveLoops cs entered
  pub home : ComesHome n cs entered v
