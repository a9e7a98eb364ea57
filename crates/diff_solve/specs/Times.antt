-- What it is to be a solution, and the least one.
use Rattle.std.specs.Prelude.{◌≡◌, ℕ, ◌<◌, ◌≤◌, List, length, slice_index, pos, ◌+ℤ◌, ◌≤ℤ◌}
use Rattle.std.specs.List.{All}
use Rattle.diff_solve.specs.declared.solve.Constraint.{Constraint}

-- the time of the one node is at least the weight after that of the other
abbrev pub Meets : List ℕ → Constraint → Type 0
Meets times c = (pos (slice_index times c.from) +ℤ c.weight) ≤ℤ pos (slice_index times c.to)

-- the nodes of each constraint are below n
abbrev pub InRange : ℕ → List Constraint → Type 0
InRange n cs = All (λ c. (c.from < n) × (c.to < n)) cs

-- a time for each of n nodes that meets all constraints, with node 0 at 0
pub record Solves (n : ℕ) (cs : List Constraint) (times : List ℕ) : Type 0 where
  pub count : length times ≡ n
  pub start : slice_index times 0 ≡ 0
  pub meets : All (Meets times) cs

-- no time is above that of any solution
abbrev pub IsBelowAll : ℕ → List Constraint → List ℕ → Type 0
IsBelowAll n cs times =
    (other : List ℕ) → Solves n cs other → (v : ℕ) → v < n → slice_index times v ≤ slice_index other v

abbrev pub HasNoSolution : ℕ → List Constraint → Type 0
HasNoSolution n cs = (times : List ℕ) → Solves n cs times → ⊥
