-- What the solver's answer says.
use Rattle.std.specs.Prelude.{ℕ, ◌^◌, List, pos, negsuc, ◌≤ℤ◌, ◌<ℤ◌}
use Rattle.std.specs.List.{All}
use Rattle.diff_solve.specs.declared.solve.Constraint.{Constraint}
use Rattle.diff_solve.specs.declared.solve.Solved.{Solved}
use Rattle.diff_solve.specs.declared.solve.Solved.TheVariants.{Least, Cycle}
use Rattle.diff_solve.specs.Times.{Solves, IsBelowAll, HasNoSolution}
use Rattle.diff_solve.specs.Cycles.{IsPositiveCycle}

-- no weight is above the cap, nor below -2 ^ 50
abbrev pub HasModestWeights : List Constraint → Type 0
HasModestWeights cs = All (λ c. (negsuc (2 ^ 50) <ℤ c.weight) × (c.weight ≤ℤ pos (2 ^ 20))) cs

-- the least of all solutions, or a cycle that shows that there is none
abbrev pub IsAnswer : ℕ → List Constraint → Solved → Type 0
IsAnswer n cs (Least words) = Solves n cs words × IsBelowAll n cs words
IsAnswer n cs (Cycle words) = IsPositiveCycle cs words × HasNoSolution n cs
