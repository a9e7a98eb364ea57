-- Cycles of constraints, which show that there is no solution.
use Rattle.std.specs.Prelude.{◌≡◌, ℕ, ◌<◌, List, [], ◌∷◌, length, slice_index_or, ◌⊎◌, ℤ, pos, ◌+ℤ◌, ◌<ℤ◌}
use Rattle.diff_solve.specs.declared.solve.Constraint.{Constraint}

-- stands for the constraint at a place where there is none
abbrev pub nothing : Constraint
nothing = record { from = 0; to = 0; weight = pos 0 }

abbrev pub from_of : List Constraint → ℕ → ℕ
from_of cs p = (slice_index_or cs p nothing).from

abbrev pub to_of : List Constraint → ℕ → ℕ
to_of cs p = (slice_index_or cs p nothing).to

abbrev pub weight_of : List Constraint → ℕ → ℤ
weight_of cs p = (slice_index_or cs p nothing).weight

-- the weight of the constraints at these positions, together
abbrev pub weight_of_all : List Constraint → List ℕ → ℤ
weight_of_all cs [] = pos 0
weight_of_all cs (p ∷ ps) = weight_of cs p +ℤ weight_of_all cs ps

-- from the node a the constraints at these positions lead to the node b: each begins where the one before it
-- ends, or at any node if that is node 0
abbrev pub Leads : List Constraint → ℕ → List ℕ → ℕ → Type 0
Leads cs a [] b = a ≡ b
Leads cs a (p ∷ ps) b =
    (p < length cs) × ((from_of cs p ≡ a) ⊎ (a ≡ 0)) × Leads cs (to_of cs p) ps b

-- they lead back to where they begin, and weigh more than nothing
abbrev pub IsPositiveCycle : List Constraint → List ℕ → Type 0
IsPositiveCycle cs ps = (a : ℕ) × Leads cs a ps a × (pos 0 <ℤ weight_of_all cs ps)
