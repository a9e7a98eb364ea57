-- What a plan has of the frame of its expanded program.
use Rattle.std.specs.Prelude.{◌≡◌, ℕ, ◌≤◌, true, List, map, slice_get, Some}
use Rattle.c_value.specs.Values.{width}
use Rattle.pieces.specs.Program.{ArrayTree, ExpandedTree}
use Rattle.datapath.specs.Plans.{Plan, Array}

-- the array of a plan that is this array of the expanded program
abbrev pub plan_array : ArrayTree → Array
plan_array a = record { bits = width a.kind; dims = a.lengths; table = a.table; first = a.initial; host = a.host }

-- the plan has the parameters, the scalars that stay, and the arrays of the expanded program
pub record HasFrame (e : ExpandedTree) (p : Plan) : Type 0 where
  pub parameters : p.parameters ≡ e.params
  pub kept : p.kept ≡ e.kept
  pub arrays : p.arrays ≡ map plan_array e.arrays

-- the arrays before one that the host reaches are such arrays
abbrev pub HostsComeFirst : List ArrayTree → Type 0
HostsComeFirst arrays = (i k : ℕ) (a b : ArrayTree) → slice_get arrays i ≡ Some a → slice_get arrays k ≡ Some b → i ≤ k → b.host ≡ true → a.host ≡ true
