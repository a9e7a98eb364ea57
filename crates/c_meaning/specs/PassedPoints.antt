-- The points that a run of a program passes, also where it still runs.
use Rattle.std.specs.Prelude.{◌≡◌, ℕ, ◌+◌, ◌≤◌, List, [], ◌++◌, length, Option, Some, None, slice_get, true}
use Rattle.hls_base.specs.FileScope.{FileScope}
use Rattle.hls_base.specs.declared.point.Point.{Point}
use Rattle.c_tree.specs.Tree.{FunctionTree, ItemTree, ProgramTree}
use Rattle.c_meaning.specs.Checks.Limits.{file_objects}
use Rattle.c_meaning.specs.Run.{Answer, ended, running, calls, function_meaning, file_names, function_at, top_arguments, started, run_of}

-- the points that the function passes as the top function, within n points
abbrev pub points_of : List ItemTree → Option FunctionTree → FileScope → List ℕ → List (List ℕ) → ℕ → List Point
points_of items None kept scalars arrays n = []
points_of items (Some f) kept scalars arrays n =
    (function_meaning (calls n items (file_names items)) true f (top_arguments f.params scalars (length (file_objects items))) [] (file_names items) (started items f kept arrays n)).trace

-- The points that the run of a program passes within n points, whatever it comes to.
abbrev pub points_passed : ProgramTree → ℕ → FileScope → List ℕ → List (List ℕ) → ℕ → List Point
points_passed p top kept scalars arrays n = points_of p.items (function_at (slice_get p.items top)) kept scalars arrays n

-- They are those of the answer, where it has them; no more than n, and just n where the program still runs; and within more points it passes the same ones first.
pub record Passing (items : List ItemTree) (top : Option FunctionTree) (kept : FileScope) (scalars : List ℕ) (arrays : List (List ℕ)) (n : ℕ) : Type 0 where
  pub ends : (result : Option ℕ) (elements : List (List ℕ)) (left : FileScope) (trace : List Point) → run_of items top kept scalars arrays n ≡ ended result elements left trace → points_of items top kept scalars arrays n ≡ trace
  pub most : length (points_of items top kept scalars arrays n) ≤ n
  pub runs : run_of items top kept scalars arrays n ≡ running → length (points_of items top kept scalars arrays n) ≡ n
  pub first : (k : ℕ) → (rest : List Point) × (points_of items top kept scalars arrays (n + k) ≡ points_of items top kept scalars arrays n ++ rest)

abbrev pub RunsPassPoints : Type 0
RunsPassPoints = (p : ProgramTree) (top : ℕ) (f : FunctionTree) (kept : FileScope) (scalars : List ℕ) (arrays : List (List ℕ)) (n : ℕ) → function_at (slice_get p.items top) ≡ Some f
    → Passing p.items (function_at (slice_get p.items top)) kept scalars arrays n
