-- The points of runs.
use Rattle.std.proofs.Common.{◌≡◌, ℕ, suc, ◌+◌, ◌≤◌, ◌∙◌, sym, ap, List, [], ◌++◌, length, true, ℤ, Option, Some, None, arith}
use Rattle.std.proofs.lemmas.List.{append-nil}
use Rattle.hls_base.specs.FileScope.{FileScope}
use Rattle.hls_base.specs.declared.point.Point.{Point}
use Rattle.std.specs.Prelude.{slice_get}
use Rattle.c_tree.specs.Tree.{ObjectTree, FunctionTree, ItemTree}
use Rattle.c_meaning.specs.Checks.Limits.{file_objects}
use Rattle.c_meaning.specs.Steps as steps
use Rattle.c_meaning.specs.Steps.{Outcome, Ran}
use Rattle.c_meaning.specs.Run as run
use Rattle.c_meaning.specs.Run.{Answer, function_meaning, calls, file_names, top_arguments, started, function_at, answer_of}
use Rattle.c_meaning.specs.Laws.{more}
use Rattle.c_meaning.specs.PassedPoints.{Passing, RunsPassPoints}
use Rattle.c_meaning.proofs.MorePoints.{Longer}
use Rattle.c_meaning.proofs.MoreInRuns.{function_more}

abbrev trace_in : Answer → List Point
trace_in (run.ended result arrays kept trace) = trace
trace_in (run.undefined rule at) = []
trace_in run.running = []

ended_points : (file : List ObjectTree) (f : FunctionTree) (trace : List Point) (o : Outcome (Option ℤ)) (result : Option ℕ) (elements : List (List ℕ)) (left : FileScope) (t : List Point) → answer_of file f trace o ≡ run.ended result elements left t → trace ≡ t
ended_points file f trace (steps.went v s) result elements left t e = ap trace_in e
ended_points file f trace (steps.undefined rule at) result elements left t e = absurd cc
ended_points file f trace steps.waiting result elements left t e = absurd cc

most_points : (n k limit : ℕ) (trace : List Point) (o : Outcome (Option ℤ)) (r : Ran (Option ℤ)) → Longer n k limit trace o r → length trace ≤ n
most_points n k limit trace (steps.went v s) r h = let sum = h.1 in omega (arith, sum)
most_points n k limit trace (steps.undefined rule at) r h = h.1
most_points n k limit trace steps.waiting r h = h.0.1

all_points : (file : List ObjectTree) (f : FunctionTree) (n k : ℕ) (trace : List Point) (o : Outcome (Option ℤ)) (r : Ran (Option ℤ)) → Longer n k (suc n) trace o r → answer_of file f trace o ≡ run.running → length trace ≡ n
all_points file f n k trace (steps.went v s) r h e = absurd cc
all_points file f n k trace (steps.undefined rule at) r h e = absurd cc
all_points file f n k trace steps.waiting r h e = h.1 (omega arith)

first_points : (n k limit : ℕ) (trace : List Point) (o : Outcome (Option ℤ)) (r : Ran (Option ℤ)) → Longer n k limit trace o r → (rest : List Point) × (r.trace ≡ trace ++ rest)
first_points n k limit trace (steps.went v s) r h = ([], ap (λ (x : Ran (Option ℤ)). x.trace) h.0 ∙ sym (append-nil trace))
first_points n k limit trace (steps.undefined rule at) r h = ([], ap (λ (x : Ran (Option ℤ)). x.trace) h.0 ∙ sym (append-nil trace))
first_points n k limit trace steps.waiting r h = h.0.0

module _ (items : List ItemTree) (f : FunctionTree) (kept : FileScope) (scalars : List ℕ) (arrays : List (List ℕ)) (n : ℕ) where
  abbrev r : Ran (Option ℤ)
  r = function_meaning (calls n items (file_names items)) true f (top_arguments f.params scalars (length (file_objects items))) [] (file_names items) (started items f kept arrays n)

  abbrev r' : ℕ → Ran (Option ℤ)
  r' k = function_meaning (calls (n + k) items (file_names items)) true f (top_arguments f.params scalars (length (file_objects items))) [] (file_names items) (more k (started items f kept arrays n))

  goes_on : (k : ℕ) → Longer n k (suc n) r.trace r.outcome (r' k)
  goes_on k = function_more k n items (file_names items) true f (top_arguments f.params scalars (length (file_objects items))) [] (started items f kept arrays n)

  passing_some : Passing items (Some f) kept scalars arrays n
  passing_some = record {
    ends = λ result elements left trace e. ended_points (file_objects items) f r.trace r.outcome result elements left trace e;
    most = most_points n 0 (suc n) r.trace r.outcome (r' 0) (goes_on 0);
    runs = λ e. all_points (file_objects items) f n 0 r.trace r.outcome (r' 0) (goes_on 0) e;
    first = λ k. first_points n k (suc n) r.trace r.outcome (r' k) (goes_on k);
  }

passing : (items : List ItemTree) (top : Option FunctionTree) (f : FunctionTree) (kept : FileScope) (scalars : List ℕ) (arrays : List (List ℕ)) (n : ℕ) → top ≡ Some f → Passing items top kept scalars arrays n
passing items None f kept scalars arrays n e = absurd cc
passing items (Some g) f kept scalars arrays n e = passing_some items g kept scalars arrays n

pub runs_pass_points : RunsPassPoints
runs_pass_points p top f kept scalars arrays n e = passing p.items (function_at (slice_get p.items top)) f kept scalars arrays n e
