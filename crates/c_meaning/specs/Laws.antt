-- Laws of runs.
use Rattle.std.specs.Prelude.{◌≡◌, ◌≢◌, ℕ, ◌+◌, ◌<◌, ◌≤◌, Bool, List, ◌++◌, length, ℤ, Some, slice_get, sum_by}
use Rattle.hls_base.specs.ArrayAddress.{element_count}
use Rattle.hls_base.specs.Tallies.{HasDistinctPoints}
use Rattle.hls_base.specs.FileScope.{FileScope}
use Rattle.hls_base.specs.declared.point.Point.{Point}
use Rattle.hls_base.specs.declared.place.Place.{Place}
use Rattle.c_tree.specs.Tree.{FunctionTree, ItemTree, ProgramTree}
use Rattle.c_meaning.specs.declared.names.Binding.{Binding}
use Rattle.c_meaning.specs.declared.value.Argument.{Argument}
use Rattle.c_meaning.specs.Store.{State, elements_in, read_element, write_element, element_place}
use Rattle.hls_base.specs.Tallies.{count_in}
use Rattle.c_meaning.specs.Points.{tally_of, times}
use Rattle.c_meaning.specs.Steps as steps
use Rattle.c_meaning.specs.Steps.{Outcome, Ran}
use Rattle.c_meaning.specs.Run as run
use Rattle.c_meaning.specs.Run.{Answer, calls, function_meaning, c_run}

-- the same objects, and k more points that may be passed
abbrev pub more : ℕ → State → State
more k s = record s { left = s.left + k }

-- A part of a run that may pass so many points, and the same part where it may pass k more. It ends in the same way, and each point that it passes is one less of those that may be passed; or it goes on from where it waited.
abbrev pub Extended : {A : Type 0} → ℕ → ℕ → List Point → Outcome A → Ran A → Type 0
Extended left k trace (steps.went v s) r = (r ≡ record { trace = trace; outcome = steps.went v (more k s) }) × (s.left + length trace ≡ left)
Extended left k trace (steps.undefined rule at) r = (r ≡ record { trace = trace; outcome = steps.undefined rule at }) × (length trace ≤ left)
Extended left k trace steps.waiting r = ((rest : List Point) × (r.trace ≡ trace ++ rest)) × (length trace ≤ left)

abbrev pub IsExtended : {A : Type 0} → ℕ → State → Ran A → Ran A → Type 0
IsExtended k s r r' = Extended s.left k r.trace r.outcome r'

-- So it is with the run of a function.
abbrev pub RunsExtend : Type 0
RunsExtend = (items : List ItemTree) (names : List Binding) (used : Bool) (f : FunctionTree) (given : List Argument) (path : List Place) (s : State) (n k : ℕ)
    → IsExtended k s (function_meaning (calls n items names) used f given path names s) (function_meaning (calls (n + k) items names) used f given path names (more k s))

-- an answer that more points do not change, with no more points than may be passed
abbrev pub IsKept : ℕ → Answer → Answer → Type 0
IsKept n (run.ended result arrays kept trace) a = (a ≡ run.ended result arrays kept trace) × (length trace ≤ n)
IsKept n (run.undefined rule at) a = a ≡ run.undefined rule at
IsKept n run.running a = Unit {0}

-- What a run of a program comes to within n points, it comes to within more points too.
abbrev pub MorePointsKeepAnswers : Type 0
MorePointsKeepAnswers = (p : ProgramTree) (top : ℕ) (kept : FileScope) (scalars : List ℕ) (arrays : List (List ℕ)) (n k : ℕ) → IsKept n (c_run p top kept scalars arrays n) (c_run p top kept scalars arrays (n + k))

-- ---- tallies

-- A tally lists each point once, with how often it stands in the trace, and so its counts add up to the trace's length.
pub record Counts (trace : List Point) : Type 0 where
  pub distinct : HasDistinctPoints (tally_of trace)
  pub count : (p : Point) → count_in (tally_of trace) p ≡ times trace p
  pub sum : sum_by (λ c. c.1) (tally_of trace) ≡ length trace

abbrev pub TalliesCount : Type 0
TalliesCount = (trace : List Point) → Counts trace

-- ---- elements

abbrev pub IsElement : State → ℕ → ℕ → Type 0
IsElement s object element = (object < length s.objects) × (element < length (elements_in (slice_get s.objects object)))

-- What is read of an element is what was last written there.
pub record Elements : Type 0 where
  pub written : (s : State) (object element : ℕ) (n : ℤ) → IsElement s object element → read_element (write_element s object element n) object element ≡ Some n
  pub others : (s : State) (object element other_object other_element : ℕ) (n : ℤ) → (object ≡ other_object → element ≢ other_element)
      → read_element (write_element s object element n) other_object other_element ≡ read_element s other_object other_element

-- Each element of an array has a place of its own within it.
pub record Places : Type 0 where
  pub within : (lengths : List ℕ) (subscripts : List ℤ) (place : ℕ) → element_place lengths subscripts ≡ Some place → place < element_count lengths
  pub apart : (lengths : List ℕ) (is js : List ℤ) (place : ℕ) → element_place lengths is ≡ Some place → element_place lengths js ≡ Some place → is ≡ js
