-- How far a run of a program has come.
use Rattle.std.specs.Prelude.{◌≡◌, ℕ, List}
use Rattle.hls_base.specs.FileScope.{FileScope}
use Rattle.hls_base.specs.declared.point.Point.{Point}
use Rattle.c_tree.specs.declared.program.Program.{Program}
use Rattle.c_tree.specs.View.{program_of}
use Rattle.c_meaning.specs.declared.outcome.Outcome.{Outcome}
use Rattle.c_meaning.specs.declared.outcome.Outcome.TheVariants as o
use Rattle.c_meaning.specs.Points.{tally_of}
use Rattle.c_meaning.specs.Run.{Answer, ended, undefined, running, c_run}
use Rattle.c_meaning.specs.PassedPoints.{points_passed}

-- what a run begins with: a program and the number of the item that is its top function, the contents of file scope, and the inputs
pub record Begun : Type 0 where
  pub program : Program
  pub top : ℕ
  pub kept : FileScope
  pub scalars : List ℕ
  pub arrays : List (List ℕ)

-- how many points it has passed since, and how often each, in the order in which they were first passed; and the contents of file scope with which a next run begins
pub record Progress : Type 0 where
  pub begun : Begun
  pub passed : ℕ
  pub counts : List (Point × ℕ)
  pub left : FileScope

-- what the run comes to within so many points
abbrev pub answer_within : Begun → ℕ → Answer
answer_within b n = c_run (program_of b.program) b.top b.kept b.scalars b.arrays n

-- the points that it passes meanwhile
abbrev pub points_within : Begun → ℕ → List Point
points_within b n = points_passed (program_of b.program) b.top b.kept b.scalars b.arrays n

-- how an answer is told
abbrev pub outcome_of : Answer → Outcome
outcome_of (ended result arrays kept trace) = o.Ended (record { ret = result; arrays = arrays; tally = tally_of trace })
outcome_of (undefined rule at) = o.Undefined rule at
outcome_of running = o.Running

-- A run that ended leaves its file-scope contents; any other one leaves those that it began with.
abbrev pub left_behind : Answer → FileScope → FileScope
left_behind (ended result arrays kept trace) begun = kept
left_behind (undefined rule at) begun = begun
left_behind running begun = begun

-- A run that goes on has passed exactly so many points.
abbrev pub RunsFor : Outcome → ℕ → ℕ → Type 0
RunsFor o.Running passed points = passed ≡ points
RunsFor _ passed points = Unit {0}
