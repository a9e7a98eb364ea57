-- A machine follows a run.
use Rattle.std.specs.Prelude.{◌≡◌, ℕ, ◌+◌, ◌++◌, List, [], ℤ, Option, true}
use Rattle.hls_base.specs.declared.point.Point.{Point}
use Rattle.c_tree.specs.Tree.{FunctionTree, ItemTree}
use Rattle.c_meaning.specs.declared.value.Argument.{Argument}
use Rattle.c_meaning.specs.declared.names.Binding.{Binding}
use Rattle.c_meaning.specs.Store.{Object}
use Rattle.c_meaning.specs.Steps.{Ran}
use Rattle.c_meaning.specs.Run.{function_meaning, calls}
use Rattle.c_meaning.specs.Points.{tally_of}
use Rattle.c_machine.specs.Frames as f
use Rattle.c_machine.specs.Frames.{Configuration}
use Rattle.c_machine.specs.Rest.{rest_of}

-- the top function with these arguments and objects, passing at most n points
abbrev pub top_ran : List ItemTree → List Binding → FunctionTree → List Argument → List Object → ℕ → Ran (Option ℤ)
top_ran items names fn given objects n = function_meaning (calls n items names) true fn given [] names (record { objects = objects; left = n })

abbrev pub behind : {A : Type 0} → List Point → Ran A → Ran A
behind trace r = record { trace = trace ++ r.trace; outcome = r.outcome }

-- For every number of points more, the run up to there has this trace and then what is left at the machine.
abbrev pub follows : (ℕ → Ran (Option ℤ)) → List Point → Configuration → Type 0
follows run trace m = (left : ℕ) → run (m.meter.passed + left) ≡ behind trace (rest_of left m)

-- What follows a run before follows it behind, and the counts are those of the trace.
abbrev pub keeps_following : Configuration → Configuration → Type 0
keeps_following m m1 =
    (run : ℕ → Ran (Option ℤ)) (trace : List Point) → follows run trace m → m.meter.counts ≡ tally_of trace
    → (trace1 : List Point) × follows run trace1 m1 × (m1.meter.counts ≡ tally_of trace1)

-- The run is over, or no more points may be passed.
abbrev pub is_done : f.Control → ℕ → Type 0
is_done (f.next step) left = ⊥
is_done (f.before kind at step) left = left ≡ 0
is_done _ left = Unit {0}
