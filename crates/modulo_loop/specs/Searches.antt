-- What the search for the least interval finds.
use Rattle.std.specs.Prelude.{ℕ, ◌-◌, ◌<◌, ◌≤◌, List}
use Rattle.std.specs.List.{All}
use Rattle.dep_graph.specs.declared.edge.Edge.{Edge}
use Rattle.modulo_loop.specs.declared.pipeline.Attempt.{Attempt}
use Rattle.modulo_loop.specs.declared.pipeline.Attempt.TheVariants as a
use Rattle.modulo_loop.specs.declared.pipeline.Found.{Found}
use Rattle.modulo_loop.specs.Lowest.{AreTimesAt, IsLowest, IsTooTight, edges_of}

abbrev pub IsAttempt : ℕ → List Edge → ℕ → Attempt → Type 0
IsAttempt nodes rules ii (a.Met times) = AreTimesAt nodes rules ii times
IsAttempt nodes rules ii (a.TooTight cycle next) = (ii < next) × IsTooTight rules (next - 1) cycle.items

-- the times of an interval that is met are no later than this
abbrev pub IsEarlyAttempt : ℕ → Attempt → Type 0
IsEarlyAttempt limit (a.Met times) = All (λ t. t ≤ limit) times
IsEarlyAttempt limit (a.TooTight cycle next) = Unit {0}

pub record IsFound (nodes : ℕ) (rules : List Edge) (found : Found) : Type 0 where
  pub positive : 1 ≤ found.ii
  pub times : AreTimesAt nodes rules found.ii found.times
  pub lowest : IsLowest rules found.ii (edges_of found.lower)
