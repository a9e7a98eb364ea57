-- How many iterations of a loop run.
use Rattle.std.specs.Prelude.{◌≡◌, ℕ, suc, ◌+◌, ◌-◌, ◌*◌, ◌/◌, ◌≤◌, nat_le}
use Rattle.clock_ir.specs.Flows.{TimedBody, Flow, known}

-- so many tests were made before this cycle
abbrev pub tests : TimedBody → ℕ → ℕ
tests b time = (time + b.interval - suc (known b)) / b.interval

-- Of the iterations whose tests were made the first so many run, and the others do not. The first one that does not has not yet been at its exit.
pub record HasRun (b : TimedBody) (exit : ℕ) (f : Flow) (iterations : ℕ) : Type 0 where
  pub gates : (k : ℕ) → f.gates k ≡ nat_le (tests b f.time) (iterations + k)
  pub among : iterations ≤ tests b f.time
  pub before_exit : f.time ≤ iterations * b.interval + exit
