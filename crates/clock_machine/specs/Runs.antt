-- Where a machine is in the run of a timed program.
use Rattle.std.specs.Prelude.{◌≡◌, ◌<◌, ◌≤◌, ℕ, Option}
use Rattle.ir_core.specs.Bodies.{Words}
use Rattle.clock_ir.specs.ClockRuns.{TimedProgram, ended, clock_run}
use Rattle.clock_machine.specs.declared.machine.ClockMachine.{ClockMachine}
use Rattle.clock_machine.specs.Standing.{StandsAt}

-- behind so many edges of the clock, in the run from these contents
abbrev pub IsBehind : TimedProgram → Words → ℕ → ClockMachine → Type 0
IsBehind p t n m = StandsAt p m.program (clock_run p t n) m.state

-- The run is not yet at its end after so many edges.
abbrev pub IsUnended : TimedProgram → Words → ℕ → Type 0
IsUnended p t n = (word : Option ℕ) (last : Words) → clock_run p t n ≡ ended word last → ⊥

-- not at its end after at most so many
abbrev pub GoesOn : TimedProgram → Words → ℕ → Type 0
GoesOn p t n = (m : ℕ) → m ≤ n → IsUnended p t m

-- The run is at its end after so many edges, with this word and these contents, and not before.
pub record RunEndsAfter (p : TimedProgram) (t : Words) (edges : ℕ) (word : Option ℕ) (last : Words) : Type 0 where
  pub end : clock_run p t edges ≡ ended word last
  pub sooner : (m : ℕ) → m < edges → IsUnended p t m
