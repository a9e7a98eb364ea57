-- What variables and lines show of what a timed body holds in a cycle.
use Rattle.std.specs.Prelude.{◌≡◌, ℕ, suc, ◌+◌, ◌-◌, ◌*◌, ◌^◌, ◌<◌, ◌≤◌, nat_lt, not, Bool, List, length, slice_get, Some}
use Rattle.clock_ir.specs.Flows.{TimedOp, TimedBody, Flow}
use Rattle.clock_machine.specs.declared.lines.program.Line.{Line}
use Rattle.clock_machine.specs.declared.lines.registers.Registers.{Registers}
use Rattle.clock_machine.specs.Lines.Registers.{held, value_in, IsLine}

-- each line lies within the words
abbrev pub HasLines : Registers → List Line → Type 0
HasLines r lines = (k : ℕ) (line : Line) → slice_get lines k ≡ Some line → IsLine r lines k line

-- the line of an operation shows its chain, as far as it goes
abbrev pub ShowsChain : Registers → List Line → ℕ → (ℕ → ℕ) → Type 0
ShowsChain r lines k chain = (j : ℕ) (line : Line) → slice_get lines k ≡ Some line → j < line.length → value_in r (Some line) k j ≡ chain j

-- The other line of an operation that starts at this time of each iteration shows what it gave where it started, the last value first: iteration i + j was the last one that has come to it.
abbrev pub ShowsMade : Registers → List Line → ℕ → ℕ → ℕ → ℕ → (ℕ → ℕ) → Type 0
ShowsMade r lines number interval start time under_way =
    (i j : ℕ) (line : Line) → slice_get lines number ≡ Some line → j < line.length → start + (i + j) * interval < time → time ≤ start + suc (i + j) * interval
    → value_in r (Some line) number j ≡ under_way (time - 1 - (start + i * interval))

-- no operation beyond the last one has values
pub record Shows (b : TimedBody) (lines : List Line) (r : Registers) (f : Flow) : Type 0 where
  pub entry : held r.variables.items ≡ f.entry
  pub rooms : HasLines r lines
  pub chains : (k : ℕ) → k < length b.ops → ShowsChain r lines k (f.chain k)
  pub made : (k : ℕ) (o : TimedOp) → slice_get b.ops k ≡ Some o → ShowsMade r lines (length b.ops + k) b.interval o.start f.time (f.under_way k)
  pub beyond : (k j : ℕ) → length b.ops ≤ k → f.chain k j ≡ 0

-- Of the gates those are false, the last ones, whose iterations were found not to run.
abbrev pub ShowsGates : (ℕ → Bool) → ℕ → Type 0
ShowsGates gates failed = (j : ℕ) → j < 2 ^ 64 - 1 → gates j ≡ not (nat_lt j failed)
