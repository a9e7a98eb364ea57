-- What lines show behind a cycle, before the values come that are there from the next one on.
use Rattle.std.specs.Prelude.{◌≡◌, ℕ, suc, ◌+◌, ◌-◌, ◌%◌, ◌^◌, ◌<◌, true, min, List, length, get_or, slice_get, Some}
use Rattle.ir_core.specs.Bodies.{Shapes}
use Rattle.clock_ir.specs.Flows.{TimedOp, TimedBody, Flow, is_at, latency, given, pushed, chain_behind}
use Rattle.clock_machine.specs.declared.lines.program.Line.{Line}
use Rattle.clock_machine.specs.declared.lines.program.Work.{Work}
use Rattle.clock_machine.specs.declared.lines.registers.Registers.{Registers}
use Rattle.clock_machine.specs.Lines.Forms.{IsDeep, IsWorkOf}
use Rattle.clock_machine.specs.Lines.Showing.{HasLines, ShowsChain, ShowsMade}

-- the phase and the time, up to the greatest number of a machine
pub record IsMoment (b : TimedBody) (f : Flow) (phase time : ℕ) : Type 0 where
  pub phase_is : phase ≡ f.time % b.interval
  pub time_is : time ≡ min f.time (2 ^ 64 - 1)

pub record IsNextMoment (b : TimedBody) (f : Flow) (phase time : ℕ) : Type 0 where
  pub phase_is : phase ≡ suc f.time % b.interval
  pub time_is : time ≡ min (suc f.time) (2 ^ 64 - 1)

-- a buffer has what operation k gives, if it starts in this cycle
abbrev pub GivesAt : Shapes → TimedBody → Flow → List ℕ → ℕ → Type 0
GivesAt shapes b f fresh k = (o : TimedOp) → slice_get b.ops k ≡ Some o → is_at b.interval o.start f.time ≡ true → get_or fresh k 0 ≡ given shapes b f o

abbrev pub HasGiven : Shapes → TimedBody → Flow → List ℕ → Type 0
HasGiven shapes b f fresh = (k : ℕ) → GivesAt shapes b f fresh k

-- the form of a body whose lines are long enough
pub record IsForm (widths : List ℕ) (b : TimedBody) (w : Work) (r : Registers) : Type 0 where
  pub time : ℕ
  pub further : ℕ
  pub depth : ℕ
  pub size : ℕ
  pub work : IsWorkOf widths b time further w
  pub deep : IsDeep depth size w
  pub positive : 0 < b.interval
  pub few : length r.words.items < 2 ^ 63
  pub early : (k : ℕ) (o : TimedOp) → slice_get b.ops k ≡ Some o → o.start < 2 ^ 32
  pub soon : (k : ℕ) (o : TimedOp) → slice_get b.ops k ≡ Some o → o.start + latency o < 2 ^ 64

-- each operation shows what it gave, this cycle included
pub record ShowsGiven (shapes : Shapes) (b : TimedBody) (lines : List Line) (r : Registers) (f : Flow) : Type 0 where
  pub rooms : HasLines r lines
  pub chains : (k : ℕ) → k < length b.ops → ShowsChain r lines k (f.chain k)
  pub made : (k : ℕ) (o : TimedOp) → slice_get b.ops k ≡ Some o → ShowsMade r lines (length b.ops + k) b.interval o.start (suc f.time) (pushed (given shapes b f o) (f.under_way k))

-- and the values stand in the chains that are there in the next cycle
pub record ShowsReady (shapes : Shapes) (b : TimedBody) (lines : List Line) (r : Registers) (f : Flow) : Type 0 where
  pub rooms : HasLines r lines
  pub chains : (k : ℕ) (o : TimedOp) → slice_get b.ops k ≡ Some o → ShowsChain r lines k (chain_behind shapes b f k (Some o))
  pub made : (k : ℕ) (o : TimedOp) → slice_get b.ops k ≡ Some o → ShowsMade r lines (length b.ops + k) b.interval o.start (suc f.time) (pushed (given shapes b f o) (f.under_way k))
