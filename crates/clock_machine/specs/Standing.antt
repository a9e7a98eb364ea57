-- Where a machine stands in the run of a timed program.
use Rattle.std.specs.Prelude.{◌≡◌, ℕ, ◌+◌, ◌<◌, ◌≤◌, ◌^◌, length, slice_get, Some}
use Rattle.ir_core.specs.declared.body.Out.{Out}
use Rattle.ir_core.specs.declared.body.Source.{Source}
use Rattle.ir_core.specs.declared.body.Source.TheVariants as source
use Rattle.ir_core.specs.Bodies.{Shapes}
use Rattle.flat_programs.specs.Memory.Contents.{dims_in, words_in}
use Rattle.clock_ir.specs.Flows.{TimedOp, TimedBody, Flow, gates_now, behind_stores}
use Rattle.clock_ir.specs.ClockRuns.{TimedNode, block, overlapped, TimedProgram, Phase, starting, loading, inside, ended}
use Rattle.clock_machine.specs.declared.lines.program.Action.{Action}
use Rattle.clock_machine.specs.declared.lines.program.Line.{Line}
use Rattle.clock_machine.specs.declared.lines.program.Program.{Program}
use Rattle.clock_machine.specs.declared.lines.program.Stage.{Stage}
use Rattle.clock_machine.specs.declared.lines.program.Work.{Work}
use Rattle.clock_machine.specs.declared.lines.registers.Registers.{Registers}
use Rattle.clock_machine.specs.Lines.Forms.{IsProgramOf}
use Rattle.clock_machine.specs.Lines.Reads.{Each}
use Rattle.clock_machine.specs.Lines.Registers.{SameSizes}
use Rattle.clock_machine.specs.Lines.Stages.{work_in}
use Rattle.clock_machine.specs.Lines.Showing.{Shows, ShowsGates}
use Rattle.clock_machine.specs.declared.state.State.{State}
use Rattle.clock_machine.specs.declared.state.Position.TheVariants as position
use Rattle.clock_machine.specs.Acts.{IsThere}
use Rattle.clock_machine.specs.Keeping.{IsForm, IsMoment, HasGiven}
use Rattle.clock_machine.specs.Starts.{words_of}

-- ---- programs

abbrev pub NamesOne : ℕ → Source → Type 0
NamesOne count (source.Constant w) = Unit {0}
NamesOne count (source.Variable v) = Unit {0}
NamesOne count (source.Result op) = op.0 < count

-- an out sets a variable that is there, and names an operation that is there
abbrev pub IsOutOf : Shapes → ℕ → Out → Type 0
IsOutOf shapes count x = (x.variable.0 < length shapes.widths) × NamesOne count x.value.value

pub record IsWholeBody (shapes : Shapes) (b : TimedBody) : Type 0 where
  pub outs : Each (IsOutOf shapes (length b.ops)) b.outs
  pub arrays : (k : ℕ) (o : TimedOp) → slice_get b.ops k ≡ Some o → IsThere o.op.array shapes.dims

abbrev pub body_at : TimedNode → TimedBody
body_at (block b end_) = b
body_at (overlapped b exit next) = b

-- what a program names is there
abbrev pub IsWholeProgram : TimedProgram → Type 0
IsWholeProgram p = (i : ℕ) (n : TimedNode) → slice_get p.nodes i ≡ Some n → IsWholeBody p.shapes (body_at n)

-- iterations begin some cycles apart, and operations start before 2 to the power of 32
pub record IsSteadyBody (b : TimedBody) : Type 0 where
  pub positive : 0 < b.interval
  pub early : (k : ℕ) (o : TimedOp) → slice_get b.ops k ≡ Some o → o.start < 2 ^ 32

abbrev pub IsSteadyProgram : TimedProgram → Type 0
IsSteadyProgram p = (i : ℕ) (n : TimedNode) → slice_get p.nodes i ≡ Some n → IsSteadyBody (body_at n)

-- ---- states of a program

pub record HasWords (w : Work) (r : Registers) : Type 0 where
  pub words : (k : ℕ) (line : Line) → slice_get w.lines.items k ≡ Some line → line.first + line.length ≤ length r.words.items
  pub heads : length w.lines.items ≤ length r.heads.items

-- lines and buffers are long enough for a body
pub record HasRoom (w : Work) (s : State) : Type 0 where
  pub lines : HasWords w s.registers
  pub args : (k : ℕ) (a : Action) → slice_get w.actions.items k ≡ Some a → length a.args.items ≤ length s.args.items
  pub given : length w.actions.items ≤ length s.fresh.items
  pub taken : length w.assignments.items ≤ length s.fresh.items

-- the variables, memories and buffers of a program, whatever they hold
pub record IsStateOf (p : TimedProgram) (g : Program) (s : State) : Type 0 where
  pub form : IsProgramOf p g
  pub whole : IsWholeProgram p
  pub steady : IsSteadyProgram p
  pub room : (i : ℕ) (it : Stage) → slice_get g.stages.items i ≡ Some it → HasRoom (work_in it) s
  pub variables : length s.registers.variables.items ≡ length p.shapes.widths
  pub dims : dims_in s.memories ≡ p.shapes.dims
  pub first : s.first.0 ≡ p.first

-- they stay as long as they are
pub record KeepsRoom (old new : State) : Type 0 where
  pub registers : SameSizes old.registers new.registers
  pub args : length new.args.items ≡ length old.args.items
  pub fresh : length new.fresh.items ≡ length old.fresh.items
  pub dims : dims_in new.memories ≡ dims_in old.memories
  pub first : new.first ≡ old.first

-- ---- a cycle of a body

-- a state that has room for a body of this form
pub record IsBodyIn (shapes : Shapes) (b : TimedBody) (w : Work) (s : State) : Type 0 where
  pub form : IsForm shapes.widths b w s.registers
  pub whole : IsWholeBody shapes b
  pub room : HasRoom w s
  pub variables : length s.registers.variables.items ≡ length shapes.widths
  pub dims : dims_in s.memories ≡ shapes.dims

-- in a cycle of the body, whatever its memories hold and its gates tell
pub record IsAt (shapes : Shapes) (b : TimedBody) (w : Work) (f : Flow) (s : State) : Type 0 where
  pub body : IsBodyIn shapes b w s
  pub shows : Shows b w.lines.items s.registers f
  pub moment : IsMoment b f s.moment.phase s.moment.time

pub record IsInside (shapes : Shapes) (b : TimedBody) (w : Work) (f : Flow) (s : State) : Type 0 where
  pub at : IsAt shapes b w f s
  pub gates : ShowsGates f.gates s.moment.failed
  pub memories : words_in s.memories ≡ f.memories

-- behind what the operations do that start in this cycle
pub record HasStarted (shapes : Shapes) (b : TimedBody) (w : Work) (f : Flow) (s : State) : Type 0 where
  pub at : IsAt shapes b w f s
  pub gates : ShowsGates (gates_now b f) s.moment.failed
  pub memories : words_in s.memories ≡ behind_stores shapes b f b.ops f.memories
  pub given : HasGiven shapes b f s.fresh.items

-- ---- phases

-- a block is not yet over
abbrev pub IsBefore : ℕ → TimedNode → Type 0
IsBefore time (block b end_) = time < b.interval
IsBefore time (overlapped b exit next) = Unit {0}

pub record IsInNode (p : TimedProgram) (g : Program) (i : ℕ) (f : Flow) (s : State) : Type 0 where
  pub node : TimedNode
  pub stage : Stage
  pub node_is : slice_get p.nodes i ≡ Some node
  pub stage_is : slice_get g.stages.items i ≡ Some stage
  pub inside : IsInside p.shapes (body_at node) (work_in stage) f s
  pub before : IsBefore f.time node

abbrev pub IsInPhase : TimedProgram → Program → Phase → State → Type 0
IsInPhase p g (starting t) s = (s.position ≡ position.Start) × (words_of s ≡ t)
IsInPhase p g (loading i t) s = (s.position ≡ position.Loading (record { 0 = i })) × (words_of s ≡ t)
IsInPhase p g (inside i f) s = (s.position ≡ position.Inside (record { 0 = i })) × IsInNode p g i f s
IsInPhase p g (ended w t) s = (s.position ≡ position.Ended) × (s.returned ≡ w) × (words_of s ≡ t)

pub record StandsAt (p : TimedProgram) (g : Program) (phase : Phase) (s : State) : Type 0 where
  pub of_program : IsStateOf p g s
  pub in_phase : IsInPhase p g phase s
