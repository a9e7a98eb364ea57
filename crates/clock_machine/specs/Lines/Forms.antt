-- The form in which a timed program is run.
use Rattle.std.specs.Prelude.{◌≡◌, ℕ, ◌+◌, ◌-◌, ◌*◌, ◌/◌, ◌^◌, ◌<◌, List, [], ◌∷◌, length, map, min, slice_get, Some}
use Rattle.std.specs.Option.{option_map}
use Rattle.hls_base.specs.declared.number.NodeId.{NodeId}
use Rattle.ir_core.specs.declared.body.Operand.{Operand}
use Rattle.ir_core.specs.declared.body.Out.{Out}
use Rattle.ir_core.specs.declared.cfg.End.{End}
use Rattle.ir_core.specs.declared.cfg.End.TheVariants as end
use Rattle.ir_core.specs.Bodies.{OpTree, first_bits}
use Rattle.clock_ir.specs.Flows.{TimedOp, TimedBody, latency, place, known}
use Rattle.clock_ir.specs.ClockRuns.{TimedNode, block, overlapped, TimedProgram}
use Rattle.clock_machine.specs.declared.lines.program.Action.{Action}
use Rattle.clock_machine.specs.declared.lines.program.Assignment.{Assignment}
use Rattle.clock_machine.specs.declared.lines.program.Case.{Case}
use Rattle.clock_machine.specs.declared.lines.program.Line.{Line}
use Rattle.clock_machine.specs.declared.lines.program.Program.{Program}
use Rattle.clock_machine.specs.declared.lines.program.Stage.{Stage}
use Rattle.clock_machine.specs.declared.lines.program.Stage.TheVariants as stage
use Rattle.clock_machine.specs.declared.lines.program.Way.{Way}
use Rattle.clock_machine.specs.declared.lines.program.Way.TheVariants as way
use Rattle.clock_machine.specs.declared.lines.program.Work.{Work}
use Rattle.clock_machine.specs.Lines.Agendas.{IsAgenda}
use Rattle.clock_machine.specs.Lines.Reads.{read_at, read_of, entry_in, Each, EachIf, IsCovered, CoversAction, CoversWay}

-- ---- operations

abbrev pub op_trees : TimedBody → List OpTree
op_trees b = map (λ (p : TimedOp). p.op) b.ops

-- operation k of a body
pub record IsActionOf (widths : List ℕ) (b : TimedBody) (k : ℕ) (o : TimedOp) (a : Action) : Type 0 where
  pub kind : a.kind ≡ o.op.kind
  pub signed : a.signed ≡ o.op.signed
  pub bits : a.bits ≡ o.op.bits
  pub from_bits : a.from_bits ≡ first_bits widths (op_trees b) o.op o.op.args
  pub args : a.args.items ≡ map (read_of b o.start) o.op.args
  pub array : a.array ≡ o.op.array
  pub guard : a.guard ≡ option_map (read_of b o.start) o.op.guard
  pub start : a.start ≡ o.start
  pub ready : a.ready ≡ o.start + latency o
  pub soon : a.ready < 2 ^ 64
  pub gate : a.gate ≡ place b.interval (known b) o.start 0
  pub wait : a.wait ≡ (latency o - 1) / b.interval
  pub entry : a.entry ≡ entry_in b.outs k

abbrev pub AreActionsOf : List ℕ → TimedBody → List Action → Type 0
AreActionsOf widths b actions = (k : ℕ) (o : TimedOp) (a : Action) → slice_get b.ops k ≡ Some o → slice_get actions k ≡ Some a → IsActionOf widths b k o a

-- ---- lines

-- line k of those of one length, one behind the other
pub record IsLineOf (size k : ℕ) (line : Line) : Type 0 where
  pub first : line.first ≡ min (k * size) (2 ^ 64 - 1)
  pub length : line.length ≡ size

-- ---- bodies

-- what a variable takes at this time, so many iterations later
abbrev pub assignment_of : TimedBody → ℕ → ℕ → Out → Assignment
assignment_of b time further x = record { variable = x.variable.0; value = read_at b time (x.value.distance + further) x.value.value }

-- how far back is read, and how long the lines are
pub record IsDeep (depth size : ℕ) (w : Work) : Type 0 where
  pub actions : (k : ℕ) (a : Action) → slice_get w.actions.items k ≡ Some a → CoversAction depth a
  pub assignments : Each (λ (x : Assignment). IsCovered depth x.value) w.assignments.items
  pub test : EachIf (IsCovered depth) w.pace.test
  pub long : size ≡ min (depth + 1) (2 ^ 64 - 1)
  pub count : length w.lines.items ≡ length w.actions.items + length w.actions.items
  pub lines : (k : ℕ) (line : Line) → slice_get w.lines.items k ≡ Some line → IsLineOf size k line

pub record IsWorkOf (widths : List ℕ) (b : TimedBody) (time further : ℕ) (w : Work) : Type 0 where
  pub count : length w.actions.items ≡ length b.ops
  pub actions : AreActionsOf widths b w.actions.items
  pub assignments : w.assignments.items ≡ map (assignment_of b time further) b.outs
  pub starts : IsAgenda b.interval (map (λ (a : Action). a.start) w.actions.items) w.starts.first.items w.starts.next.items
  pub arrivals : IsAgenda b.interval (map (λ (a : Action). a.ready) w.actions.items) w.arrivals.first.items w.arrivals.next.items
  pub interval : w.pace.interval ≡ b.interval
  pub known_time : w.pace.known ≡ known b
  pub test : w.pace.test ≡ option_map (read_of b (known b)) b.test

-- ---- nodes

abbrev pub case_of : TimedBody → ℕ → Operand × NodeId → Case
case_of b time c = record { test = read_of b time c.0; to = c.1 }

abbrev pub IsWayOf : TimedBody → ℕ → End → Way → Type 0
IsWayOf b time (end.Jump n) (way.Choose cases other) = (cases.items ≡ []) × (other ≡ n)
IsWayOf b time (end.Branch test left right) (way.Choose cases other) = (cases.items ≡ case_of b time (test, left) ∷ []) × (other ≡ right)
IsWayOf b time (end.Choose cs n) (way.Choose cases other) = (cases.items ≡ map (case_of b time) cs.items) × (other ≡ n)
IsWayOf b time (end.Return x) (way.Return value) = value ≡ option_map (read_of b time) x
IsWayOf b time e w = ⊥

abbrev pub IsStageOf : List ℕ → TimedNode → Stage → Type 0
IsStageOf widths (block b e) (stage.Block w way) =
    IsWorkOf widths b b.interval 0 w × IsWayOf b b.interval e way × ((depth : ℕ) × ((size : ℕ) × (IsDeep depth size w × CoversWay depth way)))
IsStageOf widths (overlapped b exit next) (stage.Loop w e) =
    IsWorkOf widths b exit 1 w × (e.exit ≡ exit) × (exit < 2 ^ 32) × (e.gate ≡ place b.interval (known b) exit 0) × (e.next.0 ≡ next) × ((depth : ℕ) × ((size : ℕ) × IsDeep depth size w))
IsStageOf widths n s = ⊥

pub record IsProgramOf (p : TimedProgram) (g : Program) : Type 0 where
  pub count : length g.stages.items ≡ length p.nodes
  pub stages : (k : ℕ) (n : TimedNode) (s : Stage) → slice_get p.nodes k ≡ Some n → slice_get g.stages.items k ≡ Some s → IsStageOf p.shapes.widths n s
