-- Where an operand is read, and which variable a line begins with.
use Rattle.std.specs.Prelude.{◌≡◌, ℕ, ◌<◌, ◌≤◌, ◌^◌, nat_lt, Bool, true, false, List, [], ◌∷◌, length, slice_get, Option, Some, None, if◌then◌else◌}
use Rattle.hls_base.specs.declared.number.OpId.{OpId}
use Rattle.ir_core.specs.declared.body.Op.{Op}
use Rattle.ir_core.specs.declared.body.Operand.{Operand}
use Rattle.ir_core.specs.declared.body.Out.{Out}
use Rattle.ir_core.specs.declared.body.Source.{Source}
use Rattle.ir_core.specs.declared.body.Source.TheVariants as source
use Rattle.ir_core.specs.declared.timed.Timed.{Timed}
use Rattle.dep_graph.specs.Dependences.{maker_by}
use Rattle.clock_ir.specs.Flows.{TimedBody, ready, place, is_result}
use Rattle.clock_machine.specs.declared.lines.program.Action.{Action}
use Rattle.clock_machine.specs.declared.lines.program.Case.{Case}
use Rattle.clock_machine.specs.declared.lines.program.Way.{Way}
use Rattle.clock_machine.specs.declared.lines.program.Way.TheVariants as way
use Rattle.clock_machine.specs.declared.lines.program.Read.{Read}
use Rattle.clock_machine.specs.declared.lines.program.Read.TheVariants as read

-- what no operation makes
abbrev pub read_from : Source → Read
read_from (source.Constant word) = read.Constant word
read_from (source.Variable variable) = read.Variable variable.0
read_from (source.Result op) = read.Constant 0

-- a value of an operation that is there
abbrev pub read_made : Bool → ℕ → ℕ → Read
read_made true number back = read.Value number back
read_made false number back = read.Constant 0

abbrev pub read_by : TimedBody → ℕ → ℕ → Source → Option OpId → Read
read_by b t distance value (Some op) = read_made (nat_lt op.0 (length b.ops)) op.0 (place b.interval (ready b op) t distance)
read_by b t distance value None = read_from value

-- a value that is read at time t, so many iterations later
abbrev pub read_at : TimedBody → ℕ → ℕ → Source → Read
read_at b t distance value = read_by b t distance value (maker_by b.outs distance value)

abbrev pub read_of : TimedBody → ℕ → Operand → Read
read_of b t x = read_at b t x.distance x.value

-- each operation starts before 2 to the power of 32
abbrev pub AreEarly : List (Op Timed) → Type 0
AreEarly ops = (k : ℕ) (op : Op Timed) → slice_get ops k ≡ Some op → op.stamp.start < 2 ^ 32

-- the variable whose value at entry the chain of an operation begins with
abbrev pub entry_if : Bool → ℕ → Option ℕ → Option ℕ
entry_if it variable rest = if it then Some variable else rest

abbrev pub entry_in : List Out → ℕ → Option ℕ
entry_in [] k = None
entry_in (x ∷ xs) k = entry_if (is_result k x.value.value) x.variable.0 (entry_in xs k)

-- ---- how far back is read

abbrev pub Each : {A : Type 0} → (A → Type 0) → List A → Type 0
Each P [] = Unit {0}
Each P (x ∷ xs) = P x × Each P xs

abbrev pub EachIf : {A : Type 0} → (A → Type 0) → Option A → Type 0
EachIf P None = Unit {0}
EachIf P (Some x) = P x

-- no further back than this
abbrev pub IsCovered : ℕ → Read → Type 0
IsCovered depth (read.Constant word) = Unit {0}
IsCovered depth (read.Variable variable) = Unit {0}
IsCovered depth (read.Value number back) = back ≤ depth

abbrev pub CoversAction : ℕ → Action → Type 0
CoversAction depth a = Each (IsCovered depth) a.args.items × EachIf (IsCovered depth) a.guard × (a.wait ≤ depth)

abbrev pub CoversWay : ℕ → Way → Type 0
CoversWay depth (way.Choose cases other) = Each (λ (c : Case). IsCovered depth c.test) cases.items
CoversWay depth (way.Return value) = EachIf (IsCovered depth) value
