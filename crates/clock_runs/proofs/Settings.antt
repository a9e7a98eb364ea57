-- A timed body that runs from some contents: one iteration after another, and cycle by cycle.
use Rattle.std.proofs.Common.{◌≡◌, ℕ, zero, suc, ◌+◌, ◌*◌, ◌<◌, ◌≤◌, ◌⊎◌, ◌==◌, not, ◌≢◌, Bool, true, false, List, [], ◌∷◌, ◌++◌, map, length, get_or, Option, Some, None}
use Rattle.hls_base.specs.declared.number.OpId.{OpId}
use Rattle.ir_core.specs.declared.body.OpKind.TheVariants as o
use Rattle.ir_core.specs.declared.body.Operand.{Operand}
use Rattle.ir_core.specs.declared.body.Out.{Out}
use Rattle.ir_core.specs.declared.body.Source.{Source}
use Rattle.ir_core.specs.declared.body.Source.TheVariants as source
use Rattle.dep_graph.specs.Offsets.{maker}
use Rattle.ir_core.specs.Bodies.{OpTree, Shapes, Words, first_bits, operand, outs}
use Rattle.ir_core.specs.TreeRuns.{tested}
use Rattle.clock_ir.specs.Flows.{TimedOp, TimedBody, Flow, latency, known, given, first_flow, tick, entered}
pub use Rattle.clock_runs.specs.Premises.{Each}
use Rattle.clock_runs.proofs.Effects.{Memories, Sort, storing, sort_of, value_by, memories_by, Loads, Stores}

-- A block carries no variable to a next iteration.
pub record Setting : Type 0 where
  pub shapes : Shapes
  pub body : TimedBody
  pub carried : List Out
  pub start : Words

-- stands where there is no operation
abbrev pub nothing : TimedOp
nothing = record { op = record { kind = o.Copy; signed = false; bits = 0; args = []; array = None; guard = None; flag = None }; start = 0 }

abbrev pub op_at : Setting → ℕ → TimedOp
op_at s k = get_or s.body.ops k nothing

abbrev pub ops_of : Setting → List OpTree
ops_of s = map (λ (p : TimedOp). p.op) s.body.ops

abbrev pub count_of : Setting → ℕ
count_of s = length s.body.ops

-- ---- one operation

abbrev pub allows : (Operand → ℕ) → Option Operand → Bool
allows read None = true
allows read (Some guard) = not (read guard == 0)

abbrev pub sort_at : Setting → ℕ → Sort
sort_at s k = sort_of (op_at s k).op.kind

-- the value of operation k, with its operands as `read` tells them
abbrev pub value_at : Setting → ℕ → (Operand → ℕ) → Memories → ℕ
value_at s k read memories =
    let op = (op_at s k).op in
    value_by s.shapes op (sort_of op.kind) (allows read op.guard) (first_bits s.shapes.widths (ops_of s) op op.args) (map read op.args) memories

abbrev pub memories_at : Setting → ℕ → (Operand → ℕ) → Memories → Memories
memories_at s k read memories =
    let op = (op_at s k).op in
    memories_by s.shapes op (sort_of op.kind) (allows read op.guard) (map read op.args) memories

-- ---- one iteration after another

pub record Inside : Type 0 where
  pub results : List ℕ
  pub memories : Memories

-- behind the first k operations
unfoldable pub after : Setting → Words → ℕ → Inside
after s t zero = record { results = []; memories = t.memories }
after s t (suc k) =
    let before = after s t k in
    record {
      results = before.results ++ value_at s k (operand t before.results) before.memories ∷ [];
      memories = memories_at s k (operand t before.results) before.memories;
    }

-- the test of the iteration that begins with these contents
abbrev pub passes_from : Setting → Words → Bool
passes_from s t = allows (operand t (after s t (tested s.body.test)).results) s.body.test

abbrev pub next : Setting → Words → Words
next s t =
    let done = after s t (count_of s) in
    record { variables = outs s.carried t done.results t.variables; memories = done.memories }

-- where iteration i begins, as if no test before it failed
unfoldable pub moment : Setting → ℕ → Words
moment s zero = s.start
moment s (suc i) = next s (moment s i)

abbrev pub passes : Setting → ℕ → Bool
passes s i = passes_from s (moment s i)

-- no test before iteration i fails
abbrev pub Begins : Setting → ℕ → Type 0
Begins s i = (j : ℕ) → j < i → passes s j ≡ true

-- operation k of iteration i runs
abbrev pub Runs : Setting → ℕ → ℕ → Type 0
Runs s i k = Begins s i × (k < count_of s) × ((k < tested s.body.test) ⊎ (passes s i ≡ true))

abbrev pub reading : Setting → ℕ → ℕ → Operand → ℕ
reading s i k = operand (moment s i) (after s (moment s i) k).results

abbrev pub result : Setting → ℕ → ℕ → ℕ
result s i k = value_at s k (reading s i k) (after s (moment s i) k).memories

abbrev pub LoadsAt : Setting → ℕ → ℕ → ℕ → ℕ → Type 0
LoadsAt s i k memory address =
    let op = (op_at s k).op in
    Loads s.shapes op (sort_of op.kind) (allows (reading s i k) op.guard) (map (reading s i k) op.args) memory address

abbrev pub StoresAt : Setting → ℕ → ℕ → ℕ → ℕ → Type 0
StoresAt s i k memory address =
    let op = (op_at s k).op in
    Stores s.shapes op (sort_of op.kind) (allows (reading s i k) op.guard) (map (reading s i k) op.args) memory address

-- ---- cycle by cycle

unfoldable pub flow : Setting → ℕ → Flow
flow s zero = first_flow s.body s.start
flow s (suc time) = tick s.shapes s.body (flow s time)

-- the time of an iteration from which the value of operation k is there
abbrev pub available : Setting → ℕ → ℕ
available s k = (op_at s k).start + latency (op_at s k)

abbrev pub time_of : Setting → ℕ → ℕ → ℕ
time_of s i k = i * s.body.interval + (op_at s k).start

-- what the operation gives if it starts in this cycle
abbrev pub computed : Setting → ℕ → ℕ → ℕ
computed s k time = given s.shapes s.body (flow s time) (op_at s k)

-- the value of operation k in iteration i, also of one that does not run
abbrev pub val : Setting → ℕ → ℕ → ℕ
val s i k = computed s k (time_of s i k)

-- ---- good times

-- the variable's value is that of operation j in the iteration before, and is there
pub record IsCarried (s : Setting) (time variable : ℕ) (j : OpId) : Type 0 where
  pub made : maker s.body.outs variable ≡ Some j
  pub carries : maker s.carried variable ≡ Some j
  pub within : j.0 < count_of s
  pub there : available s j.0 ≤ time + s.body.interval
  pub entry : entered s.body.outs s.start.variables j.0 ≡ s.start.variables variable

-- a use at this time, which may come behind the first k operations only
abbrev pub IsReadyAs : Setting → ℕ → ℕ → Source → ℕ → Type 0
IsReadyAs s k time (source.Constant c) distance = Unit {0}
IsReadyAs s k time (source.Variable v) distance =
    ((distance ≡ 0) × (maker s.carried v.0 ≡ None)) ⊎ ((distance ≡ 1) × ((j : OpId) × IsCarried s time v.0 j))
IsReadyAs s k time (source.Result j) distance = (distance ≡ 0) × (j.0 < k) × (j.0 < count_of s) × (available s j.0 ≤ time)

abbrev pub IsReady : Setting → ℕ → ℕ → Operand → Type 0
IsReady s k time x = IsReadyAs s k time x.value x.distance

abbrev pub IsReadyIf : Setting → ℕ → ℕ → Option Operand → Type 0
IsReadyIf s k time None = Unit {0}
IsReadyIf s k time (Some x) = IsReady s k time x

-- no two outs set the same variable, and all name results
abbrev pub AreOuts : List Out → Type 0
AreOuts [] = Unit {0}
AreOuts (x ∷ xs) = ((op : OpId) × (x.value.value ≡ source.Result op)) × Each (λ (y : Out). y.variable.0 ≢ x.variable.0) xs × AreOuts xs

pub record IsTimely (s : Setting) : Type 0 where
  pub interval : 0 < s.body.interval
  pub outs : AreOuts s.carried
  pub args : (k : ℕ) → k < count_of s → Each (IsReady s k (op_at s k).start) (op_at s k).op.args
  pub guards : (k : ℕ) → k < count_of s → IsReadyIf s k (op_at s k).start (op_at s k).op.guard
  pub test : IsReadyIf s (tested s.body.test) (known s.body) s.body.test
  pub test_in : tested s.body.test ≤ count_of s
  pub test_before : (k : ℕ) → k < count_of s → sort_at s k ≡ storing → (tested s.body.test ≤ k) × (known s.body ≤ (op_at s k).start)

-- in the order of the sequential run
abbrev pub IsBefore : ℕ → ℕ → ℕ → ℕ → Type 0
IsBefore i k j n = (i < j) ⊎ ((i ≡ j) × (k < n))

-- Of two accesses that meet and are not both loads, the later one starts late enough: those of iterations that begin before the horizon.
pub record KeepsOrder (s : Setting) (horizon : ℕ) : Type 0 where
  pub load_after_store : (i k j n memory address : ℕ) → i * s.body.interval < horizon → j * s.body.interval < horizon → Runs s i k → Runs s j n → IsBefore i k j n
      → StoresAt s i k memory address → LoadsAt s j n memory address → time_of s i k + 1 ≤ time_of s j n
  pub store_after_load : (i k j n memory address : ℕ) → i * s.body.interval < horizon → j * s.body.interval < horizon → Runs s i k → Runs s j n → IsBefore i k j n
      → LoadsAt s i k memory address → StoresAt s j n memory address → time_of s i k ≤ time_of s j n
  pub store_after_store : (i k j n memory address : ℕ) → i * s.body.interval < horizon → j * s.body.interval < horizon → Runs s i k → Runs s j n → IsBefore i k j n
      → StoresAt s i k memory address → StoresAt s j n memory address → time_of s i k + 1 ≤ time_of s j n
