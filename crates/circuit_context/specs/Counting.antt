-- Ports by the order of operations, and how many each array has.
use Rattle.std.specs.Prelude.{◌≡◌, ℕ, ◌+◌, ◌%◌, ◌==◌, ◌&&◌, ◌||◌, max, Bool, true, false, List, [], ◌∷◌, ◌++◌, length, map, get_or, slice_get, count_by, fold, Option, Some, None, is_some, unwrap_or, if◌then◌else◌}
use Rattle.std.specs.List.{enumerate_from}
use Rattle.hls_base.specs.declared.number.ArrayId.{ArrayId}
use Rattle.hls_base.specs.contracts.number.ArrayIdPartialEq.TheImpl as array_impl
use Rattle.indexmap.specs.IndexMap.{IndexMap, get}
use Rattle.ir_core.specs.declared.body.Op.{Op}
use Rattle.ir_core.specs.declared.cfg.Memory.{Memory}
use Rattle.ir_core.specs.declared.cfg.Node.{Node}
use Rattle.ir_core.specs.declared.cfg.Node.TheVariants as node
use Rattle.ir_core.specs.declared.timed.Timed.{Timed}
use Rattle.clock_ir.specs.ClockRuns.{timed_node}
use Rattle.datapath.specs.Plans.{array_of, no_array, body_of}
use Rattle.datapath.specs.Ports.{changed_with, is_load, is_store, is_array}
use Rattle.circuit_context.specs.declared.loads.Moment.{Moment}
use Rattle.circuit_context.specs.declared.ports.PortNumbers.{PortNumbers}

-- ---- loads that start together

abbrev pub moment_eq : Moment → Moment → Bool
moment_eq x y = array_impl.eq-value.it x.array y.array && (x.time == y.time)

abbrev pub count_at : {S : Type 0} → IndexMap Moment ℕ S → Moment → ℕ
count_at loads m = unwrap_or (get moment_eq loads m) 0

-- the operation is a load of this array that starts at this time within the span
abbrev pub loads_at : ℕ → ℕ → ℕ → Op Timed → Bool
loads_at span a time op = is_load op.kind && (is_array a op.array && (op.stamp.start % span == time))

-- these are the loads among the operations so far
abbrev pub Counts : {S : Type 0} → ℕ → List (Op Timed) → IndexMap Moment ℕ S → Type 0
Counts span before loads = (m : Moment) → count_at loads m ≡ count_by (loads_at span m.array.0 m.time) before

-- ---- stores that start together

-- the operation is a store to this array that starts at this time within the span
abbrev pub is_store_at : ℕ → ℕ → ℕ → Op Timed → Bool
is_store_at span a time op = is_store op.kind && (is_array a op.array && (op.stamp.start % span == time))

-- the unit of the first of them
abbrev pub first_store : ℕ → ℕ → ℕ → List (Op Timed) → Option ℕ
first_store span a time [] = None
first_store span a time (op ∷ ops) = if is_store_at span a time op then Some op.stamp.bound else first_store span a time ops

-- what is noted of a moment behind one store more, which may be there then
abbrev pub noted_first : Option ℕ → Bool → ℕ → Option ℕ
noted_first (Some noted) here unit = Some noted
noted_first None here unit = if here then Some unit else None

-- these are the units of the first stores among the operations
abbrev pub AreStores : {S : Type 0} → ℕ → List (Op Timed) → IndexMap Moment ℕ S → Type 0
AreStores span ops stores = (m : Moment) → get moment_eq stores m ≡ first_store span m.array.0 m.time ops

-- ---- ports

-- the array is a table
abbrev pub tables_in : List Memory → ℕ → Bool
tables_in memories a = is_some (get_or (map array_of memories) a no_array).table

-- the array of an access
abbrev pub array_if : Bool → Option ArrayId → Option ArrayId
array_if true array = array
array_if false array = None

abbrev pub accessed_by : Op Timed → Option ArrayId
accessed_by op = array_if (is_load op.kind || is_store op.kind) op.array

-- an operation, among all those of its node, behind those before
abbrev pub port_for : (ℕ → Bool) → ℕ → List (Op Timed) → List (Op Timed) → Op Timed → Option ArrayId → ℕ
port_for tables span all before op None = 0
port_for tables span all before op (Some array) =
    if tables array.0 then count_by (loads_at span array.0 (op.stamp.start % span)) before
    else changed_with (unwrap_or (first_store span array.0 (op.stamp.start % span) all) 0) op.stamp.bound

abbrev pub port_if : (ℕ → Bool) → ℕ → List (Op Timed) → List (Op Timed) → Op Timed → ℕ
port_if tables span all before op = port_for tables span all before op (accessed_by op)

-- the ports of operations, behind those before
abbrev pub ports_from : (ℕ → Bool) → ℕ → List (Op Timed) → List (Op Timed) → List (Op Timed) → List ℕ
ports_from tables span all before [] = []
ports_from tables span all before (op ∷ ops) = port_if tables span all before op ∷ ports_from tables span all (before ++ op ∷ []) ops

-- ---- how many ports

-- an array with at least so many ports has at least so many with this access
abbrev pub reached : ℕ → ℕ → Op Timed → ℕ → ℕ
reached a n op port = if is_array a (accessed_by op) then max n (max port op.stamp.bound + 1) else n

abbrev pub reached_in : ℕ → ℕ → List (Op Timed) → List ℕ → ℕ
reached_in a n ops row = fold (λ (m : ℕ) (x : ℕ × Op Timed). reached a m x.1 (get_or row x.0 0)) n (enumerate_from 0 ops)

-- the counts go up in this way
pub record Reaches (before after : List ℕ) (rise : ℕ → ℕ → ℕ) : Type 0 where
  pub count : length after ≡ length before
  pub each : (a n : ℕ) → slice_get before a ≡ Some n → slice_get after a ≡ Some (rise a n)

-- ---- nodes

abbrev pub ops_in : Node Timed → List (Op Timed)
ops_in (node.Plain b) = b.body.ops.items
ops_in (node.Looped r) = r.body.ops.items

abbrev pub span_of : Node Timed → ℕ
span_of n = max 1 (body_of (timed_node n)).interval

abbrev pub row_in : (ℕ → Bool) → Node Timed → List ℕ
row_in tables n = ports_from tables (span_of n) (ops_in n) [] (ops_in n)

abbrev pub reached_by : (ℕ → Bool) → ℕ → ℕ → List (Node Timed) → ℕ
reached_by tables a n nodes = fold (λ (m : ℕ) (x : Node Timed). reached_in a m (ops_in x) (row_in tables x)) n nodes

pub record AreNumbered (memories : List Memory) (nodes : List (Node Timed)) (ports : PortNumbers) : Type 0 where
  pub numbers : map (λ r. r.items) ports.numbers.items ≡ map (row_in (tables_in memories)) nodes
  pub count : length ports.counts.items ≡ length memories
  pub counts : (a n : ℕ) → slice_get ports.counts.items a ≡ Some n → n ≡ reached_by (tables_in memories) a 1 nodes
