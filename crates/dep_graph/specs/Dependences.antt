-- Which operations of a body wait for which others.
use Rattle.std.specs.Prelude.{ℕ, zero, suc, ◌+◌, ◌==◌, nat_lt, ℤ, pos, Bool, not, ◌&&◌, ◌||◌, if◌then◌else◌, List, [], ◌∷◌, ◌++◌, Option, Some, None, option_to_list, min}
use Rattle.hls_base.specs.declared.number.OpId.{OpId}
use Rattle.ir_core.specs.declared.body.Body.{Body}
use Rattle.ir_core.specs.declared.body.Op.{Op}
use Rattle.ir_core.specs.declared.body.Operand.{Operand}
use Rattle.ir_core.specs.declared.body.Out.{Out}
use Rattle.ir_core.specs.declared.body.Source.{Source}
use Rattle.ir_core.specs.declared.body.Source.TheVariants as s
use Rattle.ir_core.specs.declared.stamp.Untimed.{Untimed}
use Rattle.ir_core.specs.Timing.{latency}
use Rattle.dep_graph.specs.declared.access.Meeting.{Meeting}
use Rattle.dep_graph.specs.declared.access.Meeting.TheVariants as m
use Rattle.dep_graph.specs.declared.edge.Edge.{Edge}
use Rattle.dep_graph.specs.declared.edge.Why.{Why}
use Rattle.dep_graph.specs.declared.edge.Why.TheVariants as w
use Rattle.dep_graph.specs.Offsets.{nth, result_of, maker, sums_of}
use Rattle.dep_graph.specs.Meetings.{Reach, reaches_from, is_store, distances_between}

abbrev pub gather : {A B : Type 0} → (A → List B) → List A → List B
gather f [] = []
gather f (x ∷ xs) = f x ++ gather f xs

-- the operation that makes what an operand names: a variable, only where its value is of an earlier iteration
abbrev pub maker_by : List Out → ℕ → Source → Option OpId
maker_by outs distance (s.Constant word) = None
maker_by outs distance (s.Variable variable) = if nat_lt 0 distance then maker outs variable.0 else None
maker_by outs distance (s.Result op) = Some op

abbrev pub maker_of : List Out → Operand → Option OpId
maker_of outs operand = maker_by outs operand.distance operand.value

-- the edge from an operation, with its latency
abbrev pub edge_behind : ℕ → Option (Op Untimed) → ℕ → ℕ → Why → List Edge
edge_behind from None to distance why = []
edge_behind from (Some op) to distance why =
    record { from = from + 1; to = to; latency = latency op.kind op.bits; distance = distance; why = why } ∷ []

abbrev pub edges_behind : List (Op Untimed) → Option OpId → ℕ → ℕ → Why → List Edge
edges_behind ops None to distance why = []
edges_behind ops (Some from) to distance why = edge_behind from.0 (nth ops from.0) to distance why

-- from the operation that makes the operand
abbrev pub data_edge : Body Untimed → ℕ → Operand → List Edge
data_edge body to operand =
    edges_behind body.ops.items (maker_of body.outs.items operand) to operand.distance w.Data

-- to an operation from those that make its arguments and its guard
abbrev pub data_edges : Body Untimed → ℕ → Op Untimed → List Edge
data_edges body to op = gather (data_edge body to) op.args.items ++ gather (data_edge body to) (option_to_list op.guard)

-- the operation that makes the test of an iteration in this iteration
abbrev pub test_maker : Option Operand → Option OpId
test_maker None = None
test_maker (Some operand) = result_of operand.value

-- to a store from the operation that makes the test
abbrev pub control_edges : Body Untimed → ℕ → Op Untimed → List Edge
control_edges body to op =
    if is_store op.kind then edges_behind body.ops.items (test_maker body.test) to 0 w.Control else []

abbrev pub op_edges : Body Untimed → ℕ → List (Op Untimed) → List Edge
op_edges body k [] = []
op_edges body k (op ∷ ops) = data_edges body (k + 1) op ++ control_edges body (k + 1) op ++ op_edges body (suc k) ops

-- a word is there one cycle after its store
abbrev pub memory_edge : Reach → Reach → ℕ → Edge
memory_edge from to distance = record {
  from = from.op + 1;
  to = to.op + 1;
  latency = if from.is_store then 1 else 0;
  distance = distance;
  why = w.Memory;
}

-- a distance above 65,536 counts as this
abbrev pub near_edges : Reach → Reach → ℤ → List Edge
near_edges from to (pos zero) = if nat_lt from.op to.op then memory_edge from to 0 ∷ [] else []
near_edges from to (pos (suc d)) = memory_edge from to (min (suc d) 65536) ∷ []
near_edges from to (ℤ.negsuc d) = []

-- at a distance of 0 in the order of the program
abbrev pub edges_at : Reach → Reach → Meeting → List Edge
edges_at from to m.Never = []
edges_at from to (m.At distance) = near_edges from to distance
edges_at from to m.Always = (if nat_lt from.op to.op then memory_edge from to 0 ∷ [] else []) ++ memory_edge from to 1 ∷ []

-- the two are of one array, differ, and are not both loads
abbrev pub is_pair : Reach → Reach → Bool
is_pair from to = from.array.0 == to.array.0 && not (from.op == to.op) && (from.is_store || to.is_store)

abbrev pub memory_edges : Reach → Reach → List Edge
memory_edges from to = if is_pair from to then edges_at from to (distances_between from.subscripts to.subscripts) else []

abbrev pub edges_of_reaches : List Reach → List Edge
edges_of_reaches reaches = gather (λ from. gather (memory_edges from) reaches) reaches

-- all edges of a body
abbrev pub edges_of : Body Untimed → List Edge
edges_of body = op_edges body 0 body.ops.items ++ edges_of_reaches (reaches_from body (sums_of body) 0 body.ops.items)
