-- The constraints of a loop whose iterations overlap, as edges.
use Rattle.std.specs.Prelude.{ℕ, suc, ◌+◌, ◌*◌, Bool, true, false, List, [], ◌∷◌, ◌++◌, map, length, slice_index, slice_get, Option, None, Some, pos, ◌-ℤ◌, ◌==◌, if◌then◌else◌}
use Rattle.ir_core.specs.declared.body.Op.{Op}
use Rattle.ir_core.specs.declared.body.Operand.{Operand}
use Rattle.ir_core.specs.declared.body.Out.{Out}
use Rattle.ir_core.specs.declared.body.Body.{Body}
use Rattle.ir_core.specs.declared.body.Source.{Source}
use Rattle.ir_core.specs.declared.body.Source.TheVariants as s
use Rattle.ir_core.specs.declared.stamp.Untimed.{Untimed}
use Rattle.hls_base.specs.declared.number.OpId.{OpId}
use Rattle.dep_graph.specs.Dependences.{test_maker}
use Rattle.dep_graph.specs.Meetings.{is_store}
use Rattle.dep_graph.specs.Offsets.{result_of}
use Rattle.dep_graph.specs.declared.edge.Edge.{Edge}
use Rattle.dep_graph.specs.declared.edge.Why.TheVariants as w
use Rattle.unit_binding.specs.declared.binding.UnitOrder.{UnitOrder}
use Rattle.diff_solve.specs.declared.solve.Constraint.{Constraint}
use Rattle.ir_core.specs.Timing.{latency}

abbrev pub latency_at : Option (Op Untimed) → ℕ
latency_at None = 0
latency_at (Some op) = latency op.kind op.bits

abbrev pub latency_of : List (Op Untimed) → OpId → ℕ
latency_of ops op = latency_at (slice_get ops op.0)

abbrev pub result_or : Option OpId → Option OpId → Option OpId
result_or (Some op) other = Some op
result_or None other = other

-- the operation whose result a variable takes over
abbrev pub maker : ℕ → List Out → Option OpId
maker variable [] = None
maker variable (out ∷ outs) =
    if out.variable.0 == variable then result_or (result_of out.value.value) (maker variable outs) else maker variable outs

-- the operation whose result must be known before the next iteration begins
abbrev pub known_source : List Out → Source → Option OpId
known_source outs (s.Result op) = Some op
known_source outs (s.Variable v) = maker v.0 outs
known_source outs (s.Constant v) = None

abbrev pub known_first : List Out → Option Operand → Option OpId
known_first outs None = None
known_first outs (Some test) = known_source outs test.value

-- operation k is node k + 1
abbrev pub serves_next : ℕ → ℕ → ℕ → Edge
serves_next occupancy before after =
    record { from = before + 1; to = after + 1; latency = occupancy; distance = 0; why = w.Unit }

-- a unit serves each operation as soon as it is done with the one before
abbrev pub next_rules : ℕ → List ℕ → List Edge
next_rules occupancy [] = []
next_rules occupancy (op ∷ []) = []
next_rules occupancy (op ∷ next ∷ ops) = serves_next occupancy op next ∷ next_rules occupancy (next ∷ ops)

-- and the first of the next iteration as soon as it is done with the last
abbrev pub again_rules : ℕ → List ℕ → List Edge
again_rules occupancy [] = []
again_rules occupancy (op ∷ ops) =
    record { from = slice_index (op ∷ ops) (length ops) + 1; to = op + 1; latency = occupancy; distance = 1; why = w.Unit } ∷ []

abbrev pub unit_rules : List UnitOrder → List Edge
unit_rules [] = []
unit_rules (order ∷ orders) =
    next_rules order.occupancy order.ops.items ++ (again_rules order.occupancy order.ops.items ++ unit_rules orders)

-- the test is known before the next iteration begins
abbrev pub known_rules : List (Op Untimed) → Option OpId → List Edge
known_rules ops None = []
known_rules ops (Some op) =
    record { from = op.0 + 1; to = 0; latency = latency_of ops op; distance = 1; why = w.Known } ∷ []

-- each store from operation k on starts after the test
abbrev pub store_rules_from : ℕ → ℕ → ℕ → List (Op Untimed) → List Edge
store_rules_from test lat k [] = []
store_rules_from test lat k (op ∷ ops) =
    if is_store op.kind
    then record { from = test + 1; to = k + 1; latency = lat; distance = 0; why = w.Control } ∷ store_rules_from test lat (suc k) ops
    else store_rules_from test lat (suc k) ops

abbrev pub store_rules : List (Op Untimed) → Option OpId → List Edge
store_rules ops None = []
store_rules ops (Some test) = store_rules_from test.0 (latency_of ops test) 0 ops

abbrev pub loop_rules : Body Untimed → List Edge → List UnitOrder → List Edge
loop_rules body edges orders =
    edges ++ (unit_rules orders ++ (known_rules body.ops.items (known_first body.outs.items body.test) ++ store_rules body.ops.items (test_maker body.test)))

-- a rule as a constraint, where an iteration begins each ii cycles
abbrev pub at_interval : ℕ → Edge → Constraint
at_interval ii rule = record { from = rule.from; to = rule.to; weight = pos rule.latency -ℤ pos (ii * rule.distance) }

abbrev pub constraints_at : ℕ → List Edge → List Constraint
constraints_at ii rules = map (at_interval ii) rules
