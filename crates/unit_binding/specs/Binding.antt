-- Which unit serves which operation, and in which order.
use Rattle.std.specs.Prelude.{◌≡◌, ℕ, zero, suc, ◌+◌, ◌==◌, nat_lt, Bool, false, if◌then◌else◌, List, [], ◌∷◌, ◌++◌, map, length, replicate, slice_index, slice_set, Option, Some, None}
use Rattle.std.specs.declared.cmp.Ordering.{Ordering}
use Rattle.std.specs.List.Sorted.{IsPermutation, IsSorted}
use Rattle.hls_base.specs.declared.settings.Units.{Units}
use Rattle.ir_core.specs.declared.body.Body.{Body}
use Rattle.ir_core.specs.declared.body.Op.{Op}
use Rattle.ir_core.specs.declared.cfg.Memory.{Memory}
use Rattle.ir_core.specs.declared.stamp.Untimed.{Untimed}
use Rattle.ir_core.specs.declared.timing.UnitClass.{UnitClass}
use Rattle.ir_core.specs.declared.timing.UnitClass.TheVariants as u
use Rattle.ir_core.specs.Timing.{unit_class, occupancy}
use Rattle.dep_graph.specs.declared.edge.Edge.{Edge}
use Rattle.unit_binding.specs.declared.binding.Binding.{Binding}
use Rattle.unit_binding.specs.declared.binding.UnitOrder.{UnitOrder}
use Rattle.unit_binding.specs.declared.bind.Request.{Request}
use Rattle.unit_binding.specs.declared.bind.Turn.{Turn}
use Rattle.unit_binding.specs.Times.{AreLeastTimes}

abbrev pub request_of : Option UnitClass → ℕ → ℕ → ℕ → List Request
request_of None time op held = []
request_of (Some class) time op held = record { class = class; time = time; op = op; occupancy = held } ∷ []

-- the operations that share units, of these operations, of which the first has the number k and is node k + 1
abbrev pub requests_from : List ℕ → List Memory → ℕ → List (Op Untimed) → List Request
requests_from times memories k [] = []
requests_from times memories k (op ∷ ops) =
    request_of (unit_class op.kind op.bits op.array memories) (slice_index times (k + 1)) k (occupancy op.kind op.bits)
    ++ requests_from times memories (suc k) ops

-- how many units a class has, at least one
abbrev pub at_least_one : ℕ → ℕ
at_least_one n = if nat_lt n 1 then 1 else n

abbrev pub unit_count : Units → UnitClass → ℕ
unit_count units (u.Multiplier bits) = at_least_one units.mul
unit_count units (u.Divider bits) = at_least_one units.div
unit_count units (u.Port array) = at_least_one units.ports

abbrev pub same_class : UnitClass → UnitClass → Bool
same_class (u.Multiplier x) (u.Multiplier y) = x == y
same_class (u.Multiplier x) (u.Divider y) = false
same_class (u.Multiplier x) (u.Port y) = false
same_class (u.Divider x) (u.Multiplier y) = false
same_class (u.Divider x) (u.Divider y) = x == y
same_class (u.Divider x) (u.Port y) = false
same_class (u.Port x) (u.Multiplier y) = false
same_class (u.Port x) (u.Divider y) = false
same_class (u.Port x) (u.Port y) = x.0 == y.0

abbrev pub is_class : Option UnitClass → UnitClass → Bool
is_class None class = false
is_class (Some other) class = same_class other class

-- the operations of one unit
pub record Order : Type 0 where
  pub unit : ℕ
  pub occupancy : ℕ
  pub ops : List ℕ

abbrev pub order_view : UnitOrder → Order
order_view order = record { unit = order.unit; occupancy = order.occupancy; ops = order.ops.items }

-- the units of the operations, and the orders
pub record Dealt : Type 0 where
  pub unit_of : List ℕ
  pub orders : List Order

abbrev pub binding_view : Binding → Dealt
binding_view b = record { unit_of = b.unit_of.items; orders = map order_view b.orders.items }

-- the next operation of the class gets this unit, and the orders of the class begin at `first`
abbrev pub first_turn : Turn
first_turn = record { class = None; first = 0; unit = 0 }

abbrev pub opened : Turn → UnitClass → ℕ → Turn
opened turn class count = if is_class turn.class class then turn else record { class = Some class; first = count; unit = 0 }

abbrev pub next_unit : Units → UnitClass → ℕ → ℕ
next_unit units class unit = if nat_lt (unit + 1) (unit_count units class) then unit + 1 else 0

-- the order of this number, with another operation behind its own
abbrev pub longer : List Order → ℕ → ℕ → List Order
longer [] k op = []
longer (o ∷ os) zero op = record { unit = o.unit; occupancy = o.occupancy; ops = o.ops ++ op ∷ [] } ∷ os
longer (o ∷ os) (suc k) op = o ∷ longer os k op

abbrev pub served : List Order → ℕ → ℕ → Request → List Order
served orders index unit request =
    if nat_lt index (length orders) then longer orders index request.op
    else orders ++ record { unit = unit; occupancy = request.occupancy; ops = request.op ∷ [] } ∷ []

abbrev pub given : Dealt → Turn → Request → Dealt
given d turn request = record {
  unit_of = slice_set d.unit_of request.op turn.unit;
  orders = served d.orders (turn.first + turn.unit) turn.unit request;
}

-- the operations of a class go to its units in turn
abbrev pub dealt : Units → Dealt → Turn → List Request → Dealt
dealt units d turn [] = d
dealt units d turn (request ∷ requests) =
    let now = opened turn request.class (length d.orders) in
    dealt units (given d now request) (record { class = now.class; first = now.first; unit = next_unit units request.class now.unit }) requests

abbrev pub none_dealt : ℕ → Dealt
none_dealt ops = record { unit_of = replicate ops 0; orders = [] }

-- The operations that share units, sorted by an order, are dealt out in this order. It is that of their fields: class, least time under the edges within an iteration, and number.
pub record IsBoundBy (order : Request → Request → Ordering) (body : Body Untimed) (memories : List Memory) (edges : List Edge) (units : Units) (binding : Binding) : Type 0 where
  pub times : List ℕ
  pub least : AreLeastTimes (length body.ops.items + 1) edges times
  pub requests : List Request
  pub requests_moved : IsPermutation (requests_from times memories 0 body.ops.items) requests
  pub requests_sorted : IsSorted order requests
  pub is_dealt : binding_view binding ≡ dealt units (none_dealt (length body.ops.items)) first_turn requests
