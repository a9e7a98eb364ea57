-- The latencies of the rules of units are the times for which operations hold them.
use Rattle.std.proofs.Common.{◌≡◌, ℕ, zero, suc, ◌+◌, ◌*◌, ◌<◌, ◌≤◌, Bool, true, false, ◌⊎◌, inl, inr, List, [], ◌∷◌, ◌++◌, map, length, refl, sym, ap, subst, ◌∙◌, ltb-true, arith}
use Rattle.std.specs.Prelude.{nat_lt, if◌then◌else◌, slice_index, Option, Some, None}
use Rattle.std.specs.List.{All, sum_by}
use Rattle.std.specs.declared.cmp.Ordering.{Ordering}
use Rattle.std.proofs.lemmas.List.Elements.{All-nil, All-cons, All-head, All-tail, All-append}
use Rattle.std.proofs.lemmas.List.Sorted.{All-permutation, sum_by-IsPermutation}
use Rattle.std.proofs.lemmas.List.Sums.{sum_by-cons, sum_by-append}
use Rattle.hls_base.specs.declared.number.ArrayId.{ArrayId}
use Rattle.hls_base.specs.declared.settings.Units.{Units}
use Rattle.ir_core.specs.declared.body.Body.{Body}
use Rattle.ir_core.specs.declared.body.Op.{Op}
use Rattle.ir_core.specs.declared.body.OpKind.{OpKind}
use Rattle.ir_core.specs.declared.body.OpKind.TheVariants as o
use Rattle.ir_core.specs.declared.cfg.Memory.{Memory}
use Rattle.ir_core.specs.declared.stamp.Untimed.{Untimed}
use Rattle.ir_core.specs.Timing.{occupancy, unit_class, port, is_table}
use Rattle.ir_core.specs.declared.timing.UnitClass.{UnitClass}
use Rattle.ir_core.specs.declared.timing.UnitClass.TheVariants as u
use Rattle.dep_graph.specs.declared.edge.Edge.{Edge}
use Rattle.dep_graph.specs.Dependences.{edges_of}
use Rattle.unit_binding.specs.declared.bind.Request.{Request}
use Rattle.unit_binding.specs.declared.bind.Turn.{Turn}
use Rattle.unit_binding.specs.declared.binding.Binding.{Binding}
use Rattle.unit_binding.specs.declared.binding.UnitOrder.{UnitOrder}
use Rattle.unit_binding.specs.Binding.{Order, Dealt, order_view, is_class, next_unit, opened, longer, given, dealt, first_turn, none_dealt, request_of, requests_from, IsBoundBy}
use Rattle.modulo_loop.specs.Rules.{serves_next, next_rules, again_rules, unit_rules, known_first, known_rules, store_rules, loop_rules}
use Rattle.dep_graph.specs.Dependences.{test_maker}
use Rattle.modulo_loop.specs.Lowest.{total_latency}
use Rattle.clock_runs.specs.IntervalBounds.Bounds.{if_shared, holds, all_latencies}
use Rattle.clock_runs.proofs.IntervalBounds.Numbers.{some_same, no_some}
use Rattle.unit_binding.proofs.Dealing.{class_is}

-- ---- an order's rules

next_total : (held op : ℕ) (ops : List ℕ) → total_latency (next_rules held (op ∷ ops)) ≡ length ops * held
next_total held op [] = (let z : 0 * held ≡ 0 = grind arith in omega arith)
next_total held op (next ∷ ops) =
    let rest = next_total held next ops in
    let first = sum_by-cons (λ (e : Edge). e.latency) (serves_next held op next) (next_rules held (next ∷ ops)) in
    let more : suc (length ops) * held ≡ held + length ops * held = grind arith in
    omega (arith, rest, first, more)

-- how long the operations of an order hold its unit
abbrev order_time : Order → ℕ
order_time order = length order.ops * order.occupancy

order_total : (held : ℕ) (ops : List ℕ) → total_latency (next_rules held ops) + total_latency (again_rules held ops) ≡ length ops * held
order_total held [] = (let z : 0 * held ≡ 0 = grind arith in omega arith)
order_total held (op ∷ ops) =
    let rest = next_total held op ops in
    let more : suc (length ops) * held ≡ held + length ops * held = grind arith in
    omega (arith, rest, more)

abbrev orders_time : List Order → ℕ
orders_time [] = 0
orders_time (order ∷ orders) = order_time order + orders_time orders

units_total : (orders : List UnitOrder) → total_latency (unit_rules orders) ≡ orders_time (map order_view orders)
units_total [] = refl
units_total (order ∷ orders) =
    let next = next_rules order.occupancy order.ops.items in
    let again = again_rules order.occupancy order.ops.items in
    let outer = sum_by-append (λ (e : Edge). e.latency) next (again ++ unit_rules orders) in
    let inner = sum_by-append (λ (e : Edge). e.latency) again (unit_rules orders) in
    omega (arith, outer, inner, order_total order.occupancy order.ops.items, units_total orders)

-- ---- classes

-- how long an operation of the class holds its unit
abbrev held_by : UnitClass → ℕ
held_by (u.Multiplier bits) = 1
held_by (u.Divider bits) = bits + 2
held_by (u.Port array) = 1

port_held : (memories : List Memory) (array : Option ArrayId) (c : UnitClass) → port memories array ≡ Some c → 1 ≡ held_by c
port_held memories None c e = absurd (no_some e)
port_held memories (Some a) c e = by_table (is_table memories a) a c e
  where
    by_table : (b : Bool) (a : ArrayId) (c : UnitClass) → (if b then None else Some (u.Port a)) ≡ Some c → 1 ≡ held_by c
    by_table true a c e = absurd (no_some e)
    by_table false a c e = ap held_by (some_same e)

class_held : (kind : OpKind) (bits : ℕ) (array : Option ArrayId) (memories : List Memory) (c : UnitClass) → unit_class kind bits array memories ≡ Some c → occupancy kind bits ≡ held_by c
class_held o.Mul bits array memories c e = ap held_by (some_same e)
class_held o.Div bits array memories c e = ap held_by (some_same e)
class_held o.Rem bits array memories c e = ap held_by (some_same e)
class_held o.Load bits array memories c e = port_held memories array c e
class_held o.Store bits array memories c e = port_held memories array c e
class_held kind bits array memories c e = absurd (no_some e)

-- ---- dealing

abbrev held_at : List Order → ℕ → ℕ
held_at [] i = 0
held_at (o ∷ os) zero = o.occupancy
held_at (o ∷ os) (suc i) = held_at os i

longer_time : (os : List Order) (index op : ℕ) → index < length os → orders_time (longer os index op) ≡ orders_time os + held_at os index
longer_time [] index op lt = absurd (omega arith)
longer_time (o ∷ os) zero op lt =
    let long : length (o.ops ++ op ∷ []) ≡ suc (length o.ops) = one_longer o.ops op in
    let more : suc (length o.ops) * o.occupancy ≡ o.occupancy + length o.ops * o.occupancy = grind arith in
    let same : length (o.ops ++ op ∷ []) * o.occupancy ≡ suc (length o.ops) * o.occupancy = ap (λ n. n * o.occupancy) long in
    omega (arith, more, same)
  where
    one_longer : (xs : List ℕ) (x : ℕ) → length (xs ++ x ∷ []) ≡ suc (length xs)
    one_longer [] x = refl
    one_longer (y ∷ xs) x = ap suc (one_longer xs x)
longer_time (o ∷ os) (suc index) op lt = (let rest = longer_time os index op (omega arith) in omega arith)

longer_held : (os : List Order) (index op i : ℕ) → held_at (longer os index op) i ≡ held_at os i
longer_held [] index op i = refl
longer_held (o ∷ os) zero op zero = refl
longer_held (o ∷ os) zero op (suc i) = refl
longer_held (o ∷ os) (suc index) op zero = refl
longer_held (o ∷ os) (suc index) op (suc i) = longer_held os index op i

longer_length : (os : List Order) (index op : ℕ) → length (longer os index op) ≡ length os
longer_length [] index op = refl
longer_length (o ∷ os) zero op = refl
longer_length (o ∷ os) (suc index) op = ap suc (longer_length os index op)

new_time : (os : List Order) (o : Order) → orders_time (os ++ o ∷ []) ≡ orders_time os + order_time o
new_time [] o = omega arith
new_time (p ∷ os) o = omega (arith, new_time os o)

new_held : (os : List Order) (o : Order) (i : ℕ) → i < length (os ++ o ∷ []) → ((i < length os) × (held_at (os ++ o ∷ []) i ≡ held_at os i)) ⊎ (held_at (os ++ o ∷ []) i ≡ o.occupancy)
new_held [] o zero lt = inr refl
new_held [] o (suc i) lt = absurd (omega arith)
new_held (p ∷ os) o zero lt = inl (omega arith, refl)
new_held (p ∷ os) o (suc i) lt = elim (new_held os o i (omega arith)) [ inl old ↦ inl ((let z = old.0 in omega arith), old.1) | inr new ↦ inr new ]

-- the orders from this one on hold their units for this time
abbrev AreHeld : List Order → ℕ → ℕ → Type 0
AreHeld orders first time = (i : ℕ) → first ≤ i → i < length orders → held_at orders i ≡ time

-- one more operation that holds its unit for this time
record IsStep (old new : List Order) (first time : ℕ) : Type 0 where
  held : AreHeld new first time
  sum : orders_time new ≡ orders_time old + time

served_step : (os : List Order) (index unit first time : ℕ) (q : Request) → AreHeld os first time → q.occupancy ≡ time → first ≤ index → (b : Bool) → nat_lt index (length os) ≡ b
    → IsStep os (if b then longer os index q.op else os ++ record { unit = unit; occupancy = q.occupancy; ops = q.op ∷ [] } ∷ []) first time
served_step os index unit first time q held is le true e =
    let lt = ltb-true index (length os) e in
    let long = longer_length os index q.op in
    record {
      held = λ i from upto. longer_held os index q.op i ∙ held i from (omega arith);
      sum = (let z = longer_time os index q.op lt in let same = held index le lt in omega arith);
    }
served_step os index unit first time q held is le false e =
    let o : Order = record { unit = unit; occupancy = q.occupancy; ops = q.op ∷ [] } in
    record {
      held = λ i from upto. elim (new_held os o i upto) [ inl old ↦ old.1 ∙ held i from old.0 | inr new ↦ new ∙ is ];
      sum = (let z = new_time os o in let once : 1 * q.occupancy ≡ q.occupancy = grind arith in omega arith);
    }

-- the orders of the class that is served now hold their units for its time
abbrev IsServing : List Order → ℕ → Option UnitClass → Type 0
IsServing orders first class = (c : UnitClass) → class ≡ Some c → AreHeld orders first (held_by c)

abbrev IsTimely : Request → Type 0
IsTimely q = q.occupancy ≡ held_by q.class

module _ (orders : List Order) (turn : Turn) (q : Request) (serving : IsServing orders turn.first turn.class) where
  turned_held : (b : Bool) → is_class turn.class q.class ≡ b → AreHeld orders (if b then turn else record { class = Some q.class; first = length orders; unit = 0 }).first (held_by q.class)
  turned_held true e = serving q.class (class_is turn.class q.class e)
  turned_held false e = λ i from upto. absurd (omega arith)

  turned_class : (b : Bool) → is_class turn.class q.class ≡ b → (if b then turn else record { class = Some q.class; first = length orders; unit = 0 }).class ≡ Some q.class
  turned_class true e = class_is turn.class q.class e
  turned_class false e = refl

dealt_time : (units : Units) (d : Dealt) (turn : Turn) (requests : List Request) → IsServing d.orders turn.first turn.class → All IsTimely requests
    → orders_time (dealt units d turn requests).orders ≡ orders_time d.orders + sum_by (λ (q : Request). q.occupancy) requests
dealt_time units d turn [] serving timely = omega arith
dealt_time units d turn (q ∷ qs) serving timely =
    let now = opened turn q.class (length d.orders) in
    let test = is_class turn.class q.class in
    let held : AreHeld d.orders now.first (held_by q.class) = turned_held d.orders turn q serving test refl in
    let is : now.class ≡ Some q.class = turned_class d.orders turn q serving test refl in
    let own : IsTimely q = All-head IsTimely q qs timely in
    let step = served_step d.orders (now.first + now.unit) now.unit now.first (held_by q.class) q held own (omega arith) (nat_lt (now.first + now.unit) (length d.orders)) refl in
    let next : IsServing (given d now q).orders now.first now.class = (λ c e. subst (λ x. AreHeld (given d now q).orders now.first (held_by x)) (some_same (sym is ∙ e)) step.held) in
    let rest = dealt_time units (given d now q) (record { class = now.class; first = now.first; unit = next_unit units q.class now.unit }) qs next (All-tail IsTimely q qs timely) in
    let split = sum_by-cons (λ (r : Request). r.occupancy) q qs in
    let more = step.sum in
    omega (arith, rest, split, more, own)

-- ---- requests

module _ (times : List ℕ) (memories : List Memory) where
  abbrev class_of : Op Untimed → Option UnitClass
  class_of op = unit_class op.kind op.bits op.array memories

  one_timely : (time k held : ℕ) (p : Option UnitClass) → ((c : UnitClass) → p ≡ Some c → held ≡ held_by c) → All IsTimely (request_of p time k held)
  one_timely time k held None h = All-nil IsTimely
  one_timely time k held (Some c) h = All-cons IsTimely _ [] (h c refl) (All-nil IsTimely)

  all_timely : (k : ℕ) (ops : List (Op Untimed)) → All IsTimely (requests_from times memories k ops)
  all_timely k [] = All-nil IsTimely
  all_timely k (op ∷ ops) =
      All-append IsTimely (request_of (class_of op) (slice_index times (k + 1)) k (occupancy op.kind op.bits)) (requests_from times memories (suc k) ops)
      (one_timely (slice_index times (k + 1)) k (occupancy op.kind op.bits) (class_of op) (class_held op.kind op.bits op.array memories)) (all_timely (suc k) ops)

  one_time : (time k held : ℕ) (p : Option UnitClass) → sum_by (λ (q : Request). q.occupancy) (request_of p time k held) ≡ if_shared p held
  one_time time k held None = refl
  one_time time k held (Some c) = omega arith

  all_time : (k : ℕ) (ops : List (Op Untimed)) → sum_by (λ (q : Request). q.occupancy) (requests_from times memories k ops) ≡ sum_by (holds memories) ops
  all_time k [] = refl
  all_time k (op ∷ ops) =
      let first = request_of (class_of op) (slice_index times (k + 1)) k (occupancy op.kind op.bits) in
      let split = sum_by-append (λ (q : Request). q.occupancy) first (requests_from times memories (suc k) ops) in
      let here = one_time (slice_index times (k + 1)) k (occupancy op.kind op.bits) (class_of op) in
      let cons = sum_by-cons (holds memories) op ops in
      omega (arith, split, here, cons, all_time (suc k) ops)

-- ---- all rules

pub rules_total : (order : Request → Request → Ordering) (body : Body Untimed) (memories : List Memory) (units : Units) (binding : Binding)
    → IsBoundBy order body memories (edges_of body) units binding → total_latency (loop_rules body (edges_of body) binding.orders.items) ≡ all_latencies memories body
rules_total order body memories units binding bound =
    let known = known_rules body.ops.items (known_first body.outs.items body.test) in
    let stores = store_rules body.ops.items (test_maker body.test) in
    let rules = unit_rules binding.orders.items in
    let f : Edge → ℕ = λ e. e.latency in
    let asked = requests_from bound.times memories 0 body.ops.items in
    let timely = All-permutation IsTimely asked bound.requests bound.requests_moved (all_timely bound.times memories 0 body.ops.items) in
    let start : Dealt = none_dealt (length body.ops.items) in
    let served = dealt_time units start first_turn bound.requests (λ c e. absurd (no_some e)) timely in
    let same : orders_time (map order_view binding.orders.items) ≡ orders_time (dealt units start first_turn bound.requests).orders = ap (λ (d : Dealt). orders_time d.orders) bound.is_dealt in
    let moved = sum_by-IsPermutation (λ (q : Request). q.occupancy) asked bound.requests bound.requests_moved in
    let each = all_time bound.times memories 0 body.ops.items in
    let whole = units_total binding.orders.items in
    let outer = sum_by-append f (edges_of body) (rules ++ (known ++ stores)) in
    let middle = sum_by-append f rules (known ++ stores) in
    let inner = sum_by-append f known stores in
    omega (arith, served, same, moved, each, whole, outer, middle, inner)
