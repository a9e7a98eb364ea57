-- The orders of units lead on, by the times at which operations could start and their numbers.
use Rattle.std.proofs.Common.{◌≡◌, ℕ, suc, ◌+◌, ◌*◌, ◌<◌, ◌≤◌, Bool, true, false, true≢false, List, [], ◌∷◌, map, length, refl, sym, ap, subst, ◌∙◌, eq-eqb, eqb-true, cond, filter, arith}
use Rattle.std.specs.Prelude.{◌==◌, if◌then◌else◌, slice_index, slice_index_or, Option, Some, None}
use Rattle.std.specs.List.{All, cons_option}
use Rattle.std.specs.List.Sorted.{IsPermutation}
use Rattle.std.specs.declared.cmp.Ordering.{Ordering}
use Rattle.std.proofs.lemmas.Int.{ints}
use Rattle.std.proofs.lemmas.List.Elements.{All-nil, All-cons, All-head, All-tail, All-append}
use Rattle.std.proofs.lemmas.List.Sorted.{All-permutation}
use Rattle.hls_base.specs.declared.settings.Units.{Units}
use Rattle.ir_core.specs.declared.body.Body.{Body}
use Rattle.ir_core.specs.declared.body.Op.{Op}
use Rattle.ir_core.specs.declared.body.OpKind.{OpKind}
use Rattle.ir_core.specs.declared.body.OpKind.TheVariants as o
use Rattle.ir_core.specs.declared.body.Operand.{Operand}
use Rattle.ir_core.specs.declared.cfg.Memory.{Memory}
use Rattle.ir_core.specs.declared.stamp.Untimed.{Untimed}
use Rattle.ir_core.specs.Timing.{occupancy, unit_class}
use Rattle.ir_core.specs.declared.timing.UnitClass.{UnitClass}
use Rattle.dep_graph.specs.declared.edge.Edge.{Edge}
use Rattle.dep_graph.specs.ForwardBodies.{AreForwardOps, IsForwardBody, IsForwardEdge}
use Rattle.diff_solve.specs.declared.solve.Constraint.{Constraint}
use Rattle.diff_solve.specs.Times.{Meets}
use Rattle.unit_binding.specs.declared.bind.Request.{Request}
use Rattle.unit_binding.specs.declared.binding.Binding.{Binding}
use Rattle.unit_binding.specs.declared.binding.UnitOrder.{UnitOrder}
use Rattle.unit_binding.specs.Binding.{Dealt, order_view, request_of, requests_from, IsBoundBy}
use Rattle.unit_binding.specs.Times.{edge_constraint, edge_constraints, LeadsOn}
use Rattle.unit_binding.specs.Ranks.{RiseBy, IsOrderWithin, AreForwardOrders}
use Rattle.unit_binding.proofs.Serving.{ServesByTime}
use Rattle.unit_binding.proofs.Dealing.{KeysBelow, AllRise, AreInside, AreShort, orders_rise, orders_inside, orders_short}
use Rattle.unit_binding.proofs.Requests.{rank_of, number_ranks, requests_climb, requests_inside}

-- ---- edges within an iteration

chosen_lead : (nodes : ℕ) (b : Bool) (e : Edge) (es : List Edge) → (e.distance == 0) ≡ b → IsForwardEdge nodes e → All (LeadsOn nodes) es → All (LeadsOn nodes) (cond b (e ∷ es) es)
chosen_lead nodes true e es is h rest = All-cons (LeadsOn nodes) e es (h.onward (eqb-true e.distance 0 is), h.to) rest
chosen_lead nodes false e es is h rest = rest

near_lead : (nodes : ℕ) (edges : List Edge) → All (IsForwardEdge nodes) edges → All (LeadsOn nodes) (filter (λ (e : Edge). e.distance == 0) edges)
near_lead nodes [] h = All-nil (LeadsOn nodes)
near_lead nodes (e ∷ es) h =
    chosen_lead nodes (e.distance == 0) e (filter (λ (x : Edge). x.distance == 0) es) refl (All-head (IsForwardEdge nodes) e es h) (near_lead nodes es (All-tail (IsForwardEdge nodes) e es h))

pub within_lead : (nodes : ℕ) (edges within : List Edge) → All (IsForwardEdge nodes) edges → IsPermutation (filter (λ (e : Edge). e.distance == 0) edges) within → All (LeadsOn nodes) within
within_lead nodes edges within h moved = All-permutation (LeadsOn nodes) (filter (λ (e : Edge). e.distance == 0) edges) within moved (near_lead nodes edges h)

module _ (times : List ℕ) where
  -- an edge within an iteration leads to a time that is no earlier
  abbrev LeadsLater : Edge → Type 0
  LeadsLater e = e.distance ≡ 0 → slice_index times e.from ≤ slice_index times e.to

  meets_later : (e : Edge) → Meets times (edge_constraint e) → slice_index times e.from ≤ slice_index times e.to
  meets_later e h = omega (arith, ints, h)

  one_later : (b : Bool) (e : Edge) (cs : List Constraint) → (e.distance == 0) ≡ b → All (Meets times) (cons_option (if b then Some (edge_constraint e) else None) cs) → LeadsLater e × All (Meets times) cs
  one_later true e cs is h = ((λ within. meets_later e (All-head (Meets times) (edge_constraint e) cs h)), All-tail (Meets times) (edge_constraint e) cs h)
  one_later false e cs is h = ((λ within. absurd (true≢false (sym (eq-eqb e.distance 0 within) ∙ is))), h)

  edges_later : (edges : List Edge) → All (Meets times) (edge_constraints edges) → All LeadsLater edges
  edges_later [] h = All-nil LeadsLater
  edges_later (e ∷ es) h = (let k = one_later (e.distance == 0) e (edge_constraints es) refl h in All-cons LeadsLater e es k.0 (edges_later es k.1))

-- ---- how long operations hold their units

occupancy_low : (kind : OpKind) (bits : ℕ) → occupancy kind bits ≤ bits + 2
occupancy_low o.Div bits = omega arith
occupancy_low o.Rem bits = omega arith
occupancy_low kind bits = omega arith

abbrev IsShort : Request → Type 0
IsShort q = q.occupancy < 128

one_short : (p : Option UnitClass) (time op held : ℕ) → held < 128 → All IsShort (request_of p time op held)
one_short None time op held lt = All-nil IsShort
one_short (Some class) time op held lt = All-cons IsShort _ [] lt (All-nil IsShort)

all_short : (times : List ℕ) (memories : List Memory) (test : Option Operand) (k : ℕ) (ops : List (Op Untimed)) → AreForwardOps test k ops → All IsShort (requests_from times memories k ops)
all_short times memories test k [] h = All-nil IsShort
all_short times memories test k (op ∷ ops) h =
    let narrow = h.0.narrow in
    let low = occupancy_low op.kind op.bits in
    All-append IsShort (request_of (unit_class op.kind op.bits op.array memories) (slice_index times (k + 1)) k (occupancy op.kind op.bits)) (requests_from times memories (suc k) ops)
    (one_short (unit_class op.kind op.bits op.array memories) (slice_index times (k + 1)) k (occupancy op.kind op.bits) (omega arith)) (all_short times memories test (suc k) ops h.1)

-- ---- orders

all_rise : (key : ℕ → ℕ) (orders : List UnitOrder) → AllRise key (map order_view orders) → All (λ (order : UnitOrder). RiseBy key order.ops.items) orders
all_rise key [] h = All-nil (λ (order : UnitOrder). RiseBy key order.ops.items)
all_rise key (order ∷ orders) h = All-cons (λ (x : UnitOrder). RiseBy key x.ops.items) order orders h.0 (all_rise key orders h.1)

all_below : (limit : ℕ) (ops : List ℕ) → KeysBelow (λ op. op) limit ops → All (λ op. op < limit) ops
all_below limit [] h = All-nil (λ op. op < limit)
all_below limit (op ∷ ops) h = All-cons (λ x. x < limit) op ops h.0 (all_below limit ops h.1)

all_within : (count : ℕ) (orders : List UnitOrder) → AreInside count (map order_view orders) → AreShort 128 (map order_view orders) → All (IsOrderWithin count) orders
all_within count [] inside short = All-nil (IsOrderWithin count)
all_within count (order ∷ orders) inside short =
    All-cons (IsOrderWithin count) order orders (record { inside = all_below count order.ops.items inside.0; short = (let z = short.0 in omega arith) }) (all_within count orders inside.1 short.1)

pub orders_forward : (order : Request → Request → Ordering) → ServesByTime order → (body : Body Untimed) (memories : List Memory) (edges : List Edge) (units : Units) (binding : Binding) → IsForwardBody body
    → All (IsForwardEdge (length body.ops.items + 1)) edges → IsBoundBy order body memories edges units binding → AreForwardOrders (length body.ops.items) edges binding.orders.items
orders_forward order by_time body memories edges units binding forward leads bound =
    let times : List ℕ = bound.times in
    let count = length body.ops.items in
    let rank : ℕ → ℕ = rank_of times (count + 1) in
    let later = edges_later times edges bound.least.solves.meets in
    let start : slice_index times 0 ≡ 0 = bound.least.solves.start in
    let none : 0 * (count + 1) ≡ 0 = grind arith in
    let first : rank 0 ≡ 0 = ap (λ t. t * (count + 1) + 0) start ∙ (let z : 0 * (count + 1) + 0 ≡ 0 = omega arith in z) in
    let key : ℕ → ℕ = λ op. rank (op + 1) in
    let climb = requests_climb times order by_time count memories body.ops.items bound.requests refl bound.requests_moved bound.requests_sorted in
    let rising : AllRise key (map order_view binding.orders.items) = subst (λ (d : Dealt). AllRise key d.orders) (sym bound.is_dealt) (orders_rise key units count bound.requests climb) in
    let asked = requests_inside times memories body.ops.items bound.requests bound.requests_moved in
    let inside : AreInside count (map order_view binding.orders.items) = subst (λ (d : Dealt). AreInside count d.orders) (sym bound.is_dealt) (orders_inside count units count bound.requests asked) in
    let brief = All-permutation IsShort (requests_from times memories 0 body.ops.items) bound.requests bound.requests_moved (all_short times memories body.test 0 body.ops.items forward.ops) in
    let short : AreShort 128 (map order_view binding.orders.items) = subst (λ (d : Dealt). AreShort 128 d.orders) (sym bound.is_dealt) (orders_short 128 units count bound.requests brief) in
    record {
      leading = (
        rank,
        record {
          first = first;
          each_edge = (λ i d lt within. (let e = slice_index_or edges i d in number_ranks (slice_index times e.from) (slice_index times e.to) (count + 1) e.from e.to (later i d lt within) ((leads i d lt).onward within)));
          each_order = all_rise key binding.orders.items rising;
        },
      );
      within = all_within count binding.orders.items inside short;
    }
