-- Rules of a loop name nodes of its body.
use Rattle.std.proofs.Common.{◌≡◌, ℕ, zero, suc, ◌+◌, ◌<◌, Bool, true, false, List, [], ◌∷◌, ◌++◌, map, length, refl, sym, subst, ℤ, pos, arith}
use Rattle.std.specs.Prelude.{nat_lt, if◌then◌else◌, slice_index, slice_index_or, slice_get, Option, Some, None, option_to_list, min}
use Rattle.std.specs.List.{All}
use Rattle.std.specs.declared.cmp.Ordering.{Ordering}
use Rattle.std.proofs.lemmas.List.Elements.{All-nil, All-cons, All-head, All-tail, All-append}
use Rattle.hls_base.specs.declared.number.ArrayId.{ArrayId}
use Rattle.hls_base.specs.declared.number.OpId.{OpId}
use Rattle.hls_base.specs.declared.settings.Units.{Units}
use Rattle.ir_core.specs.declared.body.Body.{Body}
use Rattle.ir_core.specs.declared.body.Op.{Op}
use Rattle.ir_core.specs.declared.body.OpKind.TheVariants as o
use Rattle.ir_core.specs.declared.body.Operand.{Operand}
use Rattle.ir_core.specs.declared.cfg.Memory.{Memory}
use Rattle.ir_core.specs.declared.stamp.Untimed.{Untimed}
use Rattle.dep_graph.specs.declared.access.Meeting.{Meeting}
use Rattle.dep_graph.specs.declared.access.Meeting.TheVariants as m
use Rattle.dep_graph.specs.declared.counter.Sum.{Sum}
use Rattle.dep_graph.specs.declared.edge.Edge.{Edge}
use Rattle.dep_graph.specs.declared.edge.Why.{Why}
use Rattle.dep_graph.specs.declared.edge.Why.TheVariants as w
use Rattle.dep_graph.specs.Offsets.{nth, sums_of}
use Rattle.dep_graph.specs.Meetings as meetings
use Rattle.dep_graph.specs.Meetings.{Reach, reach_of, reaches_from, distances_between}
use Rattle.dep_graph.specs.Dependences as graph
use Rattle.unit_binding.specs.declared.bind.Request.{Request}
use Rattle.unit_binding.specs.declared.binding.Binding.{Binding}
use Rattle.unit_binding.specs.declared.binding.UnitOrder.{UnitOrder}
use Rattle.unit_binding.specs.Binding.{Dealt, order_view, IsBoundBy}
use Rattle.modulo_loop.specs.Rules.{latency_of, serves_next, next_rules, again_rules, unit_rules, known_first, known_rules, store_rules_from, store_rules, loop_rules}
use Rattle.dep_graph.specs.Meetings.{is_store}
use Rattle.dep_graph.specs.Dependences.{test_maker}
use Rattle.clock_runs.specs.IntervalBounds.Forward.{NameNodesBelow}
use Rattle.clock_runs.proofs.IntervalBounds.Bodies.{IsEarlier, IsForwardBody}
use Rattle.clock_runs.proofs.IntervalBounds.Numbers.{no_some, store_is}
use Rattle.unit_binding.proofs.Dealing.{KeysBelow, AreInside, orders_inside}
use Rattle.unit_binding.proofs.Requests.{requests_inside}
use Rattle.clock_runs.proofs.IntervalBounds.Rules.{get_within}

-- an edge names nodes below this number
abbrev IsInside : ℕ → Edge → Type 0
IsInside nodes e = (e.from < nodes) × (e.to < nodes)

nth_within : {A : Type 0} (xs : List A) (k : ℕ) (x : A) → nth xs k ≡ Some x → k < length xs
nth_within [] k x e = absurd (no_some e)
nth_within (y ∷ xs) zero x e = omega arith
nth_within (y ∷ xs) (suc k) x e = (let h = nth_within xs k x e in omega arith)

module _ (nodes : ℕ) where
  abbrev Inside : Edge → Type 0
  Inside = IsInside nodes

  one : (e : Edge) → Inside e → All Inside (e ∷ [])
  one e h = All-cons Inside e [] h (All-nil Inside)

  gathered : {A : Type 0} (f : A → List Edge) (xs : List A) → All (λ x. All Inside (f x)) xs → All Inside (graph.gather f xs)
  gathered f [] h = All-nil Inside
  gathered f (x ∷ xs) h = All-append Inside (f x) (graph.gather f xs) (All-head (λ y. All Inside (f y)) x xs h) (gathered f xs (All-tail (λ y. All Inside (f y)) x xs h))

-- ---- edges

module _ (body : Body Untimed) where
  abbrev Within : Edge → Type 0
  Within = IsInside (length body.ops.items + 1)

  behind_within : (from to distance : ℕ) (p : Option (Op Untimed)) (why : Why) → nth body.ops.items from ≡ p → to < length body.ops.items + 1 → All Within (graph.edge_behind from p to distance why)
  behind_within from to distance None why e lt = All-nil Within
  behind_within from to distance (Some op) why e lt = (let z = nth_within body.ops.items from op e in one (length body.ops.items + 1) _ (omega arith, lt))

  edges_within : (p : Option OpId) (to distance : ℕ) (why : Why) → to < length body.ops.items + 1 → All Within (graph.edges_behind body.ops.items p to distance why)
  edges_within None to distance why lt = All-nil Within
  edges_within (Some op) to distance why lt = behind_within op.0 to distance (nth body.ops.items op.0) why refl lt

  all_within : (to : ℕ) (xs : List Operand) → to < length body.ops.items + 1 → All Within (graph.gather (graph.data_edge body to) xs)
  all_within to xs lt =
      gathered (length body.ops.items + 1) (graph.data_edge body to) xs (λ i d l. (let x = slice_index_or xs i d in edges_within (graph.maker_of body.outs.items x) to x.distance w.Data lt))

  control_within : (to : ℕ) (b : Bool) → to < length body.ops.items + 1 → All Within (if b then graph.edges_behind body.ops.items (graph.test_maker body.test) to 0 w.Control else [])
  control_within to true lt = edges_within (graph.test_maker body.test) to 0 w.Control lt
  control_within to false lt = All-nil Within

  ops_within : (k : ℕ) (ops : List (Op Untimed)) → k + length ops ≡ length body.ops.items → All Within (graph.op_edges body k ops)
  ops_within k [] e = All-nil Within
  ops_within k (op ∷ ops) e =
      let args = graph.gather (graph.data_edge body (k + 1)) op.args.items in
      let guards = graph.gather (graph.data_edge body (k + 1)) (option_to_list op.guard) in
      let waits = graph.control_edges body (k + 1) op in
      All-append Within ((args ++ guards) ++ waits) (graph.op_edges body (suc k) ops)
      (All-append Within (args ++ guards) waits
      (All-append Within args guards (all_within (k + 1) op.args.items (omega arith)) (all_within (k + 1) (option_to_list op.guard) (omega arith)))
      (control_within (k + 1) (meetings.is_store op.kind) (omega arith)))
      (ops_within (suc k) ops (omega arith))

  -- ---- accesses

  -- an access is of an operation of the body
  abbrev IsReached : Reach → Type 0
  IsReached r = r.op < length body.ops.items

  reach_within : (sums : List (Option Sum)) (k : ℕ) (op : Op Untimed) (p : Option ArrayId) → k < length body.ops.items → All IsReached (reach_of body sums k op p)
  reach_within sums k op None lt = All-nil IsReached
  reach_within sums k op (Some array) lt = All-cons IsReached _ [] lt (All-nil IsReached)

  reaches_within : (sums : List (Option Sum)) (k : ℕ) (ops : List (Op Untimed)) → k + length ops ≡ length body.ops.items → All IsReached (reaches_from body sums k ops)
  reaches_within sums k [] e = All-nil IsReached
  reaches_within sums k (op ∷ ops) e = All-append IsReached (reach_of body sums k op op.array) (reaches_from body sums (suc k) ops) (reach_within sums k op op.array (omega arith)) (reaches_within sums (suc k) ops (omega arith))

  memory_within : (from to : Reach) (distance : ℕ) → IsReached from → IsReached to → All Within (graph.memory_edge from to distance ∷ [])
  memory_within from to distance f t = one (length body.ops.items + 1) (graph.memory_edge from to distance) (omega arith, omega arith)

  later_within : (from to : Reach) (b : Bool) → IsReached from → IsReached to → All Within (if b then graph.memory_edge from to 0 ∷ [] else [])
  later_within from to true f t = memory_within from to 0 f t
  later_within from to false f t = All-nil Within

  near_within : (from to : Reach) (distance : ℤ) → IsReached from → IsReached to → All Within (graph.near_edges from to distance)
  near_within from to (pos zero) f t = later_within from to (nat_lt from.op to.op) f t
  near_within from to (pos (suc d)) f t = memory_within from to (min (suc d) 65536) f t
  near_within from to (ℤ.negsuc d) f t = All-nil Within

  meeting_within : (from to : Reach) (meeting : Meeting) → IsReached from → IsReached to → All Within (graph.edges_at from to meeting)
  meeting_within from to m.Never f t = All-nil Within
  meeting_within from to (m.At distance) f t = near_within from to distance f t
  meeting_within from to m.Always f t =
      All-append Within (if nat_lt from.op to.op then graph.memory_edge from to 0 ∷ [] else []) (graph.memory_edge from to 1 ∷ []) (later_within from to (nat_lt from.op to.op) f t) (memory_within from to 1 f t)

  pair_within : (from to : Reach) (b : Bool) → IsReached from → IsReached to → All Within (if b then graph.edges_at from to (distances_between from.subscripts to.subscripts) else [])
  pair_within from to true f t = meeting_within from to (distances_between from.subscripts to.subscripts) f t
  pair_within from to false f t = All-nil Within

  accesses_within : (reaches : List Reach) → All IsReached reaches → All Within (graph.edges_of_reaches reaches)
  accesses_within reaches all =
      gathered (length body.ops.items + 1) (λ from. graph.gather (graph.memory_edges from) reaches) reaches
      (λ i d lt. (let from = slice_index_or reaches i d in
      gathered (length body.ops.items + 1) (graph.memory_edges from) reaches (λ j e le. (let to = slice_index_or reaches j e in pair_within from to (graph.is_pair from to) (all i d lt) (all j e le)))))

  edges_inside : All Within (graph.edges_of body)
  edges_inside =
      let reaches = reaches_from body (sums_of body) 0 body.ops.items in
      All-append Within (graph.op_edges body 0 body.ops.items) (graph.edges_of_reaches reaches)
      (ops_within 0 body.ops.items (omega arith)) (accesses_within reaches (reaches_within (sums_of body) 0 body.ops.items (omega arith)))

  -- ---- further rules

  stores_within : (test : OpId) (lat k : ℕ) (ops : List (Op Untimed)) → k + length ops ≡ length body.ops.items → ((i : ℕ) (op : Op Untimed) → slice_get ops i ≡ Some op → op.kind ≡ o.Store → test.0 < length body.ops.items) → All Within (store_rules_from test.0 lat k ops)
  stores_within test lat k [] e h = All-nil Within
  stores_within test lat k (op ∷ ops) e h =
      one_store (is_store op.kind) (λ s. h 0 op refl (store_is op.kind s)) (stores_within test lat (suc k) ops (omega arith) (λ i p f. h (suc i) p f))
    where
      one_store : (b : Bool) → (b ≡ true → test.0 < length body.ops.items) → All Within (store_rules_from test.0 lat (suc k) ops)
          → All Within (if b then record { from = test.0 + 1; to = k + 1; latency = lat; distance = 0; why = w.Control } ∷ store_rules_from test.0 lat (suc k) ops else store_rules_from test.0 lat (suc k) ops)
      one_store true inside rest = (let z = inside refl in All-cons Within _ (store_rules_from test.0 lat (suc k) ops) (omega arith, omega arith) rest)
      one_store false inside rest = rest

  tests_within : (p : Option OpId) → ((k : ℕ) (op : Op Untimed) → slice_get body.ops.items k ≡ Some op → op.kind ≡ o.Store → IsEarlier k p) → All Within (store_rules body.ops.items p)
  tests_within None h = All-nil Within
  tests_within (Some test) h = stores_within test (latency_of body.ops.items test) 0 body.ops.items (omega arith) (λ i op e store. (let early = h i op e store in let inside = get_within body.ops.items i op e in omega arith))

  known_within : (p : Option OpId) → IsEarlier (length body.ops.items) p → All Within (known_rules body.ops.items p)
  known_within None h = All-nil Within
  known_within (Some op) h = one (length body.ops.items + 1) _ (omega arith, omega arith)

-- ---- units

module _ (count : ℕ) where
  abbrev Among : Edge → Type 0
  Among = IsInside (count + 1)

  next_among : (held : ℕ) (ops : List ℕ) → KeysBelow (λ op. op) count ops → All Among (next_rules held ops)
  next_among held [] h = All-nil Among
  next_among held (op ∷ []) h = All-nil Among
  next_among held (op ∷ next ∷ ops) h =
      (let a = h.0 in let b = h.1.0 in All-cons Among (serves_next held op next) (next_rules held (next ∷ ops)) (omega arith, omega arith) (next_among held (next ∷ ops) h.1))

  last_among : (op : ℕ) (ops : List ℕ) → KeysBelow (λ x. x) count (op ∷ ops) → slice_index (op ∷ ops) (length ops) < count
  last_among op [] h = h.0
  last_among op (next ∷ ops) h = last_among next ops h.1

  again_among : (held : ℕ) (ops : List ℕ) → KeysBelow (λ op. op) count ops → All Among (again_rules held ops)
  again_among held [] h = All-nil Among
  again_among held (op ∷ ops) h = (let last = last_among op ops h in let first = h.0 in one (count + 1) _ (omega arith, omega arith))

  units_among : (orders : List UnitOrder) → AreInside count (map order_view orders) → All Among (unit_rules orders)
  units_among [] h = All-nil Among
  units_among (order ∷ orders) h =
      All-append Among (next_rules order.occupancy order.ops.items) (again_rules order.occupancy order.ops.items ++ unit_rules orders) (next_among order.occupancy order.ops.items h.0)
      (All-append Among (again_rules order.occupancy order.ops.items) (unit_rules orders) (again_among order.occupancy order.ops.items h.0) (units_among orders h.1))

-- ---- all rules

pub rules_inside : (order : Request → Request → Ordering) (body : Body Untimed) (memories : List Memory) (units : Units) (binding : Binding) → IsForwardBody body
    → IsBoundBy order body memories (graph.edges_of body) units binding → NameNodesBelow (length body.ops.items + 1) (loop_rules body (graph.edges_of body) binding.orders.items)
rules_inside order body memories units binding forward bound =
    let count = length body.ops.items in
    let known = known_rules body.ops.items (known_first body.outs.items body.test) in
    let stores = store_rules body.ops.items (test_maker body.test) in
    let asked = requests_inside bound.times memories body.ops.items bound.requests bound.requests_moved in
    let orders : AreInside count (map order_view binding.orders.items) = subst (λ (d : Dealt). AreInside count d.orders) (sym bound.is_dealt) (orders_inside count units count bound.requests asked) in
    All-append (Within body) (graph.edges_of body) (unit_rules binding.orders.items ++ (known ++ stores)) (edges_inside body)
    (All-append (Within body) (unit_rules binding.orders.items) (known ++ stores) (units_among count binding.orders.items orders)
    (All-append (Within body) known stores (known_within body (known_first body.outs.items body.test) forward.known) (tests_within body (test_maker body.test) forward.stores)))
