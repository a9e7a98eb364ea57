-- The rules of a loop go forward where its body does.
use Rattle.std.proofs.Common.{◌≡◌, ℕ, zero, suc, ◌+◌, ◌*◌, ◌<◌, ◌≤◌, Bool, true, false, true≢false, List, [], ◌∷◌, ◌++◌, map, length, refl, sym, ap, subst, ◌∙◌, eq-eqb, arith}
use Rattle.std.specs.Prelude.{◌==◌, if◌then◌else◌, slice_index, slice_index_or, slice_get, Option, Some, None}
use Rattle.std.specs.List.{All, cons_option}
use Rattle.std.specs.declared.cmp.Ordering.{Ordering}
use Rattle.std.proofs.lemmas.Int.{ints}
use Rattle.std.proofs.lemmas.List.Elements.{All-nil, All-cons, All-head, All-tail, All-append}
use Rattle.hls_base.specs.declared.number.OpId.{OpId}
use Rattle.hls_base.specs.declared.settings.Units.{Units}
use Rattle.ir_core.specs.declared.body.Body.{Body}
use Rattle.ir_core.specs.declared.body.Op.{Op}
use Rattle.ir_core.specs.declared.body.OpKind.{OpKind}
use Rattle.ir_core.specs.declared.body.OpKind.TheVariants as o
use Rattle.ir_core.specs.declared.cfg.Memory.{Memory}
use Rattle.ir_core.specs.declared.stamp.Untimed.{Untimed}
use Rattle.dep_graph.specs.declared.edge.Edge.{Edge}
use Rattle.dep_graph.specs.declared.edge.Why.TheVariants as w
use Rattle.dep_graph.specs.Offsets.{nth}
use Rattle.dep_graph.specs.Meetings as meetings
use Rattle.dep_graph.specs.Dependences as graph
use Rattle.diff_solve.specs.declared.solve.Constraint.{Constraint}
use Rattle.diff_solve.specs.Times.{Meets}
use Rattle.unit_binding.specs.declared.bind.Request.{Request}
use Rattle.unit_binding.specs.declared.binding.Binding.{Binding}
use Rattle.unit_binding.specs.declared.binding.UnitOrder.{UnitOrder}
use Rattle.unit_binding.specs.Binding.{Dealt, order_view, IsBoundBy}
use Rattle.unit_binding.specs.Times.{edge_constraint, edge_constraints}
use Rattle.modulo_loop.specs.Rules.{latency_of, serves_next, next_rules, again_rules, unit_rules, known_first, known_rules, store_rules_from, store_rules, loop_rules}
use Rattle.dep_graph.specs.Meetings.{is_store}
use Rattle.dep_graph.specs.Dependences.{test_maker}
use Rattle.clock_runs.specs.IntervalBounds.Forward.{LeadsForward, GoForward}
use Rattle.unit_binding.proofs.Serving.{ServesByTime}
use Rattle.clock_runs.proofs.IntervalBounds.Bodies.{IsEarlier, IsForwardBody}
use Rattle.clock_runs.proofs.IntervalBounds.Numbers.{some_same, no_some, store_is, numbers_rise}
use Rattle.unit_binding.proofs.Dealing.{KeysRise, AllRise, orders_rise}
use Rattle.unit_binding.proofs.Requests.{rank_of, number_ranks, requests_climb}

-- ---- edges within an iteration keep their times

module _ (times : List ℕ) where
  -- a rule within an iteration leads to a time that is no earlier
  abbrev pub LeadsLater : Edge → Type 0
  LeadsLater e = e.distance ≡ 0 → slice_index times e.from ≤ slice_index times e.to

  meets_later : (e : Edge) → Meets times (edge_constraint e) → slice_index times e.from ≤ slice_index times e.to
  meets_later e h = omega (arith, ints, h)

  one_later : (b : Bool) (e : Edge) (cs : List Constraint) → (e.distance == 0) ≡ b → All (Meets times) (cons_option (if b then Some (edge_constraint e) else None) cs) → LeadsLater e × All (Meets times) cs
  one_later true e cs is h = ((λ within. meets_later e (All-head (Meets times) (edge_constraint e) cs h)), All-tail (Meets times) (edge_constraint e) cs h)
  one_later false e cs is h = ((λ within. absurd (true≢false (sym (eq-eqb e.distance 0 within) ∙ is))), h)

  edges_later : (edges : List Edge) → All (Meets times) (edge_constraints edges) → All LeadsLater edges
  edges_later [] h = All-nil LeadsLater
  edges_later (e ∷ es) h = (let k = one_later (e.distance == 0) e (edge_constraints es) refl h in All-cons LeadsLater e es k.0 (edges_later es k.1))

-- ---- the edge that lets a store wait for the test is one of the body

nth_found : {A : Type 0} (xs : List A) (k : ℕ) → k < length xs → (x : A) × (nth xs k ≡ Some x)
nth_found [] k lt = absurd (omega arith)
nth_found (x ∷ xs) zero lt = (x, refl)
nth_found (x ∷ xs) (suc k) lt = nth_found xs k (omega arith)

pub get_within : {A : Type 0} (xs : List A) (k : ℕ) (x : A) → slice_get xs k ≡ Some x → k < length xs
get_within [] k x e = absurd (no_some e)
get_within (y ∷ xs) zero x e = omega arith
get_within (y ∷ xs) (suc k) x e = (let z = get_within xs k x e in omega arith)

all_front : (P : Edge → Type 0) (xs ys : List Edge) → All P (xs ++ ys) → All P xs
all_front P [] ys h = All-nil P
all_front P (x ∷ xs) ys h = All-cons P x xs (All-head P x (xs ++ ys) h) (all_front P xs ys (All-tail P x (xs ++ ys) h))

all_back : (P : Edge → Type 0) (xs ys : List Edge) → All P (xs ++ ys) → All P ys
all_back P [] ys h = h
all_back P (x ∷ xs) ys h = all_back P xs ys (All-tail P x (xs ++ ys) h)

module _ (rank : ℕ → ℕ) where
  abbrev Forward : Edge → Type 0
  Forward = LeadsForward rank

  module _ (body : Body Untimed) where
    behind_forward : (from to : ℕ) (p : Option (Op Untimed)) (op : Op Untimed) → p ≡ Some op → All Forward (graph.edge_behind from p to 0 w.Control) → rank (from + 1) < rank to
    behind_forward from to None op e h = absurd (no_some e)
    behind_forward from to (Some q) op e h = All-head Forward _ [] h refl

    waits_forward : (p : Option OpId) (test : OpId) (to : ℕ) → p ≡ Some test → test.0 < length body.ops.items → All Forward (graph.edges_behind body.ops.items p to 0 w.Control) → rank (test.0 + 1) < rank to
    waits_forward None test to e inside h = absurd (no_some e)
    waits_forward (Some t) test to e inside h =
        let same : t ≡ test = some_same e in
        let found = nth_found body.ops.items test.0 inside in
        let here : All Forward (graph.edge_behind test.0 (nth body.ops.items test.0) to 0 w.Control) = subst (λ (x : OpId). All Forward (graph.edge_behind x.0 (nth body.ops.items x.0) to 0 w.Control)) same h in
        behind_forward test.0 to (nth body.ops.items test.0) found.0 found.1 here

    control_at : (k : ℕ) (ops : List (Op Untimed)) (i : ℕ) (op : Op Untimed) → slice_get ops i ≡ Some op → All Forward (graph.op_edges body k ops) → All Forward (graph.control_edges body (k + i + 1) op)
    control_at k [] i op e h = absurd (no_some e)
    control_at k (p ∷ ops) zero op e h =
        let own = graph.data_edges body (k + 1) p in
        let waits = graph.control_edges body (k + 1) p in
        let here : All Forward waits = all_back Forward own waits (all_front Forward (own ++ waits) (graph.op_edges body (suc k) ops) h) in
        subst (λ n. All Forward (graph.control_edges body n op)) (let z : k + 1 ≡ k + 0 + 1 = omega arith in z) (subst (λ (x : Op Untimed). All Forward (graph.control_edges body (k + 1) x)) (some_same e) here)
    control_at k (p ∷ ops) (suc i) op e h =
        let rest = all_back Forward (graph.data_edges body (k + 1) p ++ graph.control_edges body (k + 1) p) (graph.op_edges body (suc k) ops) h in
        subst (λ n. All Forward (graph.control_edges body n op)) (let z : suc k + i + 1 ≡ k + suc i + 1 = omega arith in z) (control_at (suc k) ops i op e rest)

    stored : (k : ℕ) (kind : OpKind) (op : Op Untimed) → kind ≡ o.Store → All Forward (if meetings.is_store kind then graph.edges_behind body.ops.items (graph.test_maker body.test) (k + 1) 0 w.Control else [])
        → All Forward (graph.edges_behind body.ops.items (graph.test_maker body.test) (k + 1) 0 w.Control)
    stored k kind op e h = subst (λ x. All Forward (if meetings.is_store x then graph.edges_behind body.ops.items (graph.test_maker body.test) (k + 1) 0 w.Control else [])) e h

    -- a store comes behind the test
    store_forward : IsForwardBody body → All Forward (graph.op_edges body 0 body.ops.items) → (test : OpId) → test_maker body.test ≡ Some test → (k : ℕ) (op : Op Untimed) → slice_get body.ops.items k ≡ Some op → op.kind ≡ o.Store
        → rank (test.0 + 1) < rank (k + 1)
    store_forward forward all test is k op e store =
        let early : test.0 < k = subst (IsEarlier k) is (forward.stores k op e store) in
        let inside = get_within body.ops.items k op e in
        let waits : All Forward (graph.control_edges body (k + 1) op) = subst (λ n. All Forward (graph.control_edges body n op)) (let z : 0 + k + 1 ≡ k + 1 = omega arith in z) (control_at 0 body.ops.items k op e all) in
        waits_forward (graph.test_maker body.test) test (k + 1) is (omega arith) (stored k op.kind op store waits)

  -- ---- rules of each kind

  stores_from : (test lat k : ℕ) (ops : List (Op Untimed)) → ((i : ℕ) (op : Op Untimed) → slice_get ops i ≡ Some op → op.kind ≡ o.Store → rank (test + 1) < rank (k + i + 1)) → All Forward (store_rules_from test lat k ops)
  stores_from test lat k [] h = All-nil Forward
  stores_from test lat k (op ∷ ops) h =
      let rest = stores_from test lat (suc k) ops (λ i p e store. subst (λ n. rank (test + 1) < rank n) (let z : k + suc i + 1 ≡ suc k + i + 1 = omega arith in z) (h (suc i) p e store)) in
      let own : op.kind ≡ o.Store → rank (test + 1) < rank (k + 1) = (λ store. subst (λ n. rank (test + 1) < rank n) (let z : k + 0 + 1 ≡ k + 1 = omega arith in z) (h 0 op refl store)) in
      one_store (is_store op.kind) (λ e. own (store_is op.kind e)) rest
    where
      one_store : (b : Bool) → (b ≡ true → rank (test + 1) < rank (k + 1)) → All Forward (store_rules_from test lat (suc k) ops)
          → All Forward (if b then record { from = test + 1; to = k + 1; latency = lat; distance = 0; why = w.Control } ∷ store_rules_from test lat (suc k) ops else store_rules_from test lat (suc k) ops)
      one_store true own rest = All-cons Forward _ (store_rules_from test lat (suc k) ops) (λ within. own refl) rest
      one_store false own rest = rest

  stores_forward : (ops : List (Op Untimed)) (p : Option OpId) → ((test : OpId) → p ≡ Some test → (k : ℕ) (op : Op Untimed) → slice_get ops k ≡ Some op → op.kind ≡ o.Store → rank (test.0 + 1) < rank (k + 1)) → All Forward (store_rules ops p)
  stores_forward ops None h = All-nil Forward
  stores_forward ops (Some test) h = stores_from test.0 (latency_of ops test) 0 ops (λ i op e store. subst (λ n. rank (test.0 + 1) < rank n) (let z : i + 1 ≡ 0 + i + 1 = omega arith in z) (h test refl i op e store))

  -- the test is that of the iteration before
  known_forward : (ops : List (Op Untimed)) (p : Option OpId) → All Forward (known_rules ops p)
  known_forward ops None = All-nil Forward
  known_forward ops (Some op) = All-cons Forward _ [] (λ within. absurd (omega arith)) (All-nil Forward)

  abbrev key : ℕ → ℕ
  key op = rank (op + 1)

  next_forward : (held : ℕ) (ops : List ℕ) → KeysRise key ops → All Forward (next_rules held ops)
  next_forward held [] h = All-nil Forward
  next_forward held (op ∷ []) h = All-nil Forward
  next_forward held (op ∷ next ∷ ops) h = All-cons Forward (serves_next held op next) (next_rules held (next ∷ ops)) (λ within. h.0) (next_forward held (next ∷ ops) h.1)

  again_forward : (held : ℕ) (ops : List ℕ) → All Forward (again_rules held ops)
  again_forward held [] = All-nil Forward
  again_forward held (op ∷ ops) = All-cons Forward _ [] (λ within. absurd (omega arith)) (All-nil Forward)

  units_forward : (orders : List UnitOrder) → AllRise key (map order_view orders) → All Forward (unit_rules orders)
  units_forward [] h = All-nil Forward
  units_forward (order ∷ orders) h =
      All-append Forward (next_rules order.occupancy order.ops.items) (again_rules order.occupancy order.ops.items ++ unit_rules orders) (next_forward order.occupancy order.ops.items h.0)
      (All-append Forward (again_rules order.occupancy order.ops.items) (unit_rules orders) (again_forward order.occupancy order.ops.items) (units_forward orders h.1))

-- ---- all rules

pub rules_forward : (order : Request → Request → Ordering) → ServesByTime order → (body : Body Untimed) (memories : List Memory) (units : Units) (binding : Binding) → IsForwardBody body
    → IsBoundBy order body memories (graph.edges_of body) units binding → GoForward (loop_rules body (graph.edges_of body) binding.orders.items)
rules_forward order by_time body memories units binding forward bound =
    let times : List ℕ = bound.times in
    let count = length body.ops.items in
    let rank : ℕ → ℕ = rank_of times (count + 1) in
    let edges = graph.edges_of body in
    let rises = numbers_rise body forward in
    let later = edges_later times edges bound.least.solves.meets in
    let all : All (LeadsForward rank) edges =
    (λ i d lt within. (let e = slice_index_or edges i d in number_ranks (slice_index times e.from) (slice_index times e.to) (count + 1) e.from e.to (later i d lt within) (rises i d lt within))) in
    let start : slice_index times 0 ≡ 0 = bound.least.solves.start in
    let none : 0 * (count + 1) ≡ 0 = grind arith in
    let first : rank 0 ≡ 0 = ap (λ t. t * (count + 1) + 0) start ∙ (let z : 0 * (count + 1) + 0 ≡ 0 = omega arith in z) in
    let climb = requests_climb times order by_time count memories body.ops.items bound.requests refl bound.requests_moved bound.requests_sorted in
    let dealt_orders = orders_rise (key rank) units count bound.requests climb in
    let orders : AllRise (key rank) (map order_view binding.orders.items) = subst (λ (d : Dealt). AllRise (key rank) d.orders) (sym bound.is_dealt) dealt_orders in
    let known = known_rules body.ops.items (known_first body.outs.items body.test) in
    let stores = store_rules body.ops.items (test_maker body.test) in
    let own : All (LeadsForward rank) (graph.op_edges body 0 body.ops.items) = all_front (LeadsForward rank) (graph.op_edges body 0 body.ops.items) _ all in (
      rank,
      record {
        first = first;
        forward = All-append (LeadsForward rank) edges (unit_rules binding.orders.items ++ (known ++ stores)) all
            (All-append (LeadsForward rank) (unit_rules binding.orders.items) (known ++ stores) (units_forward rank binding.orders.items orders)
            (All-append (LeadsForward rank) known stores (known_forward rank body.ops.items (known_first body.outs.items body.test))
            (stores_forward rank body.ops.items (test_maker body.test) (store_forward rank body forward own))));
      },
    )
