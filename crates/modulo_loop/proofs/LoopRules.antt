-- The rules of a forward loop lead on.
use Rattle.std.proofs.Common.{◌≡◌, ℕ, zero, suc, ◌+◌, ◌<◌, ◌≤◌, ◌^◌, Bool, true, false, List, [], ◌∷◌, ◌++◌, length, refl, ap, subst, arith}
use Rattle.std.specs.Prelude.{if◌then◌else◌, slice_index, slice_get, Option, Some, None}
use Rattle.std.specs.List.{All}
use Rattle.std.proofs.lemmas.List.Elements.{All-nil, All-cons, All-head, All-tail, All-append, All-weaker}
use Rattle.hls_base.specs.declared.number.OpId.{OpId}
use Rattle.ir_core.specs.declared.body.Body.{Body}
use Rattle.ir_core.specs.declared.body.Op.{Op}
use Rattle.ir_core.specs.declared.body.OpKind.{OpKind}
use Rattle.ir_core.specs.declared.body.OpKind.TheVariants as o
use Rattle.ir_core.specs.declared.body.Operand.{Operand}
use Rattle.ir_core.specs.declared.body.Out.{Out}
use Rattle.ir_core.specs.declared.body.Source.{Source}
use Rattle.ir_core.specs.declared.body.Source.TheVariants as s
use Rattle.ir_core.specs.declared.stamp.Untimed.{Untimed}
use Rattle.ir_core.specs.Timing.{latency}
use Rattle.dep_graph.specs.declared.edge.Edge.{Edge}
use Rattle.dep_graph.specs.declared.edge.Why.TheVariants as w
use Rattle.dep_graph.specs.Offsets.{nth}
use Rattle.dep_graph.specs.Offsets as offsets
use Rattle.dep_graph.specs.Meetings as meetings
use Rattle.dep_graph.specs.Dependences as graph
use Rattle.dep_graph.specs.ForwardBodies.{IsEarlier, IsForwardOp, AreForwardOps, IsForwardBody, IsForwardEdge}
use Rattle.unit_binding.specs.declared.binding.UnitOrder.{UnitOrder}
use Rattle.unit_binding.specs.Ranks.{RiseBy, IsOrderWithin, AreForwardOrders}
use Rattle.modulo_loop.specs.Rules.{latency_at, latency_of, serves_next, next_rules, again_rules, unit_rules, known_source, known_first, known_rules, store_rules_from, store_rules, loop_rules}
use Rattle.dep_graph.specs.Meetings.{is_store}
use Rattle.dep_graph.specs.Offsets.{result_of}
use Rattle.dep_graph.specs.Dependences.{test_maker}
use Rattle.modulo_loop.specs.ForwardRules.{IsForwardLoop, IsRuleWithin, AreForwardRules}

no_some : {A : Type 0} {x : A} → None ≡ Some x → ⊥
no_some e = (cc)

some_same : {A : Type 0} {x y : A} → Some x ≡ Some y → x ≡ y
some_same e = (cc)

pub order_wider : (a b : ℕ) → a ≤ b → (order : UnitOrder) → IsOrderWithin a order → IsOrderWithin b order
order_wider a b le order h = record { inside = All-weaker (λ op. op < a) (λ op. op < b) (λ op lt. omega arith) order.ops.items h.inside; short = h.short }

pub earlier_wider : (a b : ℕ) → a ≤ b → (op : Option OpId) → IsEarlier a op → IsEarlier b op
earlier_wider a b le None h = tt
earlier_wider a b le (Some op) h = omega arith

source_earlier : (k : ℕ) (outs : List Out) (value : Source) → IsEarlier k (known_source outs value) → IsEarlier k (result_of value)
source_earlier k outs (s.Constant c) h = tt
source_earlier k outs (s.Variable v) h = tt
source_earlier k outs (s.Result j) h = h

-- what must be known before the next iteration is the test itself, where an operation makes it in its own iteration
pub test_earlier : (k : ℕ) (outs : List Out) (test : Option Operand) → IsEarlier k (known_first outs test) → IsEarlier k (test_maker test)
test_earlier k outs None h = tt
test_earlier k outs (Some x) h = source_earlier k outs x.value h

store_is : (kind : OpKind) → is_store kind ≡ true → kind ≡ o.Store
store_is o.Store e = refl
store_is kind e = (cc)

latency_low : (kind : OpKind) (bits : ℕ) → latency kind bits ≤ bits + 2
latency_low o.Mul bits = omega arith
latency_low o.Load bits = omega arith
latency_low o.Div bits = omega arith
latency_low o.Rem bits = omega arith
latency_low kind bits = omega arith

latency_short : (test : Option Operand) (k : ℕ) (ops : List (Op Untimed)) (i : ℕ) → AreForwardOps test k ops → latency_at (slice_get ops i) < 128
latency_short test k [] i h = omega arith
latency_short test k (op ∷ ops) zero h = (let narrow = h.0.narrow in let low = latency_low op.kind op.bits in omega arith)
latency_short test k (op ∷ ops) (suc i) h = latency_short test (suc k) ops i h.1

nth_found : {A : Type 0} (xs : List A) (k : ℕ) → k < length xs → (x : A) × (nth xs k ≡ Some x)
nth_found [] k lt = absurd (omega arith)
nth_found (x ∷ xs) zero lt = (x, refl)
nth_found (x ∷ xs) (suc k) lt = nth_found xs k (omega arith)

all_front : (P : Edge → Type 0) (xs ys : List Edge) → All P (xs ++ ys) → All P xs
all_front P [] ys h = All-nil P
all_front P (x ∷ xs) ys h = All-cons P x xs (All-head P x (xs ++ ys) h) (all_front P xs ys (All-tail P x (xs ++ ys) h))

all_back : (P : Edge → Type 0) (xs ys : List Edge) → All P (xs ++ ys) → All P ys
all_back P [] ys h = h
all_back P (x ∷ xs) ys h = all_back P xs ys (All-tail P x (xs ++ ys) h)

module _ (rank : ℕ → ℕ) (ops : ℕ) where
  abbrev Onward : Edge → Type 0
  Onward e = e.distance ≡ 0 → rank e.from < rank e.to

  abbrev Fine : Edge → Type 0
  Fine e = IsRuleWithin (ops + 1) e × Onward e

  -- ---- units

  next_fine : (held : ℕ) (os : List ℕ) → held < 2 ^ 7 → All (λ op. op < ops) os → RiseBy (λ op. rank (op + 1)) os → All Fine (next_rules held os)
  next_fine held [] short inside rise = All-nil Fine
  next_fine held (op ∷ []) short inside rise = All-nil Fine
  next_fine held (op ∷ next ∷ os) short inside rise =
      let rest = All-tail (λ x. x < ops) op (next ∷ os) inside in
      let first = All-head (λ x. x < ops) op (next ∷ os) inside in
      let second = All-head (λ x. x < ops) next os rest in
      All-cons Fine (serves_next held op next) (next_rules held (next ∷ os))
      (record { from = omega arith; to = omega arith; latency = short; distance = omega arith }, (λ within. rise.0)) (next_fine held (next ∷ os) short rest rise.1)

  last_inside : (op : ℕ) (os : List ℕ) → All (λ x. x < ops) (op ∷ os) → slice_index (op ∷ os) (length os) < ops
  last_inside op [] h = All-head (λ x. x < ops) op [] h
  last_inside op (next ∷ os) h = last_inside next os (All-tail (λ x. x < ops) op (next ∷ os) h)

  again_fine : (held : ℕ) (os : List ℕ) → held < 2 ^ 7 → All (λ op. op < ops) os → All Fine (again_rules held os)
  again_fine held [] short inside = All-nil Fine
  again_fine held (op ∷ os) short inside =
      let last = last_inside op os inside in
      let first = All-head (λ x. x < ops) op os inside in
      All-cons Fine _ [] (record { from = omega arith; to = omega arith; latency = short; distance = omega arith }, (λ within. absurd (omega arith))) (All-nil Fine)

  units_fine : (orders : List UnitOrder) → All (IsOrderWithin ops) orders → All (λ (order : UnitOrder). RiseBy (λ op. rank (op + 1)) order.ops.items) orders → All Fine (unit_rules orders)
  units_fine [] within rise = All-nil Fine
  units_fine (order ∷ orders) within rise =
      let own = All-head (IsOrderWithin ops) order orders within in
      All-append Fine (next_rules order.occupancy order.ops.items) (again_rules order.occupancy order.ops.items ++ unit_rules orders)
      (next_fine order.occupancy order.ops.items own.short own.inside (All-head (λ (x : UnitOrder). RiseBy (λ op. rank (op + 1)) x.ops.items) order orders rise))
      (All-append Fine (again_rules order.occupancy order.ops.items) (unit_rules orders) (again_fine order.occupancy order.ops.items own.short own.inside)
      (units_fine orders (All-tail (IsOrderWithin ops) order orders within) (All-tail (λ (x : UnitOrder). RiseBy (λ op. rank (op + 1)) x.ops.items) order orders rise)))

module _ (rank : ℕ → ℕ) (body : Body Untimed) (forward : IsForwardBody body) where
  abbrev count : ℕ
  count = length body.ops.items

  abbrev Ok : Edge → Type 0
  Ok = Fine rank count

  abbrev On : Edge → Type 0
  On = Onward rank count

  known_fine : (p : Option OpId) → IsEarlier count p → All Ok (known_rules body.ops.items p)
  known_fine None h = All-nil Ok
  known_fine (Some op) h =
      let short = latency_short body.test 0 body.ops.items op.0 forward.ops in
      All-cons Ok _ [] (record { from = omega arith; to = omega arith; latency = omega arith; distance = omega arith }, (λ within. absurd (omega arith))) (All-nil Ok)

  -- ---- stores wait for the test

  behind_on : (from to : ℕ) (p : Option (Op Untimed)) (op : Op Untimed) → p ≡ Some op → All On (graph.edge_behind from p to 0 w.Control) → rank (from + 1) < rank to
  behind_on from to None op e h = absurd (no_some e)
  behind_on from to (Some q) op e h = All-head On _ [] h refl

  test_on : (test : OpId) (to : ℕ) → test.0 < count → All On (graph.edges_behind body.ops.items (Some test) to 0 w.Control) → rank (test.0 + 1) < rank to
  test_on test to inside h = (let found = nth_found body.ops.items test.0 inside in behind_on test.0 to (nth body.ops.items test.0) found.0 found.1 h)

  module _ (test : OpId) (made : graph.test_maker body.test ≡ Some test) (lat : ℕ) (short : lat < 128) where
    own_fine : (k : ℕ) (op : Op Untimed) → k < count → op.kind ≡ o.Store → IsForwardOp body.test k op → All On (graph.control_edges body (k + 1) op)
        → Ok (record { from = test.0 + 1; to = k + 1; latency = lat; distance = 0; why = w.Control })
    own_fine k op lt store own waits =
        let stores : meetings.is_store op.kind ≡ true = ap meetings.is_store store in
        let early : test.0 < k = subst (IsEarlier k) made (own.store stores) in
        let there : All On (graph.edges_behind body.ops.items (graph.test_maker body.test) (k + 1) 0 w.Control) =
        subst (λ b. All On (if b then graph.edges_behind body.ops.items (graph.test_maker body.test) (k + 1) 0 w.Control else [])) stores waits in
        let on = test_on test (k + 1) (omega arith) (subst (λ p. All On (graph.edges_behind body.ops.items p (k + 1) 0 w.Control)) made there) in
        (record { from = omega arith; to = omega arith; latency = omega arith; distance = omega arith }, (λ within. on))

    stores_fine : (k : ℕ) (ops : List (Op Untimed)) → k + length ops ≡ count → AreForwardOps body.test k ops → All On (graph.op_edges body k ops) → All Ok (store_rules_from test.0 lat k ops)
    stores_fine k [] e h on = All-nil Ok
    stores_fine k (op ∷ ops) e h on =
        let datas = graph.data_edges body (k + 1) op in
        let waits = graph.control_edges body (k + 1) op in
        let rest = graph.op_edges body (suc k) ops in
        let own : All On waits = all_back On datas waits (all_front On (datas ++ waits) rest on) in
        one_store (is_store op.kind) (λ yes_. own_fine k op (omega arith) (store_is op.kind yes_) h.0 own) (stores_fine (suc k) ops (omega arith) h.1 (all_back On (datas ++ waits) rest on))
      where
        one_store : (b : Bool) → (b ≡ true → Ok (record { from = test.0 + 1; to = k + 1; latency = lat; distance = 0; why = w.Control })) → All Ok (store_rules_from test.0 lat (suc k) ops)
            → All Ok (if b then record { from = test.0 + 1; to = k + 1; latency = lat; distance = 0; why = w.Control } ∷ store_rules_from test.0 lat (suc k) ops else store_rules_from test.0 lat (suc k) ops)
        one_store true here rest_fine = All-cons Ok _ (store_rules_from test.0 lat (suc k) ops) (here refl) rest_fine
        one_store false here rest_fine = rest_fine

  tests_fine : (p : Option OpId) → graph.test_maker body.test ≡ p → All On (graph.op_edges body 0 body.ops.items) → All Ok (store_rules body.ops.items p)
  tests_fine None made on = All-nil Ok
  tests_fine (Some test) made on =
      stores_fine test made (latency_of body.ops.items test) (latency_short body.test 0 body.ops.items test.0 forward.ops) 0 body.ops.items (omega arith) forward.ops on

pub rules_forward : (body : Body Untimed) (edges : List Edge) (orders : List UnitOrder) → IsForwardLoop body → edges ≡ graph.edges_of body
    → All (IsForwardEdge (length body.ops.items + 1)) edges → AreForwardOrders (length body.ops.items) edges orders → AreForwardRules (length body.ops.items + 1) (loop_rules body edges orders)
rules_forward body edges orders good same leads ordered =
    let rank : ℕ → ℕ = ordered.leading.0 in
    let count_ = length body.ops.items in
    let by : All (Onward rank count_) edges = ordered.leading.1.each_edge in
    let known = known_rules body.ops.items (known_first body.outs.items body.test) in
    let stores = store_rules body.ops.items (test_maker body.test) in
    let on : All (Onward rank count_) (graph.op_edges body 0 body.ops.items) = all_front (Onward rank count_) (graph.op_edges body 0 body.ops.items) _ (subst (All (Onward rank count_)) same by) in
    let own : All (Fine rank count_) edges = (λ k d lt. (let e = leads k d lt in (record { from = e.from; to = e.to; latency = e.latency; distance = e.distance }, by k d lt))) in
    let all : All (Fine rank count_) (loop_rules body edges orders) =
    All-append (Fine rank count_) edges (unit_rules orders ++ (known ++ stores)) own
    (All-append (Fine rank count_) (unit_rules orders) (known ++ stores) (units_fine rank count_ orders ordered.within ordered.leading.1.each_order)
    (All-append (Fine rank count_) known stores (known_fine rank body good.forward (known_first body.outs.items body.test) good.known)
    (tests_fine rank body good.forward (test_maker body.test) refl on))) in
    record {
      within = All-weaker (Fine rank count_) (IsRuleWithin (count_ + 1)) (λ e h. h.0) (loop_rules body edges orders) all;
      rank = rank;
      first = ordered.leading.1.first;
      onward = All-weaker (Fine rank count_) (Onward rank count_) (λ e h. h.1) (loop_rules body edges orders) all;
    }
