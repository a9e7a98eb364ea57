-- The edges of a forward body lead onward.
use Rattle.std.proofs.Common.{◌≡◌, ℕ, zero, suc, ◌+◌, ◌<◌, ◌≤◌, Bool, true, false, List, [], ◌∷◌, ◌++◌, length, refl, sym, subst, ℤ, pos, ltb-true, arith}
use Rattle.std.specs.Prelude.{nat_lt, if◌then◌else◌, slice_index_or, Option, Some, None, IfSome, option_to_list, min}
use Rattle.std.specs.List.{All}
use Rattle.std.proofs.lemmas.List.Elements.{All-nil, All-cons, All-head, All-tail, All-append}
use Rattle.hls_base.specs.declared.number.ArrayId.{ArrayId}
use Rattle.hls_base.specs.declared.number.OpId.{OpId}
use Rattle.ir_core.specs.declared.body.Body.{Body}
use Rattle.ir_core.specs.declared.body.Op.{Op}
use Rattle.ir_core.specs.declared.body.OpKind.{OpKind}
use Rattle.ir_core.specs.declared.body.OpKind.TheVariants as o
use Rattle.ir_core.specs.declared.body.Operand.{Operand}
use Rattle.ir_core.specs.declared.body.Source.{Source}
use Rattle.ir_core.specs.declared.body.Source.TheVariants as s
use Rattle.ir_core.specs.declared.stamp.Untimed.{Untimed}
use Rattle.ir_core.specs.Timing.{latency}
use Rattle.dep_graph.specs.declared.access.Meeting.{Meeting}
use Rattle.dep_graph.specs.declared.access.Meeting.TheVariants as m
use Rattle.dep_graph.specs.declared.counter.Sum.{Sum}
use Rattle.dep_graph.specs.declared.edge.Edge.{Edge}
use Rattle.dep_graph.specs.declared.edge.Why.{Why}
use Rattle.dep_graph.specs.declared.edge.Why.TheVariants as w
use Rattle.dep_graph.specs.Offsets.{nth, result_of, sums_of}
use Rattle.dep_graph.specs.Meetings.{Reach, reach_of, reaches_from, is_store, distances_between}
use Rattle.dep_graph.specs.Dependences as graph
use Rattle.dep_graph.specs.ForwardBodies.{IsEarlier, IsForwardOperand, IsForwardOp, AreForwardOps, IsForwardBody, IsForwardEdge}

no_some : {A : Type 0} {x : A} → None ≡ Some x → ⊥
no_some e = (cc)

some_same : {A : Type 0} {x y : A} → Some x ≡ Some y → x ≡ y
some_same e = (cc)

nth_within : {A : Type 0} (xs : List A) (k : ℕ) (x : A) → nth xs k ≡ Some x → k < length xs
nth_within [] k x e = absurd (no_some e)
nth_within (y ∷ xs) zero x e = omega arith
nth_within (y ∷ xs) (suc k) x e = (let h = nth_within xs k x e in omega arith)

latency_low : (kind : OpKind) (bits : ℕ) → latency kind bits ≤ bits + 2
latency_low o.Mul bits = omega arith
latency_low o.Load bits = omega arith
latency_low o.Div bits = omega arith
latency_low o.Rem bits = omega arith
latency_low kind bits = omega arith

nth_narrow : (test : Option Operand) (k : ℕ) (ops : List (Op Untimed)) (i : ℕ) (op : Op Untimed) → AreForwardOps test k ops → nth ops i ≡ Some op → op.bits ≤ 64
nth_narrow test k [] i op h e = absurd (no_some e)
nth_narrow test k (p ∷ ops) zero op h e = subst (λ (q : Op Untimed). q.bits ≤ 64) (some_same e) h.0.narrow
nth_narrow test k (p ∷ ops) (suc i) op h e = nth_narrow test (suc k) ops i op h.1 e

module _ (body : Body Untimed) (forward : IsForwardBody body) where
  abbrev Fine : Edge → Type 0
  Fine = IsForwardEdge (length body.ops.items + 1)

  one : (e : Edge) → Fine e → All Fine (e ∷ [])
  one e h = All-cons Fine e [] h (All-nil Fine)

  gathered : {A : Type 0} (f : A → List Edge) (xs : List A) → All (λ x. All Fine (f x)) xs → All Fine (graph.gather f xs)
  gathered f [] h = All-nil Fine
  gathered f (x ∷ xs) h = All-append Fine (f x) (graph.gather f xs) (All-head (λ y. All Fine (f y)) x xs h) (gathered f xs (All-tail (λ y. All Fine (f y)) x xs h))

  -- ---- from the operations whose results are read, and from the test

  behind_fine : (from k distance : ℕ) (p : Option (Op Untimed)) (why : Why) → nth body.ops.items from ≡ p → k < length body.ops.items → (distance ≡ 0 → from < k) → distance ≤ 65536
      → All Fine (graph.edge_behind from p (k + 1) distance why)
  behind_fine from k distance None why e lt early near = All-nil Fine
  behind_fine from k distance (Some op) why e lt early near =
      let inside = nth_within body.ops.items from op e in
      let low = latency_low op.kind op.bits in
      let narrow = nth_narrow body.test 0 body.ops.items from op forward.ops e in
      one _ (record { from = omega arith; to = omega arith; onward = λ within. (let z = early within in omega arith); latency = omega arith; distance = omega arith })

  edges_fine : (p : Option OpId) (k distance : ℕ) (why : Why) → k < length body.ops.items → (distance ≡ 0 → IsEarlier k p) → distance ≤ 65536 → All Fine (graph.edges_behind body.ops.items p (k + 1) distance why)
  edges_fine None k distance why lt early near = All-nil Fine
  edges_fine (Some op) k distance why lt early near = behind_fine op.0 k distance (nth body.ops.items op.0) why refl lt early near

  maker_earlier : (k : ℕ) (value : Source) (distance : ℕ) → (distance ≡ 0 → IsEarlier k (result_of value)) → distance ≡ 0 → IsEarlier k (graph.maker_by body.outs.items distance value)
  maker_earlier k (s.Constant c) distance named within = tt
  maker_earlier k (s.Variable v) distance named within = subst (λ d. IsEarlier k (graph.maker_by body.outs.items d (s.Variable v))) (sym within) tt
  maker_earlier k (s.Result j) distance named within = named within

  data_fine : (k : ℕ) (x : Operand) → k < length body.ops.items → IsForwardOperand k x → All Fine (graph.data_edge body (k + 1) x)
  data_fine k x lt named = edges_fine (graph.maker_of body.outs.items x) k x.distance w.Data lt (maker_earlier k x.value x.distance named.earlier) named.near

  all_fine : (k : ℕ) (xs : List Operand) → k < length body.ops.items → All (IsForwardOperand k) xs → All Fine (graph.gather (graph.data_edge body (k + 1)) xs)
  all_fine k xs lt named = gathered (graph.data_edge body (k + 1)) xs (λ i d l. data_fine k _ lt (named i d l))

  guard_fine : (k : ℕ) (guard : Option Operand) → k < length body.ops.items → IfSome guard (IsForwardOperand k) → All Fine (graph.gather (graph.data_edge body (k + 1)) (option_to_list guard))
  guard_fine k None lt named = All-nil Fine
  guard_fine k (Some x) lt named = all_fine k (x ∷ []) lt (All-cons (IsForwardOperand k) x [] named (All-nil (IsForwardOperand k)))

  control_fine : (k : ℕ) (b : Bool) → k < length body.ops.items → (b ≡ true → IsEarlier k (graph.test_maker body.test))
      → All Fine (if b then graph.edges_behind body.ops.items (graph.test_maker body.test) (k + 1) 0 w.Control else [])
  control_fine k true lt early = edges_fine (graph.test_maker body.test) k 0 w.Control lt (λ within. early refl) (omega arith)
  control_fine k false lt early = All-nil Fine

  ops_fine : (k : ℕ) (ops : List (Op Untimed)) → k + length ops ≡ length body.ops.items → AreForwardOps body.test k ops → All Fine (graph.op_edges body k ops)
  ops_fine k [] e h = All-nil Fine
  ops_fine k (op ∷ ops) e h =
      let lt : k < length body.ops.items = omega arith in
      let own : IsForwardOp body.test k op = h.0 in
      let args = graph.gather (graph.data_edge body (k + 1)) op.args.items in
      let guards = graph.gather (graph.data_edge body (k + 1)) (option_to_list op.guard) in
      let waits = graph.control_edges body (k + 1) op in
      All-append Fine ((args ++ guards) ++ waits) (graph.op_edges body (suc k) ops)
      (All-append Fine (args ++ guards) waits
      (All-append Fine args guards (all_fine k op.args.items lt own.args) (guard_fine k op.guard lt own.guard))
      (control_fine k (is_store op.kind) lt own.store))
      (ops_fine (suc k) ops (omega arith) h.1)

  -- ---- between accesses

  -- an access is of an operation of the body
  abbrev IsReached : Reach → Type 0
  IsReached r = r.op < length body.ops.items

  reach_within : (sums : List (Option Sum)) (k : ℕ) (op : Op Untimed) (p : Option ArrayId) → k < length body.ops.items → All IsReached (reach_of body sums k op p)
  reach_within sums k op None lt = All-nil IsReached
  reach_within sums k op (Some array) lt = All-cons IsReached _ [] lt (All-nil IsReached)

  reaches_within : (sums : List (Option Sum)) (k : ℕ) (ops : List (Op Untimed)) → k + length ops ≡ length body.ops.items → All IsReached (reaches_from body sums k ops)
  reaches_within sums k [] e = All-nil IsReached
  reaches_within sums k (op ∷ ops) e =
      All-append IsReached (reach_of body sums k op op.array) (reaches_from body sums (suc k) ops) (reach_within sums k op op.array (omega arith)) (reaches_within sums (suc k) ops (omega arith))

  stored_low : (b : Bool) → (if b then 1 else 0) < 128
  stored_low true = omega arith
  stored_low false = omega arith

  memory_fine : (from to : Reach) (distance : ℕ) → IsReached from → IsReached to → (distance ≡ 0 → from.op < to.op) → distance ≤ 65536 → All Fine (graph.memory_edge from to distance ∷ [])
  memory_fine from to distance f t early near =
      let low = stored_low from.is_store in
      one (graph.memory_edge from to distance) (record { from = omega arith; to = omega arith; onward = λ within. (let z = early within in omega arith); latency = omega arith; distance = omega arith })

  later_fine : (from to : Reach) (b : Bool) → nat_lt from.op to.op ≡ b → IsReached from → IsReached to → All Fine (if b then graph.memory_edge from to 0 ∷ [] else [])
  later_fine from to true e f t = memory_fine from to 0 f t (λ within. ltb-true from.op to.op e) (omega arith)
  later_fine from to false e f t = All-nil Fine

  near_fine : (from to : Reach) (distance : ℤ) → IsReached from → IsReached to → All Fine (graph.near_edges from to distance)
  near_fine from to (pos zero) f t = later_fine from to (nat_lt from.op to.op) refl f t
  near_fine from to (pos (suc d)) f t = memory_fine from to (min (suc d) 65536) f t (λ within. absurd (omega arith)) (omega arith)
  near_fine from to (ℤ.negsuc d) f t = All-nil Fine

  meeting_fine : (from to : Reach) (meeting : Meeting) → IsReached from → IsReached to → All Fine (graph.edges_at from to meeting)
  meeting_fine from to m.Never f t = All-nil Fine
  meeting_fine from to (m.At distance) f t = near_fine from to distance f t
  meeting_fine from to m.Always f t =
      All-append Fine (if nat_lt from.op to.op then graph.memory_edge from to 0 ∷ [] else []) (graph.memory_edge from to 1 ∷ [])
      (later_fine from to (nat_lt from.op to.op) refl f t) (memory_fine from to 1 f t (λ within. absurd (omega arith)) (omega arith))

  pair_fine : (from to : Reach) (b : Bool) → IsReached from → IsReached to → All Fine (if b then graph.edges_at from to (distances_between from.subscripts to.subscripts) else [])
  pair_fine from to true f t = meeting_fine from to (distances_between from.subscripts to.subscripts) f t
  pair_fine from to false f t = All-nil Fine

  accesses_fine : (reaches : List Reach) → All IsReached reaches → All Fine (graph.edges_of_reaches reaches)
  accesses_fine reaches all =
      gathered (λ from. graph.gather (graph.memory_edges from) reaches) reaches
      (λ i d lt. (let from = slice_index_or reaches i d in
      gathered (graph.memory_edges from) reaches (λ j e le. (let to = slice_index_or reaches j e in pair_fine from to (graph.is_pair from to) (all i d lt) (all j e le)))))

  pub edges_forward : All Fine (graph.edges_of body)
  edges_forward =
      let reaches = reaches_from body (sums_of body) 0 body.ops.items in
      All-append Fine (graph.op_edges body 0 body.ops.items) (graph.edges_of_reaches reaches)
      (ops_fine 0 body.ops.items (omega arith) forward.ops) (accesses_fine reaches (reaches_within (sums_of body) 0 body.ops.items (omega arith)))
