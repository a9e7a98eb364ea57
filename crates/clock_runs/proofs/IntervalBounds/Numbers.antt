-- Edges within an iteration lead to operations of greater number.
use Rattle.std.proofs.Common.{◌≡◌, ℕ, zero, suc, ◌+◌, ◌<◌, Bool, true, false, List, [], ◌∷◌, ◌++◌, refl, sym, subst, ℤ, pos, ltb-true, arith}
use Rattle.std.specs.Prelude.{nat_lt, if◌then◌else◌, slice_get, slice_index_or, Option, Some, None, option_to_list, min}
use Rattle.std.specs.List.{All}
use Rattle.std.proofs.lemmas.List.Elements.{All-nil, All-cons, All-head, All-tail, All-append}
use Rattle.hls_base.specs.declared.number.OpId.{OpId}
use Rattle.ir_core.specs.declared.body.Body.{Body}
use Rattle.ir_core.specs.declared.body.Op.{Op}
use Rattle.ir_core.specs.declared.body.OpKind.{OpKind}
use Rattle.ir_core.specs.declared.body.OpKind.TheVariants as o
use Rattle.ir_core.specs.declared.body.Operand.{Operand}
use Rattle.ir_core.specs.declared.body.Source.{Source}
use Rattle.ir_core.specs.declared.body.Source.TheVariants as s
use Rattle.ir_core.specs.declared.stamp.Untimed.{Untimed}
use Rattle.dep_graph.specs.declared.access.Meeting.{Meeting}
use Rattle.dep_graph.specs.declared.access.Meeting.TheVariants as m
use Rattle.dep_graph.specs.declared.edge.Edge.{Edge}
use Rattle.dep_graph.specs.declared.edge.Why.{Why}
use Rattle.dep_graph.specs.declared.edge.Why.TheVariants as w
use Rattle.dep_graph.specs.Offsets.{nth, result_of, sums_of}
use Rattle.dep_graph.specs.Meetings.{Reach, reaches_from, is_store, distances_between}
use Rattle.dep_graph.specs.Dependences as graph
use Rattle.modulo_loop.specs.Rules as loop
use Rattle.clock_runs.specs.IntervalBounds.Forward.{LeadsForward}
use Rattle.clock_runs.proofs.IntervalBounds.Bodies.{IsEarlier, NamesEarlier, IsForwardBody}

-- an edge within an iteration leads to a node of greater number
abbrev pub Rises : Edge → Type 0
Rises = LeadsForward (λ node. node)

pub some_same : {A : Type 0} {x y : A} → Some x ≡ Some y → x ≡ y
some_same e = (cc)

pub no_some : {A : Type 0} {x : A} → None ≡ Some x → ⊥
no_some e = (cc)

one : (e : Edge) → Rises e → All Rises (e ∷ [])
one e h = All-cons Rises e [] h (All-nil Rises)

gather_rises : {A : Type 0} (f : A → List Edge) (xs : List A) → All (λ x. All Rises (f x)) xs → All Rises (graph.gather f xs)
gather_rises f [] h = All-nil Rises
gather_rises f (x ∷ xs) h = All-append Rises (f x) (graph.gather f xs) (All-head (λ y. All Rises (f y)) x xs h) (gather_rises f xs (All-tail (λ y. All Rises (f y)) x xs h))

pub store_is : (kind : OpKind) → is_store kind ≡ true → kind ≡ o.Store
store_is o.Store e = refl
store_is kind e = (cc)

module _ (body : Body Untimed) where
  -- ---- from the operations whose results are read, and from the test

  behind_rises : (from to : ℕ) (p : Option (Op Untimed)) (distance : ℕ) (why : Why) → (distance ≡ 0 → from + 1 < to) → All Rises (graph.edge_behind from p to distance why)
  behind_rises from to None distance why h = All-nil Rises
  behind_rises from to (Some op) distance why h = one _ h

  edges_rise : (p : Option OpId) (k distance : ℕ) (why : Why) → (distance ≡ 0 → IsEarlier k p) → All Rises (graph.edges_behind body.ops.items p (k + 1) distance why)
  edges_rise None k distance why h = All-nil Rises
  edges_rise (Some op) k distance why h = behind_rises op.0 (k + 1) (nth body.ops.items op.0) distance why (λ within. (let z = h within in omega arith))

  maker_earlier : (k : ℕ) (value : Source) (distance : ℕ) → (distance ≡ 0 → IsEarlier k (result_of value)) → distance ≡ 0 → IsEarlier k (graph.maker_by body.outs.items distance value)
  maker_earlier k (s.Constant c) distance named within = tt
  maker_earlier k (s.Variable v) distance named within = subst (λ d. IsEarlier k (graph.maker_by body.outs.items d (s.Variable v))) (sym within) tt
  maker_earlier k (s.Result j) distance named within = named within

  data_rises : (k : ℕ) (x : Operand) → NamesEarlier k x → All Rises (graph.data_edge body (k + 1) x)
  data_rises k x named = edges_rise (graph.maker_of body.outs.items x) k x.distance w.Data (maker_earlier k x.value x.distance named)

  all_rise : (k : ℕ) (xs : List Operand) → All (NamesEarlier k) xs → All Rises (graph.gather (graph.data_edge body (k + 1)) xs)
  all_rise k xs named = gather_rises (graph.data_edge body (k + 1)) xs (λ i d lt. data_rises k _ (named i d lt))

  control_rises : (k : ℕ) (b : Bool) → (b ≡ true → IsEarlier k (graph.test_maker body.test)) → All Rises (if b then graph.edges_behind body.ops.items (graph.test_maker body.test) (k + 1) 0 w.Control else [])
  control_rises k true h = edges_rise (graph.test_maker body.test) k 0 w.Control (λ within. h refl)
  control_rises k false h = All-nil Rises

  module _ (forward : IsForwardBody body) where
    op_rises : (k : ℕ) (op : Op Untimed) → slice_get body.ops.items k ≡ Some op → All Rises (graph.data_edges body (k + 1) op) × All Rises (graph.control_edges body (k + 1) op)
    op_rises k op e = (
      All-append Rises (graph.gather (graph.data_edge body (k + 1)) op.args.items) (graph.gather (graph.data_edge body (k + 1)) (option_to_list op.guard))
          (all_rise k op.args.items (forward.args k op e)) (all_rise k (option_to_list op.guard) (forward.guards k op e)),
      control_rises k (is_store op.kind) (λ store. forward.stores k op e (store_is op.kind store)),
    )

    ops_rise : (k : ℕ) (ops : List (Op Untimed)) → ((i : ℕ) (op : Op Untimed) → slice_get ops i ≡ Some op → slice_get body.ops.items (k + i) ≡ Some op) → All Rises (graph.op_edges body k ops)
    ops_rise k [] at = All-nil Rises
    ops_rise k (op ∷ ops) at =
        let here : slice_get body.ops.items k ≡ Some op = subst (λ i. slice_get body.ops.items i ≡ Some op) (let z : k + 0 ≡ k = omega arith in z) (at 0 op refl) in
        let own = op_rises k op here in
        let rest = ops_rise (suc k) ops (λ i p e. subst (λ n. slice_get body.ops.items n ≡ Some p) (let z : k + suc i ≡ suc k + i = omega arith in z) (at (suc i) p e)) in
        All-append Rises (graph.data_edges body (k + 1) op ++ graph.control_edges body (k + 1) op) (graph.op_edges body (suc k) ops)
        (All-append Rises (graph.data_edges body (k + 1) op) (graph.control_edges body (k + 1) op) own.0 own.1) rest

    -- ---- between accesses

    later_rises : (from to : Reach) (b : Bool) → nat_lt from.op to.op ≡ b → All Rises (if b then graph.memory_edge from to 0 ∷ [] else [])
    later_rises from to true e = one (graph.memory_edge from to 0) (λ within. (let z = ltb-true from.op to.op e in omega arith))
    later_rises from to false e = All-nil Rises

    near_rises : (from to : Reach) (distance : ℤ) → All Rises (graph.near_edges from to distance)
    near_rises from to (pos zero) = later_rises from to (nat_lt from.op to.op) refl
    near_rises from to (pos (suc d)) = one (graph.memory_edge from to (min (suc d) 65536)) (λ within. absurd (omega arith))
    near_rises from to (ℤ.negsuc d) = All-nil Rises

    meeting_rises : (from to : Reach) (meeting : Meeting) → All Rises (graph.edges_at from to meeting)
    meeting_rises from to m.Never = All-nil Rises
    meeting_rises from to (m.At distance) = near_rises from to distance
    meeting_rises from to m.Always =
        All-append Rises (if nat_lt from.op to.op then graph.memory_edge from to 0 ∷ [] else []) (graph.memory_edge from to 1 ∷ [])
        (later_rises from to (nat_lt from.op to.op) refl) (one (graph.memory_edge from to 1) (λ within. absurd (omega arith)))

    pair_rises : (from to : Reach) (b : Bool) → All Rises (if b then graph.edges_at from to (distances_between from.subscripts to.subscripts) else [])
    pair_rises from to true = meeting_rises from to (distances_between from.subscripts to.subscripts)
    pair_rises from to false = All-nil Rises

    reaches_rise : (reaches : List Reach) → All Rises (graph.edges_of_reaches reaches)
    reaches_rise reaches =
        gather_rises (λ from. graph.gather (graph.memory_edges from) reaches) reaches
        (λ i d lt. (let from = slice_index_or reaches i d in gather_rises (graph.memory_edges from) reaches (λ j e le. (let to = slice_index_or reaches j e in pair_rises from to (graph.is_pair from to)))))

    pub numbers_rise : All Rises (graph.edges_of body)
    numbers_rise =
        All-append Rises (graph.op_edges body 0 body.ops.items) (graph.edges_of_reaches (reaches_from body (sums_of body) 0 body.ops.items))
        (ops_rise 0 body.ops.items (λ i op e. subst (λ n. slice_get body.ops.items n ≡ Some op) (let z : i ≡ 0 + i = omega arith in z) e)) (reaches_rise (reaches_from body (sums_of body) 0 body.ops.items))
