-- No operation of a valid program stores in a table, so nothing is stored at the ports of one.
use Rattle.std.proofs.Common.{◌≡◌, ℕ, zero, suc, ◌+◌, ◌<◌, Bool, true, false, List, [], ◌∷◌, ◌++◌, length, map, slice_get, refl, sym, ap, ◌∙◌, subst, inl, inr, arith}
use Rattle.std.specs.Prelude.{◌==◌, ◌&&◌, ◌||◌, not, cond, filter, flat_map, Option, Some, None, is_none, if◌then◌else◌}
use Rattle.std.specs.List.{list_all, enumerate_from}
use Rattle.std.proofs.lemmas.Bool.{and_parts, eqb-true, false≢true, cases_Bool}
use Rattle.std.proofs.lemmas.List.{length-map}
use Rattle.std.proofs.lemmas.List.Folds.{list_all-append}
use Rattle.std.proofs.lemmas.Option.{get_or_from_slice_get, slice_get-map}
use Rattle.std.specs.Option.{option_map}
use Rattle.hls_base.specs.declared.number.ArrayId.{ArrayId}
use Rattle.ir_core.specs.declared.body.Op.{Op}
use Rattle.ir_core.specs.declared.body.OpKind.{OpKind}
use Rattle.ir_core.specs.declared.body.OpKind.TheVariants as o
use Rattle.ir_core.specs.declared.body.Out.{Out}
use Rattle.ir_core.specs.declared.cfg.Frame.{Frame}
use Rattle.ir_core.specs.declared.cfg.Memory.{Memory}
use Rattle.ir_core.specs.declared.cfg.Node.{Node}
use Rattle.ir_core.specs.declared.cfg.Node.TheVariants as node
use Rattle.ir_core.specs.declared.timed.Timed.{Timed}
use Rattle.clock_ir.specs.Flows.{TimedOp, timed_op}
use Rattle.clock_ir.specs.ClockRuns.{timed_node}
use Rattle.dep_graph.specs.Meetings as meetings
use Rattle.program_validity.specs.Operations.{memory_of, accesses_in, stores, loads, acts, is_operation, is_flagged, is_width_of}
use Rattle.program_validity.specs.Operands.{is_operand_if}
use Rattle.program_validity.specs.Bodies.{is_body, is_block_body, is_loop_body, are_operations}
use Rattle.program_validity.specs.Programs.{is_node, is_valid_node, are_nodes}
use Rattle.program_validity.proofs.Parts.{first_of_both, second_of_both}
use Rattle.datapath.specs.Plans.{Plan, Placed, Array, no_array, placed_in, all_ops, array_at, array_of}
use Rattle.datapath.specs.Cycles.{Register, Cycle}
use Rattle.datapath.specs.Ports as ports
use Rattle.datapath.specs.Ports.{is_load, is_store, is_array, port_of, accesses, at_port, stored_writes, is_storing}
use Rattle.ir_core.specs.Bodies.{stored}
use Rattle.rtl_logic.specs.Choosing.{where_}
use Rattle.datapath.specs.Reading.{arguments}
use Rattle.circuit_context.specs.declared.context.Context.{Context}
use Rattle.circuit_context.specs.Contexts.{IsContext}

-- ---- lists

kept_apart : {A : Type 0} (f g : A → Bool) (xs : List A) → list_all (λ x. not (f x && g x)) xs ≡ true → list_all (λ x. not (g x)) (filter f xs) ≡ true
kept_apart f g [] h = refl
kept_apart f g (x ∷ xs) h =
    let both = and_parts (not (f x && g x)) (list_all (λ x. not (f x && g x)) xs) h in
    one (f x) both.0 (kept_apart f g xs both.1) where
      one : (b : Bool) → not (b && g x) ≡ true → list_all (λ x. not (g x)) (filter f xs) ≡ true → list_all (λ x. not (g x)) (cond b (x ∷ filter f xs) (filter f xs)) ≡ true
      one true here rest = ap (λ b. b && list_all (λ x. not (g x)) (filter f xs)) here ∙ rest
      one false here rest = rest

still_all : {A : Type 0} (f g : A → Bool) (xs : List A) → list_all g xs ≡ true → list_all g (filter f xs) ≡ true
still_all f g [] h = refl
still_all f g (x ∷ xs) h =
    let both = and_parts (g x) (list_all g xs) h in
    one (f x) both.0 (still_all f g xs both.1) where
      one : (b : Bool) → g x ≡ true → list_all g (filter f xs) ≡ true → list_all g (cond b (x ∷ filter f xs) (filter f xs)) ≡ true
      one true here rest = ap (λ b. b && list_all g (filter f xs)) here ∙ rest
      one false here rest = rest

none_kept : {A : Type 0} (f : A → Bool) (xs : List A) → list_all (λ x. not (f x)) xs ≡ true → filter f xs ≡ []
none_kept f [] h = refl
none_kept f (x ∷ xs) h =
    let both = and_parts (not (f x)) (list_all (λ x. not (f x)) xs) h in
    one (f x) both.0 (none_kept f xs both.1) where
      one : (b : Bool) → not b ≡ true → filter f xs ≡ [] → cond b (x ∷ filter f xs) (filter f xs) ≡ []
      one true here rest = absurd (false≢true here)
      one false here rest = rest

-- ---- operations

-- the operation is no access of the array, or it does not store
abbrev is_untouched : ℕ → OpKind → Option ArrayId → Bool
is_untouched a kind array = not ((is_array a array && (is_load kind || is_store kind)) && is_store kind)

other_kind : (b l : Bool) → not ((b && (l || false)) && false) ≡ true
other_kind true true = refl
other_kind true false = refl
other_kind false l = refl

-- what stores is no table
stored_in : (f : Frame) (carried : List Out) (before : List (Op Timed)) (op : Op Timed) (m : Option Memory) (memory : Memory) (words : List ℕ) → op.kind ≡ o.Store → m ≡ Some memory → memory.table ≡ Some words
    → accesses_in f.variables.items carried before op m ≡ true → ⊥
stored_in f carried before op m memory words is at table h =
    let there : accesses_in f.variables.items carried before op (Some memory) ≡ true = ap (accesses_in f.variables.items carried before op) (sym at) ∙ h in
    let store : stores f.variables.items carried before op memory ≡ true =
    ap (λ k. if meetings.is_store k then stores f.variables.items carried before op memory else loads f.variables.items carried before op memory) (sym is) ∙ there in
    let none = first_of_both (is_none memory.table) _ (second_of_both (memory.bits == op.bits) _ (first_of_both _ _ store)) in
    false≢true (ap is_none (sym table) ∙ none)

store_untouched : (f : Frame) (carried : List Out) (before : List (Op Timed)) (op : Op Timed) (a : ℕ) (memory : Memory) (words : List ℕ) (array : Option ArrayId) → slice_get f.memories.items a ≡ Some memory → memory.table ≡ Some words
    → op.kind ≡ o.Store → accesses_in f.variables.items carried before op (memory_of f.memories.items array) ≡ true → is_untouched a o.Store array ≡ true
store_untouched f carried before op a memory words None at table is h = refl
store_untouched f carried before op a memory words (Some id) at table is h = elim (cases_Bool (id.0 == a)) [
  | inl same ↦
      absurd (stored_in f carried before op (slice_get f.memories.items id.0) memory words is (ap (slice_get f.memories.items) (eqb-true id.0 a same) ∙ at) table h)
  | inr other ↦ ap (λ b. not ((b && true) && true)) other
]

kind_untouched : (f : Frame) (carried : List Out) (before : List (Op Timed)) (op : Op Timed) (a : ℕ) (memory : Memory) (words : List ℕ) (kind : OpKind) → slice_get f.memories.items a ≡ Some memory → memory.table ≡ Some words
    → op.kind ≡ kind → acts f carried before op kind ≡ true → is_untouched a kind op.array ≡ true
kind_untouched f carried before op a memory words o.Store at table is h = store_untouched f carried before op a memory words op.array at table is h
kind_untouched f carried before op a memory words o.Load at table is h = other_kind (is_array a op.array) true
kind_untouched f carried before op a memory words o.Add at table is h = other_kind (is_array a op.array) false
kind_untouched f carried before op a memory words o.Sub at table is h = other_kind (is_array a op.array) false
kind_untouched f carried before op a memory words o.Mul at table is h = other_kind (is_array a op.array) false
kind_untouched f carried before op a memory words o.Div at table is h = other_kind (is_array a op.array) false
kind_untouched f carried before op a memory words o.Rem at table is h = other_kind (is_array a op.array) false
kind_untouched f carried before op a memory words o.And at table is h = other_kind (is_array a op.array) false
kind_untouched f carried before op a memory words o.Or at table is h = other_kind (is_array a op.array) false
kind_untouched f carried before op a memory words o.Xor at table is h = other_kind (is_array a op.array) false
kind_untouched f carried before op a memory words o.Shl at table is h = other_kind (is_array a op.array) false
kind_untouched f carried before op a memory words o.Shr at table is h = other_kind (is_array a op.array) false
kind_untouched f carried before op a memory words o.Eq at table is h = other_kind (is_array a op.array) false
kind_untouched f carried before op a memory words o.Ne at table is h = other_kind (is_array a op.array) false
kind_untouched f carried before op a memory words o.Lt at table is h = other_kind (is_array a op.array) false
kind_untouched f carried before op a memory words o.Le at table is h = other_kind (is_array a op.array) false
kind_untouched f carried before op a memory words o.Not at table is h = other_kind (is_array a op.array) false
kind_untouched f carried before op a memory words o.Neg at table is h = other_kind (is_array a op.array) false
kind_untouched f carried before op a memory words o.Select at table is h = other_kind (is_array a op.array) false
kind_untouched f carried before op a memory words o.Widen at table is h = other_kind (is_array a op.array) false
kind_untouched f carried before op a memory words o.Narrow at table is h = other_kind (is_array a op.array) false
kind_untouched f carried before op a memory words o.Truth at table is h = other_kind (is_array a op.array) false
kind_untouched f carried before op a memory words o.Copy at table is h = other_kind (is_array a op.array) false
kind_untouched f carried before op a memory words (o.Fused pairing) at table is h = other_kind (is_array a op.array) false

-- ---- bodies and nodes

abbrev leaves_be : ℕ → Placed → Bool
leaves_be a x = is_untouched a x.op.op.kind x.op.op.array

abbrev placed_as : ℕ → ℕ × TimedOp → Placed
placed_as i x = record { node = i; number = x.0; op = x.1 }

module _ (f : Frame) (a : ℕ) (memory : Memory) (words : List ℕ) (at : slice_get f.memories.items a ≡ Some memory) (table : memory.table ≡ Some words) where
  ops_untouched : (carried : List Out) (before ops : List (Op Timed)) (i k : ℕ) → are_operations f carried before ops ≡ true → list_all (leaves_be a) (map (placed_as i) (enumerate_from k (map timed_op ops))) ≡ true
  ops_untouched carried before [] i k h = refl
  ops_untouched carried before (op ∷ ops) i k h =
      let both = and_parts (is_operation f carried before op) (are_operations f carried (before ++ op ∷ []) ops) h in
      let acting = second_of_both (is_operand_if f.variables.items carried before 1 op.guard) _ (second_of_both (is_width_of op.kind op.bits && is_flagged op) _ both.0) in
      let here = kind_untouched f carried before op a memory words op.kind at table refl acting in
      let rest = ops_untouched carried (before ++ op ∷ []) ops i (k + 1) both.1 in
      ap (λ b. b && list_all (leaves_be a) (map (placed_as i) (enumerate_from (k + 1) (map timed_op ops)))) here ∙ rest

  node_untouched : (n : Node Timed) (count i : ℕ) → is_valid_node f count n ≡ true → list_all (leaves_be a) (placed_in (i, timed_node n)) ≡ true
  node_untouched (node.Plain b) count i h =
      ops_untouched [] [] b.body.ops.items i 0 (first_of_both _ _ (second_of_both _ _ (second_of_both (is_none b.body.test) _ (first_of_both (is_block_body f b.body) _ h))))
  node_untouched (node.Looped r) count i h =
      ops_untouched r.body.outs.items [] r.body.ops.items i 0 (first_of_both _ _ (second_of_both _ _ (first_of_both (is_body f r.body.outs.items r.body) _ (first_of_both _ _ (first_of_both (is_loop_body f r.body) _ h)))))

  nodes_untouched : (nodes : List (Node Timed)) (count k : ℕ) → list_all (is_valid_node f count) nodes ≡ true → list_all (leaves_be a) (flat_map placed_in (enumerate_from k (map timed_node nodes))) ≡ true
  nodes_untouched [] count k h = refl
  nodes_untouched (n ∷ nodes) count k h =
      let both = and_parts (is_valid_node f count n) (list_all (is_valid_node f count) nodes) h in
      let here = node_untouched n count k both.0 in
      list_all-append (leaves_be a) (placed_in (k, timed_node n)) (flat_map placed_in (enumerate_from (k + 1) (map timed_node nodes)))
      ∙ (ap (λ b. b && list_all (leaves_be a) (flat_map placed_in (enumerate_from (k + 1) (map timed_node nodes)))) here ∙ nodes_untouched nodes count (k + 1) both.1)

-- ---- ports

-- no operation stores in a table
pub untouched : (p : Plan) (names : List Register) (of : Context) (a : ℕ) (memory : Memory) (words : List ℕ) → IsContext p names of → slice_get of.cfg.now.frame.memories.items a ≡ Some memory → memory.table ≡ Some words
    → list_all (leaves_be a) (all_ops p) ≡ true
untouched p names of a memory words context at table =
    let cfg = of.cfg.now in
    let valid : are_nodes cfg ≡ true = second_of_both (is_node (length cfg.nodes.items) cfg.first) _ (second_of_both _ _ of.buildable.valid) in
    ap (λ (q : Plan). list_all (leaves_be a) (all_ops q)) context.plan ∙ nodes_untouched cfg.frame a memory words at table cfg.nodes.items (length cfg.nodes.items) 0 valid

-- where no operation stores in an array, nothing is stored at its ports
pub none_stored : (p : Plan) (a n : ℕ) → list_all (leaves_be a) (all_ops p) ≡ true → (c : Cycle) → stored_writes p c a n ≡ []
none_stored p a n h = λ c. ap (map (λ (x : Placed). where_ (is_storing p c x) (stored (arguments p c x)))) none where
  none : ports.stores p a n ≡ []
  none = none_kept (λ (x : Placed). is_store x.op.op.kind) (at_port p a n)
      (still_all (λ (x : Placed). port_of p a x == n) (λ (x : Placed). not (is_store x.op.op.kind)) (accesses p a)
      (kept_apart (λ (x : Placed). is_array a x.op.op.array && (is_load x.op.op.kind || is_store x.op.op.kind)) (λ (x : Placed). is_store x.op.op.kind) (all_ops p) h))

-- nothing is stored at a table's ports
pub nothing_wanted : (p : Plan) (names : List Register) (of : Context) (a n : ℕ) (words : List ℕ) → a < length p.arrays → (array_at p a).table ≡ Some words → IsContext p names of → (c : Cycle) → stored_writes p c a n ≡ []
nothing_wanted p names of a n words inside table context =
    let memories = of.cfg.now.frame.memories.items in
    let arrays : p.arrays ≡ map array_of memories = ap (λ (q : Plan). q.arrays) context.plan in
    let low : a < length memories = subst (λ k. a < k) (ap length arrays ∙ length-map memories array_of) inside in
    let some = some_there memories a low in
    let there : slice_get p.arrays a ≡ Some (array_of some.0) = ap (λ l. slice_get l a) arrays ∙ (slice_get-map array_of memories a ∙ ap (option_map array_of) some.1) in
    none_stored p a n (untouched p names of a some.0 words context some.1 (ap (λ (x : Array). x.table) (sym (get_or_from_slice_get p.arrays a (array_of some.0) no_array there)) ∙ table)) where
      some_there : {A : Type 0} (xs : List A) (k : ℕ) → k < length xs → (x : A) × (slice_get xs k ≡ Some x)
      some_there [] k h = absurd (omega (arith, h))
      some_there (x ∷ xs) zero h = (x, refl)
      some_there (x ∷ xs) (suc k) h = some_there xs k (omega (arith, h))
