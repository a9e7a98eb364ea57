-- What well timed nodes keep.
use Rattle.std.proofs.Common.{◌≡◌, ℕ, zero, suc, ◌+◌, ◌<◌, ◌≤◌, ◌^◌, inl, inr, List, [], ◌∷◌, length, slice_get, Option, Some, None, refl, sym, ap, ap₂, ◌∙◌, subst, arith}
use Rattle.std.specs.Prelude.{slice_index}
use Rattle.std.specs.List.{All}
use Rattle.std.specs.Option.{option_map}
use Rattle.std.proofs.lemmas.Bool.{cases_lt}
use Rattle.std.proofs.lemmas.List.{get_or_past}
use Rattle.std.proofs.lemmas.Option.{slice_get-map}
use Rattle.hls_base.specs.declared.number.OpId.{OpId}
use Rattle.ir_core.specs.declared.body.Body.{Body}
use Rattle.ir_core.specs.declared.body.Op.{Op}
use Rattle.ir_core.specs.declared.body.Operand.{Operand}
use Rattle.ir_core.specs.declared.body.Source.{Source}
use Rattle.ir_core.specs.declared.body.Source.TheVariants as source
use Rattle.ir_core.specs.declared.cfg.Memory.{Memory}
use Rattle.ir_core.specs.declared.cfg.Node.{Node}
use Rattle.ir_core.specs.declared.cfg.Node.TheVariants as node
use Rattle.ir_core.specs.declared.stamp.Untimed.{Untimed}
use Rattle.ir_core.specs.Timing as timing
use Rattle.ir_core.specs.declared.timed.Timed.{Timed}
use Rattle.dep_graph.specs.declared.edge.Edge.{Edge}
use Rattle.dep_graph.specs.declared.edge.Why.TheVariants as why
use Rattle.dep_graph.specs.Dependences.{test_maker}
use Rattle.dep_graph.specs.Offsets.{result_of}
use Rattle.unit_binding.specs.Copies.{AreTimedCopies, IsTimedBody}
use Rattle.modulo_loop.specs.Rules.{latency_at, latency_of, known_source, known_first, known_rules}
use Rattle.clock_ir.specs.Flows.{timed_op, timed_body, ready_if, ready_in, known}
use Rattle.clock_ir.specs.WellTimed.{Keeps, IsWellTimedNode, AreWellTimed}
use Rattle.clock_machine.specs.Lines.{IsUntestedNode}
use Rattle.clock_machine.specs.Lines.Reads.{AreEarly}
use Rattle.clock_machine.specs.Lines.Regions.{IsOrderlyNode}

-- ---- times

all_early : (times : List ℕ) → All (λ t. t < 2 ^ 32) times → (j : ℕ) → slice_index times j < 2 ^ 32
all_early times h j = elim (cases_lt j (length times)) [
  | inl lt ↦ h j 0 lt
  | inr le ↦ (let e = get_or_past times j 0 le in omega (arith, e))
]

-- the operation of which one is a copy
record IsCopied (times units : List ℕ) (k i : ℕ) (ops : List (Op Untimed)) (copy : Op Timed) : Type 0 where
  pub op : Op Untimed
  pub at : slice_get ops i ≡ Some op
  pub start : copy.stamp.start ≡ slice_index times (k + i + 1)
  pub latency : timing.latency copy.kind copy.bits ≡ timing.latency op.kind op.bits

copied : (times units : List ℕ) (k : ℕ) (ops : List (Op Untimed)) (copies : List (Op Timed)) → AreTimedCopies times units k ops copies → (i : ℕ) (copy : Op Timed) → slice_get copies i ≡ Some copy → IsCopied times units k i ops copy
copied times units k [] [] h i copy is = absurd (cc)
copied times units k [] (c ∷ cs) h i copy is = absurd h
copied times units k (o ∷ os) [] h i copy is = absurd h
copied times units k (o ∷ os) (c ∷ cs) h zero copy is =
    let same : c ≡ copy = (cc) in
    let one = h.0 in record {
      op = o;
      at = refl;
      start = ap (λ (x : Op Timed). x.stamp.start) (sym same) ∙ one.at_time ∙ ap (slice_index times) (let z : k + 1 ≡ k + 0 + 1 = omega arith in z);
      latency = ap (λ (x : Op Timed). timing.latency x.kind x.bits) (sym same) ∙ ap₂ timing.latency one.same_kind one.same_bits;
    }
copied times units k (o ∷ os) (c ∷ cs) h (suc i) copy is =
    let more = copied times units (suc k) os cs h.1 i copy is in record {
      op = more.op;
      at = more.at;
      start = more.start ∙ ap (slice_index times) (let z : suc k + i + 1 ≡ k + suc i + 1 = omega arith in z);
      latency = more.latency;
    }

module _ (times units : List ℕ) (body : Body Untimed) (copy : Body Timed) (timed : IsTimedBody times units body copy) (early : All (λ t. t < 2 ^ 32) times) where
  pub starts_early : AreEarly copy.ops.items
  starts_early k op is =
      let one = copied times units 0 body.ops.items copy.ops.items timed.ops k op is in
      subst (λ t. t < 2 ^ 32) (sym one.start) (all_early times early (0 + k + 1))

  -- ---- tests

  pub untested : (interval : ℕ) → body.test ≡ None → known (timed_body interval copy) ≤ interval
  untested interval none_ = subst (λ t. ready_if (timed_body interval copy) (test_maker t) ≤ interval) (sym (timed.test ∙ none_)) (omega arith)

  module _ (interval : ℕ) (begins : slice_index times 0 ≡ 0) (waits : All (Keeps times interval) (known_rules body.ops.items (known_first body.outs.items body.test))) where
    known_edge : OpId → Edge
    known_edge op = record { from = op.0 + 1; to = 0; latency = latency_of body.ops.items op; distance = 1; why = why.Known }

    ready_soon : (op : OpId) → All (Keeps times interval) (known_rules body.ops.items (Some op)) → (c : Option (Op Timed)) → slice_get copy.ops.items op.0 ≡ c → ready_in (option_map timed_op c) ≤ interval
    ready_soon op rules None is = omega arith
    ready_soon op rules (Some c) is =
        let one = copied times units 0 body.ops.items copy.ops.items timed.ops op.0 c is in
        let keeps = rules 0 (known_edge op) (omega arith) in
        let lat : latency_of body.ops.items op ≡ timing.latency one.op.kind one.op.bits = ap latency_at one.at in
        let at : slice_index times (0 + op.0 + 1) ≡ slice_index times (op.0 + 1) = ap (slice_index times) (let z : 0 + op.0 + 1 ≡ op.0 + 1 = omega arith in z) in
        omega (arith, keeps, lat, at, one.start, one.latency, begins)

    by_source : (v : Source) → All (Keeps times interval) (known_rules body.ops.items (known_source body.outs.items v)) → ready_if (timed_body interval copy) (result_of v) ≤ interval
    by_source (source.Constant w) rules = omega arith
    by_source (source.Variable v) rules = omega arith
    by_source (source.Result op) rules =
        subst (λ x. ready_in x ≤ interval) (sym (slice_get-map timed_op copy.ops.items op.0)) (ready_soon op rules (slice_get copy.ops.items op.0) refl)

    tested : (t : Option Operand) → All (Keeps times interval) (known_rules body.ops.items (known_first body.outs.items t)) → ready_if (timed_body interval copy) (test_maker t) ≤ interval
    tested None rules = omega arith
    tested (Some x) rules = by_source x.value rules

    pub known_soon : known (timed_body interval copy) ≤ interval
    known_soon = subst (λ t. ready_if (timed_body interval copy) (test_maker t) ≤ interval) (sym timed.test) (tested body.test waits)

-- ---- nodes

orderly_node : (memories : List Memory) (n : Node Untimed) (t : Node Timed) → IsWellTimedNode memories n t → IsUntestedNode n → IsOrderlyNode t
orderly_node memories (node.Plain b) (node.Plain t) h none_ =
    let w = h.1.1 in record {
      early = starts_early h.0 h.1.0 b.body t.body w.body w.early;
      positive = omega (arith, w.long_enough.some);
      known = untested h.0 h.1.0 b.body t.body w.body w.early t.length none_;
    }
orderly_node memories (node.Looped r) (node.Looped t) h none_ =
    let w = h.1.1 in record {
      early = starts_early h.0 h.1.0 r.body t.body w.body w.early;
      positive = omega (arith, w.positive);
      known = known_soon h.0 h.1.0 r.body t.body w.body w.early t.ii w.begins w.known;
    }
orderly_node memories n t h none_ = absurd h

pub orderly_at : (memories : List Memory) (ns : List (Node Untimed)) (ts : List (Node Timed)) → AreWellTimed memories ns ts → ((k : ℕ) (n : Node Untimed) → slice_get ns k ≡ Some n → IsUntestedNode n) → (k : ℕ) (t : Node Timed) → slice_get ts k ≡ Some t → IsOrderlyNode t
orderly_at memories [] [] h none_ k t is = absurd (cc)
orderly_at memories [] (y ∷ ys) h none_ k t is = absurd h
orderly_at memories (x ∷ xs) [] h none_ k t is = absurd h
orderly_at memories (x ∷ xs) (y ∷ ys) h none_ zero t is = subst IsOrderlyNode (let z : y ≡ t = cc in z) (orderly_node memories x y h.0 (none_ 0 x refl))
orderly_at memories (x ∷ xs) (y ∷ ys) h none_ (suc k) t is = orderly_at memories xs ys h.1 (λ i n at. none_ (suc i) n at) k t is
