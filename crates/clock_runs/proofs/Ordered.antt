-- Start times that keep a body's edges keep the order of its accesses.
use Rattle.std.proofs.Common.{◌≡◌, ℕ, suc, ◌+◌, ◌-◌, ◌*◌, ◌<◌, ◌≤◌, ◌⊎◌, ◌∙◌, inl, inr, sym, refl, ap, ap₂, subst, Bool, true, false, ◌||◌, List, Some, if◌then◌else◌, arith}
use Rattle.std.specs.Prelude.{slice_index}
use Rattle.std.specs.List.{Contains}
use Rattle.std.proofs.lemmas.Bool.{cases_eq, or_right, or_left}
use Rattle.std.proofs.Math.Nat.{mul-le-mul_right}
use Rattle.ir_core.specs.declared.body.Body.{Body}
use Rattle.ir_core.specs.declared.body.Op.{Op}
use Rattle.ir_core.specs.declared.body.Out.{Out}
use Rattle.ir_core.specs.declared.stamp.Untimed.{Untimed}
use Rattle.dep_graph.specs.declared.edge.Edge.{Edge}
use Rattle.dep_graph.specs.Offsets.{nth, sums_of}
use Rattle.dep_graph.specs.Meetings.{is_store, subscripts_of, distances_between}
use Rattle.dep_graph.specs.Dependences.{memory_edge, edges_of}
use Rattle.ir_core.specs.Bodies.{OpTree}
use Rattle.clock_runs.proofs.Effects.{sort_of}
use Rattle.clock_runs.proofs.Settings.{Setting, op_at, ops_of, count_of, moment, Begins, Runs, LoadsAt, StoresAt, time_of, IsTimely, IsBefore, KeepsOrder}
use Rattle.clock_runs.proofs.Numbers.{later_turn}
use Rattle.clock_runs.proofs.Same.{runs_earlier}
use Rattle.clock_runs.proofs.Defined.{Defined}
use Rattle.clock_runs.proofs.Growing.{Foresees}
use Rattle.clock_runs.proofs.Sums.{IsCopy}
use Rattle.clock_runs.proofs.Subscripts.{HaveGrown}
use Rattle.clock_runs.proofs.Accesses.{Touches, load_touches, store_touches, stores_are, store_kind}
use Rattle.clock_runs.proofs.Edges.{reach_at, near_edge, far_edge}
use Rattle.clock_runs.proofs.Order.{AreShort, meet}

-- The start times are the times of nodes, and keep the edges; those to later iterations, where one begins before the horizon.
pub record AreKept (s : Setting) (body : Body Untimed) (times : List ℕ) (horizon : ℕ) : Type 0 where
  pub starts : (k : ℕ) → k < count_of s → (op_at s k).start ≡ slice_index times (k + 1)
  pub waits : (e : Edge) → Contains (edges_of body) e → (e.distance ≡ 0) ⊎ (s.body.interval < horizon) → slice_index times e.from + e.latency ≤ slice_index times e.to + e.distance * s.body.interval

-- what runs before the horizon is defined, and counters grow there
pub record IsDefinedRun (s : Setting) (body : Body Untimed) (horizon : ℕ) : Type 0 where
  pub defined : (i k : ℕ) → i * s.body.interval < horizon → Runs s i k → Defined s (moment s i) k
  pub grows : (i d : ℕ) → (i + d) * s.body.interval < horizon → Begins s (i + d) → HaveGrown s body (moment s i) (moment s (i + d)) d

-- what must pass from one access to a later one of the same word
abbrev gap : Bool → ℕ
gap stores = if stores then 1 else 0

module _ (s : Setting) (carried : List Out) (body : Body Untimed) (copy : IsCopy s carried body) (short : AreShort s.shapes) (w : IsTimely s) (times : List ℕ) (horizon : ℕ) (kept : AreKept s body times horizon) (run : IsDefinedRun s body horizon) where
  abbrev width : ℕ
  width = s.body.interval

  abbrev kind_stores : ℕ → Bool
  kind_stores k = is_store (op_at s k).op.kind

  earlier_defined : (i k : ℕ) → i * width < horizon → Runs s i k → (j : ℕ) → j < k → Defined s (moment s i) j
  earlier_defined i k h r j lt = run.defined i j h (runs_earlier s w i k j r lt)

  -- the two operations, and the distance at which they meet
  module _ (i d k n memory address : ℕ) (late : (i + d) * width < horizon) (r : Runs s i k) (q : Runs s (i + d) n) (p1 : Touches s (moment s i) k memory address) (p2 : Touches s (moment s (i + d)) n memory address)
      (some_store : (kind_stores k || kind_stores n) ≡ true) where
    soon : i * width < horizon
    soon = (let less : i * width ≤ (i + d) * width = later_turn width i (i + d) (omega arith) in omega arith)

    met : (u v : Op Untimed) → nth body.ops.items k ≡ Some u → nth body.ops.items n ≡ Some v → Foresees d (distances_between (subscripts_of body (sums_of body) u) (subscripts_of body (sums_of body) v))
    met u v a b = meet s carried body copy short (moment s i) (moment s (i + d)) d k n memory address u v a b (earlier_defined i k soon r) (earlier_defined (i + d) n late q) (run.grows i d late q.0) p1 p2

    stores_of : (j : ℕ) (u : Op Untimed) → nth body.ops.items j ≡ Some u → is_store u.kind ≡ kind_stores j
    stores_of j u e = ap (λ (op : OpTree). is_store op.kind) (copy.ops j u e).1

    either : (u v : Op Untimed) → nth body.ops.items k ≡ Some u → nth body.ops.items n ≡ Some v → (is_store u.kind || is_store v.kind) ≡ true
    either u v a b = ap₂ (λ x y. x || y) (stores_of k u a) (stores_of n v b) ∙ some_store

    array_of : (j : ℕ) (t : Touches s (moment s i) j memory address) (u : Op Untimed) → nth body.ops.items j ≡ Some u → u.array ≡ Some t.array
    array_of j t u e = ap (λ (op : OpTree). op.array) (copy.ops j u e).1 ∙ t.here

    -- in one iteration
    near_order : d ≡ 0 → k < n → (op_at s k).start + gap (kind_stores k) ≤ (op_at s n).start
    near_order none lt =
        let a = copy.found k r.1 in
        let b = copy.found n q.1 in
        let u = a.0 in
        let v = b.0 in
        let array : v.array ≡ Some p2.array = ap (λ (op : OpTree). op.array) (copy.ops n v b.1).1 ∙ p2.here in
        let e = near_edge body k n u v p1.array p2.array a.1 b.1 (array_of k p1 u a.1) array (p1.same ∙ sym p2.same) (either u v a.1 b.1) lt (subst (λ z. Foresees z (distances_between (subscripts_of body (sums_of body) u) (subscripts_of body (sums_of body) v))) none (met u v a.1 b.1)) in
        let held = kept.waits (memory_edge (reach_at body k u p1.array) (reach_at body n v p2.array) 0) e (inl refl) in
        let same : gap (is_store u.kind) ≡ gap (kind_stores k) = ap gap (stores_of k u a.1) in
        let first = kept.starts k r.1 in
        let second = kept.starts n q.1 in
        omega arith

    -- in a later one
    far_order : (e : ℕ) → d ≡ suc e → (op_at s k).start + gap (kind_stores k) ≤ (op_at s n).start + d * width
    far_order e more =
        let some = w.interval in
        let least : 1 * width ≤ d * width = mul-le-mul_right width (omega arith) in
        let small : gap (kind_stores k) ≤ 1 = gap_small (kind_stores k) in
        elim (cases_eq k n) [
          | inl same ↦ (let start : (op_at s k).start ≡ (op_at s n).start = ap (λ j. (op_at s j).start) same in omega arith)
          | inr differ ↦
              let a = copy.found k r.1 in
              let b = copy.found n q.1 in
              let u = a.0 in
              let v = b.0 in
              let array : v.array ≡ Some p2.array = ap (λ (op : OpTree). op.array) (copy.ops n v b.1).1 ∙ p2.here in
              let f = far_edge body k n u v p1.array p2.array a.1 b.1 (array_of k p1 u a.1) array (p1.same ∙ sym p2.same) (either u v a.1 b.1) e differ (subst (λ z. Foresees z (distances_between (subscripts_of body (sums_of body) u) (subscripts_of body (sums_of body) v))) more (met u v a.1 b.1)) in
              let one : 1 * width ≤ (i + d) * width = mul-le-mul_right width (omega arith) in
              let before : width < horizon = omega arith in
              let held = kept.waits (memory_edge (reach_at body k u p1.array) (reach_at body n v p2.array) f.0) f.1.1 (inr before) in
              let fewer : f.0 * width ≤ d * width = mul-le-mul_right width (let z : f.0 ≤ suc e = f.1.0 in omega arith) in
              let same : gap (is_store u.kind) ≡ gap (kind_stores k) = ap gap (stores_of k u a.1) in
              let first = kept.starts k r.1 in
              let second = kept.starts n q.1 in
              omega arith
        ]
      where
        gap_small : (b : Bool) → gap b ≤ 1
        gap_small true = omega arith
        gap_small false = omega arith

  -- an access and a later one of the same word
  ordered : (i k j n memory address : ℕ) → j * width < horizon → Runs s i k → Runs s j n → IsBefore i k j n → Touches s (moment s i) k memory address → Touches s (moment s j) n memory address
      → (kind_stores k || kind_stores n) ≡ true → time_of s i k + gap (kind_stores k) ≤ time_of s j n
  ordered i k j n memory address late r q before p1 p2 some_store = elim before [
    | inl lt ↦
        let d = j - i in
        let next : j ≡ i + d = omega arith in
        let far = far_order i d k n memory address (subst (λ z. z * width < horizon) next late) r (subst (λ z. Runs s z n) next q) p1 (subst (λ z. Touches s (moment s z) n memory address) next p2) some_store (d - 1) (omega arith) in
        let turns : j * width ≡ i * width + d * width = ap (λ z. z * width) next ∙ (let z : (i + d) * width ≡ i * width + d * width = omega arith in z) in
        omega arith
    | inr e ↦
        let same : j ≡ i + 0 = (let z = e.0 in omega arith) in
        let near = near_order i 0 k n memory address (subst (λ z. z * width < horizon) same late) r (subst (λ z. Runs s z n) same q) p1 (subst (λ z. Touches s (moment s z) n memory address) same p2) some_store refl e.1 in
        let turns : i * width ≡ j * width = ap (λ z. z * width) e.0 in
        omega arith
  ]

  touches_load : (i k memory address : ℕ) → i * width < horizon → Runs s i k → LoadsAt s i k memory address → Touches s (moment s i) k memory address
  touches_load i k memory address h r l = load_touches s (moment s i) k (ops_of s) (copy.sound k r.1).kind (run.defined i k h r) memory address l

  touches_store : (i k memory address : ℕ) → i * width < horizon → Runs s i k → StoresAt s i k memory address → Touches s (moment s i) k memory address
  touches_store i k memory address h r l = store_touches s (moment s i) k (ops_of s) (copy.sound k r.1).kind (run.defined i k h r) memory address l

  is_storing : (i k memory address : ℕ) → StoresAt s i k memory address → kind_stores k ≡ true
  is_storing i k memory address h = ap is_store (store_kind (op_at s k).op.kind (stores_are s.shapes (op_at s k).op (sort_of (op_at s k).op.kind) _ _ memory address h).0)

  pub keeps_order : KeepsOrder s horizon
  keeps_order = record {
    load_after_store = λ i k j n memory address a b r q before st ld.
        (let on = is_storing i k memory address st in
        let h = ordered i k j n memory address b r q before (touches_store i k memory address a r st) (touches_load j n memory address b q ld) (or_left _ _ on) in
        let one : gap (kind_stores k) ≡ 1 = ap gap on in
        omega arith);
    store_after_load = λ i k j n memory address a b r q before ld st.
        (let on = is_storing j n memory address st in
        let h = ordered i k j n memory address b r q before (touches_load i k memory address a r ld) (touches_store j n memory address b q st) (or_right _ _ on) in
        omega arith);
    store_after_store = λ i k j n memory address a b r q before st su.
        (let on = is_storing i k memory address st in
        let h = ordered i k j n memory address b r q before (touches_store i k memory address a r st) (touches_store j n memory address b q su) (or_left _ _ on) in
        let one : gap (kind_stores k) ≡ 1 = ap gap on in
        omega arith);
  }
