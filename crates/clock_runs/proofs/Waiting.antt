-- Operations wait for what their operands name, and stores for the test.
use Rattle.std.proofs.Common.{◌≡◌, ℕ, zero, suc, ◌+◌, ◌*◌, ◌<◌, ◌≤◌, ◌⊎◌, inl, inr, sym, refl, ap, subst, true, List, [], ◌∷◌, ◌++◌, Option, Some, None, arith}
use Rattle.std.specs.Prelude.{option_to_list}
use Rattle.std.specs.List.{Contains}
use Rattle.std.proofs.lemmas.List.Elements.{Contains-append_left, Contains-append_right, Contains-append_cases}
use Rattle.std.proofs.lemmas.Bool.{cond-true}
use Rattle.hls_base.specs.declared.number.OpId.{OpId}
use Rattle.ir_core.specs.declared.body.Body.{Body}
use Rattle.ir_core.specs.declared.body.Op.{Op}
use Rattle.ir_core.specs.declared.body.Operand.{Operand}
use Rattle.ir_core.specs.declared.body.Out.{Out}
use Rattle.ir_core.specs.declared.stamp.Untimed.{Untimed}
use Rattle.ir_core.specs.Timing as timing
use Rattle.dep_graph.specs.declared.edge.Edge.{Edge}
use Rattle.dep_graph.specs.declared.edge.Why.{Why}
use Rattle.dep_graph.specs.declared.edge.Why.TheVariants as w
use Rattle.dep_graph.specs.Offsets.{nth, sums_of}
use Rattle.dep_graph.specs.Meetings.{is_store, reaches_from}
use Rattle.dep_graph.specs.Dependences.{gather, maker_of, edge_behind, edges_behind, data_edge, data_edges, test_maker, control_edges, op_edges, edges_of_reaches}
use Rattle.ir_core.specs.Bodies.{OpTree}
use Rattle.clock_ir.specs.Flows.{latency}
use Rattle.clock_runs.proofs.Settings.{Setting, op_at, count_of, available}
use Rattle.clock_runs.proofs.Sums.{IsCopy}
use Rattle.clock_runs.proofs.Ordered.{AreKept}
use Rattle.clock_runs.proofs.Lists.{some_same, no_some, one_contains, gather_contains}

-- the edges of operation i of these
op_edges_in : (body : Body Untimed) (rest : List (Op Untimed)) (k i : ℕ) (u : Op Untimed) (e : Edge) → nth rest i ≡ Some u → Contains (data_edges body (k + i + 1) u ++ control_edges body (k + i + 1) u) e → Contains (op_edges body k rest) e
op_edges_in body [] k i u e n c = absurd (no_some n)
op_edges_in body (v ∷ rest) k zero u e n c =
    let here : k + 0 + 1 ≡ k + 1 = omega arith in
    let at : Contains (data_edges body (k + 1) v ++ control_edges body (k + 1) v) e = subst (λ (x : Op Untimed). Contains (data_edges body (k + 1) x ++ control_edges body (k + 1) x) e) (sym (some_same n)) (subst (λ j. Contains (data_edges body j u ++ control_edges body j u) e) here c) in
    Contains-append_left (data_edges body (k + 1) v ++ control_edges body (k + 1) v) (op_edges body (suc k) rest) e at
op_edges_in body (v ∷ rest) k (suc i) u e n c =
    let next : k + suc i + 1 ≡ suc k + i + 1 = omega arith in
    Contains-append_right (data_edges body (k + 1) v ++ control_edges body (k + 1) v) (op_edges body (suc k) rest) e
    (op_edges_in body rest (suc k) i u e n (subst (λ j. Contains (data_edges body j u ++ control_edges body j u) e) next c))

abbrev edge_from : OpId → Op Untimed → ℕ → ℕ → Why → Edge
edge_from from v to distance why = record { from = from.0 + 1; to = to; latency = timing.latency v.kind v.bits; distance = distance; why = why }

edge_there : (body : Body Untimed) (from : OpId) (v : Op Untimed) (to distance : ℕ) (why : Why) (p : Option OpId) → p ≡ Some from → nth body.ops.items from.0 ≡ Some v → Contains (edges_behind body.ops.items p to distance why) (edge_from from v to distance why)
edge_there body from v to distance why p e n =
    subst (λ q. Contains (edges_behind body.ops.items q to distance why) (edge_from from v to distance why)) (sym e)
    (subst (λ o. Contains (edge_behind from.0 o to distance why) (edge_from from v to distance why)) (sym n) (one_contains (edge_from from v to distance why)))

pub guard_there : (p : Option Operand) (x : Operand) → p ≡ Some x → Contains (option_to_list p) x
guard_there None x e = absurd (no_some e)
guard_there (Some y) x e = subst (λ z. Contains (y ∷ []) z) (some_same e) (one_contains y)

module _ (s : Setting) (carried : List Out) (body : Body Untimed) (copy : IsCopy s carried body) (times : List ℕ) (horizon : ℕ) (kept : AreKept s body times horizon) where
  abbrev width : ℕ
  width = s.body.interval

  latency_same : (j : OpId) (v : Op Untimed) → nth body.ops.items j.0 ≡ Some v → timing.latency v.kind v.bits ≡ latency (op_at s j.0)
  latency_same j v e = ap (λ (op : OpTree). timing.latency op.kind op.bits) (copy.ops j.0 v e).1

  -- an operation waits for one that it names
  pub data_wait : (k : ℕ) (u : Op Untimed) (x : Operand) (j : OpId) → k < count_of s → nth body.ops.items k ≡ Some u → Contains (u.args.items ++ option_to_list u.guard) x → maker_of body.outs.items x ≡ Some j → j.0 < count_of s
      → (x.distance ≡ 0) ⊎ (width < horizon) → available s j.0 ≤ (op_at s k).start + x.distance * width
  data_wait k u x j lt here c made within near =
      let v = copy.found j.0 within in
      let edge = edge_from j v.0 (k + 1) x.distance w.Data in
      let one : Contains (data_edge body (k + 1) x) edge = edge_there body j v.0 (k + 1) x.distance w.Data (maker_of body.outs.items x) made v.1 in
      let both : Contains (data_edges body (k + 1) u) edge = elim (Contains-append_cases u.args.items (option_to_list u.guard) x c) [
        | inl a ↦ Contains-append_left (gather (data_edge body (k + 1)) u.args.items) (gather (data_edge body (k + 1)) (option_to_list u.guard)) edge (gather_contains (data_edge body (k + 1)) u.args.items x edge a one)
        | inr g ↦ Contains-append_right (gather (data_edge body (k + 1)) u.args.items) (gather (data_edge body (k + 1)) (option_to_list u.guard)) edge (gather_contains (data_edge body (k + 1)) (option_to_list u.guard) x edge g one)
      ] in
      let number : k + 1 ≡ 0 + k + 1 = omega arith in
      let all : Contains (op_edges body 0 body.ops.items) edge = op_edges_in body body.ops.items 0 k u edge here (subst (λ n. Contains (data_edges body n u ++ control_edges body n u) edge) number (Contains-append_left (data_edges body (k + 1) u) (control_edges body (k + 1) u) edge both)) in
      let held = kept.waits edge (Contains-append_left (op_edges body 0 body.ops.items) (edges_of_reaches (reaches_from body (sums_of body) 0 body.ops.items)) edge all) near in
      let lat = latency_same j v.0 v.1 in
      let first = kept.starts j.0 within in
      let second = kept.starts k lt in
      omega arith

  -- a store waits for the test
  pub control_wait : (k : ℕ) (u : Op Untimed) (j : OpId) → k < count_of s → nth body.ops.items k ≡ Some u → is_store u.kind ≡ true → test_maker body.test ≡ Some j → j.0 < count_of s → available s j.0 ≤ (op_at s k).start
  control_wait k u j lt here stores made within =
      let v = copy.found j.0 within in
      let edge = edge_from j v.0 (k + 1) 0 w.Control in
      let one : Contains (edges_behind body.ops.items (test_maker body.test) (k + 1) 0 w.Control) edge = edge_there body j v.0 (k + 1) 0 w.Control (test_maker body.test) made v.1 in
      let both : Contains (control_edges body (k + 1) u) edge = subst (λ es. Contains es edge) (sym (cond-true _ _ _ stores)) one in
      let number : k + 1 ≡ 0 + k + 1 = omega arith in
      let all : Contains (op_edges body 0 body.ops.items) edge = op_edges_in body body.ops.items 0 k u edge here (subst (λ n. Contains (data_edges body n u ++ control_edges body n u) edge) number (Contains-append_right (data_edges body (k + 1) u) (control_edges body (k + 1) u) edge both)) in
      let held = kept.waits edge (Contains-append_left (op_edges body 0 body.ops.items) (edges_of_reaches (reaches_from body (sums_of body) 0 body.ops.items)) edge all) (inl refl) in
      let lat = latency_same j v.0 v.1 in
      let first = kept.starts j.0 within in
      let second = kept.starts k lt in
      omega arith
