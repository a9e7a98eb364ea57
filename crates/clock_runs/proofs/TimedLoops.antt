-- A well timed loop keeps what its operations and its exit wait for.
use Rattle.std.proofs.Common.{◌≡◌, ℕ, suc, ◌+◌, ◌*◌, ◌<◌, ◌≤◌, ◌∙◌, inl, inr, sym, refl, ap, ap₂, subst, true, List, map, length, Option, Some, None, arith}
use Rattle.std.specs.Prelude.{slice_index, slice_get}
use Rattle.std.specs.List.{All}
use Rattle.std.proofs.lemmas.List.{length-map}
use Rattle.std.proofs.lemmas.List.Elements.{All-contains}
use Rattle.std.proofs.lemmas.Option.{slice_get-get_or}
use Rattle.hls_base.specs.declared.number.OpId.{OpId}
use Rattle.ir_core.specs.declared.body.Op.{Op}
use Rattle.ir_core.specs.declared.body.Operand.{Operand}
use Rattle.ir_core.specs.declared.body.Out.{Out}
use Rattle.ir_core.specs.declared.body.Source.{Source}
use Rattle.ir_core.specs.declared.body.Source.TheVariants as source
use Rattle.ir_core.specs.declared.cfg.Loop.{Loop}
use Rattle.ir_core.specs.declared.cfg.Memory.{Memory}
use Rattle.ir_core.specs.declared.stamp.Untimed.{Untimed}
use Rattle.ir_core.specs.Timing as timing
use Rattle.ir_core.specs.declared.timed.Timed.{Timed}
use Rattle.dep_graph.specs.declared.edge.Edge.{Edge}
use Rattle.dep_graph.specs.declared.edge.Why.TheVariants as w
use Rattle.dep_graph.specs.Offsets.{maker, result_of}
use Rattle.dep_graph.specs.Meetings.{is_store}
use Rattle.dep_graph.specs.Dependences.{test_maker}
use Rattle.modulo_loop.specs.Rules as rules
use Rattle.modulo_loop.specs.Lowest as lowest
use Rattle.ir_core.specs.Bodies.{OpTree, op_of, Shapes, Words}
use Rattle.ir_core.specs.TreeRuns.{tested, tested_by}
use Rattle.clock_ir.specs.Flows.{TimedOp, latency, ready_if, known, entered}
use Rattle.clock_ir.specs.WellTimed.{Keeps, IsWellTimedLoop}
use Rattle.clock_runs.specs.Premises.{Each, IsOperandAs, IsOperandIf, NamesResult, IsSoundLoop}
use Rattle.clock_runs.proofs.Effects.{storing}
use Rattle.clock_runs.proofs.Settings.{Setting, nothing, op_at, ops_of, count_of, sort_at, available, IsReadyAs, IsReadyIf, IsTimely}
use Rattle.clock_runs.proofs.Reading.{ready_is}
use Rattle.clock_runs.proofs.Leaving.{IsTaken, CanExit}
use Rattle.clock_runs.proofs.Defined.{op_of_at}
use Rattle.clock_runs.proofs.Sums.{IsCopy}
use Rattle.clock_runs.proofs.Accesses.{store_kind}
use Rattle.clock_runs.proofs.Ordered.{AreKept}
use Rattle.clock_runs.proofs.Waiting.{control_wait}
use Rattle.clock_runs.proofs.Copies.{setting, ops_same, count_same, start_of, is_copy}
use Rattle.clock_runs.proofs.Timely.{IsLinked, carried_at, args_ready, guard_ready}
use Rattle.clock_runs.proofs.LoopOuts.{outs_apart, maker_within, entered_maker, IsMade, all_made, maker_again}
use Rattle.clock_runs.proofs.Lists.{nth_get, each_all, each_map, each_both}

module _ (shapes : Shapes) (memories : List Memory) (region : Loop Untimed) (timed : Loop Timed) (times units : List ℕ) (well : IsWellTimedLoop memories region timed times units) (sound : IsSoundLoop shapes region) (t : Words) where
  abbrev pub xs : List Out
  xs = region.body.outs.items

  abbrev pub s : Setting
  s = setting shapes timed.ii timed.body region.body.outs.items t

  pub copy : IsCopy s s.carried region.body
  copy = is_copy shapes timed.ii region.body timed.body times units well.body region.body.outs.items t sound.ops

  pub counted : count_of s ≡ length region.body.ops.items
  counted = count_same shapes timed.ii region.body timed.body times units well.body region.body.outs.items t

  listed : length (map op_of region.body.ops.items) ≡ count_of s
  listed = length-map region.body.ops.items (λ (u : Op Untimed). op_of u) ∙ sym counted

  pub kept : (horizon : ℕ) → AreKept s region.body times horizon
  kept horizon = record {
    starts = start_of shapes timed.ii region.body timed.body times units well.body region.body.outs.items t;
    waits = λ e c near.
        (let h : slice_index times e.from + e.latency ≤ slice_index times e.to + timed.ii * e.distance = All-contains (Keeps times timed.ii) _ e well.waits c in
        let turned : timed.ii * e.distance ≡ e.distance * timed.ii = omega arith in
        omega arith);
  }

  names : Each (NamesResult (count_of s)) region.body.outs.items
  names = subst (λ k. Each (NamesResult k) region.body.outs.items) listed sound.outs

  same_outs : s.body.outs ≡ region.body.outs.items
  same_outs = well.body.outs

  same_test : s.body.test ≡ region.body.test
  same_test = well.body.test

  pub links : (variable : ℕ) (j : OpId) → maker s.carried variable ≡ Some j → IsLinked s region.body (suc timed.ii) variable j
  links variable j e = record {
    timed = ap (λ ys. maker ys variable) same_outs ∙ e;
    untimed = e;
    within = maker_within (count_of s) region.body.outs.items variable j names e;
    entry = ap (λ ys. entered ys t.variables j.0) same_outs ∙ entered_maker (count_of s) region.body.outs.items t.variables variable j names sound.apart e;
    near = (let z : timed.ii < suc timed.ii = omega arith in z);
  }

  -- a value that the scheduler's own definitions speak of
  latency_is : (j : OpId) → j.0 < count_of s → rules.latency_of region.body.ops.items j ≡ latency (op_at s j.0)
  latency_is j lt =
      let f = copy.found j.0 lt in
      ap rules.latency_at (nth_get region.body.ops.items j.0 f.0 f.1) ∙ ap (λ (op : OpTree). timing.latency op.kind op.bits) (copy.ops j.0 f.0 f.1).1

  pub ready_then : (j : OpId) → j.0 < count_of s → lowest.ready region.body.ops.items times j ≡ available s j.0
  ready_then j lt = ap₂ (λ a b. a + b) (sym ((kept 0).starts j.0 lt)) (latency_is j lt)

  -- ---- the test

  -- known before the next iteration begins
  known_next : (p : Option OpId) (j : OpId) → rules.known_first region.body.outs.items region.body.test ≡ p → p ≡ Some j → j.0 < count_of s → available s j.0 ≤ timed.ii
  known_next p j e is lt =
      let edge : Edge = record { from = j.0 + 1; to = 0; latency = rules.latency_of region.body.ops.items j; distance = 1; why = w.Known } in
      let all : All (Keeps times timed.ii) (rules.known_rules region.body.ops.items (Some j)) = subst (λ q. All (Keeps times timed.ii) (rules.known_rules region.body.ops.items q)) (e ∙ is) well.known in
      let held : slice_index times (j.0 + 1) + rules.latency_of region.body.ops.items j ≤ slice_index times 0 + timed.ii * 1 = All-contains (Keeps times timed.ii) (rules.known_rules region.body.ops.items (Some j)) edge all (0, (let z : 0 < 1 = omega arith in z), refl) in
      let first = well.begins in
      let there = ready_then j lt in
      omega arith

  untimed_test : (p : Option Operand) → region.body.test ≡ p → known s.body ≡ ready_if s.body (test_maker p)
  untimed_test p e = ap (λ q. ready_if s.body (test_maker q)) (same_test ∙ e)

  test_as : (x : Operand) (value : Source) (distance : ℕ) → region.body.test ≡ Some x → x.value ≡ value → x.distance ≡ distance → IsOperandAs s.carried (count_of s) value distance → IsReadyAs s (tested (Some x)) (known s.body) value distance
  test_as x (source.Constant c) distance e is d h = tt
  test_as x (source.Variable v) distance e is d h = elim h [
    | inl fixed ↦ inl fixed
    | inr changed ↦
        let j = changed.1.0 in
        let l = links v.0 j changed.1.1 in
        let first : rules.known_first region.body.outs.items region.body.test ≡ Some j = ap (rules.known_first region.body.outs.items) e ∙ ap (rules.known_source region.body.outs.items) is ∙ maker_again (count_of s) region.body.outs.items v.0 j names changed.1.1 in
        let soon = known_next (Some j) j first refl l.within in
        inr (changed.0, (j, carried_at s region.body copy times (suc timed.ii) (kept (suc timed.ii)) links (known s.body) v.0 j changed.1.1 (omega arith)))
  ]
  test_as x (source.Result j) distance e is d h =
      let lt = h.1 in
      let number : tested (Some x) ≡ j.0 + 1 = ap tested_by is in
      let at : known s.body ≡ available s j.0 = untimed_test (Some x) e ∙ ap (λ y. ready_if s.body (result_of y)) is ∙ ready_is s j lt in
      (h.0, (let z : j.0 < tested (Some x) = omega arith in z), lt, (let z : available s j.0 ≤ known s.body = omega arith in z))

  test_ready : (p : Option Operand) → region.body.test ≡ p → IsOperandIf s.carried (count_of s) p → IsReadyIf s (tested p) (known s.body) p
  test_ready None e h = tt
  test_ready (Some x) e h = test_as x x.value x.distance e refl refl h

  tested_as : (value : Source) (distance : ℕ) → IsOperandAs s.carried (count_of s) value distance → tested_by value ≤ count_of s
  tested_as (source.Constant c) distance h = omega arith
  tested_as (source.Variable v) distance h = omega arith
  tested_as (source.Result j) distance h = (let lt = h.1 in omega arith)

  tested_if : (p : Option Operand) → IsOperandIf s.carried (count_of s) p → tested p ≤ count_of s
  tested_if None h = omega arith
  tested_if (Some x) h = tested_as x.value x.distance h

  test_operand : IsOperandIf s.carried (count_of s) region.body.test
  test_operand = subst (λ k. IsOperandIf s.carried k region.body.test) listed sound.test

  pub test_in : tested s.body.test ≤ count_of s
  test_in = subst (λ p. tested p ≤ count_of s) (sym same_test) (tested_if region.body.test test_operand)

  pub test_first : (k : ℕ) → k < count_of s → sort_at s k ≡ storing → tested s.body.test ≤ k
  test_first k lt store =
      let within : k < length (ops_of s) = omega (arith, length-map s.body.ops (λ (p : TimedOp). p.op)) in
      let there : slice_get (ops_of s) k ≡ Some (op_at s k).op = slice_get-get_or (ops_of s) k nothing.op within ∙ ap (λ z. Some z) (op_of_at s k lt) in
      let listed_there = ap (λ ops. slice_get ops k) (sym (ops_same shapes timed.ii region.body timed.body times units well.body region.body.outs.items t)) ∙ there in
      subst (λ p. tested p ≤ k) (sym same_test) (sound.stores k (op_at s k).op listed_there (store_kind (op_at s k).op.kind store))

  -- the test is known before a store starts
  known_as : (k : ℕ) (x : Operand) (value : Source) (distance : ℕ) → region.body.test ≡ Some x → x.value ≡ value → IsOperandAs s.carried (count_of s) value distance → k < count_of s → sort_at s k ≡ storing → known s.body ≤ (op_at s k).start
  known_as k x (source.Constant c) distance e is h lt store = (let at : known s.body ≡ 0 = untimed_test (Some x) e ∙ ap (λ y. ready_if s.body (result_of y)) is in omega arith)
  known_as k x (source.Variable v) distance e is h lt store = (let at : known s.body ≡ 0 = untimed_test (Some x) e ∙ ap (λ y. ready_if s.body (result_of y)) is in omega arith)
  known_as k x (source.Result j) distance e is h lt store =
      let f = copy.found k lt in
      let stores : is_store f.0.kind ≡ true = ap (λ (op : OpTree). is_store op.kind) (copy.ops k f.0 f.1).1 ∙ ap is_store (store_kind (op_at s k).op.kind store) in
      let maker_is : test_maker region.body.test ≡ Some j = ap test_maker e ∙ ap result_of is in
      let wait = control_wait s s.carried region.body copy times 0 (kept 0) k f.0 j lt f.1 stores maker_is h.1 in
      let at : known s.body ≡ available s j.0 = untimed_test (Some x) e ∙ ap (λ y. ready_if s.body (result_of y)) is ∙ ready_is s j h.1 in
      omega arith

  known_before : (p : Option Operand) (k : ℕ) → region.body.test ≡ p → IsOperandIf s.carried (count_of s) p → k < count_of s → sort_at s k ≡ storing → known s.body ≤ (op_at s k).start
  known_before None k e h lt store = (let at = untimed_test None e in omega arith)
  known_before (Some x) k e h lt store = known_as k x x.value x.distance e refl h lt store

  pub timely : IsTimely s
  timely = record {
    interval = (let z = well.positive in omega arith);
    outs = outs_apart (count_of s) region.body.outs.items names sound.apart;
    args = args_ready s region.body copy times (suc timed.ii) (kept (suc timed.ii)) links;
    guards = guard_ready s region.body copy times (suc timed.ii) (kept (suc timed.ii)) links;
    test = subst (λ p. IsReadyIf s (tested p) (known s.body) p) (sym same_test) (test_ready region.body.test refl test_operand);
    test_in = test_in;
    test_before = λ k lt store. (test_first k lt store, known_before region.body.test k refl test_operand lt store);
  }

  -- ---- the exit

  exit_as : (x : Operand) (value : Source) (distance : ℕ) → region.body.test ≡ Some x → x.value ≡ value → IsOperandAs s.carried (count_of s) value distance → known s.body ≤ timed.exit
  exit_as x (source.Constant c) distance e is h = (let at : known s.body ≡ 0 = untimed_test (Some x) e ∙ ap (λ y. ready_if s.body (result_of y)) is in omega arith)
  exit_as x (source.Variable v) distance e is h = (let at : known s.body ≡ 0 = untimed_test (Some x) e ∙ ap (λ y. ready_if s.body (result_of y)) is in omega arith)
  exit_as x (source.Result j) distance e is h =
      let known_then : lowest.known_at region.body.ops.items times (test_maker region.body.test) ≡ lowest.ready region.body.ops.items times j = ap (λ p. lowest.known_at region.body.ops.items times (test_maker p)) e ∙ ap (λ y. lowest.known_at region.body.ops.items times (result_of y)) is in
      let there = ready_then j h.1 in
      let leave = well.can_leave.test in
      let at : known s.body ≡ available s j.0 = untimed_test (Some x) e ∙ ap (λ y. ready_if s.body (result_of y)) is ∙ ready_is s j h.1 in
      omega arith

  exit_known : (p : Option Operand) → region.body.test ≡ p → IsOperandIf s.carried (count_of s) p → known s.body ≤ timed.exit
  exit_known None e h = (let at = untimed_test None e in omega arith)
  exit_known (Some x) e h = exit_as x x.value x.distance e refl h

  taken_then : (x : Out) → IsMade region.body.outs.items x → lowest.IsReadyBy (timed.exit + timed.ii) region.body.ops.items times (result_of x.value.value) → IsTaken s timed.exit x
  taken_then x m h =
      let j = m.0 in
      let l = links x.variable.0 j m.1.1 in
      let by : lowest.ready region.body.ops.items times j ≤ timed.exit + timed.ii = subst (λ y. lowest.IsReadyBy (timed.exit + timed.ii) region.body.ops.items times (result_of y)) m.1.0 h in
      let there = ready_then j l.within in
      (j, (m.1.0, carried_at s region.body copy times (suc timed.ii) (kept (suc timed.ii)) links timed.exit x.variable.0 j m.1.1 (omega arith)))

  pub can_exit : CanExit s timed.exit
  can_exit = record {
    carries = sym same_outs;
    known = exit_known region.body.test refl test_operand;
    stored = λ k lt store.
        (let f = copy.found k lt in
        let stores : is_store f.0.kind ≡ true = ap (λ (op : OpTree). is_store op.kind) (copy.ops k f.0 f.1).1 ∙ ap is_store (store_kind (op_at s k).op.kind store) in
        let done = well.can_leave.stores k f.0 (nth_get region.body.ops.items k f.0 f.1) stores in
        let start = (kept 0).starts k lt in
        omega arith);
    outs = subst (Each (IsTaken s timed.exit)) (sym same_outs) (each_both (IsMade region.body.outs.items) (λ (x : Out). lowest.IsReadyBy (timed.exit + timed.ii) region.body.ops.items times (result_of x.value.value)) (IsTaken s timed.exit) region.body.outs.items taken_then
        (all_made (count_of s) region.body.outs.items names sound.apart) (each_all (λ (x : Out). lowest.IsReadyBy (timed.exit + timed.ii) region.body.ops.items times (result_of x.value.value)) region.body.outs.items well.can_leave.outs));
    direct = subst (Each (λ (x : Out). x.value.distance ≡ 0)) (sym same_outs) (each_map (NamesResult (count_of s)) (λ (x : Out). x.value.distance ≡ 0) region.body.outs.items (λ x h. h.1.1) names);
  }
