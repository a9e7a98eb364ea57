-- A program that is judged to be well timed is well timed, and no other one.
use Rattle.std.proofs.Common.{◌≡◌, ℕ, zero, suc, ◌+◌, ◌*◌, ◌<◌, ◌≤◌, ◌∙◌, sym, refl, ap, subst, true, not, ◌&&◌, ◌||◌, List, [], ◌∷◌, map, length, get_or, Option, Some, None, inl, inr, arith}
use Rattle.std.specs.Prelude.{slice_get, slice_index, nat_lt, nat_le}
use Rattle.std.specs.List.{list_all, All}
use Rattle.std.specs.Option.{option_map}
use Rattle.std.proofs.lemmas.Bool.{cases_Bool, and_parts, and_from, or_left, or_right, leb-true, le-leb, ltb-true, lt-ltb}
use Rattle.std.proofs.lemmas.List.{length-map}
use Rattle.std.proofs.lemmas.List.Sums.{AllPass-from_list_all, list_all-from_AllPass}
use Rattle.std.proofs.lemmas.Option.{slice_get_within}
use Rattle.hls_base.specs.declared.number.NodeId.{NodeId}
use Rattle.hls_base.specs.declared.number.OpId.{OpId}
use Rattle.ir_core.specs.declared.body.Op.{Op}
use Rattle.ir_core.specs.declared.body.Operand.{Operand}
use Rattle.ir_core.specs.declared.body.Out.{Out}
use Rattle.ir_core.specs.declared.body.Source.{Source}
use Rattle.ir_core.specs.declared.body.Source.TheVariants as source
use Rattle.ir_core.specs.declared.cfg.Block.{Block}
use Rattle.ir_core.specs.declared.cfg.Cfg.{Cfg}
use Rattle.ir_core.specs.declared.cfg.End.{End}
use Rattle.ir_core.specs.declared.cfg.End.TheVariants as end
use Rattle.ir_core.specs.declared.cfg.Loop.{Loop}
use Rattle.ir_core.specs.declared.cfg.Memory.{Memory}
use Rattle.ir_core.specs.declared.cfg.Node.{Node}
use Rattle.ir_core.specs.declared.cfg.Node.TheVariants as node
use Rattle.ir_core.specs.declared.stamp.Untimed.{Untimed}
use Rattle.ir_core.specs.Timing.{latency}
use Rattle.ir_core.specs.declared.timed.Timed.{Timed}
use Rattle.dep_graph.specs.declared.edge.Edge.{Edge}
use Rattle.dep_graph.specs.declared.edge.Why.TheVariants as w
use Rattle.dep_graph.specs.Offsets.{result_of}
use Rattle.dep_graph.specs.Meetings.{is_store}
use Rattle.dep_graph.specs.Dependences.{test_maker, edges_of}
use Rattle.unit_binding.specs.Copies.{IsEndCopy}
use Rattle.block_schedule.specs.Schedules as block
use Rattle.modulo_loop.specs.Rules as rules
use Rattle.modulo_loop.specs.Lowest as lowest
use Rattle.clock_ir.specs.WellTimed.{Keeps, IsWellTimedBlock, IsWellTimedLoop, IsWellTimedNode, AreWellTimed, IsWellTimed}
use Rattle.program_validity.specs.Untimed.{untimed_op, untimed_body, untimed_block, untimed_loop, untimed_node, untimed}
use Rattle.program_validity.specs.Checks.{op_at, body_in_time}
use Rattle.program_validity.specs.Nodes.{ready, is_ready_by, is_ready_before, is_there, end_in_time, block_in_time, is_stored_before, is_out_ready, exit_in_time, loop_in_time, node_in_time}
use Rattle.program_validity.proofs.WellTimed.Lists.{some_same, no_some, get_map}
use Rattle.program_validity.proofs.WellTimed.Tests.{all_get, all_from}
use Rattle.program_validity.proofs.WellTimed.Edges.{AreTimes}
use Rattle.program_validity.proofs.WellTimed.Units.{turns_from, turns_to, again_turns, free_to}
use Rattle.program_validity.proofs.WellTimed.Bodies.{times_of, units_of, times_are, units_are, IsShort, times_short, body_is, times_in, units_in, early_times, early_ops, loop_edges, loop_edges_to, block_edges, block_edges_to, body_parts, body_whole, edges_from, edges_to}

module _ (times : List ℕ) (ops : List (Op Timed)) (are : AreTimes times ops) where
  abbrev plain : List (Op Untimed)
  plain = map untimed_op ops

  plain_at : (k : ℕ) (o : Option (Op Timed)) → slice_get ops k ≡ o → slice_get plain k ≡ option_map untimed_op o
  plain_at k o e = get_map untimed_op ops k ∙ ap (option_map untimed_op) e

  -- ---- blocks

  ready_here : (k : ℕ) (op : Op Timed) → slice_get ops k ≡ Some op → block.ready plain times k ≡ ready op
  ready_here k op e = ap (block.ready_at times k) (plain_at k (Some op) e) ∙ ap (λ t. t + latency op.kind op.bits) (are.starts k op e)

  ready_nowhere : (k : ℕ) → slice_get ops k ≡ None → block.ready plain times k ≡ 0
  ready_nowhere k e = ap (block.ready_at times k) (plain_at k None e)

  before_from : (k len : ℕ) (o : Option (Op Timed)) → slice_get ops k ≡ o → 1 ≤ len → is_ready_before len o ≡ true → block.ready plain times k + 1 ≤ len
  before_from k len None e some h = (let none = ready_nowhere k e in omega arith)
  before_from k len (Some op) e some h = (let same = ready_here k op e in let lt = ltb-true (ready op) len h in omega arith)

  before_to : (k len : ℕ) (o : Option (Op Timed)) → slice_get ops k ≡ o → block.ready plain times k + 1 ≤ len → is_ready_before len o ≡ true
  before_to k len None e h = refl
  before_to k len (Some op) e h = (let same = ready_here k op e in lt-ltb (ready op) len (omega arith))

  source_from : (len : ℕ) (x : Source) → 1 ≤ len → is_ready_before len (op_at ops (result_of x)) ≡ true → block.ReadyBefore plain times x len
  source_from len (source.Constant w) some h = tt
  source_from len (source.Variable v) some h = tt
  source_from len (source.Result j) some h = before_from j.0 len (slice_get ops j.0) refl some h

  source_to : (len : ℕ) (x : Source) → block.ReadyBefore plain times x len → is_ready_before len (op_at ops (result_of x)) ≡ true
  source_to len (source.Constant w) h = refl
  source_to len (source.Variable v) h = refl
  source_to len (source.Result j) h = before_to j.0 len (slice_get ops j.0) refl h

  end_from : (len : ℕ) (x : End) → 1 ≤ len → end_in_time ops len x ≡ true → block.EndIsReady plain times x len
  end_from len (end.Jump next) some h = tt
  end_from len (end.Branch test left right) some h = source_from len test.value some h
  end_from len (end.Choose cases other) some h = λ k d lt.
      source_from len (get_or cases.items k d).0.value some (AllPass-from_list_all (λ (c : Operand × NodeId). is_there ops len c.0) cases.items h k d lt)
  end_from len (end.Return None) some h = tt
  end_from len (end.Return (Some value)) some h = source_from len value.value some h

  end_to : (len : ℕ) (x : End) → block.EndIsReady plain times x len → end_in_time ops len x ≡ true
  end_to len (end.Jump next) h = refl
  end_to len (end.Branch test left right) h = source_to len test.value h
  end_to len (end.Choose cases other) h = list_all-from_AllPass (λ (c : Operand × NodeId). is_there ops len c.0) cases.items (λ k d lt. source_to len (get_or cases.items k d).0.value (h k d lt))
  end_to len (end.Return None) h = refl
  end_to len (end.Return (Some value)) h = source_to len value.value h

  found : (k : ℕ) → k < length ops → (op : Op Timed) × (slice_get ops k ≡ Some op)
  found k lt = some_there (slice_get ops k) refl
    where
      some_there : (o : Option (Op Timed)) → slice_get ops k ≡ o → (op : Op Timed) × (slice_get ops k ≡ Some op)
      some_there (Some op) e = (op, e)
      some_there None e = absurd (none_past ops k lt e)
        where
          none_past : (xs : List (Op Timed)) (i : ℕ) → i < length xs → slice_get xs i ≡ None → ⊥
          none_past [] i h f = (let z : ⊥ = omega arith in z)
          none_past (x ∷ xs) zero h f = (cc)
          none_past (x ∷ xs) (suc i) h f = none_past xs i (omega arith) f

  done_from : (len : ℕ) → list_all (λ op. is_ready_by len (Some op)) ops ≡ true → (k : ℕ) → k < length plain → block.ready plain times k ≤ len
  done_from len h k lt =
      let count = length-map ops untimed_op in
      let op = found k (omega arith) in
      let same = ready_here k op.0 op.1 in
      let le = leb-true (ready op.0) len (all_get (λ o. is_ready_by len (Some o)) ops k op.0 h op.1) in
      omega arith

  done_to : (len : ℕ) → ((k : ℕ) → k < length plain → block.ready plain times k ≤ len) → list_all (λ op. is_ready_by len (Some op)) ops ≡ true
  done_to len h = all_from (λ o. is_ready_by len (Some o)) ops (λ k op e.
      let count = length-map ops untimed_op in
      let same = ready_here k op e in
      let within = slice_get_within ops k op e in
      let le = h k (omega arith) in
      le-leb (ready op) len (omega arith))

  -- ---- loops

  latency_here : (j : OpId) (o : Option (Op Timed)) → slice_get ops j.0 ≡ o → rules.latency_of plain j ≡ rules.latency_at (option_map untimed_op o)
  latency_here j o e = ap rules.latency_at (plain_at j.0 o e)

  by_from : IsShort times ops → (time : ℕ) (j : OpId) (o : Option (Op Timed)) → slice_get ops j.0 ≡ o → is_ready_by time o ≡ true → slice_index times (j.0 + 1) + rules.latency_of plain j ≤ time
  by_from short time j None e h = (let none = short j.0 e in let lat : rules.latency_of plain j ≡ 0 = latency_here j None e in omega arith)
  by_from short time j (Some op) e h = (let start = are.starts j.0 op e in let lat = latency_here j (Some op) e in let le = leb-true (ready op) time h in omega arith)

  by_to : (time : ℕ) (j : OpId) (o : Option (Op Timed)) → slice_get ops j.0 ≡ o → slice_index times (j.0 + 1) + rules.latency_of plain j ≤ time → is_ready_by time o ≡ true
  by_to time j None e h = refl
  by_to time j (Some op) e h = (let start = are.starts j.0 op e in let lat = latency_here j (Some op) e in le-leb (ready op) time (omega arith))

  known_from : IsShort times ops → (ii : ℕ) (first : Option OpId) → is_ready_by ii (op_at ops first) ≡ true → All (Keeps times ii) (rules.known_rules plain first)
  known_from short ii None h k d lt = absurd (omega arith)
  known_from short ii (Some j) h zero d lt = (let le = by_from short ii j (slice_get ops j.0) refl h in let z = are.begins in omega arith)
  known_from short ii (Some j) h (suc k) d lt = absurd (omega arith)

  known_to : (ii : ℕ) (first : Option OpId) → All (Keeps times ii) (rules.known_rules plain first) → is_ready_by ii (op_at ops first) ≡ true
  known_to ii None h = refl
  known_to ii (Some j) h =
      let rule : Edge = record { from = j.0 + 1; to = 0; latency = rules.latency_of plain j; distance = 1; why = w.Known } in
      let le : slice_index times (j.0 + 1) + rules.latency_of plain j ≤ slice_index times 0 + ii * 1 = h 0 rule (omega arith) in
      let z = are.begins in
      by_to ii j (slice_get ops j.0) refl (omega arith)

  made_from : IsShort times ops → (time : ℕ) (x : Option OpId) → is_ready_by time (op_at ops x) ≡ true → lowest.IsReadyBy time plain times x
  made_from short time None h = tt
  made_from short time (Some j) h = by_from short time j (slice_get ops j.0) refl h

  made_to : (time : ℕ) (x : Option OpId) → lowest.IsReadyBy time plain times x → is_ready_by time (op_at ops x) ≡ true
  made_to time None h = refl
  made_to time (Some j) h = by_to time j (slice_get ops j.0) refl h

  test_from : IsShort times ops → (exit : ℕ) (x : Option OpId) → is_ready_by exit (op_at ops x) ≡ true → lowest.known_at plain times x ≤ exit
  test_from short exit None h = omega arith
  test_from short exit (Some j) h = by_from short exit j (slice_get ops j.0) refl h

  test_to : (exit : ℕ) (x : Option OpId) → lowest.known_at plain times x ≤ exit → is_ready_by exit (op_at ops x) ≡ true
  test_to exit None h = refl
  test_to exit (Some j) h = by_to exit j (slice_get ops j.0) refl h

  stored_from : (ii exit : ℕ) → list_all (is_stored_before (exit + ii)) ops ≡ true → lowest.StoresAreDone plain times ii exit
  stored_from ii exit h k op at store = by_op (slice_get ops k) refl
    where
      by_op : (o : Option (Op Timed)) → slice_get ops k ≡ o → slice_index times (k + 1) + 1 ≤ exit + ii
      by_op None e = absurd (no_some (sym (plain_at k None e) ∙ at))
      by_op (Some p) e =
          let same : untimed_op p ≡ op = some_same (sym (plain_at k (Some p) e) ∙ at) in
          let stores : is_store p.kind ≡ true = ap (λ (q : Op Untimed). is_store q.kind) same ∙ store in
          let start = are.starts k p e in
          let passes = all_get (is_stored_before (exit + ii)) ops k p h e in
          let before : nat_lt p.stamp.start (exit + ii) ≡ true = ap (λ b. not b || nat_lt p.stamp.start (exit + ii)) (sym stores) ∙ passes in
          let lt = ltb-true p.stamp.start (exit + ii) before in
          omega arith

  stored_to : (ii exit : ℕ) → lowest.StoresAreDone plain times ii exit → list_all (is_stored_before (exit + ii)) ops ≡ true
  stored_to ii exit h = all_from (is_stored_before (exit + ii)) ops (λ k p e. elim (cases_Bool (is_store p.kind)) [
    | inl on ↦
        let le = h k (untimed_op p) (plain_at k (Some p) e) on in
        let start = are.starts k p e in
        or_right (not (is_store p.kind)) (nat_lt p.stamp.start (exit + ii)) (lt-ltb p.stamp.start (exit + ii) (omega arith))
    | inr off ↦ or_left (not (is_store p.kind)) (nat_lt p.stamp.start (exit + ii)) (ap not off)
  ])

  results_same : (x : Source) → result_of x ≡ result_of x
  results_same (source.Constant w) = refl
  results_same (source.Variable v) = refl
  results_same (source.Result j) = refl

  tests_same : (x : Option Operand) → test_maker x ≡ test_maker x
  tests_same None = refl
  tests_same (Some x) = results_same x.value

  outs_from : IsShort times ops → (outs : List Out) (ii exit : ℕ) → list_all (is_out_ready ops (exit + ii)) outs ≡ true → lowest.OutsAreReady plain outs times ii exit
  outs_from short outs ii exit h k d lt =
      let x = (get_or outs k d).value.value in
      let made = made_from short (exit + ii) (result_of x) (AllPass-from_list_all (is_out_ready ops (exit + ii)) outs h k d lt) in
      subst (λ j. lowest.IsReadyBy (exit + ii) plain times j) (sym (results_same x)) made

  outs_to : (outs : List Out) (ii exit : ℕ) → lowest.OutsAreReady plain outs times ii exit → list_all (is_out_ready ops (exit + ii)) outs ≡ true
  outs_to outs ii exit h = list_all-from_AllPass (is_out_ready ops (exit + ii)) outs (λ k d lt.
      let x = (get_or outs k d).value.value in
      made_to (exit + ii) (result_of x) (subst (λ j. lowest.IsReadyBy (exit + ii) plain times j) (results_same x) (h k d lt)))

-- ---- blocks

end_copy : (x : End) → IsEndCopy x x
end_copy (end.Jump next) = refl
end_copy (end.Branch test left right) = refl
end_copy (end.Choose cases other) = (refl, refl)
end_copy (end.Return value) = refl

block_from : (memories : List Memory) (b : Block Timed) → block_in_time memories b ≡ true → IsWellTimedBlock memories (untimed_block b) b (times_of b.body.ops.items) (units_of b.body.ops.items)
block_from memories b h =
    let ops = b.body.ops.items in
    let times = times_of ops in
    let units = units_of ops in
    let are = times_are ops in
    let on = units_are ops in
    let all_ready = list_all (λ op. is_ready_by b.length (Some op)) ops in
    let p = and_parts (nat_le 1 b.length) (body_in_time None memories b.body && (all_ready && end_in_time ops b.length b.end)) h in
    let q = and_parts (body_in_time None memories b.body) (all_ready && end_in_time ops b.length b.end) p.1 in
    let r = and_parts all_ready (end_in_time ops b.length b.end) q.1 in
    let some = leb-true 1 b.length p.0 in
    let is = body_parts None memories b.body q.0 in
    record {
      body = body_is b.body;
      ends = end_copy b.end;
      point = refl;
      begins = refl;
      early = early_times ops is.early;
      waits = block_edges times (edges_of (untimed_body b.body)) (edges_from None memories b.body times are is);
      turns = turns_from None memories ops times units are on is.units;
      long_enough = record { some = some; ops = done_from times ops are b.length r.0; ends = end_from times ops are b.length b.end some r.1 };
    }

block_to : (memories : List Memory) (b : Block Timed) (times units : List ℕ) → IsWellTimedBlock memories (untimed_block b) b times units → block_in_time memories b ≡ true
block_to memories b times units w =
    let ops = b.body.ops.items in
    let are = times_in times units b.body w.begins w.body in
    let on = units_in times units b.body w.body in
    let all_ready = list_all (λ op. is_ready_by b.length (Some op)) ops in
    let waits = edges_to None b.body times are (block_edges_to times (edges_of (untimed_body b.body)) w.waits) in
    let is = body_whole None memories b.body (record {
      early = early_ops times ops are w.early;
      waits = waits.waits;
      free = all_from _ ops (λ k op e. refl);
      accesses = waits.accesses;
      units = turns_to None memories ops times units are on w.turns tt;
    }) in
    and_from (nat_le 1 b.length) (body_in_time None memories b.body && (all_ready && end_in_time ops b.length b.end)) (le-leb 1 b.length w.long_enough.some)
    (and_from (body_in_time None memories b.body) (all_ready && end_in_time ops b.length b.end) is
    (and_from all_ready (end_in_time ops b.length b.end) (done_to times ops are b.length w.long_enough.ops) (end_to times ops are b.length b.end w.long_enough.ends)))

-- ---- loops

loop_from : (memories : List Memory) (r : Loop Timed) → loop_in_time memories r ≡ true → IsWellTimedLoop memories (untimed_loop r) r (times_of r.body.ops.items) (units_of r.body.ops.items)
loop_from memories r h =
    let ops = r.body.ops.items in
    let outs = r.body.outs.items in
    let times = times_of ops in
    let units = units_of ops in
    let are = times_are ops in
    let on = units_are ops in
    let short = times_short ops in
    let first = rules.known_first outs r.body.test in
    let known = is_ready_by r.ii (op_at ops first) in
    let tested = is_ready_by r.exit (op_at ops (test_maker r.body.test)) in
    let stored = list_all (is_stored_before (r.exit + r.ii)) ops in
    let out = list_all (is_out_ready ops (r.exit + r.ii)) outs in
    let p = and_parts (nat_le 1 r.ii) (body_in_time (Some r.ii) memories r.body && (known && exit_in_time r)) h in
    let q = and_parts (body_in_time (Some r.ii) memories r.body) (known && exit_in_time r) p.1 in
    let s = and_parts known (exit_in_time r) q.1 in
    let t = and_parts tested (stored && out) s.1 in
    let v = and_parts stored out t.1 in
    let is = body_parts (Some r.ii) memories r.body q.0 in
    record {
      body = body_is r.body;
      point = refl;
      next = refl;
      begins = refl;
      positive = leb-true 1 r.ii p.0;
      early = early_times ops is.early;
      waits = loop_edges r.ii times (edges_of (untimed_body r.body)) (edges_from (Some r.ii) memories r.body times are is);
      known = known_from times ops are short r.ii first s.0;
      turns = turns_from (Some r.ii) memories ops times units are on is.units;
      turns_again = again_turns r.ii memories ops times units are on is.units is.free;
      can_leave = record {
        test = subst (λ j. lowest.known_at (map untimed_op ops) times j ≤ r.exit) (sym (tests_same times ops are r.body.test)) (test_from times ops are short r.exit (test_maker r.body.test) t.0);
        stores = stored_from times ops are r.ii r.exit v.0;
        outs = outs_from times ops are short outs r.ii r.exit v.1;
      };
    }

loop_to : (memories : List Memory) (r : Loop Timed) (times units : List ℕ) → IsWellTimedLoop memories (untimed_loop r) r times units → loop_in_time memories r ≡ true
loop_to memories r times units w =
    let ops = r.body.ops.items in
    let outs = r.body.outs.items in
    let are = times_in times units r.body w.begins w.body in
    let on = units_in times units r.body w.body in
    let first = rules.known_first outs r.body.test in
    let known = is_ready_by r.ii (op_at ops first) in
    let tested = is_ready_by r.exit (op_at ops (test_maker r.body.test)) in
    let stored = list_all (is_stored_before (r.exit + r.ii)) ops in
    let out = list_all (is_out_ready ops (r.exit + r.ii)) outs in
    let waits = edges_to (Some r.ii) r.body times are (loop_edges_to r.ii times (edges_of (untimed_body r.body)) w.waits) in
    let is = body_whole (Some r.ii) memories r.body (record {
      early = early_ops times ops are w.early;
      waits = waits.waits;
      free = free_to r.ii memories ops times units are on w.turns_again;
      accesses = waits.accesses;
      units = turns_to (Some r.ii) memories ops times units are on w.turns w.turns_again;
    }) in
    and_from (nat_le 1 r.ii) (body_in_time (Some r.ii) memories r.body && (known && exit_in_time r)) (le-leb 1 r.ii w.positive)
    (and_from (body_in_time (Some r.ii) memories r.body) (known && exit_in_time r) is
    (and_from known (exit_in_time r) (known_to times ops are r.ii first w.known)
    (and_from tested (stored && out)
    (test_to times ops are r.exit (test_maker r.body.test) (subst (λ j. lowest.known_at (map untimed_op ops) times j ≤ r.exit) (tests_same times ops are r.body.test) w.can_leave.test))
    (and_from stored out (stored_to times ops are r.ii r.exit w.can_leave.stores) (outs_to times ops are outs r.ii r.exit w.can_leave.outs)))))

-- ---- programs

node_from : (memories : List Memory) (n : Node Timed) → node_in_time memories n ≡ true → IsWellTimedNode memories (untimed_node n) n
node_from memories (node.Plain b) h = (times_of b.body.ops.items, (units_of b.body.ops.items, block_from memories b h))
node_from memories (node.Looped r) h = (times_of r.body.ops.items, (units_of r.body.ops.items, loop_from memories r h))

node_to : (memories : List Memory) (n : Node Timed) → IsWellTimedNode memories (untimed_node n) n → node_in_time memories n ≡ true
node_to memories (node.Plain b) h = block_to memories b h.0 h.1.0 h.1.1
node_to memories (node.Looped r) h = loop_to memories r h.0 h.1.0 h.1.1

nodes_from : (memories : List Memory) (ns : List (Node Timed)) → list_all (node_in_time memories) ns ≡ true → AreWellTimed memories (map untimed_node ns) ns
nodes_from memories [] h = tt
nodes_from memories (n ∷ ns) h =
    let p = and_parts (node_in_time memories n) (list_all (node_in_time memories) ns) h in
    (node_from memories n p.0, nodes_from memories ns p.1)

nodes_to : (memories : List Memory) (ns : List (Node Timed)) → AreWellTimed memories (map untimed_node ns) ns → list_all (node_in_time memories) ns ≡ true
nodes_to memories [] h = refl
nodes_to memories (n ∷ ns) h = and_from (node_in_time memories n) (list_all (node_in_time memories) ns) (node_to memories n h.0) (nodes_to memories ns h.1)

pub program_from : (cfg : Cfg Timed) → list_all (node_in_time cfg.frame.memories.items) cfg.nodes.items ≡ true → IsWellTimed (untimed cfg) cfg
program_from cfg h = record { frame = refl; first = refl; nodes = nodes_from cfg.frame.memories.items cfg.nodes.items h }

pub program_to : (cfg : Cfg Timed) → IsWellTimed (untimed cfg) cfg → list_all (node_in_time cfg.frame.memories.items) cfg.nodes.items ≡ true
program_to cfg w = nodes_to cfg.frame.memories.items cfg.nodes.items w.nodes
