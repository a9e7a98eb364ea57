-- What is read in a loop.
use Rattle.std.proofs.Common.{◌≡◌, ℕ, ◌+◌, ◌*◌, ◌<◌, true, List, [], ◌++◌, map, flat_map, option_to_list, Option, Some, None, inl, inr, refl, sym, ap, ap₂, ◌∙◌, subst, arith}
use Rattle.std.specs.Prelude.{slice_get}
use Rattle.std.specs.Option.{option_map}
use Rattle.std.proofs.lemmas.Bool.{cond-true}
use Rattle.std.proofs.lemmas.Option.{slice_get-map, get_or_from_slice_get, slice_get_within}
use Rattle.hls_base.specs.declared.number.OpId.{OpId}
use Rattle.hls_base.specs.declared.number.VarId.{VarId}
use Rattle.ir_core.specs.declared.timed.Timed.{Timed}
use Rattle.ir_core.specs.declared.body.Op.{Op}
use Rattle.ir_core.specs.declared.body.Operand.{Operand}
use Rattle.ir_core.specs.declared.body.Out.{Out}
use Rattle.ir_core.specs.declared.body.Source.{Source}
use Rattle.ir_core.specs.declared.body.Source.TheVariants as source
use Rattle.ir_core.specs.declared.cfg.Loop.{Loop}
use Rattle.ir_core.specs.declared.cfg.Node.{Node}
use Rattle.ir_core.specs.declared.cfg.Node.TheVariants as node
use Rattle.reg_binding.specs.declared.life.Read.{Read}
use Rattle.reg_binding.specs.Lives as lives
use Rattle.reg_binding.specs.Lives.{source_maker, read_of, iteration_reads, iteration_op_reads, test_reads, left_reads, loop_reads}
use Rattle.reg_binding.specs.Pools.{Has}
use Rattle.reg_binding.proofs.Members.{at_first}
use Rattle.dep_graph.specs.Offsets.{result_of, maker}
use Rattle.dep_graph.specs.Dependences.{maker_by, test_maker}
use Rattle.ir_core.specs.TreeRuns.{tested}
use Rattle.clock_ir.specs.Flows.{TimedOp, TimedBody, timed_op, timed_body, ready, ready_in, ready_if, known}
use Rattle.clock_ir.specs.ClockRuns.{timed_node, later}
use Rattle.clock_runs.specs.Premises.{Each, NamesResult, AreApart}
use Rattle.clock_runs.proofs.Settings.{Setting, nothing, op_at, count_of, available, IsCarried, IsReadyAs, IsReady, IsReadyIf}
use Rattle.clock_runs.proofs.Reading.{ready_is}
use Rattle.clock_runs.proofs.Chains.{there}
use Rattle.clock_runs.proofs.Leaving.{IsTaken}
use Rattle.clock_runs.proofs.Lists.{some_same, each_get}
use Rattle.datapath.specs.Plans.{Plan, body_of, body_at}
use Rattle.datapath.specs.Savings as savings
use Rattle.datapath.specs.Savings.{NodeReads, Passes, Returns, IsLive, IsLiveBehind}
use Rattle.circuit_agreement.specs.CircuitFlow.Compiled.{IsCompiled}
use Rattle.circuit_agreement.proofs.HeldResults.Lists.{in_left, in_right, in_flat}
use Rattle.circuit_agreement.proofs.HeldResults.Nodes.{reads_at, behind_at, in_plan, body_is}
use Rattle.circuit_agreement.proofs.HeldResults.Outs.{entered_entry, maker_known}
use Rattle.circuit_agreement.proofs.HeldResults.LoopRows.{entry_is}
use Rattle.circuit_agreement.proofs.HeldResults.LoopTimes.{LoopTimes, loop_setting, loop_times}
use Rattle.circuit_agreement.proofs.HeldResults.Readings.{StaysAs, by_constant, by_variable, EntersLive, Reading, op_of_node, read_live}

-- when a test is known, as lives count and as the clocked run does
same_ready : (found : Option (Op Timed)) → lives.ready_in found ≡ ready_in (option_map timed_op found)
same_ready None = refl
same_ready (Some op) = refl

same_known : (r : Loop Timed) (value : Source) → lives.known r.body.ops.items value ≡ ready_if (timed_body r.ii r.body) (result_of value)
same_known r (source.Constant word) = refl
same_known r (source.Variable v) = refl
same_known r (source.Result op) = same_ready (slice_get r.body.ops.items op.0) ∙ ap ready_in (sym (slice_get-map timed_op r.body.ops.items op.0))

-- what is live behind a loop is live as it is entered, since it may run no iteration
behind_live : (p : Plan) (i : ℕ) (r : Loop Timed) (v : ℕ) → slice_get p.program.nodes i ≡ Some (timed_node (node.Looped r)) → IsLiveBehind p v i → IsLive p v i
behind_live p i r v at (savings.goes_on j n at_n leads live) =
    savings.passes v i j n at_n (subst (λ m. Passes m v) (some_same (sym at ∙ at_n)) tt) leads live
behind_live p i r v at (savings.next_run n at_n returns stays) = absurd (subst Returns (some_same (sym at_n ∙ at)) returns)

module _ (p : Plan) (c : IsCompiled p) (i : ℕ) (r : Loop Timed) (stands : slice_get c.timed.nodes.items i ≡ Some (node.Looped r)) where
  abbrev nd : Node Timed
  nd = node.Looped r

  abbrev outs : List Out
  outs = r.body.outs.items

  abbrev times : LoopTimes p.program.shapes r
  times = loop_times p c i r stands

  abbrev st : Setting
  st = loop_setting p.program.shapes r times.carried

  wide_is : (body_at p i).interval ≡ r.ii
  wide_is = ap (λ (z : TimedBody). z.interval) (body_is p c i nd stands)

  ready_then : (j : OpId) → j.0 < count_of st → ready (body_at p i) j ≡ available st j.0
  ready_then j lt = ap (λ (z : TimedBody). ready z j) (body_is p c i nd stands) ∙ ready_is st j lt

  -- a variable that is carried enters with what it holds
  enters : (time v : ℕ) (j : OpId) → IsCarried st time v j → IsLive p v i → EntersLive p i j.0
  enters time v j ca live = record {
    variable = v;
    entry = entry_is p c i r stands j.0 ∙ entered_entry p outs j.0 v ca.entry (c.safe.read v i live);
    live = live;
  }

  known_maker : (time v : ℕ) (j : OpId) → IsCarried st time v j → source_maker outs (source.Variable (record { 0 = v })) ≡ Some j.0
  known_maker time v j ca =
      maker_known times.count outs v j None (subst (Each (NamesResult times.count)) (sym times.outs) times.names) (subst AreApart (sym times.outs) times.apart) ca.made

  loop_operand : (x : Operand) (value : Source) (k time : ℕ) → x.value ≡ value → IsReadyAs st k time value x.distance
      → ((j : OpId) → source_maker outs value ≡ Some j.0 → Has (reads_at p c nd) (record { op = j.0; time = time + x.distance * r.ii })) → ((v : VarId) → value ≡ source.Variable v → IsLive p v.0 i)
      → Reading p c i nd x time
  loop_operand x (source.Constant word) k time e h member live =
      inl (record { maker = ap (maker_by (body_at p i).outs x.distance) e; stays = subst (StaysAs p i) (sym e) (by_constant word) })
  loop_operand x (source.Variable v) k time e h member live = elim h [
    | inl fixed ↦ inl (record { maker = ap₂ (maker_by (body_at p i).outs) fixed.0 e; stays = subst (StaysAs p i) (sym e) (by_variable v (live v refl)) })
    | inr changed ↦
        let j : OpId = changed.1.0 in
        let ca : IsCarried st time v.0 j = changed.1.1 in
        let o = op_of_node nd j.0 _ (there st j.0 ca.within) in
        let one : x.distance * (body_at p i).interval ≡ 1 * (body_at p i).interval = ap (λ n. n * (body_at p i).interval) changed.0 in
        let t = ca.there in
        let q = ready_then j ca.within in
        let w = wide_is in
        inr (record {
          op = j;
          it = o.op;
          maker = ap₂ (maker_by (body_at p i).outs) changed.0 e ∙ (ap (λ (z : TimedBody). maker z.outs v.0) (body_is p c i nd stands) ∙ ca.made);
          found = o.there_;
          near = inr (changed.0, enters time v.0 j ca (live v refl));
          ready_ = omega (arith, t, q, w, one);
          read = subst (λ n. Has (reads_at p c nd) (record { op = j.0; time = time + x.distance * n })) (sym wide_is) (member j (known_maker time v.0 j ca));
        })
  ]
  loop_operand x (source.Result j) k time e h member live =
      let lt : j.0 < count_of st = h.2 in
      let o = op_of_node nd j.0 _ (there st j.0 lt) in
      let q = ready_then j lt in
      let soon = h.3 in
      let none : x.distance * (body_at p i).interval ≡ 0 * (body_at p i).interval = ap (λ n. n * (body_at p i).interval) h.0 in
      inr (record {
        op = j;
        it = o.op;
        maker = ap (maker_by (body_at p i).outs x.distance) e;
        found = o.there_;
        near = inl h.0;
        ready_ = omega (arith, q, none, soon);
        read = subst (λ n. Has (reads_at p c nd) (record { op = j.0; time = time + x.distance * n })) (sym wide_is) (member j refl);
      })

  -- ---- reads

  -- a result that the operand names is among its reads
  named : (x : Operand) (value : Source) (j time : ℕ) → x.value ≡ value → source_maker outs value ≡ Some j → Has (iteration_reads outs r.ii time x) (record { op = j; time = time + x.distance * r.ii })
  named x value j time e made =
      subst (λ (l : List Read). Has l (record { op = j; time = time + x.distance * r.ii })) (sym (ap (λ o. read_of o (time + x.distance * r.ii)) (ap (source_maker outs) e ∙ made)))
      (at_first (record { op = j; time = time + x.distance * r.ii }) [])

  -- reads of operations, of the test, and at the exit
  abbrev ops_read : List Read
  ops_read = flat_map (iteration_op_reads outs r.ii) r.body.ops.items

  abbrev test_read : List Read
  test_read = flat_map (test_reads r) (option_to_list r.body.test)

  abbrev exit_read : List Read
  exit_read = flat_map (left_reads (behind_at p c nd) outs r.ii (r.ii + r.exit)) outs

  by_ops : (read : Read) → Has ops_read read → Has (reads_at p c nd) read
  by_ops read h = in_left (ops_read ++ test_read) exit_read read (in_left ops_read test_read read h)

  -- ---- operations

  abbrev placed : (k : ℕ) (op : Op Timed) → Type 0
  placed k op = (op_at st k ≡ timed_op op) × (k < count_of st)

  placed_there : (k : ℕ) (op : Op Timed) → slice_get r.body.ops.items k ≡ Some op → placed k op
  placed_there k op e =
      let m : slice_get (map timed_op r.body.ops.items) k ≡ Some (timed_op op) = slice_get-map timed_op r.body.ops.items k ∙ ap (option_map timed_op) e in
      (get_or_from_slice_get (map timed_op r.body.ops.items) k (timed_op op) nothing m, slice_get_within (map timed_op r.body.ops.items) k (timed_op op) m)

  in_body : (k : ℕ) (op : Op Timed) → slice_get r.body.ops.items k ≡ Some op → slice_get (body_of (timed_node nd)).ops k ≡ Some (timed_op op)
  in_body k op e = slice_get-map timed_op r.body.ops.items k ∙ ap (option_map timed_op) e

  pub loop_argument : (k n : ℕ) (op : Op Timed) (x : Operand) → slice_get r.body.ops.items k ≡ Some op → slice_get op.args.items n ≡ Some x → Reading p c i nd x op.stamp.start
  loop_argument k n op x there_ is =
      let q = placed_there k op there_ in
      let ready_ : IsReady st k op.stamp.start x = each_get (IsReady st k op.stamp.start) op.args.items n x (subst (λ (t : TimedOp). Each (IsReady st k t.start) t.op.args) q.0 (times.args k q.1)) is in
      loop_operand x x.value k op.stamp.start refl ready_
      (λ j e. by_ops _ (in_flat (iteration_op_reads outs r.ii) r.body.ops.items op _ (k, there_)
      (in_right (flat_map (iteration_reads outs r.ii op.stamp.start) (option_to_list op.guard)) _ _
      (in_flat (iteration_reads outs r.ii op.stamp.start) op.args.items x _ (n, is) (named x x.value j.0 op.stamp.start refl e)))))
      (λ v e. read_live p i (timed_node nd) x (in_plan p c i nd stands) (savings.by_argument k n (timed_op op) x (in_body k op there_) is) v e)

  pub loop_guard : (k : ℕ) (op : Op Timed) (x : Operand) → slice_get r.body.ops.items k ≡ Some op → op.guard ≡ Some x → Reading p c i nd x op.stamp.start
  loop_guard k op x there_ is =
      let q = placed_there k op there_ in
      let guard_ready = subst (λ (t : TimedOp). IsReadyIf st k t.start t.op.guard) q.0 (times.guards k q.1) in
      let ready_ : IsReady st k op.stamp.start x = subst (λ g. IsReadyIf st k op.stamp.start g) is guard_ready in
      loop_operand x x.value k op.stamp.start refl ready_
      (λ j e. by_ops _ (in_flat (iteration_op_reads outs r.ii) r.body.ops.items op _ (k, there_)
      (in_left (flat_map (iteration_reads outs r.ii op.stamp.start) (option_to_list op.guard)) (flat_map (iteration_reads outs r.ii op.stamp.start) op.args.items) _
      (in_flat (iteration_reads outs r.ii op.stamp.start) (option_to_list op.guard) x _ (subst (λ g. Has (option_to_list g) x) (sym is) (at_first x [])) (named x x.value j.0 op.stamp.start refl e)))))
      (λ v e. read_live p i (timed_node nd) x (in_plan p c i nd stands) (savings.by_guard k (timed_op op) x (in_body k op there_) is) v e)

  -- ---- the test

  pub loop_test : (x : Operand) → r.body.test ≡ Some x → Reading p c i nd x (known st.body)
  loop_test x is =
      let ready_ : IsReady st (tested (Some x)) (known st.body) x = subst (λ o. IsReadyIf st (tested o) (known st.body) o) is times.test in
      let at : lives.known r.body.ops.items x.value ≡ known st.body = same_known r x.value ∙ ap (λ o. ready_if st.body (test_maker o)) (sym is) in
      loop_operand x x.value (tested (Some x)) (known st.body) refl ready_
      (λ j e. in_left (ops_read ++ test_read) exit_read _
      (in_right ops_read test_read _
      (in_flat (test_reads r) (option_to_list r.body.test) x _ (subst (λ o. Has (option_to_list o) x) (sym is) (at_first x []))
      (subst (λ n. Has (iteration_reads outs r.ii n x) (record { op = j.0; time = known st.body + x.distance * r.ii })) (sym at) (named x x.value j.0 (known st.body) refl e)))))
      (λ v e. read_live p i (timed_node nd) x (in_plan p c i nd stands) (savings.by_test x is) v e)

  -- ---- the exit

  pub loop_exit : (n : ℕ) (out : Out) → slice_get outs n ≡ Some out → IsLiveBehind p out.variable.0 i → Reading p c i nd (later out.value) r.exit
  loop_exit n out is live =
      let taken : IsTaken st r.exit out = each_get (IsTaken st r.exit) outs n out times.exits is in
      let direct : out.value.distance ≡ 0 = each_get (λ (z : Out). z.value.distance ≡ 0) outs n out times.direct is in
      let j : OpId = taken.0 in
      let ca : IsCarried st r.exit out.variable.0 j = taken.1.1 in
      let o = op_of_node nd j.0 _ (there st j.0 ca.within) in
      let w = wide_is in
      let t = ca.there in
      let q = ready_then j ca.within in
      let next : (later out.value).distance ≡ 1 = (let z : out.value.distance + 1 ≡ 1 = omega (arith, direct) in z) in
      let one : (later out.value).distance * (body_at p i).interval ≡ 1 * (body_at p i).interval = ap (λ m. m * (body_at p i).interval) next in
      let none : out.value.distance * r.ii ≡ 0 * r.ii = ap (λ m. m * r.ii) direct in
      let kept : behind_at p c nd out.variable.0 ≡ true = sym (c.behind i out.variable.0 nd stands) ∙ c.safe.behind out.variable.0 i live in
      let times_are : r.ii + r.exit + out.value.distance * r.ii ≡ r.exit + (later out.value).distance * (body_at p i).interval = omega (arith, none, one, w) in
      let here : Has (left_reads (behind_at p c nd) outs r.ii (r.ii + r.exit) out) (record { op = j.0; time = r.ii + r.exit + out.value.distance * r.ii }) =
      subst (λ (l : List Read). Has l (record { op = j.0; time = r.ii + r.exit + out.value.distance * r.ii })) (sym (cond-true _ _ _ kept)) (named out.value (source.Result j) j.0 (r.ii + r.exit) taken.1.0 refl) in
      let all : Has (reads_at p c nd) (record { op = j.0; time = r.ii + r.exit + out.value.distance * r.ii }) =
      in_right (ops_read ++ test_read) exit_read _ (in_flat (left_reads (behind_at p c nd) outs r.ii (r.ii + r.exit)) outs out _ (n, is) here) in
      inr (record {
        op = j;
        it = o.op;
        maker = ap (maker_by (body_at p i).outs (later out.value).distance) taken.1.0;
        found = o.there_;
        near = inr (next, enters r.exit out.variable.0 j ca (behind_live p i r out.variable.0 (in_plan p c i nd stands) live));
        ready_ = omega (arith, t, q, w, one);
        read = subst (λ m. Has (reads_at p c nd) (record { op = j.0; time = m })) times_are all;
      })
