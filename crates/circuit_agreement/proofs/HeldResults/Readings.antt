-- What is read in a node: words that stay, or results, each with its last read and a life up to it.
use Rattle.std.proofs.Common.{◌≡◌, ℕ, zero, suc, ◌+◌, ◌-◌, ◌*◌, ◌<◌, ◌≤◌, ◌⊎◌, max, true, List, [], ◌∷◌, ◌++◌, map, flat_map, option_to_list, Some, None, inl, inr, refl, sym, ap, ap₂, ◌∙◌, subst, arith}
use Rattle.std.specs.Prelude.{slice_get}
use Rattle.std.specs.Option.{option_map}
use Rattle.std.proofs.lemmas.Bool.{cond-true, lt-ltb}
use Rattle.std.proofs.lemmas.Option.{slice_get-map}
use Rattle.hls_base.specs.declared.number.OpId.{OpId}
use Rattle.hls_base.specs.declared.number.VarId.{VarId}
use Rattle.ir_core.specs.declared.timed.Timed.{Timed}
use Rattle.ir_core.specs.declared.body.Op.{Op}
use Rattle.ir_core.specs.declared.body.Operand.{Operand}
use Rattle.ir_core.specs.declared.body.Out.{Out}
use Rattle.ir_core.specs.declared.body.Source.{Source}
use Rattle.ir_core.specs.declared.body.Source.TheVariants as source
use Rattle.ir_core.specs.declared.cfg.Block.{Block}
use Rattle.ir_core.specs.declared.cfg.End.{End}
use Rattle.ir_core.specs.declared.cfg.End.TheVariants as end
use Rattle.ir_core.specs.declared.cfg.Node.{Node}
use Rattle.ir_core.specs.declared.cfg.Node.TheVariants as node
use Rattle.reg_binding.specs.declared.life.Read.{Read}
use Rattle.reg_binding.specs.Lives.{source_reads, operand_reads, op_reads, case_reads, end_reads, out_reads, last_cycle_reads}
use Rattle.reg_binding.specs.Pools.{Has}
use Rattle.reg_binding.proofs.Members.{at_first}
use Rattle.dep_graph.specs.Dependences.{maker_by, maker_of}
use Rattle.clock_ir.specs.Flows.{TimedOp, TimedBody, timed_op, ready}
use Rattle.clock_ir.specs.ClockRuns.{TimedNode, timed_node}
use Rattle.clock_runs.specs.Premises.{Each}
use Rattle.clock_runs.proofs.Settings.{Setting, count_of, available, IsReadyAs, IsReady, IsReadyIf}
use Rattle.clock_runs.proofs.Reading.{ready_is}
use Rattle.clock_runs.proofs.Chains.{there}
use Rattle.clock_runs.proofs.Lists.{no_some, some_same, each_get}
use Rattle.datapath.specs.Plans.{Plan, body_of, body_at, span}
use Rattle.datapath.specs.Blocks.{EndReads}
use Rattle.datapath.specs.Savings as savings
use Rattle.datapath.specs.Savings.{NodeReads, Moves, IsLive, IsLiveBehind}
use Rattle.circuit_agreement.specs.CircuitFlow.Compiled.{IsCompiled}
use Rattle.circuit_agreement.specs.CircuitFlow.Reads.{IsThereLast}
use Rattle.circuit_agreement.proofs.HeldResults.Lists.{in_left, in_right, in_flat}
use Rattle.circuit_agreement.proofs.HeldResults.Nodes.{ops_in, reads_at, behind_at, in_plan, body_is}
use Rattle.circuit_agreement.proofs.HeldResults.LoopRows.{entry_at}
use Rattle.circuit_agreement.proofs.HeldResults.BlockTimes.{BlockTimes, block_setting, placed_op, times_of}

-- a word that stays: a constant, or a variable that is read
pub data StaysAs (p : Plan) (i : ℕ) : Source → Type 0 where
  by_constant : (word : ℕ) → StaysAs p i (source.Constant word)
  by_variable : (v : VarId) → IsLive p v.0 i → StaysAs p i (source.Variable v)

pub record ReadsWord (p : Plan) (i : ℕ) (x : Operand) : Type 0 where
  pub maker : maker_of (body_at p i).outs x ≡ None
  pub stays : StaysAs p i x.value

-- the result of an iteration before the first one is what a variable has at entry
pub record EntersLive (p : Plan) (i k : ℕ) : Type 0 where
  pub variable : ℕ
  pub entry : entry_at p i k ≡ Some variable
  pub live : IsLive p variable i

pub record ReadsResult (p : Plan) (c : IsCompiled p) (i : ℕ) (nd : Node Timed) (x : Operand) (time : ℕ) : Type 0 where
  pub op : OpId
  pub it : Op Timed
  pub maker : maker_of (body_at p i).outs x ≡ Some op
  pub found : slice_get (ops_in nd) op.0 ≡ Some it
  pub near : (x.distance ≡ 0) ⊎ ((x.distance ≡ 1) × EntersLive p i op.0)
  pub ready_ : ready (body_at p i) op ≤ time + x.distance * (body_at p i).interval
  pub read : Has (reads_at p c nd) (record { op = op.0; time = time + x.distance * (body_at p i).interval })

abbrev pub Reading : (p : Plan) → IsCompiled p → ℕ → Node Timed → Operand → ℕ → Type 0
Reading p c i nd x time = ReadsWord p i x ⊎ ReadsResult p c i nd x time

-- ---- operations of a node

pub record OpOf (nd : Node Timed) (k : ℕ) (it : TimedOp) : Type 0 where
  pub op : Op Timed
  pub there_ : slice_get (ops_in nd) k ≡ Some op
  pub is : timed_op op ≡ it

op_from : (ops : List (Op Timed)) (k : ℕ) (it : TimedOp) → slice_get (map timed_op ops) k ≡ Some it → (op : Op Timed) × ((slice_get ops k ≡ Some op) × (timed_op op ≡ it))
op_from [] k it e = absurd (no_some e)
op_from (o ∷ os) zero it e = (o, (refl, some_same e))
op_from (o ∷ os) (suc k) it e = op_from os k it e

pub op_of_node : (nd : Node Timed) (k : ℕ) (it : TimedOp) → slice_get (body_of (timed_node nd)).ops k ≡ Some it → OpOf nd k it
op_of_node (node.Plain b) k it e = (let o = op_from b.body.ops.items k it e in record { op = o.0; there_ = o.1.0; is = o.1.1 })
op_of_node (node.Looped r) k it e = (let o = op_from r.body.ops.items k it e in record { op = o.0; there_ = o.1.0; is = o.1.1 })

-- what is read by the node's operations, its test or its end is live as it is entered
pub read_live : (p : Plan) (i : ℕ) (n : TimedNode) (x : Operand) → slice_get p.program.nodes i ≡ Some n → NodeReads n x → (v : VarId) → x.value ≡ source.Variable v → IsLive p v.0 i
read_live p i n x at reads v is = savings.is_read v i n x at reads is

-- what goes into a variable that is live behind a node is live as it is entered
pub moved_live : (p : Plan) (i : ℕ) (n : TimedNode) (k : ℕ) (out : Out) (v : VarId) → slice_get p.program.nodes i ≡ Some n → slice_get (body_of n).outs k ≡ Some out → out.value.value ≡ source.Variable v
    → IsLiveBehind p out.variable.0 i → IsLive p v.0 i
moved_live p i n k out v at is value (savings.goes_on j m at_m leads live) =
    savings.moves v.0 out.variable.0 i j m at_m
    (record { number = k; out = out; stands = ap (λ z. slice_get (body_of z).outs k) (some_same (sym at_m ∙ at)) ∙ is; source_ = (v, (value, refl)); target = refl }) leads live
moved_live p i n k out v at is value (savings.next_run m at_m returns stays) =
    savings.moves_last v.0 out.variable.0 i m at_m
    (record { number = k; out = out; stands = ap (λ z. slice_get (body_of z).outs k) (some_same (sym at_m ∙ at)) ∙ is; source_ = (v, (value, refl)); target = refl }) returns stays

-- ---- blocks

module _ (p : Plan) (c : IsCompiled p) (i : ℕ) (b : Block Timed) (stands : slice_get c.timed.nodes.items i ≡ Some (node.Plain b)) where
  abbrev nd : Node Timed
  nd = node.Plain b

  abbrev st : Setting
  st = block_setting p.program.shapes b

  times : BlockTimes p.program.shapes b
  times = times_of p c i b stands

  -- an operand that is ready, and whose reads are known
  block_operand : (x : Operand) (value : Source) (k time : ℕ) → x.value ≡ value → IsReadyAs st k time value x.distance → ((j : OpId) → value ≡ source.Result j → Has (reads_at p c nd) (record { op = j.0; time = time }))
      → ((v : VarId) → value ≡ source.Variable v → IsLive p v.0 i) → Reading p c i nd x time
  block_operand x (source.Constant word) k time e h member live =
      inl (record { maker = ap (maker_by (body_at p i).outs x.distance) e; stays = subst (StaysAs p i) (sym e) (by_constant word) })
  block_operand x (source.Variable v) k time e h member live = elim h [
    | inl fixed ↦ inl (record { maker = ap₂ (maker_by (body_at p i).outs) fixed.0 e; stays = subst (StaysAs p i) (sym e) (by_variable v (live v refl)) })
    | inr changed ↦ absurd (no_some changed.1.1.carries)
  ]
  block_operand x (source.Result j) k time e h member live =
      let lt : j.0 < count_of st = h.2 in
      let o = op_of_node nd j.0 _ (there st j.0 lt) in
      let r : ready (body_at p i) j ≡ available st j.0 = ap (λ (z : TimedBody). ready z j) (body_is p c i nd stands) ∙ ready_is st j lt in
      let none : x.distance * (body_at p i).interval ≡ 0 * (body_at p i).interval = ap (λ n. n * (body_at p i).interval) h.0 in
      let soon = h.3 in
      inr (record {
        op = j;
        it = o.op;
        maker = ap (maker_by (body_at p i).outs x.distance) e;
        found = o.there_;
        near = inl h.0;
        ready_ = omega (arith, r, none, soon);
        read = subst (λ (n : ℕ). Has (reads_at p c nd) (record { op = j.0; time = n })) (let z : time ≡ time + x.distance * (body_at p i).interval = omega (arith, none) in z) (member j refl);
      })

  -- a result that is named is among the reads of the operand
  named : (x : Operand) (j : OpId) (time : ℕ) → x.value ≡ source.Result j → Has (operand_reads time x) (record { op = j.0; time = time })
  named x j time e = subst (λ (l : List Read). Has l (record { op = j.0; time = time })) (sym (ap (source_reads time) e)) (at_first (record { op = j.0; time = time }) [])

  pub block_argument : (k n : ℕ) (op : Op Timed) (x : Operand) → slice_get b.body.ops.items k ≡ Some op → slice_get op.args.items n ≡ Some x → Reading p c i nd x op.stamp.start
  block_argument k n op x there_ is =
      let q = placed_op p.program.shapes b k op there_ in
      let ready_ : IsReady st k op.stamp.start x = each_get (IsReady st k op.stamp.start) op.args.items n x (subst (λ (t : TimedOp). Each (IsReady st k t.start) t.op.args) q.0 (times.args k q.1)) is in
      block_operand x x.value k op.stamp.start refl ready_
      (λ j e. in_left (flat_map op_reads b.body.ops.items) (last_cycle_reads (behind_at p c nd) b) _
      (in_flat op_reads b.body.ops.items op _ (k, there_) (in_right (flat_map (operand_reads op.stamp.start) (option_to_list op.guard)) _ _ (in_flat (operand_reads op.stamp.start) op.args.items x _ (n, is) (named x j op.stamp.start e)))))
      (λ v e. read_live p i (timed_node nd) x (in_plan p c i nd stands) (savings.by_argument k n (timed_op op) x (slice_get-map timed_op b.body.ops.items k ∙ ap (option_map timed_op) there_) is) v e)

  pub block_guard : (k : ℕ) (op : Op Timed) (x : Operand) → slice_get b.body.ops.items k ≡ Some op → op.guard ≡ Some x → Reading p c i nd x op.stamp.start
  block_guard k op x there_ is =
      let q = placed_op p.program.shapes b k op there_ in
      let guard_ready = subst (λ (t : TimedOp). IsReadyIf st k t.start t.op.guard) q.0 (times.guards k q.1) in
      let ready_ : IsReady st k op.stamp.start x = subst (λ g. IsReadyIf st k op.stamp.start g) is guard_ready in
      block_operand x x.value k op.stamp.start refl ready_
      (λ j e. in_left (flat_map op_reads b.body.ops.items) (last_cycle_reads (behind_at p c nd) b) _
      (in_flat op_reads b.body.ops.items op _ (k, there_)
      (in_left (flat_map (operand_reads op.stamp.start) (option_to_list op.guard)) (flat_map (operand_reads op.stamp.start) op.args.items) _
      (in_flat (operand_reads op.stamp.start) (option_to_list op.guard) x _ (subst (λ g. Has (option_to_list g) x) (sym is) (at_first x [])) (named x j op.stamp.start e)))))
      (λ v e. read_live p i (timed_node nd) x (in_plan p c i nd stands) (savings.by_guard k (timed_op op) x (slice_get-map timed_op b.body.ops.items k ∙ ap (option_map timed_op) there_) is) v e)

  -- ---- the last cycle

  last_is : b.length - 1 ≡ span p i - 1
  last_is =
      let e : (body_at p i).interval ≡ b.length = ap (λ (z : TimedBody). z.interval) (body_is p c i nd stands) in
      let some = times.some in
      let s : span p i ≡ max 1 b.length = ap (λ n. max 1 n) e in
      omega (arith, s, some)

  last_read_in : (r : Read) → Has (end_reads (b.length - 1) b.end ++ flat_map (out_reads (behind_at p c nd) (b.length - 1)) b.body.outs.items) r → Has (reads_at p c nd) r
  last_read_in r h =
      in_right (flat_map op_reads b.body.ops.items) (last_cycle_reads (behind_at p c nd) b) r
      (subst (λ l. Has l r) (sym (cond-true _ _ _ (lt-ltb 0 b.length (let some = times.some in omega (arith, some))))) h)

  end_read : (e : End) (x : Operand) (r : Read) (time : ℕ) → EndReads e x → Has (operand_reads time x) r → Has (end_reads time e) r
  end_read (end.Jump next) x r time reads h = absurd reads
  end_read (end.Branch test left right) x r time reads h = subst (λ z. Has (operand_reads time z) r) (sym reads) h
  end_read (end.Choose cases other) x r time reads h = in_flat (case_reads time) cases.items (x, reads.1) r (reads.0, reads.2) h
  end_read (end.Return None) x r time reads h = absurd reads
  end_read (end.Return (Some y)) x r time reads h = in_flat (operand_reads time) (option_to_list (Some y)) x r (zero, ap (λ z. Some z) reads) h

  pub block_end : (x : Operand) → EndReads b.end x → Reading p c i nd x (span p i - 1)
  block_end x reads =
      subst (Reading p c i nd x) last_is
      (block_operand x x.value (count_of st) (b.length - 1) refl (times.ends x reads)
      (λ j e. last_read_in (record { op = j.0; time = b.length - 1 }) (in_left (end_reads (b.length - 1) b.end) _ _ (end_read b.end x _ (b.length - 1) reads (named x j (b.length - 1) e))))
      (λ v e. read_live p i (timed_node nd) x (in_plan p c i nd stands) (savings.by_exit x reads) v e))

  pub block_out : (n : ℕ) (out : Out) → slice_get b.body.outs.items n ≡ Some out → IsLiveBehind p out.variable.0 i → IsThereLast (body_at p i) out.value → Reading p c i nd out.value (span p i - 1)
  block_out n out is live last =
      subst (Reading p c i nd out.value) last_is
      (block_operand out.value out.value.value (count_of st) (b.length - 1) refl (times.outs n out is soon_at)
      (λ j e. last_read_in (record { op = j.0; time = b.length - 1 })
      (in_right (end_reads (b.length - 1) b.end) (flat_map (out_reads (behind_at p c nd) (b.length - 1)) b.body.outs.items) _
      (in_flat (out_reads (behind_at p c nd) (b.length - 1)) b.body.outs.items out _ (n, is)
      (subst (λ l. Has l (record { op = j.0; time = b.length - 1 })) (sym (cond-true _ _ _ kept)) (named out.value j (b.length - 1) e)))))
      (λ v e. moved_live p i (timed_node nd) n out v (in_plan p c i nd stands) is e live))
    where
      kept : behind_at p c nd out.variable.0 ≡ true
      kept = sym (c.behind i out.variable.0 nd stands) ∙ c.safe.behind out.variable.0 i live

      soon_at : (op : OpId) → out.value.value ≡ source.Result op → op.0 < count_of st → available st op.0 < b.length
      soon_at op e lt =
          let e_w : (body_at p i).interval ≡ b.length = ap (λ (z : TimedBody). z.interval) (body_is p c i nd stands) in
          let h = last op e in
          let r : ready (body_at p i) op ≡ available st op.0 = ap (λ (z : TimedBody). ready z op) (body_is p c i nd stands) ∙ ready_is st op lt in
          omega (arith, h, e_w, r)
