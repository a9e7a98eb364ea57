-- A sound, well timed block: when its results are there, and what its operands wait for.
use Rattle.std.proofs.Common.{◌≡◌, ℕ, suc, ◌+◌, ◌-◌, ◌<◌, ◌≤◌, List, [], map, length, Some, None, inl, inr, refl, sym, ap, ap₂, ◌∙◌, subst, arith}
use Rattle.std.specs.Prelude.{slice_get, slice_index}
use Rattle.std.specs.Option.{option_map}
use Rattle.std.proofs.lemmas.List.{length-map}
use Rattle.std.proofs.lemmas.Option.{slice_get-map, slice_get_within, get_or_from_slice_get}
use Rattle.hls_base.specs.declared.number.NodeId.{NodeId}
use Rattle.hls_base.specs.declared.number.OpId.{OpId}
use Rattle.ir_core.specs.declared.timed.Timed.{Timed}
use Rattle.ir_core.specs.declared.body.Op.{Op}
use Rattle.ir_core.specs.declared.body.Operand.{Operand}
use Rattle.ir_core.specs.declared.body.Out.{Out}
use Rattle.ir_core.specs.declared.body.Source.{Source}
use Rattle.ir_core.specs.declared.body.Source.TheVariants as source
use Rattle.ir_core.specs.declared.cfg.Block.{Block}
use Rattle.ir_core.specs.declared.cfg.End.{End}
use Rattle.ir_core.specs.declared.cfg.End.TheVariants as end
use Rattle.ir_core.specs.declared.cfg.Memory.{Memory}
use Rattle.ir_core.specs.declared.cfg.Node.{Node}
use Rattle.ir_core.specs.declared.cfg.Node.TheVariants as node
use Rattle.ir_core.specs.declared.stamp.Untimed.{Untimed}
use Rattle.ir_core.specs.Timing as timing
use Rattle.ir_core.specs.Bodies.{OpTree, op_of, Shapes, Words}
use Rattle.block_schedule.specs.Schedules.{ready_at, ReadyBefore, EndIsReady}
use Rattle.unit_binding.specs.Copies.{IsEndCopy}
use Rattle.clock_ir.specs.Flows.{timed_op, latency}
use Rattle.clock_ir.specs.WellTimed.{IsWellTimedBlock, IsWellTimedNode}
use Rattle.clock_runs.specs.Premises.{Each, IsOperandAs, IsOperand, IsSoundEnd, IsSoundBlock, IsSoundNode}
use Rattle.clock_runs.proofs.Settings.{Setting, nothing, op_at, count_of, available, IsReadyAs, IsReady, IsReadyIf}
use Rattle.clock_runs.proofs.Order.{AreShort}
use Rattle.clock_runs.proofs.Copies.{setting, start_of, is_copy}
use Rattle.clock_runs.proofs.TimedBlocks.{done, timely, counted}
use Rattle.clock_runs.proofs.Lists.{no_some, some_same, each_all, each_get, nth_get}
use Rattle.datapath.specs.Plans.{Plan}
use Rattle.datapath.specs.Blocks.{EndReads}
use Rattle.circuit_agreement.specs.CircuitFlow.Compiled.{IsCompiled}
use Rattle.circuit_agreement.proofs.Nodes.{node_of, shapes}
use Rattle.circuit_agreement.proofs.HeldResults.Nodes.{in_plan}

-- variables that tell which one it is
abbrev pub marked : Words
marked = record { variables = λ v. suc v; memories = λ m address. 0 }

abbrev pub block_setting : Shapes → Block Timed → Setting
block_setting s b = setting s b.length b.body [] marked

-- an operation of the block, in the setting
pub placed_op : (s : Shapes) (b : Block Timed) (k : ℕ) (it : Op Timed) → slice_get b.body.ops.items k ≡ Some it → (op_at (block_setting s b) k ≡ timed_op it) × (k < count_of (block_setting s b))
placed_op s b k it e =
    let m : slice_get (map timed_op b.body.ops.items) k ≡ Some (timed_op it) = slice_get-map timed_op b.body.ops.items k ∙ ap (option_map timed_op) e in
    (get_or_from_slice_get (map timed_op b.body.ops.items) k (timed_op it) nothing m, slice_get_within (map timed_op b.body.ops.items) k (timed_op it) m)

-- what is known of a block
pub record BlockTimes (s : Shapes) (b : Block Timed) : Type 0 where
  pub some : 1 ≤ b.length
  pub done_ : (k : ℕ) → k < count_of (block_setting s b) → available (block_setting s b) k ≤ b.length
  pub args : (k : ℕ) → k < count_of (block_setting s b) → Each (IsReady (block_setting s b) k (op_at (block_setting s b) k).start) (op_at (block_setting s b) k).op.args
  pub guards : (k : ℕ) → k < count_of (block_setting s b) → IsReadyIf (block_setting s b) k (op_at (block_setting s b) k).start (op_at (block_setting s b) k).op.guard
  pub ends : (x : Operand) → EndReads b.end x → IsReady (block_setting s b) (count_of (block_setting s b)) (b.length - 1) x
  pub outs : (n : ℕ) (out : Out) → slice_get b.body.outs.items n ≡ Some out → ((op : OpId) → out.value.value ≡ source.Result op → op.0 < count_of (block_setting s b) → available (block_setting s b) op.0 < b.length)
      → IsReady (block_setting s b) (count_of (block_setting s b)) (b.length - 1) out.value

-- what is there by some time is ready then
ready_by : (s : Shapes) (b : Block Timed) (time : ℕ) (value : Source) (distance : ℕ) → IsOperandAs [] (count_of (block_setting s b)) value distance
    → ((op : OpId) → value ≡ source.Result op → op.0 < count_of (block_setting s b) → available (block_setting s b) op.0 ≤ time) → IsReadyAs (block_setting s b) (count_of (block_setting s b)) time value distance
ready_by s b time (source.Constant k) distance h late = tt
ready_by s b time (source.Variable v) distance h late = elim h [
  | inl fixed ↦ inl fixed
  | inr changed ↦ absurd (no_some changed.1.1)
]
ready_by s b time (source.Result j) distance h late = (h.0, h.1, h.1, late j refl h.1)

module _ (s : Shapes) (short : AreShort s) (memories : List Memory) (u : Block Untimed) (b : Block Timed) (times units : List ℕ) (well : IsWellTimedBlock memories u b times units) (sound : IsSoundBlock s u) where
  abbrev here : Setting
  here = block_setting s b

  same_count : count_of here ≡ length u.body.ops.items
  same_count = counted s short memories u b times units well sound marked

  listed : length (map op_of u.body.ops.items) ≡ count_of here
  listed = length-map u.body.ops.items (λ (o : Op Untimed). op_of o) ∙ sym same_count

  -- when a result is there, as the scheduler counts
  ready_then : (k : ℕ) → k < count_of here → ready_at times k (slice_get u.body.ops.items k) ≡ available here k
  ready_then k lt =
      let copy = is_copy s b.length u.body b.body times units well.body [] marked sound.ops in
      let f = copy.found k lt in
      let a : ready_at times k (slice_get u.body.ops.items k) ≡ slice_index times (k + 1) + timing.latency f.0.kind f.0.bits = ap (ready_at times k) (nth_get u.body.ops.items k f.0 f.1) in
      let l : timing.latency f.0.kind f.0.bits ≡ latency (op_at here k) = ap (λ (op : OpTree). timing.latency op.kind op.bits) (copy.ops k f.0 f.1).1 in
      let e : (op_at here k).start ≡ slice_index times (k + 1) = start_of s b.length u.body b.body times units well.body [] marked k lt in
      a ∙ ap₂ (λ m n. m + n) (sym e) l

  there_before : (x : Operand) → IsOperand [] (count_of here) x → ReadyBefore u.body.ops.items times x.value b.length → (op : OpId) → x.value ≡ source.Result op → available here op.0 ≤ b.length - 1
  there_before x o before op e =
      let r : ready_at times op.0 (slice_get u.body.ops.items op.0) + 1 ≤ b.length = subst (λ v. ReadyBefore u.body.ops.items times v b.length) e before in
      let known : IsOperandAs [] (count_of here) (source.Result op) x.distance = subst (λ v. IsOperandAs [] (count_of here) v x.distance) e o in
      let t = ready_then op.0 known.1 in
      omega (arith, r, t)

  abbrev Ends : Operand → Type 0
  Ends x = IsOperand [] (count_of here) x × ((op : OpId) → x.value ≡ source.Result op → available here op.0 ≤ b.length - 1)

  one_end : (y x : Operand) → y ≡ x → IsOperand [] (count_of here) y → ReadyBefore u.body.ops.items times y.value b.length → Ends x
  one_end y x e o before = subst Ends e (o, there_before y o before)

  -- what the end reads, by the two ends
  end_operand : (e t : End) (x : Operand) → IsEndCopy e t → EndReads t x → IsSoundEnd (count_of here) e → EndIsReady u.body.ops.items times e b.length → Ends x
  end_operand (end.Jump next) t x copy reads sound_ ready_ = absurd (subst (λ z. EndReads z x) copy reads)
  end_operand (end.Branch test left right) t x copy reads sound_ ready_ = one_end test x (subst (λ z. EndReads z x) copy reads) sound_ ready_
  end_operand (end.Choose cases other) (end.Jump next) x copy reads sound_ ready_ = absurd copy
  end_operand (end.Choose cases other) (end.Branch test left right) x copy reads sound_ ready_ = absurd copy
  end_operand (end.Choose cases other) (end.Choose copies target) x copy reads sound_ ready_ =
      let stands : slice_get cases.items reads.0 ≡ Some (x, reads.1) = ap (λ l. slice_get l reads.0) (sym copy.0) ∙ reads.2 in
      let all : Each (λ (k : Operand × NodeId). ReadyBefore u.body.ops.items times k.0.value b.length) cases.items = each_all (λ (k : Operand × NodeId). ReadyBefore u.body.ops.items times k.0.value b.length) cases.items ready_ in
      one_end x x refl (each_get (λ (k : Operand × NodeId). IsOperand [] (count_of here) k.0) cases.items reads.0 (x, reads.1) sound_ stands)
      (each_get (λ (k : Operand × NodeId). ReadyBefore u.body.ops.items times k.0.value b.length) cases.items reads.0 (x, reads.1) all stands)
  end_operand (end.Choose cases other) (end.Return word) x copy reads sound_ ready_ = absurd copy
  end_operand (end.Return None) t x copy reads sound_ ready_ = absurd (subst (λ z. EndReads z x) copy reads)
  end_operand (end.Return (Some y)) t x copy reads sound_ ready_ = one_end y x (subst (λ z. EndReads z x) copy reads) sound_ ready_

  pub block_times : BlockTimes s b
  block_times = record {
    some = well.long_enough.some;
    done_ = done s short memories u b times units well sound marked;
    args = (timely s short memories u b times units well sound marked).args;
    guards = (timely s short memories u b times units well sound marked).guards;
    ends = λ x reads.
        (let e = end_operand u.end b.end x well.ends reads (subst (λ k. IsSoundEnd k u.end) listed sound.ends) well.long_enough.ends in
        ready_by s b (b.length - 1) x.value x.distance e.0 (λ op same lt. e.1 op same));
    outs = λ n out is soon.
        (let o : IsOperand [] (count_of here) out.value = subst (λ k. IsOperand [] k out.value) listed (each_get (λ (y : Out). IsOperand [] _ y.value) u.body.outs.items n out sound.outs (ap (λ l. slice_get l n) (sym well.body.outs) ∙ is)) in
        ready_by s b (b.length - 1) out.value.value out.value.distance o (λ op e lt. (let z = soon op e lt in omega (arith, z))));
  }

by_node : (s : Shapes) (short : AreShort s) (memories : List Memory) (u : Node Untimed) (b : Block Timed) → IsWellTimedNode memories u (node.Plain b) → IsSoundNode s u → BlockTimes s b
by_node s short memories (node.Plain u) b w h = block_times s short memories u b w.0 w.1.0 w.1.1 h
by_node s short memories (node.Looped u) b w h = absurd w

pub times_of : (p : Plan) (c : IsCompiled p) (i : ℕ) (b : Block Timed) → slice_get c.timed.nodes.items i ≡ Some (node.Plain b) → BlockTimes p.program.shapes b
times_of p c i b stands =
    let o = node_of p c i _ (in_plan p c i (node.Plain b) stands) in
    let is : o.timed ≡ node.Plain b = some_same (sym o.there_timed ∙ stands) in
    by_node p.program.shapes (subst AreShort (sym (shapes p c)) c.sound.dims) c.untimed.frame.memories.items o.untimed b
    (subst (λ n. IsWellTimedNode c.untimed.frame.memories.items o.untimed n) is o.well_timed) o.sound
