-- Blocks of compiled programs: when what they read is there.
use Rattle.std.proofs.Common.{◌≡◌, ℕ, ◌+◌, ◌-◌, ◌<◌, ◌≤◌, List, [], length, map, Some, None, inl, inr, refl, sym, ap, ap₂, ◌∙◌, subst, arith}
use Rattle.std.specs.Prelude.{slice_get, slice_index}
use Rattle.std.proofs.lemmas.List.{length-map}
use Rattle.std.proofs.lemmas.Option.{slice_get_within, get_or_from_slice_get}
use Rattle.hls_base.specs.declared.number.NodeId.{NodeId}
use Rattle.hls_base.specs.declared.number.OpId.{OpId}
use Rattle.ir_core.specs.declared.body.Op.{Op}
use Rattle.ir_core.specs.declared.body.Operand.{Operand}
use Rattle.ir_core.specs.declared.body.Out.{Out}
use Rattle.ir_core.specs.declared.body.Source.{Source}
use Rattle.ir_core.specs.declared.body.Source.TheVariants as source
use Rattle.ir_core.specs.declared.cfg.Block.{Block}
use Rattle.ir_core.specs.declared.cfg.End.{End}
use Rattle.ir_core.specs.declared.cfg.End.TheVariants as end
use Rattle.ir_core.specs.declared.cfg.Memory.{Memory}
use Rattle.ir_core.specs.declared.cfg.Node.{Node}
use Rattle.ir_core.specs.declared.cfg.Node.TheVariants as node
use Rattle.ir_core.specs.declared.stamp.Untimed.{Untimed}
use Rattle.ir_core.specs.Timing as timing
use Rattle.ir_core.specs.declared.timed.Timed.{Timed}
use Rattle.unit_binding.specs.Copies.{IsEndCopy}
use Rattle.dep_graph.specs.Offsets.{maker}
use Rattle.ir_core.specs.Bodies.{OpTree, op_of, Shapes, Words}
use Rattle.block_schedule.specs.Schedules.{ready_at, ReadyBefore, EndIsReady}
use Rattle.clock_ir.specs.Flows.{TimedOp, TimedBody, latency, ready}
use Rattle.clock_ir.specs.ClockRuns.{TimedNode, block, overlapped, timed_node}
use Rattle.clock_ir.specs.WellTimed.{IsWellTimedBlock, IsWellTimedNode}
use Rattle.clock_runs.specs.Premises.{Each, IsOperandAs, IsOperand, IsSoundEnd, IsSoundBlock, IsSoundNode}
use Rattle.clock_runs.proofs.Settings.{Setting, nothing, op_at, count_of, IsReadyAs, IsReady}
use Rattle.clock_runs.proofs.Chains.{there}
use Rattle.clock_runs.proofs.Reading.{ready_is}
use Rattle.clock_runs.proofs.Order.{AreShort}
use Rattle.clock_runs.proofs.Copies.{setting, start_of, is_copy}
use Rattle.clock_runs.proofs.TimedBlocks.{counted, early, timely, ready_at_end}
use Rattle.clock_runs.proofs.Lists.{no_some, each_all, each_get, nth_get}
use Rattle.datapath.specs.Plans.{Plan, body_at}
use Rattle.datapath.specs.Blocks.{EndReads}
use Rattle.circuit_agreement.specs.CircuitFlow.Compiled.{IsCompiled}
use Rattle.circuit_agreement.proofs.Nodes.{NodeOf, node_of, shapes, body_found}

-- ---- what is there

-- A block reads what variables held as it was entered, and results that are there by this time.
abbrev pub IsThereAs : TimedBody → ℕ → Source → ℕ → Type 0
IsThereAs body time (source.Constant word) distance = Unit {0}
IsThereAs body time (source.Variable v) distance = distance ≡ 0
IsThereAs body time (source.Result op) distance = (distance ≡ 0) × ((it : TimedOp) × ((slice_get body.ops op.0 ≡ Some it) × (ready body op ≤ time)))

abbrev pub IsThere : TimedBody → ℕ → Operand → Type 0
IsThere body time x = IsThereAs body time x.value x.distance

pub record BlockReads (body : TimedBody) (end_ : End) : Type 0 where
  pub early : (k : ℕ) (it : TimedOp) → slice_get body.ops k ≡ Some it → it.start < body.interval
  pub args : (k n : ℕ) (it : TimedOp) (x : Operand) → slice_get body.ops k ≡ Some it → slice_get it.op.args n ≡ Some x → IsThere body it.start x
  pub outs : (n : ℕ) (out : Out) → slice_get body.outs n ≡ Some out → IsThere body body.interval out.value
  pub ends : (x : Operand) → EndReads end_ x → IsThere body (body.interval - 1) x

-- ---- a block with its times

-- any contents serve, since times do not depend on them
abbrev no_words : Words
no_words = record { variables = λ v. 0; memories = λ a address. 0 }

there_as : (s : Setting) (k time : ℕ) (value : Source) (distance : ℕ) → s.carried ≡ [] → IsReadyAs s k time value distance → IsThereAs s.body time value distance
there_as s k time (source.Constant word) distance none h = tt
there_as s k time (source.Variable v) distance none h = elim h [
  | inl fixed ↦ fixed.0
  | inr changed ↦ absurd (let c = changed.1.1 in no_some (sym (ap (λ (xs : List Out). maker xs v.0) none) ∙ c.carries))
]
there_as s k time (source.Result op) distance none h = (h.0, (op_at s op.0, (there s op.0 h.2, subst (λ n. n ≤ time) (sym (ready_is s op h.2)) h.3)))

module _ (shapes_ : Shapes) (short : AreShort shapes_) (memories : List Memory) (u : Block Untimed) (t : Block Timed) (times units : List ℕ) (well : IsWellTimedBlock memories u t times units)
    (sound : IsSoundBlock shapes_ u) where
  abbrev s : Setting
  s = setting shapes_ t.length t.body [] no_words

  count_is : count_of s ≡ length u.body.ops.items
  count_is = counted shapes_ short memories u t times units well sound no_words

  listed : length (map op_of u.body.ops.items) ≡ length u.body.ops.items
  listed = length-map u.body.ops.items (λ (o : Op Untimed). op_of o)

  -- when a result is there, as the scheduler counts
  ready_then : (op : OpId) → op.0 < count_of s → ready_at times op.0 (slice_get u.body.ops.items op.0) ≡ ready s.body op
  ready_then op lt =
      let copy = is_copy shapes_ t.length u.body t.body times units well.body [] no_words sound.ops in
      let f = copy.found op.0 lt in
      let a : ready_at times op.0 (slice_get u.body.ops.items op.0) ≡ slice_index times (op.0 + 1) + timing.latency f.0.kind f.0.bits = ap (ready_at times op.0) (nth_get u.body.ops.items op.0 f.0 f.1) in
      let l : timing.latency f.0.kind f.0.bits ≡ latency (op_at s op.0) = ap (λ (o : OpTree). timing.latency o.kind o.bits) (copy.ops op.0 f.0 f.1).1 in
      let e : (op_at s op.0).start ≡ slice_index times (op.0 + 1) = start_of shapes_ t.length u.body t.body times units well.body [] no_words op.0 lt in
      a ∙ (ap₂ (λ m n. m + n) (sym e) l ∙ sym (ready_is s op lt))

  -- what is there one cycle before the end
  before_as : (value : Source) (distance : ℕ) → IsOperandAs [] (length u.body.ops.items) value distance → ReadyBefore u.body.ops.items times value t.length → IsThereAs s.body (t.length - 1) value distance
  before_as (source.Constant word) distance h before = tt
  before_as (source.Variable v) distance h before = elim h [ inl fixed ↦ fixed.0 | inr changed ↦ absurd (no_some changed.1.1) ]
  before_as (source.Result op) distance h before =
      let low : op.0 < length u.body.ops.items = h.1 in
      let lt : op.0 < count_of s = omega (arith, low, count_is) in
      let r = ready_then op lt in
      let b : ready_at times op.0 (slice_get u.body.ops.items op.0) + 1 ≤ t.length = before in
      (h.0, (op_at s op.0, (there s op.0 lt, omega (arith, r, b))))

  before : (y x : Operand) → y ≡ x → IsOperand [] (length u.body.ops.items) y → ReadyBefore u.body.ops.items times y.value t.length → IsThere s.body (t.length - 1) x
  before y x e o b = subst (IsThere s.body (t.length - 1)) e (before_as y.value y.distance o b)

  -- what the end reads, by the two ends
  end_reads : (e copy : End) (x : Operand) → IsEndCopy e copy → EndReads copy x → IsSoundEnd (length u.body.ops.items) e → EndIsReady u.body.ops.items times e t.length → IsThere s.body (t.length - 1) x
  end_reads (end.Jump next) copy x is reads good soon = absurd (subst (λ z. EndReads z x) is reads)
  end_reads (end.Branch test left right) copy x is reads good soon = before test x (subst (λ z. EndReads z x) is reads) good soon
  end_reads (end.Choose cases other) (end.Jump next) x is reads good soon = absurd is
  end_reads (end.Choose cases other) (end.Branch test left right) x is reads good soon = absurd is
  end_reads (end.Choose cases other) (end.Choose copies target) x is reads good soon =
      let stands : slice_get cases.items reads.0 ≡ Some (x, reads.1) = ap (λ l. slice_get l reads.0) (sym is.0) ∙ reads.2 in
      let all : Each (λ (k : Operand × NodeId). ReadyBefore u.body.ops.items times k.0.value t.length) cases.items = each_all (λ (k : Operand × NodeId). ReadyBefore u.body.ops.items times k.0.value t.length) cases.items soon in
      before x x refl (each_get (λ (k : Operand × NodeId). IsOperand [] (length u.body.ops.items) k.0) cases.items reads.0 (x, reads.1) good stands)
      (each_get (λ (k : Operand × NodeId). ReadyBefore u.body.ops.items times k.0.value t.length) cases.items reads.0 (x, reads.1) all stands)
  end_reads (end.Choose cases other) (end.Return word) x is reads good soon = absurd is
  end_reads (end.Return None) copy x is reads good soon = absurd (subst (λ z. EndReads z x) is reads)
  end_reads (end.Return (Some y)) copy x is reads good soon = before y x (subst (λ z. EndReads z x) is reads) good soon

  -- an operation, in the setting
  placed : (k : ℕ) (it : TimedOp) → slice_get s.body.ops k ≡ Some it → (op_at s k ≡ it) × (k < count_of s)
  placed k it e = (get_or_from_slice_get s.body.ops k it nothing e, slice_get_within s.body.ops k it e)

  starts_early : (k : ℕ) (it : TimedOp) → slice_get s.body.ops k ≡ Some it → it.start < t.length
  starts_early k it e = let q = placed k it e in subst (λ (o : TimedOp). o.start < t.length) q.0 (early shapes_ short memories u t times units well sound no_words k q.1)

  arg_there : (k n : ℕ) (it : TimedOp) (x : Operand) → slice_get s.body.ops k ≡ Some it → slice_get it.op.args n ≡ Some x → IsThere s.body it.start x
  arg_there k n it x e f =
      let q = placed k it e in
      let all : Each (IsReady s k (op_at s k).start) (op_at s k).op.args = (timely shapes_ short memories u t times units well sound no_words).args k q.1 in
      let here : Each (IsReady s k it.start) it.op.args = subst (λ (o : TimedOp). Each (IsReady s k o.start) o.op.args) q.0 all in
      there_as s k it.start x.value x.distance refl (each_get (IsReady s k it.start) it.op.args n x here f)

  out_there : (n : ℕ) (out : Out) → slice_get s.body.outs n ≡ Some out → IsThere s.body t.length out.value
  out_there n out e =
      let good : IsOperand [] (length (map op_of u.body.ops.items)) out.value =
      each_get (λ (o : Out). IsOperand [] (length (map op_of u.body.ops.items)) o.value) u.body.outs.items n out sound.outs (ap (λ l. slice_get l n) (sym well.body.outs) ∙ e) in
      there_as s (count_of s) t.length out.value.value out.value.distance refl
      (ready_at_end shapes_ short memories u t times units well sound no_words out.value (subst (λ k. IsOperand [] k out.value) listed good))

  pub reads_of : BlockReads s.body t.end
  reads_of = record {
    early = starts_early;
    args = arg_there;
    outs = out_there;
    ends = λ x reads. end_reads u.end t.end x well.ends reads (subst (λ k. IsSoundEnd k u.end) listed sound.ends) well.long_enough.ends;
  }

-- ---- nodes of compiled programs

abbrev NodeReads : TimedNode → Type 0
NodeReads (block body end_) = BlockReads body end_
NodeReads (overlapped body exit next) = Unit {0}

reads_in : (shapes_ : Shapes) (short : AreShort shapes_) (memories : List Memory) (u : Node Untimed) (t : Node Timed) → IsWellTimedNode memories u t → IsSoundNode shapes_ u → NodeReads (timed_node t)
reads_in shapes_ short memories (node.Plain u) (node.Plain t) w h = reads_of shapes_ short memories u t w.0 w.1.0 w.1.1 h
reads_in shapes_ short memories (node.Plain u) (node.Looped t) w h = absurd w
reads_in shapes_ short memories (node.Looped u) (node.Plain t) w h = absurd w
reads_in shapes_ short memories (node.Looped u) (node.Looped t) w h = tt

pub block_reads : (p : Plan) (c : IsCompiled p) (i : ℕ) (body : TimedBody) (end_ : End) → slice_get p.program.nodes i ≡ Some (block body end_) → BlockReads (body_at p i) end_
block_reads p c i body end_ at_ =
    let n : NodeOf p c i (block body end_) = node_of p c i (block body end_) at_ in
    let short : AreShort p.program.shapes = subst AreShort (sym (shapes p c)) c.sound.dims in
    subst (λ (b : TimedBody). BlockReads b end_) (sym (body_found p i (block body end_) at_))
    (subst NodeReads n.is (reads_in p.program.shapes short c.untimed.frame.memories.items n.untimed n.timed n.well_timed n.sound))
