-- A block, cycle by cycle, leads where it leads in the run, with the same contents.
use Rattle.std.proofs.Common.{◌≡◌, ℕ, zero, suc, ◌+◌, ◌-◌, ◌*◌, ◌<◌, ◌≤◌, ◌∙◌, sym, refl, ap, ap₂, subst, true, false, List, [], length, map, Some, arith}
use Rattle.std.specs.Prelude.{slice_get, nat_lt}
use Rattle.std.proofs.lemmas.Bool.{cond-true, cond-false, lt-ltb, le-ltb}
use Rattle.std.proofs.lemmas.List.{length-map}
use Rattle.ir_core.specs.declared.body.Op.{Op}
use Rattle.ir_core.specs.declared.body.Operand.{Operand}
use Rattle.ir_core.specs.declared.body.Out.{Out}
use Rattle.ir_core.specs.declared.cfg.Block.{Block}
use Rattle.ir_core.specs.declared.cfg.Memory.{Memory}
use Rattle.ir_core.specs.declared.cfg.Node.{Node}
use Rattle.ir_core.specs.declared.cfg.Node.TheVariants as node
use Rattle.ir_core.specs.declared.stamp.Untimed.{Untimed}
use Rattle.ir_core.specs.declared.timed.Timed.{Timed}
use Rattle.hls_base.specs.Steps.{went, waiting}
use Rattle.ir_core.specs.Bodies.{op_of, Shapes, Words, Ranged, operand, outs, with_outs}
use Rattle.ir_core.specs.FlatRuns.{Going, going, node_run}
use Rattle.clock_ir.specs.Flows.{Flow, operand_at, first_flow, taken}
use Rattle.clock_ir.specs.ClockRuns.{TimedProgram, Phase, inside, at_node, enter, going_by, goes_to, block_left, block_step, node_step, timed_node, clock_step}
use Rattle.clock_ir.specs.WellTimed.{IsWellTimedBlock}
use Rattle.clock_runs.specs.Premises.{Each, IsOperand, IsSoundEnd, IsSoundBlock}
use Rattle.clock_runs.specs.Laws.{node_cycles, IsEnded}
use Rattle.clock_runs.proofs.Settings.{Setting, count_of, flow, after}
use Rattle.clock_runs.proofs.Chains.{flow-time, flow-entry}
use Rattle.clock_runs.proofs.Defined.{inner, operand_inner, ranged}
use Rattle.clock_runs.proofs.Blocks.{block_memories, block_operands}
use Rattle.clock_runs.proofs.Leaving.{flow_tick}
use Rattle.clock_runs.proofs.Order.{AreShort}
use Rattle.clock_runs.proofs.Paths.{run_from}
use Rattle.clock_runs.proofs.Ends.{end_copied, going_same, taken_same}
use Rattle.clock_runs.proofs.BlockRuns.{BlockWent, block_went, block_waits}
use Rattle.clock_runs.proofs.TimedBlocks.{some, early, always, timely, ready_at_end, ranged_is, order}
use Rattle.clock_runs.proofs.Copies.{setting}

-- from the phase in which a node is entered, what comes of it in the run
pub record NodeKeeps (p : TimedProgram) (shapes : Shapes) (i : ℕ) (it : Node Untimed) (timed : Node Timed) (t : Words) (n : ℕ) : Type 0 where
  pub ends : (g : Going) (t1 : Words) (n1 : ℕ) → (node_run shapes it t n).outcome ≡ went g t1 n1
      → (run_from p (enter p.nodes i t) (node_cycles (Some timed) (length (node_run shapes it t n).trace)) ≡ goes_to p.nodes g t1)
      × ((m : ℕ) → m < node_cycles (Some timed) (length (node_run shapes it t n).trace) → IsEnded (run_from p (enter p.nodes i t) m) → ⊥)
      × (1 ≤ node_cycles (Some timed) (length (node_run shapes it t n).trace))
      × (length (node_run shapes it t n).trace ≤ node_cycles (Some timed) (length (node_run shapes it t n).trace))
      × (n ≡ n1 + length (node_run shapes it t n).trace)
  pub waits : (node_run shapes it t n).outcome ≡ waiting → (m : ℕ) → m ≤ n → IsEnded (run_from p (enter p.nodes i t) m) → ⊥

pub flow_first : (s : Setting) → flow s 0 ≡ first_flow s.body s.start
unfolding flow
flow_first s = refl

pub inside_not : (i : ℕ) (f : Flow) (c : Phase) → c ≡ inside i f → IsEnded c → ⊥
inside_not i f c e h = subst IsEnded e h

module _ (p : TimedProgram) (short : AreShort p.shapes) (memories : List Memory) (it : Block Untimed) (timed : Block Timed) (times units : List ℕ) (well : IsWellTimedBlock memories it timed times units) (sound : IsSoundBlock p.shapes it) (t : Words)
    (i : ℕ) (here : slice_get p.nodes i ≡ Some (timed_node (node.Plain timed))) where
  abbrev s : Setting
  s = setting p.shapes timed.length timed.body [] t

  abbrev len : ℕ
  len = timed.length

  abbrev entered : Phase
  entered = enter p.nodes i t

  some_length : 0 < len
  some_length = some p.shapes short memories it timed times units well sound t

  step_here : (f : Flow) → node_step p.shapes p.nodes i f (slice_get p.nodes i) ≡ block_step p.shapes p.nodes i s.body timed.end f
  step_here f = ap (node_step p.shapes p.nodes i f) here

  -- its cycles
  within : (m : ℕ) → m < len → run_from p entered m ≡ inside i (flow s m)
  within zero lt = ap (at_node i t) here ∙ ap (inside i) (sym (flow_first s))
  within (suc m) lt =
      let time = flow-time s m in
      let on : nat_lt ((flow s m).time + 1) len ≡ true = lt-ltb ((flow s m).time + 1) len (omega arith) in
      ap (clock_step p) (within m (omega arith)) ∙ step_here (flow s m) ∙ cond-true _ _ _ on ∙ ap (inside i) (sym (flow_tick s m))

  left_then : run_from p entered len ≡ block_left p.nodes s.body timed.end (flow s len)
  left_then =
      let last : len ≡ suc (len - 1) = (let z = some_length in omega arith) in
      let time = flow-time s (len - 1) in
      let off : nat_lt ((flow s (len - 1)).time + 1) len ≡ false = le-ltb ((flow s (len - 1)).time + 1) len (omega arith) in
      ap (run_from p entered) last
      ∙ ap (clock_step p) (within (len - 1) (let z = some_length in omega arith)) ∙ step_here (flow s (len - 1)) ∙ cond-false _ _ _ off
      ∙ ap (block_left p.nodes s.body timed.end) (sym (flow_tick s (len - 1)) ∙ ap (flow s) (sym last))

  pub not_sooner : (m : ℕ) → m < len → IsEnded (run_from p entered m) → ⊥
  not_sooner m lt h = inside_not i (flow s m) (run_from p entered m) (within m lt) h

  module _ (g : Going) (t1 : Words) (n n1 points : ℕ) (b : BlockWent p.shapes it t g t1 n n1 points) where
    abbrev read : Operand → ℕ
    read x = operand_at s.body (flow s len) (flow s len).time x

    made : b.ranged ≡ ranged s t (count_of s)
    made = ranged_is p.shapes short memories it timed times units well sound t b.ranged b.defined

    reads_same : (x : Operand) → IsOperand [] (length it.body.ops.items) x → read x ≡ operand (inner s t (count_of s)) (after s t (count_of s)).results x
    reads_same x h =
        ap (λ time. operand_at s.body (flow s len) time x) (flow-time s len)
        ∙ block_operands s (timely p.shapes short memories it timed times units well sound t) (order p.shapes short memories it timed times units well sound t b.ranged b.defined) (always p.shapes short memories it timed times units well sound t) (early p.shapes short memories it timed times units well sound t)
        x (ready_at_end p.shapes short memories it timed times units well sound t x h)
        ∙ sym (ap (λ (f : Operand → ℕ). f x) (operand_inner s t (count_of s) (after s t (count_of s)).results))

    same_count : length (map op_of it.body.ops.items) ≡ length it.body.ops.items
    same_count = length-map it.body.ops.items (λ (u : Op Untimed). op_of u)

    leads_same : going_by read timed.end ≡ g
    leads_same =
        end_copied read it.end timed.end well.ends
        ∙ going_same (length it.body.ops.items) read (inner s t (count_of s)) (after s t (count_of s)).results reads_same it.end (subst (λ k. IsSoundEnd k it.end) same_count sound.ends)
        ∙ ap (λ (q : Ranged). going it.end q.words q.results) (sym made)
        ∙ b.goes

    variables_same : taken read s.body.outs (flow s len).entry ≡ outs it.body.outs.items (inner s t (count_of s)) (after s t (count_of s)).results t.variables
    variables_same =
        ap₂ (λ xs f. taken read xs f) well.body.outs (flow-entry s len)
        ∙ taken_same (length it.body.ops.items) read (inner s t (count_of s)) (after s t (count_of s)).results reads_same it.body.outs.items t.variables (subst (λ k. Each (λ (x : Out). IsOperand [] k x.value) it.body.outs.items) same_count sound.outs)

    memories_same : (flow s len).memories ≡ (after s t (count_of s)).memories
    memories_same = λ j memory address. block_memories s (timely p.shapes short memories it timed times units well sound t) (order p.shapes short memories it timed times units well sound t b.ranged b.defined) (always p.shapes short memories it timed times units well sound t) (early p.shapes short memories it timed times units well sound t) memory address j

    words_same : record { variables = taken read s.body.outs (flow s len).entry; memories = (flow s len).memories } ≡ t1
    words_same = (λ j. record { variables = variables_same j; memories = memories_same j }) ∙ ap (λ (q : Ranged). with_outs it.body.outs.items q) (sym made) ∙ b.leaves

    pub left_so : run_from p entered len ≡ goes_to p.nodes g t1
    left_so = left_then ∙ ap₂ (goes_to p.nodes) leads_same words_same

  pub block_keeps : (n : ℕ) → NodeKeeps p p.shapes i (node.Plain it) (node.Plain timed) t n
  block_keeps n = record {
    ends = λ g t1 n1 e.
        (let b = block_went p.shapes it t n g t1 n1 e in
        let one : len * length (node_run p.shapes (node.Plain it) t n).trace ≡ len = ap (λ z. len * z) b.passes ∙ (let z : len * 1 ≡ len = omega arith in z) in
        let positive = some_length in
        let points = b.passes in
        let fewer = b.fewer in (
          ap (run_from p entered) one ∙ left_so g t1 n n1 (length (node_run p.shapes (node.Plain it) t n).trace) b,
          (λ m lt. not_sooner m (omega arith)),
          omega arith,
          omega arith,
          omega arith,
        ));
    waits = λ e m le. (let none = block_waits p.shapes it t n e in let positive = some_length in not_sooner m (omega arith));
  }
