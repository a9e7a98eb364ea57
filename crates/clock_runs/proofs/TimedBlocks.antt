-- A well timed block keeps what its operations wait for.
use Rattle.std.proofs.Common.{◌≡◌, ℕ, ◌+◌, ◌*◌, ◌<◌, ◌≤◌, ◌∙◌, inl, inr, sym, refl, ap, ap₂, subst, true, List, [], map, take, length, Option, Some, None, pos, ◌+ℤ◌, arith}
use Rattle.std.specs.Prelude.{slice_index, slice_get}
use Rattle.std.proofs.lemmas.Int.{ints}
use Rattle.std.proofs.lemmas.List.{take_all, length-map}
use Rattle.hls_base.specs.declared.number.OpId.{OpId}
use Rattle.ir_core.specs.declared.body.Operand.{Operand}
use Rattle.ir_core.specs.declared.body.Source.{Source}
use Rattle.ir_core.specs.declared.body.Source.TheVariants as source
use Rattle.ir_core.specs.declared.cfg.Block.{Block}
use Rattle.ir_core.specs.declared.cfg.Memory.{Memory}
use Rattle.ir_core.specs.declared.stamp.Untimed.{Untimed}
use Rattle.ir_core.specs.Value.{number_of}
use Rattle.ir_core.specs.Timing as timing
use Rattle.ir_core.specs.declared.timed.Timed.{Timed}
use Rattle.dep_graph.specs.Offsets.{maker}
use Rattle.block_schedule.specs.Schedules.{ready_at}
use Rattle.hls_base.specs.Valued.{is}
use Rattle.ir_core.specs.Bodies.{OpTree, op_of, Shapes, Words, Ranged, operations, operand}
use Rattle.ir_core.specs.TreeRuns.{tested}
use Rattle.clock_ir.specs.Flows.{latency, known, TimedOp, ready_if}
use Rattle.clock_ir.specs.WellTimed.{IsWellTimedBlock}
use Rattle.clock_runs.specs.Premises.{IsOperandAs, IsOperand, IsSoundBlock}
use Rattle.clock_runs.proofs.Settings.{Setting, op_at, ops_of, count_of, available, after, moment, passes_from, IsReadyAs, IsReady, IsReadyIf, IsTimely, KeepsOrder, allows}
use Rattle.clock_runs.proofs.Numbers.{earlier_turn}
use Rattle.clock_runs.proofs.Chains.{takes}
use Rattle.clock_runs.proofs.Iterations.{moment_start}
use Rattle.clock_runs.proofs.Defined.{Defined, ranged}
use Rattle.clock_runs.proofs.Walks.{walk}
use Rattle.clock_runs.proofs.Growing.{grown}
use Rattle.clock_runs.proofs.Sums.{IsCopy}
use Rattle.clock_runs.proofs.Order.{AreShort}
use Rattle.clock_runs.proofs.Ordered.{AreKept, IsDefinedRun, keeps_order}
use Rattle.clock_runs.proofs.Copies.{setting, ops_same, count_same, start_of, is_copy}
use Rattle.clock_runs.proofs.Timely.{IsLinked, args_ready, guard_ready}
use Rattle.dep_graph.specs.Dependences.{test_maker}
use Rattle.clock_runs.proofs.Lists.{no_some, nth_get}

pub ranged_first : (s : Setting) (t : Words) → ranged s t 0 ≡ record { results = []; words = t }
unfolding after
ranged_first s t = refl

module _ (shapes : Shapes) (short : AreShort shapes) (memories : List Memory) (block : Block Untimed) (timed : Block Timed) (times units : List ℕ) (well : IsWellTimedBlock memories block timed times units) (sound : IsSoundBlock shapes block) (t : Words) where
  abbrev pub s : Setting
  s = setting shapes timed.length timed.body [] t

  abbrev copy : IsCopy s [] block.body
  copy = is_copy shapes timed.length block.body timed.body times units well.body [] t sound.ops

  pub counted : count_of s ≡ length block.body.ops.items
  counted = count_same shapes timed.length block.body timed.body times units well.body [] t

  pub some : 0 < timed.length
  some = (let h = well.long_enough.some in omega arith)

  kept : AreKept s block.body times timed.length
  kept = record {
    starts = start_of shapes timed.length block.body timed.body times units well.body [] t;
    waits = λ e c near. elim near [
      | inl none ↦
          let h = well.waits e c none in
          let a : e.distance * timed.length ≡ 0 * timed.length = ap (λ z. z * timed.length) none in
          let b : 0 * e.distance ≡ 0 = omega arith in
          omega arith
      | inr late ↦ absurd (omega arith)
    ];
  }

  -- its operations are done before it ends
  pub done : (k : ℕ) → k < count_of s → available s k ≤ timed.length
  done k lt =
      let f = copy.found k lt in
      let h = well.long_enough.ops k (omega (arith, counted)) in
      let ready : ready_at times k (slice_get block.body.ops.items k) ≡ slice_index times (k + 1) + timing.latency f.0.kind f.0.bits = ap (ready_at times k) (nth_get block.body.ops.items k f.0 f.1) in
      let lat : timing.latency f.0.kind f.0.bits ≡ latency (op_at s k) = ap (λ (op : OpTree). timing.latency op.kind op.bits) (copy.ops k f.0 f.1).1 in
      let start = kept.starts k lt in
      omega arith

  pub early : (k : ℕ) → k < count_of s → (op_at s k).start < timed.length
  early k lt = (let h = done k lt in let l = takes (op_at s k) in omega arith)

  untested : s.body.test ≡ None
  untested = well.body.test ∙ sound.untested

  pub always : (x : Words) → passes_from s x ≡ true
  always x = ap (λ (p : Option Operand). allows (operand x (after s x (tested p)).results) p) untested

  no_links : (variable : ℕ) (j : OpId) → maker [] variable ≡ Some j → IsLinked s block.body timed.length variable j
  no_links variable j e = absurd (no_some e)

  pub timely : IsTimely s
  timely = record {
    interval = some;
    outs = tt;
    args = args_ready s block.body copy times timed.length kept no_links;
    guards = guard_ready s block.body copy times timed.length kept no_links;
    test = subst (λ p. IsReadyIf s (tested p) (known s.body) p) (sym untested) tt;
    test_in = (let e : tested s.body.test ≡ 0 = ap tested untested in omega arith);
    test_before = λ k lt store. (
      (let e : tested s.body.test ≡ 0 = ap tested untested in omega arith),
      (let e : known s.body ≡ 0 = ap (λ p. ready_if s.body (test_maker p)) untested in omega arith),
    );
  }

  -- an operand of the end or of an out is there as the block ends
  ready_as : (value : Source) (distance : ℕ) → IsOperandAs [] (length block.body.ops.items) value distance → IsReadyAs s (count_of s) timed.length value distance
  ready_as (source.Constant c) distance h = tt
  ready_as (source.Variable v) distance h = elim h [
    | inl fixed ↦ inl fixed
    | inr changed ↦ absurd (no_some changed.1.1)
  ]
  ready_as (source.Result j) distance h =
      let lt : j.0 < count_of s = (let z = h.1 in omega (arith, counted)) in
      (h.0, lt, lt, done j.0 lt)

  pub ready_at_end : (x : Operand) → IsOperand [] (length block.body.ops.items) x → IsReady s (count_of s) timed.length x
  ready_at_end x h = ready_as x.value x.distance h

  -- where its operations are defined
  module _ (r : Ranged) (defined : operations shapes (map op_of block.body.ops.items) (map op_of block.body.ops.items) [] t ≡ is r) where
    walked_all : (r ≡ ranged s t (0 + count_of s)) × ((j : ℕ) → 0 ≤ j → j < 0 + count_of s → Defined s t j)
    walked_all =
        let same = ops_same shapes timed.length block.body timed.body times units well.body [] t in
        let all : take (count_of s) (ops_of s) ≡ ops_of s = take_all (count_of s) (ops_of s) (let l = length-map s.body.ops (λ (p : TimedOp). p.op) in omega arith) in
        walk s t (count_of s) 0 (omega arith) r
        (ap (λ (q : Ranged). operations shapes (ops_of s) (take (count_of s) (ops_of s)) q.results q.words) (ranged_first s t)
        ∙ ap (λ xs. operations shapes (ops_of s) xs [] t) all ∙ ap (λ xs. operations shapes xs xs [] t) same ∙ defined)

    pub ranged_is : r ≡ ranged s t (count_of s)
    ranged_is = walked_all.0 ∙ ap (ranged s t) (let z : 0 + count_of s ≡ count_of s = omega arith in z)

    first_only : (i : ℕ) → i * timed.length < timed.length → i ≡ 0
    first_only i h =
        let less : i * timed.length < 1 * timed.length = omega arith in
        let first = earlier_turn timed.length i 1 less in
        omega arith

    run : IsDefinedRun s block.body timed.length
    run = record {
      defined = λ i k h r.
          (let at : moment s i ≡ t = ap (moment s) (first_only i h) ∙ moment_start s in
          let lt = r.1 in
          subst (λ x. Defined s x k) (sym at) (walked_all.1 k (omega arith) (omega arith)));
      grows = λ i d h b variable bits step e w.
          (let none = first_only (i + d) h in
          let first : i ≡ 0 = omega arith in
          let zero_ : d ≡ 0 = omega arith in
          let number = number_of true bits ((moment s 0).variables variable) in
          let still : number ≡ number +ℤ pos 0 = omega (arith, ints) in
          ap (λ z. number_of true bits ((moment s z).variables variable)) none ∙ still ∙ ap₂ (λ y z. number_of true bits ((moment s y).variables variable) +ℤ grown step z) (sym first) (sym zero_));
    }

    pub order : KeepsOrder s timed.length
    order = keeps_order s [] block.body copy short timely times timed.length kept run
