-- A loop, cycle by cycle, is left where it is left in the run, with the same contents.
use Rattle.std.proofs.Common.{◌≡◌, ℕ, zero, suc, ◌+◌, ◌*◌, ◌<◌, ◌≤◌, ◌∙◌, sym, refl, ap, ap₂, subst, false, List, [], ◌++◌, length, Some, arith}
use Rattle.std.specs.Prelude.{slice_get}
use Rattle.std.proofs.lemmas.List.{append-nil}
use Rattle.std.proofs.Math.Nat.{le-mul_of_pos_right}
use Rattle.hls_base.specs.declared.point.Point.{Point}
use Rattle.ir_core.specs.declared.cfg.Loop.{Loop}
use Rattle.ir_core.specs.declared.cfg.Memory.{Memory}
use Rattle.ir_core.specs.declared.cfg.Node.TheVariants as node
use Rattle.ir_core.specs.declared.stamp.Untimed.{Untimed}
use Rattle.ir_core.specs.declared.timed.Timed.{Timed}
use Rattle.hls_base.specs.Steps.{Outcome, went, undefined, waiting, Ran, ran, goes, then_}
use Rattle.ir_core.specs.Bodies.{Words}
use Rattle.ir_core.specs.Trees.{BodyTree}
use Rattle.ir_core.specs.TreeRuns.{Turn, repeat, iteration, way_behind, tested}
use Rattle.ir_core.specs.FlatRuns.{Going, to, body_of, node_run}
use Rattle.clock_ir.specs.Flows.{Flow}
use Rattle.clock_ir.specs.ClockRuns.{TimedProgram, Phase, loading, inside, at_node, load, enter, goes_to, loop_step, node_step, clock_step, timed_node}
use Rattle.clock_ir.specs.WellTimed.{IsWellTimedLoop}
use Rattle.clock_runs.specs.Premises.{IsSoundLoop}
use Rattle.clock_runs.specs.Laws.{IsEnded}
use Rattle.clock_runs.proofs.Settings.{Setting, ops_of, count_of, flow, moment, passes, Begins, IsTimely, KeepsOrder, sort_at}
use Rattle.clock_runs.proofs.Numbers.{earlier_turn}
use Rattle.clock_runs.proofs.Iterations.{moment_start, begins_less}
use Rattle.clock_runs.proofs.Same.{runs_before}
use Rattle.clock_runs.proofs.Leaving.{CanExit, stays, stays_before, leaves}
use Rattle.clock_runs.proofs.Order.{AreShort}
use Rattle.clock_runs.proofs.Ordered.{IsDefinedRun, keeps_order}
use Rattle.clock_runs.proofs.Copies.{setting, ops_same}
use Rattle.clock_runs.proofs.Counting.{grows}
use Rattle.clock_runs.proofs.Paths.{run_from}
use Rattle.clock_runs.proofs.BlockRuns.{not_waiting, not_undefined, undefined_not, went_not, went_parts}
use Rattle.clock_runs.proofs.BlockNodes.{NodeKeeps, flow_first, inside_not}
use Rattle.clock_runs.proofs.Repeats.{turn, AllBefore, LoopWent, LoopWaits, loop_goes, loop_waits}
use Rattle.clock_runs.proofs.TimedLoops.{copy, kept, timely, test_in, test_first, can_exit}
use Rattle.hls_base.specs.declared.number.NodeId.{NodeId}
use Rattle.clock_runs.proofs.Effects.{storing}

-- ---- what comes of a loop node

abbrev behind_loop : ℕ → Ran Words Turn → Ran Words Going
behind_loop next r = then_ (then_ r (λ w t1 n1. goes (way_behind w) t1 n1)) (λ w t1 n1. goes (to next) t1 n1)

abbrev LoopLeft : ℕ → List Point → Outcome Words Turn → Going → Words → ℕ → Type 0
LoopLeft next trace o g t1 n1 = (w : Turn) × ((o ≡ went w t1 n1) × (to next ≡ g) × (length (behind_loop next (ran trace o)).trace ≡ length trace))

loop_left_so : (next : ℕ) (trace : List Point) (o : Outcome Words Turn) (g : Going) (t1 : Words) (n1 : ℕ) → (behind_loop next (ran trace o)).outcome ≡ went g t1 n1 → LoopLeft next trace o g t1 n1
loop_left_so next trace (undefined rule at) g t1 n1 h = absurd (not_undefined h)
loop_left_so next trace waiting g t1 n1 h = absurd (not_waiting h)
loop_left_so next trace (went w t2 n2) g t1 n1 h =
    let same = went_parts h in
    (w, (ap₂ (λ x y. went w x y) same.1 same.2, same.0, ap length (append-nil (trace ++ []) ∙ append-nil trace)))

loop_still : (next : ℕ) (trace : List Point) (o : Outcome Words Turn) → (behind_loop next (ran trace o)).outcome ≡ waiting → o ≡ waiting
loop_still next trace (undefined rule at) h = absurd (undefined_not h)
loop_still next trace waiting h = refl
loop_still next trace (went w t2 n2) h = absurd (went_not h)

module _ (p : TimedProgram) (short : AreShort p.shapes) (memories : List Memory) (it : Loop Untimed) (timed : Loop Timed) (times units : List ℕ) (well : IsWellTimedLoop memories it timed times units) (sound : IsSoundLoop p.shapes it) (t : Words)
    (i : ℕ) (here : slice_get p.nodes i ≡ Some (timed_node (node.Looped timed))) where
  abbrev s : Setting
  s = setting p.shapes timed.ii timed.body it.body.outs.items t

  abbrev width : ℕ
  width = timed.ii

  abbrev entered : Phase
  entered = enter p.nodes i t

  is_timely : IsTimely s
  is_timely = timely p.shapes memories it timed times units well sound t

  first_in : tested s.body.test ≤ count_of s
  first_in = test_in p.shapes memories it timed times units well sound t

  first_of : (k : ℕ) → k < count_of s → sort_at s k ≡ storing → tested s.body.test ≤ k
  first_of = test_first p.shapes memories it timed times units well sound t

  -- the iterations are those of the body with times
  same_tree : body_of it.body ≡ record { ops = ops_of s; outs = s.carried; test = s.body.test }
  same_tree = (λ j. record { ops = sym (ops_same p.shapes timed.ii it.body timed.body times units well.body it.body.outs.items t) j; outs = it.body.outs.items; test = sym well.body.test j })

  abbrev repeated : ℕ → Ran Words Turn
  repeated n = repeat (suc n) (iteration p.shapes it.point (body_of it.body)) t n

  repeated_is : (n : ℕ) → repeated n ≡ repeat (suc n) (turn s it.point first_in first_of) (moment s 0) n
  repeated_is n =
      ap (λ (b : BodyTree). repeat (suc n) (iteration p.shapes it.point b) t n) same_tree
      ∙ ap (λ x. repeat (suc n) (turn s it.point first_in first_of) x n) (sym (moment_start s))

  -- ---- its cycles

  step_here : (f : Flow) → node_step p.shapes p.nodes i f (slice_get p.nodes i) ≡ loop_step p.shapes p.nodes i s.body timed.exit timed.next.0 f
  step_here f = ap (node_step p.shapes p.nodes i f) here

  entered_is : entered ≡ loading i t
  entered_is = ap (at_node i t) here

  within : (m : ℕ) → ((time : ℕ) → time < m → loop_step p.shapes p.nodes i s.body timed.exit timed.next.0 (flow s time) ≡ inside i (flow s (suc time))) → run_from p entered (suc m) ≡ inside i (flow s m)
  within zero h = ap (clock_step p) entered_is ∙ ap (load i t) here ∙ ap (inside i) (sym (flow_first s))
  within (suc m) h = ap (clock_step p) (within m (λ time lt. h time (omega arith))) ∙ step_here (flow s m) ∙ h m (omega arith)

  not_within : (m : ℕ) → ((time : ℕ) → suc time < m → loop_step p.shapes p.nodes i s.body timed.exit timed.next.0 (flow s time) ≡ inside i (flow s (suc time))) → IsEnded (run_from p entered m) → ⊥
  not_within zero h is = subst IsEnded entered_is is
  not_within (suc m) h is = inside_not i (flow s m) (run_from p entered (suc m)) (within m (λ time lt. h time (omega arith))) is

  -- where all that runs before the horizon is defined
  ordered : (horizon : ℕ) → IsDefinedRun s it.body horizon → KeepsOrder s horizon
  ordered horizon run = keeps_order s s.carried it.body (copy p.shapes memories it timed times units well sound t) short is_timely times horizon (kept p.shapes memories it timed times units well sound t horizon) run

  exits : CanExit s timed.exit
  exits = can_exit p.shapes memories it timed times units well sound t

  -- ---- left after so many iterations

  module _ (n n1 points : ℕ) (t1 : Words) (w : Turn) (b : LoopWent s it.point first_in first_of 0 n n1 points t1 w) where
    none_first : 0 + points ≡ points
    none_first = omega arith

    begins : Begins s points
    begins = subst (Begins s) none_first b.begins

    fails : passes s points ≡ false
    fails = ap (passes s) (sym none_first) ∙ b.fails

    abbrev last : ℕ
    last = points * width + timed.exit

    run_all : IsDefinedRun s it.body (suc last)
    run_all = record {
      defined = λ j k h r. b.defined j k r;
      grows = λ j d h more.
          grows s it.body (copy p.shapes memories it timed times units well sound t) is_timely.outs refl j d
          (λ m k lt in_. b.defined m k (runs_before s is_timely m (begins_less s (j + d) (suc m) (omega arith) more) k in_));
    }

    order : KeepsOrder s (suc last)
    order = ordered (suc last) run_all

    stay : (time : ℕ) → time < last → loop_step p.shapes p.nodes i s.body timed.exit timed.next.0 (flow s time) ≡ inside i (flow s (suc time))
    stay time lt = stays_before s is_timely (suc last) order p.nodes i timed.exit timed.next.0 exits points begins fails (omega arith) time lt

    left_then : run_from p entered (suc (suc last)) ≡ goes_to p.nodes (to it.next.0) t1
    left_then =
        ap (clock_step p) (within last stay) ∙ step_here (flow s last)
        ∙ leaves s is_timely (suc last) order p.nodes i timed.exit timed.next.0 exits points begins fails (omega arith)
        ∙ ap₂ (λ (next : NodeId) x. enter p.nodes next.0 x) well.next (ap (moment s) (sym none_first) ∙ sym b.leaves)

    not_sooner : (m : ℕ) → m < suc (suc last) → IsEnded (run_from p entered m) → ⊥
    not_sooner m lt is = not_within m (λ time less. stay time (omega arith)) is

  -- ---- never left

  waits_on : (n : ℕ) → LoopWaits s it.point first_in first_of 0 n → (m : ℕ) → m ≤ n → IsEnded (run_from p entered m) → ⊥
  waits_on n b m le is =
      let some : 0 < width = is_timely.interval in
      let far : n ≤ n * width = le-mul_of_pos_right n some in
      let all : AllBefore s it.point first_in first_of n = subst (AllBefore s it.point first_in first_of) (let z : 0 + n ≡ n = omega arith in z) b.defined in
      let begins : Begins s (suc n) = subst (λ z. Begins s (suc z)) (let z : 0 + n ≡ n = omega arith in z) b.begins in
      let run : IsDefinedRun s it.body (n * width) = record {
        defined = λ j k h r. all j k (earlier_turn width j n h) r.1;
        grows = λ j d h more.
            (let before = earlier_turn width (j + d) n h in
            grows s it.body (copy p.shapes memories it timed times units well sound t) is_timely.outs refl j d (λ q k lt in_. all q k (omega arith) in_));
      } in
      not_within m
      (λ time less. stays s is_timely (n * width) (ordered (n * width) run) p.nodes i timed.exit timed.next.0 exits time (omega arith) (λ j at.
      let slow : j ≤ j * width = le-mul_of_pos_right j some in
      begins_less s (suc n) (suc j) (omega arith) begins))
      is

  no_iterations_before : AllBefore s it.point first_in first_of 0
  no_iterations_before j k lt in_ = absurd (omega arith)

  begins_first : Begins s 0
  begins_first j lt = absurd (omega arith)

  pub loop_keeps : (n : ℕ) → NodeKeeps p p.shapes i (node.Looped it) (node.Looped timed) t n
  loop_keeps n = record {
    ends = λ g t1 n1 e.
        (let l = loop_left_so it.next.0 (repeated n).trace (repeated n).outcome g t1 n1 e in
        let same = repeated_is n in
        let b = loop_goes s it.point first_in first_of (suc n) 0 n begins_first no_iterations_before l.0 t1 n1 (ap (λ (r : Ran Words Turn). r.outcome) (sym same) ∙ l.1.0) in
        let points = length (repeat (suc n) (turn s it.point first_in first_of) (moment s 0) n).trace in
        let passed : length (node_run p.shapes (node.Looped it) t n).trace ≡ points = l.1.2 ∙ ap (λ (r : Ran Words Turn). length r.trace) same in
        let edges : width * length (node_run p.shapes (node.Looped it) t n).trace + (timed.exit + 2) ≡ suc (suc (points * width + timed.exit)) = ap (λ z. width * z + (timed.exit + 2)) passed ∙ (let z : width * points + (timed.exit + 2) ≡ suc (suc (points * width + timed.exit)) = omega arith in z) in
        let wide : points ≤ points * width = le-mul_of_pos_right points is_timely.interval in
        let fewer = b.fewer in (
          ap (run_from p entered) edges ∙ left_then n n1 points t1 l.0 b ∙ ap (λ z. goes_to p.nodes z t1) l.1.1,
          (λ m lt. not_sooner n n1 points t1 l.0 b m (omega arith)),
          omega arith,
          omega arith,
          omega arith,
        ));
    waits = λ e m le.
        (let w = loop_still it.next.0 (repeated n).trace (repeated n).outcome e in
        let b = loop_waits s it.point first_in first_of (suc n) 0 n (omega arith) begins_first no_iterations_before (ap (λ (r : Ran Words Turn). r.outcome) (sym (repeated_is n)) ∙ w) in
        waits_on n b m le);
  }
