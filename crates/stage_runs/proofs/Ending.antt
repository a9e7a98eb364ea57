-- What a machine that has run to its end tells of the run of its program.
use Rattle.std.proofs.Common.{◌≡◌, ◌∙◌, ℕ, ◌+◌, ◌<◌, ◌≤◌, List, [], ◌∷◌, ◌++◌, length, map, Option, None, true, refl, sym, ap, subst, arith}
use Rattle.std.proofs.lemmas.List.{length-append}
use Rattle.hls_base.specs.Tallies.{count_in}
use Rattle.hls_base.specs.declared.inputs.Inputs.{Inputs}
use Rattle.hls_base.specs.declared.place.Place.{Place}
use Rattle.hls_base.specs.declared.point.Point.{Point}
use Rattle.hls_base.specs.declared.refusal.UbRule.{UbRule}
use Rattle.c_meaning.specs.Laws.{TalliesCount}
use Rattle.c_meaning.specs.Points.{count_point, count_all, times}
use Rattle.ir_core.specs.declared.cfg.Cfg.{Cfg}
use Rattle.ir_core.specs.declared.cfg.Node.{Node}
use Rattle.ir_core.specs.declared.stamp.Untimed.{Untimed}
use Rattle.hls_base.specs.Steps.{Ran}
use Rattle.ir_core.specs.Bodies.{Words}
use Rattle.ir_core.specs.FirstContents.{first_words}
use Rattle.ir_core.specs.FlatRuns.{flat_run}
use Rattle.ir_core.specs.Halts.{is_ended}
use Rattle.ir_core.specs.declared.machine.Halt.TheVariants as halt
use Rattle.flat_programs.specs.Machine.Rest.{IsWhole, GoesOn, Passes, beginning, rest, EndsSo, FailsSo}
use Rattle.flat_programs.specs.Machine.States.{words_of}
use Rattle.flat_programs.specs.declared.machine.machine.SeqMachine.{SeqMachine}
use Rattle.flat_programs.specs.declared.machine.state.State.{State}
use Rattle.flat_programs.proofs.MachineLemmas.Going.{goes_passing, passes_no_points, passes_then}
use Rattle.stage_runs.specs.declared.stage.PointCount.{PointCount}
use Rattle.stage_runs.specs.declared.stage.Stage.{Stage}
use Rattle.stage_runs.specs.Points.{point_of, node_points, counted, HasPassed}
use Rattle.stage_runs.specs.Stages.{AreArrays, IsToldOf}

abbrev Run : Type 0
Run = Ran Words (Option ℕ)

abbrev Tally : Type 0
Tally = List (Point × ℕ)

-- ---- points that are passed one after another

count_all_then : (ps qs : List Point) (counts : Tally) → count_all (ps ++ qs) counts ≡ count_all qs (count_all ps counts)
count_all_then [] qs counts = refl
count_all_then (p ∷ ps) qs counts = count_all_then ps qs (count_point p counts)

pub passed_then : (m l most : ℕ) (a b c : ℕ → ℕ → Run) (x y z : Tally) → m + l ≤ most → HasPassed m a b x y → HasPassed l b c y z → HasPassed most a c x z
passed_then m l most a b c x y z h p q = record {
  points = p.points ++ q.points;
  few = omega (arith, h, p.few, q.few, length-append p.points q.points);
  passes = passes_then p.points q.points m l most a b c h p.passes q.passes;
  counts = q.counts ∙ (ap (count_all q.points) p.counts ∙ sym (count_all_then p.points q.points x));
}

-- one step more
pub further : (steps : ℕ) (first here next last : SeqMachine) (x y z : Tally) → here.cfg.now ≡ first.cfg.now → last ≡ next → (IsWhole first.cfg.now → HasPassed steps (rest first.cfg.now first.state) (rest here.cfg.now here.state) x y)
    → (IsWhole here.cfg.now → HasPassed 1 (rest here.cfg.now here.state) (rest next.cfg.now next.state) y z) → IsWhole first.cfg.now → HasPassed (steps + 1) (rest first.cfg.now first.state) (rest last.cfg.now last.state) x z
further steps first here next last x y z same stays before step whole =
    subst (λ (m : SeqMachine). HasPassed (steps + 1) (rest first.cfg.now first.state) (rest m.cfg.now m.state) x z) (sym stays)
    (passed_then steps 1 (steps + 1) (rest first.cfg.now first.state) (rest here.cfg.now here.state) (rest next.cfg.now next.state) x y z (omega arith) (before whole) (step (subst IsWhole (sym same) whole)))

-- the run from these inputs has come to this state, within so many points, and these are their counts
abbrev pub HasCome : Cfg Untimed → Inputs → ℕ → Tally → Cfg Untimed → State → Type 0
HasCome cfg inputs steps tally g s = IsWhole cfg → HasPassed steps (beginning cfg (first_words cfg.frame inputs)) (rest g s) [] tally

pub has_come : (cfg : Cfg Untimed) (inputs : Inputs) (steps : ℕ) (g0 : Cfg Untimed) (s0 : State) (g : Cfg Untimed) (s : State) (none counts tally : Tally) → g0 ≡ cfg → none ≡ [] → tally ≡ counts
    → (IsWhole cfg → GoesOn 0 (beginning cfg (first_words cfg.frame inputs)) (rest g0 s0))
    → (IsWhole g0 → HasPassed steps (rest g0 s0) (rest g s) none counts) → HasCome cfg inputs steps tally g s
has_come cfg inputs steps g0 s0 g s none counts tally same no_counts counted_so begins goes whole =
    let begin = beginning cfg (first_words cfg.frame inputs) in
    let first : HasPassed 0 begin (rest g0 s0) [] [] = record { points = []; few = omega arith; passes = passes_no_points begin (rest g0 s0) (begins whole); counts = refl } in
    let shown = subst (λ (old : Tally). HasPassed steps (rest g0 s0) (rest g s) old counts) no_counts (goes (subst IsWhole (sym same) whole)) in
    let later = subst (λ (new : Tally). HasPassed steps (rest g0 s0) (rest g s) [] new) (sym counted_so) shown in
    passed_then 0 steps steps begin (rest g0 s0) (rest g s) [] [] tally (omega arith) first later

-- ---- what is counted

counts_are : (tally in_c : Tally) (trace : List Point) (nodes : List (Node Untimed)) → ((p : Point) → count_in tally p ≡ times trace p)
    → map (λ (p : PointCount). p.count) (map (counted tally in_c) nodes) ≡ map (times trace) (node_points nodes)
counts_are tally in_c trace [] same = refl
counts_are tally in_c trace (it ∷ nodes) same =
    ap (λ n. n ∷ map (λ (p : PointCount). p.count) (map (counted tally in_c) nodes)) (same (point_of it)) ∙ ap (λ l. times trace (point_of it) ∷ l) (counts_are tally in_c trace nodes same)

pub points_are : (tally in_c : Tally) (nodes : List (Node Untimed)) → map (λ (p : PointCount). p.point) (map (counted tally in_c) nodes) ≡ node_points nodes
points_are tally in_c [] = refl
points_are tally in_c (it ∷ nodes) = ap (λ l. point_of it ∷ l) (points_are tally in_c nodes)

pub counts_in_c : (tally in_c : Tally) (nodes : List (Node Untimed)) → map (λ (p : PointCount). p.in_c) (map (counted tally in_c) nodes) ≡ map (count_in in_c) (node_points nodes)
counts_in_c tally in_c [] = refl
counts_in_c tally in_c (it ∷ nodes) = ap (λ l. count_in in_c (point_of it) ∷ l) (counts_in_c tally in_c nodes)

-- ---- what is told

-- what the laws and the calls of a machine say of a state
pub record Shows (g : Cfg Untimed) (s : State) (stage : Stage) : Type 0 where
  pub ended : (t : Words) (most n : ℕ) → GoesOn most (beginning g t) (rest g s) → s.halt ≡ halt.Ended → most ≤ n → EndsSo (flat_run g t n) s.returned (words_of s)
  pub undefined : (t : Words) (most n : ℕ) (rule : UbRule) (place : Place) → GoesOn most (beginning g t) (rest g s) → s.halt ≡ halt.Undefined rule place → most ≤ n → FailsSo (flat_run g t n) rule place
  pub passes : (t : Words) (points : List Point) (most n : ℕ) → Passes points most (beginning g t) (rest g s) → s.halt ≡ halt.Ended → most ≤ n → length points ≤ n → (flat_run g t n).trace ≡ points
  pub tallies : TalliesCount
  pub halts : stage.halt ≡ s.halt
  pub result : is_ended s.halt ≡ true → 0 < g.frame.ret → stage.ret ≡ s.returned
  pub void : g.frame.ret ≡ 0 → stage.ret ≡ None
  pub arrays : AreArrays g (words_of s) stage.arrays

told : (cfg : Cfg Untimed) (inputs : Inputs) (s : State) (tally in_c : Tally) (stage : Stage) → HasCome cfg inputs stage.steps tally cfg s → Shows cfg s stage
    → stage.points.items ≡ map (counted tally in_c) cfg.nodes.items → IsWhole cfg → IsToldOf cfg inputs stage
told cfg inputs s tally in_c stage come shows points whole =
    let t = first_words cfg.frame inputs in
    let come_here = come whole in
    let goes : GoesOn stage.steps (beginning cfg t) (rest cfg s) = goes_passing come_here.points stage.steps (beginning cfg t) (rest cfg s) come_here.few come_here.passes in
    record {
      ended = λ is most within.
          let stopped : s.halt ≡ halt.Ended = sym shows.halts ∙ is in
          record {
            value = s.returned;
            last = words_of s;
            ends = shows.ended t stage.steps most goes stopped within;
            result = shows.result (ap is_ended stopped);
            void = shows.void;
            elements = shows.arrays;
          };
      passed = λ is most within.
          let trace : (flat_run cfg t most).trace ≡ come_here.points = shows.passes t come_here.points stage.steps most come_here.passes (sym shows.halts ∙ is) within (omega (arith, come_here.few, within)) in
          let same : (p : Point) → count_in tally p ≡ times (flat_run cfg t most).trace p = λ p.
          ap (λ (counts : Tally). count_in counts p) come_here.counts ∙ ((shows.tallies come_here.points).count p ∙ ap (λ (passed : List Point). times passed p) (sym trace)) in
          ap (map (λ (p : PointCount). p.count)) points ∙ counts_are tally in_c (flat_run cfg t most).trace cfg.nodes.items same;
      undefined = λ rule place is most within. shows.undefined t stage.steps most rule place goes (sym shows.halts ∙ is) within;
    }

-- the same of a machine whose program is this one
pub told_at : (cfg g : Cfg Untimed) (inputs : Inputs) (s : State) (tally in_c : Tally) (stage : Stage) → g ≡ cfg → HasCome cfg inputs stage.steps tally g s → Shows g s stage
    → stage.points.items ≡ map (counted tally in_c) cfg.nodes.items → IsWhole cfg → IsToldOf cfg inputs stage
told_at cfg g inputs s tally in_c stage same come shows points =
    told cfg inputs s tally in_c stage (subst (λ (x : Cfg Untimed). HasCome cfg inputs stage.steps tally x s) same come) (subst (λ (x : Cfg Untimed). Shows x s stage) same shows) points
