-- Where each node keeps its stores apart, the program does.
use Rattle.std.proofs.Common.{◌≡◌, ℕ, zero, suc, ◌+◌, ◌-◌, ◌*◌, ◌<◌, ◌∙◌, inl, inr, refl, sym, ap, subst, List, [], ◌∷◌, map, length, Option, Some, None, arith}
use Rattle.std.specs.Prelude.{slice_get}
use Rattle.std.specs.Option.{option_map}
use Rattle.std.proofs.lemmas.Bool.{cases_lt}
use Rattle.std.proofs.lemmas.Option.{slice_get-map}
use Rattle.ir_core.specs.declared.cfg.Cfg.{Cfg}
use Rattle.ir_core.specs.declared.cfg.Memory.{Memory}
use Rattle.ir_core.specs.declared.cfg.Node.{Node}
use Rattle.ir_core.specs.declared.cfg.Node.TheVariants as node
use Rattle.ir_core.specs.declared.stamp.Untimed.{Untimed}
use Rattle.ir_core.specs.declared.timed.Timed.{Timed}
use Rattle.hls_base.specs.Steps.{Outcome, went, undefined, waiting, Ran, after}
use Rattle.ir_core.specs.Bodies.{Words}
use Rattle.ir_core.specs.FlatRuns.{Going, to, ends, shapes_of, node_run, going_on, node_then, from_node, flat_run}
use Rattle.clock_ir.specs.Flows.{Flow}
use Rattle.clock_ir.specs.ClockRuns.{TimedProgram, Phase, starting, loading, inside, ended, at_node, enter, goes_to, load, clock_step, timed_node, timed_program, clock_run}
use Rattle.clock_ir.specs.WellTimed.{IsWellTimedNode, AreWellTimed, IsWellTimed}
use Rattle.clock_runs.specs.Premises.{IsSoundNode, IsSoundProgram}
use Rattle.clock_runs.specs.Laws.{node_cycles}
use Rattle.clock_runs.proofs.Order.{AreShort}
use Rattle.clock_runs.proofs.Paths.{run_from, from_start, run_on}
use Rattle.clock_runs.proofs.BlockNodes.{NodeKeeps, block_keeps}
use Rattle.clock_runs.proofs.LoopNodes.{loop_keeps}
use Rattle.clock_runs.proofs.Lists.{some_same, no_some, each_get}
use Rattle.datapath.specs.Plans.{body_if}
use Rattle.circuit_agreement.specs.ApartStores.Apart.{HasMeaning, AreStoresApart}
use Rattle.circuit_agreement.specs.ApartStores.Apart as run
use Rattle.circuit_agreement.proofs.ApartStores.Phases.{ApartIn, NodeApart}
use Rattle.circuit_agreement.proofs.ApartStores.Blocks.{block_apart}
use Rattle.circuit_agreement.proofs.ApartStores.Loops.{loop_apart}

-- ---- nodes

record TimedAt (memories : List Memory) (timed : List (Node Timed)) (i : ℕ) (it : Node Untimed) : Type 0 where
  pub node : Node Timed
  pub there : slice_get timed i ≡ Some node
  pub well_timed : IsWellTimedNode memories it node

timed_at : (memories : List Memory) (nodes : List (Node Untimed)) (timed : List (Node Timed)) (i : ℕ) (it : Node Untimed) → AreWellTimed memories nodes timed → slice_get nodes i ≡ Some it → TimedAt memories timed i it
timed_at memories [] timed i it h e = absurd (no_some e)
timed_at memories (n ∷ nodes) [] i it h e = absurd h
timed_at memories (n ∷ nodes) (c ∷ timed) zero it h e = record { node = c; there = refl; well_timed = subst (λ x. IsWellTimedNode memories x c) (some_same e) h.0 }
timed_at memories (n ∷ nodes) (c ∷ timed) (suc i) it h e = (let at = timed_at memories nodes timed i it h.1 e in record { node = at.node; there = at.there; well_timed = at.well_timed })

none_at : (memories : List Memory) (nodes : List (Node Untimed)) (timed : List (Node Timed)) (i : ℕ) → AreWellTimed memories nodes timed → slice_get nodes i ≡ None → slice_get timed i ≡ None
none_at memories [] [] i h e = refl
none_at memories [] (c ∷ timed) i h e = absurd h
none_at memories (n ∷ nodes) [] i h e = absurd h
none_at memories (n ∷ nodes) (c ∷ timed) zero h e = absurd (no_some (sym e))
none_at memories (n ∷ nodes) (c ∷ timed) (suc i) h e = none_at memories nodes timed i h.1 e

-- from all contents a node keeps its run, and its stores are apart
pub record NodeHolds (p : TimedProgram) (i : ℕ) (it : Node Untimed) : Type 0 where
  pub timed : Node Timed
  pub keeps : (t : Words) (n : ℕ) → NodeKeeps p p.shapes i it timed t n
  pub apart : (t : Words) (n : ℕ) → NodeApart p i it timed t n

node_holds : (p : TimedProgram) (short : AreShort p.shapes) (memories : List Memory) (it : Node Untimed) (timed : Node Timed) (i : ℕ) → IsWellTimedNode memories it timed → IsSoundNode p.shapes it → slice_get p.nodes i ≡ Some (timed_node timed) → NodeHolds p i it
node_holds p short memories (node.Plain b) (node.Plain c) i w s here = record {
  timed = node.Plain c;
  keeps = λ t n. block_keeps p short memories b c w.0 w.1.0 w.1.1 s t i here n;
  apart = λ t n. block_apart p short memories b c w.0 w.1.0 w.1.1 s t i here n;
}
node_holds p short memories (node.Looped b) (node.Looped c) i w s here = record {
  timed = node.Looped c;
  keeps = λ t n. loop_keeps p short memories b c w.0 w.1.0 w.1.1 s t i here n;
  apart = λ t n. loop_apart p short memories b c w.0 w.1.0 w.1.1 s t i here n;
}
node_holds p short memories (node.Plain b) (node.Looped c) i w s here = absurd w
node_holds p short memories (node.Looped b) (node.Plain c) i w s here = absurd w

-- ---- from node to node

-- Nothing is undefined: the run ends, or goes on for more than m points and nodes.
abbrev IsFine : {A : Type 0} → ℕ → ℕ → ℕ → Outcome Words A → Type 0
IsFine m k n (went value words left) = Unit {0}
IsFine m k n (undefined rule at) = ⊥
IsFine m k n waiting = (m < k) × (m < n)

fine_on : {A : Type 0} (m k n c n1 : ℕ) (o : Outcome Words A) → (m < suc k → m - c < k) → (m < n → m - c < n1) → IsFine m (suc k) n o → IsFine (m - c) k n1 o
fine_on m k n c n1 (went value words left) f g h = tt
fine_on m k n c n1 (undefined rule at) f g h = h
fine_on m k n c n1 waiting f g h = (f h.0, g h.1)

module _ (p : TimedProgram) (nodes : List (Node Untimed)) (holds : (i : ℕ) (it : Node Untimed) → slice_get nodes i ≡ Some it → NodeHolds p i it) (none_there : (i : ℕ) → slice_get nodes i ≡ None → slice_get p.nodes i ≡ None) where
  abbrev from : ℕ → Words → Phase
  from i t = enter p.nodes i t

  abbrev rest : ℕ → ℕ → Words → ℕ → Ran Words (Option ℕ)
  rest k j t n = from_node k p.shapes nodes j t n

  stuck : (i : ℕ) (t : Words) → slice_get p.nodes i ≡ None → (m : ℕ) → run_from p (from i t) m ≡ loading i t
  stuck i t e zero = ap (at_node i t) e
  stuck i t e (suc m) = ap (clock_step p) (stuck i t e m) ∙ ap (load i t) e

  over : (word : Option ℕ) (words : Words) (m : ℕ) → run_from p (ended word words) m ≡ ended word words
  over word words zero = refl
  over word words (suc m) = ap (clock_step p) (over word words m)

  abbrev Apart : ℕ → Type 0
  Apart k = (i : ℕ) (t : Words) (n m : ℕ) → IsFine m k n (rest k i t n).outcome → ApartIn p (run_from p (from i t) m)

  going_apart : (k : ℕ) (g : Going) (t : Words) (n m : ℕ) → Apart k → IsFine m k n (going_on (rest k) g t n).outcome → ApartIn p (run_from p (goes_to p.nodes g t) m)
  going_apart k (to j) t n m more fine = more j t n m fine
  going_apart k (ends w) t n m more fine = subst (ApartIn p) (sym (over w t m)) tt

  -- what comes of the first node
  behind : (k i : ℕ) (it : Node Untimed) (t : Words) (n m : ℕ) → Apart k → NodeHolds p i it → (o : Outcome Words Going) → (node_run p.shapes it t n).outcome ≡ o → IsFine m (suc k) n (after o (λ g t1 n1. going_on (rest k) g t1 n1)).outcome
      → ApartIn p (run_from p (from i t) m)
  behind k i it t n m more a (undefined rule at) e fine = absurd fine
  behind k i it t n m more a waiting e fine = (a.apart t n).waits e m fine.1
  behind k i it t n m more a (went g t1 n1) e fine =
      let keeps = (a.keeps t n).ends g t1 n1 e in
      let c = node_cycles (Some a.timed) (length (node_run p.shapes it t n).trace) in
      elim (cases_lt m c) [
        | inl soon ↦ (a.apart t n).ends g t1 n1 e m soon
        | inr late ↦
            let split : m ≡ c + (m - c) = omega arith in
            let some = keeps.2 in
            let enough = keeps.3 in
            let fewer = keeps.4 in
            subst (ApartIn p) (sym (ap (run_from p (from i t)) split ∙ run_on p (from i t) c (m - c) ∙ ap (λ x. run_from p x (m - c)) keeps.0))
            (going_apart k g t1 n1 (m - c) more (fine_on m k n c n1 (going_on (rest k) g t1 n1).outcome (λ h. omega arith) (λ h. omega arith) fine))
      ]

  at : (k i : ℕ) (o : Option (Node Untimed)) (t : Words) (n m : ℕ) → Apart k → slice_get nodes i ≡ o → IsFine m (suc k) n (node_then p.shapes (rest k) o t n).outcome → ApartIn p (run_from p (from i t) m)
  at k i None t n m more e fine = subst (ApartIn p) (sym (stuck i t (none_there i e) m)) tt
  at k i (Some it) t n m more e fine = behind k i it t n m more (holds i it e) (node_run p.shapes it t n).outcome refl fine

  pub apart : (k : ℕ) → Apart k
  apart zero i t n m fine = absurd (let none = fine.0 in omega arith)
  apart (suc k) i t n m fine = at k i (slice_get nodes i) t n m (apart k) refl fine

-- ---- the whole program

module _ (cfg : Cfg Untimed) (timed : Cfg Timed) (sound : IsSoundProgram cfg) (well : IsWellTimed cfg timed) where
  -- the timed program, with the frame and the first node of the program
  abbrev p : TimedProgram
  p = record { shapes = shapes_of cfg.frame; nodes = map timed_node timed.nodes.items; first = cfg.first.0 }

  same_program : timed_program timed ≡ p
  same_program = (λ i. record { shapes = well.frame i; nodes = map timed_node timed.nodes.items; first = (well.first i).0 })

  holds_at : (i : ℕ) (it : Node Untimed) → slice_get cfg.nodes.items i ≡ Some it → NodeHolds p i it
  holds_at i it e =
      let at = timed_at cfg.frame.memories.items cfg.nodes.items timed.nodes.items i it well.nodes e in
      let here : slice_get p.nodes i ≡ Some (timed_node at.node) = slice_get-map timed_node timed.nodes.items i ∙ ap (option_map timed_node) at.there in
      node_holds p sound.dims cfg.frame.memories.items it at.node i at.well_timed (each_get (IsSoundNode p.shapes) cfg.nodes.items i it sound.nodes e) here

  none_there : (i : ℕ) → slice_get cfg.nodes.items i ≡ None → slice_get p.nodes i ≡ None
  none_there i e = slice_get-map timed_node timed.nodes.items i ∙ ap (option_map timed_node) (none_at cfg.frame.memories.items cfg.nodes.items timed.nodes.items i well.nodes e)

  -- the first edge
  clock_is : (t : Words) (m : ℕ) → clock_run p t (1 + m) ≡ run_from p (enter p.nodes p.first t) m
  clock_is t m = from_start p t (1 + m) ∙ run_on p (starting t) 1 m

  fine_run : (t : Words) (m : ℕ) → HasMeaning cfg t → (n : ℕ) × IsFine m (2 * n + 2) n (flat_run cfg t n).outcome
  fine_run t m (run.ends n word words left h) = (n, subst (IsFine m (2 * n + 2) n) (sym h) tt)
  fine_run t m (run.goes_on h) = (suc m, subst (IsFine m (2 * suc m + 2) (suc m)) (sym (h (suc m))) (omega arith, omega arith))

  apart_in : (t : Words) → HasMeaning cfg t → (m : ℕ) → ApartIn p (clock_run p t m)
  apart_in t means zero = subst (ApartIn p) (sym (from_start p t 0)) tt
  apart_in t means (suc m) =
      let f = fine_run t m means in
      subst (ApartIn p) (sym (ap (clock_run p t) (let z : suc m ≡ 1 + m = omega arith in z) ∙ clock_is t m)) (apart p cfg.nodes.items holds_at none_there (2 * f.0 + 2) cfg.first.0 t f.0 m f.1)

  pub apart_at : (t : Words) → HasMeaning cfg t → (m i : ℕ) (f : Flow) → clock_run (timed_program timed) t m ≡ inside i f
      → AreStoresApart (timed_program timed).shapes (body_if (slice_get (timed_program timed).nodes i)) f
  apart_at t means m i f at =
      subst (λ (q : TimedProgram). clock_run q t m ≡ inside i f → AreStoresApart q.shapes (body_if (slice_get q.nodes i)) f) (sym same_program)
      (λ e. subst (ApartIn p) e (apart_in t means m)) at
