-- Where each node keeps its run, the program does.
use Rattle.std.proofs.Common.{◌≡◌, ℕ, zero, suc, ◌+◌, ◌-◌, ◌<◌, ◌≤◌, ◌∙◌, inl, inr, sym, refl, ap, ap₂, subst, List, length, Option, Some, None, arith}
use Rattle.std.specs.Prelude.{slice_get}
use Rattle.std.proofs.lemmas.Bool.{cases_lt}
use Rattle.ir_core.specs.declared.cfg.Node.{Node}
use Rattle.ir_core.specs.declared.stamp.Untimed.{Untimed}
use Rattle.ir_core.specs.declared.timed.Timed.{Timed}
use Rattle.hls_base.specs.Steps.{Outcome, went, undefined, waiting, Ran, after}
use Rattle.ir_core.specs.Bodies.{Shapes, Words}
use Rattle.ir_core.specs.FlatRuns.{Going, to, ends, node_run, going_on, node_then, from_node}
use Rattle.clock_ir.specs.ClockRuns.{TimedNode, block, overlapped, TimedProgram, Phase, loading, ended, at_node, enter, load, clock_step}
use Rattle.clock_runs.specs.Laws.{node_cycles, cycles_behind, cycles_at, cycles_from, IsEnded}
use Rattle.clock_runs.proofs.Paths.{run_from, run_on}
use Rattle.clock_runs.proofs.BlockRuns.{not_waiting, not_undefined, undefined_not, went_not, went_parts}
use Rattle.clock_runs.proofs.BlockNodes.{NodeKeeps}

-- the node with its times keeps the run of the node, from all contents
pub record KeptNode (p : TimedProgram) (shapes : Shapes) (timed : List (Node Timed)) (i : ℕ) (it : Node Untimed) : Type 0 where
  pub node : Node Timed
  pub there : slice_get timed i ≡ Some node
  pub keeps : (t : Words) (n : ℕ) → NodeKeeps p shapes i it node t n

entered_not : (o : Option TimedNode) (i : ℕ) (t : Words) → IsEnded (at_node i t o) → ⊥
entered_not None i t h = h
entered_not (Some (block body end_)) i t h = h
entered_not (Some (overlapped body exit next)) i t h = h

module _ (p : TimedProgram) (shapes : Shapes) (nodes : List (Node Untimed)) (timed : List (Node Timed)) (kept : (i : ℕ) (it : Node Untimed) → slice_get nodes i ≡ Some it → KeptNode p shapes timed i it) (none_there : (i : ℕ) → slice_get nodes i ≡ None → slice_get p.nodes i ≡ None) where
  abbrev from : ℕ → Words → Phase
  from i t = enter p.nodes i t

  abbrev cycles : ℕ → ℕ → Words → ℕ → ℕ
  cycles k i t n = cycles_from k shapes nodes timed i t n

  abbrev rest : ℕ → ℕ → Words → ℕ → Ran Words (Option ℕ)
  rest k j t n = from_node k shapes nodes j t n

  -- it ends so, and no sooner
  abbrev EndsSo : ℕ → Words → ℕ → Option ℕ → Words → Type 0
  EndsSo i t c word words = (run_from p (from i t) c ≡ ended word words) × ((m : ℕ) → m < c → IsEnded (run_from p (from i t) m) → ⊥)

  -- from the end of a node on
  joined : (i : ℕ) (t : Words) (c d : ℕ) (j : ℕ) (t1 : Words) (word : Option ℕ) (words : Words) → run_from p (from i t) c ≡ from j t1 → ((m : ℕ) → m < c → IsEnded (run_from p (from i t) m) → ⊥) → EndsSo j t1 d word words → EndsSo i t (c + d) word words
  joined i t c d j t1 word words at before behind = (
    run_on p (from i t) c d ∙ ap (λ x. run_from p x d) at ∙ behind.0,
    (λ m lt h. elim (cases_lt m c) [
      | inl soon ↦ before m soon h
      | inr late ↦
          let split : m ≡ c + (m - c) = omega arith in
          behind.1 (m - c) (omega arith) (subst IsEnded (ap (run_from p (from i t)) split ∙ run_on p (from i t) c (m - c) ∙ ap (λ x. run_from p x (m - c)) at) h)
    ]),
  )

  abbrev Finite : ℕ → Type 0
  Finite k = (i : ℕ) (t : Words) (n : ℕ) (word : Option ℕ) (words : Words) (left : ℕ) → (rest k i t n).outcome ≡ went word words left → EndsSo i t (cycles k i t n) word words

  -- what comes of the first node
  finite_behind : (k i : ℕ) (it : Node Untimed) (t : Words) (n : ℕ) (word : Option ℕ) (words : Words) (left : ℕ) → Finite k → KeptNode p shapes timed i it → (o : Outcome Words Going) → (node_run shapes it t n).outcome ≡ o
      → (after o (λ g t1 n1. going_on (rest k) g t1 n1)).outcome ≡ went word words left → EndsSo i t (node_cycles (slice_get timed i) (length (node_run shapes it t n).trace) + cycles_behind (cycles k) o) word words
  finite_behind k i it t n word words left more a (undefined rule at) e h = absurd (not_undefined h)
  finite_behind k i it t n word words left more a waiting e h = absurd (not_waiting h)
  finite_behind k i it t n word words left more a (went (to j) t1 n1) e h =
      let keeps = (a.keeps t n).ends (to j) t1 n1 e in
      let c = node_cycles (Some a.node) (length (node_run shapes it t n).trace) in
      subst (λ o. EndsSo i t (node_cycles o (length (node_run shapes it t n).trace) + cycles k j t1 n1) word words) (sym a.there)
      (joined i t c (cycles k j t1 n1) j t1 word words keeps.0 keeps.1 (more j t1 n1 word words left h))
  finite_behind k i it t n word words left more a (went (ends w) t1 n1) e h =
      let keeps = (a.keeps t n).ends (ends w) t1 n1 e in
      let c = node_cycles (Some a.node) (length (node_run shapes it t n).trace) in
      let same = went_parts h in
      let none : c + 0 ≡ c = omega arith in
      subst (λ o. EndsSo i t (node_cycles o (length (node_run shapes it t n).trace) + 0) word words) (sym a.there)
      (subst (λ d. EndsSo i t d word words) (sym none) (keeps.0 ∙ ap₂ ended same.0 same.1, keeps.1))

  finite_at : (k i : ℕ) (o : Option (Node Untimed)) (t : Words) (n : ℕ) (word : Option ℕ) (words : Words) (left : ℕ) → Finite k → slice_get nodes i ≡ o → (node_then shapes (rest k) o t n).outcome ≡ went word words left
      → EndsSo i t (cycles_at shapes (cycles k) o (slice_get timed i) t n) word words
  finite_at k i None t n word words left more e h = absurd (not_waiting h)
  finite_at k i (Some it) t n word words left more e h = finite_behind k i it t n word words left more (kept i it e) (node_run shapes it t n).outcome refl h

  pub finite : (k : ℕ) → Finite k
  finite zero i t n word words left h = absurd (not_waiting h)
  finite (suc k) i t n word words left h = finite_at k i (slice_get nodes i) t n word words left (finite k) refl h

  -- ---- endless runs

  abbrev Endless : ℕ → Type 0
  Endless k = (i : ℕ) (t : Words) (n : ℕ) → (rest k i t n).outcome ≡ waiting → (m : ℕ) → m ≤ k → m ≤ n → IsEnded (run_from p (from i t) m) → ⊥

  stuck : (i : ℕ) (t : Words) → slice_get p.nodes i ≡ None → (m : ℕ) → run_from p (from i t) m ≡ loading i t
  stuck i t e zero = ap (at_node i t) e
  stuck i t e (suc m) = ap (clock_step p) (stuck i t e m) ∙ ap (load i t) e

  endless_behind : (k i : ℕ) (it : Node Untimed) (t : Words) (n : ℕ) → Endless k → KeptNode p shapes timed i it → (o : Outcome Words Going) → (node_run shapes it t n).outcome ≡ o → (after o (λ g t1 n1. going_on (rest k) g t1 n1)).outcome ≡ waiting
      → (m : ℕ) → m ≤ suc k → m ≤ n → IsEnded (run_from p (from i t) m) → ⊥
  endless_behind k i it t n more a (undefined rule at) e h m lk ln is = undefined_not h
  endless_behind k i it t n more a waiting e h m lk ln is = (a.keeps t n).waits e m ln is
  endless_behind k i it t n more a (went (ends w) t1 n1) e h m lk ln is = went_not h
  endless_behind k i it t n more a (went (to j) t1 n1) e h m lk ln is =
      let keeps = (a.keeps t n).ends (to j) t1 n1 e in
      let c = node_cycles (Some a.node) (length (node_run shapes it t n).trace) in
      elim (cases_lt m c) [
        | inl soon ↦ keeps.1 m soon is
        | inr late ↦
            let split : m ≡ c + (m - c) = omega arith in
            let some = keeps.2 in
            let enough = keeps.3 in
            let fewer = keeps.4 in
            more j t1 n1 h (m - c) (omega arith) (omega arith) (subst IsEnded (ap (run_from p (from i t)) split ∙ run_on p (from i t) c (m - c) ∙ ap (λ x. run_from p x (m - c)) keeps.0) is)
      ]

  endless_at : (k i : ℕ) (o : Option (Node Untimed)) (t : Words) (n : ℕ) → Endless k → slice_get nodes i ≡ o → (node_then shapes (rest k) o t n).outcome ≡ waiting → (m : ℕ) → m ≤ suc k → m ≤ n → IsEnded (run_from p (from i t) m) → ⊥
  endless_at k i None t n more e h m lk ln is = subst IsEnded (stuck i t (none_there i e) m) is
  endless_at k i (Some it) t n more e h m lk ln is = endless_behind k i it t n more (kept i it e) (node_run shapes it t n).outcome refl h m lk ln is

  pub endless : (k : ℕ) → Endless k
  endless zero i t n h m lk ln is = (let none : m ≡ 0 = omega arith in entered_not (slice_get p.nodes i) i t (subst IsEnded (ap (run_from p (from i t)) none) is))
  endless (suc k) i t n h m lk ln is = endless_at k i (slice_get nodes i) t n (endless k) refl h m lk ln is
