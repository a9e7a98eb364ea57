-- A well timed program keeps its run.
use Rattle.std.proofs.Common.{◌≡◌, ℕ, zero, suc, ◌+◌, ◌*◌, ◌<◌, ◌∙◌, sym, refl, ap, subst, List, [], ◌∷◌, map, Some, None, arith}
use Rattle.std.specs.Prelude.{slice_get}
use Rattle.std.specs.Option.{option_map}
use Rattle.std.proofs.lemmas.Option.{slice_get-map}
use Rattle.ir_core.specs.declared.cfg.Cfg.{Cfg}
use Rattle.ir_core.specs.declared.cfg.Memory.{Memory}
use Rattle.ir_core.specs.declared.cfg.Node.{Node}
use Rattle.ir_core.specs.declared.cfg.Node.TheVariants as node
use Rattle.ir_core.specs.declared.stamp.Untimed.{Untimed}
use Rattle.ir_core.specs.declared.timed.Timed.{Timed}
use Rattle.ir_core.specs.Bodies.{Words}
use Rattle.ir_core.specs.FlatRuns.{shapes_of}
use Rattle.clock_ir.specs.ClockRuns.{TimedProgram, starting, enter, timed_node, timed_program, clock_run}
use Rattle.clock_ir.specs.WellTimed.{IsWellTimedNode, AreWellTimed, IsWellTimed}
use Rattle.clock_runs.specs.Premises.{IsSoundNode, IsSoundProgram}
use Rattle.clock_runs.specs.Laws.{run_cycles, IsEnded, KeepsRun, TimesKeepRuns}
use Rattle.clock_runs.proofs.Order.{AreShort}
use Rattle.clock_runs.proofs.Paths.{run_from, from_start, run_on}
use Rattle.clock_runs.proofs.BlockNodes.{NodeKeeps, block_keeps}
use Rattle.clock_runs.proofs.LoopNodes.{loop_keeps}
use Rattle.clock_runs.proofs.Programs.{KeptNode, finite, endless}
use Rattle.clock_runs.proofs.Lists.{some_same, no_some, each_get}

abbrev TimedAt : List Memory → List (Node Timed) → ℕ → Node Untimed → Type 0
TimedAt memories timed i it = (n : Node Timed) × ((slice_get timed i ≡ Some n) × IsWellTimedNode memories it n)

timed_at : (memories : List Memory) (nodes : List (Node Untimed)) (timed : List (Node Timed)) (i : ℕ) (it : Node Untimed) → AreWellTimed memories nodes timed → slice_get nodes i ≡ Some it → TimedAt memories timed i it
timed_at memories [] timed i it h e = absurd (no_some e)
timed_at memories (n ∷ nodes) [] i it h e = absurd h
timed_at memories (n ∷ nodes) (c ∷ timed) zero it h e = (c, (refl, subst (λ x. IsWellTimedNode memories x c) (some_same e) h.0))
timed_at memories (n ∷ nodes) (c ∷ timed) (suc i) it h e = timed_at memories nodes timed i it h.1 e

none_at : (memories : List Memory) (nodes : List (Node Untimed)) (timed : List (Node Timed)) (i : ℕ) → AreWellTimed memories nodes timed → slice_get nodes i ≡ None → slice_get timed i ≡ None
none_at memories [] [] i h e = refl
none_at memories [] (c ∷ timed) i h e = absurd h
none_at memories (n ∷ nodes) [] i h e = absurd h
none_at memories (n ∷ nodes) (c ∷ timed) zero h e = absurd (no_some (sym e))
none_at memories (n ∷ nodes) (c ∷ timed) (suc i) h e = none_at memories nodes timed i h.1 e

node_keeps : (p : TimedProgram) (short : AreShort p.shapes) (memories : List Memory) (it : Node Untimed) (timed : Node Timed) (i : ℕ) → IsWellTimedNode memories it timed → IsSoundNode p.shapes it → slice_get p.nodes i ≡ Some (timed_node timed) → (t : Words) (n : ℕ)
    → NodeKeeps p p.shapes i it timed t n
node_keeps p short memories (node.Plain b) (node.Plain c) i w s here t n = block_keeps p short memories b c w.0 w.1.0 w.1.1 s t i here n
node_keeps p short memories (node.Looped b) (node.Looped c) i w s here t n = loop_keeps p short memories b c w.0 w.1.0 w.1.1 s t i here n
node_keeps p short memories (node.Plain b) (node.Looped c) i w s here t n = absurd w
node_keeps p short memories (node.Looped b) (node.Plain c) i w s here t n = absurd w

module _ (cfg : Cfg Untimed) (timed : Cfg Timed) (sound : IsSoundProgram cfg) (well : IsWellTimed cfg timed) where
  -- the timed program, with the frame and the first node of the program
  abbrev p : TimedProgram
  p = record { shapes = shapes_of cfg.frame; nodes = map timed_node timed.nodes.items; first = cfg.first.0 }

  same_program : timed_program timed ≡ p
  same_program = (λ i. record { shapes = well.frame i; nodes = map timed_node timed.nodes.items; first = (well.first i).0 })

  kept_at : (i : ℕ) (it : Node Untimed) → slice_get cfg.nodes.items i ≡ Some it → KeptNode p p.shapes timed.nodes.items i it
  kept_at i it e =
      let at = timed_at cfg.frame.memories.items cfg.nodes.items timed.nodes.items i it well.nodes e in
      let here : slice_get p.nodes i ≡ Some (timed_node at.0) = slice_get-map timed_node timed.nodes.items i ∙ ap (option_map timed_node) at.1.0 in
      record {
        node = at.0;
        there = at.1.0;
        keeps = node_keeps p sound.dims cfg.frame.memories.items it at.0 i at.1.1 (each_get (IsSoundNode p.shapes) cfg.nodes.items i it sound.nodes e) here;
      }

  none_there : (i : ℕ) → slice_get cfg.nodes.items i ≡ None → slice_get p.nodes i ≡ None
  none_there i e = slice_get-map timed_node timed.nodes.items i ∙ ap (option_map timed_node) (none_at cfg.frame.memories.items cfg.nodes.items timed.nodes.items i well.nodes e)

  -- the first edge
  clock_is : (t : Words) (m : ℕ) → clock_run (timed_program timed) t (1 + m) ≡ run_from p (enter p.nodes p.first t) m
  clock_is t m = ap (λ (q : TimedProgram). clock_run q t (1 + m)) same_program ∙ from_start p t (1 + m) ∙ run_on p (starting t) 1 m

  not_first : (t : Words) → IsEnded (clock_run (timed_program timed) t 0) → ⊥
  not_first t h = subst IsEnded (from_start (timed_program timed) t 0) h

  later_not : (t : Words) (c : ℕ) → ((m : ℕ) → m < c → IsEnded (run_from p (enter p.nodes p.first t) m) → ⊥) → (m : ℕ) → m < 1 + c → IsEnded (clock_run (timed_program timed) t m) → ⊥
  later_not t c h zero lt is = not_first t is
  later_not t c h (suc m) lt is =
      let split : suc m ≡ 1 + m = omega arith in
      h m (omega arith) (subst IsEnded (ap (clock_run (timed_program timed) t) split ∙ clock_is t m) is)

  pub keeps_run : (t : Words) → KeepsRun cfg timed t
  keeps_run t = record {
    finite = λ n word words left h.
        (let f = finite p p.shapes cfg.nodes.items timed.nodes.items kept_at none_there (2 * n + 2) cfg.first.0 t n word words left h in
        (clock_is t (run_cycles cfg timed t n) ∙ f.0, later_not t (run_cycles cfg timed t n) f.1));
    endless = λ h m is.
        (let e = endless p p.shapes cfg.nodes.items timed.nodes.items kept_at none_there in
        later_not t m (λ k lt. e (2 * m + 2) cfg.first.0 t m (h m) k (omega arith) (omega arith)) m (omega arith) is);
  }

pub times_keep : TimesKeepRuns
times_keep cfg timed sound well t = keeps_run cfg timed sound well t
