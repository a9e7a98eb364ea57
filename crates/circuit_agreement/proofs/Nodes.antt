-- The nodes of compiled programs: what each one is made from, and that it is sound and well timed.
use Rattle.std.proofs.Common.{◌≡◌, ℕ, zero, suc, ◌≤◌, List, [], ◌∷◌, map, max, Some, refl, sym, ap, ◌∙◌, subst, arith}
use Rattle.std.specs.Prelude.{slice_get}
use Rattle.ir_core.specs.declared.cfg.Memory.{Memory}
use Rattle.ir_core.specs.declared.cfg.Node.{Node}
use Rattle.ir_core.specs.declared.cfg.Node.TheVariants as node
use Rattle.ir_core.specs.declared.stamp.Untimed.{Untimed}
use Rattle.ir_core.specs.declared.timed.Timed.{Timed}
use Rattle.ir_core.specs.Bodies.{Shapes}
use Rattle.ir_core.specs.FlatRuns.{shapes_of}
use Rattle.clock_ir.specs.ClockRuns.{TimedNode, timed_node, TimedProgram, timed_program}
use Rattle.clock_ir.specs.WellTimed.{IsWellTimedNode, AreWellTimed}
use Rattle.clock_runs.specs.Premises.{IsSoundNode}
use Rattle.clock_runs.proofs.Lists.{some_same, no_some, each_get}
use Rattle.datapath.specs.Plans.{Plan, body_of, body_if, body_at}
use Rattle.circuit_agreement.specs.CircuitFlow.Compiled.{IsCompiled}
use Rattle.circuit_agreement.specs.CircuitFlow.{IntervalsArePositive}

-- ---- lists of nodes

record Mapped {A B : Type 0} (f : A → B) (xs : List A) (i : ℕ) (y : B) : Type 0 where
  pub from : A
  pub there : slice_get xs i ≡ Some from
  pub is : f from ≡ y

mapped_from : {A B : Type 0} (f : A → B) (xs : List A) (i : ℕ) (y : B) → slice_get (map f xs) i ≡ Some y → Mapped f xs i y
mapped_from f [] i y e = absurd (no_some e)
mapped_from f (x ∷ xs) zero y e = record { from = x; there = refl; is = some_same e }
mapped_from f (x ∷ xs) (suc i) y e = let m = mapped_from f xs i y e in record { from = m.from; there = m.there; is = m.is }

record Before (memories : List Memory) (nodes : List (Node Untimed)) (i : ℕ) (timed : Node Timed) : Type 0 where
  pub node : Node Untimed
  pub there : slice_get nodes i ≡ Some node
  pub well_timed : IsWellTimedNode memories node timed

before : (memories : List Memory) (nodes : List (Node Untimed)) (timed : List (Node Timed)) → AreWellTimed memories nodes timed → (i : ℕ) (t : Node Timed) → slice_get timed i ≡ Some t
    → Before memories nodes i t
before memories [] [] h i t e = absurd (no_some e)
before memories [] (c ∷ timed) h i t e = absurd h
before memories (n ∷ nodes) [] h i t e = absurd h
before memories (n ∷ nodes) (c ∷ timed) h zero t e = record { node = n; there = refl; well_timed = subst (λ x. IsWellTimedNode memories n x) (some_same e) h.0 }
before memories (n ∷ nodes) (c ∷ timed) h (suc i) t e = let b = before memories nodes timed h.1 i t e in record { node = b.node; there = b.there; well_timed = b.well_timed }

-- ---- nodes of a plan

pub record NodeOf (p : Plan) (c : IsCompiled p) (i : ℕ) (n : TimedNode) : Type 0 where
  pub untimed : Node Untimed
  pub timed : Node Timed
  pub there : slice_get c.untimed.nodes.items i ≡ Some untimed
  pub there_timed : slice_get c.timed.nodes.items i ≡ Some timed
  pub is : timed_node timed ≡ n
  pub well_timed : IsWellTimedNode c.untimed.frame.memories.items untimed timed
  pub sound : IsSoundNode p.program.shapes untimed

module _ (p : Plan) (c : IsCompiled p) where
  pub program : p.program ≡ timed_program c.timed
  program = ap (λ (q : Plan). q.program) c.plan

  pub shapes : p.program.shapes ≡ shapes_of c.untimed.frame
  shapes = ap (λ (q : TimedProgram). q.shapes) program ∙ c.well_timed.frame

  pub node_of : (i : ℕ) (n : TimedNode) → slice_get p.program.nodes i ≡ Some n → NodeOf p c i n
  node_of i n e =
      let m = mapped_from timed_node c.timed.nodes.items i n (ap (λ (q : TimedProgram). slice_get q.nodes i) (sym program) ∙ e) in
      let b = before c.untimed.frame.memories.items c.untimed.nodes.items c.timed.nodes.items c.well_timed.nodes i m.from m.there in record {
        untimed = b.node;
        timed = m.from;
        there = b.there;
        there_timed = m.there;
        is = m.is;
        well_timed = b.well_timed;
        sound = subst (λ (s : Shapes). IsSoundNode s b.node) (sym shapes) (each_get (IsSoundNode (shapes_of c.untimed.frame)) c.untimed.nodes.items i b.node c.sound.nodes b.there);
      }

-- the body of a node that is there
pub body_found : (p : Plan) (i : ℕ) (n : TimedNode) → slice_get p.program.nodes i ≡ Some n → body_at p i ≡ body_of n
body_found p i n e = ap body_if e

-- ---- intervals

positive_at : (memories : List Memory) (u : Node Untimed) (t : Node Timed) → IsWellTimedNode memories u t → 1 ≤ (body_of (timed_node t)).interval
positive_at memories (node.Plain u) (node.Plain t) w = w.1.1.long_enough.some
positive_at memories (node.Looped u) (node.Looped t) w = w.1.1.positive
positive_at memories (node.Plain u) (node.Looped t) w = absurd w
positive_at memories (node.Looped u) (node.Plain t) w = absurd w

pub positive : IntervalsArePositive
positive p i n c e =
    let o = node_of p c i n e in
    let some : 1 ≤ (body_at p i).interval =
    subst (λ (b : _). 1 ≤ b.interval) (ap body_of o.is ∙ sym (body_found p i n e)) (positive_at c.untimed.frame.memories.items o.untimed o.timed o.well_timed) in
    (some, (let z : max 1 (body_at p i).interval ≡ (body_at p i).interval = omega (arith, some) in z))
