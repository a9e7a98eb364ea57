-- A sound, well timed loop: what its operands wait for.
use Rattle.std.proofs.Common.{◌≡◌, ℕ, ◌<◌, List, length, Some, sym, ◌∙◌, subst}
use Rattle.std.specs.Prelude.{slice_get}
use Rattle.ir_core.specs.declared.timed.Timed.{Timed}
use Rattle.ir_core.specs.declared.body.Out.{Out}
use Rattle.ir_core.specs.declared.cfg.Loop.{Loop}
use Rattle.ir_core.specs.declared.cfg.Memory.{Memory}
use Rattle.ir_core.specs.declared.cfg.Node.{Node}
use Rattle.ir_core.specs.declared.cfg.Node.TheVariants as node
use Rattle.ir_core.specs.declared.stamp.Untimed.{Untimed}
use Rattle.ir_core.specs.Bodies.{Shapes}
use Rattle.ir_core.specs.TreeRuns.{tested}
use Rattle.ir_core.specs.FlatRuns.{body_of}
use Rattle.clock_ir.specs.Flows.{known}
use Rattle.clock_ir.specs.WellTimed.{IsWellTimedNode}
use Rattle.clock_runs.specs.Premises.{Each, NamesResult, AreApart, IsSoundNode}
use Rattle.clock_runs.proofs.Settings.{Setting, op_at, count_of, IsReady, IsReadyIf}
use Rattle.clock_runs.proofs.Copies.{setting}
use Rattle.clock_runs.proofs.Leaving.{IsTaken}
use Rattle.clock_runs.proofs.TimedLoops.{timely, can_exit}
use Rattle.clock_runs.proofs.Lists.{some_same}
use Rattle.datapath.specs.Plans.{Plan}
use Rattle.circuit_agreement.specs.CircuitFlow.Compiled.{IsCompiled}
use Rattle.circuit_agreement.proofs.Nodes.{node_of}
use Rattle.circuit_agreement.proofs.HeldResults.Nodes.{in_plan}
use Rattle.circuit_agreement.proofs.HeldResults.BlockTimes.{marked}

-- with what it carries to its next iteration
abbrev pub loop_setting : Shapes → Loop Timed → List Out → Setting
loop_setting s r xs = setting s r.ii r.body xs marked

pub record LoopTimes (s : Shapes) (r : Loop Timed) : Type 0 where
  pub carried : List Out
  pub outs : r.body.outs.items ≡ carried
  pub count : ℕ
  pub names : Each (NamesResult count) carried
  pub apart : AreApart carried
  pub args : (k : ℕ) → k < count_of (loop_setting s r carried) → Each (IsReady (loop_setting s r carried) k (op_at (loop_setting s r carried) k).start) (op_at (loop_setting s r carried) k).op.args
  pub guards : (k : ℕ) → k < count_of (loop_setting s r carried) → IsReadyIf (loop_setting s r carried) k (op_at (loop_setting s r carried) k).start (op_at (loop_setting s r carried) k).op.guard
  pub test : IsReadyIf (loop_setting s r carried) (tested r.body.test) (known (loop_setting s r carried).body) r.body.test
  pub exits : Each (IsTaken (loop_setting s r carried) r.exit) r.body.outs.items
  pub direct : Each (λ (x : Out). x.value.distance ≡ 0) r.body.outs.items

by_node : (s : Shapes) (memories : List Memory) (u : Node Untimed) (r : Loop Timed) → IsWellTimedNode memories u (node.Looped r) → IsSoundNode s u → LoopTimes s r
by_node s memories (node.Plain u) r w h = absurd w
by_node s memories (node.Looped u) r w h =
    let t = timely s memories u r w.0 w.1.0 w.1.1 h marked in
    let e = can_exit s memories u r w.0 w.1.0 w.1.1 h marked in record {
      carried = u.body.outs.items;
      outs = w.1.1.body.outs;
      count = length (body_of u.body).ops;
      names = h.outs;
      apart = h.apart;
      args = t.args;
      guards = t.guards;
      test = t.test;
      exits = e.outs;
      direct = e.direct;
    }

pub loop_times : (p : Plan) (c : IsCompiled p) (i : ℕ) (r : Loop Timed) → slice_get c.timed.nodes.items i ≡ Some (node.Looped r) → LoopTimes p.program.shapes r
loop_times p c i r stands =
    let o = node_of p c i _ (in_plan p c i (node.Looped r) stands) in
    let is : o.timed ≡ node.Looped r = some_same (sym o.there_timed ∙ stands) in
    by_node p.program.shapes c.untimed.frame.memories.items o.untimed r (subst (λ n. IsWellTimedNode c.untimed.frame.memories.items o.untimed n) is o.well_timed) o.sound
