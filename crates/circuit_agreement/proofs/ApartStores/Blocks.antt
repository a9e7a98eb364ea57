-- The stores of one cycle of a block are apart.
use Rattle.std.proofs.Common.{◌≡◌, ℕ, zero, suc, ◌+◌, ◌*◌, ◌<◌, ◌∙◌, sym, ap, true, List, [], map, length, Some, arith}
use Rattle.std.specs.Prelude.{slice_get, nat_lt}
use Rattle.std.proofs.lemmas.Bool.{cond-true, lt-ltb}
use Rattle.ir_core.specs.declared.cfg.Block.{Block}
use Rattle.ir_core.specs.declared.cfg.Memory.{Memory}
use Rattle.ir_core.specs.declared.cfg.Node.TheVariants as node
use Rattle.ir_core.specs.declared.stamp.Untimed.{Untimed}
use Rattle.ir_core.specs.declared.timed.Timed.{Timed}
use Rattle.ir_core.specs.Bodies.{Words, Ranged, op_of, operations}
use Rattle.ir_core.specs.FlatRuns.{node_run}
use Rattle.hls_base.specs.Valued.{is}
use Rattle.clock_ir.specs.ClockRuns.{TimedProgram, Phase, inside, at_node, enter, node_step, clock_step, timed_node}
use Rattle.clock_ir.specs.WellTimed.{IsWellTimedBlock}
use Rattle.clock_runs.specs.Premises.{IsSoundBlock}
use Rattle.clock_runs.proofs.Settings.{Setting, flow}
use Rattle.clock_runs.proofs.Chains.{flow-time}
use Rattle.clock_runs.proofs.Leaving.{flow_tick}
use Rattle.clock_runs.proofs.Order.{AreShort}
use Rattle.clock_runs.proofs.Paths.{run_from}
use Rattle.clock_runs.proofs.BlockRuns.{block_went, block_waits}
use Rattle.clock_runs.proofs.BlockNodes.{flow_first}
use Rattle.clock_runs.proofs.TimedBlocks.{timely, order}
use Rattle.clock_runs.proofs.Copies.{setting}
use Rattle.circuit_agreement.proofs.ApartStores.Cycles.{apart_here}
use Rattle.circuit_agreement.proofs.ApartStores.Phases.{ApartIn, apart_inside, NodeApart}

module _ (p : TimedProgram) (short : AreShort p.shapes) (memories : List Memory) (it : Block Untimed) (timed : Block Timed) (times units : List ℕ) (well : IsWellTimedBlock memories it timed times units) (sound : IsSoundBlock p.shapes it) (t : Words)
    (i : ℕ) (here : slice_get p.nodes i ≡ Some (timed_node (node.Plain timed))) where
  abbrev s : Setting
  s = setting p.shapes timed.length timed.body [] t

  abbrev entered : Phase
  entered = enter p.nodes i t

  -- its cycles
  within : (m : ℕ) → m < timed.length → run_from p entered m ≡ inside i (flow s m)
  within zero lt = ap (at_node i t) here ∙ ap (inside i) (sym (flow_first s))
  within (suc m) lt =
      let time = flow-time s m in
      let on : nat_lt ((flow s m).time + 1) timed.length ≡ true = lt-ltb ((flow s m).time + 1) timed.length (omega arith) in
      ap (clock_step p) (within m (omega arith)) ∙ ap (node_step p.shapes p.nodes i (flow s m)) here ∙ cond-true _ _ _ on ∙ ap (inside i) (sym (flow_tick s m))

  apart_then : (r : Ranged) → operations p.shapes (map op_of it.body.ops.items) (map op_of it.body.ops.items) [] t ≡ is r → (m : ℕ) → m < timed.length → ApartIn p (run_from p entered m)
  apart_then r defined m lt =
      apart_inside p i (timed_node (node.Plain timed)) (flow s m) (run_from p entered m) here (within m lt)
      (apart_here s (timely p.shapes short memories it timed times units well sound t) timed.length (order p.shapes short memories it timed times units well sound t r defined) m lt)

  pub block_apart : (n : ℕ) → NodeApart p i (node.Plain it) (node.Plain timed) t n
  block_apart n = record {
    ends = λ g t1 n1 e m lt.
        (let b = block_went p.shapes it t n g t1 n1 e in
        let one : timed.length * length (node_run p.shapes (node.Plain it) t n).trace ≡ timed.length = ap (λ z. timed.length * z) b.passes ∙ (let z : timed.length * 1 ≡ timed.length = omega arith in z) in
        apart_then b.ranged b.defined m (omega arith));
    waits = λ e m lt. absurd (let none = block_waits p.shapes it t n e in omega arith);
  }
