-- The operations of nodes that have their times start early.
use Rattle.std.proofs.Common.{◌≡◌, suc, List, [], ◌∷◌, length, refl, ap}
use Rattle.std.specs.List.{All}
use Rattle.std.proofs.lemmas.List.Elements.{All-nil, All-cons, All-head, All-tail}
use Rattle.hls_base.specs.declared.settings.Units.{Units}
use Rattle.ir_core.specs.declared.cfg.Memory.{Memory}
use Rattle.ir_core.specs.declared.cfg.Node.{Node}
use Rattle.ir_core.specs.declared.cfg.Node.TheVariants as node
use Rattle.ir_core.specs.declared.stamp.Untimed.{Untimed}
use Rattle.ir_core.specs.declared.timed.Timed.{Timed}
use Rattle.cycle_report.specs.PlainReport.{PlainLoop}
use Rattle.report_rows.specs.ForwardNodes.{HasForwardBody}
use Rattle.report_rows.specs.Timing.{IsTimedNode, AreTimed}
use Rattle.reg_binding.specs.SmallTimes.{IsEarlyNode}
use Rattle.source_validity.specs.SourceMachines.SmallTimes.NearOuts.{NodeHasNearOuts}
use Rattle.source_validity.proofs.SourceMachines.SmallTimes.Blocks.{block_early}
use Rattle.source_validity.proofs.SourceMachines.SmallTimes.Loops.{loop_early}

module _ (memories : List Memory) (units : Units) where
  node_early : (n : Node Untimed) (t : Node Timed) (rows : List PlainLoop) → HasForwardBody n → NodeHasNearOuts n → IsTimedNode memories units n t rows → IsEarlyNode t
  node_early (node.Plain block) (node.Plain timed) rows forward near is = block_early memories units block timed forward near is.0
  node_early (node.Plain block) (node.Looped timed) rows forward near is = absurd is
  node_early (node.Looped region) (node.Plain timed) rows forward near is = absurd is
  node_early (node.Looped region) (node.Looped timed) rows forward near is = loop_early memories units region timed is.0 forward near is.1.1

  pub nodes_early : (nodes : List (Node Untimed)) (timed : List (Node Timed)) (rows : List PlainLoop) → All HasForwardBody nodes → All NodeHasNearOuts nodes → AreTimed memories units nodes timed rows → All IsEarlyNode timed
  nodes_early [] [] rows forward near is = All-nil IsEarlyNode
  nodes_early [] (t ∷ timed) rows forward near is = absurd is
  nodes_early (n ∷ nodes) [] rows forward near is = absurd is
  nodes_early (n ∷ nodes) (t ∷ timed) rows forward near (own, (rest, (split, here, there))) =
      All-cons IsEarlyNode t timed (node_early n t own (All-head HasForwardBody n nodes forward) (All-head NodeHasNearOuts n nodes near) here)
      (nodes_early nodes timed rest (All-tail HasForwardBody n nodes forward) (All-tail NodeHasNearOuts n nodes near) there)

  pub nodes_count : (nodes : List (Node Untimed)) (timed : List (Node Timed)) (rows : List PlainLoop) → AreTimed memories units nodes timed rows → length timed ≡ length nodes
  nodes_count [] [] rows is = refl
  nodes_count [] (t ∷ timed) rows is = absurd is
  nodes_count (n ∷ nodes) [] rows is = absurd is
  nodes_count (n ∷ nodes) (t ∷ timed) rows (own, (rest, (split, here, there))) = ap suc (nodes_count nodes timed rest there)
