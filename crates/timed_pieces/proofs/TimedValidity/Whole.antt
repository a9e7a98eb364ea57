-- Programs that were given times are valid as they were without them.
use Rattle.std.proofs.Common.{◌≡◌, ◌∙◌, ◌+◌, ◌^◌, ℕ, suc, sym, ap, ap₂, subst, List, [], ◌∷◌, length, map, refl}
use Rattle.std.specs.Prelude.{nat_lt, slice_index}
use Rattle.std.specs.List.{list_all}
use Rattle.hls_base.specs.declared.number.NodeId.{NodeId}
use Rattle.hls_base.specs.declared.settings.Units.{Units}
use Rattle.ir_core.specs.declared.body.Body.{Body}
use Rattle.ir_core.specs.declared.body.Op.{Op}
use Rattle.ir_core.specs.declared.cfg.Cfg.{Cfg}
use Rattle.ir_core.specs.declared.cfg.Loop.{Loop}
use Rattle.ir_core.specs.declared.cfg.Memory.{Memory}
use Rattle.ir_core.specs.declared.cfg.Node.{Node}
use Rattle.ir_core.specs.declared.cfg.Node.TheVariants as node
use Rattle.ir_core.specs.declared.stamp.Untimed.{Untimed}
use Rattle.ir_lower.specs.Frames.{frame_view}
use Rattle.ir_core.specs.declared.timed.Timed.{Timed}
use Rattle.cycle_report.specs.PlainReport.{PlainLoop}
use Rattle.ir_core.specs.Bodies.{OpTree, op_of}
use Rattle.unit_binding.specs.Copies.{IsTimedCopy, AreTimedCopies, IsTimedBody}
use Rattle.report_rows.specs.Timing.{IsTimedLoop, IsTimedNode, AreTimed}
use Rattle.program_validity.specs.Programs.{is_node, is_valid_node, is_consistent, is_valid}
use Rattle.timed_pieces.specs.TimedValidity.{TimesKeepValidity}
use Rattle.timed_pieces.proofs.TimedValidity.Lists.{both_same}
use Rattle.timed_pieces.proofs.TimedValidity.Frames.{frame_same}
use Rattle.timed_pieces.proofs.TimedValidity.Bodies.{IsSameBody}
use Rattle.timed_pieces.proofs.TimedValidity.Nodes.{IsSameNode, AreSameNodes, count_same, nodes_same, all_left_same}

-- ---- times change nothing else of operations

copy_is : (op : Op Untimed) (time unit : ℕ) (copy : Op Timed) → IsTimedCopy op time unit copy → op_of copy ≡ op_of op
copy_is op time unit copy h = λ i. record {
  kind = h.same_kind i;
  signed = h.same_sign i;
  bits = h.same_bits i;
  args = h.same_args i;
  array = h.same_array i;
  guard = h.same_guard i;
  flag = h.same_flag i;
}

copies_are : (times units : List ℕ) (k : ℕ) (ops : List (Op Untimed)) (copies : List (Op Timed)) → AreTimedCopies times units k ops copies → map op_of copies ≡ map op_of ops
copies_are times units k [] [] h = refl
copies_are times units k [] (c ∷ cs) h = absurd h
copies_are times units k (op ∷ ops) [] h = absurd h
copies_are times units k (op ∷ ops) (c ∷ cs) h =
    ap₂ (λ (t : OpTree) (ts : List OpTree). t ∷ ts) (copy_is op (slice_index times (k + 1)) (slice_index units k) c h.0) (copies_are times units (suc k) ops cs h.1)

body_is : (times units : List ℕ) (body : Body Untimed) (copy : Body Timed) → IsTimedBody times units body copy → IsSameBody copy body
body_is times units body copy h = record { ops = copies_are times units 0 body.ops.items copy.ops.items h.ops; outs = h.outs; test = h.test }

module _ (memories : List Memory) (units : Units) where
  loop_is : (region : Loop Untimed) (timed : Loop Timed) (row : PlainLoop) → IsTimedLoop memories units region timed row → IsSameNode (node.Looped timed) (node.Looped region)
  loop_is region timed row (binding, (made, (bound, (times, is), same, r))) =
      subst (λ (l : Loop Timed). IsSameNode (node.Looped l) (node.Looped region)) (sym same)
      (is.point, body_is times binding.unit_of.items region.body made.region.body is.body, is.next)

  node_is : (n : Node Untimed) (timed : Node Timed) (rows : List PlainLoop) → IsTimedNode memories units n timed rows → IsSameNode timed n
  node_is (node.Plain block) (node.Plain timed) rows ((binding, (bound, (times, is))), e) = (is.point, body_is times binding.unit_of.items block.body timed.body is.body, is.ends)
  node_is (node.Plain block) (node.Looped timed) rows h = absurd h
  node_is (node.Looped region) (node.Plain timed) rows h = absurd h
  node_is (node.Looped region) (node.Looped timed) rows (row, (e, h)) = loop_is region timed row h

  nodes_are : (ns : List (Node Untimed)) (timed : List (Node Timed)) (rows : List PlainLoop) → AreTimed memories units ns timed rows → AreSameNodes timed ns
  nodes_are [] [] rows h = tt
  nodes_are [] (m ∷ more) rows h = absurd h
  nodes_are (n ∷ ns) [] rows h = absurd h
  nodes_are (n ∷ ns) (m ∷ more) rows (own, (rest, (e, one, others))) = (node_is n m own one, nodes_are ns more rest others)

-- ---- the whole

module _ (untimed : Cfg Untimed) (timed : Cfg Timed) (framed : frame_view timed.frame ≡ frame_view untimed.frame) (first : timed.first ≡ untimed.first) (all : AreSameNodes timed.nodes.items untimed.nodes.items) where
  counted : length timed.nodes.items ≡ length untimed.nodes.items
  counted = count_same timed.nodes.items untimed.nodes.items all

  consistent_same : is_consistent timed ≡ is_consistent untimed
  consistent_same =
      both_same (both_same (ap (λ n. nat_lt n (2 ^ 32)) counted) (frame_same timed.frame untimed.frame framed))
      (both_same (ap₂ (λ (n : ℕ) (x : NodeId). is_node n x) counted first)
      (nodes_same timed.frame untimed.frame framed (length timed.nodes.items) timed.nodes.items untimed.nodes.items all
      ∙ ap (λ (n : ℕ). list_all (is_valid_node untimed.frame n) untimed.nodes.items) counted))

  valid_same : is_valid timed ≡ is_valid untimed
  valid_same = both_same consistent_same (all_left_same timed untimed first all timed.nodes.items untimed.nodes.items all)

pub times_keep : TimesKeepValidity
times_keep memories units untimed timed rows framed first times = valid_same untimed timed framed first (nodes_are memories units untimed.nodes.items timed.nodes.items times.found times.each)
