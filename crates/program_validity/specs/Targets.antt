-- Where control goes behind blocks and loops.
use Rattle.std.specs.Prelude.{◌==◌, ◌&&◌, ◌||◌, not, Bool, true, false, slice_get, Option, Some, None}
use Rattle.std.specs.List.{list_any, count_by}
use Rattle.hls_base.specs.declared.number.NodeId.{NodeId}
use Rattle.hls_base.specs.declared.point.Point.{Point}
use Rattle.hls_base.specs.declared.point.PointKind.TheVariants as kind
use Rattle.hls_base.specs.Tallies.{same_kind, same_place, same_path}
use Rattle.ir_core.specs.declared.cfg.Cfg.{Cfg}
use Rattle.ir_core.specs.declared.cfg.End.{End}
use Rattle.ir_core.specs.declared.cfg.End.TheVariants as end
use Rattle.ir_core.specs.declared.cfg.Loop.{Loop}
use Rattle.ir_core.specs.declared.cfg.Node.{Node}
use Rattle.ir_core.specs.declared.cfg.Node.TheVariants as node

abbrev pub end_leads_to : NodeId → End → Bool
end_leads_to n (end.Jump next) = next.0 == n.0
end_leads_to n (end.Branch test left right) = (left.0 == n.0) || (right.0 == n.0)
end_leads_to n (end.Choose cases other) = (other.0 == n.0) || list_any (λ c. c.1.0 == n.0) cases.items
end_leads_to n (end.Return value) = false

abbrev pub leads_to : {S : Type 0} → NodeId → Node S → Bool
leads_to n (node.Plain block) = end_leads_to n block.end
leads_to n (node.Looped region) = region.next.0 == n.0

-- the End of what the other point is in
abbrev pub is_end_of : Point → Point → Bool
is_end_of p q = same_kind p.kind kind.End && (same_place p.at q.at && same_path p.path q.path)

abbrev pub is_block_at_end_of : {S : Type 0} → Point → Option (Node S) → Bool
is_block_at_end_of p None = false
is_block_at_end_of p (Some (node.Plain block)) = is_end_of block.point p
is_block_at_end_of p (Some (node.Looped region)) = false

-- Behind a loop comes the block at its End, which is not the first node, and to which no node but the loop leads.
abbrev pub is_left : {S : Type 0} → Cfg S → Loop S → Bool
is_left cfg region =
    is_block_at_end_of region.point (slice_get cfg.nodes.items region.next.0)
    && (not (cfg.first.0 == region.next.0) && (count_by (leads_to region.next) cfg.nodes.items == 1))

abbrev pub is_left_if : {S : Type 0} → Cfg S → Node S → Bool
is_left_if cfg (node.Plain block) = true
is_left_if cfg (node.Looped region) = is_left cfg region
