-- What holds of programs holds of them once pairs are fused.
use Rattle.std.proofs.Common.{◌≡◌, ◌∙◌, ℕ, sym, ap, subst, List, [], ◌∷◌, map, Some}
use Rattle.std.specs.Prelude.{slice_get}
use Rattle.hls_base.specs.declared.number.NodeId.{NodeId}
use Rattle.ir_core.specs.declared.cfg.Block.{Block}
use Rattle.ir_core.specs.declared.cfg.Cfg.{Cfg}
use Rattle.ir_core.specs.declared.cfg.Loop.{Loop}
use Rattle.ir_core.specs.declared.cfg.Node.{Node}
use Rattle.ir_core.specs.declared.cfg.Node.TheVariants as node
use Rattle.ir_core.specs.declared.stamp.Untimed.{Untimed}
use Rattle.report_rows.specs.Costs.{end_of}
use Rattle.op_chain.specs.Laws.{IsFusedFrom}
use Rattle.op_chain.proofs.ValidFusing.Whole.{keeps_validity}
use Rattle.clock_runs.specs.Premises.{Each}
use Rattle.sound_trees.specs.ValidPrograms.{SetsOnce}
use Rattle.sound_trees.proofs.ValidPrograms.Whole.{valid_sound, sound_once}
use Rattle.timed_pieces.specs.FormulaCycles.{PointsDiffer}
use Rattle.timed_pieces.specs.FormulaCycles.Ends.{followers, Among, LoopsLeadToTheirEnds}
use Rattle.timed_pieces.specs.FusedPrograms.{FusedLoopsSetOnce, FusedProgramsAreSound, FusedPointsDiffer, FusedLoopsLeadToTheirEnds}
use Rattle.timed_pieces.proofs.FusedPrograms.Nodes.{skeleton_of, same_point, same_followers, same_variables, a_loop, a_block, once_alike, nodes_alike, fused_alike}

-- ---- outs

sets_once : (a b : Node Untimed) → skeleton_of a ≡ skeleton_of b → SetsOnce a → SetsOnce b
sets_once a (node.Plain block) e h = tt
sets_once a (node.Looped region) e h =
    let l = a_loop a region e in
    let first : SetsOnce (node.Looped l.region) = subst SetsOnce l.is h in
    once_alike l.region.body.outs.items region.body.outs.items (same_variables (node.Looped l.region) (node.Looped region) (ap skeleton_of (sym l.is) ∙ e)) first

all_once : (old new : List (Node Untimed)) → map skeleton_of old ≡ map skeleton_of new → Each SetsOnce old → Each SetsOnce new
all_once [] [] e h = tt
all_once [] (b ∷ new) e h = absurd cc
all_once (a ∷ old) [] e h = absurd cc
all_once (a ∷ old) (b ∷ new) e h =
    let first : skeleton_of a ≡ skeleton_of b = cc in
    let rest : map skeleton_of old ≡ map skeleton_of new = cc in
    (sets_once a b first h.0, all_once old new rest h.1)

pub loops_once : FusedLoopsSetOnce
loops_once period old new h once = all_once old.nodes.items new.nodes.items (fused_alike period old new h) once

pub fused_sound : FusedProgramsAreSound
fused_sound period old new valid sound h = valid_sound new (keeps_validity period old new valid h) (loops_once period old new h (sound_once old sound))

-- ---- points and targets

pub points_alike : (old new : List (Node Untimed)) → map skeleton_of old ≡ map skeleton_of new → PointsDiffer old → PointsDiffer new
points_alike old new alike apart i j a b at bt same =
    let p = nodes_alike old new alike i a at in
    let q = nodes_alike old new alike j b bt in
    apart i j p.other q.other p.there q.there (same_point p.other a p.same ∙ (same ∙ sym (same_point q.other b q.same)))

pub points_differ : FusedPointsDiffer
points_differ period old new h apart = points_alike old.nodes.items new.nodes.items (fused_alike period old new h) apart

module _ (period : ℕ) (old new : Cfg Untimed) (h : IsFusedFrom period old new) (ends : LoopsLeadToTheirEnds old) where
  alike : map skeleton_of old.nodes.items ≡ map skeleton_of new.nodes.items
  alike = fused_alike period old new h

  -- the loop that this one was
  record LoopFrom (l : ℕ) (region : Loop Untimed) : Type 0 where
    was : Loop Untimed
    there : slice_get old.nodes.items l ≡ Some (node.Looped was)
    point : was.point ≡ region.point
    next : was.next.0 ≡ region.next.0

  loop_from : (l : ℕ) (region : Loop Untimed) → slice_get new.nodes.items l ≡ Some (node.Looped region) → LoopFrom l region
  loop_from l region at =
      let p = nodes_alike old.nodes.items new.nodes.items alike l (node.Looped region) at in
      let loop = a_loop p.other region p.same in record { was = loop.region; there = p.there ∙ ap (λ (n : Node Untimed). Some n) loop.is; point = loop.point; next = loop.next }

  -- the block of the new program where the old one has one
  block_at : (k : ℕ) (block : Block Untimed) → slice_get old.nodes.items k ≡ Some (node.Plain block) → (b : Block Untimed) × ((slice_get new.nodes.items k ≡ Some (node.Plain b)) × (b.point ≡ block.point))
  block_at k block at =
      let p = nodes_alike new.nodes.items old.nodes.items (sym alike) k (node.Plain block) at in
      let b = a_block block p.other (sym p.same) in (b.block, (p.there ∙ ap (λ (n : Node Untimed). Some n) b.is, b.point))

  leads_behind : (l : ℕ) (region : Loop Untimed) → slice_get new.nodes.items l ≡ Some (node.Looped region) → (block : Block Untimed) × ((slice_get new.nodes.items region.next.0 ≡ Some (node.Plain block)) × (block.point ≡ end_of region.point))
  leads_behind l region at =
      let f = loop_from l region at in
      let before = ends.behind l f.was f.there in
      let b = block_at f.was.next.0 before.0 before.1.0 in
      (b.0, (ap (slice_get new.nodes.items) (sym f.next) ∙ b.1.0, b.1.1 ∙ (before.1.1 ∙ ap end_of f.point)))

  pub leads : LoopsLeadToTheirEnds new
  leads = record {
    apart = points_differ period old new h ends.apart;
    behind = leads_behind;
    first = λ l region at same. (let f = loop_from l region at in ends.first l f.was f.there (ap (λ (n : NodeId). n.0) (sym h.first) ∙ (same ∙ sym f.next)));
    alone = λ l region at i a there among. (let f = loop_from l region at in
        let p = nodes_alike old.nodes.items new.nodes.items alike i a there in
        ends.alone l f.was f.there i p.other p.there (subst (λ n. Among n (followers p.other)) (sym f.next) (subst (Among region.next.0) (sym (same_followers p.other a p.same)) among)));
  }

pub lead_to_ends : FusedLoopsLeadToTheirEnds
lead_to_ends period old new h ends = leads period old new h ends
