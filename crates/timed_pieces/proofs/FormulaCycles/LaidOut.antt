-- Laid out programs: loops lead to their ends.
use Rattle.std.proofs.Common.{◌≡◌, ◌∙◌, ◌+◌, ℕ, zero, suc, refl, ap, sym, subst, inl, inr, arith, List, [], ◌∷◌, map, Option, Some, None}
use Rattle.std.specs.Prelude.{slice_get}
use Rattle.hls_base.specs.declared.number.NodeId.{NodeId}
use Rattle.hls_base.specs.declared.point.Point.{Point}
use Rattle.ir_core.specs.declared.body.Operand.{Operand}
use Rattle.ir_core.specs.declared.cfg.Block.{Block}
use Rattle.ir_core.specs.declared.cfg.Cfg.{Cfg}
use Rattle.ir_core.specs.declared.cfg.End.{End}
use Rattle.ir_core.specs.declared.cfg.End.TheVariants as end
use Rattle.ir_core.specs.declared.cfg.Loop.{Loop}
use Rattle.ir_core.specs.declared.cfg.Node.{Node}
use Rattle.ir_core.specs.declared.cfg.Node.TheVariants as node
use Rattle.ir_core.specs.declared.stamp.Untimed.{Untimed}
use Rattle.ir_core.specs.Trees.{BodyTree, SequenceTree, body_of}
use Rattle.ir_layout.specs.Nodes.{EndTree, NodeTree, plain, looped, node_of, case_of, node_point}
use Rattle.ir_layout.specs.Nodes as flat
use Rattle.ir_layout.specs.Layout.{Around, finish, laid_out}
use Rattle.timed_pieces.proofs.FormulaCycles.Places.{has_itself}
use Rattle.report_rows.specs.Costs.{end_of}
use Rattle.timed_pieces.specs.FormulaCycles.Ends.{targets, followers, Among, LoopsLeadToTheirEnds}
use Rattle.hls_base.specs.declared.number.VarId.{VarId}
use Rattle.passes.specs.Conversion.{converted_sequence}
use Rattle.pieces.specs.Trees.{PieceTrees}
use Rattle.c_meaning.specs.PieceRuns.Pieces.{Frame}
use Rattle.timed_pieces.proofs.FusedPrograms.Nodes.{fused_alike}
use Rattle.timed_pieces.proofs.FusedPrograms.Whole.{points_alike, lead_to_ends}
use Rattle.timed_pieces.specs.FlatRuns.{Choice, IsUnfused, numbering_of, conversion_of, tree_of, numbered_of}
use Rattle.timed_pieces.specs.FormulaCycles.Loops.{LoopsEnd, PiecesLoopsEnd}
use Rattle.passes.specs.Lowering.Blocks.{begun}
use Rattle.passes.specs.Lowering.{last}
use Rattle.pass_runs.specs.LowerRuns.Suits.{scope_of}
use Rattle.timed_pieces.proofs.FormulaCycles.Lowered.{last_ends, lowered_ends}
use Rattle.timed_pieces.proofs.FormulaCycles.Kept.{numbered_ends, converted_ends}
use Rattle.timed_pieces.specs.FormulaCycles.{PointsDiffer, LaidOutLoopsLeadToTheirEnds}
use Rattle.timed_pieces.proofs.FormulaCycles.Safe.{Safe, safe_first, sequence_safe}
use Rattle.timed_pieces.proofs.FormulaCycles.Fitting.{CasesSafe, EndSafe, NodeFits, NodesFit, sequence_fits}

-- ---- lists

mapped_there : {A B : Type 0} (f : A → B) (xs : List A) (i : ℕ) (x : A) → slice_get xs i ≡ Some x → slice_get (map f xs) i ≡ Some (f x)
mapped_there f [] i x e = absurd (cc)
mapped_there f (y ∷ xs) zero x e = (cc)
mapped_there f (y ∷ xs) (suc i) x e = mapped_there f xs i x e

from_mapped : {A B : Type 0} (f : A → B) (xs : List A) (i : ℕ) (y : B) → slice_get (map f xs) i ≡ Some y → (x : A) × ((slice_get xs i ≡ Some x) × (f x ≡ y))
from_mapped f [] i y e = absurd (cc)
from_mapped f (x ∷ xs) zero y e = (x, (refl, (cc)))
from_mapped f (x ∷ xs) (suc i) y e = from_mapped f xs i y e

-- ---- nodes without where they lie in memory

plain_here : (it : Node Untimed) (pt : Point) (b : BodyTree) (e : EndTree) → node_of it ≡ plain pt b e → (block : Block Untimed) × ((it ≡ node.Plain block) × (block.point ≡ pt))
plain_here (node.Plain block) pt b e h = (block, (refl, (cc)))
plain_here (node.Looped region) pt b e h = absurd (cc)

module _ (nodes : List NodeTree) where
  fit_at : (place : ℕ) (xs : List NodeTree) → NodesFit nodes place xs → (i j : ℕ) (x : NodeTree) → slice_get xs i ≡ Some x → j ≡ place + i → NodeFits nodes j x
  fit_at place [] h i j x e s = absurd (cc)
  fit_at place (y ∷ xs) h zero j x e s = subst (λ z. NodeFits nodes z x) (let q : place ≡ j = omega (arith, s) in q) (subst (λ z. NodeFits nodes place z) (cc) h.0)
  fit_at place (y ∷ xs) h (suc i) j x e s = fit_at (place + 1) xs h.1 i j x e (omega (arith, s))

  -- a place to which cases lead
  case_safe : (cases : List (Operand × NodeId)) (j : ℕ) → CasesSafe nodes (map case_of cases) → Among j (map (λ (c : Operand × NodeId). c.1.0) cases) → Safe nodes j
  case_safe [] j h a = absurd a
  case_safe (c ∷ cs) j h (inl e) = subst (Safe nodes) e h.0
  case_safe (c ∷ cs) j h (inr a) = case_safe cs j h.1 a

  target_safe : (e : End) (j : ℕ) → EndSafe nodes (flat.end_of e) → Among j (targets e) → Safe nodes j
  target_safe (end.Jump n) j h (inl e) = subst (Safe nodes) e h
  target_safe (end.Jump n) j h (inr a) = absurd a
  target_safe (end.Branch test left right) j h (inl e) = subst (Safe nodes) e h.0
  target_safe (end.Branch test left right) j h (inr (inl e)) = subst (Safe nodes) e h.1
  target_safe (end.Branch test left right) j h (inr (inr a)) = absurd a
  target_safe (end.Choose cases other) j h (inl e) = subst (Safe nodes) e h.0
  target_safe (end.Choose cases other) j h (inr a) = case_safe cases.items j h.1 a
  target_safe (end.Return x) j h a = absurd a

  -- to the place behind a loop node only that node leads
  alone : (l : ℕ) (region : Loop Untimed) → NodeFits nodes l (node_of (node.Looped region)) → slice_get nodes l ≡ Some (node_of (node.Looped region)) → (i : ℕ) (a : Node Untimed) → NodeFits nodes i (node_of a) → Among region.next.0 (followers a) → i ≡ l
  alone l region f here i (node.Plain block) g among =
      absurd (target_safe block.end region.next.0 g among l region.point (body_of region.body) region.next.0 here f.0)
  alone l region f here i (node.Looped other) g (inl same) = (let q = g.0 in let r = f.0 in omega (arith, same, q, r))
  alone l region f here i (node.Looped other) g (inr none) = absurd none

pub lead : (cfg : Cfg Untimed) (blocks : SequenceTree) (returned : Option VarId) → map node_of cfg.nodes.items ≡ laid_out blocks returned → cfg.first.0 ≡ 0 → PointsDiffer cfg.nodes.items → LoopsEnd blocks → LoopsLeadToTheirEnds cfg
lead cfg blocks returned laid_ first differ ends =
    let nodes = laid_out blocks returned in
    let around : Around = record { leave = None; again = None; lands = []; returned = returned } in
    let safe = sequence_safe nodes around finish 0 blocks ends (has_itself [] nodes 0 refl) (safe_first nodes) in
    let fits = sequence_fits nodes around finish 0 blocks safe.0 (tt, tt, tt) tt in
    let there : (i : ℕ) (a : Node Untimed) → slice_get cfg.nodes.items i ≡ Some a → slice_get nodes i ≡ Some (node_of a) = λ i a e. ap (λ xs. slice_get xs i) (sym laid_) ∙ mapped_there node_of cfg.nodes.items i a e in
    let fit : (i : ℕ) (a : Node Untimed) → slice_get cfg.nodes.items i ≡ Some a → NodeFits nodes i (node_of a) = λ i a e. fit_at nodes 0 nodes fits i i (node_of a) (there i a e) (omega arith) in
    record {
      apart = differ;
      behind = λ l region e.
          let f = fit l (node.Looped region) e in
          let at : slice_get (map node_of cfg.nodes.items) region.next.0 ≡ Some (plain (end_of region.point) f.1.0 f.1.1.0) = ap (slice_get (map node_of cfg.nodes.items)) f.0 ∙ ap (λ xs. slice_get xs (l + 1)) laid_ ∙ f.1.1.1 in
          let x = from_mapped node_of cfg.nodes.items region.next.0 (plain (end_of region.point) f.1.0 f.1.1.0) at in
          let p = plain_here x.0 (end_of region.point) f.1.0 f.1.1.0 x.1.1 in
          (p.0, (x.1.0 ∙ ap Some p.1.0, p.1.1));
      first = λ l region e same. let f = fit l (node.Looped region) e in let next = f.0 in omega (arith, same, first, next);
      alone = λ l region e i a at among. alone nodes l region (fit l (node.Looped region) e) (there l (node.Looped region) e) i a (fit i a at) among;
    }

pub unfused_lead : (f : Frame) (choice : Choice) (pieces : PieceTrees) (point : Point) (returned : Option VarId) (cfg : Cfg Untimed) → IsUnfused f choice pieces point returned cfg → PointsDiffer cfg.nodes.items → PiecesLoopsEnd pieces → LoopsLeadToTheirEnds cfg
unfused_lead f choice pieces point returned cfg laid_ differ ends =
    lead cfg (converted_sequence (conversion_of f choice) (numbered_of f choice pieces point)) returned laid_.nodes laid_.first differ
    (converted_ends (conversion_of f choice) (numbered_of f choice pieces point) (numbered_ends (numbering_of f choice) (tree_of f pieces point) ((lowered_ends (scope_of f) pieces last ends last_ends).ends (begun point))))

pub loops_lead : LaidOutLoopsLeadToTheirEnds
loops_lead f choice pieces point returned cfg laid_ differ ends =
    let alike = fused_alike choice.period laid_.unfused cfg laid_.fused in
    lead_to_ends choice.period laid_.unfused cfg laid_.fused
    (unfused_lead f choice pieces point returned laid_.unfused laid_.laid (points_alike cfg.nodes.items laid_.unfused.nodes.items (sym alike) differ) ends)
