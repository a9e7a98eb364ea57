-- The points of the nodes of laid out programs.
use Rattle.std.proofs.Common.{◌≡◌, ◌∙◌, ◌⊎◌, inl, inr, ℕ, zero, suc, ◌+◌, Bool, true, false, refl, sym, ap, ap₂, subst, List, [], ◌∷◌, map, Option, Some, if◌then◌else◌}
use Rattle.std.specs.Prelude.{◌&&◌, slice_get}
use Rattle.hls_base.specs.declared.point.Point.{Point}
use Rattle.hls_base.specs.declared.number.VarId.{VarId}
use Rattle.hls_base.proofs.SamePoints.{same_point-other}
use Rattle.c_meaning.specs.Points.{times}
use Rattle.ir_core.specs.declared.cfg.Cfg.{Cfg}
use Rattle.ir_core.specs.declared.cfg.Node.{Node}
use Rattle.ir_core.specs.declared.cfg.Node.TheVariants as node
use Rattle.ir_core.specs.declared.stamp.Untimed.{Untimed}
use Rattle.pieces.specs.Trees.{PieceTrees}
use Rattle.c_meaning.specs.PieceRuns.Pieces.{Frame, pieces_run}
use Rattle.ir_core.specs.Trees.{SequenceTree}
use Rattle.passes.specs.Lowering.{last, lowered, side_from}
use Rattle.passes.specs.Conversion.{converted_sequence}
use Rattle.ir_layout.specs.Nodes.{node_of, node_point}
use Rattle.pass_runs.specs.ConvertRuns.ConvertedTrees.Points as blocks
use Rattle.pass_runs.specs.ConvertRuns.ConvertedTrees.Points.{live_points, stays_in}
use Rattle.pass_runs.proofs.ConvertRuns.ConvertedTrees.Points.{apart, numbered}
use Rattle.pass_runs.specs.ConvertRuns.LoweredConversions.PiecePoints.{from_point, points_in}
use Rattle.pass_runs.proofs.ConvertRuns.LoweredConversions.Points.{points}
use Rattle.pass_runs.specs.LowerRuns.Suits.{scope_of}
use Rattle.pass_runs.specs.LowerRuns.Holding.{none_hidden}
use Rattle.timed_pieces.specs.FormulaCycles.{PointsDiffer}
use Rattle.timed_pieces.proofs.FusedPrograms.Nodes.{points_stay, fused_alike}
use Rattle.timed_pieces.proofs.FusedPrograms.Whole as fused
use Rattle.timed_pieces.specs.FlatRuns.{Choice, IsFine, IsUnfused, numbering_of, conversion_of, tree_of, numbered_of, has_node}
use Rattle.expanded_pieces.specs.ApartPoints.Apart.{AreApart}
use Rattle.expanded_pieces.specs.ApartPoints.Points.{all_points}
use Rattle.expanded_pieces.proofs.ApartPoints.Apart.{IsIn, Taken, away_at}
use Rattle.expanded_pieces.proofs.BlockPoints.Parts.{begin_suits}
use Rattle.source_answers.specs.NodePoints.{LaidOutPointsDiffer, LaidOutPassesKept}
use Rattle.source_answers.proofs.NodePoints.Trees.{tree_points, side_points, point_of, points_laid, numbered_points}
use Rattle.source_answers.proofs.NodePoints.Converted.{take_through, sequence_taken, sequence_found}
use Rattle.source_answers.proofs.NodePoints.Listed.{pieces_points, all_listed, pieces_dealt}
use Rattle.source_answers.proofs.NodePoints.Lowered.{side_taken}
use Rattle.source_answers.proofs.NodePoints.Kept.{headed_kept}
use Rattle.source_answers.proofs.NodePoints.Runs.{pieces_within}

-- ---- lists of nodes

node_points : (nodes : List (Node Untimed)) → map node_point nodes ≡ map point_of (map node_of nodes)
node_points [] = refl
node_points (node.Plain block ∷ nodes) = ap (λ l. block.point ∷ l) (node_points nodes)
node_points (node.Looped region ∷ nodes) = ap (λ l. region.point ∷ l) (node_points nodes)

node_in : (nodes : List (Node Untimed)) (i : ℕ) (a : Node Untimed) → slice_get nodes i ≡ Some a → IsIn (node_point a) (map node_point nodes)
node_in [] i a e = absurd cc
node_in (x ∷ nodes) zero a e = inl (same x a e) where
  same : (x a : Node Untimed) → Some x ≡ Some a → node_point a ≡ node_point x
  same x a h = let z : x ≡ a = cc in ap node_point (sym z)
node_in (x ∷ nodes) (suc i) a e = inr (node_in nodes i a e)

one_node : (nodes : List (Node Untimed)) → AreApart (map node_point nodes) → (i j : ℕ) (a b : Node Untimed) → slice_get nodes i ≡ Some a → slice_get nodes j ≡ Some b → node_point a ≡ node_point b → i ≡ j
one_node [] h i j a b x y e = absurd cc
one_node (n ∷ nodes) h zero zero a b x y e = refl
one_node (n ∷ nodes) h zero (suc j) a b x y e =
    let z : n ≡ a = cc in
    absurd (away_at (node_point n) (map node_point nodes) h.0 (subst (λ p. IsIn p (map node_point nodes)) (sym e ∙ ap node_point (sym z)) (node_in nodes j b y)))
one_node (n ∷ nodes) h (suc i) zero a b x y e =
    let z : n ≡ b = cc in
    absurd (away_at (node_point n) (map node_point nodes) h.0 (subst (λ p. IsIn p (map node_point nodes)) (e ∙ ap node_point (sym z)) (node_in nodes i a x)))
one_node (n ∷ nodes) h (suc i) (suc j) a b x y e = ap suc (one_node nodes h.1 i j a b x y e)

none_times : (q : Point) (trace : List Point) → (IsIn q trace → ⊥) → times trace q ≡ 0
none_times q [] h = refl
none_times q (p ∷ trace) h = ap (λ b. if b then times trace q + 1 else times trace q) (same_point-other p q (λ e. h (inl (sym e)))) ∙ none_times q trace (λ i. h (inr i))

-- ---- programs

module _ (f : Frame) (choice : Choice) (kept : Point → Bool) (pieces : PieceTrees) (point : Point) (returned : Option VarId) (cfg : Cfg Untimed) (fine : IsFine f kept pieces point) (laid : IsUnfused f choice pieces point returned cfg) (differ : AreApart (all_points pieces)) where
  abbrev first : SequenceTree
  first = tree_of f pieces point

  abbrev second : SequenceTree
  second = numbered_of f choice pieces point

  abbrev third : SequenceTree
  third = converted_sequence (conversion_of f choice) second

  lowered_taken : (live dead : Bool) → Taken (pieces_points live dead pieces) (tree_points live dead first)
  lowered_taken live dead =
      subst (λ o. Taken (pieces_points live dead pieces) (side_points live dead (side_from (λ b. lowered (scope_of f) pieces last b) o))) fine.first (side_taken (scope_of f) live dead pieces (begin_suits f kept [] none_hidden pieces fine.begins))

  nodes_are : map node_point cfg.nodes.items ≡ tree_points true true third
  nodes_are = node_points cfg.nodes.items ∙ ap (map point_of) laid.nodes ∙ points_laid third returned

  nodes_taken : Taken (all_points pieces) (map node_point cfg.nodes.items)
  nodes_taken =
      subst (Taken (all_points pieces)) (sym nodes_are)
      (take_through (all_points pieces) (tree_points true true second) (tree_points true true third)
      (subst (Taken (all_points pieces)) (sym (numbered_points true true (numbering_of f choice) first)) (subst (λ l. Taken l (tree_points true true first)) (all_listed pieces) (lowered_taken true true)))
      (sequence_taken (conversion_of f choice) second))

  -- a node that may be passed is kept
  live_kept : (q : Point) → IsIn q (live_points second) → kept q ≡ true
  live_kept q i =
      let there : live_points second ≡ point ∷ points_in pieces = numbered (numbering_of f choice) first ∙ points (scope_of f) pieces point in
      subst (λ o. (r : Point) → IsIn r (from_point o (points_in pieces)) → kept r ≡ true) fine.first (headed_kept f kept pieces [] none_hidden fine.begins) q (subst (IsIn q) there i)

  -- the others are never reached
  none_passes : (q : Point) → IsIn q (tree_points false true second) → (s : _) (n : ℕ) → times (pieces_run f pieces s n).trace q ≡ 0
  none_passes q i s n =
      let there : IsIn q (pieces_points false true pieces) = (lowered_taken false true).covers q (subst (IsIn q) (numbered_points false true (numbering_of f choice) first) i) in
      none_times q (pieces_run f pieces s n).trace (λ j. (pieces_dealt true pieces).disjoint (subst AreApart (sym (all_listed pieces)) differ) q (pieces_within f pieces s n q j) there)

  abbrev stays : Point → Bool
  stays = stays_in (conversion_of f choice) second

  pub kept_there : (q : Point) → IsIn q (tree_points true true third) → (s : _) (n : ℕ) → (has_node f choice kept pieces point q ≡ true) ⊎ (times (pieces_run f pieces s n).trace q ≡ 0)
  kept_there q i s n =
      by (sequence_found (conversion_of f choice) stays q second (apart (conversion_of f choice) second (subst blocks.AreApart (sym (numbered (numbering_of f choice) first)) fine.points)) i)
    where
      by : ((stays q ≡ true) × IsIn q (live_points second)) ⊎ IsIn q (tree_points false true second) → (has_node f choice kept pieces point q ≡ true) ⊎ (times (pieces_run f pieces s n).trace q ≡ 0)
      by (inl h) = inl (ap₂ (λ a b. a && b) (live_kept q h.1) h.0)
      by (inr j) = inr (none_passes q j s n)

pub unfused_differ : (f : Frame) (choice : Choice) (kept : Point → Bool) (pieces : PieceTrees) (point : Point) (returned : Option VarId) (cfg : Cfg Untimed) → IsFine f kept pieces point → IsUnfused f choice pieces point returned cfg → AreApart (all_points pieces) → PointsDiffer cfg.nodes.items
unfused_differ f choice kept pieces point returned cfg fine laid differ = one_node cfg.nodes.items ((nodes_taken f choice kept pieces point returned cfg fine laid differ).apart differ)

pub points_differ : LaidOutPointsDiffer
points_differ f choice kept pieces point returned cfg fine laid differ = fused.points_differ choice.period laid.unfused cfg laid.fused (unfused_differ f choice kept pieces point returned laid.unfused fine laid.laid differ)

pub passes_kept : LaidOutPassesKept
passes_kept f choice kept pieces point returned cfg fine laid differ s n i a e =
    let stay = points_stay laid.unfused.nodes.items cfg.nodes.items (fused_alike choice.period laid.unfused cfg laid.fused) in
    kept_there f choice kept pieces point returned laid.unfused fine laid.laid differ (node_point a)
    (subst (IsIn (node_point a)) (sym stay ∙ nodes_are f choice kept pieces point returned laid.unfused fine laid.laid differ) (node_in cfg.nodes.items i a e)) s n
