-- The points of pieces are those at which blocks begin and those of other marks.
use Rattle.std.proofs.Common.{◌≡◌, ◌⊎◌, inl, inr, ℕ, ◌+◌, Bool, true, false, List, [], ◌∷◌, ◌++◌, refl, sym, if◌then◌else◌}
use Rattle.std.proofs.lemmas.Bool.{or_from}
use Rattle.hls_base.specs.declared.point.Point.{Point}
use Rattle.hls_base.specs.Tallies.{same_point}
use Rattle.hls_base.proofs.SamePoints.{same_point-other}
use Rattle.pieces.specs.declared.piece.Label.{Label}
use Rattle.pieces.specs.Trees as tree
use Rattle.pieces.specs.Trees.{PieceTree, PieceTrees}
use Rattle.passes.specs.Lowering.Shapes.{any_continues}
use Rattle.passes.specs.Lowering.{is_named}
use Rattle.expanded_pieces.specs.ApartPoints.Apart.{AreApart}
use Rattle.expanded_pieces.specs.ApartPoints.Points.{all_points, own_points}
use Rattle.expanded_pieces.proofs.ApartPoints.Apart.{IsIn, Covers, Disjoint, split, in_left, in_right, in_either}
use Rattle.expanded_pieces.specs.BegunPieces.Points.{arm_by, points_in, points_of, first_points, arm_points, begin_points, dropped_points, EachPoint, is_among, MarksDiffer}

-- a list of which each point is dealt to one of two
pub record Dealt (xs ys all : List Point) : Type 0 where
  pub left : Covers all xs
  pub right : Covers all ys
  pub disjoint : AreApart all → Disjoint xs ys

pub dealt_none : Dealt [] [] []
dealt_none = record { left = λ q i. i; right = λ q i. i; disjoint = λ h q i j. i }

pub dealt_left : (p : Point) → Dealt (p ∷ []) [] (p ∷ [])
dealt_left p = record { left = λ q i. i; right = λ q i. absurd i; disjoint = λ h q i j. j }

pub dealt_right : (p : Point) → Dealt [] (p ∷ []) (p ∷ [])
dealt_right p = record { left = λ q i. absurd i; right = λ q i. i; disjoint = λ h q i j. i }

pub dealt_append : (xs ys all xs1 ys1 all1 : List Point) → Dealt xs ys all → Dealt xs1 ys1 all1 → Dealt (xs ++ xs1) (ys ++ ys1) (all ++ all1)
dealt_append xs ys all xs1 ys1 all1 d e = record {
  left = λ q i. (elim (in_either q xs xs1 i) [ inl j ↦ in_left q all all1 (d.left q j) | inr j ↦ in_right q all all1 (e.left q j) ]);
  right = λ q i. (elim (in_either q ys ys1 i) [ inl j ↦ in_left q all all1 (d.right q j) | inr j ↦ in_right q all all1 (e.right q j) ]);
  disjoint = λ h q i j. cases h q (in_either q xs xs1 i) (in_either q ys ys1 j);
} where
  cases : AreApart (all ++ all1) → (q : Point) → IsIn q xs ⊎ IsIn q xs1 → IsIn q ys ⊎ IsIn q ys1 → ⊥
  cases h q (inl i) (inl j) = d.disjoint (split all all1 h).left q i j
  cases h q (inl i) (inr j) = (split all all1 h).disjoint q (d.left q i) (e.right q j)
  cases h q (inr i) (inl j) = (split all all1 h).disjoint q (d.right q j) (e.left q i)
  cases h q (inr i) (inr j) = e.disjoint (split all all1 h).right q i j

dealt_if : (b : Bool) (xs ys xs1 ys1 all : List Point) → Dealt xs ys all → Dealt xs1 ys1 all → Dealt (if b then xs else xs1) (if b then ys else ys1) all
dealt_if true xs ys xs1 ys1 all d e = d
dealt_if false xs ys xs1 ys1 all d e = e

arm_dealt : (named : Bool) (x : PieceTree) → Dealt (points_in true x) (points_in false x) (own_points x) → Dealt (arm_by true named x (points_in true x)) (arm_by false named x (points_in false x)) (own_points x)
arm_dealt true (tree.mark p) d = dealt_left p
arm_dealt true x d = d
arm_dealt false x d = d

mutual
  piece_dealt : (x : PieceTree) → Dealt (points_in true x) (points_in false x) (own_points x)
  piece_dealt (tree.fork test first second end) =
      dealt_append (first_points true first) (first_points false first) (all_points first) (first_points true second ++ end ∷ []) (first_points false second ++ []) (all_points second ++ end ∷ []) (first_dealt first)
      (dealt_append (first_points true second) (first_points false second) (all_points second) (end ∷ []) [] (end ∷ []) (first_dealt second) (dealt_left end))
  piece_dealt (tree.repeat_ id post before test body step end) =
      let b = any_continues body in
      let steps1 = if b then first_points true step else points_of true step in
      let steps2 = if b then first_points false step else points_of false step in
      dealt_append (first_points true before) (first_points false before) (all_points before) (first_points true body ++ (steps1 ++ end ∷ [])) (first_points false body ++ (steps2 ++ [])) (all_points body ++ (all_points step ++ end ∷ [])) (first_dealt before)
      (dealt_append (first_points true body) (first_points false body) (all_points body) (steps1 ++ end ∷ []) (steps2 ++ []) (all_points step ++ end ∷ []) (first_dealt body)
      (dealt_append steps1 steps2 (all_points step) (end ∷ []) [] (end ∷ [])
      (dealt_if b (first_points true step) (first_points false step) (points_of true step) (points_of false step) (all_points step) (first_dealt step) (pieces_dealt step)) (dealt_left end)))
  piece_dealt (tree.pick test labels body end) = dealt_append (arm_points true labels 0 body) (arm_points false labels 0 body) (all_points body) (end ∷ []) [] (end ∷ []) (arms_dealt labels 0 body) (dealt_left end)
  piece_dealt (tree.land call end) = dealt_left end
  piece_dealt (tree.mark p) = dealt_right p
  piece_dealt x = dealt_none

  pieces_dealt : (xs : PieceTrees) → Dealt (points_of true xs) (points_of false xs) (all_points xs)
  pieces_dealt tree.no_pieces = dealt_none
  pieces_dealt (tree.then_ x rest) = dealt_append (points_in true x) (points_in false x) (own_points x) (points_of true rest) (points_of false rest) (all_points rest) (piece_dealt x) (pieces_dealt rest)

  first_dealt : (xs : PieceTrees) → Dealt (first_points true xs) (first_points false xs) (all_points xs)
  first_dealt tree.no_pieces = dealt_none
  first_dealt (tree.then_ (tree.mark p) rest) = dealt_append (p ∷ []) [] (p ∷ []) (points_of true rest) (points_of false rest) (all_points rest) (dealt_left p) (pieces_dealt rest)
  first_dealt (tree.then_ x rest) = dealt_append (points_in true x) (points_in false x) (own_points x) (points_of true rest) (points_of false rest) (all_points rest) (piece_dealt x) (pieces_dealt rest)

  arms_dealt : (labels : List Label) (i : ℕ) (xs : PieceTrees) → Dealt (arm_points true labels i xs) (arm_points false labels i xs) (all_points xs)
  arms_dealt labels i tree.no_pieces = dealt_none
  arms_dealt labels i (tree.then_ x rest) =
      let named = is_named labels i in
      dealt_append (arm_by true named x (points_in true x)) (arm_by false named x (points_in false x)) (own_points x) (arm_points true labels (i + 1) rest) (arm_points false labels (i + 1) rest) (all_points rest) (arm_dealt named x (piece_dealt x)) (arms_dealt labels (i + 1) rest)

-- ---- so no block begins at the point of another mark

not_among : (xs : List Point) (q : Point) → (IsIn q xs → ⊥) → is_among xs q ≡ false
not_among [] q h = refl
not_among (x ∷ xs) q h = or_from (same_point x q) (is_among xs q) (same_point-other x q (λ e. h (inl (sym e)))) (not_among xs q (λ i. h (inr i)))

each_other : (xs ys : List Point) → ((q : Point) → IsIn q xs → IsIn q ys → ⊥) → EachPoint (λ q. is_among xs q ≡ false) ys
each_other xs [] h = tt
each_other xs (y ∷ ys) h = (not_among xs y (λ i. h y i (inl refl)), each_other xs ys (λ q i j. h q i (inr j)))

pub marks_differ : (pieces : PieceTrees) → AreApart (all_points pieces) → MarksDiffer pieces
marks_differ pieces apart = each_other (begin_points pieces) (dropped_points pieces) ((first_dealt pieces).disjoint apart)
