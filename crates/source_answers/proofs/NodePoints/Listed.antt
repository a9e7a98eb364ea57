-- The points of pieces: of those that may run, and of those before the first label of a switch, which are never reached.
use Rattle.std.proofs.Common.{◌≡◌, ◌∙◌, ℕ, ◌+◌, Bool, true, false, not, refl, sym, ap, ap₂, append_assoc, List, [], ◌∷◌, ◌++◌, if◌then◌else◌}
use Rattle.hls_base.specs.declared.point.Point.{Point}
use Rattle.pieces.specs.declared.piece.Label.{Label}
use Rattle.pieces.specs.Trees as tree
use Rattle.pieces.specs.Trees.{PieceTree, PieceTrees}
use Rattle.passes.specs.Lowering.{is_named}
use Rattle.expanded_pieces.specs.ApartPoints.Points.{all_points, own_points}
use Rattle.expanded_pieces.specs.BegunPieces.Points.{listed_if}
use Rattle.source_answers.proofs.SourceRuns.FinePieces.Dealing.{Dealt, dealt_none, dealt_left, dealt_right, dealt_append}

-- As it is asked, those of marks and ends that may be passed, and those of others.
abbrev mutual
  pub pieces_points : Bool → Bool → PieceTrees → List Point
  pieces_points live dead tree.no_pieces = []
  pieces_points live dead (tree.then_ first rest) = piece_points live dead first ++ pieces_points live dead rest

  pub piece_points : Bool → Bool → PieceTree → List Point
  piece_points live dead (tree.fork test left right end) = (pieces_points live dead left ++ pieces_points live dead right) ++ listed_if live end
  piece_points live dead (tree.repeat_ id post before test body step end) = (pieces_points live dead before ++ (pieces_points live dead body ++ pieces_points live dead step)) ++ listed_if live end
  piece_points live dead (tree.pick test labels body end) = (points_until dead dead labels 0 body ++ points_from live dead labels 0 body) ++ listed_if live end
  piece_points live dead (tree.land call end) = listed_if live end
  piece_points live dead (tree.mark point) = listed_if live point
  piece_points live dead piece = []

  -- from the piece with this number on, up to the next one that a label names
  pub points_until : Bool → Bool → List Label → ℕ → PieceTrees → List Point
  points_until live dead labels i tree.no_pieces = []
  points_until live dead labels i (tree.then_ first rest) = if is_named labels i then [] else (piece_points live dead first ++ points_until live dead labels (i + 1) rest)

  -- from there on
  pub points_from : Bool → Bool → List Label → ℕ → PieceTrees → List Point
  points_from live dead labels i tree.no_pieces = []
  points_from live dead labels i (tree.then_ first rest) = if is_named labels i then (piece_points live dead first ++ pieces_points live dead rest) else points_from live dead labels (i + 1) rest

-- both together are all
pub parted : (live dead : Bool) (labels : List Label) (i : ℕ) (pieces : PieceTrees) → pieces_points live dead pieces ≡ points_until live dead labels i pieces ++ points_from live dead labels i pieces
parted live dead labels i tree.no_pieces = refl
parted live dead labels i (tree.then_ first rest) = by (is_named labels i) (parted live dead labels (i + 1) rest) where
  own : List Point
  own = piece_points live dead first

  before : List Point
  before = points_until live dead labels (i + 1) rest

  later : List Point
  later = points_from live dead labels (i + 1) rest

  by : (b : Bool) → pieces_points live dead rest ≡ before ++ later → own ++ pieces_points live dead rest ≡ (if b then [] else (own ++ before)) ++ (if b then (own ++ pieces_points live dead rest) else later)
  by true h = refl
  by false h = ap (λ l. own ++ l) h ∙ sym (append_assoc own before later)

-- ---- they are all points

mutual
  pub all_listed : (pieces : PieceTrees) → pieces_points true true pieces ≡ all_points pieces
  all_listed tree.no_pieces = refl
  all_listed (tree.then_ first rest) = ap₂ (λ (x y : List Point). x ++ y) (own_listed first) (all_listed rest)

  own_listed : (piece : PieceTree) → piece_points true true piece ≡ own_points piece
  own_listed (tree.fork test left right end) =
      append_assoc (pieces_points true true left) (pieces_points true true right) (end ∷ []) ∙ ap₂ (λ (x y : List Point). x ++ (y ++ end ∷ [])) (all_listed left) (all_listed right)
  own_listed (tree.repeat_ id post before test body step end) =
      let b = pieces_points true true before in
      let m = pieces_points true true body in
      let s = pieces_points true true step in
      append_assoc b (m ++ s) (end ∷ []) ∙ ap (λ l. b ++ l) (append_assoc m s (end ∷ [])) ∙ (λ i. all_listed before i ++ (all_listed body i ++ (all_listed step i ++ end ∷ [])))
  own_listed (tree.pick test labels body end) = ap (λ l. l ++ end ∷ []) (sym (parted true true labels 0 body) ∙ all_listed body)
  own_listed (tree.land call end) = refl
  own_listed (tree.mark point) = refl
  own_listed (tree.set name value) = refl
  own_listed (tree.put array subscripts value at) = refl
  own_listed tree.break_ = refl
  own_listed tree.next_ = refl
  own_listed (tree.leave call) = refl

-- ---- none of those that may be passed is one of the others

dealt_if : (b : Bool) (xs ys all xs1 ys1 all1 : List Point) → Dealt xs ys all → Dealt xs1 ys1 all1 → Dealt (if b then xs else xs1) (if b then ys else ys1) (if b then all else all1)
dealt_if true xs ys all xs1 ys1 all1 d e = d
dealt_if false xs ys all xs1 ys1 all1 d e = e

point_dealt : (live : Bool) (p : Point) → Dealt (listed_if live p) (listed_if (not live) p) (listed_if true p)
point_dealt true p = dealt_left p
point_dealt false p = dealt_right p

mutual
  pub pieces_dealt : (live : Bool) (xs : PieceTrees) → Dealt (pieces_points live false xs) (pieces_points (not live) true xs) (pieces_points true true xs)
  pieces_dealt live tree.no_pieces = dealt_none
  pieces_dealt live (tree.then_ x rest) =
      dealt_append (piece_points live false x) (piece_points (not live) true x) (piece_points true true x) (pieces_points live false rest) (pieces_points (not live) true rest) (pieces_points true true rest) (piece_dealt live x) (pieces_dealt live rest)

  piece_dealt : (live : Bool) (x : PieceTree) → Dealt (piece_points live false x) (piece_points (not live) true x) (piece_points true true x)
  piece_dealt live (tree.fork test left right end) =
      dealt_append (pieces_points live false left ++ pieces_points live false right) (pieces_points (not live) true left ++ pieces_points (not live) true right) (pieces_points true true left ++ pieces_points true true right) (listed_if live end) (listed_if (not live) end) (end ∷ [])
      (dealt_append (pieces_points live false left) (pieces_points (not live) true left) (pieces_points true true left) (pieces_points live false right) (pieces_points (not live) true right) (pieces_points true true right) (pieces_dealt live left) (pieces_dealt live right))
      (point_dealt live end)
  piece_dealt live (tree.repeat_ id post before test body step end) =
      dealt_append (pieces_points live false before ++ (pieces_points live false body ++ pieces_points live false step)) (pieces_points (not live) true before ++ (pieces_points (not live) true body ++ pieces_points (not live) true step))
      (pieces_points true true before ++ (pieces_points true true body ++ pieces_points true true step)) (listed_if live end) (listed_if (not live) end) (end ∷ [])
      (dealt_append (pieces_points live false before) (pieces_points (not live) true before) (pieces_points true true before) (pieces_points live false body ++ pieces_points live false step) (pieces_points (not live) true body ++ pieces_points (not live) true step) (pieces_points true true body ++ pieces_points true true step) (pieces_dealt live before)
      (dealt_append (pieces_points live false body) (pieces_points (not live) true body) (pieces_points true true body) (pieces_points live false step) (pieces_points (not live) true step) (pieces_points true true step) (pieces_dealt live body) (pieces_dealt live step)))
      (point_dealt live end)
  piece_dealt live (tree.pick test labels body end) =
      dealt_append (points_until false false labels 0 body ++ points_from live false labels 0 body) (points_until true true labels 0 body ++ points_from (not live) true labels 0 body) (points_until true true labels 0 body ++ points_from true true labels 0 body) (listed_if live end) (listed_if (not live) end) (end ∷ [])
      (dealt_append (points_until false false labels 0 body) (points_until true true labels 0 body) (points_until true true labels 0 body) (points_from live false labels 0 body) (points_from (not live) true labels 0 body) (points_from true true labels 0 body)
      (until_dealt false labels 0 body) (from_dealt live labels 0 body)) (point_dealt live end)
  piece_dealt live (tree.land call end) = point_dealt live end
  piece_dealt live (tree.mark point) = point_dealt live point
  piece_dealt live (tree.set name value) = dealt_none
  piece_dealt live (tree.put array subscripts value at) = dealt_none
  piece_dealt live tree.break_ = dealt_none
  piece_dealt live tree.next_ = dealt_none
  piece_dealt live (tree.leave call) = dealt_none

  until_dealt : (live : Bool) (labels : List Label) (i : ℕ) (xs : PieceTrees) → Dealt (points_until live false labels i xs) (points_until (not live) true labels i xs) (points_until true true labels i xs)
  until_dealt live labels i tree.no_pieces = dealt_none
  until_dealt live labels i (tree.then_ x rest) =
      dealt_if (is_named labels i) [] [] [] (piece_points live false x ++ points_until live false labels (i + 1) rest) (piece_points (not live) true x ++ points_until (not live) true labels (i + 1) rest) (piece_points true true x ++ points_until true true labels (i + 1) rest) dealt_none
      (dealt_append (piece_points live false x) (piece_points (not live) true x) (piece_points true true x) (points_until live false labels (i + 1) rest) (points_until (not live) true labels (i + 1) rest) (points_until true true labels (i + 1) rest) (piece_dealt live x) (until_dealt live labels (i + 1) rest))

  from_dealt : (live : Bool) (labels : List Label) (i : ℕ) (xs : PieceTrees) → Dealt (points_from live false labels i xs) (points_from (not live) true labels i xs) (points_from true true labels i xs)
  from_dealt live labels i tree.no_pieces = dealt_none
  from_dealt live labels i (tree.then_ x rest) =
      dealt_if (is_named labels i) (piece_points live false x ++ pieces_points live false rest) (piece_points (not live) true x ++ pieces_points (not live) true rest) (piece_points true true x ++ pieces_points true true rest)
      (points_from live false labels (i + 1) rest) (points_from (not live) true labels (i + 1) rest) (points_from true true labels (i + 1) rest)
      (dealt_append (piece_points live false x) (piece_points (not live) true x) (piece_points true true x) (pieces_points live false rest) (pieces_points (not live) true rest) (pieces_points true true rest) (piece_dealt live x) (pieces_dealt live rest))
      (from_dealt live labels (i + 1) rest)
