-- Parts of an expansion whose loops end at the Ends of their points.
use Rattle.std.proofs.Common.{◌≡◌, refl, Bool, true, false, List, [], ◌∷◌, ◌++◌, if◌then◌else◌}
use Rattle.hls_base.specs.declared.point.Point.{Point}
use Rattle.pieces.specs.Trees as tree
use Rattle.pieces.specs.Trees.{PieceTree, PieceTrees, piece_row}
use Rattle.piece_making.specs.Making.{State, Part, Inner, then_, emit}
use Rattle.expanded_pieces.specs.ApartPoints.Points.{all_points, own_points}
use Rattle.expanded_pieces.proofs.ApartPoints.Quiet.{Quiet}
use Rattle.timed_pieces.specs.FormulaCycles.Loops.{PiecesLoopsEnd, PieceLoopsEnd}

abbrev pub RowEnds : List PieceTree → Type 0
RowEnds xs = PiecesLoopsEnd (piece_row xs)

-- the loops of a part end so
abbrev pub Ends : {A : Type 0} → Part A → Type 0
Ends part = RowEnds part.pieces

abbrev pub EndsThere : {A : Type 0} → (State → Part A) → Type 0
EndsThere part = (s : State) → Ends (part s)

-- those of pieces in a list of their own
abbrev pub EndsWithin : {A : Type 0} → Part (Inner A) → Type 0
EndsWithin part = RowEnds part.value.pieces

pub row_joined : (xs ys : List PieceTree) → RowEnds xs → RowEnds ys → RowEnds (xs ++ ys)
row_joined [] ys h g = g
row_joined (x ∷ xs) ys h g = (h.0, row_joined xs ys h.1 g)

pub then_ends : {A B : Type 0} (first : Part A) (next : A → State → Part B) → Ends first → Ends (next first.value first.state) → Ends (then_ first next)
unfolding then_
then_ends first next h g = row_joined first.pieces (next first.value first.state).pieces h g

pub emit_ends : (x : PieceTree) (s : State) → PieceLoopsEnd x → Ends (emit x s)
unfolding emit
emit_ends x s h = (h, tt)

pub ends_if : {A : Type 0} (b : Bool) (x y : Part A) → Ends x → Ends y → Ends (if b then x else y)
ends_if true x y h g = h
ends_if false x y h g = g

-- ---- pieces without points have no loops

nil_left : (xs ys : List Point) → xs ++ ys ≡ [] → xs ≡ []
nil_left [] ys e = refl
nil_left (x ∷ xs) ys e = absurd (cc)

nil_right : (xs ys : List Point) → xs ++ ys ≡ [] → ys ≡ []
nil_right [] ys e = e
nil_right (x ∷ xs) ys e = absurd (cc)

one_there : (end : Point) → end ∷ [] ≡ [] → ⊥
one_there end e = cc

pub none_end : (xs : PieceTrees) → all_points xs ≡ [] → PiecesLoopsEnd xs
none_end tree.no_pieces e = tt
none_end (tree.then_ first rest) e = (piece first (nil_left (own_points first) (all_points rest) e), none_end rest (nil_right (own_points first) (all_points rest) e)) where
  piece : (x : PieceTree) → own_points x ≡ [] → PieceLoopsEnd x
  piece (tree.fork test left right end) h = absurd (one_there end (nil_right (all_points right) (end ∷ []) (nil_right (all_points left) (all_points right ++ end ∷ []) h)))
  piece (tree.repeat_ id post before test body step end) h =
      absurd (one_there end (nil_right (all_points step) (end ∷ []) (nil_right (all_points body) (all_points step ++ end ∷ []) (nil_right (all_points before) (all_points body ++ (all_points step ++ end ∷ [])) h))))
  piece (tree.pick test labels body end) h = absurd (one_there end (nil_right (all_points body) (end ∷ []) h))
  piece (tree.set name value) h = tt
  piece (tree.put array subscripts value at) h = tt
  piece tree.break_ h = tt
  piece tree.next_ h = tt
  piece (tree.leave call) h = tt
  piece (tree.land call end) h = tt
  piece (tree.mark point) h = tt

pub quiet_ends : {A : Type 0} (part : Part A) → Quiet part → Ends part
quiet_ends part h = none_end (piece_row part.pieces) h
