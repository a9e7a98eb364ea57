-- The points of lowered trees are those of the pieces.
use Rattle.std.proofs.Common.{◌≡◌, ◌∙◌, ℕ, ◌+◌, Bool, true, false, refl, ap, ap₂, sym, subst, List, [], ◌∷◌, ◌++◌, append_assoc, append-nil, Option, Some, None, if◌then◌else◌}
use Rattle.std.specs.Prelude.{is_some}
use Rattle.hls_base.specs.declared.point.Point.{Point}
use Rattle.hls_base.specs.declared.number.VarId.{VarId}
use Rattle.pieces.specs.declared.piece.Label.{Label}
use Rattle.pieces.specs.Trees as tree
use Rattle.pieces.specs.Trees.{PureTree, PieceTree, PieceTrees}
use Rattle.pieces.specs.Weight.{weight}
use Rattle.c_value.specs.Values.{promoted}
use Rattle.pieces.specs.Kind.{kind}
use Rattle.ir_core.specs.Trees.{break_, continue_, leave, BlockTree, SequenceTree, sequence, PartTrees, no_part, more_parts, ShapeTree, more_arms}
use Rattle.passes.specs.Lowering.Expressions.{emitted}
use Rattle.passes.specs.Lowering.Shapes.{is_eligible, first_point, or_at, point_of}
use Rattle.passes.specs.Lowering.Blocks.{Scope, begun, is_live, with_exit, with_ops, set, put, condition, branching, ends_by_test, all_set, set_before, forking, ends_by_fork, promoted_given, switched, ends_by_cases}
use Rattle.passes.specs.Lowering.Copies.{copied_parts, fixed_behind, fixed_behind_shape}
use Rattle.passes.specs.Lowering.{Rest, last, followed, land_of, side_from, with_copies, own_step, stepped, is_named, lowered, lowered_piece, before_arm, arms}
use Rattle.passes.specs.Numbering.{numbered_sequence}
use Rattle.pass_runs.specs.ConvertRuns.ConvertedTrees.Points.{live_points, points_behind, shape_points, side_points, arm_points, AreApart}
use Rattle.pass_runs.proofs.ConvertRuns.ConvertedTrees.Points.{apart, numbered}
use Rattle.pass_runs.specs.ConvertRuns.LoweredConversions.PiecePoints.{from_point, step_behind, points_in, points_of, points_before, points_in_arms}
use Rattle.pass_runs.specs.ConvertRuns.LoweredConversions.{LoweredPoints, NumberedLoweredKeeps}

-- ---- blocks keep their points

point_if : (c : Bool) (x y : BlockTree) → x.point ≡ y.point → (if c then x else y).point ≡ y.point
point_if true x y e = e
point_if false x y e = refl

all_point : (scope : Scope) (parts : PieceTrees) (b : BlockTree) → (all_set scope parts b).point ≡ b.point
all_point scope tree.no_pieces b = refl
all_point scope (tree.then_ (tree.set v x) rest) b = all_point scope rest (set scope v x b)
all_point scope (tree.then_ (tree.put a s x at) rest) b = all_point scope rest b
all_point scope (tree.then_ (tree.fork t l r e) rest) b = all_point scope rest b
all_point scope (tree.then_ (tree.repeat_ i p f t y s e) rest) b = all_point scope rest b
all_point scope (tree.then_ (tree.pick t l y e) rest) b = all_point scope rest b
all_point scope (tree.then_ tree.break_ rest) b = all_point scope rest b
all_point scope (tree.then_ tree.next_ rest) b = all_point scope rest b
all_point scope (tree.then_ (tree.leave c) rest) b = all_point scope rest b
all_point scope (tree.then_ (tree.land c e) rest) b = all_point scope rest b
all_point scope (tree.then_ (tree.mark p) rest) b = all_point scope rest b

before_point : (scope : Scope) (parts : PieceTrees) (b : BlockTree) → (set_before scope parts b).point ≡ b.point
before_point scope parts b = either (is_some (first_point parts)) where
  either : (c : Bool) → (if c then b else all_set scope parts b).point ≡ b.point
  either true = refl
  either false = all_point scope parts b

fork_point : (scope : Scope) (x : PureTree) (left right : PieceTrees) (b : BlockTree) → (ends_by_fork scope x left right b).point ≡ b.point
fork_point scope x left right b =
    point_if (is_live b) (forking scope left right b (condition x b)) b (before_point scope right (set_before scope left (with_ops (condition x b).ops b)) ∙ before_point scope left (with_ops (condition x b).ops b))

test_point : (x : PureTree) (b : BlockTree) → (ends_by_test x b).point ≡ b.point
test_point x b = point_if (is_live b) (branching b (condition x b)) b refl

cases_point : (x : PureTree) (labels : List Label) (b : BlockTree) → (ends_by_cases x labels b).point ≡ b.point
cases_point x labels b = point_if (is_live b) (switched (promoted (kind x)) labels b (promoted_given (promoted (kind x)) (emitted b.outs x b.ops []))) b refl

-- ---- copies

parts_points : (scope : Scope) (variables : VarId → Bool) (ps : PartTrees) → points_behind (copied_parts scope variables ps) ≡ points_behind ps
parts_points scope variables no_part = refl
parts_points scope variables (more_parts shape after rest) = ap (λ l. shape_points shape ++ after.point ∷ l) (parts_points scope (fixed_behind rest (fixed_behind_shape shape variables) after) rest)

copies_points : (scope : Scope) (c : Bool) (s : SequenceTree) → live_points (with_copies c scope s) ≡ live_points s
copies_points scope false s = refl
copies_points scope true (sequence first rest) = ap (λ l. first.point ∷ l) (parts_points scope (fixed_behind rest (λ v. false) first) rest)

-- ---- sequences

-- behind the point of the open block stand these
abbrev RestPoints : Rest → List Point → Type 0
RestPoints rest points = (b : BlockTree) → live_points (rest b) ≡ b.point ∷ points

last_points : RestPoints last []
last_points b = refl

followed_points : (b : BlockTree) (shape : ShapeTree) (s : SequenceTree) → live_points (followed b shape s) ≡ b.point ∷ (shape_points shape ++ live_points s)
followed_points b shape (sequence first rest) = refl

side_same : (blocks : Rest) (point : Option Point) (points : List Point) → RestPoints blocks points → side_points (side_from blocks point) ≡ from_point point points
side_same blocks None points h = refl
side_same blocks (Some point) points h = h (begun point)

stepped_points : (step : Rest) (point : Option Point) (points : List Point) → RestPoints step points → RestPoints (stepped step point) (step_behind point points)
stepped_points step None points h b = h b
stepped_points step (Some point) points h b = refl

-- a shape, and what goes on behind it at this point
shape_then : (b first : BlockTree) (shape : ShapeTree) (end : Point) (rest : Rest) (points tail : List Point) → b.point ≡ first.point → shape_points shape ≡ points → RestPoints rest tail
    → live_points (followed b shape (rest (begun end))) ≡ first.point ∷ ((points ++ end ∷ []) ++ tail)
shape_then b first shape end rest points tail e h r =
    followed_points b shape (rest (begun end)) ∙ (λ i. e i ∷ (h i ++ r (begun end) i)) ∙ ap (λ l. first.point ∷ l) (sym (append_assoc points (end ∷ []) tail))

-- nothing stands behind these points
closed : (blocks : Rest) (points : List Point) → RestPoints blocks (points ++ []) → RestPoints blocks points
closed blocks points h b = h b ∙ ap (λ l. b.point ∷ l) (append-nil points)

module _ (scope : Scope) where
  mutual
    pieces_points : (parts : PieceTrees) (rest : Rest) (tail : List Point) → RestPoints rest tail → RestPoints (λ b. lowered scope parts rest b) (points_in parts ++ tail)
    pieces_points tree.no_pieces rest tail r b = r b
    pieces_points (tree.then_ piece parts) rest tail r b =
        piece_points piece (λ b1. lowered scope parts rest b1) (points_in parts ++ tail) (λ b1. pieces_points parts rest tail r b1) b ∙ ap (λ l. b.point ∷ l) (sym (append_assoc (points_of piece) (points_in parts) tail))

    piece_points : (piece : PieceTree) (rest : Rest) (tail : List Point) → RestPoints rest tail → RestPoints (λ b. lowered_piece scope piece rest b) (points_of piece ++ tail)
    piece_points (tree.set v x) rest tail r b = r (if is_live b then set scope v x b else b) ∙ ap (λ p. p ∷ tail) (point_if (is_live b) (set scope v x b) b refl)
    piece_points (tree.put a s x at) rest tail r b = r (if is_live b then put scope a s x at b else b) ∙ ap (λ p. p ∷ tail) (point_if (is_live b) (put scope a s x at b) b refl)
    piece_points (tree.fork test left right end) rest tail r b =
        shape_then (ends_by_fork scope test left right b) b _ end rest (from_point (first_point left) (points_in left) ++ from_point (first_point right) (points_in right)) tail (fork_point scope test left right b)
        (ap₂ (λ (x y : List Point). x ++ y) (side_same (λ b1. lowered scope left last b1) (first_point left) (points_in left) (closed (λ b1. lowered scope left last b1) (points_in left) (λ b1. pieces_points left last [] last_points b1))) (side_same (λ b1. lowered scope right last b1) (first_point right) (points_in right) (closed (λ b1. lowered scope right last b1) (points_in right) (λ b1. pieces_points right last [] last_points b1)))) r
    piece_points (tree.repeat_ id post before test body step end) rest tail r b =
        let own = own_step body (first_point step) in
        let around : Rest = λ b1. stepped (λ b2. lowered scope step last b2) own b1 in
        let eligible = is_eligible post before (weight test) body step in
        let at = or_at end (first_point body) in
        let first = or_at end (first_point before) in
        let tested = pieces_points before (λ b1. last (ends_by_test test b1)) [] (λ b1. ap (λ p. p ∷ []) (test_point test b1)) (begun first) ∙ ap (λ l. first ∷ l) (append-nil (points_in before)) in
        let inner = copies_points scope eligible (lowered scope body around (begun at)) ∙ pieces_points body around (step_behind own (points_in step)) (stepped_points (λ b2. lowered scope step last b2) own (points_in step) (closed (λ b1. lowered scope step last b1) (points_in step) (λ b1. pieces_points step last [] last_points b1))) (begun at) in
        shape_then b b _ end rest ((first ∷ points_in before) ++ ((at ∷ (points_in body ++ step_behind own (points_in step))) ++ from_point own (points_in step))) tail refl
        (ap₂ (λ (x y : List Point). x ++ y) tested (ap₂ (λ (x y : List Point). x ++ y) inner (side_same (λ b1. lowered scope step last b1) own (points_in step) (closed (λ b1. lowered scope step last b1) (points_in step) (λ b1. pieces_points step last [] last_points b1))))) r
    piece_points (tree.pick test labels body end) rest tail r b =
        shape_then (ends_by_cases test labels b) b _ end rest (points_in_arms labels 0 body end) tail (cases_point test labels b) (arms_points labels 0 body end) r
    piece_points tree.break_ rest tail r b = r (with_exit break_ b) ∙ ap (λ p. p ∷ tail) (point_if (is_live b) (record b { exit = break_ }) b refl)
    piece_points tree.next_ rest tail r b = r (with_exit continue_ b) ∙ ap (λ p. p ∷ tail) (point_if (is_live b) (record b { exit = continue_ }) b refl)
    piece_points (tree.leave call) rest tail r b = r (with_exit (leave (land_of call)) b) ∙ ap (λ p. p ∷ tail) (point_if (is_live b) (record b { exit = leave (land_of call) }) b refl)
    piece_points (tree.land call end) rest tail r b = shape_then b b _ end rest [] tail refl refl r
    piece_points (tree.mark point) rest tail r b = r b

    before_points : (labels : List Label) (i : ℕ) (parts : PieceTrees) → RestPoints (λ b. before_arm scope labels i parts b) (points_before labels i parts)
    before_points labels i tree.no_pieces b = refl
    before_points labels i (tree.then_ piece parts) b =
        either (is_named labels i) (piece_points piece (λ b1. before_arm scope labels (i + 1) parts b1) (points_before labels (i + 1) parts) (λ b1. before_points labels (i + 1) parts b1) b)
      where
        either : (c : Bool) → live_points (lowered_piece scope piece (λ b1. before_arm scope labels (i + 1) parts b1) b) ≡ b.point ∷ (points_of piece ++ points_before labels (i + 1) parts)
            → live_points (if c then last b else lowered_piece scope piece (λ b1. before_arm scope labels (i + 1) parts b1) b) ≡ b.point ∷ (if c then [] else (points_of piece ++ points_before labels (i + 1) parts))
        either true h = refl
        either false h = h

    arms_points : (labels : List Label) (i : ℕ) (parts : PieceTrees) (end : Point) → arm_points (arms scope labels i parts end) ≡ points_in_arms labels i parts end
    arms_points labels i tree.no_pieces end = refl
    arms_points labels i (tree.then_ piece parts) end =
        either (is_named labels i)
        (piece_points piece (λ b1. before_arm scope labels (i + 1) parts b1) (points_before labels (i + 1) parts) (λ b1. before_points labels (i + 1) parts b1) (begun (or_at end (point_of piece))))
        (arms_points labels (i + 1) parts end)
      where
        first : SequenceTree
        first = lowered_piece scope piece (λ b1. before_arm scope labels (i + 1) parts b1) (begun (or_at end (point_of piece)))

        own : List Point
        own = or_at end (point_of piece) ∷ (points_of piece ++ points_before labels (i + 1) parts)

        either : (c : Bool) → live_points first ≡ own → arm_points (arms scope labels (i + 1) parts end) ≡ points_in_arms labels (i + 1) parts end
            → arm_points (if c then more_arms first (arms scope labels (i + 1) parts end) else arms scope labels (i + 1) parts end) ≡ (if c then (own ++ points_in_arms labels (i + 1) parts end) else points_in_arms labels (i + 1) parts end)
        either true h k = ap₂ (λ (x y : List Point). x ++ y) h k
        either false h k = k

pub points : LoweredPoints
points scope parts point = closed (λ b1. lowered scope parts last b1) (points_in parts) (λ b1. pieces_points scope parts last [] last_points b1) (begun point)

pub keeps : NumberedLoweredKeeps
keeps scope apart_ loops parts point h =
    let blocks = numbered_sequence apart_ (lowered scope parts last (begun point)) in
    apart loops blocks (subst AreApart (sym (numbered apart_ (lowered scope parts last (begun point)) ∙ points scope parts point)) h)
