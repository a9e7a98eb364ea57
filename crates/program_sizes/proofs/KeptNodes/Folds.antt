-- Lowered pieces: no more folds than the pieces weigh.
use Rattle.std.proofs.Common.{◌≡◌, ◌≤◌, ℕ, ◌+◌, Bool, true, false, arith, refl, List, Option, Some, None}
use Rattle.std.specs.Prelude.{◌&&◌, if◌then◌else◌}
use Rattle.hls_base.specs.declared.number.VarId.{VarId}
use Rattle.hls_base.specs.declared.point.Point.{Point}
use Rattle.pieces.specs.declared.piece.Label.{Label}
use Rattle.pieces.specs.Trees as tree
use Rattle.pieces.specs.Trees.{PieceTree, PieceTrees}
use Rattle.pieces.specs.Weight.{weight, piece_weight, piece_weights}
use Rattle.ir_core.specs.Trees.{BlockTree, break_, continue_, leave, SequenceTree, sequence, PartTrees, no_part, more_parts, ShapeTree, fork, loop, SideTree, ArmTrees, more_arms}
use Rattle.passes.specs.Lowering.Shapes.{is_straight, is_eligible, point_of, first_point, or_at}
use Rattle.passes.specs.Lowering.Blocks.{Scope, begun, is_live, with_exit, set, put, ends_by_test, ends_by_fork, ends_by_cases}
use Rattle.passes.specs.Lowering.Copies.{copied_parts, fixed_behind, fixed_behind_shape}
use Rattle.passes.specs.Lowering.{Rest, last, followed, land_of, parts_of, side_from, with_copies, own_step, stepped, is_named, lowered, lowered_piece, before_arm, arms}
use Rattle.program_sizes.specs.KeptNodes.Folds.{sequence_folds, parts_folds, shape_folds, side_folds, arms_folds}
use Rattle.program_sizes.specs.KeptNodes.{LoweredFoldsAreFew}

-- ---- blocks and what stands behind them

-- what follows an open block has at most so many folds
abbrev Adds : Rest → ℕ → Type 0
Adds rest n = (b : BlockTree) → sequence_folds (rest b) ≤ n

last_adds : Adds last 0
last_adds b = omega arith

-- A block has come to its end, and a shape stands behind it.
followed_adds : (b : BlockTree) (shape : ShapeTree) (s : SequenceTree) (n m : ℕ) → sequence_folds s ≤ n → shape_folds shape ≤ m → sequence_folds (followed b shape s) ≤ n + m
followed_adds b shape (sequence first rest) n m h fits = omega (arith, h, fits)

side_folded : (f : Rest) (n : ℕ) → Adds f n → (point : Option Point) → side_folds (side_from f point) ≤ n
side_folded f n h None = omega arith
side_folded f n h (Some point) = h (begun point)

one_at_most : (t : Bool) → (if t then 1 else 0) ≤ 1
one_at_most true = omega arith
one_at_most false = omega arith

fork_folded : (yes_ no_ : SideTree) (convertible : Bool) → shape_folds (fork yes_ no_ convertible) ≤ 1 + side_folds yes_ + side_folds no_
fork_folded yes_ no_ convertible = let one = one_at_most convertible in omega (arith, one)

-- ---- loops

copied_folds : (scope : Scope) (variables : VarId → Bool) (ps : PartTrees) → parts_folds (copied_parts scope variables ps) ≡ parts_folds ps
copied_folds scope variables no_part = refl
copied_folds scope variables (more_parts shape after rest) = let more = copied_folds scope (fixed_behind rest (fixed_behind_shape shape variables) after) rest in omega (arith, more)

-- Copies in the body of a loop add no fold.
with_copies_folds : (eligible : Bool) (scope : Scope) (s : SequenceTree) → sequence_folds (with_copies eligible scope s) ≡ sequence_folds s
with_copies_folds true scope (sequence first rest) = copied_folds scope (fixed_behind rest (λ v. false) first) rest
with_copies_folds false scope s = refl

-- The step goes on in the last block of the body, or has blocks of its own.
round_folded : (round : Rest → SequenceTree) (n : ℕ) → ((rest : Rest) (x : ℕ) → Adds rest x → sequence_folds (round rest) ≤ x + n) → (step : Rest) (m : ℕ) → Adds step m → (own : Option Point)
    → sequence_folds (round (λ b. stepped step own b)) + side_folds (side_from step own) ≤ n + m
round_folded round n g step m h None = let s = g (λ b. stepped step None b) m h in omega (arith, s)
round_folded round n g step m h (Some point) =
    let s = g (λ b. stepped step (Some point) b) 0 last_adds in
    let side_ = side_folded step m h (Some point) in
    omega (arith, s, side_)

loop_folded : (scope : Scope) (post : Bool) (test body : SequenceTree) (step : SideTree) (eligible : Bool) (n m : ℕ) → sequence_folds test ≤ n → sequence_folds body + side_folds step ≤ m
    → shape_folds (loop post test (with_copies eligible scope body) step eligible) ≤ 1 + (n + m)
loop_folded scope post test body step eligible n m h g = let one = one_at_most eligible in let same = with_copies_folds eligible scope body in omega (arith, one, same, h, g)

-- ---- switches

parts_of_folds : (s : SequenceTree) → parts_folds (parts_of s) ≡ sequence_folds s
parts_of_folds (sequence first rest) = refl

-- what pieces from this number on weigh up to the next one that a label names
abbrev weight_before : List Label → ℕ → PieceTrees → ℕ
weight_before labels i tree.no_pieces = 0
weight_before labels i (tree.then_ p ps) = if is_named labels i then 0 else weight_before labels (i + 1) ps + piece_weight p

more_or_last : (named : Bool) (s : SequenceTree) (b : BlockTree) (n : ℕ) → sequence_folds s ≤ n → sequence_folds (if named then last b else s) ≤ (if named then 0 else n)
more_or_last true s b n h = omega arith
more_or_last false s b n h = h

arm_folded : (named : Bool) (arm : SequenceTree) (rest : ArmTrees) (n m k : ℕ) → sequence_folds arm ≤ n + m → arms_folds rest + n ≤ k → arms_folds (if named then more_arms arm rest else rest) + (if named then 0 else n + m) ≤ m + k
arm_folded true arm rest n m k h g = omega (arith, h, g)
arm_folded false arm rest n m k h g = omega (arith, g)

-- ---- pieces

mutual
  lowered_adds : (scope : Scope) (ps : PieceTrees) (rest : Rest) (n : ℕ) → Adds rest n → Adds (λ b. lowered scope ps rest b) (n + piece_weights ps)
  lowered_adds scope tree.no_pieces rest n h b = let e = h b in omega (arith, e)
  lowered_adds scope (tree.then_ p ps) rest n h b =
      let e = piece_adds scope p (λ b1. lowered scope ps rest b1) (n + piece_weights ps) (lowered_adds scope ps rest n h) b in omega (arith, e)

  piece_adds : (scope : Scope) (p : PieceTree) (rest : Rest) (n : ℕ) → Adds rest n → Adds (λ b. lowered_piece scope p rest b) (n + piece_weight p)
  piece_adds scope (tree.set v t) rest n h b = let e = h (if is_live b then set scope v t b else b) in omega (arith, e)
  piece_adds scope (tree.put array ts t at) rest n h b = let e = h (if is_live b then put scope array ts t at b else b) in omega (arith, e)
  piece_adds scope (tree.fork test left_ right_ end) rest n h b =
      let one = side_folded (λ b1. lowered scope left_ last b1) (0 + piece_weights left_) (lowered_adds scope left_ last 0 last_adds) (first_point left_) in
      let two = side_folded (λ b1. lowered scope right_ last b1) (0 + piece_weights right_) (lowered_adds scope right_ last 0 last_adds) (first_point right_) in
      let all = fork_folded (side_from (λ b1. lowered scope left_ last b1) (first_point left_)) (side_from (λ b1. lowered scope right_ last b1) (first_point right_)) (is_live b && is_straight (tree.fork test left_ right_ end)) in
      followed_adds (ends_by_fork scope test left_ right_ b) _ _ n (piece_weight (tree.fork test left_ right_ end)) (h (begun end)) (omega (arith, one, two, all))
  piece_adds scope (tree.repeat_ id post before test body step end) rest n h b =
      let start = begun (or_at end (first_point body)) in
      let first = lowered_adds scope before (λ b1. last (ends_by_test test b1)) 0 (λ b1. omega arith) (begun (or_at end (first_point before))) in
      let round = round_folded (λ r. lowered scope body r start) (piece_weights body) (λ r x g. lowered_adds scope body r x g start) (λ b1. lowered scope step last b1) (0 + piece_weights step) (lowered_adds scope step last 0 last_adds)
      (own_step body (first_point step)) in
      let all = loop_folded scope post _ _ _ (is_eligible post before (weight test) body step) (0 + piece_weights before) (piece_weights body + (0 + piece_weights step)) first round in
      followed_adds b _ _ n (piece_weight (tree.repeat_ id post before test body step end)) (h (begun end)) (omega (arith, all))
  piece_adds scope (tree.pick test labels body end) rest n h b =
      let dead = before_arm scope labels 0 body (record (begun end) { exit = break_ }) in
      let one = before_adds scope labels 0 body (record (begun end) { exit = break_ }) in
      let two = arms_add scope labels 0 body end in
      let behind = parts_of_folds dead in
      followed_adds (ends_by_cases test labels b) _ _ n (piece_weight (tree.pick test labels body end)) (h (begun end)) (omega (arith, one, two, behind))
  piece_adds scope tree.break_ rest n h b = let e = h (with_exit break_ b) in omega (arith, e)
  piece_adds scope tree.next_ rest n h b = let e = h (with_exit continue_ b) in omega (arith, e)
  piece_adds scope (tree.leave call) rest n h b = let e = h (with_exit (leave (land_of call)) b) in omega (arith, e)
  piece_adds scope (tree.land call end) rest n h b = followed_adds b _ _ n (piece_weight (tree.land call end)) (h (begun end)) (omega arith)
  piece_adds scope (tree.mark point) rest n h b = let e = h b in omega (arith, e)

  before_adds : (scope : Scope) (labels : List Label) (i : ℕ) (ps : PieceTrees) → Adds (λ b. before_arm scope labels i ps b) (weight_before labels i ps)
  before_adds scope labels i tree.no_pieces b = last_adds b
  before_adds scope labels i (tree.then_ p ps) b =
      more_or_last (is_named labels i) _ b (weight_before labels (i + 1) ps + piece_weight p)
      (piece_adds scope p (λ b1. before_arm scope labels (i + 1) ps b1) (weight_before labels (i + 1) ps) (before_adds scope labels (i + 1) ps) b)

  arms_add : (scope : Scope) (labels : List Label) (i : ℕ) (ps : PieceTrees) (end : Point) → arms_folds (arms scope labels i ps end) + weight_before labels i ps ≤ piece_weights ps
  arms_add scope labels i tree.no_pieces end = omega arith
  arms_add scope labels i (tree.then_ p ps) end =
      let arm = piece_adds scope p (λ b1. before_arm scope labels (i + 1) ps b1) (weight_before labels (i + 1) ps) (before_adds scope labels (i + 1) ps) (begun (or_at end (point_of p))) in
      arm_folded (is_named labels i) _ _ (weight_before labels (i + 1) ps) (piece_weight p) (piece_weights ps) arm (arms_add scope labels (i + 1) ps end)

pub folds_few : LoweredFoldsAreFew
folds_few scope pieces point = let e = lowered_adds scope pieces last 0 last_adds (begun point) in omega (arith, e)
