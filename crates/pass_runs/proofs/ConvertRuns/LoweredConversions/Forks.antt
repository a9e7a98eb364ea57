-- Straight pieces become blocks with convertible forks between them.
use Rattle.std.proofs.Common.{◌≡◌, ◌+◌, Bool, true, false, ◌&&◌, refl, ap, Option, Some, None}
use Rattle.std.specs.Prelude.{nat_le, if◌then◌else◌}
use Rattle.hls_base.specs.declared.point.Point.{Point}
use Rattle.hls_base.specs.declared.number.VarId.{VarId}
use Rattle.pieces.specs.Trees as tree
use Rattle.pieces.specs.Trees.{PureTree, PieceTree, PieceTrees}
use Rattle.pieces.specs.Weight.{weight, piece_weights}
use Rattle.ir_core.specs.declared.body.Operand.{Operand}
use Rattle.ir_core.specs.Trees.{ExitTree, next, branch, choose, break_, continue_, leave, BlockTree, SequenceTree, sequence, PartTrees, no_part, more_parts, ShapeTree}
use Rattle.passes.specs.Lowering.Shapes.{is_straight, are_straight, first_point}
use Rattle.passes.specs.Lowering.Blocks.{Scope, begun, goes_on, is_live, set, put, condition, forking, ends_by_fork}
use Rattle.passes.specs.Lowering.Copies.{copied_parts, fixed_behind, fixed_behind_shape}
use Rattle.passes.specs.Lowering.{Rest, last, followed, side_from, with_copies, lowered, lowered_piece}
use Rattle.pass_runs.specs.ConvertRuns.Forks.{HoldsForks, ForksBehind, IsConvertible, SideHoldsForks}
use Rattle.pass_runs.proofs.ConvertRuns.ConvertedTrees.Numbered.{forks as numbered_keeps}
use Rattle.pass_runs.specs.ConvertRuns.LoweredConversions.Suiting.{EndsNoCall, NoCallEnds}
use Rattle.pass_runs.specs.ConvertRuns.LoweredConversions.{StraightHoldsForks, NumberedStraightHoldsForks, body_blocks}

left_true : (x y : Bool) → (x && y) ≡ true → x ≡ true
left_true true y e = refl
left_true false y e = e

right_true : (x y : Bool) → (x && y) ≡ true → y ≡ true
right_true true y e = e
right_true false y e = absurd cc

both_true : (x y : Bool) → x ≡ true → y ≡ true → (x && y) ≡ true
both_true true y e h = h
both_true false y e h = e

abbrev IsLive : BlockTree → Type 0
IsLive b = is_live b ≡ true

live_exit : (e : ExitTree) → goes_on e ≡ true → e ≡ next
live_exit next h = refl
live_exit (branch test) h = absurd cc
live_exit (choose cases) h = absurd cc
live_exit break_ h = absurd cc
live_exit continue_ h = absurd cc
live_exit (leave number) h = absurd cc

-- what becomes of an open block
abbrev RestForks : Rest → Type 0
RestForks rest = (b : BlockTree) → IsLive b → HoldsForks (rest b)

last_forks : RestForks last
last_forks b h = live_exit b.exit h

followed_forks : (b : BlockTree) (shape : ShapeTree) (s : SequenceTree) → ((test : Operand) × (b.exit ≡ branch test)) → IsConvertible shape → HoldsForks s → HoldsForks (followed b shape s)
followed_forks b shape (sequence first rest) e h k = (e, h, k)

side_forks : (blocks : Rest) (point : Option Point) → RestForks blocks → SideHoldsForks (side_from blocks point)
side_forks blocks None h = tt
side_forks blocks (Some point) h = h (begun point) refl

module _ (scope : Scope) where
  live_if : (c : Bool) (x y : BlockTree) → IsLive x → IsLive y → IsLive (if c then x else y)
  live_if true x y h k = h
  live_if false x y h k = k

  tested : (test : PureTree) (left right : PieceTrees) (b : BlockTree) → IsLive b → (x : Operand) × ((ends_by_fork scope test left right b).exit ≡ branch x)
  tested test left right b h = ((condition test b).operand, ap (λ c. (if c then forking scope left right b (condition test b) else b).exit) h)

  mutual
    pieces_forks : (pieces : PieceTrees) (rest : Rest) (b : BlockTree) → are_straight pieces ≡ true → NoCallEnds pieces → RestForks rest → IsLive b → HoldsForks (lowered scope pieces rest b)
    pieces_forks tree.no_pieces rest b e h r l = r b l
    pieces_forks (tree.then_ piece pieces) rest b e h r l =
        piece_forks piece (λ b1. lowered scope pieces rest b1) b (left_true (is_straight piece) (are_straight pieces) e) h.0
        (λ b1 l1. pieces_forks pieces rest b1 (right_true (is_straight piece) (are_straight pieces) e) h.1 r l1) l

    piece_forks : (piece : PieceTree) (rest : Rest) (b : BlockTree) → is_straight piece ≡ true → EndsNoCall piece → RestForks rest → IsLive b → HoldsForks (lowered_piece scope piece rest b)
    piece_forks (tree.set v x) rest b e h r l = r (if is_live b then set scope v x b else b) (live_if (is_live b) (set scope v x b) b l l)
    piece_forks (tree.put a s x at) rest b e h r l = r (if is_live b then put scope a s x at b else b) (live_if (is_live b) (put scope a s x at b) b l l)
    piece_forks (tree.fork test left right end) rest b e h r l =
        let light = nat_le (1 + weight test + piece_weights left + piece_weights right) 64 in
        let both = right_true light (are_straight left && are_straight right) e in
        followed_forks (ends_by_fork scope test left right b) _ (rest (begun end)) (tested test left right b l) (
          both_true (is_live b) (is_straight (tree.fork test left right end)) l e,
          side_forks (λ b1. lowered scope left last b1) (first_point left) (λ b1 l1. pieces_forks left last b1 (left_true (are_straight left) (are_straight right) both) h.0 last_forks l1),
          side_forks (λ b1. lowered scope right last b1) (first_point right) (λ b1 l1. pieces_forks right last b1 (right_true (are_straight left) (are_straight right) both) h.1 last_forks l1),
        )
        (r (begun end) refl)
    piece_forks (tree.repeat_ id post before test body step end) rest b e h r l = absurd cc
    piece_forks (tree.pick test labels body end) rest b e h r l = absurd cc
    piece_forks tree.break_ rest b e h r l = absurd cc
    piece_forks tree.next_ rest b e h r l = absurd cc
    piece_forks (tree.leave call) rest b e h r l = absurd cc
    piece_forks (tree.land call end) rest b e h r l = absurd h
    piece_forks (tree.mark point) rest b e h r l = r b l

  -- ---- copies

  parts_forks : (variables : VarId → Bool) (exit : ExitTree) (ps : PartTrees) → ForksBehind exit ps → ForksBehind exit (copied_parts scope variables ps)
  parts_forks variables exit no_part h = h
  parts_forks variables exit (more_parts shape after rest) h = (h.0, h.1, parts_forks (fixed_behind rest (fixed_behind_shape shape variables) after) after.exit rest h.2)

  copies_forks : (c : Bool) (s : SequenceTree) → HoldsForks s → HoldsForks (with_copies c scope s)
  copies_forks false s h = h
  copies_forks true (sequence first rest) h = parts_forks (fixed_behind rest (λ v. false) first) first.exit rest h

pub forks : StraightHoldsForks
forks scope copies body step point e k h m =
    copies_forks scope copies (lowered scope body (λ b. lowered scope step last b) (begun point))
    (pieces_forks scope body (λ b. lowered scope step last b) (begun point) e h (λ b l. pieces_forks scope step last b k m last_forks l) refl)

pub numbered_forks : NumberedStraightHoldsForks
numbered_forks scope numbering copies body step point e k h m = numbered_keeps numbering (body_blocks scope copies body step point) (forks scope copies body step point e k h m)
