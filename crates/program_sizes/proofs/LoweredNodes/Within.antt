-- How many nodes come of an open block, with what stands behind it.
use Rattle.std.proofs.Common.{◌≡◌, ◌≤◌, ℕ, ◌+◌, ◌*◌, Bool, arith, Option, Some, None}
use Rattle.hls_base.specs.declared.point.Point.{Point}
use Rattle.pieces.specs.Trees.{PieceTree, PieceTrees}
use Rattle.pieces.specs.Weight.{piece_weight, piece_weights}
use Rattle.ir_core.specs.Trees.{BlockTree, SequenceTree, sequence, ShapeTree, loop, SideTree}
use Rattle.passes.specs.Lowering.Blocks.{Scope, begun}
use Rattle.passes.specs.Lowering.{Rest, last, followed, parts_of, side_from, with_copies, stepped}
use Rattle.ir_layout.specs.Sizes.{sequence_size, parts_size, shape_size, side_size}
use Rattle.passes.specs.Lands.{piece_lands, land_count}
use Rattle.program_sizes.proofs.LoweredNodes.Copies.{with_copies_nodes}

-- ---- how many nodes pieces may add

abbrev pub piece_room : PieceTree → ℕ
piece_room p = 4 * piece_weight p + piece_lands p

abbrev pub room : PieceTrees → ℕ
room ps = 4 * piece_weights ps + land_count ps

-- what follows an open block adds at most so many nodes to it
abbrev pub Adds : Rest → ℕ → Type 0
Adds rest n = (b : BlockTree) → sequence_size (rest b) ≤ 1 + n

pub last_adds : Adds last 0
last_adds b = omega arith

-- A block has come to its end, and a shape stands behind it.
pub followed_adds : (b : BlockTree) (shape : ShapeTree) (s : SequenceTree) (n m : ℕ) → sequence_size s ≤ 1 + n → 1 + shape_size shape ≤ m → sequence_size (followed b shape s) ≤ 1 + (n + m)
followed_adds b shape (sequence first rest) n m h fits = omega (arith, h, fits)

pub side_nodes : (f : Rest) (n : ℕ) → Adds f n → (point : Option Point) → side_size (side_from f point) ≤ 1 + n
side_nodes f n h None = omega arith
side_nodes f n h (Some point) = h (begun point)

-- ---- loops

-- The step goes on in the last block of the body, or has blocks of its own.
pub round_nodes : (round : Rest → SequenceTree) (n : ℕ) → ((rest : Rest) (x : ℕ) → Adds rest x → sequence_size (round rest) ≤ 1 + (x + n)) → (step : Rest) (m : ℕ) → Adds step m → (own : Option Point)
    → sequence_size (round (λ b. stepped step own b)) + side_size (side_from step own) ≤ 2 + (n + m)
round_nodes round n g step m h None = let s = g (λ b. stepped step None b) m h in omega (arith, s)
round_nodes round n g step m h (Some point) =
    let s = g (λ b. stepped step (Some point) b) 0 last_adds in
    let side_ = side_nodes step m h (Some point) in
    omega (arith, s, side_)

pub loop_nodes : (scope : Scope) (post : Bool) (test body : SequenceTree) (step : SideTree) (eligible : Bool) (n m : ℕ) → sequence_size test ≤ 1 + n → sequence_size body + side_size step ≤ 2 + m
    → shape_size (loop post test (with_copies eligible scope body) step eligible) ≤ 3 + (n + m)
loop_nodes scope post test body step eligible n m h g = let same = with_copies_nodes eligible scope body in omega (arith, same, h, g)

-- ---- switches

pub parts_of_nodes : (s : SequenceTree) → 1 + parts_size (parts_of s) ≡ sequence_size s
parts_of_nodes (sequence first rest) = omega arith
