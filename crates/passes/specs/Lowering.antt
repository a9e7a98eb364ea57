-- What lowering makes of pieces: a sequence of basic blocks. Each place at which a block may begin has one; what is never reached has its blocks, but makes no operation.
pub mod Operations
pub mod Outs
pub mod Guards
pub mod Expressions
pub mod Shapes
pub mod Blocks
pub mod Copies
pub mod Examples
use Rattle.std.specs.Prelude.{ℕ, zero, suc, ◌+◌, ◌==◌, Bool, false, ◌&&◌, ◌||◌, nat_lt, List, [], ◌∷◌, Option, Some, None, if◌then◌else◌}
use Rattle.hls_base.specs.declared.point.Point.{Point}
use Rattle.ir_core.specs.declared.tree.LandId.{LandId}
use Rattle.pieces.specs.declared.piece.CallId.{CallId}
use Rattle.pieces.specs.declared.piece.Label.{Label}
use Rattle.pieces.specs.Trees as tree
use Rattle.pieces.specs.Trees.{PureTree, PieceTree, PieceTrees}
use Rattle.pieces.specs.Weight.{weight}
use Rattle.pieces.specs.Program.{ExpandedTree}
use Rattle.ir_core.specs.Trees.{break_, continue_, leave, BlockTree, SequenceTree, sequence, PartTrees, no_part, more_parts, ShapeTree, fork, loop, switch, land, SideTree, no_side, side, ArmTrees, no_arm, more_arms}
use Rattle.passes.specs.Lowering.Shapes.{is_straight, is_eligible, any_continues, point_of, first_point, or_at}
use Rattle.passes.specs.Lowering.Blocks.{Scope, begun, is_live, with_exit, set, put, ends_by_test, ends_by_fork, ends_by_cases}
use Rattle.passes.specs.Lowering.Copies.{copied}

-- ---- sequences

-- What becomes of the block that is open behind pieces: with what follows it, a sequence of blocks.
abbrev pub Rest : Type 0
Rest = BlockTree → SequenceTree

-- it is the last one
abbrev pub last : Rest
last b = sequence b no_part

-- a block, the shape behind it, and the sequence that goes on there
abbrev pub followed : BlockTree → ShapeTree → SequenceTree → SequenceTree
followed b shape (sequence first rest) = sequence b (more_parts shape first rest)

abbrev pub parts_of : SequenceTree → PartTrees
parts_of (sequence first rest) = rest

abbrev pub land_of : CallId → LandId
land_of call = record { 0 = call.0 }

-- the blocks that begin at a point; without one there are none
abbrev pub side_from : Rest → Option Point → SideTree
side_from blocks None = no_side
side_from blocks (Some point) = side (blocks (begun point))

-- ---- loops

abbrev pub with_copies : Bool → Scope → SequenceTree → SequenceTree
with_copies eligible scope body = if eligible then copied scope body else body

-- The step of a loop with a continue has blocks of its own, which begin at this point. Else it goes on in the last block of the body.
abbrev pub own_step : PieceTrees → Option Point → Option Point
own_step body point = if any_continues body then point else None

abbrev pub stepped : Rest → Option Point → Rest
stepped step None b = step b
stepped step (Some point) b = last b

-- ---- switches

-- a label names the piece of this number
abbrev pub is_named : List Label → ℕ → Bool
is_named [] i = false
is_named (l ∷ ls) i = l.target == i || is_named ls i

-- how many of the first i pieces are named: so many arms begin before
abbrev pub arms_before : List Label → ℕ → ℕ
arms_before labels zero = 0
arms_before labels (suc i) = if is_named labels i then suc (arms_before labels i) else arms_before labels i

abbrev pub piece_count : PieceTrees → ℕ
piece_count tree.no_pieces = 0
piece_count (tree.then_ first rest) = suc (piece_count rest)

-- the number of the arm that begins at the label's piece, of which there are so many
abbrev pub arm_of : List Label → ℕ → Label → ℕ
arm_of labels pieces l = if nat_lt l.target pieces then arms_before labels l.target else 0

abbrev pub with_target : Option ℕ → ℕ → List ℕ → List ℕ
with_target None arm arms = arms
with_target (Some word) arm arms = arm ∷ arms

-- the arms of the labels with a value
abbrev pub targets : List Label → ℕ → List Label → List ℕ
targets labels pieces [] = []
targets labels pieces (l ∷ ls) = with_target l.value (arm_of labels pieces l) (targets labels pieces ls)

abbrev pub other_or : Option ℕ → ℕ → Option ℕ → Option ℕ
other_or None arm rest = Some arm
other_or (Some word) arm rest = rest

-- the arm of the label without one
abbrev pub other : List Label → ℕ → List Label → Option ℕ
other labels pieces [] = None
other labels pieces (l ∷ ls) = other_or l.value (arm_of labels pieces l) (other labels pieces ls)

-- ---- pieces

abbrev mutual
  -- pieces that go on in the block
  pub lowered : Scope → PieceTrees → Rest → BlockTree → SequenceTree
  lowered scope tree.no_pieces rest b = rest b
  lowered scope (tree.then_ piece pieces) rest b = lowered_piece scope piece (λ b1. lowered scope pieces rest b1) b

  pub lowered_piece : Scope → PieceTree → Rest → BlockTree → SequenceTree
  lowered_piece scope (tree.set variable value) rest b = rest (if is_live b then set scope variable value b else b)
  lowered_piece scope (tree.put array subscripts value at) rest b = rest (if is_live b then put scope array subscripts value at b else b)
  lowered_piece scope (tree.fork test yes_ no_ end) rest b =
      followed (ends_by_fork scope test yes_ no_ b)
      (fork (side_from (λ b1. lowered scope yes_ last b1) (first_point yes_)) (side_from (λ b1. lowered scope no_ last b1) (first_point no_)) (is_live b && is_straight (tree.fork test yes_ no_ end)))
      (rest (begun end))
  lowered_piece scope (tree.repeat_ id post before test body step end) rest b =
      followed b
      (loop post (lowered scope before (λ b1. last (ends_by_test test b1)) (begun (or_at end (first_point before))))
      (with_copies (is_eligible post before (weight test) body step) scope (lowered scope body (λ b1. stepped (λ b2. lowered scope step last b2) (own_step body (first_point step)) b1) (begun (or_at end (first_point body)))))
      (side_from (λ b1. lowered scope step last b1) (own_step body (first_point step))) (is_eligible post before (weight test) body step))
      (rest (begun end))
  lowered_piece scope (tree.pick test labels body end) rest b =
      followed (ends_by_cases test labels b)
      (switch (parts_of (before_arm scope labels 0 body (record (begun end) { exit = break_ }))) (targets labels (piece_count body) labels) (other labels (piece_count body) labels) (arms scope labels 0 body end))
      (rest (begun end))
  lowered_piece scope tree.break_ rest b = rest (with_exit break_ b)
  lowered_piece scope tree.next_ rest b = rest (with_exit continue_ b)
  lowered_piece scope (tree.leave call) rest b = rest (with_exit (leave (land_of call)) b)
  lowered_piece scope (tree.land call end) rest b = followed b (land (land_of call)) (rest (begun end))
  lowered_piece scope (tree.mark point) rest b = rest b

  -- pieces from this number on, up to the next one that a label names
  pub before_arm : Scope → List Label → ℕ → PieceTrees → Rest
  before_arm scope labels i tree.no_pieces b = last b
  before_arm scope labels i (tree.then_ piece pieces) b =
      if is_named labels i then last b else lowered_piece scope piece (λ b1. before_arm scope labels (i + 1) pieces b1) b

  -- an arm from each piece on that a label names
  pub arms : Scope → List Label → ℕ → PieceTrees → Point → ArmTrees
  arms scope labels i tree.no_pieces end = no_arm
  arms scope labels i (tree.then_ piece pieces) end =
      if is_named labels i
      then more_arms (lowered_piece scope piece (λ b1. before_arm scope labels (i + 1) pieces b1) (begun (or_at end (point_of piece)))) (arms scope labels (i + 1) pieces end)
      else arms scope labels (i + 1) pieces end

-- ---- programs

abbrev pub scope_of : ExpandedTree → Scope
scope_of e = record { variables = e.variables; arrays = e.arrays }

-- the blocks of a program, which begins at a point
abbrev pub lowering : ExpandedTree → SideTree
lowering e = side_from (lowered (scope_of e) e.pieces last) (first_point e.pieces)
