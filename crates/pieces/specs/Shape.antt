-- Forks that may become selects, and loops that may be overlapped, as far as their own pieces tell.
use Rattle.std.specs.Prelude.{IsTrue, if◌then◌else◌, ◌+◌, ◌≤◌, ⊤, Bool, true, false}
use Rattle.pieces.specs.Trees as tree
use Rattle.pieces.specs.Trees.{PieceTree, PieceTrees}
use Rattle.pieces.specs.Weight.{weight, piece_weights}

abbrev mutual
  -- a Set, Put, mark, or a fork that weighs at most 64 and whose branches hold only such pieces
  pub IsStraight : PieceTree → Type 0
  IsStraight (tree.set name value) = ⊤
  IsStraight (tree.put array subscripts value at) = ⊤
  IsStraight (tree.fork test left right end) = (1 + weight test + piece_weights left + piece_weights right ≤ 64) × AreStraight left × AreStraight right
  IsStraight (tree.repeat_ id post before test body step end) = ⊥
  IsStraight (tree.pick test labels body end) = ⊥
  IsStraight tree.break_ = ⊥
  IsStraight tree.next_ = ⊥
  IsStraight (tree.leave call) = ⊥
  IsStraight (tree.land call end) = ⊤
  IsStraight (tree.mark point) = ⊤

  pub AreStraight : PieceTrees → Type 0
  AreStraight tree.no_pieces = ⊤
  AreStraight (tree.then_ first rest) = IsStraight first × AreStraight rest

abbrev pub is_mark : PieceTree → Bool
is_mark (tree.land call end) = true
is_mark (tree.mark point) = true
is_mark (tree.set name value) = false
is_mark (tree.put array subscripts value at) = false
is_mark (tree.fork test left right end) = false
is_mark (tree.repeat_ id post before test body step end) = false
is_mark (tree.pick test labels body end) = false
is_mark tree.break_ = false
is_mark tree.next_ = false
is_mark (tree.leave call) = false

abbrev pub are_marks : PieceTrees → Bool
are_marks tree.no_pieces = true
are_marks (tree.then_ first rest) = if is_mark first then are_marks rest else false

-- a fork that becomes selects where control reaches it
abbrev pub IsConvertible : PieceTree → Type 0
IsConvertible (tree.fork test left right end) = IsStraight (tree.fork test left right end)
IsConvertible (tree.set name value) = ⊥
IsConvertible (tree.put array subscripts value at) = ⊥
IsConvertible (tree.repeat_ id post before test body step end) = ⊥
IsConvertible (tree.pick test labels body end) = ⊥
IsConvertible tree.break_ = ⊥
IsConvertible tree.next_ = ⊥
IsConvertible (tree.leave call) = ⊥
IsConvertible (tree.land call end) = ⊥
IsConvertible (tree.mark point) = ⊥

-- a loop of `for` or `while` that may be overlapped: nothing but marks stands before its test; test, body and step weigh at most 256 and are straight
abbrev pub IsEligible : PieceTree → Type 0
IsEligible (tree.repeat_ id true before test body step end) = ⊥
IsEligible (tree.repeat_ id false before test body step end) = IsTrue (are_marks before) × (weight test + piece_weights body + piece_weights step ≤ 256) × AreStraight body × AreStraight step
IsEligible (tree.set name value) = ⊥
IsEligible (tree.put array subscripts value at) = ⊥
IsEligible (tree.fork test left right end) = ⊥
IsEligible (tree.pick test labels body end) = ⊥
IsEligible tree.break_ = ⊥
IsEligible tree.next_ = ⊥
IsEligible (tree.leave call) = ⊥
IsEligible (tree.land call end) = ⊥
IsEligible (tree.mark point) = ⊥
