-- What is counted of pieces by their weight.
use Rattle.std.proofs.Common.{◌≡◌, ◌≤◌, ◌+◌, ◌*◌, Bool, true, false, ◌&&◌, ◌||◌, refl, arith, List, [], ◌∷◌, length}
use Rattle.std.specs.Prelude.{nat_le, is_some, if◌then◌else◌}
use Rattle.std.proofs.lemmas.Bool.{and_parts, leb-true}
use Rattle.hls_base.specs.declared.point.Point.{Point}
use Rattle.c_token.specs.declared.ctype.CType.{CType}
use Rattle.c_tree.specs.declared.operator.Unary.{Unary}
use Rattle.c_tree.specs.declared.operator.Unary.TheVariants as u
use Rattle.c_tree.specs.declared.operator.Binary.{Binary}
use Rattle.c_tree.specs.declared.operator.Binary.TheVariants as b
use Rattle.c_value.specs.Values.{promoted}
use Rattle.pieces.specs.declared.piece.Label.{Label}
use Rattle.pieces.specs.Trees as tree
use Rattle.pieces.specs.Trees.{PureTree, PureTrees, PieceTree, PieceTrees}
use Rattle.pieces.specs.Kind.{kind}
use Rattle.pieces.specs.Weight.{weight, weights, piece_weight, piece_weights}
use Rattle.passes.specs.Lowering.Expressions.{left_type, right_type}
use Rattle.passes.specs.Lowering.Shapes.{is_straight, are_straight, is_eligible}
use Rattle.passes.specs.Lowering.Blocks.{Scope, variable_type, element_type}
use Rattle.passes.specs.OperationCount.Expressions.{one_if, gives_bit, given_kind, as_value, as_condition, conversion, as_assigned, as_operand, unary_count, binary_count, choice_count, count, subscript_count}
use Rattle.passes.specs.OperationCount.Pieces.{compared, piece_operations, operations_of, piece_sets, sets_of, fork_adds, piece_additions, additions_of}
use Rattle.program_sizes.specs.CountedOperations.{CountedOperationsAreFew}

-- ---- expressions

one_at_most : (t : Bool) → one_if t ≤ 1
one_at_most true = omega arith
one_at_most false = omega arith

value_at_most : (t : PureTree) → as_value t ≤ 1
value_at_most t = one_at_most (gives_bit t)

condition_at_most : (t : PureTree) → as_condition t ≤ 1
condition_at_most t = one_at_most _

conversion_at_most : (t : PureTree) (from to : CType) → conversion t from to ≤ 1
conversion_at_most t from to = one_at_most _

assigned_at_most : (t : PureTree) (to : CType) → as_assigned t to ≤ 2
assigned_at_most t to =
    let one = value_at_most t in
    let two = conversion_at_most t (given_kind t) to in
    omega (arith, one, two)

operand_at_most : (t : PureTree) (to : CType) → as_operand t to ≤ 3
operand_at_most t to =
    let one = assigned_at_most t (promoted (given_kind t)) in
    let two = conversion_at_most t (promoted (given_kind t)) to in
    omega (arith, one, two)

unary_at_most : (op : Unary) (arg : PureTree) (k : CType) → unary_count op arg k ≤ 4
unary_at_most u.LogNot arg k = let one = condition_at_most arg in omega (arith, one)
unary_at_most u.Plus arg k = let one = operand_at_most arg k in omega (arith, one)
unary_at_most u.Minus arg k = let one = operand_at_most arg k in omega (arith, one)
unary_at_most u.Not arg k = let one = operand_at_most arg k in omega (arith, one)

condition_pair : (left right : PureTree) → 3 + as_condition left + as_condition right ≤ 7
condition_pair left right = let one = condition_at_most left in let two = condition_at_most right in omega (arith, one, two)

operand_pair : (left right : PureTree) (k l : CType) → 1 + as_operand left k + as_operand right l ≤ 7
operand_pair left right k l = let one = operand_at_most left k in let two = operand_at_most right l in omega (arith, one, two)

binary_at_most : (op : Binary) (left right : PureTree) (k : CType) → binary_count op left right k ≤ 7
binary_at_most b.LogAnd left right k = condition_pair left right
binary_at_most b.LogOr left right k = condition_pair left right
binary_at_most b.Lt left right k = operand_pair left right (left_type b.Lt (given_kind left) (kind right) k) (right_type b.Lt (given_kind left) (kind right) k)
binary_at_most b.Gt left right k = operand_pair left right (left_type b.Gt (given_kind left) (kind right) k) (right_type b.Gt (given_kind left) (kind right) k)
binary_at_most b.Le left right k = operand_pair left right (left_type b.Le (given_kind left) (kind right) k) (right_type b.Le (given_kind left) (kind right) k)
binary_at_most b.Ge left right k = operand_pair left right (left_type b.Ge (given_kind left) (kind right) k) (right_type b.Ge (given_kind left) (kind right) k)
binary_at_most b.Eq left right k = operand_pair left right (left_type b.Eq (given_kind left) (kind right) k) (right_type b.Eq (given_kind left) (kind right) k)
binary_at_most b.Ne left right k = operand_pair left right (left_type b.Ne (given_kind left) (kind right) k) (right_type b.Ne (given_kind left) (kind right) k)
binary_at_most b.Mul left right k = operand_pair left right (left_type b.Mul (given_kind left) (kind right) k) (right_type b.Mul (given_kind left) (kind right) k)
binary_at_most b.Div left right k = operand_pair left right (left_type b.Div (given_kind left) (kind right) k) (right_type b.Div (given_kind left) (kind right) k)
binary_at_most b.Rem left right k = operand_pair left right (left_type b.Rem (given_kind left) (kind right) k) (right_type b.Rem (given_kind left) (kind right) k)
binary_at_most b.Add left right k = operand_pair left right (left_type b.Add (given_kind left) (kind right) k) (right_type b.Add (given_kind left) (kind right) k)
binary_at_most b.Sub left right k = operand_pair left right (left_type b.Sub (given_kind left) (kind right) k) (right_type b.Sub (given_kind left) (kind right) k)
binary_at_most b.Shl left right k = operand_pair left right (left_type b.Shl (given_kind left) (kind right) k) (right_type b.Shl (given_kind left) (kind right) k)
binary_at_most b.Shr left right k = operand_pair left right (left_type b.Shr (given_kind left) (kind right) k) (right_type b.Shr (given_kind left) (kind right) k)
binary_at_most b.And left right k = operand_pair left right (left_type b.And (given_kind left) (kind right) k) (right_type b.And (given_kind left) (kind right) k)
binary_at_most b.Xor left right k = operand_pair left right (left_type b.Xor (given_kind left) (kind right) k) (right_type b.Xor (given_kind left) (kind right) k)
binary_at_most b.Or left right k = operand_pair left right (left_type b.Or (given_kind left) (kind right) k) (right_type b.Or (given_kind left) (kind right) k)

choice_at_most : (test left right : PureTree) (k : CType) → choice_count test left right k ≤ 11
choice_at_most test left right k =
    let one = condition_at_most test in
    let two = operand_at_most left k in
    let three = operand_at_most right k in
    omega (arith, one, two, three)

-- with 3 for what converts it where it stands
mutual
  counts_by_weight : (t : PureTree) → count t + 3 ≤ 8 * weight t
  counts_by_weight (tree.number word k) = omega arith
  counts_by_weight (tree.variable name k) = omega arith
  counts_by_weight (tree.element array subscripts k at) = let one = subscripts_by_weight subscripts in omega (arith, one)
  counts_by_weight (tree.unary op arg k at) = let one = counts_by_weight arg in let two = unary_at_most op arg k in omega (arith, one, two)
  counts_by_weight (tree.binary op left right k at) =
      let one = counts_by_weight left in
      let two = counts_by_weight right in
      let three = binary_at_most op left right k in
      omega (arith, one, two, three)
  counts_by_weight (tree.choice test left right k) =
      let one = counts_by_weight test in
      let two = counts_by_weight left in
      let three = counts_by_weight right in
      let four = choice_at_most test left right k in
      omega (arith, one, two, three, four)
  counts_by_weight (tree.cast to arg) = let one = counts_by_weight arg in let two = assigned_at_most arg to in omega (arith, one, two)

  subscripts_by_weight : (ts : PureTrees) → subscript_count ts ≤ 8 * weights ts
  subscripts_by_weight tree.none = omega arith
  subscripts_by_weight (tree.more first rest) =
      let one = counts_by_weight first in
      let two = value_at_most first in
      let three = subscripts_by_weight rest in
      omega (arith, one, two, three)

-- ---- pieces

compared_at_most : (labels : List Label) → compared labels ≤ length labels
compared_at_most [] = omega arith
compared_at_most (l ∷ ls) = let one = one_at_most (is_some l.value) in let two = compared_at_most ls in omega (arith, one, two)

mutual
  operations_by_weight : (scope : Scope) (overlaps : Bool) (p : PieceTree) → piece_operations scope overlaps p ≤ 8 * piece_weight p
  operations_by_weight scope overlaps (tree.set v t) =
      let one = counts_by_weight t in
      let two = assigned_at_most t (variable_type scope v) in
      let three = one_at_most overlaps in
      omega (arith, one, two, three)
  operations_by_weight scope overlaps (tree.put array ts t at) =
      let one = counts_by_weight t in
      let two = assigned_at_most t (element_type scope array) in
      let three = subscripts_by_weight ts in
      omega (arith, one, two, three)
  operations_by_weight scope overlaps (tree.fork t left_ right_ end) =
      let one = counts_by_weight t in
      let two = condition_at_most t in
      let three = all_by_weight scope overlaps left_ in
      let four = all_by_weight scope overlaps right_ in
      omega (arith, one, two, three, four)
  operations_by_weight scope overlaps (tree.repeat_ id post before t body step end) =
      let over = overlaps || is_eligible post before (weight t) body step in
      let one = counts_by_weight t in
      let two = condition_at_most t in
      let three = all_by_weight scope overlaps before in
      let four = all_by_weight scope over body in
      let five = all_by_weight scope over step in
      omega (arith, one, two, three, four, five)
  operations_by_weight scope overlaps (tree.pick t labels body end) =
      let one = counts_by_weight t in
      let two = operand_at_most t (promoted (kind t)) in
      let three = compared_at_most labels in
      let four = all_by_weight scope overlaps body in
      omega (arith, one, two, three, four)
  operations_by_weight scope overlaps tree.break_ = omega arith
  operations_by_weight scope overlaps tree.next_ = omega arith
  operations_by_weight scope overlaps (tree.leave call) = omega arith
  operations_by_weight scope overlaps (tree.land call end) = omega arith
  operations_by_weight scope overlaps (tree.mark point) = omega arith

  pub all_by_weight : (scope : Scope) (overlaps : Bool) (ps : PieceTrees) → operations_of scope overlaps ps ≤ 8 * piece_weights ps
  all_by_weight scope overlaps tree.no_pieces = omega arith
  all_by_weight scope overlaps (tree.then_ p ps) = let one = operations_by_weight scope overlaps p in let two = all_by_weight scope overlaps ps in omega (arith, one, two)

mutual
  sets_by_weight : (p : PieceTree) → piece_sets p ≤ piece_weight p
  sets_by_weight (tree.set v t) = omega arith
  sets_by_weight (tree.put array ts t at) = omega arith
  sets_by_weight (tree.fork t left_ right_ end) = let one = all_sets_by_weight left_ in let two = all_sets_by_weight right_ in omega (arith, one, two)
  sets_by_weight (tree.repeat_ id post before t body step end) =
      let one = all_sets_by_weight before in
      let two = all_sets_by_weight body in
      let three = all_sets_by_weight step in
      omega (arith, one, two, three)
  sets_by_weight (tree.pick t labels body end) = let one = all_sets_by_weight body in omega (arith, one)
  sets_by_weight tree.break_ = omega arith
  sets_by_weight tree.next_ = omega arith
  sets_by_weight (tree.leave call) = omega arith
  sets_by_weight (tree.land call end) = omega arith
  sets_by_weight (tree.mark point) = omega arith

  all_sets_by_weight : (ps : PieceTrees) → sets_of ps ≤ piece_weights ps
  all_sets_by_weight tree.no_pieces = omega arith
  all_sets_by_weight (tree.then_ p ps) = let one = sets_by_weight p in let two = all_sets_by_weight ps in omega (arith, one, two)

-- ---- what the conversion of forks adds

-- A straight fork weighs at most 64.
straight_fork_light : (t : PureTree) (left_ right_ : PieceTrees) (end : Point) → is_straight (tree.fork t left_ right_ end) ≡ true → piece_weight (tree.fork t left_ right_ end) ≤ 64
straight_fork_light t left_ right_ end h =
    let n = 1 + weight t + piece_weights left_ + piece_weights right_ in
    leb-true n 64 (and_parts (nat_le n 64) (are_straight left_ && are_straight right_) h).0

fork_adds_little : (scope : Scope) (t : PureTree) (left_ right_ : PieceTrees) (end : Point) → fork_adds scope (tree.fork t left_ right_ end) ≤ 580
fork_adds_little scope t left_ right_ end = by (is_straight whole) refl where
  whole : PieceTree
  whole = tree.fork t left_ right_ end

  by : (straight : Bool) → is_straight whole ≡ straight → (if straight then piece_operations scope false whole + piece_sets whole + 4 else 0) ≤ 580
  by true e =
      let light = straight_fork_light t left_ right_ end e in
      let one = operations_by_weight scope false whole in
      let two = sets_by_weight whole in
      omega (arith, light, one, two)
  by false e = omega arith

mutual
  additions_by_weight : (scope : Scope) (p : PieceTree) → piece_additions scope p ≤ 580 * piece_weight p
  additions_by_weight scope (tree.set v t) = omega arith
  additions_by_weight scope (tree.put array ts t at) = omega arith
  additions_by_weight scope (tree.fork t left_ right_ end) =
      let one = fork_adds_little scope t left_ right_ end in
      let two = all_additions_by_weight scope left_ in
      let three = all_additions_by_weight scope right_ in
      omega (arith, one, two, three)
  additions_by_weight scope (tree.repeat_ id post before t body step end) =
      let one = all_additions_by_weight scope before in
      let two = all_additions_by_weight scope body in
      let three = all_additions_by_weight scope step in
      omega (arith, one, two, three)
  additions_by_weight scope (tree.pick t labels body end) = let one = all_additions_by_weight scope body in omega (arith, one)
  additions_by_weight scope tree.break_ = omega arith
  additions_by_weight scope tree.next_ = omega arith
  additions_by_weight scope (tree.leave call) = omega arith
  additions_by_weight scope (tree.land call end) = omega arith
  additions_by_weight scope (tree.mark point) = omega arith

  all_additions_by_weight : (scope : Scope) (ps : PieceTrees) → additions_of scope ps ≤ 580 * piece_weights ps
  all_additions_by_weight scope tree.no_pieces = omega arith
  all_additions_by_weight scope (tree.then_ p ps) = let one = additions_by_weight scope p in let two = all_additions_by_weight scope ps in omega (arith, one, two)

-- ---- light pieces

pub counted_few : CountedOperationsAreFew
counted_few scope pieces light =
    let one = all_by_weight scope false pieces in
    let two = all_additions_by_weight scope pieces in
    omega (arith, light, one, two)
