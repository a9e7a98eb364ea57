-- Lowered pieces: what comes of an open block is no more than the block has and the pieces count that are added to it.
use Rattle.std.proofs.Common.{◌≡◌, ◌≤◌, ℕ, ◌+◌, Bool, true, false, not, ◌&&◌, refl, arith, List, length, Option, Some, None}
use Rattle.std.specs.Prelude.{nat_le, if◌then◌else◌}
use Rattle.std.proofs.lemmas.Bool.{and_parts}
use Rattle.hls_base.specs.declared.point.Point.{Point}
use Rattle.hls_base.specs.declared.number.LoopId.{LoopId}
use Rattle.pieces.specs.declared.piece.Label.{Label}
use Rattle.pieces.specs.Trees as tree
use Rattle.pieces.specs.Trees.{PureTree, PieceTree, PieceTrees}
use Rattle.pieces.specs.Shape.{are_marks}
use Rattle.pieces.specs.Weight.{weight, piece_weights}
use Rattle.ir_core.specs.Trees.{ExitTree, break_, continue_, leave, BlockTree, SequenceTree, sequence, ShapeTree, fork, loop, switch, land, SideTree, ArmTrees, more_arms}
use Rattle.passes.specs.Lowering.Shapes.{is_straight, are_straight, is_eligible, point_of, first_point, or_at}
use Rattle.passes.specs.Lowering.Blocks.{Scope, variable_type, element_type, begun, is_live, with_exit, set, put, ends_by_test, ends_by_fork, ends_by_cases}
use Rattle.passes.specs.Lowering.{Rest, last, followed, parts_of, land_of, side_from, with_copies, own_step, stepped, is_named, lowered, lowered_piece, before_arm, arms}
use Rattle.passes.specs.Totals.{operations, settings, sequence_total, shape_total, side_total, arms_total}
use Rattle.passes.specs.OperationCount.Expressions.{as_condition, as_assigned, count, subscript_count}
use Rattle.passes.specs.OperationCount.Pieces.{piece_operations, operations_of, piece_sets, sets_of, piece_additions, additions_of}
use Rattle.passes.specs.OperationCount.Forks.{merging_adds, sequence_additions, shape_additions, side_additions, arms_additions}
use Rattle.program_sizes.specs.CountedOperations.{IsCounted}
use Rattle.program_sizes.proofs.CountedOperations.Blocks.{Grows, stays, where_live, without_point, set_grows, put_grows, test_grows, fork_grows, cases_grows}
use Rattle.program_sizes.proofs.CountedOperations.Copies.{copied_operations, copied_settings, copied_additions}

-- ---- what is counted

-- operations, variables that are set, and operations that the conversion of forks adds
record Amount : Type 0 where
  operations : ℕ
  settings : ℕ
  additions : ℕ

abbrev nothing : Amount
nothing = record { operations = 0; settings = 0; additions = 0 }

abbrev together : Amount → Amount → Amount
together n m = record { operations = n.operations + m.operations; settings = n.settings + m.settings; additions = n.additions + m.additions }

abbrev of_piece : Scope → PieceTree → Amount
of_piece scope p = record { operations = piece_operations scope false p; settings = piece_sets p; additions = piece_additions scope p }

abbrev of_pieces : Scope → PieceTrees → Amount
of_pieces scope ps = record { operations = operations_of scope false ps; settings = sets_of ps; additions = additions_of scope ps }

abbrev of_test : PureTree → Amount
of_test t = record { operations = count t + as_condition t; settings = 0; additions = 0 }

abbrev of_arms : ArmTrees → Amount
of_arms a = record { operations = arms_total operations a; settings = arms_total settings a; additions = arms_additions a }

-- ---- sequences

-- What comes of a block, and this beside it, is no more than the block and what is counted.
record IsWithin (s : SequenceTree) (b : BlockTree) (beside n : Amount) : Type 0 where
  operations : sequence_total operations s + beside.operations ≤ length b.ops + n.operations
  settings : sequence_total settings s + beside.settings ≤ length b.outs + n.settings
  additions : sequence_additions s + beside.additions ≤ n.additions

-- what follows an open block adds so much to it
abbrev Adds : Rest → Amount → Amount → Type 0
Adds rest beside n = (b : BlockTree) → IsWithin (rest b) b beside n

record IsAtMost (n m : Amount) : Type 0 where
  operations : n.operations ≤ m.operations
  settings : n.settings ≤ m.settings
  additions : n.additions ≤ m.additions

wider : (s : SequenceTree) (b : BlockTree) (beside n m : Amount) → IsAtMost n m → IsWithin s b beside n → IsWithin s b beside m
wider s b beside n m more h =
    let one = h.operations in
    let two = h.settings in
    let three = h.additions in
    let four = more.operations in
    let five = more.settings in
    let six = more.additions in
    record { operations = omega (arith, one, four); settings = omega (arith, two, five); additions = omega (arith, three, six) }

-- the block has grown by a piece
grown : (s : SequenceTree) (b c : BlockTree) (beside n k : Amount) (x y : ℕ) → Grows b c x y → x ≤ k.operations → y ≤ k.settings → IsWithin s c beside n → IsWithin s b beside (together n k)
grown s b c beside n k x y grows few_operations few_settings h =
    let one = h.operations in
    let two = h.settings in
    let three = h.additions in
    let four = grows.operations in
    let five = grows.settings in
    record { operations = omega (arith, one, four, few_operations); settings = omega (arith, two, five, few_settings); additions = omega (arith, three) }

last_adds : (beside : Amount) → Adds last beside beside
last_adds beside b = record { operations = omega arith; settings = omega arith; additions = omega arith }

test_adds : (t : PureTree) → Adds (λ b. last (ends_by_test t b)) nothing (of_test t)
test_adds t b = let h = test_grows t b in let one = h.operations in let two = h.settings in record { operations = omega (arith, one); settings = omega (arith, two); additions = omega arith }

-- ---- what stands behind a block

-- what is added to the end of a block, with the shape behind it
record IsWorth (before after : BlockTree) (shape : ShapeTree) (n : Amount) : Type 0 where
  operations : length after.ops + shape_total operations shape ≤ length before.ops + n.operations
  settings : length after.outs + shape_total settings shape ≤ length before.outs + n.settings
  additions : shape_additions shape ≤ n.additions

followed_within : (b c : BlockTree) (shape : ShapeTree) (s : SequenceTree) (point : Point) (beside n k : Amount) → IsWithin s (begun point) beside n → IsWorth b c shape k
    → IsWithin (followed c shape s) b beside (together n k)
followed_within b c shape (sequence first rest) point beside n k h worth =
    let one = h.operations in
    let two = h.settings in
    let three = h.additions in
    let four = worth.operations in
    let five = worth.settings in
    let six = worth.additions in
    record { operations = omega (arith, one, four); settings = omega (arith, two, five); additions = omega (arith, three, six) }

-- ---- forks

-- a side, or what is set before the fork in its place
record IsSide (scope : Scope) (ps : PieceTrees) (point : Option Point) (blocks : SideTree) : Type 0 where
  operations : without_point point (operations_of scope false ps) + side_total operations blocks ≤ operations_of scope false ps
  settings : without_point point (sets_of ps) + side_total settings blocks ≤ sets_of ps
  additions : side_additions blocks ≤ additions_of scope ps

side_within : (scope : Scope) (ps : PieceTrees) (f : Rest) → Adds f nothing (together nothing (of_pieces scope ps)) → (point : Option Point) → IsSide scope ps point (side_from f point)
side_within scope ps f h None = record { operations = omega arith; settings = omega arith; additions = omega arith }
side_within scope ps f h (Some point) =
    let s = h (begun point) in
    let one = s.operations in
    let two = s.settings in
    let three = s.additions in
    record { operations = omega (arith, one); settings = omega (arith, two); additions = omega (arith, three) }

converted_adds : (live straight : Bool) (n m : ℕ) → n ≤ m → (if live && straight then n else 0) ≤ (if straight then m else 0)
converted_adds true true n m h = h
converted_adds true false n m h = omega arith
converted_adds false straight n m h = omega arith

fork_worth : (scope : Scope) (t : PureTree) (left_ right_ : PieceTrees) (end : Point) (b : BlockTree) (yes_ no_ : SideTree) → IsSide scope left_ (first_point left_) yes_ → IsSide scope right_ (first_point right_) no_
    → IsWorth b (ends_by_fork scope t left_ right_ b) (fork yes_ no_ (is_live b && is_straight (tree.fork t left_ right_ end))) (of_piece scope (tree.fork t left_ right_ end))
fork_worth scope t left_ right_ end b yes_ no_ y z =
    let grows = fork_grows scope t left_ right_ b in
    let one = grows.operations in
    let two = grows.settings in
    let three = y.operations in
    let four = y.settings in
    let five = y.additions in
    let six = z.operations in
    let seven = z.settings in
    let eight = z.additions in
    let whole = tree.fork t left_ right_ end in
    let converting = converted_adds (is_live b) (is_straight whole) (merging_adds yes_ no_) (piece_operations scope false whole + piece_sets whole + 4) (omega (arith, three, four, six, seven)) in
    record { operations = omega (arith, one, three, six); settings = omega (arith, two, four, seven); additions = omega (arith, converting, five, eight) }

-- ---- loops

mutual
  straight_piece : (scope : Scope) (p : PieceTree) → is_straight p ≡ true → piece_operations scope true p ≡ piece_operations scope false p + piece_sets p
  straight_piece scope (tree.set v t) h = omega arith
  straight_piece scope (tree.put array ts t at) h = omega arith
  straight_piece scope (tree.fork t left_ right_ end) h =
      let both = (and_parts (nat_le (1 + weight t + piece_weights left_ + piece_weights right_) 64) (are_straight left_ && are_straight right_) h).1 in
      let each = and_parts (are_straight left_) (are_straight right_) both in
      let one = straight_pieces scope left_ each.0 in
      let two = straight_pieces scope right_ each.1 in
      omega (arith, one, two)
  straight_piece scope (tree.repeat_ id post before t body step end) h = absurd cc
  straight_piece scope (tree.pick t labels body end) h = absurd cc
  straight_piece scope tree.break_ h = refl
  straight_piece scope tree.next_ h = refl
  straight_piece scope (tree.leave call) h = refl
  straight_piece scope (tree.land call end) h = refl
  straight_piece scope (tree.mark point) h = refl

  -- In straight pieces each assignment counts one more where copies may be needed.
  straight_pieces : (scope : Scope) (ps : PieceTrees) → are_straight ps ≡ true → operations_of scope true ps ≡ operations_of scope false ps + sets_of ps
  straight_pieces scope tree.no_pieces h = refl
  straight_pieces scope (tree.then_ p ps) h =
      let each = and_parts (is_straight p) (are_straight ps) h in
      let one = straight_piece scope p each.0 in
      let two = straight_pieces scope ps each.1 in
      omega (arith, one, two)

eligible_straight : (post : Bool) (before : PieceTrees) (test : ℕ) (body step : PieceTrees) → is_eligible post before test body step ≡ true → (are_straight body ≡ true) × (are_straight step ≡ true)
eligible_straight post before test body step h =
    let light = nat_le (test + piece_weights body + piece_weights step) 256 in
    let straight = are_straight body && are_straight step in
    let one = (and_parts (not post) (are_marks before && (light && straight)) h).1 in
    let two = (and_parts (are_marks before) (light && straight) one).1 in
    and_parts (are_straight body) (are_straight step) (and_parts light straight two).1

-- the body of a loop and its step together
record IsRound (scope : Scope) (ps qs : PieceTrees) (body : SequenceTree) (step : SideTree) : Type 0 where
  operations : sequence_total operations body + side_total operations step ≤ operations_of scope false ps + operations_of scope false qs
  settings : sequence_total settings body + side_total settings step ≤ sets_of ps + sets_of qs
  additions : sequence_additions body + side_additions step ≤ additions_of scope ps + additions_of scope qs

-- The step goes on in the last block of the body, or has blocks of its own.
round_within : (scope : Scope) (ps qs : PieceTrees) (round : Rest → SequenceTree) (start : Point)
    → ((rest : Rest) (n : Amount) → Adds rest nothing n → IsWithin (round rest) (begun start) nothing (together n (of_pieces scope ps)))
    → (step : Rest) → Adds step nothing (together nothing (of_pieces scope qs)) → (own : Option Point) → IsRound scope ps qs (round (λ b. stepped step own b)) (side_from step own)
round_within scope ps qs round start h step g None =
    let s = h (λ b. stepped step None b) (together nothing (of_pieces scope qs)) g in
    let one = s.operations in
    let two = s.settings in
    let three = s.additions in
    record { operations = omega (arith, one); settings = omega (arith, two); additions = omega (arith, three) }
round_within scope ps qs round start h step g (Some point) =
    let s = h (λ b. stepped step (Some point) b) nothing (last_adds nothing) in
    let r = g (begun point) in
    let one = s.operations in
    let two = s.settings in
    let three = s.additions in
    let four = r.operations in
    let five = r.settings in
    let six = r.additions in
    record { operations = omega (arith, one, four); settings = omega (arith, two, five); additions = omega (arith, three, six) }

-- the same with the copies of a loop whose iterations may overlap
record IsCopiedRound (scope : Scope) (overlaps : Bool) (ps qs : PieceTrees) (body : SequenceTree) (step : SideTree) : Type 0 where
  operations : sequence_total operations body + side_total operations step ≤ operations_of scope overlaps ps + operations_of scope overlaps qs
  settings : sequence_total settings body + side_total settings step ≤ sets_of ps + sets_of qs
  additions : sequence_additions body + side_additions step ≤ additions_of scope ps + additions_of scope qs

round_copied : (scope : Scope) (ps qs : PieceTrees) (body : SequenceTree) (step : SideTree) (eligible : Bool) → (eligible ≡ true → (are_straight ps ≡ true) × (are_straight qs ≡ true)) → IsRound scope ps qs body step
    → IsCopiedRound scope eligible ps qs (with_copies eligible scope body) step
round_copied scope ps qs body step true straight h =
    let one = straight_pieces scope ps (straight refl).0 in
    let two = straight_pieces scope qs (straight refl).1 in
    let three = copied_operations scope body in
    let four = copied_settings scope body in
    let five = copied_additions scope body in
    let six = h.operations in
    let seven = h.settings in
    let eight = h.additions in
    record { operations = omega (arith, one, two, three, six, seven); settings = omega (arith, four, seven); additions = omega (arith, five, eight) }
round_copied scope ps qs body step false straight h = record { operations = h.operations; settings = h.settings; additions = h.additions }

loop_worth : (scope : Scope) (id : LoopId) (post : Bool) (before : PieceTrees) (t : PureTree) (ps qs : PieceTrees) (end start : Point) (b : BlockTree) (test body : SequenceTree) (step : SideTree)
    → IsWithin test (begun start) nothing (together (of_test t) (of_pieces scope before)) → IsRound scope ps qs body step
    → IsWorth b b (loop post test (with_copies (is_eligible post before (weight t) ps qs) scope body) step (is_eligible post before (weight t) ps qs)) (of_piece scope (tree.repeat_ id post before t ps qs end))
loop_worth scope id post before t ps qs end start b test body step first round =
    let copies = round_copied scope ps qs body step (is_eligible post before (weight t) ps qs) (eligible_straight post before (weight t) ps qs) round in
    let one = first.operations in
    let two = first.settings in
    let three = first.additions in
    let four = copies.operations in
    let five = copies.settings in
    let six = copies.additions in
    record { operations = omega (arith, one, four); settings = omega (arith, two, five); additions = omega (arith, three, six) }

-- ---- switches

switch_worth : (scope : Scope) (t : PureTree) (labels : List Label) (body : PieceTrees) (end : Point) (b start : BlockTree) (dead : SequenceTree) (targets : List ℕ) (other : Option ℕ) (all : ArmTrees)
    → Grows (begun end) start 0 0 → IsWithin dead start (of_arms all) (of_pieces scope body)
    → IsWorth b (ends_by_cases t labels b) (switch (parts_of dead) targets other all) (of_piece scope (tree.pick t labels body end))
switch_worth scope t labels body end b start (sequence first rest) targets other all empty h =
    let grows = cases_grows t labels b in
    let one = grows.operations in
    let two = grows.settings in
    let three = empty.operations in
    let four = empty.settings in
    let five = h.operations in
    let six = h.settings in
    let seven = h.additions in
    record { operations = omega (arith, one, three, five); settings = omega (arith, two, four, six); additions = omega (arith, seven) }

-- an arm begins at a piece, or goes on with it
arm_within : (named : Bool) (s arm : SequenceTree) (rest : ArmTrees) (b : BlockTree) (point : Point) (n : Amount) → IsWithin s b (of_arms rest) n → IsWithin arm (begun point) (of_arms rest) n
    → IsWithin (if named then last b else s) b (of_arms (if named then more_arms arm rest else rest)) n
arm_within true s arm rest b point n h g =
    let one = g.operations in
    let two = g.settings in
    let three = g.additions in
    record { operations = omega (arith, one); settings = omega (arith, two); additions = omega (arith, three) }
arm_within false s arm rest b point n h g = h

-- a piece and those behind it
from_next : (scope : Scope) (p : PieceTree) (ps : PieceTrees) (rest : Rest) (beside : Amount) (b : BlockTree) → IsWithin (lowered_piece scope p rest b) b beside (together (of_pieces scope ps) (of_piece scope p))
    → IsWithin (lowered_piece scope p rest b) b beside (of_pieces scope (tree.then_ p ps))
from_next scope p ps rest beside b h =
    wider (lowered_piece scope p rest b) b beside (together (of_pieces scope ps) (of_piece scope p)) (of_pieces scope (tree.then_ p ps)) (record { operations = omega arith; settings = omega arith; additions = omega arith }) h

-- an exit, which is no operation
left_adds : (scope : Scope) (p : PieceTree) (rest : Rest) (beside n : Amount) (exit : ExitTree) → Adds rest beside n → (b : BlockTree) → IsWithin (rest (with_exit exit b)) b beside (together n (of_piece scope p))
left_adds scope p rest beside n exit h b =
    let c = with_exit exit b in
    grown (rest c) b c beside n (of_piece scope p) 0 0 (where_live b (record b { exit = exit }) 0 0 (is_live b) (record { operations = omega arith; settings = omega arith })) (omega arith) (omega arith) (h c)

-- ---- pieces

mutual
  lowered_adds : (scope : Scope) (ps : PieceTrees) (rest : Rest) (beside n : Amount) → Adds rest beside n → Adds (λ b. lowered scope ps rest b) beside (together n (of_pieces scope ps))
  lowered_adds scope tree.no_pieces rest beside n h b =
      wider (rest b) b beside n (together n (of_pieces scope tree.no_pieces)) (record { operations = omega arith; settings = omega arith; additions = omega arith }) (h b)
  lowered_adds scope (tree.then_ p ps) rest beside n h b =
      wider (lowered_piece scope p (λ b1. lowered scope ps rest b1) b) b beside (together (together n (of_pieces scope ps)) (of_piece scope p)) (together n (of_pieces scope (tree.then_ p ps)))
      (record { operations = omega arith; settings = omega arith; additions = omega arith })
      (piece_adds scope p (λ b1. lowered scope ps rest b1) beside (together n (of_pieces scope ps)) (lowered_adds scope ps rest beside n h) b)

  piece_adds : (scope : Scope) (p : PieceTree) (rest : Rest) (beside n : Amount) → Adds rest beside n → Adds (λ b. lowered_piece scope p rest b) beside (together n (of_piece scope p))
  piece_adds scope (tree.set v t) rest beside n h b =
      let c = if is_live b then set scope v t b else b in
      grown (rest c) b c beside n (of_piece scope (tree.set v t)) (count t + as_assigned t (variable_type scope v)) 1 (where_live b (set scope v t b) _ 1 (is_live b) (set_grows scope v t b)) (omega arith) (omega arith) (h c)
  piece_adds scope (tree.put array ts t at) rest beside n h b =
      let c = if is_live b then put scope array ts t at b else b in
      grown (rest c) b c beside n (of_piece scope (tree.put array ts t at)) (1 + subscript_count ts + count t + as_assigned t (element_type scope array)) 0
      (where_live b (put scope array ts t at b) _ 0 (is_live b) (put_grows scope array ts t at b)) (omega arith) (omega arith) (h c)
  piece_adds scope (tree.fork t left_ right_ end) rest beside n h b =
      followed_within b (ends_by_fork scope t left_ right_ b) _ (rest (begun end)) end beside n (of_piece scope (tree.fork t left_ right_ end)) (h (begun end)) (
      fork_worth scope t left_ right_ end b _ _
      (side_within scope left_ (λ b1. lowered scope left_ last b1) (lowered_adds scope left_ last nothing nothing (last_adds nothing)) (first_point left_))
      (side_within scope right_ (λ b1. lowered scope right_ last b1) (lowered_adds scope right_ last nothing nothing (last_adds nothing)) (first_point right_)))
  piece_adds scope (tree.repeat_ id post before t body step end) rest beside n h b =
      let start = or_at end (first_point before) in
      let again = or_at end (first_point body) in
      let first = lowered_adds scope before (λ b1. last (ends_by_test t b1)) nothing (of_test t) (test_adds t) (begun start) in
      let round = round_within scope body step (λ r. lowered scope body r (begun again)) again (λ r m g. lowered_adds scope body r nothing m g (begun again))
      (λ b1. lowered scope step last b1) (lowered_adds scope step last nothing nothing (last_adds nothing)) (own_step body (first_point step)) in
      followed_within b b _ (rest (begun end)) end beside n (of_piece scope (tree.repeat_ id post before t body step end)) (h (begun end))
      (loop_worth scope id post before t body step end start b _ _ _ first round)
  piece_adds scope (tree.pick t labels body end) rest beside n h b =
      let start = record (begun end) { exit = break_ } in
      let dead = before_adds scope labels 0 body end start in
      followed_within b (ends_by_cases t labels b) _ (rest (begun end)) end beside n (of_piece scope (tree.pick t labels body end)) (h (begun end))
      (switch_worth scope t labels body end b start _ _ _ _ (record { operations = omega arith; settings = omega arith }) dead)
  piece_adds scope tree.break_ rest beside n h b = left_adds scope tree.break_ rest beside n break_ h b
  piece_adds scope tree.next_ rest beside n h b = left_adds scope tree.next_ rest beside n continue_ h b
  piece_adds scope (tree.leave call) rest beside n h b = left_adds scope (tree.leave call) rest beside n (leave (land_of call)) h b
  piece_adds scope (tree.land call end) rest beside n h b =
      followed_within b b (land (land_of call)) (rest (begun end)) end beside n (of_piece scope (tree.land call end)) (h (begun end)) (record { operations = omega arith; settings = omega arith; additions = omega arith })
  piece_adds scope (tree.mark point) rest beside n h b = grown (rest b) b b beside n (of_piece scope (tree.mark point)) 0 0 (stays b) (omega arith) (omega arith) (h b)

  before_adds : (scope : Scope) (labels : List Label) (i : ℕ) (ps : PieceTrees) (end : Point) (b : BlockTree) → IsWithin (before_arm scope labels i ps b) b (of_arms (arms scope labels i ps end)) (of_pieces scope ps)
  before_adds scope labels i tree.no_pieces end b = last_adds nothing b
  before_adds scope labels i (tree.then_ p ps) end b =
      let point = or_at end (point_of p) in
      let more = of_arms (arms scope labels (i + 1) ps end) in
      arm_within (is_named labels i) (lowered_piece scope p (λ b1. before_arm scope labels (i + 1) ps b1) b) (lowered_piece scope p (λ b1. before_arm scope labels (i + 1) ps b1) (begun point)) (arms scope labels (i + 1) ps end)
      b point (of_pieces scope (tree.then_ p ps))
      (from_next scope p ps (λ b1. before_arm scope labels (i + 1) ps b1) more b (piece_adds scope p (λ b1. before_arm scope labels (i + 1) ps b1) more (of_pieces scope ps) (λ b1. before_adds scope labels (i + 1) ps end b1) b))
      (from_next scope p ps (λ b1. before_arm scope labels (i + 1) ps b1) more (begun point)
      (piece_adds scope p (λ b1. before_arm scope labels (i + 1) ps b1) more (of_pieces scope ps) (λ b1. before_adds scope labels (i + 1) ps end b1) (begun point)))

-- ---- programs

pub lowered_counted : (scope : Scope) (pieces : PieceTrees) (point : Point) → IsCounted scope pieces (lowered scope pieces last (begun point))
lowered_counted scope pieces point =
    let h = lowered_adds scope pieces last nothing nothing (last_adds nothing) (begun point) in
    let one = h.operations in
    let two = h.settings in
    let three = h.additions in
    record { operations = omega (arith, one); settings = omega (arith, two); additions = omega (arith, three) }
