-- Lowered pieces: at most 4 nodes for each unit of their weight, and one for each place where they are gone on with behind a call that was left.
use Rattle.std.proofs.Common.{◌≤◌, ℕ, ◌+◌, Bool, true, false, arith, List}
use Rattle.std.specs.Prelude.{if◌then◌else◌}
use Rattle.hls_base.specs.declared.point.Point.{Point}
use Rattle.pieces.specs.declared.piece.Label.{Label}
use Rattle.pieces.specs.Trees as tree
use Rattle.pieces.specs.Trees.{PieceTree, PieceTrees}
use Rattle.pieces.specs.Weight.{weight}
use Rattle.ir_core.specs.Trees.{BlockTree, break_, continue_, leave, SequenceTree, ArmTrees, more_arms}
use Rattle.passes.specs.Lowering.Shapes.{is_eligible, point_of, first_point, or_at}
use Rattle.passes.specs.Lowering.Blocks.{Scope, begun, is_live, with_exit, set, put, ends_by_test, ends_by_fork, ends_by_cases}
use Rattle.passes.specs.Lowering.{Rest, last, land_of, own_step, is_named, lowered, lowered_piece, before_arm, arms}
use Rattle.ir_layout.specs.Sizes.{sequence_size, arms_size}
use Rattle.program_sizes.specs.LoweredNodes.{LoweredNodesAreFew}
use Rattle.program_sizes.proofs.LoweredNodes.Within.{piece_room, room, Adds, last_adds, followed_adds, side_nodes, round_nodes, loop_nodes, parts_of_nodes}
use Rattle.program_sizes.proofs.LoweredNodes.Arms.{one_if, labels_ahead, one_ahead, ahead_at_most}

-- ---- arms

-- what pieces from this number on add up to the next one that a label names
abbrev room_before : List Label → ℕ → PieceTrees → ℕ
room_before labels i tree.no_pieces = 0
room_before labels i (tree.then_ p ps) = if is_named labels i then 0 else room_before labels (i + 1) ps + piece_room p

more_or_last : (named : Bool) (s : SequenceTree) (b : BlockTree) (n : ℕ) → sequence_size s ≤ 1 + n → sequence_size (if named then last b else s) ≤ 1 + (if named then 0 else n)
more_or_last true s b n h = omega arith
more_or_last false s b n h = h

arm_nodes : (named : Bool) (arm : SequenceTree) (rest : ArmTrees) (count all n m k : ℕ) → one_if named + count ≤ all → sequence_size arm ≤ 1 + (n + m) → arms_size rest + n ≤ count + k
    → arms_size (if named then more_arms arm rest else rest) + (if named then 0 else n + m) ≤ all + (m + k)
arm_nodes true arm rest count all n m k fits h g = omega (arith, fits, h, g)
arm_nodes false arm rest count all n m k fits h g = omega (arith, fits, g)

-- ---- pieces

mutual
  lowered_adds : (scope : Scope) (ps : PieceTrees) (rest : Rest) (n : ℕ) → Adds rest n → Adds (λ b. lowered scope ps rest b) (n + room ps)
  lowered_adds scope tree.no_pieces rest n h b = let e = h b in omega (arith, e)
  lowered_adds scope (tree.then_ p ps) rest n h b = let e = piece_adds scope p (λ b1. lowered scope ps rest b1) (n + room ps) (lowered_adds scope ps rest n h) b in omega (arith, e)

  piece_adds : (scope : Scope) (p : PieceTree) (rest : Rest) (n : ℕ) → Adds rest n → Adds (λ b. lowered_piece scope p rest b) (n + piece_room p)
  piece_adds scope (tree.set v t) rest n h b = let e = h (if is_live b then set scope v t b else b) in omega (arith, e)
  piece_adds scope (tree.put array ts t at) rest n h b = let e = h (if is_live b then put scope array ts t at b else b) in omega (arith, e)
  piece_adds scope (tree.fork test left_ right_ end) rest n h b =
      let one = side_nodes (λ b1. lowered scope left_ last b1) (0 + room left_) (lowered_adds scope left_ last 0 last_adds) (first_point left_) in
      let two = side_nodes (λ b1. lowered scope right_ last b1) (0 + room right_) (lowered_adds scope right_ last 0 last_adds) (first_point right_) in
      followed_adds (ends_by_fork scope test left_ right_ b) _ _ n (piece_room (tree.fork test left_ right_ end)) (h (begun end)) (omega (arith, one, two))
  piece_adds scope (tree.repeat_ id post before test body step end) rest n h b =
      let start = begun (or_at end (first_point body)) in
      let first = lowered_adds scope before (λ b1. last (ends_by_test test b1)) 0 (λ b1. omega arith) (begun (or_at end (first_point before))) in
      let round = round_nodes (λ r. lowered scope body r start) (room body) (λ r x g. lowered_adds scope body r x g start) (λ b1. lowered scope step last b1) (0 + room step) (lowered_adds scope step last 0 last_adds)
      (own_step body (first_point step)) in
      let all = loop_nodes scope post _ _ _ (is_eligible post before (weight test) body step) (0 + room before) (room body + (0 + room step)) first round in
      followed_adds b _ _ n (piece_room (tree.repeat_ id post before test body step end)) (h (begun end)) (omega (arith, all))
  piece_adds scope (tree.pick test labels body end) rest n h b =
      let dead = before_arm scope labels 0 body (record (begun end) { exit = break_ }) in
      let one = before_adds scope labels 0 body (record (begun end) { exit = break_ }) in
      let two = arms_add scope labels 0 body end in
      let few = ahead_at_most labels 0 in
      let behind = parts_of_nodes dead in
      followed_adds (ends_by_cases test labels b) _ _ n (piece_room (tree.pick test labels body end)) (h (begun end)) (omega (arith, one, two, few, behind))
  piece_adds scope tree.break_ rest n h b = let e = h (with_exit break_ b) in omega (arith, e)
  piece_adds scope tree.next_ rest n h b = let e = h (with_exit continue_ b) in omega (arith, e)
  piece_adds scope (tree.leave call) rest n h b = let e = h (with_exit (leave (land_of call)) b) in omega (arith, e)
  piece_adds scope (tree.land call end) rest n h b = followed_adds b _ _ n (piece_room (tree.land call end)) (h (begun end)) (omega arith)
  piece_adds scope (tree.mark point) rest n h b = let e = h b in omega (arith, e)

  before_adds : (scope : Scope) (labels : List Label) (i : ℕ) (ps : PieceTrees) → Adds (λ b. before_arm scope labels i ps b) (room_before labels i ps)
  before_adds scope labels i tree.no_pieces b = last_adds b
  before_adds scope labels i (tree.then_ p ps) b =
      more_or_last (is_named labels i) _ b (room_before labels (i + 1) ps + piece_room p) (piece_adds scope p (λ b1. before_arm scope labels (i + 1) ps b1) (room_before labels (i + 1) ps) (before_adds scope labels (i + 1) ps) b)

  arms_add : (scope : Scope) (labels : List Label) (i : ℕ) (ps : PieceTrees) (end : Point) → arms_size (arms scope labels i ps end) + room_before labels i ps ≤ labels_ahead labels i + room ps
  arms_add scope labels i tree.no_pieces end = omega arith
  arms_add scope labels i (tree.then_ p ps) end =
      let arm = piece_adds scope p (λ b1. before_arm scope labels (i + 1) ps b1) (room_before labels (i + 1) ps) (before_adds scope labels (i + 1) ps) (begun (or_at end (point_of p))) in
      let e = arm_nodes (is_named labels i) _ _ (labels_ahead labels (i + 1)) (labels_ahead labels i) (room_before labels (i + 1) ps) (piece_room p) (room ps) (one_ahead labels i) arm (arms_add scope labels (i + 1) ps end) in
      omega (arith, e)

pub lowered_nodes : LoweredNodesAreFew
lowered_nodes scope pieces point = let e = lowered_adds scope pieces last 0 last_adds (begun point) in omega (arith, e)
