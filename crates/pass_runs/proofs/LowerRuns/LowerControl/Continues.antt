-- Pieces without a continue, and pieces behind which no call ends.
use Rattle.std.proofs.Common.{◌≡◌, ◌∙◌, ℕ, ◌+◌, Bool, true, false, ◌||◌, ◌&&◌, refl, ap, sym, subst, inl, inr, List, if◌then◌else◌}
use Rattle.std.specs.Prelude.{◌==◌}
use Rattle.std.proofs.lemmas.Bool.{false≢true}
use Rattle.std.proofs.lemmas.Bool.Decides.{eqb_tells}
use Rattle.pieces.specs.declared.piece.CallId.{CallId}
use Rattle.pieces.specs.declared.piece.Label.{Label}
use Rattle.pieces.specs.Trees as tree
use Rattle.pieces.specs.Trees.{PieceTree, PieceTrees}
use Rattle.ir_core.specs.Bodies.{Shapes, Words}
use Rattle.ir_core.specs.Trees.{BlockTree, land}
use Rattle.ir_core.specs.TreeRuns.{left, parts_run, block_then}
use Rattle.hls_base.specs.Steps.{goes}
use Rattle.passes.specs.Lowering.Shapes.{is_straight, are_straight, continues, any_continues}
use Rattle.passes.specs.Lowering.Blocks.{Scope, begun}
use Rattle.passes.specs.Lowering.{last, land_of, lowered}
use Rattle.ir_layout.specs.WellFormed.{Inside, has_number, in_arm}
use Rattle.pass_runs.specs.LowerRuns.LoweredTrees.Fitting.{PieceFits, PiecesFit, ArmPiecesFit}
use Rattle.pass_runs.specs.LowerRuns.Suiting.{AreApart}
use Rattle.pass_runs.proofs.LowerRuns.LowerControl.Rests.{first_of, rest_of}
use Rattle.pass_runs.proofs.LowerRuns.LowerControl.Rests.{last_rest, lowered_rest, piece_away, followed_rest, IsNoEnd}

abbrev pub never_again : Inside → Inside
never_again inside = record inside { again = false }

or_left : (a b : Bool) → (a || b) ≡ false → a ≡ false
or_left true b e = e
or_left false b e = refl

or_right : (a b : Bool) → (a || b) ≡ false → b ≡ false
or_right true b e = absurd (false≢true (sym e))
or_right false b e = e

pub and_left : (a b : Bool) → (a && b) ≡ true → a ≡ true
and_left true b e = refl
and_left false b e = e

pub and_right : (a b : Bool) → (a && b) ≡ true → b ≡ true
and_right true b e = e
and_right false b e = absurd (false≢true e)

mutual
  piece_never : (piece : PieceTree) (inside : Inside) → continues piece ≡ false → PieceFits inside piece → PieceFits (never_again inside) piece
  piece_never (tree.set name value) inside e h = tt
  piece_never (tree.put array subscripts value at) inside e h = tt
  piece_never (tree.fork test yes_ no_ end) inside e h =
      (pieces_never yes_ inside (or_left (any_continues yes_) (any_continues no_) e) h.0, pieces_never no_ inside (or_right (any_continues yes_) (any_continues no_) e) h.1)
  piece_never (tree.repeat_ id post before test body step end) inside e h = h
  piece_never (tree.pick test labels body end) inside e h = arms_never body labels 0 (in_arm inside) e h
  piece_never tree.break_ inside e h = h
  piece_never tree.next_ inside e h = absurd (false≢true (sym e))
  piece_never (tree.leave call) inside e h = h
  piece_never (tree.land call end) inside e h = tt
  piece_never (tree.mark point) inside e h = tt

  pub pieces_never : (pieces : PieceTrees) (inside : Inside) → any_continues pieces ≡ false → PiecesFit inside pieces → PiecesFit (never_again inside) pieces
  pieces_never tree.no_pieces inside e h = tt
  pieces_never (tree.then_ piece rest) inside e h = (piece_never piece _ (or_left (continues piece) (any_continues rest) e) h.0, pieces_never rest inside (or_right (continues piece) (any_continues rest) e) h.1)

  arms_never : (pieces : PieceTrees) (labels : List Label) (i : ℕ) (inside : Inside) → any_continues pieces ≡ false → ArmPiecesFit labels i inside pieces → ArmPiecesFit labels i (never_again inside) pieces
  arms_never tree.no_pieces labels i inside e h = tt
  arms_never (tree.then_ piece rest) labels i inside e h =
      (piece_never piece _ (or_left (continues piece) (any_continues rest) e) h.0, arms_never rest labels (i + 1) inside (or_right (continues piece) (any_continues rest) e) h.1)

-- ---- straight pieces

both_false : (a b : Bool) → a ≡ false → b ≡ false → (a || b) ≡ false
both_false true b e h = e
both_false false b e h = h

mutual
  straight_piece : (piece : PieceTree) → is_straight piece ≡ true → continues piece ≡ false
  straight_piece (tree.set name value) e = refl
  straight_piece (tree.put array subscripts value at) e = refl
  straight_piece (tree.fork test yes_ no_ end) e =
      let h = and_right _ (are_straight yes_ && are_straight no_) e in
      both_false (any_continues yes_) (any_continues no_) (pieces_straight yes_ (and_left (are_straight yes_) (are_straight no_) h)) (pieces_straight no_ (and_right (are_straight yes_) (are_straight no_) h))
  straight_piece (tree.repeat_ id post before test body step end) e = refl
  straight_piece (tree.pick test labels body end) e = absurd (false≢true e)
  straight_piece tree.break_ e = refl
  straight_piece tree.next_ e = absurd (false≢true e)
  straight_piece (tree.leave call) e = refl
  straight_piece (tree.land call end) e = refl
  straight_piece (tree.mark point) e = refl

  pieces_straight : (pieces : PieceTrees) → are_straight pieces ≡ true → any_continues pieces ≡ false
  pieces_straight tree.no_pieces e = refl
  pieces_straight (tree.then_ piece rest) e =
      both_false (continues piece) (any_continues rest) (straight_piece piece (and_left (is_straight piece) (are_straight rest) e)) (pieces_straight rest (and_right (is_straight piece) (are_straight rest) e))

pub straight_never : (pieces : PieceTrees) → are_straight pieces ≡ true → any_continues pieces ≡ false
straight_never = pieces_straight

-- ---- pieces in which no such call ends

pub number_apart : (lands : List ℕ) (call other : CallId) → has_number lands call.0 ≡ true → has_number lands other.0 ≡ false → (call.0 == other.0) ≡ false
number_apart lands call other h g = elim (eqb_tells call.0 other.0) [
  | inl e ↦ absurd (false≢true (sym g ∙ subst (λ n. has_number lands n ≡ true) e.1 h))
  | inr e ↦ e.0
]

module _ (shapes : Shapes) (scope : Scope) (lands : List ℕ) (call : CallId) (there : has_number lands call.0 ≡ true) where
  skipped : (piece : PieceTree) (rest : PieceTrees) → IsNoEnd piece → (b : BlockTree) (w : Words) (k : ℕ)
      → parts_run shapes (rest_of (lowered scope (tree.then_ piece rest) last b)) (left (land_of call)) w k ≡ parts_run shapes (rest_of (lowered scope rest last b)) (left (land_of call)) w k
  skipped piece rest no_end b w k = piece_away shapes scope piece (λ b1. lowered scope rest last b1) (lowered_rest shapes scope rest last (last_rest shapes)) no_end b b (land_of call) w k

  -- a return to one of these leads behind the pieces
  pub passed_by : (pieces : PieceTrees) → AreApart lands pieces → (b : BlockTree) (w : Words) (k : ℕ) → parts_run shapes (rest_of (lowered scope pieces last b)) (left (land_of call)) w k ≡ goes (left (land_of call)) w k
  passed_by tree.no_pieces h b w k = refl
  passed_by (tree.then_ (tree.land other end) rest) h b w k =
      let q = lowered scope rest last (begun end) in
      let there_is = block_then shapes (first_of q) (λ w2 t2 n2. parts_run shapes (rest_of q) w2 t2 n2) w k in
      ap (λ x. parts_run shapes x (left (land_of call)) w k) (followed_rest shapes b (land (land_of other)) q)
      ∙ ap (λ (c : Bool). if c then there_is else parts_run shapes (rest_of q) (left (land_of call)) w k) (number_apart lands call other there h.0)
      ∙ passed_by rest h.1 (begun end) w k
  passed_by (tree.then_ (tree.set name value) rest) h b w k = skipped (tree.set name value) rest tt b w k ∙ passed_by rest h.1 b w k
  passed_by (tree.then_ (tree.put array subscripts value at) rest) h b w k = skipped (tree.put array subscripts value at) rest tt b w k ∙ passed_by rest h.1 b w k
  passed_by (tree.then_ (tree.fork test yes_ no_ end) rest) h b w k = skipped (tree.fork test yes_ no_ end) rest tt b w k ∙ passed_by rest h.1 b w k
  passed_by (tree.then_ (tree.repeat_ id post before test body step end) rest) h b w k = skipped (tree.repeat_ id post before test body step end) rest tt b w k ∙ passed_by rest h.1 b w k
  passed_by (tree.then_ (tree.pick test labels body end) rest) h b w k = skipped (tree.pick test labels body end) rest tt b w k ∙ passed_by rest h.1 b w k
  passed_by (tree.then_ tree.break_ rest) h b w k = skipped tree.break_ rest tt b w k ∙ passed_by rest h.1 b w k
  passed_by (tree.then_ tree.next_ rest) h b w k = skipped tree.next_ rest tt b w k ∙ passed_by rest h.1 b w k
  passed_by (tree.then_ (tree.leave other) rest) h b w k = skipped (tree.leave other) rest tt b w k ∙ passed_by rest h.1 b w k
  passed_by (tree.then_ (tree.mark point) rest) h b w k = skipped (tree.mark point) rest tt b w k ∙ passed_by rest h.1 b w k
