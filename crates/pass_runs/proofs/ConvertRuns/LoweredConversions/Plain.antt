-- Lowered pieces do not end by a test or by cases.
use Rattle.std.proofs.Common.{◌≡◌, ℕ, ◌+◌, Bool, true, false, refl, List, Option, Some, None}
use Rattle.std.specs.Prelude.{if◌then◌else◌}
use Rattle.hls_base.specs.declared.point.Point.{Point}
use Rattle.hls_base.specs.declared.number.VarId.{VarId}
use Rattle.pieces.specs.declared.piece.Label.{Label}
use Rattle.pieces.specs.Trees as tree
use Rattle.pieces.specs.Trees.{PureTree, PieceTree, PieceTrees}
use Rattle.ir_core.specs.Trees.{ExitTree, break_, continue_, leave, BlockTree, SequenceTree, sequence, PartTrees, no_part, more_parts, ShapeTree}
use Rattle.passes.specs.Lowering.Blocks.{Scope, begun, is_live, with_exit, set, put}
use Rattle.passes.specs.Lowering.Copies.{copied_parts, fixed_behind, fixed_behind_shape}
use Rattle.passes.specs.Lowering.{Rest, last, followed, land_of, stepped, is_named, with_copies, lowered, lowered_piece, before_arm}
use Rattle.pass_runs.specs.ConvertRuns.Typed.{leads_on, ends_plain, EndsPlain}

abbrev pub IsPlain : BlockTree → Type 0
IsPlain b = leads_on b.exit ≡ true

-- what becomes of an open block
abbrev pub RestPlain : Rest → Type 0
RestPlain rest = (b : BlockTree) → IsPlain b → EndsPlain (rest b)

pub last_plain : RestPlain last
last_plain b h = h

followed_plain : (b : BlockTree) (shape : ShapeTree) (s : SequenceTree) → EndsPlain s → EndsPlain (followed b shape s)
followed_plain b shape (sequence first rest) h = h

pub stepped_plain : (step : Rest) (point : Option Point) → RestPlain step → RestPlain (stepped step point)
stepped_plain step None h b g = h b g
stepped_plain step (Some point) h b g = g

plain_if : (c : Bool) (x y : BlockTree) → IsPlain x → IsPlain y → IsPlain (if c then x else y)
plain_if true x y h k = h
plain_if false x y h k = k

exit_plain : (e : ExitTree) (b : BlockTree) → leads_on e ≡ true → IsPlain b → IsPlain (with_exit e b)
exit_plain e b h k = plain_if (is_live b) (record b { exit = e }) b h k

module _ (scope : Scope) where
  mutual
    pub pieces_plain : (pieces : PieceTrees) (rest : Rest) (b : BlockTree) → RestPlain rest → IsPlain b → EndsPlain (lowered scope pieces rest b)
    pieces_plain tree.no_pieces rest b r h = r b h
    pieces_plain (tree.then_ piece pieces) rest b r h = piece_plain piece (λ b1. lowered scope pieces rest b1) b (λ b1 h1. pieces_plain pieces rest b1 r h1) h

    pub piece_plain : (piece : PieceTree) (rest : Rest) (b : BlockTree) → RestPlain rest → IsPlain b → EndsPlain (lowered_piece scope piece rest b)
    piece_plain (tree.set v x) rest b r h = r (if is_live b then set scope v x b else b) (plain_if (is_live b) (set scope v x b) b h h)
    piece_plain (tree.put a s x at) rest b r h = r (if is_live b then put scope a s x at b else b) (plain_if (is_live b) (put scope a s x at b) b h h)
    piece_plain (tree.fork test left right end) rest b r h = followed_plain _ _ (rest (begun end)) (r (begun end) refl)
    piece_plain (tree.repeat_ id post before test body step end) rest b r h = followed_plain _ _ (rest (begun end)) (r (begun end) refl)
    piece_plain (tree.pick test labels body end) rest b r h = followed_plain _ _ (rest (begun end)) (r (begun end) refl)
    piece_plain tree.break_ rest b r h = r (with_exit break_ b) (exit_plain break_ b refl h)
    piece_plain tree.next_ rest b r h = r (with_exit continue_ b) (exit_plain continue_ b refl h)
    piece_plain (tree.leave call) rest b r h = r (with_exit (leave (land_of call)) b) (exit_plain (leave (land_of call)) b refl h)
    piece_plain (tree.land call end) rest b r h = followed_plain _ _ (rest (begun end)) (r (begun end) refl)
    piece_plain (tree.mark point) rest b r h = r b h

  pub before_plain : (labels : List Label) (i : ℕ) (pieces : PieceTrees) (b : BlockTree) → IsPlain b → EndsPlain (before_arm scope labels i pieces b)
  before_plain labels i tree.no_pieces b h = h
  before_plain labels i (tree.then_ piece pieces) b h =
      either (is_named labels i) (piece_plain piece (λ b1. before_arm scope labels (i + 1) pieces b1) b (λ b1 h1. before_plain labels (i + 1) pieces b1 h1) h)
    where
      either : (c : Bool) → EndsPlain (lowered_piece scope piece (λ b1. before_arm scope labels (i + 1) pieces b1) b) → EndsPlain (if c then last b else lowered_piece scope piece (λ b1. before_arm scope labels (i + 1) pieces b1) b)
      either true g = h
      either false g = g

  parts_plain : (variables : VarId → Bool) (exit : ExitTree) (ps : PartTrees) → ends_plain exit ps ≡ true → ends_plain exit (copied_parts scope variables ps) ≡ true
  parts_plain variables exit no_part h = h
  parts_plain variables exit (more_parts shape after rest) h = parts_plain (fixed_behind rest (fixed_behind_shape shape variables) after) after.exit rest h

  pub copies_plain : (c : Bool) (s : SequenceTree) → EndsPlain s → EndsPlain (with_copies c scope s)
  copies_plain false s h = h
  copies_plain true (sequence first rest) h = parts_plain (fixed_behind rest (λ v. false) first) first.exit rest h
