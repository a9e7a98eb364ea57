-- Pieces whose blocks begin at points that are kept, and whose expressions read no variable that is hidden: what lowering asks of pieces, without the types of their expressions.
use Rattle.std.specs.Prelude.{◌≡◌, ℕ, ◌+◌, Bool, true, false, List, []}
use Rattle.hls_base.specs.declared.point.Point.{Point}
use Rattle.pieces.specs.declared.piece.Label.{Label}
use Rattle.pieces.specs.Trees as tree
use Rattle.pieces.specs.Trees.{PieceTree, PieceTrees}
use Rattle.passes.specs.Lowering.Shapes.{any_continues, first_point}
use Rattle.passes.specs.Lowering.{is_named, piece_count}
use Rattle.pass_runs.specs.LowerRuns.LoweredTrees.Fitting.{ends_in, ends_before_arm, PiecesFit}
use Rattle.pass_runs.specs.LowerRuns.Suiting.{shut, with_hidden, hidden_behind, hidden_at_end, TargetsThere, IsApart, AreApart, ArmBy, StepBy, SidesBy}
use Rattle.expanded_pieces.specs.BegunPieces.Reads.{ReadsNone, EachReadsNone}

-- A branch without a point is empty, or sets one variable to a number; the other branch does not read it before it sets it too, and nothing jumps out of that branch.
abbrev pub AloneBegins : List ℕ → (ℕ → Bool) → (List ℕ → (ℕ → Bool) → Type 0) → PieceTrees → PieceTrees → Type 0
AloneBegins lands hidden begins own tree.no_pieces = begins lands hidden
AloneBegins lands hidden begins own (tree.then_ (tree.set name (tree.number word k)) tree.no_pieces) =
    begins [] (with_hidden hidden name.0) × PiecesFit shut own × (hidden_at_end (with_hidden hidden name.0) (with_hidden hidden name.0) own name.0 ≡ false)
AloneBegins lands hidden begins own other = ⊥

module _ (kept : Point → Bool) where
  abbrev mutual
    pub IsBegun : List ℕ → (ℕ → Bool) → PieceTree → Type 0
    IsBegun lands hidden (tree.set name value) = ReadsNone hidden value
    IsBegun lands hidden (tree.put array subscripts value at) = EachReadsNone hidden subscripts × ReadsNone hidden value
    IsBegun lands hidden (tree.fork test yes_ no_ end) =
        ReadsNone hidden test × (kept end ≡ true)
        × SidesBy (first_point yes_) (first_point no_) (BeginsWell lands hidden yes_) (BeginsWell lands hidden no_)
        (AloneBegins lands hidden (λ l h. BeginsWell l h yes_) yes_ no_) (AloneBegins lands hidden (λ l h. BeginsWell l h no_) no_ yes_)
    IsBegun lands hidden (tree.repeat_ id post before test body step end) =
        ReadsNone hidden test × (kept end ≡ true) × BeginsWell [] hidden before × BeginsWell lands hidden body
        × StepBy (any_continues body) step (BeginsWell lands hidden step) (AreBegun lands hidden hidden step × AreApart lands step)
    IsBegun lands hidden (tree.pick test labels body end) = ReadsNone hidden test × (kept end ≡ true) × TargetsThere (piece_count body) labels × ArmsAreBegun labels 0 lands hidden body
    IsBegun lands hidden (tree.land call end) = kept end ≡ true
    IsBegun lands hidden (tree.mark point) = kept point ≡ false
    IsBegun lands hidden piece = Unit {0}

    -- pieces that begin a block
    pub BeginsWell : List ℕ → (ℕ → Bool) → PieceTrees → Type 0
    BeginsWell lands hidden (tree.then_ (tree.mark point) rest) = (kept point ≡ true) × AreBegun lands hidden hidden rest
    BeginsWell lands hidden others = ⊥

    -- Behind these pieces calls end at these places, before them the variables of `outside` are hidden.
    pub AreBegun : List ℕ → (ℕ → Bool) → (ℕ → Bool) → PieceTrees → Type 0
    AreBegun lands outside hidden tree.no_pieces = Unit {0}
    AreBegun lands outside hidden (tree.then_ piece rest) = IsBegun (ends_in rest lands) hidden piece × AreBegun lands outside (hidden_behind outside hidden piece) rest

    -- in a switch, from this piece on
    pub ArmsAreBegun : List Label → ℕ → List ℕ → (ℕ → Bool) → PieceTrees → Type 0
    ArmsAreBegun labels i lands hidden tree.no_pieces = Unit {0}
    ArmsAreBegun labels i lands hidden (tree.then_ piece rest) =
        ArmBy kept (is_named labels i) piece (IsBegun (ends_before_arm labels (i + 1) rest lands) hidden piece) × IsApart lands piece × ArmsAreBegun labels (i + 1) lands hidden rest
