-- Pieces that fit lowering: their expressions have the types of what they name and read no variable that is hidden, and blocks begin where they have points that are kept.
use Rattle.std.specs.Prelude.{◌≡◌, ◌<◌, ℕ, ◌+◌, ◌==◌, Bool, true, false, List, [], ◌∷◌, Option, Some, None, if◌then◌else◌}
use Rattle.hls_base.specs.declared.point.Point.{Point}
use Rattle.pieces.specs.declared.piece.Label.{Label}
use Rattle.pieces.specs.Trees as tree
use Rattle.pieces.specs.Trees.{PieceTree, PieceTrees}
use Rattle.c_meaning.specs.PieceRuns.Pieces.{Frame}
use Rattle.passes.specs.Lowering.Shapes.{any_continues, first_point}
use Rattle.passes.specs.Lowering.{is_named, piece_count}
use Rattle.pass_runs.specs.LowerRuns.Suits.{Suits, EachSuits}
use Rattle.pass_runs.specs.LowerRuns.Showing.{without_number}
use Rattle.ir_layout.specs.WellFormed.{Inside, has_number}
use Rattle.pass_runs.specs.LowerRuns.Holding.{IsThere}
use Rattle.pass_runs.specs.LowerRuns.LoweredTrees.Fitting.{ends_in, ends_before_arm, PiecesFit}

-- nothing jumps out of pieces that fit in here
abbrev pub shut : Inside
shut = record { leave = false; again = false; lands = [] }

-- ---- hidden variables

abbrev pub with_hidden : (ℕ → Bool) → ℕ → ℕ → Bool
with_hidden hidden v i = if v == i then true else hidden i

-- those behind a piece among pieces before which those of `outside` were hidden: a variable that is set is not, and to the end of a call a return may lead from anywhere before it
abbrev pub hidden_behind : (ℕ → Bool) → (ℕ → Bool) → PieceTree → ℕ → Bool
hidden_behind outside hidden (tree.set name value) i = without_number hidden name.0 i
hidden_behind outside hidden (tree.land call end) i = outside i
hidden_behind outside hidden piece i = hidden i

abbrev pub hidden_at_end : (ℕ → Bool) → (ℕ → Bool) → PieceTrees → ℕ → Bool
hidden_at_end outside hidden tree.no_pieces i = hidden i
hidden_at_end outside hidden (tree.then_ piece rest) i = hidden_at_end outside (hidden_behind outside hidden piece) rest i

-- ---- labels

-- each label names a piece
abbrev pub TargetsThere : ℕ → List Label → Type 0
TargetsThere pieces [] = Unit {0}
TargetsThere pieces (l ∷ ls) = (l.target < pieces) × TargetsThere pieces ls

-- the end of a call is not one of these
abbrev pub IsApart : List ℕ → PieceTree → Type 0
IsApart lands (tree.land call end) = has_number lands call.0 ≡ false
IsApart lands piece = Unit {0}

abbrev pub AreApart : List ℕ → PieceTrees → Type 0
AreApart lands tree.no_pieces = Unit {0}
AreApart lands (tree.then_ piece rest) = IsApart lands piece × AreApart lands rest

-- ---- pieces

-- a mark at which a block begins
abbrev pub IsKeptMark : (Point → Bool) → PieceTree → Type 0
IsKeptMark kept (tree.mark point) = kept point ≡ true
IsKeptMark kept piece = ⊥

-- An arm of a switch begins at a mark; any other piece suits.
abbrev pub ArmBy : (Point → Bool) → Bool → PieceTree → Type 0 → Type 0
ArmBy kept true piece suits = IsKeptMark kept piece
ArmBy kept false piece suits = suits

-- The step of a loop with a continue begins at a point, if there is one; any other goes on in the last block of the body.
abbrev pub StepBy : Bool → PieceTrees → Type 0 → Type 0 → Type 0
StepBy true tree.no_pieces begins goes_on = Unit {0}
StepBy true (tree.then_ first rest) begins goes_on = begins
StepBy false step begins goes_on = goes_on

-- A branch without a point is empty, or sets one variable to a number. It is set before the fork, so the other branch does not read it before it sets it too, which it has done where it ends; and nothing jumps out of that branch.
abbrev pub AloneBy : Frame → List ℕ → (ℕ → Bool) → (List ℕ → (ℕ → Bool) → Type 0) → PieceTrees → PieceTrees → Type 0
AloneBy f lands hidden begins own tree.no_pieces = begins lands hidden
AloneBy f lands hidden begins own (tree.then_ (tree.set name (tree.number word k)) tree.no_pieces) =
    IsThere f name × Suits f hidden (tree.number word k) × begins [] (with_hidden hidden name.0) × PiecesFit shut own × (hidden_at_end (with_hidden hidden name.0) (with_hidden hidden name.0) own name.0 ≡ false)
AloneBy f lands hidden begins own other = ⊥

-- of two branches at least one begins at a point
abbrev pub SidesBy : Option Point → Option Point → Type 0 → Type 0 → Type 0 → Type 0 → Type 0
SidesBy (Some p) (Some q) yes_ no_ yes_alone no_alone = yes_ × no_
SidesBy (Some p) None yes_ no_ yes_alone no_alone = yes_alone
SidesBy None (Some q) yes_ no_ yes_alone no_alone = no_alone
SidesBy None None yes_ no_ yes_alone no_alone = ⊥

module _ (f : Frame) (kept : Point → Bool) where
  -- Blocks begin at the marks at which branches, tests, bodies, steps and arms begin, and behind forks, loops, switches and calls with returns: these points are kept, and all other marks are dropped.
  abbrev mutual
    pub PieceSuits : List ℕ → (ℕ → Bool) → PieceTree → Type 0
    PieceSuits lands hidden (tree.set name value) = IsThere f name × Suits f hidden value
    PieceSuits lands hidden (tree.put array subscripts value at) = EachSuits f hidden subscripts × Suits f hidden value
    PieceSuits lands hidden (tree.fork test yes_ no_ end) =
        Suits f hidden test × (kept end ≡ true)
        × SidesBy (first_point yes_) (first_point no_) (BeginSuits lands hidden yes_) (BeginSuits lands hidden no_) (AloneBy f lands hidden (λ l h. BeginSuits l h yes_) yes_ no_) (AloneBy f lands hidden (λ l h. BeginSuits l h no_) no_ yes_)
    PieceSuits lands hidden (tree.repeat_ id post before test body step end) =
        Suits f hidden test × (kept end ≡ true) × BeginSuits [] hidden before × BeginSuits lands hidden body
        × StepBy (any_continues body) step (BeginSuits lands hidden step) (PiecesSuit lands hidden hidden step × AreApart lands step)
    PieceSuits lands hidden (tree.pick test labels body end) = Suits f hidden test × (kept end ≡ true) × TargetsThere (piece_count body) labels × ArmsSuit labels 0 lands hidden body
    PieceSuits lands hidden (tree.land call end) = kept end ≡ true
    PieceSuits lands hidden (tree.mark point) = kept point ≡ false
    PieceSuits lands hidden piece = Unit {0}

    -- pieces that begin a block
    pub BeginSuits : List ℕ → (ℕ → Bool) → PieceTrees → Type 0
    BeginSuits lands hidden (tree.then_ (tree.mark point) rest) = (kept point ≡ true) × PiecesSuit lands hidden hidden rest
    BeginSuits lands hidden others = ⊥

    -- Behind these pieces calls end at these places, before them the variables of `outside` are hidden.
    pub PiecesSuit : List ℕ → (ℕ → Bool) → (ℕ → Bool) → PieceTrees → Type 0
    PiecesSuit lands outside hidden tree.no_pieces = Unit {0}
    PiecesSuit lands outside hidden (tree.then_ piece rest) = PieceSuits (ends_in rest lands) hidden piece × PiecesSuit lands outside (hidden_behind outside hidden piece) rest

    -- in a switch, from this piece on: no call ends in it to whose end a return may lead outside
    pub ArmsSuit : List Label → ℕ → List ℕ → (ℕ → Bool) → PieceTrees → Type 0
    ArmsSuit labels i lands hidden tree.no_pieces = Unit {0}
    ArmsSuit labels i lands hidden (tree.then_ piece rest) =
        ArmBy kept (is_named labels i) piece (PieceSuits (ends_before_arm labels (i + 1) rest lands) hidden piece) × IsApart lands piece × ArmsSuit labels (i + 1) lands hidden rest
