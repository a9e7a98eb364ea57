-- What suits, by names.
use Rattle.std.specs.Prelude.{ℕ, Bool, List, Option}
use Rattle.hls_base.specs.declared.point.Point.{Point}
use Rattle.pieces.specs.Trees.{PieceTree, PieceTrees}
use Rattle.c_meaning.specs.PieceRuns.Pieces.{Frame}
use Rattle.pass_runs.specs.LowerRuns.Suiting.{AreApart, ArmBy, StepBy, AloneBy, SidesBy, PieceSuits, BeginSuits, PiecesSuit}

module _ (f : Frame) (kept : Point → Bool) where
  abbrev pub AloneSuits : List ℕ → (ℕ → Bool) → PieceTrees → PieceTrees → Type 0
  AloneSuits lands hidden own other = AloneBy f lands hidden (λ l h. BeginSuits f kept l h own) own other

  abbrev pub SidesSuit : List ℕ → (ℕ → Bool) → Option Point → Option Point → PieceTrees → PieceTrees → Type 0
  SidesSuit lands hidden o1 o2 yes_ no_ = SidesBy o1 o2 (BeginSuits f kept lands hidden yes_) (BeginSuits f kept lands hidden no_) (AloneSuits lands hidden yes_ no_) (AloneSuits lands hidden no_ yes_)

  abbrev pub StepSuits : List ℕ → (ℕ → Bool) → Bool → PieceTrees → Type 0
  StepSuits lands hidden continues step = StepBy continues step (BeginSuits f kept lands hidden step) (PiecesSuit f kept lands hidden hidden step × AreApart lands step)

  abbrev pub ArmSuits : Bool → List ℕ → (ℕ → Bool) → PieceTree → Type 0
  ArmSuits named lands hidden piece = ArmBy kept named piece (PieceSuits f kept lands hidden piece)
