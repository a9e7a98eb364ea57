-- Pieces that begin well, and whose expressions have the types of what they name, suit lowering.
use Rattle.std.proofs.Common.{ℕ, ◌+◌, Bool, true, false, List, [], Option, Some, None}
use Rattle.hls_base.specs.declared.point.Point.{Point}
use Rattle.pieces.specs.declared.piece.Label.{Label}
use Rattle.pieces.specs.Trees as tree
use Rattle.pieces.specs.Trees.{PureTree, PureTrees, PieceTree, PieceTrees}
use Rattle.c_meaning.specs.PieceRuns.Pieces.{Frame}
use Rattle.passes.specs.Lowering.Shapes.{any_continues, first_point}
use Rattle.passes.specs.Lowering.{is_named}
use Rattle.pass_runs.specs.LowerRuns.LoweredTrees.Fitting.{ends_in, ends_before_arm}
use Rattle.pass_runs.specs.LowerRuns.Suits.{Suits, EachSuits}
use Rattle.pass_runs.specs.LowerRuns.Holding.{IsThere, none_hidden}
use Rattle.pass_runs.specs.LowerRuns.Suiting.{hidden_behind, with_hidden, AreApart, ArmBy, StepBy, AloneBy, SidesBy, PieceSuits, BeginSuits, PiecesSuit, ArmsSuit}
use Rattle.expanded_pieces.specs.BegunPieces.Reads.{ReadsNone, EachReadsNone}
use Rattle.expanded_pieces.specs.BegunPieces.Beginning.{AloneBegins, IsBegun, BeginsWell, AreBegun, ArmsAreBegun}
use Rattle.expanded_pieces.specs.BegunPieces.Typed.{EachFine, IsMade, AreMade}
use Rattle.expanded_pieces.specs.BegunPieces.{TypedPiecesSuit}

module _ (f : Frame) (hidden : ℕ → Bool) where
  mutual
    -- an expression whose types are right suits where it reads nothing hidden
    pub pure_suits : (x : PureTree) → Suits f none_hidden x → ReadsNone hidden x → Suits f hidden x
    pure_suits (tree.number v k) t r = t
    pure_suits (tree.variable name k) t r = (t.0, t.1, r)
    pure_suits (tree.element array subscripts k at) t r = (t.0, t.1, pures_suit subscripts t.2 r)
    pure_suits (tree.unary op arg k at) t r = (t.0, t.1, pure_suits arg t.2 r)
    pure_suits (tree.binary op left right k at) t r = (t.0, t.1, pure_suits left t.2 r.0, pure_suits right t.3 r.1)
    pure_suits (tree.choice test left right k) t r = (t.0, pure_suits test t.1 r.0, pure_suits left t.2 r.1, pure_suits right t.3 r.2)
    pure_suits (tree.cast to arg) t r = (t.0, pure_suits arg t.1 r)

    pub pures_suit : (xs : PureTrees) → EachSuits f none_hidden xs → EachReadsNone hidden xs → EachSuits f hidden xs
    pures_suit tree.none t r = tt
    pures_suit (tree.more x xs) t r = (pure_suits x t.0 r.0, pures_suit xs t.1 r.1)

  each_suits : (xs : PureTrees) → EachFine (Suits f none_hidden) (IsThere f) xs → EachReadsNone hidden xs → EachSuits f hidden xs
  each_suits tree.none t r = tt
  each_suits (tree.more x xs) t r = (pure_suits x t.0 r.0, each_suits xs t.1 r.1)

sides_as : (o1 o2 : Option Point) (A B C D A1 B1 C1 D1 : Type 0) → (A → A1) → (B → B1) → (C → C1) → (D → D1) → SidesBy o1 o2 A B C D → SidesBy o1 o2 A1 B1 C1 D1
sides_as (Some p) (Some q) A B C D A1 B1 C1 D1 a b c d h = (a h.0, b h.1)
sides_as (Some p) None A B C D A1 B1 C1 D1 a b c d h = c h
sides_as None (Some q) A B C D A1 B1 C1 D1 a b c d h = d h
sides_as None None A B C D A1 B1 C1 D1 a b c d h = h

step_as : (continues : Bool) (step : PieceTrees) (A B A1 B1 : Type 0) → (A → A1) → (B → B1) → StepBy continues step A B → StepBy continues step A1 B1
step_as true tree.no_pieces A B A1 B1 a b h = tt
step_as true (tree.then_ first rest) A B A1 B1 a b h = a h
step_as false step A B A1 B1 a b h = b h

arm_as : (kept : Point → Bool) (named : Bool) (piece : PieceTree) (A A1 : Type 0) → (A → A1) → ArmBy kept named piece A → ArmBy kept named piece A1
arm_as kept true piece A A1 a h = h
arm_as kept false piece A A1 a h = a h

module _ (f : Frame) (kept : Point → Bool) where
  abbrev Typed : PieceTree → Type 0
  Typed = IsMade (Suits f none_hidden) (IsThere f)

  abbrev AllTyped : PieceTrees → Type 0
  AllTyped = AreMade (Suits f none_hidden) (IsThere f)

  alone_suits : (lands : List ℕ) (hidden : ℕ → Bool) (begins begins1 : List ℕ → (ℕ → Bool) → Type 0) → ((l : List ℕ) (h : ℕ → Bool) → begins l h → begins1 l h) → (own other : PieceTrees) → AllTyped other
      → AloneBegins lands hidden begins own other → AloneBy f lands hidden begins1 own other
  alone_suits lands hidden begins begins1 g own tree.no_pieces t h = g lands hidden h
  alone_suits lands hidden begins begins1 g own (tree.then_ (tree.set name (tree.number word k)) tree.no_pieces) t h = (t.0.0, t.0.1, g [] (with_hidden hidden name.0) h.0, h.1, h.2)
  alone_suits lands hidden begins begins1 g own other t h = absurd h

  mutual
    piece_suits : (lands : List ℕ) (hidden : ℕ → Bool) (x : PieceTree) → Typed x → IsBegun kept lands hidden x → PieceSuits f kept lands hidden x
    piece_suits lands hidden (tree.set name v) t b = (t.0, pure_suits f hidden v t.1 b)
    piece_suits lands hidden (tree.put array subscripts v at) t b = (each_suits f hidden subscripts t.0 b.0, pure_suits f hidden v t.1 b.1)
    piece_suits lands hidden (tree.fork test first second end) t b = (
      pure_suits f hidden test t.0 b.0,
      b.1,
      sides_as (first_point first) (first_point second) (BeginsWell kept lands hidden first) (BeginsWell kept lands hidden second) (AloneBegins lands hidden (λ l h. BeginsWell kept l h first) first second) (AloneBegins lands hidden (λ l h. BeginsWell kept l h second) second first)
          (BeginSuits f kept lands hidden first) (BeginSuits f kept lands hidden second) (AloneBy f lands hidden (λ l h. BeginSuits f kept l h first) first second) (AloneBy f lands hidden (λ l h. BeginSuits f kept l h second) second first)
          (λ h. begin_suits lands hidden first t.1 h) (λ h. begin_suits lands hidden second t.2 h)
          (λ h. alone_suits lands hidden (λ l g. BeginsWell kept l g first) (λ l g. BeginSuits f kept l g first) (λ l g q. begin_suits l g first t.1 q) first second t.2 h)
          (λ h. alone_suits lands hidden (λ l g. BeginsWell kept l g second) (λ l g. BeginSuits f kept l g second) (λ l g q. begin_suits l g second t.2 q) second first t.1 h) b.2,
    )
    piece_suits lands hidden (tree.repeat_ id post before test body step end) t b = (
      pure_suits f hidden test t.0 b.0,
      b.1,
      begin_suits [] hidden before t.1 b.2,
      begin_suits lands hidden body t.2 b.3,
      step_as (any_continues body) step (BeginsWell kept lands hidden step) (AreBegun kept lands hidden hidden step × AreApart lands step) (BeginSuits f kept lands hidden step) (PiecesSuit f kept lands hidden hidden step × AreApart lands step)
          (λ h. begin_suits lands hidden step t.3 h) (λ h. (pieces_suit lands hidden hidden step t.3 h.0, h.1)) b.4,
    )
    piece_suits lands hidden (tree.pick test labels body end) t b = (pure_suits f hidden test t.0 b.0, b.1, b.2, arms_suit labels 0 lands hidden body t.1 b.3)
    piece_suits lands hidden (tree.land call end) t b = b
    piece_suits lands hidden (tree.mark point) t b = b
    piece_suits lands hidden x t b = tt

    begin_suits : (lands : List ℕ) (hidden : ℕ → Bool) (xs : PieceTrees) → AllTyped xs → BeginsWell kept lands hidden xs → BeginSuits f kept lands hidden xs
    begin_suits lands hidden (tree.then_ (tree.mark point) rest) t b = (b.0, pieces_suit lands hidden hidden rest t.1 b.1)
    begin_suits lands hidden xs t b = absurd b

    pieces_suit : (lands : List ℕ) (outside hidden : ℕ → Bool) (xs : PieceTrees) → AllTyped xs → AreBegun kept lands outside hidden xs → PiecesSuit f kept lands outside hidden xs
    pieces_suit lands outside hidden tree.no_pieces t b = tt
    pieces_suit lands outside hidden (tree.then_ x rest) t b = (piece_suits (ends_in rest lands) hidden x t.0 b.0, pieces_suit lands outside (hidden_behind outside hidden x) rest t.1 b.1)

    arms_suit : (labels : List Label) (i : ℕ) (lands : List ℕ) (hidden : ℕ → Bool) (xs : PieceTrees) → AllTyped xs → ArmsAreBegun kept labels i lands hidden xs → ArmsSuit f kept labels i lands hidden xs
    arms_suit labels i lands hidden tree.no_pieces t b = tt
    arms_suit labels i lands hidden (tree.then_ x rest) t b = (
      arm_as kept (is_named labels i) x (IsBegun kept (ends_before_arm labels (i + 1) rest lands) hidden x) (PieceSuits f kept (ends_before_arm labels (i + 1) rest lands) hidden x) (λ h. piece_suits (ends_before_arm labels (i + 1) rest lands) hidden x t.0 h) b.0,
      b.1,
      arms_suit labels (i + 1) lands hidden rest t.1 b.2,
    )

  pub typed_suit : (pieces : PieceTrees) → AreMade (Suits f none_hidden) (IsThere f) pieces → BeginsWell kept [] none_hidden pieces → BeginSuits f kept [] none_hidden pieces
  typed_suit pieces t b = begin_suits [] none_hidden pieces t b

pub typed_pieces : TypedPiecesSuit
typed_pieces f kept pieces t b = typed_suit f kept pieces t b
