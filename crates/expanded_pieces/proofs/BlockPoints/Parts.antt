-- Pieces whose loops, and arms of switches, begin at marks.
use Rattle.std.specs.Prelude.{ℕ, ◌+◌, Bool, true, false, List, [], Option, Some, None}
use Rattle.hls_base.specs.declared.point.Point.{Point}
use Rattle.pieces.specs.declared.piece.Label.{Label}
use Rattle.pieces.specs.Trees as tree
use Rattle.pieces.specs.Trees.{PureTree, PieceTree, PieceTrees}
use Rattle.c_meaning.specs.PieceRuns.Pieces.{Frame}
use Rattle.passes.specs.Lowering.Shapes.{any_continues, first_point}
use Rattle.passes.specs.Lowering.{is_named}
use Rattle.pass_runs.specs.LowerRuns.LoweredTrees.Fitting.{ends_in, ends_before_arm}
use Rattle.pass_runs.specs.LowerRuns.Suiting.{with_hidden, hidden_behind, ArmBy, StepBy, AloneBy, SidesBy, PieceSuits, BeginSuits, PiecesSuit, ArmsSuit, AreApart, IsKeptMark}

abbrev pub IsMark : PieceTree → Type 0
IsMark (tree.mark point) = Unit {0}
IsMark piece = ⊥

abbrev pub IsHeaded : PieceTrees → Type 0
IsHeaded tree.no_pieces = ⊥
IsHeaded (tree.then_ first rest) = IsMark first

abbrev pub IsMarkIf : Bool → PieceTree → Type 0
IsMarkIf true piece = IsMark piece
IsMarkIf false piece = Unit {0}

abbrev mutual
  pub PartsBegin : PieceTrees → Type 0
  PartsBegin tree.no_pieces = Unit {0}
  PartsBegin (tree.then_ first rest) = PartBegins first × PartsBegin rest

  pub PartBegins : PieceTree → Type 0
  PartBegins (tree.fork test left right end) = PartsBegin left × PartsBegin right
  PartBegins (tree.repeat_ id post before test body step end) = IsHeaded before × IsHeaded body × PartsBegin before × PartsBegin body × PartsBegin step
  PartBegins (tree.pick test labels body end) = ArmsBegin labels 0 body
  PartBegins piece = Unit {0}

  -- from the piece with this number on
  pub ArmsBegin : List Label → ℕ → PieceTrees → Type 0
  ArmsBegin labels i tree.no_pieces = Unit {0}
  ArmsBegin labels i (tree.then_ first rest) = IsMarkIf (is_named labels i) first × PartBegins first × ArmsBegin labels (i + 1) rest

-- ---- pieces that suit

kept_mark : (kept : Point → Bool) (piece : PieceTree) → IsKeptMark kept piece → IsMark piece × PartBegins piece
kept_mark kept (tree.mark point) h = (tt, tt)
kept_mark kept (tree.set name value) h = absurd h
kept_mark kept (tree.put array subscripts value at) h = absurd h
kept_mark kept (tree.fork test left right end) h = absurd h
kept_mark kept (tree.repeat_ id post before test body step end) h = absurd h
kept_mark kept (tree.pick test labels body end) h = absurd h
kept_mark kept tree.break_ h = absurd h
kept_mark kept tree.next_ h = absurd h
kept_mark kept (tree.leave call) h = absurd h
kept_mark kept (tree.land call end) h = absurd h

arm_begins : (kept : Point → Bool) (named : Bool) (piece : PieceTree) (suits : Type 0) → (suits → PartBegins piece) → ArmBy kept named piece suits → IsMarkIf named piece × PartBegins piece
arm_begins kept true piece suits f h = kept_mark kept piece h
arm_begins kept false piece suits f h = (tt, f h)

module _ (f : Frame) (kept : Point → Bool) where
  alone_begins : (lands : List ℕ) (hidden : ℕ → Bool) (own other : PieceTrees) → ((l : List ℕ) (h : ℕ → Bool) → BeginSuits f kept l h own → PartsBegin own) → AloneBy f lands hidden (λ l h. BeginSuits f kept l h own) own other → PartsBegin own × PartsBegin other
  alone_begins lands hidden own tree.no_pieces g h = (g lands hidden h, tt)
  alone_begins lands hidden own (tree.then_ (tree.set name (tree.number word k)) tree.no_pieces) g h = (g [] (with_hidden hidden name.0) h.2, (tt, tt))
  alone_begins lands hidden own other g h = absurd h

  sides_begin : (lands : List ℕ) (hidden : ℕ → Bool) (left right : PieceTrees) (p q : Option Point) → ((l : List ℕ) (h : ℕ → Bool) → BeginSuits f kept l h left → PartsBegin left) → ((l : List ℕ) (h : ℕ → Bool) → BeginSuits f kept l h right → PartsBegin right)
      → SidesBy p q (BeginSuits f kept lands hidden left) (BeginSuits f kept lands hidden right) (AloneBy f lands hidden (λ l h. BeginSuits f kept l h left) left right) (AloneBy f lands hidden (λ l h. BeginSuits f kept l h right) right left)
      → PartsBegin left × PartsBegin right
  sides_begin lands hidden left right (Some p) (Some q) g k h = (g lands hidden h.0, k lands hidden h.1)
  sides_begin lands hidden left right (Some p) None g k h = alone_begins lands hidden left right g h
  sides_begin lands hidden left right None (Some q) g k h = let both = alone_begins lands hidden right left k h in (both.1, both.0)
  sides_begin lands hidden left right None None g k h = absurd h

  step_begins : (lands : List ℕ) (hidden : ℕ → Bool) (continues : Bool) (step : PieceTrees) → (BeginSuits f kept lands hidden step → PartsBegin step) → (PiecesSuit f kept lands hidden hidden step → PartsBegin step)
      → StepBy continues step (BeginSuits f kept lands hidden step) (PiecesSuit f kept lands hidden hidden step × AreApart lands step) → PartsBegin step
  step_begins lands hidden true tree.no_pieces g k h = tt
  step_begins lands hidden true (tree.then_ first rest) g k h = g h
  step_begins lands hidden false step g k h = k h.0

  headed : (lands : List ℕ) (hidden : ℕ → Bool) (pieces : PieceTrees) → BeginSuits f kept lands hidden pieces → IsHeaded pieces
  headed lands hidden tree.no_pieces h = absurd h
  headed lands hidden (tree.then_ (tree.mark point) rest) h = tt
  headed lands hidden other h = absurd h

  mutual
    pub begin_suits : (lands : List ℕ) (hidden : ℕ → Bool) (pieces : PieceTrees) → BeginSuits f kept lands hidden pieces → PartsBegin pieces
    begin_suits lands hidden tree.no_pieces h = absurd h
    begin_suits lands hidden (tree.then_ (tree.mark point) rest) h = (tt, pieces_suit lands hidden hidden rest h.1)
    begin_suits lands hidden other h = absurd h

    pieces_suit : (lands : List ℕ) (outside hidden : ℕ → Bool) (pieces : PieceTrees) → PiecesSuit f kept lands outside hidden pieces → PartsBegin pieces
    pieces_suit lands outside hidden tree.no_pieces h = tt
    pieces_suit lands outside hidden (tree.then_ first rest) h = (piece_suits (ends_in rest lands) hidden first h.0, pieces_suit lands outside (hidden_behind outside hidden first) rest h.1)

    piece_suits : (lands : List ℕ) (hidden : ℕ → Bool) (piece : PieceTree) → PieceSuits f kept lands hidden piece → PartBegins piece
    piece_suits lands hidden (tree.fork test left right end) h = sides_begin lands hidden left right (first_point left) (first_point right) (λ l g s. begin_suits l g left s) (λ l g s. begin_suits l g right s) h.2
    piece_suits lands hidden (tree.repeat_ id post before test body step end) h = (
      headed [] hidden before h.2,
      headed lands hidden body h.3,
      begin_suits [] hidden before h.2,
      begin_suits lands hidden body h.3,
      step_begins lands hidden (any_continues body) step (λ s. begin_suits lands hidden step s) (λ s. pieces_suit lands hidden hidden step s) h.4,
    )
    piece_suits lands hidden (tree.pick test labels body end) h = arms_suit labels 0 lands hidden body h.3
    piece_suits lands hidden (tree.set name value) h = tt
    piece_suits lands hidden (tree.put array subscripts value at) h = tt
    piece_suits lands hidden tree.break_ h = tt
    piece_suits lands hidden tree.next_ h = tt
    piece_suits lands hidden (tree.leave call) h = tt
    piece_suits lands hidden (tree.land call end) h = tt
    piece_suits lands hidden (tree.mark point) h = tt

    arms_suit : (labels : List Label) (i : ℕ) (lands : List ℕ) (hidden : ℕ → Bool) (pieces : PieceTrees) → ArmsSuit f kept labels i lands hidden pieces → ArmsBegin labels i pieces
    arms_suit labels i lands hidden tree.no_pieces h = tt
    arms_suit labels i lands hidden (tree.then_ first rest) h =
        let own = arm_begins kept (is_named labels i) first (PieceSuits f kept (ends_before_arm labels (i + 1) rest lands) hidden first) (λ s. piece_suits (ends_before_arm labels (i + 1) rest lands) hidden first s) h.0 in
        (own.0, own.1, arms_suit labels (i + 1) lands hidden rest h.2)
