-- Pieces whose jumps lead somewhere: each break and continue stands in a loop or switch that it leaves, and each return that leaves a call before the end of that call.
use Rattle.std.specs.Prelude.{◌≡◌, ℕ, ◌+◌, Bool, true, false, List, ◌∷◌, if◌then◌else◌}
use Rattle.pieces.specs.declared.piece.Label.{Label}
use Rattle.pieces.specs.Trees as tree
use Rattle.pieces.specs.Trees.{PieceTree, PieceTrees}
use Rattle.passes.specs.Lowering.{is_named}
use Rattle.ir_layout.specs.WellFormed.{Inside, has_number, in_test, in_body, in_step, in_arm}

-- the ends of calls among pieces, before those that stand further behind
abbrev pub ends_in : PieceTrees → List ℕ → List ℕ
ends_in tree.no_pieces lands = lands
ends_in (tree.then_ (tree.land call end) rest) lands = call.0 ∷ ends_in rest lands
ends_in (tree.then_ piece rest) lands = ends_in rest lands

-- those up to the next piece that a label names
abbrev pub ends_before_arm : List Label → ℕ → PieceTrees → List ℕ → List ℕ
ends_before_arm labels i tree.no_pieces lands = lands
ends_before_arm labels i (tree.then_ (tree.land call end) rest) lands = if is_named labels i then lands else (call.0 ∷ ends_before_arm labels (i + 1) rest lands)
ends_before_arm labels i (tree.then_ piece rest) lands = if is_named labels i then lands else ends_before_arm labels (i + 1) rest lands

abbrev pub with_ends : List ℕ → Inside → Inside
with_ends lands inside = record inside { lands = lands }

-- a loop whose body comes first has no step
abbrev pub StepIsThere : Bool → PieceTrees → Type 0
StepIsThere true step = step ≡ tree.no_pieces
StepIsThere false step = Unit {0}

abbrev mutual
  pub PieceFits : Inside → PieceTree → Type 0
  PieceFits inside tree.break_ = inside.leave ≡ true
  PieceFits inside tree.next_ = inside.again ≡ true
  PieceFits inside (tree.leave call) = has_number inside.lands call.0 ≡ true
  PieceFits inside (tree.fork test yes_ no_ end) = PiecesFit inside yes_ × PiecesFit inside no_
  PieceFits inside (tree.repeat_ id post before test body step end) =
      PiecesFit in_test before × PiecesFit (in_body inside) body × PiecesFit (in_step inside) step × StepIsThere post step
  PieceFits inside (tree.pick test labels body end) = ArmPiecesFit labels 0 (in_arm inside) body
  PieceFits inside piece = Unit {0}

  -- A return may leave to the end of a call that stands behind it.
  pub PiecesFit : Inside → PieceTrees → Type 0
  PiecesFit inside tree.no_pieces = Unit {0}
  PiecesFit inside (tree.then_ piece rest) = PieceFits (with_ends (ends_in rest inside.lands) inside) piece × PiecesFit inside rest

  -- in a switch, from this piece on: not to one in another arm
  pub ArmPiecesFit : List Label → ℕ → Inside → PieceTrees → Type 0
  ArmPiecesFit labels i inside tree.no_pieces = Unit {0}
  ArmPiecesFit labels i inside (tree.then_ piece rest) = PieceFits (with_ends (ends_before_arm labels (i + 1) rest inside.lands) inside) piece × ArmPiecesFit labels (i + 1) inside rest
