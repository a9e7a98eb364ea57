-- Trees whose blocks are left as what stands behind them asks.
use Rattle.std.specs.Prelude.{◌≡◌, ℕ, ◌==◌, Bool, true, false, List, [], ◌∷◌, length, if◌then◌else◌}
use Rattle.ir_core.specs.Trees.{ExitTree, next, branch, choose, break_, continue_, leave, SequenceTree, sequence, PartTrees, no_part, more_parts, ShapeTree, fork, loop, switch, land, overlapped, SideTree, no_side, side, ArmTrees, no_arm, more_arms}

-- what stands ahead of the end of a block: one place, or the end of the program; two places and a test; or the arms of a switch with so many cases
pub data Ahead : Type 0 where
  one_way : Ahead
  a_test : Ahead
  a_switch : (cases : ℕ) → Ahead

-- whether a block may leave the loop or switch round it, or go on with the next iteration, and the numbers of the places to which it may leave
pub record Inside : Type 0 where
  pub leave : Bool
  pub again : Bool
  pub lands : List ℕ

abbrev pub has_number : List ℕ → ℕ → Bool
has_number [] number = false
has_number (x ∷ xs) number = if number == x then true else has_number xs number

abbrev pub ExitFits : Inside → Ahead → ExitTree → Type 0
ExitFits inside ahead break_ = inside.leave ≡ true
ExitFits inside ahead continue_ = inside.again ≡ true
ExitFits inside ahead (leave number) = has_number inside.lands number.0 ≡ true
ExitFits inside ahead next = Unit {0}
ExitFits inside a_test (branch test) = Unit {0}
ExitFits inside (a_switch n) (choose cases) = length cases ≡ n
ExitFits inside ahead exit = ⊥

-- what a shape is to the block before it
abbrev pub ahead_of : ShapeTree → Ahead
ahead_of (fork yes_ no_ convertible) = a_test
ahead_of (switch dead targets other arms) = a_switch (length targets)
ahead_of shape = one_way

abbrev pub ahead_of_parts : PartTrees → Ahead → Ahead
ahead_of_parts no_part ahead = ahead
ahead_of_parts (more_parts shape after rest) ahead = ahead_of shape

-- the places in these parts, to which the blocks before them may leave
abbrev pub with_land : ShapeTree → List ℕ → List ℕ
with_land (land number) lands = number.0 ∷ lands
with_land shape lands = lands

abbrev pub lands_in : PartTrees → List ℕ → List ℕ
lands_in no_part lands = lands
lands_in (more_parts shape after rest) lands = with_land shape (lands_in rest lands)

abbrev pub before_parts : PartTrees → Inside → Inside
before_parts parts inside = record inside { lands = lands_in parts inside.lands }

-- in the test of a loop, from which nothing jumps away
abbrev pub in_test : Inside
in_test = record { leave = false; again = false; lands = [] }

abbrev pub in_body : Inside → Inside
in_body inside = record inside { leave = true; again = true }

abbrev pub in_step : Inside → Inside
in_step inside = record inside { leave = true; again = false }

abbrev pub in_arm : Inside → Inside
in_arm inside = record inside { leave = true }

-- a loop whose body comes first has no step
abbrev pub StepFits : Bool → SideTree → Type 0
StepFits true (side blocks) = ⊥
StepFits post step = Unit {0}

-- Nothing leads to the parts before the arms of a switch, so that nothing is asked of them.
abbrev mutual
  pub SequenceFits : Inside → Ahead → SequenceTree → Type 0
  SequenceFits inside ahead (sequence first rest) = ExitFits (before_parts rest inside) (ahead_of_parts rest ahead) first.exit × PartsFit inside ahead rest

  pub PartsFit : Inside → Ahead → PartTrees → Type 0
  PartsFit inside ahead no_part = Unit {0}
  PartsFit inside ahead (more_parts shape after rest) =
      ShapeFits (before_parts rest inside) shape × ExitFits (before_parts rest inside) (ahead_of_parts rest ahead) after.exit × PartsFit inside ahead rest

  pub ShapeFits : Inside → ShapeTree → Type 0
  ShapeFits inside (fork yes_ no_ convertible) = SideFits inside yes_ × SideFits inside no_
  ShapeFits inside (loop post test body step eligible) =
      SequenceFits in_test a_test test × SequenceFits (in_body inside) one_way body × SideFits (in_step inside) step × StepFits post step
  ShapeFits inside (switch dead targets other arms) = ArmsFit (in_arm inside) arms
  ShapeFits inside (land number) = Unit {0}
  ShapeFits inside (overlapped point body) = Unit {0}

  pub SideFits : Inside → SideTree → Type 0
  SideFits inside no_side = Unit {0}
  SideFits inside (side blocks) = SequenceFits inside one_way blocks

  pub ArmsFit : Inside → ArmTrees → Type 0
  ArmsFit inside no_arm = Unit {0}
  ArmsFit inside (more_arms first rest) = SequenceFits inside one_way first × ArmsFit inside rest

-- a program whose blocks are left so
abbrev pub IsWellFormed : SequenceTree → Type 0
IsWellFormed blocks = SequenceFits (record { leave = false; again = false; lands = [] }) one_way blocks
