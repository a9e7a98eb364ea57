-- When the pieces of an expression do what the expression does.
use Rattle.std.specs.Prelude.{◌≡◌, ℕ, ◌<◌, ◌≤◌, ◌⊎◌, ℤ, Bool, true, false, List, Some}
use Rattle.hls_base.specs.declared.number.VarId.{VarId}
use Rattle.c_token.specs.declared.ctype.CType.{CType}
use Rattle.pieces.specs.declared.resolved.expression.Cell.{Cell}
use Rattle.pieces.specs.Resolved.Core as core
use Rattle.pieces.specs.Resolved.Core.{CoreTree}
use Rattle.pieces.specs.Trees.{PureTree, PureTrees}
use Rattle.pieces.specs.Kind.{kind}
use Rattle.hls_base.specs.Valued.{is}
use Rattle.piece_making.specs.declared.frame.Home.{Home}
use Rattle.piece_making.specs.declared.frame.Home.TheVariants as home
use Rattle.piece_making.specs.Calls.{Call, home_of}
use Rattle.c_meaning.specs.CoreRuns.Cells.{Spot, Cells, Here, spot_of}
use Rattle.c_meaning.specs.PieceRuns.Values.{Store, value, values}
use Rattle.c_meaning.specs.PieceRuns.Pieces.{Frame, Way, on}
use Rattle.expand_runs.specs.Reading.{AllRead, EachReads, IsTyped, HasTypes, EachHasTypes}
use Rattle.expand_runs.specs.Showing.{Known, IsShown}

-- the variable that stands for an object which the value comes of, or one that the pieces made
abbrev pub ComesOf : Call → (Cell → Type 0) → ℕ → ℕ → ℕ → Type 0
ComesOf c R low high i = ((x : Cell) × (own : VarId) × R x × (home_of c x ≡ Some (home.Variable own)) × (own.0 ≡ i)) ⊎ ((low ≤ i) × (i < high))

-- The expression that is left has this value and type.
pub record IsValue (f : Frame) (c : Call) (R : Cell → Type 0) (low high : ℕ) (x : PureTree) (k : CType) (v : ℤ) (t : Store) : Type 0 where
  pub same : value f.arrays x t ≡ is v
  pub type : kind x ≡ k
  pub types : HasTypes f x
  pub reads : AllRead (ComesOf c R low high) x

pub record AreValues (f : Frame) (c : Call) (R : Cell → Type 0) (low high : ℕ) (xs : PureTrees) (vs : List ℤ) (t : Store) : Type 0 where
  pub same : values f.arrays xs t ≡ is vs
  pub types : EachHasTypes f xs
  pub reads : EachReads (ComesOf c R low high) xs

-- The value of an expression matters where it is used, and also where the expression is no call.
abbrev pub Matters : Bool → CoreTree → Type 0
Matters true e = Unit {0}
Matters false (core.number value k) = Unit {0}
Matters false (core.scalar cell k at) = Unit {0}
Matters false (core.element array subscripts k at) = Unit {0}
Matters false (core.call callee args k at) = ⊥
Matters false (core.unary op arg k at) = Unit {0}
Matters false (core.binary op left right k at) = Unit {0}
Matters false (core.choice test left right k at colon) = Unit {0}
Matters false (core.cast to arg) = Unit {0}
Matters false (core.assign t op v at) = Unit {0}
Matters false (core.bump t up post at) = Unit {0}
Matters false (core.comma left right) = Unit {0}

-- Control goes on from stores that are related, and what is given has its value.
pub record Evaluated (f : Frame) (Homes : Spot → Home → Type 0) (Lives : Spot → Type 0) (kinds : Known) (s : Cells) (w : Way) (t : Store) : Type 0 where
  pub on_ : w ≡ on
  pub shown : IsShown f Homes Lives kinds s t
  pub typed : IsTyped f t

-- what stands for a name is what stands for the object that it names, whose lifetime has begun
abbrev pub IsLinked : Here → Call → (Spot → Home → Type 0) → (Spot → Type 0) → Cell → Home → Type 0
IsLinked here c Homes Lives cell h = (home_of c cell ≡ Some h) × Homes (spot_of here cell) h × Lives (spot_of here cell)
