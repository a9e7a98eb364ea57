-- What names and calls stand for where an expression stands.
use Rattle.std.specs.Prelude.{◌≡◌, ℕ, ◌≤◌, List, [], ◌∷◌, length, slice_get, Option, Some}
use Rattle.hls_base.specs.declared.place.Place.{Place}
use Rattle.c_token.specs.declared.ctype.CType.{CType}
use Rattle.pieces.specs.declared.resolved.expression.Cell.{Cell}
use Rattle.pieces.specs.Resolved.Core as core
use Rattle.pieces.specs.Resolved.Core.{ArgumentTree, ArgumentTrees, FileObjectTree, CoreObjectTree, CoreFunctionTree}
use Rattle.pieces.specs.Trees.{PureTree}
use Rattle.piece_making.specs.declared.frame.Home.{Home}
use Rattle.piece_making.specs.declared.frame.Home.TheVariants as home
use Rattle.piece_making.specs.declared.work.Slot.{Slot}
use Rattle.piece_making.specs.Making.{State}
use Rattle.piece_making.specs.Calls.{Call, array}
use Rattle.c_expand.specs.Expressions as e
use Rattle.c_expand.specs.Expressions.{Given, Callee, value_or_zero}
use Rattle.expand_runs.specs.Sound.{Objects}
use Rattle.expanded_programs.specs.Statements.Scopes.{Setting, Reach, IsScalar}
use Rattle.sound_trees.specs.Subscripts.{HasDimensions, SubscriptsFit}
use Rattle.typed_pieces.specs.FittingSubscripts.Programs.{CallFits, dimensions_of}
use Rattle.typed_pieces.specs.FittingSubscripts.Worlds.{World, Later, Knows, Makes, IsNoted}

-- ---- names and calls

-- In these worlds names of arrays stand for arrays of so many dimensions.
pub record Names (dimensions : Cell → ℕ) (o : Objects) (c : Call) (Scene : (s : State) → World s → Type 0) : Type 0 where
  pub stays : (s : State) (w : World s) (s' : State) (w' : World s') → Scene s w → Later s w s' w' → Scene s' w'
  pub arrays : (s : State) (w : World s) → Scene s w → (x : Cell) (k : CType) → o.Array x k → HasDimensions s.arrays (array c x s) (dimensions x)

module _ (dimensions : Cell → ℕ) (o : Objects) where
  -- an expression is given for a number, and for an array one of its dimensions
  abbrev pub IsGivenFor : State → ArgumentTree → Given → Type 0
  IsGivenFor s (core.given v) (e.value_given x) = SubscriptsFit s.arrays x
  IsGivenFor s (core.array cell) (e.array_given a) = (k : CType) → o.Array cell k → HasDimensions s.arrays a (dimensions cell)
  IsGivenFor s (core.given v) (e.array_given a) = ⊥
  IsGivenFor s (core.array cell) (e.value_given x) = ⊥

  abbrev pub AreGiven : State → ArgumentTrees → List Given → Type 0
  AreGiven s core.no_argument [] = Unit {0}
  AreGiven s core.no_argument (x ∷ given) = ⊥
  AreGiven s (core.more_arguments first rest) [] = ⊥
  AreGiven s (core.more_arguments first rest) (x ∷ given) = IsGivenFor s first x × AreGiven s rest given

-- what a call gives; 0 where it gives nothing
abbrev pub Result : Knows (Option PureTree)
Result s w v = SubscriptsFit s.arrays (value_or_zero v)

-- In these worlds calls whose arrays fit become such parts.
abbrev pub CallsFit : List CoreFunctionTree → (Cell → ℕ) → Objects → Call → ((s : State) → World s → Type 0) → Callee → Type 0
CallsFit functions dimensions o c Scene g = (callee : ℕ) (args : ArgumentTrees) (k : Option CType) (at : Place) (given : List Given) (s : State) (w : World s)
    → Scene s w → o.Takes callee args k → CallFits dimensions (slice_get functions callee) args → AreGiven dimensions o s args given → Makes Result s w (g callee given c at s)

-- ---- homes of objects

-- an array has the object's dimensions
abbrev pub FileFits : State → Home → FileObjectTree → Type 0
FileFits s (home.Variable own) o = IsScalar o.object
FileFits s (home.Array a) o = HasDimensions s.arrays a (length o.object.lengths)
FileFits s (home.Constant word) o = IsScalar o.object
FileFits s (home.Local slot) o = ⊥

-- that of the object with this number, of which the first ones are parameters
abbrev pub OwnFits : (params : ℕ) (s : State) → World s → ℕ → Home → CoreObjectTree → Type 0
OwnFits params s w i (home.Variable own) o = IsScalar o
OwnFits params s w i (home.Array a) o = HasDimensions s.arrays a (length o.lengths)
OwnFits params s w i (home.Local slot) o = (params ≤ i) × (slice_get w.dimensions slot.0 ≡ Some (length o.lengths))
OwnFits params s w i (home.Constant word) o = ⊥

-- What stands for the objects of a call has their dimensions, and the declarations that were reached are noted.
pub record Stands (S : Setting) (c : Call) (r : Reach) (s : State) (w : World s) : Type 0 where
  pub file : (i : ℕ) (o : FileObjectTree) → slice_get S.file i ≡ Some o → (h : Home) × (slice_get c.file i ≡ Some h) × FileFits s h o
  pub own : (i : ℕ) (o : CoreObjectTree) → slice_get S.objects i ≡ Some o → (h : Home) × (slice_get c.homes i ≡ Some h) × OwnFits S.params s w i h o
  pub ready : (i : ℕ) (slot : Slot) → slice_get c.homes i ≡ Some (home.Local slot) → r.Ready i → IsNoted s slot.0
  pub objects : c.objects ≡ S.objects

abbrev pub dimensions_at : Setting → Cell → ℕ
dimensions_at S = dimensions_of S.file S.objects
