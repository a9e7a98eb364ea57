-- What stands for the objects of a run of a core program.
use Rattle.std.specs.Prelude.{◌≡◌, ℕ, ◌<◌, ℤ, [], length, slice_get, Some, None}
use Rattle.hls_base.specs.ArrayAddress.{element_count}
use Rattle.hls_base.specs.declared.number.VarId.{VarId}
use Rattle.hls_base.specs.declared.number.ArrayId.{ArrayId}
use Rattle.c_token.specs.declared.ctype.CType.{CType}
use Rattle.c_value.specs.Values.{number_of}
use Rattle.c_meaning.specs.Store.{Object, element_in}
use Rattle.pieces.specs.Resolved.Core.{CoreObjectTree}
use Rattle.piece_making.specs.declared.frame.Home.{Home}
use Rattle.piece_making.specs.declared.frame.Home.TheVariants as home
use Rattle.c_meaning.specs.CoreRuns.Cells.{Spot, Cells}
use Rattle.c_meaning.specs.PieceRuns.Values.{Store, lengths_in}
use Rattle.c_meaning.specs.PieceRuns.Pieces.{Frame, kind_at}
use Rattle.expand_runs.specs.Reading.{variable_type}

-- What is written of an object is in the variable or the array that stands for it; the variable or array has the object's type and lengths. Of an array whose declaration is not reached nothing is written.
abbrev pub Stands : Frame → Home → Object → Store → Type 0
Stands f (home.Variable own) o t = (o.kind ≡ variable_type f own.0) × (o.lengths ≡ []) × ((v : ℤ) → element_in (slice_get o.elements 0) ≡ Some v → t.variables own.0 ≡ v)
Stands f (home.Array a) o t = (o.kind ≡ kind_at f.arrays a.0) × (o.lengths ≡ lengths_in (slice_get f.arrays a.0)) × ((i : ℕ) (v : ℤ) → element_in (slice_get o.elements i) ≡ Some v → t.elements a.0 i ≡ v)
Stands f (home.Constant word) o t = (o.lengths ≡ []) × ((v : ℤ) → element_in (slice_get o.elements 0) ≡ Some v → number_of o.kind word ≡ v)
Stands f (home.Local slot) o t = (i : ℕ) → element_in (slice_get o.elements i) ≡ None

-- all elements of the object are written
pub record IsWhole (o : Object) : Type 0 where
  pub long : length o.elements ≡ element_count o.lengths
  pub all : (i : ℕ) → i < length o.elements → (v : ℤ) × (slice_get o.elements i ≡ Some (Some v))

-- What is known of objects: the types of the constants, which objects are written from the start, and how those of calls are declared.
pub record Known : Type 1 where
  pub types : Spot → CType
  pub Whole : Spot → Type 0
  pub Declared : Spot → CoreObjectTree → Type 0

-- The objects of the calls under way, in all frames at once, each with what stands for it, where its lifetime has begun.
pub record IsShown (f : Frame) (Homes : Spot → Home → Type 0) (Lives : Spot → Type 0) (known : Known) (s : Cells) (t : Store) : Type 0 where
  pub objects : (x : Spot) (h : Home) → Homes x h → Lives x → Stands f h (s x) t
  pub kinds : (x : Spot) (word : ℕ) → Homes x (home.Constant word) → Lives x → (s x).kind ≡ known.types x
  pub whole : (x : Spot) → known.Whole x → IsWhole (s x)
  pub fits : (x : Spot) (o : CoreObjectTree) → known.Declared x o → Lives x → ((s x).kind ≡ o.kind) × ((s x).lengths ≡ o.lengths)

-- One thing stands for each object, and no variable or array stands for two.
pub record IsApart (Homes : Spot → Home → Type 0) : Type 0 where
  pub one : (x : Spot) (h g : Home) → Homes x h → Homes x g → h ≡ g
  pub variables : (x y : Spot) (own own' : VarId) → Homes x (home.Variable own) → Homes y (home.Variable own') → own.0 ≡ own'.0 → x ≡ y
  pub arrays : (x y : Spot) (a a' : ArrayId) → Homes x (home.Array a) → Homes y (home.Array a') → a.0 ≡ a'.0 → x ≡ y

-- the variables that stand for objects are below this number
abbrev pub AreBelow : (Spot → Home → Type 0) → ℕ → Type 0
AreBelow Homes low = (x : Spot) (own : VarId) → Homes x (home.Variable own) → own.0 < low
