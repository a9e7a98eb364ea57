-- What names and calls stand for where an expression stands.
use Rattle.std.specs.Prelude.{◌≡◌, ℕ, ◌<◌, ◌≤◌, Bool, false, List, [], ◌∷◌, length, slice_get, Option, Some}
use Rattle.hls_base.specs.declared.place.Place.{Place}
use Rattle.c_token.specs.declared.ctype.CType.{CType}
use Rattle.pieces.specs.declared.resolved.expression.Cell.{Cell}
use Rattle.pieces.specs.Resolved.Core as core
use Rattle.pieces.specs.Resolved.Core.{ArgumentTree, ArgumentTrees, FileObjectTree, CoreObjectTree, CoreFunctionTree}
use Rattle.piece_making.specs.declared.frame.Home.{Home}
use Rattle.piece_making.specs.declared.frame.Home.TheVariants as home
use Rattle.piece_making.specs.declared.work.Slot.{Slot}
use Rattle.piece_making.specs.Making.{State}
use Rattle.piece_making.specs.Calls.{Call, array}
use Rattle.c_expand.specs.Expressions as e
use Rattle.c_expand.specs.Expressions.{Given, Callee}
use Rattle.expand_runs.specs.Sound.{Objects}
use Rattle.expanded_programs.specs.Statements.Scopes.{Setting, Reach, IsScalar}
use Rattle.source_validity.specs.KeptTables.Programs.{CallKeeps, constant_of}
use Rattle.source_validity.specs.KeptTables.Worlds.{World, Later, Makes, Whatever, IsStored, IsNoted}

-- ---- names and calls

-- Here names of arrays that are not const stand for arrays that are no tables.
pub record Names (constant : Cell → Bool) (o : Objects) (c : Call) (Scene : State → Type 0) : Type 0 where
  pub stays : (s s' : State) → Scene s → Later s s' → Scene s'
  pub arrays : (s : State) → World s → Scene s → (x : Cell) (k : CType) → o.Array x k → constant x ≡ false → IsStored s.arrays (array c x s)

module _ (constant : Cell → Bool) (o : Objects) where
  -- an expression is given for a number, and for an array that is not const one that is no table
  abbrev pub IsGivenFor : State → ArgumentTree → Given → Type 0
  IsGivenFor s (core.given v) (e.value_given x) = Unit {0}
  IsGivenFor s (core.array cell) (e.array_given a) = (k : CType) → o.Array cell k → constant cell ≡ false → IsStored s.arrays a
  IsGivenFor s (core.given v) (e.array_given a) = ⊥
  IsGivenFor s (core.array cell) (e.value_given x) = ⊥

  abbrev pub AreGiven : State → ArgumentTrees → List Given → Type 0
  AreGiven s core.no_argument [] = Unit {0}
  AreGiven s core.no_argument (x ∷ given) = ⊥
  AreGiven s (core.more_arguments first rest) [] = ⊥
  AreGiven s (core.more_arguments first rest) (x ∷ given) = IsGivenFor s first x × AreGiven s rest given

-- Here calls that give const arrays only for parameters that are const become such parts.
abbrev pub CallsKeep : List CoreFunctionTree → (Cell → Bool) → Objects → Call → (State → Type 0) → Callee → Type 0
CallsKeep functions constant o c Scene g = (callee : ℕ) (args : ArgumentTrees) (k : Option CType) (at : Place) (given : List Given) (s : State) → World s
    → Scene s → o.Takes callee args k → CallKeeps constant (slice_get functions callee) args → AreGiven constant o s args given → Makes Whatever s (g callee given c at s)

-- ---- homes of objects

-- an array of an object that is not const is no table
abbrev pub FileKept : State → Home → FileObjectTree → Type 0
FileKept s (home.Variable own) o = IsScalar o.object
FileKept s (home.Array a) o = o.object.constant ≡ false → IsStored s.arrays a
FileKept s (home.Constant word) o = IsScalar o.object
FileKept s (home.Local slot) o = ⊥

-- that of the object with this number, of which the first ones are parameters
abbrev pub OwnKept : (params : ℕ) → State → ℕ → Home → CoreObjectTree → Type 0
OwnKept params s i (home.Variable own) o = IsScalar o
OwnKept params s i (home.Array a) o = o.constant ≡ false → IsStored s.arrays a
OwnKept params s i (home.Local slot) o = (params ≤ i) × (slot.0 < length s.slots)
OwnKept params s i (home.Constant word) o = ⊥

-- What stands for the objects of a call that are not const are no tables, and the declarations that were reached are noted.
pub record Stands (S : Setting) (c : Call) (r : Reach) (s : State) : Type 0 where
  pub file : (i : ℕ) (o : FileObjectTree) → slice_get S.file i ≡ Some o → (h : Home) × (slice_get c.file i ≡ Some h) × FileKept s h o
  pub own : (i : ℕ) (o : CoreObjectTree) → slice_get S.objects i ≡ Some o → (h : Home) × (slice_get c.homes i ≡ Some h) × OwnKept S.params s i h o
  pub ready : (i : ℕ) (slot : Slot) → slice_get c.homes i ≡ Some (home.Local slot) → r.Ready i → IsNoted s slot.0
  pub objects : c.objects ≡ S.objects

abbrev pub constant_at : Setting → Cell → Bool
constant_at S = constant_of S.file S.objects
