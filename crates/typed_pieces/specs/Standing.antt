-- What names and calls stand for where an expression stands.
use Rattle.std.specs.Prelude.{◌≡◌, ℕ, ◌<◌, ◌≤◌, ◌^◌, true, List, [], ◌∷◌, slice_get, Option, Some, unwrap_or}
use Rattle.hls_base.specs.declared.number.VarId.{VarId}
use Rattle.hls_base.specs.declared.place.Place.{Place}
use Rattle.c_token.specs.declared.ctype.CType.{CType}
use Rattle.c_value.specs.Values.{int_type, width}
use Rattle.pieces.specs.declared.resolved.expression.Cell.{Cell}
use Rattle.pieces.specs.Resolved.Core as core
use Rattle.pieces.specs.Resolved.Core.{ArgumentTree, ArgumentTrees, FileObjectTree, CoreObjectTree}
use Rattle.pieces.specs.Trees.{PureTree}
use Rattle.piece_making.specs.declared.frame.Home.{Home}
use Rattle.piece_making.specs.declared.frame.Home.TheVariants as home
use Rattle.piece_making.specs.declared.work.Slot.{Slot}
use Rattle.piece_making.specs.Making.{State}
use Rattle.piece_making.specs.Calls.{Call, scalar, variable, array}
use Rattle.c_expand.specs.Expressions as e
use Rattle.c_expand.specs.Expressions.{Given, Callee, value_or_zero}
use Rattle.expand_runs.specs.Sound.{Objects}
use Rattle.expanded_programs.specs.Statements.Scopes.{Setting, Reach, IsScalar, IsArray}
use Rattle.pass_runs.specs.LowerRuns.OperatorWords.Words.{IsType}
use Rattle.pass_runs.specs.LowerRuns.Holding.{IsThere}
use Rattle.typed_pieces.specs.Typed.{IsTyped}
use Rattle.typed_pieces.specs.Worlds.{World, Later, Knows, Makes, IsValue, HasArray, IsNoted, frame_at}

-- ---- names and calls

-- In these worlds names stand for variables and arrays of their types.
pub record Names (o : Objects) (c : Call) (Scene : (s : State) → World s → Type 0) : Type 0 where
  pub stays : (s : State) (w : World s) (s' : State) (w' : World s') → Scene s w → Later s w s' w' → Scene s' w'
  pub scalars : (s : State) (w : World s) → Scene s w → (x : Cell) (k : CType) → o.Scalar x k → IsValue k s (scalar c x k)
  pub variables : (s : State) (w : World s) → Scene s w → (x : Cell) (k : CType) → o.Variable x k → IsThere (frame_at s) (variable c x) × IsValue k s (scalar c x k)
  pub arrays : (s : State) (w : World s) → Scene s w → (x : Cell) (k : CType) → o.Array x k → IsType k × HasArray (frame_at s) (array c x s) k

module _ (o : Objects) where
  -- an expression is given for a number, and for an array one of its type
  abbrev pub IsGivenFor : State → ArgumentTree → Given → Type 0
  IsGivenFor s (core.given v) (e.value_given x) = IsTyped (frame_at s) x
  IsGivenFor s (core.array cell) (e.array_given a) = (k : CType) → o.Array cell k → HasArray (frame_at s) a k
  IsGivenFor s (core.given v) (e.array_given a) = ⊥
  IsGivenFor s (core.array cell) (e.value_given x) = ⊥

  abbrev pub AreGiven : State → ArgumentTrees → List Given → Type 0
  AreGiven s core.no_argument [] = Unit {0}
  AreGiven s core.no_argument (x ∷ given) = ⊥
  AreGiven s (core.more_arguments first rest) [] = ⊥
  AreGiven s (core.more_arguments first rest) (x ∷ given) = IsGivenFor s first x × AreGiven s rest given

-- what a call gives; 0 where it gives nothing
abbrev pub Result : Option CType → Knows (Option PureTree)
Result k s w v = IsValue (unwrap_or k int_type) s (value_or_zero v)

-- In these worlds calls become such parts.
abbrev pub CallsTyped : Objects → Call → ((s : State) → World s → Type 0) → Callee → Type 0
CallsTyped o c Scene g = (callee : ℕ) (args : ArgumentTrees) (k : Option CType) (at : Place) (given : List Given) (s : State) (w : World s) → Scene s w → o.Takes callee args k → AreGiven o s args given → Makes (Result k) s w (g callee given c at s)

-- ---- homes of objects

-- a variable, an array or a constant of the object's type
abbrev pub FileFits : State → Home → FileObjectTree → Type 0
FileFits s (home.Variable own) o = IsScalar o.object × (slice_get s.variables own.0 ≡ Some o.object.kind)
FileFits s (home.Array a) o = IsArray o.object × HasArray (frame_at s) a o.object.kind
FileFits s (home.Constant word) o = IsScalar o.object × (o.object.constant ≡ true) × (word < 2 ^ width o.object.kind)
FileFits s (home.Local slot) o = ⊥

-- that of the object with this number, of which the first ones are parameters
abbrev pub OwnFits : (params : ℕ) (s : State) → World s → ℕ → Home → CoreObjectTree → Type 0
OwnFits params s w i (home.Variable own) o = IsScalar o × (slice_get s.variables own.0 ≡ Some o.kind)
OwnFits params s w i (home.Array a) o = IsArray o × HasArray (frame_at s) a o.kind
OwnFits params s w i (home.Local slot) o = IsArray o × (params ≤ i) × (slice_get w.kinds slot.0 ≡ Some o.kind)
OwnFits params s w i (home.Constant word) o = ⊥

-- What stands for the objects of a call is of their types, and the declarations that were reached are noted.
pub record Stands (S : Setting) (c : Call) (r : Reach) (s : State) (w : World s) : Type 0 where
  pub file : (i : ℕ) (o : FileObjectTree) → slice_get S.file i ≡ Some o → IsType o.object.kind × ((h : Home) × (slice_get c.file i ≡ Some h) × FileFits s h o)
  pub own : (i : ℕ) (o : CoreObjectTree) → slice_get S.objects i ≡ Some o → IsType o.kind × ((h : Home) × (slice_get c.homes i ≡ Some h) × OwnFits S.params s w i h o)
  pub ready : (i : ℕ) (slot : Slot) → slice_get c.homes i ≡ Some (home.Local slot) → r.Ready i → IsNoted s slot.0
  pub result : (k : CType) → S.result ≡ Some k → (own : VarId) × (c.result ≡ Some own) × (slice_get s.variables own.0 ≡ Some k)
  pub objects : c.objects ≡ S.objects
