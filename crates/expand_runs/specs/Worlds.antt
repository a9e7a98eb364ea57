-- What is known of the objects of a call and of what stands for them.
use Rattle.std.specs.Prelude.{◌≡◌, ℕ, ◌<◌, ◌≤◌, ◌⊎◌, length, slice_get, Option, Some}
use Rattle.hls_base.specs.declared.number.VarId.{VarId}
use Rattle.hls_base.specs.declared.number.ArrayId.{ArrayId}
use Rattle.c_token.specs.declared.ctype.CType.{CType}
use Rattle.c_value.specs.Values.{number_of}
use Rattle.pieces.specs.declared.resolved.expression.Cell.{Cell}
use Rattle.piece_making.specs.declared.frame.Home.{Home}
use Rattle.piece_making.specs.declared.frame.Home.TheVariants as home
use Rattle.piece_making.specs.declared.work.Slot.{Slot}
use Rattle.piece_making.specs.Making.{State}
use Rattle.piece_making.specs.Calls.{Call, home_of}
use Rattle.c_meaning.specs.CoreRuns.Cells.{Spot, Here, spot_of}
use Rattle.c_meaning.specs.PieceRuns.Pieces.{Frame, kind_at}
use Rattle.expand_runs.specs.Reading.{IsNumber, variable_type}
use Rattle.expand_runs.specs.Showing.{Known, IsApart, AreBelow}
use Rattle.expand_runs.specs.Sound.{Objects}
use Rattle.expand_runs.specs.Evaluating.{IsLinked}

-- the array that stands for an array of the call: that of the caller or of file scope, or the one that its declaration made
abbrev pub IsArrayOf : (Cell → Option ArrayId) → Cell → Option Home → ArrayId → Type 0
IsArrayOf seen x (Some (home.Array b)) a = b ≡ a
IsArrayOf seen x (Some (home.Local slot)) a = seen x ≡ Some a
IsArrayOf seen x h a = ⊥

-- The arrays of declarations that were reached are noted.
abbrev pub AreNoted : Call → (Cell → Option ArrayId) → State → Type 0
AreNoted c seen st = (x : Cell) (slot : Slot) (a : ArrayId) → home_of c x ≡ Some (home.Local slot) → seen x ≡ Some a → slice_get st.slots slot.0 ≡ Some (Some a)

-- a state in which what stands for the objects of the call was made already
pub record IsOver (c : Call) (base array_base : ℕ) (seen : Cell → Option ArrayId) (st : State) : Type 0 where
  pub low : base ≤ length st.variables
  pub arrays : array_base ≤ length st.arrays
  pub noted : AreNoted c seen st

pub record IsWorld (f : Frame) (here : Here) (c : Call) (o : Objects) (Homes : Spot → Home → Type 0) (Lives : Spot → Type 0) (kinds : Known) (base : ℕ) : Type 0 where
  pub seen : Cell → Option ArrayId
  pub array_base : ℕ
  pub path : c.path ≡ here.path
  pub apart : IsApart Homes
  pub below : AreBelow Homes base
  pub file : c.file_variables ≤ base
  pub bounded : (x : Cell) (own : VarId) → home_of c x ≡ Some (home.Variable own) → own.0 < base
  pub scalars : (x : Cell) (k : CType) → o.Scalar x k
      → ((own : VarId) × IsLinked here c Homes Lives x (home.Variable own) × (variable_type f own.0 ≡ k)) ⊎ ((word : ℕ) × IsLinked here c Homes Lives x (home.Constant word) × (kinds.types (spot_of here x) ≡ k) × IsNumber k (number_of k word))
  pub variables : (x : Cell) (k : CType) → o.Variable x k → (own : VarId) × IsLinked here c Homes Lives x (home.Variable own) × (variable_type f own.0 ≡ k)
  pub arrays : (x : Cell) (k : CType) → o.Array x k → (a : ArrayId) × Homes (spot_of here x) (home.Array a) × Lives (spot_of here x) × IsArrayOf seen x (home_of c x) a × (kind_at f.arrays a.0 ≡ k)
  pub names : (x y : Cell) (own own' : VarId) → home_of c x ≡ Some (home.Variable own) → home_of c y ≡ Some (home.Variable own') → own.0 ≡ own'.0 → x ≡ y
