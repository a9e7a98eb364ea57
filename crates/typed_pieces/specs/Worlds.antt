-- What is made while a program is expanded, and parts whose pieces have the types of what is made.
use Rattle.std.specs.Prelude.{◌≡◌, ◌≢◌, ℕ, List, [], length, slice_get, Some}
use Rattle.hls_base.specs.declared.number.ArrayId.{ArrayId}
use Rattle.c_token.specs.declared.ctype.CType.{CType}
use Rattle.pieces.specs.Trees.{PureTree, piece_row}
use Rattle.pieces.specs.Kind.{kind}
use Rattle.pieces.specs.Program.{ArrayTree}
use Rattle.piece_making.specs.Making.{State, Part, Inner}
use Rattle.c_meaning.specs.PieceRuns.Pieces.{Frame}
use Rattle.expand_runs.specs.Growing.{Begins}
use Rattle.valid_trees.specs.ValidLowering.Proper.{LabelsFit}
use Rattle.typed_pieces.specs.Typed.{IsTyped, PiecesTyped}

-- the variables and arrays that are made so far
abbrev pub frame_at : State → Frame
frame_at s = record { variables = s.variables; arrays = s.arrays }

-- the array is there, and its elements are of this type
abbrev pub HasArray : Frame → ArrayId → CType → Type 0
HasArray f array k = (a : ArrayTree) × (slice_get f.arrays array.0 ≡ Some a) × (a.kind ≡ k)

-- each array has a length at least
abbrev pub ArraysHaveLengths : List ArrayTree → Type 0
ArraysHaveLengths arrays = (i : ℕ) (a : ArrayTree) → slice_get arrays i ≡ Some a → a.lengths ≢ []

-- the declaration was reached: its array is made and noted
abbrev pub IsNoted : State → ℕ → Type 0
IsNoted s i = (a : ArrayId) × (slice_get s.slots i ≡ Some (Some a))

-- The types of the arrays of all declarations that have a place, and the type of the labels of the switch round what is made. The arrays that are made are of these types, and have lengths.
pub record World (s : State) : Type 0 where
  pub kinds : List CType
  pub count : length kinds ≡ length s.slots
  pub noted : (i : ℕ) (k : CType) (a : ArrayId) → slice_get kinds i ≡ Some k → slice_get s.slots i ≡ Some (Some a) → HasArray (frame_at s) a k
  pub labels : CType
  pub lengths : ArraysHaveLengths s.arrays

-- All that was there stays.
pub record Later (s : State) (w : World s) (s' : State) (w' : World s') : Type 0 where
  pub variables : Begins s.variables s'.variables
  pub arrays : Begins s.arrays s'.arrays
  pub kinds : Begins w.kinds w'.kinds
  pub noted : (i : ℕ) → IsNoted s i → IsNoted s' i
  pub labels : w'.labels ≡ w.labels

-- what is known of a value in a world
abbrev pub Knows : Type 0 → Type 1
Knows A = (s : State) → World s → A → Type 0

-- A part makes pieces with the types of what is made by its end, labels of the switch's type, and a value of which V is known there.
pub record Makes {A : Type 0} (V : Knows A) (s : State) (w : World s) (part : Part A) : Type 0 where
  pub next : World part.state
  pub later : Later s w part.state next
  pub pieces : PiecesTyped (frame_at part.state) (piece_row part.pieces)
  pub labels : LabelsFit w.labels part.labels
  pub value : V part.state next part.value

-- It does so in every later world.
abbrev pub MakesLater : {A : Type 0} → Knows A → (s : State) → World s → (State → Part A) → Type 0
MakesLater V s w part = (s1 : State) (w1 : World s1) → Later s w s1 w1 → Makes V s1 w1 (part s1)

-- ---- values

abbrev pub Anything : Knows (Unit {0})
Anything s w u = Unit {0}

-- an expression of this type
pub record IsValue (k : CType) (s : State) (x : PureTree) : Type 0 where
  pub typed : IsTyped (frame_at s) x
  pub type : kind x ≡ k

abbrev pub Value : CType → Knows PureTree
Value k s w x = IsValue k s x

-- pieces in a list of their own
abbrev pub Inside : {A : Type 0} → Knows A → Knows (Inner A)
Inside V s w x = PiecesTyped (frame_at s) (piece_row x.pieces) × V s w x.value
