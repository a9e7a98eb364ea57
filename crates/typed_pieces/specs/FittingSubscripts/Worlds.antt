-- The arrays that are made while a program is expanded, and parts in whose pieces each element has as many subscripts as its array has dimensions.
use Rattle.std.specs.Prelude.{◌≡◌, ℕ, List, length, slice_get, Some}
use Rattle.hls_base.specs.declared.number.ArrayId.{ArrayId}
use Rattle.pieces.specs.Trees.{PureTree, piece_row}
use Rattle.piece_making.specs.Making.{State, Part, Inner}
use Rattle.expand_runs.specs.Growing.{Begins}
use Rattle.sound_trees.specs.Subscripts.{HasDimensions, SubscriptsFit, PiecesSubscriptsFit}

-- the declaration was reached: its array is made and noted
abbrev pub IsNoted : State → ℕ → Type 0
IsNoted s i = (a : ArrayId) × (slice_get s.slots i ≡ Some (Some a))

-- How many dimensions the arrays of all declarations have that have a place. Those that are made have them.
pub record World (s : State) : Type 0 where
  pub dimensions : List ℕ
  pub count : length dimensions ≡ length s.slots
  pub noted : (i n : ℕ) (a : ArrayId) → slice_get dimensions i ≡ Some n → slice_get s.slots i ≡ Some (Some a) → HasDimensions s.arrays a n

-- All that was there stays.
pub record Later (s : State) (w : World s) (s' : State) (w' : World s') : Type 0 where
  pub arrays : Begins s.arrays s'.arrays
  pub dimensions : Begins w.dimensions w'.dimensions
  pub noted : (i : ℕ) → IsNoted s i → IsNoted s' i

-- what is known of a value in a world
abbrev pub Knows : Type 0 → Type 1
Knows A = (s : State) → World s → A → Type 0

-- A part makes pieces whose subscripts fit what is made by its end, and a value of which V is known there.
pub record Makes {A : Type 0} (V : Knows A) (s : State) (w : World s) (part : Part A) : Type 0 where
  pub next : World part.state
  pub later : Later s w part.state next
  pub pieces : PiecesSubscriptsFit part.state.arrays (piece_row part.pieces)
  pub value : V part.state next part.value

-- It does so in every later world.
abbrev pub MakesLater : {A : Type 0} → Knows A → (s : State) → World s → (State → Part A) → Type 0
MakesLater V s w part = (s1 : State) (w1 : World s1) → Later s w s1 w1 → Makes V s1 w1 (part s1)

-- ---- values

abbrev pub Anything : Knows (Unit {0})
Anything s w u = Unit {0}

-- something of which nothing is known
abbrev pub Whatever : {A : Type 0} → Knows A
Whatever s w x = Unit {0}

-- an expression whose subscripts fit
abbrev pub Value : Knows PureTree
Value s w x = SubscriptsFit s.arrays x

-- pieces in a list of their own
abbrev pub Inside : {A : Type 0} → Knows A → Knows (Inner A)
Inside V s w x = PiecesSubscriptsFit s.arrays (piece_row x.pieces) × V s w x.value
