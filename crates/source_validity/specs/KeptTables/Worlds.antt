-- The arrays that are made while a program is expanded, and parts whose pieces set no element of a table.
use Rattle.std.specs.Prelude.{◌≡◌, ℕ, ◌≤◌, List, length, slice_get, Some, None}
use Rattle.hls_base.specs.declared.number.ArrayId.{ArrayId}
use Rattle.pieces.specs.Trees.{PieceTree, piece_row}
use Rattle.pieces.specs.Program.{ArrayTree}
use Rattle.piece_making.specs.Making.{State, Part, Inner}
use Rattle.expand_runs.specs.Growing.{Begins}
use Rattle.compiled_plans.specs.Operations.{PutNoTables}

-- the array is there, and is no table
abbrev pub IsStored : List ArrayTree → ArrayId → Type 0
IsStored arrays array = (a : ArrayTree) × (slice_get arrays array.0 ≡ Some a) × (a.table ≡ None)

-- the pieces set no element of a table, however many arrays come behind these
abbrev pub KeepTables : List ArrayTree → List PieceTree → Type 0
KeepTables arrays pieces = (more : List ArrayTree) → Begins arrays more → PutNoTables more (piece_row pieces)

-- the declaration was reached: its array is made and noted
abbrev pub IsNoted : State → ℕ → Type 0
IsNoted s i = (a : ArrayId) × (slice_get s.slots i ≡ Some (Some a))

-- No array of a declaration that was reached is a table.
pub record World (s : State) : Type 0 where
  pub noted : (i : ℕ) (a : ArrayId) → slice_get s.slots i ≡ Some (Some a) → IsStored s.arrays a

-- All that was there stays.
pub record Later (s s' : State) : Type 0 where
  pub arrays : Begins s.arrays s'.arrays
  pub slots : length s.slots ≤ length s'.slots
  pub noted : (i : ℕ) → IsNoted s i → IsNoted s' i

-- what is known of a value in a state
abbrev pub Knows : Type 0 → Type 1
Knows A = (s : State) → A → Type 0

-- A part makes pieces that set no table, and a value of which V is known at its end.
pub record Makes {A : Type 0} (V : Knows A) (s : State) (part : Part A) : Type 0 where
  pub next : World part.state
  pub later : Later s part.state
  pub pieces : KeepTables part.state.arrays part.pieces
  pub value : V part.state part.value

-- It does so in every later world.
abbrev pub MakesLater : {A : Type 0} → Knows A → (s : State) → (State → Part A) → Type 0
MakesLater V s part = (s1 : State) → World s1 → Later s s1 → Makes V s1 (part s1)

-- ---- values

-- something of which nothing is known
abbrev pub Whatever : {A : Type 0} → Knows A
Whatever s x = Unit {0}

-- pieces in a list of their own
abbrev pub Inside : {A : Type 0} → Knows A → Knows (Inner A)
Inside V s x = KeepTables s.arrays x.pieces × V s x.value
