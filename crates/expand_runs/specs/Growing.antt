-- What is made only grows: the variables and arrays of a state are those of a later state, and of the whole program, so far.
use Rattle.pieces.specs.Trees as tree
use Rattle.pieces.specs.Trees.{PieceTree}
use Rattle.std.specs.Prelude.{[], ◌∷◌, ◌≡◌, ℕ, ◌≤◌, List, length, slice_get, Option, Some}
use Rattle.hls_base.specs.declared.number.ArrayId.{ArrayId}
use Rattle.piece_making.specs.Making.{State}
use Rattle.c_meaning.specs.PieceRuns.Pieces.{Frame}

-- the second list has what the first one has, at the same places
abbrev pub Begins : {A : Type 0} → List A → List A → Type 0
Begins {A} xs ys = (i : ℕ) (x : A) → slice_get xs i ≡ Some x → slice_get ys i ≡ Some x

pub record IsLater (s s' : State) : Type 0 where
  pub variables : Begins s.variables s'.variables
  pub more : length s.variables ≤ length s'.variables
  pub arrays : Begins s.arrays s'.arrays
  pub more_arrays : length s.arrays ≤ length s'.arrays
  pub slots : Begins s.slots s'.slots
  pub more_slots : length s.slots ≤ length s'.slots
  pub calls : s.calls ≤ s'.calls

-- the same, but for slots of which only these are kept
pub record IsGrown (P : ℕ → Type 0) (s s' : State) : Type 0 where
  pub variables : Begins s.variables s'.variables
  pub more : length s.variables ≤ length s'.variables
  pub arrays : Begins s.arrays s'.arrays
  pub more_arrays : length s.arrays ≤ length s'.arrays
  pub slots : (i : ℕ) (x : Option ArrayId) → P i → slice_get s.slots i ≡ Some x → slice_get s'.slots i ≡ Some x
  pub more_slots : length s.slots ≤ length s'.slots
  pub calls : s.calls ≤ s'.calls

-- the ends of calls that stand in the list are those of this call and of later ones
abbrev pub LandFrom : ℕ → PieceTree → Type 0
LandFrom m (tree.set name value) = Unit {0}
LandFrom m (tree.put array subscripts value at) = Unit {0}
LandFrom m (tree.fork test first second end) = Unit {0}
LandFrom m (tree.repeat_ id post before test body step end) = Unit {0}
LandFrom m (tree.pick test labels body end) = Unit {0}
LandFrom m tree.break_ = Unit {0}
LandFrom m tree.next_ = Unit {0}
LandFrom m (tree.leave call) = Unit {0}
LandFrom m (tree.land call end) = m ≤ call.0
LandFrom m (tree.mark point) = Unit {0}

abbrev pub LandsFrom : ℕ → List PieceTree → Type 0
LandsFrom m [] = Unit {0}
LandsFrom m (x ∷ xs) = LandFrom m x × LandsFrom m xs

pub record IsWithin (s : State) (f : Frame) : Type 0 where
  pub variables : Begins s.variables f.variables
  pub arrays : Begins s.arrays f.arrays
