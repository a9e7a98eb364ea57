-- Stores with a frame for file scope and one for each call that is under way.
use Rattle.std.specs.Prelude.{ℕ, ◌==◌, ◌&&◌, Bool, List, [], ◌∷◌, ℤ, slice_get, Option, Some, None, if◌then◌else◌}
use Rattle.hls_base.specs.declared.place.Place.{Place}
use Rattle.c_token.specs.declared.ctype.CType.{CType}
use Rattle.c_value.specs.Values.{int_type}
use Rattle.c_meaning.specs.Store.{Object, fresh}
use Rattle.pieces.specs.declared.resolved.expression.Cell.{Cell}
use Rattle.pieces.specs.declared.resolved.expression.Scope.{Scope}
use Rattle.pieces.specs.declared.resolved.expression.Scope.TheVariants as scope
use Rattle.pieces.specs.Resolved.Core.{CoreObjectTree}

-- Where an object is: frame 0 is file scope, and that of a call is its depth.
pub record Spot : Type 0 where
  pub frame : ℕ
  pub number : ℕ

abbrev pub spot : ℕ → ℕ → Spot
spot frame number = record { frame = frame; number = number }

abbrev pub is_spot : Spot → Spot → Bool
is_spot x y = (x.frame == y.frame) && (x.number == y.number)

-- what the object at each spot holds
abbrev pub Cells : Type 0
Cells = Spot → Object

-- the store with another object at one spot
abbrev pub put : Cells → Spot → Object → Cells
put s x o y = if is_spot x y then o else s y

-- ---- the objects of a call

-- what is given for a parameter: a number, or an array by the spot where it is
pub data Given : Type 0 where
  number_given : (number : ℤ) → Given
  array_given : (array : Spot) → Given

-- The frame of the call, the spots and the declarations of its objects, the calls that lead to it, and the type of its result.
pub record Here : Type 0 where
  pub frame : ℕ
  pub spots : ℕ → Spot
  pub objects : List CoreObjectTree
  pub path : List Place
  pub result : Option CType

abbrev pub spot_in : Here → Scope → ℕ → Spot
spot_in here scope.File number = spot 0 number
spot_in here scope.Call number = here.spots number

abbrev pub spot_of : Here → Cell → Spot
spot_of here cell = spot_in here cell.scope cell.number

-- An object of a call is in the call's frame, and an array that is given is where it was.
abbrev pub spot_given : ℕ → ℕ → Option Given → Spot
spot_given frame i (Some (array_given array)) = array
spot_given frame i _ = spot frame i

abbrev pub spots_of : ℕ → List Given → ℕ → Spot
spots_of frame given i = spot_given frame i (slice_get given i)

abbrev pub unwritten : Option CoreObjectTree → Object
unwritten None = fresh int_type []
unwritten (Some o) = fresh o.kind o.lengths

-- The lifetimes of these objects begin, C11 6.2.4 paragraph 6.
abbrev pub entered : Here → List ℕ → Cells → Cells
entered here [] s = s
entered here (i ∷ is) s = entered here is (put s (here.spots i) (unwritten (slice_get here.objects i)))
