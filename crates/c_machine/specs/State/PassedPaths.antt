-- The paths of the points that were passed, by numbers.
use Rattle.std.specs.Prelude.{◌≡◌, ℕ, ◌<◌, List, [], ◌∷◌, ◌++◌, length, slice_get, Option, Some, None}
use Rattle.hls_base.specs.declared.place.Place.{Place}
use Rattle.c_machine.specs.declared.state.meter.Call.{Call}

-- Each call that a run came to, with the path of the points in it. Its number is its place in the list.
abbrev pub PathTable : Type 0
PathTable = List (Call × List Place)

abbrev pub path_in : Option (Call × List Place) → List Place
path_in None = []
path_in (Some entry) = entry.1

-- the path of a call, and of the top function where there is none
abbrev pub path_of : PathTable → Option ℕ → List Place
path_of calls None = []
path_of calls (Some number) = path_in (slice_get calls number)

abbrev pub IsNumber : PathTable → Option ℕ → Type 0
IsNumber calls None = Unit {0}
IsNumber calls (Some number) = number < length calls

-- the caller of an entry is an earlier call
abbrev pub IsBefore : ℕ → Option ℕ → Type 0
IsBefore i None = Unit {0}
IsBefore i (Some number) = number < i

-- Each path is the caller's, and then the place of the call. No call stands twice.
pub record IsPathTable (calls : PathTable) : Type 0 where
  pub earlier : (i : ℕ) (entry : Call × List Place) → slice_get calls i ≡ Some entry → IsBefore i entry.0.caller
  pub chained : (i : ℕ) (entry : Call × List Place) → slice_get calls i ≡ Some entry → entry.1 ≡ path_of calls entry.0.caller ++ entry.0.at ∷ []
  pub distinct : (i j : ℕ) (e f : Call × List Place) → slice_get calls i ≡ Some e → slice_get calls j ≡ Some f → e.0 ≡ f.0 → i ≡ j

-- more calls behind the same ones
pub record Extends (old new : PathTable) : Type 0 where
  pub added : PathTable
  pub is : new ≡ old ++ added
