-- What stands outside a program: files by name, and the bytes that it puts. Each is told, or it is not.
use Rattle.std.specs.Prelude.{◌≡◌, ◌≢◌, ◌⊎◌, ◌<◌, ◌≤◌, ◌^◌, ◌-◌, ℕ, List, ◌++◌, take, Option, None, Some, IfSome, IsSomeAnd}

-- a finite map from names to bytes, as the function of a name: None where no file has this name
abbrev pub Files : Type 0
Files = List ℕ → Option (List ℕ)

-- Faults are counted by a number of 64 bits.
-- It rose in a call where it is greater after the call than before, or stands at its last value after it.
abbrev pub HasRisen : ℕ → ℕ → Type 0
HasRisen old new = (old < new) ⊎ (new ≡ 2 ^ 64 - 1)

-- the count of faults before and after a call, whatever its answer is
pub record NeverFalls (old new : ℕ) : Type 0 where
  pub never_falls : old ≤ new
  pub fits : new < 2 ^ 64

-- What is told stays told, and is so related before and after. What is not told stays untold.
abbrev pub WhereTold : {A : Type 0} → (A → A → Type 0) → Option A → Option A → Type 0
WhereTold R None None = Unit {0}
WhereTold R None (Some new) = ⊥
WhereTold R (Some old) None = ⊥
WhereTold R (Some old) (Some new) = R old new

-- Where the files are told, one has this name, and these are its first bytes: `most` of them, or all where it is shorter.
abbrev pub AreFirstBytes : Option Files → List ℕ → ℕ → List ℕ → Type 0
AreFirstBytes told name most bytes = IfSome told (λ files. IsSomeAnd (files name) (λ whole. bytes ≡ take most whole))

-- the files are told, and none has this name
abbrev pub IsAbsent : Option Files → List ℕ → Type 0
IsAbsent told name = IsSomeAnd told (λ files. files name ≡ None)

-- every file but the one of this name is as before
abbrev pub OthersStay : List ℕ → Files → Files → Type 0
OthersStay name old new = (other : List ℕ) → other ≢ name → new other ≡ old other

-- the file of this name is exactly these bytes, and the other files stay
pub record IsWritten (name bytes : List ℕ) (old new : Files) : Type 0 where
  pub whole : new name ≡ Some bytes
  pub others : OthersStay name old new

-- the file is as before, or is not there as before, or is a prefix of these bytes
abbrev pub IsBeforeOrPrefix : List ℕ → Option (List ℕ) → Option (List ℕ) → Type 0
IsBeforeOrPrefix bytes before after = (after ≡ before) ⊎ ((n : ℕ) × (after ≡ Some (take n bytes)))

-- a write of these bytes that may have been cut short, or not begun; the other files stay
pub record IsCutShort (name bytes : List ℕ) (old new : Files) : Type 0 where
  pub file : IsBeforeOrPrefix bytes (old name) (new name)
  pub others : OthersStay name old new

-- all these bytes were put after those that stood before
abbrev pub PutsAll : List ℕ → List ℕ → List ℕ → Type 0
PutsAll bytes old new = new ≡ old ++ bytes

-- a prefix of these bytes, none and all of them included, was put after those that stood before
abbrev pub PutsPrefix : List ℕ → List ℕ → List ℕ → Type 0
PutsPrefix bytes old new = (n : ℕ) × (new ≡ old ++ take n bytes)
