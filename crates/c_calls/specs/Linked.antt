-- Who calls whom, by numbers, and who comes to a function.
use Rattle.std.specs.Prelude.{◌≡◌, ℕ, zero, suc, ◌<◌, ◌==◌, ◌||◌, Bool, false, List, [], ◌∷◌, length, slice_index_or, All, if◌then◌else◌}
use Rattle.std.specs.List.{list_any}
use Rattle.std.specs.declared.alloc.Global.{Global}
use Rattle.std.specs.declared.vec.Vec.{Vec}
use Rattle.c_meaning.specs.Checks.Recursion.{reaches}

-- the numbers are below this one
abbrev pub AreWithin : ℕ → List (ℕ × ℕ) → Type 0
AreWithin size links = All (λ l. (l.0 < size) × (l.1 < size)) links

abbrev pub AreBelow : ℕ → List ℕ → Type 0
AreBelow size numbers = All (λ n. n < size) numbers

-- each function has the mark that says whether it comes to the target by at most so many calls
pub record Marks (links : List (ℕ × ℕ)) (size rounds target : ℕ) (marks : List Bool) : Type 0 where
  pub long : length marks ≡ size
  pub right : (f : ℕ) → f < size → slice_index_or marks f false ≡ reaches links rounds f target

-- ---- who calls each function

-- the functions that call this one
abbrev pub sources : List (ℕ × ℕ) → ℕ → List ℕ
sources [] callee = []
sources (l ∷ ls) callee = if callee == l.1 then l.0 ∷ sources ls callee else sources ls callee

-- the row with this index
abbrev pub row_at : List (Vec ℕ Global) → ℕ → List ℕ
row_at [] k = []
row_at (r ∷ rs) zero = r.items
row_at (r ∷ rs) (suc k) = row_at rs k

-- each function has a row, and it has the functions that call it
pub record HasSources (links : List (ℕ × ℕ)) (size : ℕ) (rows : List (Vec ℕ Global)) : Type 0 where
  pub long : length rows ≡ size
  pub right : (k : ℕ) → k < size → row_at rows k ≡ sources links k

abbrev pub RowsAreBelow : ℕ → List (Vec ℕ Global) → Type 0
RowsAreBelow size rows = All (λ (r : Vec ℕ Global). AreBelow size r.items) rows

-- ---- the functions that were marked last

abbrev pub is_among : ℕ → List ℕ → Bool
is_among f numbers = list_any (λ n. n == f) numbers

-- whether a function calls one of these
abbrev pub calls_one : List (Vec ℕ Global) → ℕ → List ℕ → Bool
calls_one rows f these = list_any (λ k. is_among f (row_at rows k)) these

-- The functions of the test are marked, and those that were not marked before are noted.
pub record Spreads (test : ℕ → Bool) (marks : List Bool) (noted : List ℕ) (marks' : List Bool) (noted' : List ℕ) : Type 0 where
  pub long : length marks' ≡ length marks
  pub marked : (f : ℕ) → f < length marks → slice_index_or marks' f false ≡ (slice_index_or marks f false || test f)
  pub notes : (base : ℕ → Bool) → ((f : ℕ) → f < length marks → slice_index_or marks f false ≡ (base f || is_among f noted))
      → (f : ℕ) → f < length marks → slice_index_or marks' f false ≡ (base f || is_among f noted')
  pub below : AreBelow (length marks) noted → AreBelow (length marks) noted'

-- by fewer calls than so many
abbrev pub reaches_before : List (ℕ × ℕ) → ℕ → ℕ → ℕ → Bool
reaches_before links zero f g = false
reaches_before links (suc n) f g = reaches links n f g

-- The front has the functions that come to the target by so many calls and not by fewer.
pub record IsFront (links : List (ℕ × ℕ)) (size rounds target : ℕ) (front : List ℕ) : Type 0 where
  pub below : AreBelow size front
  pub covers : (f : ℕ) → f < size → reaches links rounds f target ≡ (reaches_before links rounds f target || is_among f front)
