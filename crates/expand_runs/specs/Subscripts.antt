-- The subscripts of an element that is known by its number, row by row.
use Rattle.std.specs.Prelude.{◌≡◌, ℕ, ◌/◌, ◌%◌, ◌^◌, ◌<◌, ◌≤◌, List, [], ◌∷◌, map, ℤ, Some}
use Rattle.hls_base.specs.ArrayAddress.{element_count}
use Rattle.c_value.specs.Values.{int_type, number_of}
use Rattle.c_meaning.specs.Store.{element_place}
use Rattle.c_expand.specs.Statements.{at_least_one}

-- the numbers that the subscripts of element n have
abbrev pub numbers_at : List ℕ → ℕ → List ℤ
numbers_at [] n = []
numbers_at (len ∷ lengths) n = number_of int_type ((n / element_count (map at_least_one lengths)) % at_least_one len) ∷ numbers_at lengths n

-- The element with a number below the count of all is the one of these subscripts, where there are no more elements than int has numbers from 0 on.
abbrev pub SubscriptsLead : Type 0
SubscriptsLead = (lengths : List ℕ) (n : ℕ) → n < element_count lengths → element_count lengths ≤ 2 ^ 31 → element_place lengths (numbers_at lengths n) ≡ Some n
