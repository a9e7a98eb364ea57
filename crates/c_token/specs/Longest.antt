-- The longest and the shortest front of a list that lies in a set of lists.
use Rattle.std.specs.Prelude.{◌≡◌, ℕ, ◌<◌, ◌≤◌, Bool, true, List, ◌++◌, length}

abbrev pub IsLongest : (List ℕ → Type 0) → List ℕ → List ℕ → List ℕ → Type 0
IsLongest P bytes text rest =
    (bytes ≡ text ++ rest) × P text × ((other after : List ℕ) → bytes ≡ other ++ after → P other → length other ≤ length text)

abbrev pub IsShortest : (List ℕ → Type 0) → List ℕ → List ℕ → List ℕ → Type 0
IsShortest P bytes text rest =
    (bytes ≡ text ++ rest) × P text × ((other after : List ℕ) → bytes ≡ other ++ after → P other → length text ≤ length other)

-- no front lies in the set
abbrev pub NoneBegins : (List ℕ → Type 0) → List ℕ → Type 0
NoneBegins P bytes = (text rest : List ℕ) → bytes ≡ text ++ rest → ¬ P text

-- a text that is not empty, each byte of which may stand in its place
abbrev pub IsRowOf : (List ℕ → ℕ → Bool) → List ℕ → Type 0
IsRowOf may_stand text = (0 < length text) × ((i : ℕ) → i < length text → may_stand text i ≡ true)
