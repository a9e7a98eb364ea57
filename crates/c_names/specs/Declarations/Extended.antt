-- Names that were added to others.
use Rattle.std.specs.Prelude.{◌≡◌, List, ◌++◌}
use Rattle.c_meaning.specs.Checks.Names.{Declared}

-- the new names are the old ones with others before them
abbrev pub Extends : List Declared → List Declared → Type 0
Extends old new = (front : List Declared) × (new ≡ front ++ old)
