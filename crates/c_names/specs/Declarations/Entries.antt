-- The latest declaration of each name, as a map keeps it. A name that is visible no more keeps an entry without an index.
use Rattle.std.specs.Prelude.{ℕ, List, Option, Some, None, bytes_eq}
use Rattle.std.specs.Map.{lookup}
use Rattle.std.specs.declared.alloc.Global.{Global}
use Rattle.std.specs.declared.vec.Vec.{Vec}

abbrev pub Entries : Type 0
Entries = List (Vec ℕ Global × Option ℕ)

-- the entry of the name
abbrev pub entry_in : List ℕ → Entries → Option (Option ℕ)
entry_in name entries = lookup (λ (key : Vec ℕ Global). bytes_eq name key.items) entries

-- what is found, if it is an index
abbrev pub index_found : Option (Option ℕ) → Option ℕ
index_found None = None
index_found (Some index) = index

abbrev pub index_in : List ℕ → Entries → Option ℕ
index_in name entries = index_found (entry_in name entries)
