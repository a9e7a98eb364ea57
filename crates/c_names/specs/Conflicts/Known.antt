-- The names of some accesses, as a map keeps them: each with the fault that its least change is where it is in conflict. A name that is only read has none.
use Rattle.std.specs.Prelude.{◌≡◌, ℕ, List, [], ◌∷◌, Option, Some, None, bytes_eq, is_some}
use Rattle.std.specs.List.{list_any}
use Rattle.std.specs.Map.{lookup}
use Rattle.std.specs.declared.alloc.Global.{Global}
use Rattle.std.specs.declared.vec.Vec.{Vec}
use Rattle.hls_base.specs.declared.refusal.Refusal.{Refusal}
use Rattle.c_meaning.specs.Checks.Faults.{least}
use Rattle.c_meaning.specs.Checks.Conflicts.{Access, read, names_it, clashes}

abbrev pub Faults : Type 0
Faults = List (Vec ℕ Global × Option Refusal)

abbrev pub fault_entry : List ℕ → Faults → Option (Option Refusal)
fault_entry name entries = lookup (λ (key : Vec ℕ Global). bytes_eq name key.items) entries

-- what is found, if it is a fault
abbrev pub found : Option (Option Refusal) → Option Refusal
found None = None
found (Some fault) = fault

-- the least change of a name among these accesses, as the fault that it is beside another access of the name
abbrev pub change_fault : List ℕ → List Access → Option Refusal
change_fault name accesses = least (clashes accesses (read name ∷ []))

-- the map has the names of these accesses, with their least changes
pub record Knows (accesses : List Access) (entries : Faults) : Type 0 where
  pub named : (name : List ℕ) → is_some (fault_entry name entries) ≡ list_any (names_it name) accesses
  pub changed : (name : List ℕ) → found (fault_entry name entries) ≡ change_fault name accesses
