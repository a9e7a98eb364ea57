-- Declarations one over the other, each with the index of the one that it hides.
use Rattle.std.specs.Prelude.{◌≡◌, ℕ, List, [], ◌∷◌, Option, Some, None, bytes_eq, length, map, reverse, if◌then◌else◌}
use Rattle.c_meaning.specs.Checks.Names.{Declared}
use Rattle.c_names.specs.declared.declarations.names.Layer.{Layer}
use Rattle.c_names.specs.Declarations.Entries.{Entries, index_in}

-- what is visible, from the latest to the earliest
abbrev pub visible : List Layer → List Declared
visible layers = map (λ l. l.declared) (reverse layers)

-- the index of the latest declaration of the name among these, which are listed from the latest to the earliest
abbrev pub latest_of : List ℕ → List Layer → Option ℕ
latest_of name [] = None
latest_of name (l ∷ ls) = if bytes_eq name l.declared.name then Some (length ls) else latest_of name ls

-- each knows which one it hides
abbrev pub KnowHidden : List Layer → Type 0
KnowHidden [] = Unit {0}
KnowHidden (l ∷ ls) = (l.hidden ≡ latest_of l.declared.name ls) × KnowHidden ls

-- the map has the latest declaration of each name
pub record IsIndexed (layers : List Layer) (entries : Entries) : Type 0 where
  pub latest : (name : List ℕ) → index_in name entries ≡ latest_of name (reverse layers)
  pub hidden : KnowHidden (reverse layers)
