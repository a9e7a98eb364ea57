-- Names that are added.
use Rattle.std.specs.Prelude.{ℕ, List, [], ◌∷◌, ◌++◌, Option}
use Rattle.hls_base.specs.declared.place.Place.{Place}
use Rattle.c_token.specs.declared.ctype.CType.{CType}
use Rattle.c_meaning.specs.declared.names.Binding.{Binding}
use Rattle.c_meaning.specs.Store.{Environment}

abbrev pub bind : Environment → List ℕ → ℕ → Environment
bind env name object = record env { names = env.names ++ record { name = name; object = object } ∷ [] }

-- a function that is called sees the names of file scope
abbrev pub begun : List Binding → List Place → Option CType → Environment
begun file path result = record { file = file; names = []; path = path; result = result; next = 0 }
