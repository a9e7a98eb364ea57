-- The table of macros that a list of borrowed words and tokens is.
use Rattle.std.specs.Prelude.{ℕ, List, map}
use denote.Ref.{Bor}
use Rattle.c_token.specs.declared.token.Token.{Token}
use Rattle.c_token.specs.Replacement.{Table}

abbrev pub table_of : List (Bor (List ℕ) × Bor (List Token)) → Table
table_of entries = map (λ entry. (entry.0.now, entry.1.now)) entries
