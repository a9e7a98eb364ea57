-- The longest punctuator at a place.
use Rattle.std.specs.Prelude.{ℕ, ◌&&◌, ◌||◌, nat_eq, not, Bool, List, length, drop, Option, Some, None}
use Rattle.std.specs.List.{starts_with}
use Rattle.c_token.specs.Longest.{IsLongest, NoneBegins}
use Rattle.c_token.specs.Spelling.{spelling, IsSign}
use Rattle.c_token.specs.SourceText.{is_hash}
use Rattle.c_token.specs.declared.punct.Punct.{Punct}
use Rattle.c_token.specs.declared.token.TokenKind.TheVariants as k

abbrev pub stands : Bool → List ℕ → Punct → Bool
stands is_first bytes punct = starts_with nat_eq bytes (spelling punct) && (is_first || not (is_hash (k.Punct punct)))

abbrev pub IsLongestSign : Bool → List ℕ → Option Punct → Type 0
IsLongestSign is_first bytes None = NoneBegins (IsSign is_first) bytes
IsLongestSign is_first bytes (Some punct) =
    IsLongest (IsSign is_first) bytes (spelling punct) (drop (length (spelling punct)) bytes)
