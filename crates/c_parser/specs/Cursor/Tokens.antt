-- What the next tokens are to the parser.
use Rattle.std.specs.Prelude.{◌≡◌, ℕ, Bool, true, false, List, [], ◌∷◌, Option, Some, None}
use Rattle.hls_base.specs.declared.place.Place.{Place}
use Rattle.c_token.specs.declared.punct.Punct.{Punct}
use Rattle.c_token.specs.declared.punct.Punct.TheVariants as p
use Rattle.c_token.specs.declared.token.TokenKind.{TokenKind}
use Rattle.c_token.specs.declared.token.TokenKind.TheVariants as k
use Rattle.c_tree.specs.declared.operator.Binary.{Binary}
use Rattle.c_tree.specs.Terminals.{Terminal, word, is_keyword, operator_of}
use Rattle.c_tree.specs.Grammar.{level_of, comma_level}
use Rattle.c_parser.specs.Cursor.Readings.{opens_paren}
use Rattle.c_parser.specs.declared.cursor.joiner.Joiner.{Joiner}
use Rattle.c_parser.specs.declared.cursor.joiner.Joiner.TheVariants as j

-- an identifier and its place
abbrev pub Name : List Terminal → List ℕ × Place → List Terminal → Type 0
Name tokens name rest = (tokens ≡ word name.0 name.1 ∷ rest) × (is_keyword name.0 ≡ false)

-- whether `(` comes behind the next token
abbrev pub opens_call : List Terminal → Bool
opens_call [] = false
opens_call (t ∷ ts) = opens_paren ts

-- whether the token may stand behind an action
abbrev pub separates_kind : TokenKind → Bool
separates_kind (k.Punct p.Comma) = true
separates_kind (k.Punct p.Semicolon) = true
separates_kind (k.Punct p.RightParen) = true
separates_kind _ = false

abbrev pub separates : List Terminal → Bool
separates [] = false
separates (t ∷ ts) = separates_kind t.kind

-- ---- the operators that group to the left

abbrev pub joiner_or : Option Binary → Option Joiner → Option Joiner
joiner_or None other = other
joiner_or (Some op) other = Some (j.Binary op)

abbrev pub comma_joiner : Punct → Option Joiner
comma_joiner p.Comma = Some j.Comma
comma_joiner _ = None

abbrev pub joiner_of : Punct → Option Joiner
joiner_of punct = joiner_or (operator_of punct) (comma_joiner punct)

abbrev pub joiner_level : Joiner → ℕ
joiner_level (j.Binary op) = level_of op
joiner_level j.Comma = comma_level
