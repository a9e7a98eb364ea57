-- Which texts are comments and tokens: C11 6.4.
use Rattle.std.specs.Prelude.{◌≡◌, ℕ, ◌-◌, ◌==◌, ◌&&◌, ◌||◌, nat_lt, not, Bool, true, List, [], ◌∷◌, ◌++◌, codes, slice_index, ◌⊎◌, if◌then◌else◌}
use Rattle.c_token.specs.Characters.{is_letter, is_digit, is_word_byte}
use Rattle.c_token.specs.Longest.{IsRowOf}
use Rattle.c_token.specs.declared.punct.Punct.{Punct}
use Rattle.c_token.specs.declared.punct.Punct.TheVariants as p

-- Comments, C11 6.4.9.

-- byte i has a backslash directly before it, or one before a CR
abbrev pub is_spliced : List ℕ → ℕ → Bool
is_spliced text i = (slice_index text (i - 1) == 92) || ((slice_index text (i - 1) == 13) && (slice_index text (i - 2) == 92))

-- two slashes, and then no LF but with a backslash directly before it
unfoldable pub in_line_comment : List ℕ → ℕ → Bool
in_line_comment text i =
    if nat_lt i 2 then slice_index text i == 47 else (not (slice_index text i == 10) || is_spliced text i)

abbrev pub IsLineComment : List ℕ → Type 0
IsLineComment = IsRowOf in_line_comment

abbrev pub IsBlockComment : List ℕ → Type 0
IsBlockComment text = (body : List ℕ) × (text ≡ 47 ∷ (42 ∷ (body ++ 42 ∷ (47 ∷ []))))

-- Words, C11 6.4.2.1: a letter or `_`, then letters, digits and `_`.

unfoldable pub in_word : List ℕ → ℕ → Bool
in_word text i = if i == 0 then is_letter (slice_index text i) else is_word_byte (slice_index text i)

abbrev pub IsWord : List ℕ → Type 0
IsWord = IsRowOf in_word

-- Numbers, C11 6.4.8: a digit, then letters, digits, `_`, `.`, and a sign directly after `e`, `E`, `p` or `P`.

abbrev pub is_exponent : ℕ → Bool
is_exponent b = (b == 101) || (b == 69) || (b == 112) || (b == 80)

unfoldable pub in_number : List ℕ → ℕ → Bool
in_number text i =
    if i == 0 then is_digit (slice_index text i)
    else (is_word_byte (slice_index text i) || (slice_index text i == 46)
    || (((slice_index text i == 43) || (slice_index text i == 45)) && is_exponent (slice_index text (i - 1))))

abbrev pub IsNumber : List ℕ → Type 0
IsNumber = IsRowOf in_number

-- Punctuators, C11 6.4.6.

unfoldable pub spelling : Punct → List ℕ
spelling p.LeftParen = codes "("
spelling p.RightParen = codes ")"
spelling p.LeftBracket = codes "["
spelling p.RightBracket = codes "]"
spelling p.LeftBrace = codes "{"
spelling p.RightBrace = codes "}"
spelling p.Semicolon = codes ";"
spelling p.Comma = codes ","
spelling p.Colon = codes ":"
spelling p.Question = codes "?"
spelling p.Tilde = codes "~"
spelling p.Bang = codes "!"
spelling p.Plus = codes "+"
spelling p.Minus = codes "-"
spelling p.Star = codes "*"
spelling p.Slash = codes "/"
spelling p.Percent = codes "%"
spelling p.Amp = codes "&"
spelling p.Bar = codes "|"
spelling p.Caret = codes "^"
spelling p.Less = codes "<"
spelling p.Greater = codes ">"
spelling p.Equal = codes "="
spelling p.Dot = codes "."
spelling p.Ellipsis = codes "..."
spelling p.Arrow = codes "->"
spelling p.PlusPlus = codes "++"
spelling p.MinusMinus = codes "--"
spelling p.ShiftLeft = codes "<<"
spelling p.ShiftRight = codes ">>"
spelling p.LessEqual = codes "<="
spelling p.GreaterEqual = codes ">="
spelling p.EqualEqual = codes "=="
spelling p.BangEqual = codes "!="
spelling p.AmpAmp = codes "&&"
spelling p.BarBar = codes "||"
spelling p.PlusEqual = codes "+="
spelling p.MinusEqual = codes "-="
spelling p.StarEqual = codes "*="
spelling p.SlashEqual = codes "/="
spelling p.PercentEqual = codes "%="
spelling p.AmpEqual = codes "&="
spelling p.BarEqual = codes "|="
spelling p.CaretEqual = codes "^="
spelling p.ShiftLeftEqual = codes "<<="
spelling p.ShiftRightEqual = codes ">>="
spelling p.HashHash = codes "##"
spelling p.Hash = codes "#"

-- the punctuators, where `#` is one only as the first token of its line
abbrev pub IsSign : Bool → List ℕ → Type 0
IsSign first text = (punct : Punct) × (text ≡ spelling punct) × (punct ≡ p.Hash → first ≡ true)

abbrev pub IsToken : Bool → List ℕ → Type 0
IsToken first text = IsWord text ⊎ (IsNumber text ⊎ IsSign first text)
