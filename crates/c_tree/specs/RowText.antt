-- The bytes of a row of tokens and white space.
use Rattle.std.specs.Prelude.{ℕ, zero, suc, ◌||◌, nat_le, Bool, true, false, List, [], ◌∷◌, ◌++◌, codes, if◌then◌else◌}
use Rattle.std.specs.Fmt.{decimal}
use Rattle.c_token.specs.declared.ctype.CType.{CType}
use Rattle.c_token.specs.declared.ctype.CType.TheVariants as t
use Rattle.c_token.specs.declared.punct.Punct.{Punct}
use Rattle.c_token.specs.declared.punct.Punct.TheVariants as p
use Rattle.c_token.specs.declared.token.TokenKind.{TokenKind}
use Rattle.c_token.specs.declared.token.TokenKind.TheVariants as k
use Rattle.c_token.specs.Spelling.{spelling}
use Rattle.c_tree.specs.declared.print.row.Written.TheVariants as w
use Rattle.c_tree.specs.Rows.{Row}

-- The suffix that gives a decimal constant this type, C11 6.4.4.1. No constant is a `_Bool`.
abbrev pub number_suffix : CType → List ℕ
number_suffix t.Bool = []
number_suffix (t.Int true bits) = if nat_le bits 32 then [] else codes "l"
number_suffix (t.Int false bits) = if nat_le bits 32 then codes "u" else codes "ul"

abbrev pub number_text : ℕ → CType → List ℕ
number_text value kind = decimal value ++ number_suffix kind

-- Types are printed in words, so that no type word is in a row.
abbrev pub token_text : TokenKind → List ℕ
token_text (k.Word text) = text
token_text (k.Number value kind) = number_text value kind
token_text (k.Punct punct) = spelling punct
token_text (k.TypeWord kind) = []

-- the punctuators that are part of no longer one
abbrev pub is_closed : Punct → Bool
is_closed p.LeftParen = true
is_closed p.RightParen = true
is_closed p.LeftBracket = true
is_closed p.RightBracket = true
is_closed p.LeftBrace = true
is_closed p.RightBrace = true
is_closed p.Semicolon = true
is_closed p.Comma = true
is_closed p.Colon = true
is_closed p.Question = true
is_closed p.Tilde = true
is_closed _ = false

-- the second token may stand directly behind the first
abbrev pub may_touch : TokenKind → TokenKind → Bool
may_touch (k.Word text) (k.Punct next) = true
may_touch (k.Number value kind) (k.Punct next) = is_closed next
may_touch (k.Punct punct) (k.Punct next) = is_closed punct || is_closed next
may_touch (k.Punct punct) next = true
may_touch _ _ = false

-- a space where the next token would be read as a part of this one
abbrev pub separator : TokenKind → Row → List ℕ
separator kind (w.Token next ∷ row) = if may_touch kind next then [] else codes " "
separator kind _ = []

-- four spaces for each step
abbrev pub indentation : ℕ → List ℕ
indentation zero = []
indentation (suc depth) = codes "    " ++ indentation depth

abbrev pub row_text : Row → List ℕ
row_text [] = []
row_text (w.Space ∷ row) = codes " " ++ row_text row
row_text (w.Line depth ∷ row) = codes "\n" ++ (indentation depth ++ row_text row)
row_text (w.Token kind ∷ row) = token_text kind ++ (separator kind row ++ row_text row)
