-- The keywords that begin a statement, C11 6.8.
use Rattle.std.specs.Prelude.{ℕ, List, [], ◌∷◌, codes, Option, None}
use Rattle.std.specs.Borrow.{Bor}
use Rattle.c_token.specs.declared.token.TokenKind.{TokenKind}
use Rattle.c_token.specs.declared.token.TokenKind.TheVariants as k
use Rattle.c_token.specs.Replacement.{find_word}
use Rattle.c_tree.specs.Terminals.{Terminal}
use Rattle.c_parser.specs.declared.cursor.keyword.Keyword.{Keyword}
use Rattle.c_parser.specs.declared.cursor.keyword.Keyword.TheVariants as w

abbrev pub keyword_text : Keyword → List ℕ
keyword_text w.If = codes "if"
keyword_text w.Switch = codes "switch"
keyword_text w.Case = codes "case"
keyword_text w.Default = codes "default"
keyword_text w.While = codes "while"
keyword_text w.Do = codes "do"
keyword_text w.For = codes "for"
keyword_text w.Break = codes "break"
keyword_text w.Continue = codes "continue"
keyword_text w.Return = codes "return"

abbrev pub row_of : Keyword → List ℕ × Keyword
row_of keyword = (keyword_text keyword, keyword)

abbrev pub keyword_rows : List (List ℕ × Keyword)
keyword_rows =
    row_of w.If ∷ row_of w.Switch ∷ row_of w.Case ∷ row_of w.Default ∷ row_of w.While ∷ row_of w.Do ∷ row_of w.For ∷ row_of w.Break ∷ row_of w.Continue
    ∷ row_of w.Return ∷ []

abbrev pub keyword_of : List ℕ → Option Keyword
keyword_of text = find_word text keyword_rows

abbrev pub keyword_at : TokenKind → Option Keyword
keyword_at (k.Word text) = keyword_of text
keyword_at _ = None

-- the keyword of a statement that the tokens begin with
abbrev pub lead : List Terminal → Option Keyword
lead [] = None
lead (t ∷ ts) = keyword_at t.kind

-- a row of a table of words
abbrev pub named_keyword : Bor (List ℕ) × Keyword → List ℕ × Keyword
named_keyword row = (row.0.now, row.1)
