-- The tokens of the code without where they lie in memory.
use Rattle.std.specs.Prelude.{◌≡◌, ◌⊎◌, ℕ, ◌<◌, List, [], ◌++◌, length, map}
use Rattle.std.specs.List.{All}
use Rattle.hls_base.specs.declared.refusal.Refusal.{Refusal}
use Rattle.rtl_core.specs.Valid.{IsName}
use Rattle.rtl_core.specs.ModuleTokens.{IsToken, IsLongest, value_behind}
use Rattle.rtl_core.specs.ModuleTokens as t
use Rattle.verilog_syntax.specs.declared.token.Kind.{Kind}
use Rattle.verilog_syntax.specs.declared.token.Kind.TheVariants as kind
use Rattle.verilog_syntax.specs.declared.token.Token.{Token}
use Rattle.verilog_syntax.specs.declared.lexer.Piece.{Piece}
use Rattle.verilog_syntax.specs.declared.lexer.Piece.TheVariants as piece
use Rattle.hls_base.specs.TextPlaces.{text_start}
use Rattle.verilog_syntax.specs.Signs.{sign_text, keyword_text}
use Rattle.verilog_syntax.specs.Lexemes.{Lexeme, IsGap, Reads, NothingBegins}

abbrev pub token_of : Kind → t.Token
token_of (kind.Keyword k) = t.Word (keyword_text k)
token_of (kind.Name text) = t.Word text.now
token_of (kind.Number digits) = t.Number digits.now
token_of (kind.Constant bits digits) = t.Constant bits (value_behind 16 0 digits.now)
token_of (kind.Sign s) = t.Sign (sign_text s)

abbrev pub lexeme_of : Token → Lexeme
lexeme_of token = record { token = token_of token.kind; place = token.place }

abbrev pub lexemes_of : List Token → List Lexeme
lexemes_of tokens = map lexeme_of tokens

-- a name is no reserved word
abbrev pub IsProper : Kind → Type 0
IsProper (kind.Name text) = IsName text.now
IsProper _ = Unit {0}

-- what the bytes begin with
abbrev pub StandsFirst : List ℕ → Piece → Type 0
StandsFirst bytes (piece.Gap n) = (text : List ℕ) × (rest : List ℕ) × (bytes ≡ text ++ rest) × (length text ≡ n) × (0 < n) × IsGap text rest
StandsFirst bytes (piece.Lexeme kind n) =
    (text : List ℕ) × (rest : List ℕ) × (bytes ≡ text ++ rest) × (length text ≡ n) × (0 < n) × IsToken text (token_of kind) × IsLongest text rest × IsProper kind
StandsFirst bytes piece.Nothing = NothingBegins bytes

-- the tokens go up to the end of the text, or to a byte at which none begins
pub record Lexes (bytes : List ℕ) (tokens : List Token) (end : Refusal) : Type 0 where
  pub rest : List ℕ
  pub reads : Reads bytes text_start (lexemes_of tokens) rest end.place
  pub proper : All (λ (x : Token). IsProper x.kind) tokens
  pub ends : ((rest ≡ []) × (end.rule ≡ 51)) ⊎ (NothingBegins rest × (end.rule ≡ 50))
