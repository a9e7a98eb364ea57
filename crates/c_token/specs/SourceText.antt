-- What the text of a source is as a list of tokens, or its first fault: C11 5.1.1.2 and 6.4.
use Rattle.std.specs.Prelude.{◌≡◌, ℕ, ◌<◌, ◌≤◌, ◌&&◌, nat_le, Bool, true, false, List, [], ◌∷◌, length, take, drop, codes, bytes_eq, ◌⊎◌, if◌then◌else◌}
use Rattle.hls_base.specs.declared.place.Place.{Place}
use Rattle.hls_base.specs.declared.refusal.Refusal.{Refusal}
use Rattle.hls_base.specs.TextPlaces.{place_after, text_start}
use Rattle.c_token.specs.declared.ctype.CType.{CType}
use Rattle.c_token.specs.declared.punct.Punct.{Punct}
use Rattle.c_token.specs.declared.punct.Punct.TheVariants as p
use Rattle.c_token.specs.declared.token.Token.{Token}
use Rattle.c_token.specs.declared.token.TokenKind.{TokenKind}
use Rattle.c_token.specs.declared.token.TokenKind.TheVariants as k
use Rattle.c_token.specs.Characters.{Opening, at_end, at_line_end, at_space, at_line_comment, at_block_comment, at_token, opening}
use Rattle.c_token.specs.Longest.{IsLongest, IsShortest, NoneBegins}
use Rattle.c_token.specs.Spelling.{IsLineComment, IsBlockComment, IsWord, IsNumber, spelling, IsToken}
use Rattle.c_token.specs.Constants.{IsConstant}

-- What stands on a line so far: no token, a `#` alone, `#` and `pragma`, or other tokens.
pub data Line : Type 0 where
  empty : Line
  hash : Line
  pragma_line : Line
  tokens : Line

abbrev pub is_first : Line → Bool
is_first empty = true
is_first _ = false

-- A place in a source: the bytes from there on, where they stand, their line so far, and whether something else than white space and comments stands directly before.
pub record Standing : Type 0 where
  pub left : List ℕ
  pub place : Place
  pub line : Line
  pub glued : Bool

-- The pieces of a source: white space, comments and what a pragma line has behind `pragma`; the ends of lines; tokens; and the word `pragma` of a pragma line.
pub data Piece : Type 0 where
  gap : List ℕ → Piece
  line_end : Piece
  lexeme : List ℕ → Token → Piece
  pragma : List ℕ → Piece

abbrev pub piece_text : Piece → List ℕ
piece_text (gap text) = text
piece_text line_end = 10 ∷ []
piece_text (lexeme text token) = text
piece_text (pragma text) = text

abbrev pub is_hash : TokenKind → Bool
is_hash (k.Punct p.Hash) = true
is_hash _ = false

abbrev pub line_after_token : Line → TokenKind → Line
line_after_token empty kind = if is_hash kind then hash else tokens
line_after_token _ kind = tokens

abbrev pub line_after : Line → Piece → Line
line_after line (gap text) = line
line_after line line_end = empty
line_after line (lexeme text token) = line_after_token line token.kind
line_after line (pragma text) = pragma_line

abbrev pub glues : Piece → Bool
glues (lexeme text token) = true
glues _ = false

-- the place behind a piece
abbrev pub after : Standing → Piece → Standing
after s piece = record {
  left = drop (length (piece_text piece)) s.left;
  place = place_after s.place (piece_text piece);
  line = line_after s.line piece;
  glued = glues piece;
}

-- What is found at a place: the end, a piece, or a fault.
pub data End : Type 0 where
  whole : End
  refused : Refusal → End

pub data Found : Type 0 where
  ends : End → Found
  next : Piece → Found

abbrev pub fault : Standing → ℕ → Found
fault s rule = ends (refused (record { rule = rule; place = s.place }))

abbrev pub token_at : Standing → TokenKind → Token
token_at s kind = record { kind = kind; place = s.place; first = is_first s.line; glued = s.glued }

abbrev pub given : Standing → List ℕ → TokenKind → Found
given s text kind = next (lexeme text (token_at s kind))

-- the word `pragma` behind a `#` that begins its line, C11 6.10.6
abbrev pub is_pragma : Line → List ℕ → Bool
is_pragma hash text = bytes_eq text (codes "pragma")
is_pragma _ text = false

abbrev pub word_found : Standing → List ℕ → Found
word_found s text =
    if nat_le (length text) 64 then (if is_pragma s.line text then next (pragma text) else given s text (k.Word text))
    else fault s 4

abbrev pub NumberFound : Standing → List ℕ → Found → Type 0
NumberFound s text found =
    ((value : ℕ) × (kind : CType) × IsConstant text value kind × (found ≡ given s text (k.Number value kind)))
    ⊎ (((value : ℕ) (kind : CType) → ¬ IsConstant text value kind) × (found ≡ fault s 3))

-- what the text of a token is
abbrev pub TokenFound : Standing → List ℕ → Found → Type 0
TokenFound s text found =
    (IsWord text × (found ≡ word_found s text))
    ⊎ ((IsNumber text × NumberFound s text found)
    ⊎ ((punct : Punct) × (text ≡ spelling punct) × (found ≡ given s text (k.Punct punct))))

-- where no white space and no comment begins: the longest token, or a byte at which none begins
abbrev pub LongestToken : Standing → Found → Type 0
LongestToken s found =
    ((text rest : List ℕ) × IsLongest (IsToken (is_first s.line)) s.left text rest × TokenFound s text found)
    ⊎ (NoneBegins (IsToken (is_first s.line)) s.left × (found ≡ fault s 1))

-- in a pragma line nothing is looked at but comments and the line's end
abbrev pub AtToken : Line → Standing → Found → Type 0
AtToken pragma_line s found = found ≡ next (gap (take 1 s.left))
AtToken _ s found = LongestToken s found

abbrev pub At : Opening → Standing → Found → Type 0
At at_end s found = found ≡ ends whole
At at_line_end s found = found ≡ next line_end
At (at_space n) s found = found ≡ next (gap (take n s.left))
At at_line_comment s found = (text rest : List ℕ) × IsLongest IsLineComment s.left text rest × (found ≡ next (gap text))
At at_block_comment s found =
    ((text rest : List ℕ) × IsShortest IsBlockComment s.left text rest × (found ≡ next (gap text)))
    ⊎ (NoneBegins IsBlockComment s.left × (found ≡ fault s 2))
At at_token s found = AtToken s.line s found

-- what is found at a place
abbrev pub Finds : Standing → Found → Type 0
Finds s found = At (opening s.left) s found

-- A source is a row of pieces up to its end or its first fault.
abbrev pub Reads : Standing → List Piece → End → Type 0
Reads s [] end = Finds s (ends end)
Reads s (piece ∷ pieces) end = Finds s (next piece) × Reads (after s piece) pieces end

-- `pragma` follows on the same line, with nothing but white space and comments before it
abbrev pub pragma_follows : List Piece → Bool
pragma_follows [] = false
pragma_follows (gap text ∷ pieces) = pragma_follows pieces
pragma_follows (pragma text ∷ pieces) = true
pragma_follows (_ ∷ pieces) = false

-- The tokens of a row of pieces. A pragma line gives none.
abbrev pub tokens_of : List Piece → List Token
tokens_of [] = []
tokens_of (lexeme text token ∷ pieces) =
    if is_hash token.kind && pragma_follows pieces then tokens_of pieces else (token ∷ tokens_of pieces)
tokens_of (_ ∷ pieces) = tokens_of pieces

abbrev pub start_of : List ℕ → Standing
start_of source = record { left = source; place = text_start; line = empty; glued = true }

-- the most bytes that a source may have
abbrev pub source_limit : ℕ
source_limit = 65536

-- the bytes are the text of these tokens
abbrev pub Spells : List ℕ → List Token → Type 0
Spells source result =
    (length source ≤ source_limit) × ((pieces : List Piece) × Reads (start_of source) pieces whole × (result ≡ tokens_of pieces))

-- The first fault of a source: rule 30, a source that is too long, at its first byte too many; else the earliest of
-- rule 1, no token begins here, rule 2, a comment that is not closed, rule 3, a malformed number, rule 4, a word of more than 64 bytes.
abbrev pub FirstFault : List ℕ → Refusal → Type 0
FirstFault source r =
    ((source_limit < length source) × (r ≡ record { rule = 30; place = place_after text_start (take source_limit source) }))
    ⊎ ((length source ≤ source_limit) × ((pieces : List Piece) × Reads (start_of source) pieces (refused r)))

-- ---- what holds of these relations

-- A source is the text of at most one list of tokens, or has at most one first fault, and never both.
pub record SpellsOnce (source : List ℕ) : Type 0 where
  pub one_list : (tokens others : List Token) → Spells source tokens → Spells source others → others ≡ tokens
  pub one_fault : (r q : Refusal) → FirstFault source r → FirstFault source q → q ≡ r
  pub never_both : (tokens : List Token) (r : Refusal) → Spells source tokens → ¬ FirstFault source r
