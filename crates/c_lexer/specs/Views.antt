-- What the lexer's own types stand for, and what one of its steps does.
use Rattle.std.specs.Prelude.{◌≡◌, ◌-◌, ◌<◌, true, List, [], ◌∷◌, ◌++◌, length, take, Result, Ok, Err}
use Rattle.hls_base.specs.declared.refusal.Fail.{Fail}
use Rattle.hls_base.specs.declared.refusal.Fail.TheVariants.{Refused, Memory}
use Rattle.hls_base.specs.declared.refusal.Refusal.{Refusal}
use Rattle.c_token.specs.declared.token.Token.{Token}
use Rattle.c_token.specs.Characters as chars
use Rattle.c_token.specs.SourceText as text
use Rattle.c_token.specs.SourceText.{Standing, Piece, Found, lexeme, pragma, next, ends, refused, after, is_hash}
use Rattle.c_lexer.specs.declared.bytes.Opening.{Opening}
use Rattle.c_lexer.specs.declared.bytes.Opening.TheVariants as o
use Rattle.c_lexer.specs.declared.cursor.Line.{Line}
use Rattle.c_lexer.specs.declared.cursor.Line.TheVariants as l

abbrev pub opening_of : Opening → chars.Opening
opening_of o.LineEnd = chars.at_line_end
opening_of (o.Space n) = chars.at_space n
opening_of o.LineComment = chars.at_line_comment
opening_of o.BlockComment = chars.at_block_comment
opening_of o.Token = chars.at_token

abbrev pub line_of : Line → text.Line
line_of l.Empty = text.empty
line_of l.Hash = text.hash
line_of l.Pragma = text.pragma_line
line_of l.Tokens = text.tokens

-- the tokens given so far, once a piece is taken: `pragma` takes the `#` back
abbrev pub put : Piece → List Token → List Token
put (lexeme bytes token) ts = ts ++ token ∷ []
put (pragma bytes) ts = take (length ts - 1) ts
put _ ts = ts

-- a `#` is a token only where it begins its line, and `pragma` stands behind one
abbrev pub Fits : text.Line → Piece → Type 0
Fits line (lexeme bytes token) = is_hash token.kind ≡ true → line ≡ text.empty
Fits line (pragma bytes) = line ≡ text.hash
Fits line _ = Unit {0}

-- what one step does, where a relation says what is found
abbrev pub Steps : (Found → Type 0) → Result (Unit {0}) Fail → Standing → Standing → List Token → List Token → Type 0
Steps Finds (Ok _) old new ts us =
    (piece : Piece) × Finds (next piece) × Fits old.line piece × (new ≡ after old piece) × (us ≡ put piece ts) × (length new.left < length old.left)
Steps Finds (Err (Refused r)) old new ts us = Finds (ends (refused r))
Steps Finds (Err Memory) old new ts us = Unit {0}
