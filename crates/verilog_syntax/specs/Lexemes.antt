-- The tokens of a module's text with their places, as far as they go.
use Rattle.std.specs.Prelude.{◌≡◌, ℕ, ◌<◌, List, [], ◌∷◌, ◌++◌, codes, length, map}
use Rattle.std.specs.List.{All}
use Rattle.hls_base.specs.declared.place.Place.{Place}
use Rattle.rtl_core.specs.ModuleTokens.{Token, IsToken, IsLongest, IsWhite, IsAtLineEnd, HasNoEnd}
use Rattle.hls_base.specs.TextPlaces.{place_after}

pub record Lexeme : Type 0 where
  pub token : Token
  pub place : Place

abbrev pub tokens_of : List Lexeme → List Token
tokens_of ls = map (λ (l : Lexeme). l.token) ls

-- white space of one byte or a comment, before the rest of the text
pub data IsGap : List ℕ → List ℕ → Type 0 where
  white : (c : ℕ) (rest : List ℕ) → IsWhite c → IsGap (c ∷ []) rest
  line_comment : (body rest : List ℕ) → All (λ c. c ≡ 10 → ⊥) body → IsAtLineEnd rest → IsGap (codes "//" ++ body) rest
  block_comment : (body rest : List ℕ) → HasNoEnd body → IsGap (codes "/*" ++ (body ++ codes "*/")) rest

-- The bytes from a place on are a row of white space, comments and these tokens, up to a rest at its place.
pub data Reads : List ℕ → Place → List Lexeme → List ℕ → Place → Type 0 where
  over : (rest : List ℕ) (at : Place) → Reads rest at [] rest at
  a_gap : (text bytes : List ℕ) (at : Place) (lexemes : List Lexeme) (rest : List ℕ) (end : Place) → IsGap text bytes → Reads bytes (place_after at text) lexemes rest end
      → Reads (text ++ bytes) at lexemes rest end
  a_token : (text bytes : List ℕ) (at : Place) (token : Token) (lexemes : List Lexeme) (rest : List ℕ) (end : Place) → IsToken text token → IsLongest text bytes
      → Reads bytes (place_after at text) lexemes rest end → Reads (text ++ bytes) at (record { token = token; place = at } ∷ lexemes) rest end

-- there is a byte, and no white space, no comment and no token begins at it
pub record NothingBegins (bytes : List ℕ) : Type 0 where
  pub some : 0 < length bytes
  pub gap : (text rest : List ℕ) → bytes ≡ text ++ rest → IsGap text rest → ⊥
  pub token : (text rest : List ℕ) (token : Token) → bytes ≡ text ++ rest → IsToken text token → ⊥
