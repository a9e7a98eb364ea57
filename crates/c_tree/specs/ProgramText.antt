-- Which texts are which program.
use Rattle.std.specs.Prelude.{◌≡◌, ℕ, ◌≤◌, false, List, length, Some}
use Rattle.std.specs.List.{All}
use Rattle.c_token.specs.declared.token.Token.{Token}
use Rattle.c_token.specs.declared.token.TokenKind.{TokenKind}
use Rattle.c_token.specs.declared.token.TokenKind.TheVariants as k
use Rattle.c_token.specs.Spelling.{IsWord}
use Rattle.c_token.specs.Constants.{IsConstant}
use Rattle.c_token.specs.Replacement.{exact_types, find_word}
use Rattle.c_token.specs.SourceText.{Piece, Reads, tokens_of, start_of, whole, is_hash}
use Rattle.hls_base.specs.TextPlaces.{text_start, place_after}
use Rattle.c_tree.specs.Tree.{ProgramTree}
use Rattle.c_tree.specs.Terminals.{Terminal, terminals}
use Rattle.c_tree.specs.Grammar.{DerivesItems, DerivesProgram}
use Rattle.c_tree.specs.Places.{without_places}

-- The text is a row of white space, comments and tokens, C11 6.4, and these tokens are the program, C11 6.9, wherever they stand. None of them is a `#`, so that no line is a directive
-- and the preprocessor leaves each token as it is, C11 6.10. The text may have more bytes and more tokens than a source may have.
pub record IsTextOf (text : List ℕ) (program : ProgramTree) : Type 0 where
  pub pieces : List Piece
  pub derived : ProgramTree
  pub reads : Reads (start_of text) pieces whole
  pub no_directives : All (λ (t : Token). is_hash t.kind ≡ false) (tokens_of pieces)
  pub derives : DerivesProgram (terminals (tokens_of pieces)) (place_after text_start text) derived
  pub same : without_places derived ≡ without_places program

-- What a token of a program may be: a word of at most 64 bytes, a number that some constant is, a punctuator, or the type of one of the eight names of `stdint.h`.
abbrev pub MayStand : TokenKind → Type 0
MayStand (k.Word text) = IsWord text × (length text ≤ 64)
MayStand (k.Number value kind) = (text : List ℕ) × IsConstant text value kind
MayStand (k.Punct punct) = Unit {0}
MayStand (k.TypeWord kind) = (text : List ℕ) × (find_word text exact_types ≡ Some kind)

-- Some tokens are the program.
pub record HasTokens (program : ProgramTree) : Type 0 where
  pub tokens : List Terminal
  pub may_stand : All (λ (t : Terminal). MayStand t.kind) tokens
  pub derives : DerivesItems tokens program.items
