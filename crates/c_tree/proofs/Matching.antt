-- Which tokens a row has, and that they can be spelled.
use Rattle.std.proofs.Common.{◌≡◌, ◌≤◌, false, List, [], ◌∷◌, length}
use Rattle.hls_base.specs.declared.place.Place.{Place}
use Rattle.c_token.specs.declared.token.TokenKind.{TokenKind}
use Rattle.c_token.specs.declared.token.TokenKind.TheVariants as k
use Rattle.c_token.specs.Spelling.{IsWord, IsNumber}
use Rattle.c_token.specs.Constants.{IsConstant}
use Rattle.c_token.specs.SourceText.{is_hash}
use Rattle.c_tree.specs.declared.print.row.Written.TheVariants as w
use Rattle.c_tree.specs.Terminals.{Terminal, terminal}
use Rattle.c_tree.specs.Rows.{Row}
use Rattle.c_tree.specs.RowText.{number_text}

-- the tokens of the row, each at some place
abbrev pub Matches : List Terminal → Row → Type 0
Matches ts [] = ts ≡ []
Matches ts (w.Space ∷ row) = Matches ts row
Matches ts (w.Line depth ∷ row) = Matches ts row
Matches ts (w.Token kind ∷ row) = (at : Place) × (rest : List Terminal) × (ts ≡ terminal kind at ∷ rest) × Matches rest row

-- what is written for the token is a token of this kind
abbrev pub IsSpelled : TokenKind → Type 0
IsSpelled (k.Word text) = IsWord text × (length text ≤ 64)
IsSpelled (k.Number value kind) = IsNumber (number_text value kind) × IsConstant (number_text value kind) value kind
IsSpelled (k.Punct punct) = is_hash (k.Punct punct) ≡ false
IsSpelled (k.TypeWord kind) = ⊥

abbrev pub Spelled : Row → Type 0
Spelled [] = Unit {0}
Spelled (w.Space ∷ row) = Spelled row
Spelled (w.Line depth ∷ row) = Spelled row
Spelled (w.Token kind ∷ row) = IsSpelled kind × Spelled row
