-- What the grammar reads of a token: what it is and where it stands. C11 6.4, 6.4.1, 6.5.16, 6.5.5 to 6.5.14.
use Rattle.std.specs.Prelude.{◌≡◌, ℕ, Bool, true, false, List, [], ◌∷◌, codes, map, Option, Some, None}
use Rattle.hls_base.specs.declared.place.Place.{Place}
use Rattle.c_token.specs.declared.ctype.CType.{CType}
use Rattle.c_token.specs.declared.punct.Punct.{Punct}
use Rattle.c_token.specs.declared.punct.Punct.TheVariants as p
use Rattle.c_token.specs.declared.token.Token.{Token}
use Rattle.c_token.specs.declared.token.TokenKind.{TokenKind}
use Rattle.c_token.specs.declared.token.TokenKind.TheVariants as k
use Rattle.c_token.specs.Replacement.{keywords, is_in}
use Rattle.c_tree.specs.declared.operator.Unary.{Unary}
use Rattle.c_tree.specs.declared.operator.Unary.TheVariants as u
use Rattle.c_tree.specs.declared.operator.Binary.{Binary}
use Rattle.c_tree.specs.declared.operator.Binary.TheVariants as b

pub record Terminal : Type 0 where
  pub kind : TokenKind
  pub at : Place

abbrev pub terminal_of : Token → Terminal
terminal_of token = record { kind = token.kind; at = token.place }

abbrev pub terminals : List Token → List Terminal
terminals tokens = map terminal_of tokens

abbrev pub terminal : TokenKind → Place → Terminal
terminal kind at = record { kind = kind; at = at }

abbrev pub sign : Punct → Place → Terminal
sign punct at = terminal (k.Punct punct) at

abbrev pub word : List ℕ → Place → Terminal
word text at = terminal (k.Word text) at

-- an identifier is a word that is no keyword
abbrev pub is_keyword : List ℕ → Bool
is_keyword text = is_in text keywords

-- the operator that stands before its operand, C11 6.5.3.3
abbrev pub prefix_of : Punct → Option Unary
prefix_of p.Plus = Some u.Plus
prefix_of p.Minus = Some u.Minus
prefix_of p.Tilde = Some u.Not
prefix_of p.Bang = Some u.LogNot
prefix_of _ = None

-- the operator that stands between its operands
abbrev pub operator_of : Punct → Option Binary
operator_of p.Star = Some b.Mul
operator_of p.Slash = Some b.Div
operator_of p.Percent = Some b.Rem
operator_of p.Plus = Some b.Add
operator_of p.Minus = Some b.Sub
operator_of p.ShiftLeft = Some b.Shl
operator_of p.ShiftRight = Some b.Shr
operator_of p.Less = Some b.Lt
operator_of p.Greater = Some b.Gt
operator_of p.LessEqual = Some b.Le
operator_of p.GreaterEqual = Some b.Ge
operator_of p.EqualEqual = Some b.Eq
operator_of p.BangEqual = Some b.Ne
operator_of p.Amp = Some b.And
operator_of p.Caret = Some b.Xor
operator_of p.Bar = Some b.Or
operator_of p.AmpAmp = Some b.LogAnd
operator_of p.BarBar = Some b.LogOr
operator_of _ = None

-- the operators of assignment, each with the operator that it applies first, C11 6.5.16
abbrev pub assignment_of : Punct → Option (Option Binary)
assignment_of p.Equal = Some None
assignment_of p.StarEqual = Some (Some b.Mul)
assignment_of p.SlashEqual = Some (Some b.Div)
assignment_of p.PercentEqual = Some (Some b.Rem)
assignment_of p.PlusEqual = Some (Some b.Add)
assignment_of p.MinusEqual = Some (Some b.Sub)
assignment_of p.ShiftLeftEqual = Some (Some b.Shl)
assignment_of p.ShiftRightEqual = Some (Some b.Shr)
assignment_of p.AmpEqual = Some (Some b.And)
assignment_of p.CaretEqual = Some (Some b.Xor)
assignment_of p.BarEqual = Some (Some b.Or)
assignment_of _ = None

-- whether the sign is `++`, or `--`
abbrev pub bump_of : Punct → Option Bool
bump_of p.PlusPlus = Some true
bump_of p.MinusMinus = Some false
bump_of _ = None
