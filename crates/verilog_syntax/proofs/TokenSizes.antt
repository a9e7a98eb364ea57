-- The constants among the tokens of a text have 1 to 128 bits, and no token is empty.
use Rattle.std.proofs.Common.{◌≡◌, ℕ, ◌<◌, ◌≤◌, Bool, true, false, List, [], ◌∷◌, ◌++◌, length, codes, refl, sym, ap, ◌∙◌, subst, arith, length-append}
use Rattle.std.specs.List.{All, Contains}
use Rattle.std.proofs.lemmas.Bool.{false≢true}
use Rattle.std.proofs.lemmas.List.Elements.{All-nil, All-cons, All-contains}
use Rattle.hls_base.specs.declared.place.Place.{Place}
use Rattle.rtl_core.specs.Valid.{IsBetween, IsIdentifier}
use Rattle.rtl_core.specs.ModuleTokens.{Token, Word, Number, Constant, Sign, signs, IsToken}
use Rattle.rtl_core.proofs.Tokens.{every_true}
use Rattle.verilog_syntax.specs.Lexemes.{Lexeme, tokens_of, Reads, over, a_gap, a_token}

abbrev pub SizedToken : Token → Type 0
SizedToken (Word text) = Unit {0}
SizedToken (Number digits) = Unit {0}
SizedToken (Constant bits value) = IsBetween 1 128 bits
SizedToken (Sign text) = Unit {0}

token_sized : (text : List ℕ) (token : Token) → IsToken text token → SizedToken token
token_sized text (Word w) h = tt
token_sized text (Number ds) h = tt
token_sized text (Constant bits value) h = h.in_range
token_sized text (Sign s) h = tt

pub read_sized : (bytes : List ℕ) (place : Place) (ls : List Lexeme) (rest : List ℕ) (end : Place) → Reads bytes place ls rest end → All SizedToken (tokens_of ls)
read_sized _ _ _ rest end (over bytes place) = All-nil SizedToken
read_sized _ place ls rest end (a_gap text bytes place2 ls2 rest2 end2 gap r) = read_sized bytes _ ls rest end r
read_sized _ place _ rest end (a_token text bytes place2 token ls2 rest2 end2 is longest r) = All-cons SizedToken token (tokens_of ls2) (token_sized text token is) (read_sized bytes _ ls2 rest end r)

-- ---- tokens are not empty

abbrev has_some : List ℕ → Bool
has_some [] = false
has_some (c ∷ cs) = true

sign_some : (s : List ℕ) → [] ≡ s → Contains signs s → ⊥
sign_some s e h = false≢true (ap has_some e ∙ All-contains (λ t. has_some t ≡ true) signs s (every_true has_some signs refl) h)

word_some : (w : List ℕ) → [] ≡ w → IsIdentifier w → ⊥
word_some w e h = subst IsIdentifier (sym e) h

pub token_some : (text : List ℕ) (token : Token) → IsToken text token → 0 < length text
token_some (c ∷ cs) token h = omega arith
token_some [] (Word w) h = absurd (word_some w h.0 h.1)
token_some [] (Number ds) h = absurd (omega (arith, h.1.0, ap length h.0))
token_some [] (Constant bits value) h = absurd (omega (arith, h.is_number.0, ap length h.split, length-append h.size (codes "'h" ++ h.digits)))
token_some [] (Sign s) h = absurd (sign_some s h.0 h.1)

pub no_more_lexemes : (bytes : List ℕ) (place : Place) (ls : List Lexeme) (rest : List ℕ) (end : Place) → Reads bytes place ls rest end → length ls ≤ length bytes
no_more_lexemes _ _ _ rest end (over bytes place) = omega arith
no_more_lexemes _ place ls rest end (a_gap text bytes place2 ls2 rest2 end2 gap r) = omega (arith, no_more_lexemes bytes _ ls rest end r, length-append text bytes)
no_more_lexemes _ place _ rest end (a_token text bytes place2 token ls2 rest2 end2 is longest r) =
    omega (arith, no_more_lexemes bytes _ ls2 rest end r, length-append text bytes, token_some text token is)
