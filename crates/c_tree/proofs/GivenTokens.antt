-- The tokens that a source gives may stand in a program: what the lexer, the preprocessor and the grammar answer meets the condition of printing.
use Rattle.std.proofs.Common.{ℕ, sym, subst, List, [], ◌∷◌, ◌++◌, length, Option, Some, None, inl, inr}
use Rattle.std.specs.Prelude.{◌&&◌, nat_le}
use Rattle.std.proofs.lemmas.Bool.{cond_both, leb-true}
use Rattle.c_token.specs.declared.token.Token.{Token}
use Rattle.c_token.specs.declared.token.TokenKind.{TokenKind}
use Rattle.c_token.specs.Characters.{Opening, at_end, at_line_end, at_space, at_line_comment, at_block_comment, at_token, opening}
use Rattle.c_token.specs.Spelling.{IsWord}
use Rattle.c_token.specs.SourceText.{Line, empty, hash, pragma_line, tokens, Standing, Piece, gap, line_end, lexeme, pragma, after, End, whole, Found, next, is_pragma, word_found, TokenFound, LongestToken, AtToken, At, Reads, is_hash, pragma_follows, tokens_of, start_of, Spells}
use Rattle.c_tree.specs.Terminals.{terminals}
use Rattle.c_tree.specs.ProgramText.{MayStand}
use Rattle.c_tree.proofs.Again.{Fit}

abbrev pub FitTokens : List Token → Type 0
FitTokens ts = Fit (terminals ts)

pub fit_append : (ts us : List Token) → FitTokens ts → FitTokens us → FitTokens (ts ++ us)
fit_append [] us f h = h
fit_append (t ∷ ts) us f h = (f.0, fit_append ts us f.1 h)

-- ---- tokens of a source

-- the token that is found, if it is one
abbrev token_found : Found → Option TokenKind
token_found (next (lexeme text token)) = Some token.kind
token_found _ = None

-- if a token is found, it may stand
abbrev Stands : Found → Type 0
Stands (next (lexeme text token)) = MayStand token.kind
Stands _ = Unit {0}

word_stands : (s : Standing) (text : List ℕ) → IsWord text → Stands (word_found s text)
word_stands s text w =
    cond_both (nat_le (length text) 64) _ _ Stands
    (λ short. cond_both (is_pragma s.line text) _ _ Stands (λ e. tt) (λ e. (w, leb-true (length text) 64 short)))
    (λ long. tt)

found_stands : (s : Standing) (text : List ℕ) (found : Found) → TokenFound s text found → Stands found
found_stands s text found (inl (w, e)) = subst Stands (sym e) (word_stands s text w)
found_stands s text found (inr (inl (n, inl (value, kind, c, e)))) = subst Stands (sym e) (text, c)
found_stands s text found (inr (inl (n, inr (none, e)))) = subst Stands (sym e) tt
found_stands s text found (inr (inr (punct, t, e))) = subst Stands (sym e) tt

longest_stands : (s : Standing) (found : Found) → LongestToken s found → Stands found
longest_stands s found (inl (text, rest, l, t)) = found_stands s text found t
longest_stands s found (inr (none, e)) = subst Stands (sym e) tt

at_token_stands : (line : Line) (s : Standing) (found : Found) → AtToken line s found → Stands found
at_token_stands empty s found a = longest_stands s found a
at_token_stands hash s found a = longest_stands s found a
at_token_stands pragma_line s found a = subst Stands (sym a) tt
at_token_stands tokens s found a = longest_stands s found a

at_stands : (o : Opening) (s : Standing) (found : Found) → At o s found → Stands found
at_stands at_end s found a = subst Stands (sym a) tt
at_stands at_line_end s found a = subst Stands (sym a) tt
at_stands (at_space n) s found a = subst Stands (sym a) tt
at_stands at_line_comment s found (text, rest, l, e) = subst Stands (sym e) tt
at_stands at_block_comment s found (inl (text, rest, l, e)) = subst Stands (sym e) tt
at_stands at_block_comment s found (inr (none, e)) = subst Stands (sym e) tt
at_stands at_token s found a = at_token_stands s.line s found a

read_stands : (s : Standing) (pieces : List Piece) (end : End) → Reads s pieces end → FitTokens (tokens_of pieces)
read_stands s [] end r = tt
read_stands s (gap text ∷ pieces) end r = read_stands (after s (gap text)) pieces end r.1
read_stands s (line_end ∷ pieces) end r = read_stands (after s line_end) pieces end r.1
read_stands s (pragma text ∷ pieces) end r = read_stands (after s (pragma text)) pieces end r.1
read_stands s (lexeme text token ∷ pieces) end r =
    let rest = read_stands (after s (lexeme text token)) pieces end r.1 in
    cond_both (is_hash token.kind && pragma_follows pieces) (tokens_of pieces) (token ∷ tokens_of pieces) FitTokens (λ e. rest)
    (λ e. (at_stands (opening s.left) s (next (lexeme text token)) r.0, rest))

pub spelled_stand : (source : List ℕ) (ts : List Token) → Spells source ts → FitTokens ts
spelled_stand source ts (l, (pieces, r, e)) = subst FitTokens (sym e) (read_stands (start_of source) pieces whole r)
