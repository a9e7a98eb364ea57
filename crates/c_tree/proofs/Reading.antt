-- The text of a row is its tokens with white space between them.
use Rattle.std.proofs.Common.{◌≡◌, ℕ, zero, suc, ◌<◌, ◌≤◌, ◌∙◌, sym, refl, ap, subst, Bool, true, false, List, [], ◌∷◌, ◌++◌, length, codes, arith, inl, inr}
use Rattle.std.specs.Prelude.{◌&&◌, ◌||◌, not, ◌==◌, slice_index, if◌then◌else◌}
use Rattle.std.specs.List.{All}
use Rattle.std.proofs.lemmas.Bool.{cond_both, or_left, or_right, or_cases, both_ways, eqb-true, le-leb}
use Rattle.std.proofs.Math.Seq.{drop-append_seam}
use Rattle.std.proofs.lemmas.List.Elements.{All-nil, All-cons}
use Rattle.hls_base.specs.declared.place.Place.{Place}
use Rattle.c_token.specs.declared.punct.Punct.{Punct}
use Rattle.c_token.specs.declared.punct.Punct.TheVariants as p
use Rattle.c_token.specs.declared.token.Token.{Token}
use Rattle.c_token.specs.declared.token.TokenKind.{TokenKind}
use Rattle.c_token.specs.declared.token.TokenKind.TheVariants as k
use Rattle.c_token.specs.Characters.{opening, at_token, at_space, at_line_end, at_end, is_letter, is_digit, is_blank}
use Rattle.c_token.specs.Longest.{IsLongest}
use Rattle.c_token.specs.Spelling.{IsToken, spelling}
use Rattle.c_token.specs.SourceText.{Line, empty, hash, pragma_line, tokens, is_first, Standing, Piece, gap, line_end, lexeme, is_hash, line_after_token, Found, next, whole, given, is_pragma, word_found, TokenFound, LongestToken, AtToken, At, Reads, pragma_follows, tokens_of}
use Rattle.hls_base.specs.TextPlaces.{place_after}
use Rattle.c_tree.specs.declared.print.row.Written.TheVariants as w
use Rattle.c_tree.specs.Terminals.{Terminal, terminals}
use Rattle.c_tree.specs.Rows.{Row}
use Rattle.c_tree.specs.RowText.{token_text, is_closed, may_touch, separator, indentation, row_text}
use Rattle.c_tree.proofs.Longest.{every, implied, goes_on_with, ends_word, ends_number, ends_sign, Before, word_longest, number_longest, sign_longest}
use Rattle.c_tree.proofs.Openings.{opens_letter, opens_digit, opens_sign}
use Rattle.c_tree.proofs.Matching.{Matches, IsSpelled, Spelled}
use Rattle.c_token.proofs.Signs.{sign_no_letter, sign_no_digit, spelling-long}
use Rattle.c_token.proofs.Unique.{word-letter, number-digit}

-- a place on a line that is no directive
abbrev pub IsOpen : Line → Type 0
IsOpen empty = Unit {0}
IsOpen hash = ⊥
IsOpen pragma_line = ⊥
IsOpen tokens = Unit {0}

abbrev pub no_hash : Token → Type 0
no_hash t = is_hash t.kind ≡ false

abbrev pub standing : List ℕ → Place → Line → Bool → Standing
standing text at line glued = record { left = text; place = at; line = line; glued = glued }

-- the text is a row of pieces with the tokens of this row
pub record Read (text : List ℕ) (row : Row) (at : Place) (line : Line) (glued : Bool) : Type 0 where
  pub pieces : List Piece
  pub reads : Reads (standing text at line glued) pieces whole
  pub plain : All no_hash (tokens_of pieces)
  pub matches : Matches (terminals (tokens_of pieces)) row

-- ---- white space

space_opens : (text : List ℕ) → opening (32 ∷ text) ≡ at_space 1
unfolding opening is_blank
space_opens text = grind arith

line_opens : (text : List ℕ) → opening (10 ∷ text) ≡ at_line_end
unfolding opening
line_opens text = grind arith

end_opens : opening [] ≡ at_end
unfolding opening
end_opens = refl

nothing_left : (at : Place) (line : Line) (glued : Bool) → Read [] [] at line glued
nothing_left at line glued = record {
  pieces = [];
  reads = subst (λ o. At o (standing [] at line glued) (Found.ends whole)) (sym end_opens) refl;
  plain = All-nil no_hash;
  matches = refl;
}

a_space : (text : List ℕ) (row : Row) (at : Place) (line : Line) (glued : Bool) → Read text row (place_after at (32 ∷ [])) line false → Read (32 ∷ text) row at line glued
a_space text row at line glued r = record {
  pieces = gap (32 ∷ []) ∷ r.pieces;
  reads = (subst (λ o. At o (standing (32 ∷ text) at line glued) (next (gap (32 ∷ [])))) (sym (space_opens text)) refl, r.reads);
  plain = r.plain;
  matches = r.matches;
}

a_line : (text : List ℕ) (row : Row) (at : Place) (line : Line) (glued : Bool) → Read text row (place_after at (10 ∷ [])) empty false → Read (10 ∷ text) row at line glued
a_line text row at line glued r = record {
  pieces = line_end ∷ r.pieces;
  reads = (subst (λ o. At o (standing (10 ∷ text) at line glued) (next line_end)) (sym (line_opens text)) refl, r.reads);
  plain = r.plain;
  matches = r.matches;
}

-- ---- a token

abbrev token_in : Place → Line → Bool → TokenKind → Token
token_in at line glued kind = record { kind = kind; place = at; first = is_first line; glued = glued }

on_line : (line : Line) (text : List ℕ) (at : Place) (glued : Bool) (found : Found) → IsOpen line → LongestToken (standing text at line glued) found → AtToken line (standing text at line glued) found
on_line empty text at glued found o l = l
on_line hash text at glued found o l = absurd o
on_line pragma_line text at glued found o l = absurd o
on_line tokens text at glued found o l = l

line_behind : (line : Line) (kind : TokenKind) → IsOpen line → is_hash kind ≡ false → line_after_token line kind ≡ tokens
line_behind empty kind o e = ap (λ b. if b then hash else tokens) e
line_behind hash kind o e = refl
line_behind pragma_line kind o e = refl
line_behind tokens kind o e = refl

taken : (token : Token) (text : List ℕ) (pieces : List Piece) → is_hash token.kind ≡ false → tokens_of (lexeme text token ∷ pieces) ≡ token ∷ tokens_of pieces
taken token text pieces e = ap (λ b. if b && pragma_follows pieces then tokens_of pieces else (token ∷ tokens_of pieces)) e

-- what is known of a token and of what follows it
record Taken (kind : TokenKind) (text rest : List ℕ) (at : Place) (line : Line) (glued : Bool) : Type 0 where
  opens : opening (text ++ rest) ≡ at_token
  longest : IsLongest (IsToken (is_first line)) (text ++ rest) text rest
  found : TokenFound (standing (text ++ rest) at line glued) text (given (standing (text ++ rest) at line glued) text kind)
  plain : is_hash kind ≡ false

a_token : (kind : TokenKind) (text rest : List ℕ) (row : Row) (at : Place) (line : Line) (glued : Bool) → IsOpen line → Taken kind text rest at line glued
    → Read rest row (place_after at text) tokens true → Read (text ++ rest) (w.Token kind ∷ row) at line glued
a_token kind text rest row at line glued open_line t r =
    let token = token_in at line glued kind in
    let s = standing (text ++ rest) at line glued in
    let all = taken token text r.pieces t.plain in
    record {
      pieces = lexeme text token ∷ r.pieces;
      reads = (
        subst (λ o. At o s (given s text kind)) (sym t.opens) (on_line line (text ++ rest) at glued (given s text kind) open_line (inl (text, rest, t.longest, t.found))),
        subst (λ left. Reads (standing left (place_after at text) (line_after_token line kind) true) r.pieces whole) (sym (drop-append_seam text rest))
            (subst (λ l. Reads (standing rest (place_after at text) l true) r.pieces whole) (sym (line_behind line kind open_line t.plain)) r.reads),
      );
      plain = subst (All no_hash) (sym all) (All-cons no_hash token (tokens_of r.pieces) t.plain r.plain);
      matches = subst (λ ts. Matches (terminals ts) (w.Token kind ∷ row)) (sym all) (at, terminals (tokens_of r.pieces), refl, r.matches);
    }

-- ---- tokens of each kind

abbrev pub ends : TokenKind → ℕ → Bool
ends (k.Word text) = ends_word
ends (k.Number value kind) = ends_number
ends (k.Punct punct) = ends_sign punct
ends (k.TypeWord kind) = λ b. true

no_pragma : (line : Line) (text : List ℕ) → IsOpen line → is_pragma line text ≡ false
no_pragma empty text o = refl
no_pragma hash text o = absurd o
no_pragma pragma_line text o = refl
no_pragma tokens text o = refl

word_is_found : (text left : List ℕ) (at : Place) (line : Line) (glued : Bool) → IsOpen line → length text ≤ 64
    → given (standing left at line glued) text (k.Word text) ≡ word_found (standing left at line glued) text
word_is_found text left at line glued o short =
    rw (le-leb (length text) 64 short, no_pragma line text o) refl

sign_first : (q : Punct) (first : Bool) → is_hash (k.Punct q) ≡ false → q ≡ p.Hash → first ≡ true
sign_first q first e same = absurd (let x : true ≡ false = sym (ap (λ x. is_hash (k.Punct x)) same) ∙ e in cc)

taken_kind : (kind : TokenKind) (rest : List ℕ) (at : Place) (line : Line) (glued : Bool) → IsSpelled kind → IsOpen line → Before (ends kind) rest
    → Taken kind (token_text kind) rest at line glued
taken_kind (k.Word text) rest at line glued s o h = record {
  opens = opens_letter text rest s.0.0 (word-letter text s.0);
  longest = word_longest (is_first line) text rest s.0 h;
  found = inl (s.0, word_is_found text (text ++ rest) at line glued o s.1);
  plain = refl;
}
taken_kind (k.Number value kind) rest at line glued s o h =
    let text = token_text (k.Number value kind) in
    record {
      opens = opens_digit text rest s.0.0 (number-digit text s.0);
      longest = number_longest (is_first line) text rest s.0 h;
      found = inr (inl (s.0, inl (value, kind, s.1, refl)));
      plain = refl;
    }
taken_kind (k.Punct q) rest at line glued s o h = record {
  opens = opens_sign q rest h;
  longest = sign_longest (is_first line) q rest (sign_first q (is_first line) s) h;
  found = inr (inr (q, refl, refl));
  plain = s;
}
taken_kind (k.TypeWord kind) rest at line glued s o h = absurd s

-- ---- what follows a token in a row

space_ends : (kind : TokenKind) → ends kind 32 ≡ true
unfolding is_letter is_digit
space_ends (k.Word text) = refl
space_ends (k.Number value kind) = refl
space_ends (k.Punct q) = or_right (is_closed q) true refl
space_ends (k.TypeWord kind) = refl

line_ends : (kind : TokenKind) → ends kind 10 ≡ true
unfolding is_letter is_digit
line_ends (k.Word text) = refl
line_ends (k.Number value kind) = refl
line_ends (k.Punct q) = or_right (is_closed q) true refl
line_ends (k.TypeWord kind) = refl

closed_ends_number : (q : Punct) → is_closed q ≡ true → ends_number (slice_index (spelling q) 0) ≡ true
unfolding spelling is_letter is_digit
closed_ends_number q = implied (is_closed q) _ (every (λ q. not (is_closed q) || ends_number (slice_index (spelling q) 0)) refl q)

closed_ends_sign : (q : Punct) → is_closed q ≡ true → not (goes_on_with (slice_index (spelling q) 0)) ≡ true
unfolding spelling
closed_ends_sign q = implied (is_closed q) _ (every (λ q. not (is_closed q) || not (goes_on_with (slice_index (spelling q) 0))) refl q)

differs : (test : ℕ → Bool) (c n : ℕ) (same : Bool) → (c == n) ≡ same → test n ≡ false → test c ≡ true → (c == n) ≡ false
differs test c n false e none is = e
differs test c n true e none is = absurd (both_ways (test n) none (ap test (sym (eqb-true c n e)) ∙ is))

letter_ends_sign : (c : ℕ) → is_letter c ≡ true → not (goes_on_with c) ≡ true
unfolding is_letter
letter_ends_sign c e =
    let d : (n : ℕ) → is_letter n ≡ false → (c == n) ≡ false = λ n none. differs is_letter c n (c == n) refl none e in
    rw (d 46 refl, d 62 refl, d 43 refl, d 45 refl, d 60 refl, d 61 refl, d 38 refl, d 124 refl, d 35 refl, d 47 refl, d 42 refl) refl

digit_ends_sign : (c : ℕ) → is_digit c ≡ true → not (goes_on_with c) ≡ true
unfolding is_digit
digit_ends_sign c e = grind (arith, e)

sign_ends_word : (q : Punct) → ends_word (slice_index (spelling q) 0) ≡ true
sign_ends_word q = ap (λ b. not (b || is_digit (slice_index (spelling q) 0))) (sign_no_letter q) ∙ ap not (sign_no_digit q)

touch_ends : (kind other : TokenKind) → IsSpelled other → may_touch kind other ≡ true → ends kind (slice_index (token_text other) 0) ≡ true
touch_ends (k.Word text) (k.Word other) s e = absurd cc
touch_ends (k.Word text) (k.Number value kind) s e = absurd cc
touch_ends (k.Word text) (k.Punct q) s e = sign_ends_word q
touch_ends (k.Word text) (k.TypeWord kind) s e = absurd cc
touch_ends (k.Number value kind) (k.Word other) s e = absurd cc
touch_ends (k.Number value kind) (k.Number v other) s e = absurd cc
touch_ends (k.Number value kind) (k.Punct q) s e = closed_ends_number q e
touch_ends (k.Number value kind) (k.TypeWord other) s e = absurd cc
touch_ends (k.Punct punct) (k.Word other) s e = or_right (is_closed punct) _ (letter_ends_sign (slice_index other 0) (word-letter other s.0))
touch_ends (k.Punct punct) (k.Number value kind) s e =
    let text = token_text (k.Number value kind) in or_right (is_closed punct) _ (digit_ends_sign (slice_index text 0) (number-digit text s.0))
touch_ends (k.Punct punct) (k.Punct q) s e = elim (or_cases (is_closed punct) (is_closed q) e) [
  | inl closed ↦ or_left (is_closed punct) _ closed
  | inr closed ↦ or_right (is_closed punct) _ (closed_ends_sign q closed)
]
touch_ends (k.Punct punct) (k.TypeWord kind) s e = absurd s
touch_ends (k.TypeWord kind) (k.Word other) s e = absurd cc
touch_ends (k.TypeWord kind) (k.Number value other) s e = absurd cc
touch_ends (k.TypeWord kind) (k.Punct q) s e = absurd cc
touch_ends (k.TypeWord kind) (k.TypeWord other) s e = absurd cc

token-long : (kind : TokenKind) → IsSpelled kind → 0 < length (token_text kind)
token-long (k.Word text) s = s.0.0
token-long (k.Number value kind) s = s.0.0
token-long (k.Punct q) s = spelling-long q
token-long (k.TypeWord kind) s = absurd s

before_text : (test : ℕ → Bool) (text rest : List ℕ) → 0 < length text → test (slice_index text 0) ≡ true → Before test (text ++ rest)
before_text test [] rest some e = absurd (omega arith)
before_text test (c ∷ cs) rest some e = e

follows : (kind : TokenKind) (row : Row) → Spelled row → Before (ends kind) (separator kind row ++ row_text row)
follows kind [] s = tt
follows kind (w.Space ∷ row) s = space_ends kind
follows kind (w.Line depth ∷ row) s = line_ends kind
follows kind (w.Token other ∷ row) s =
    cond_both (may_touch kind other) [] (codes " ") (λ gap. Before (ends kind) (gap ++ row_text (w.Token other ∷ row)))
    (λ touch. before_text (ends kind) (token_text other) (separator other row ++ row_text row) (token-long other s.0) (touch_ends kind other s.0 touch))
    (λ apart. space_ends kind)

-- ---- the whole row

same_tokens : {text : List ℕ} {row : Row} {at : Place} {line : Line} {glued : Bool} (more : Row) → ((ts : List Terminal) → Matches ts row → Matches ts more) → Read text row at line glued → Read text more at line glued
same_tokens more m r = record { pieces = r.pieces; reads = r.reads; plain = r.plain; matches = m (terminals (tokens_of r.pieces)) r.matches }

indented : (depth : ℕ) (text : List ℕ) (row : Row) (line : Line) → ((at : Place) → Read text row at line false) → (at : Place) → Read (indentation depth ++ text) row at line false
indented zero text row line r at = r at
indented (suc depth) text row line r at =
    let inner = indented depth text row line r in
    let rest = indentation depth ++ text in
    a_space (32 ∷ 32 ∷ 32 ∷ rest) row at line false
    (a_space (32 ∷ 32 ∷ rest) row _ line false (a_space (32 ∷ rest) row _ line false (a_space rest row _ line false (inner _))))

apart : (kind : TokenKind) (row : Row) → ((at : Place) (glued : Bool) → Read (row_text row) row at tokens glued) → (at : Place) → Read (separator kind row ++ row_text row) row at tokens true
apart kind [] r at = r at true
apart kind (w.Space ∷ row) r at = r at true
apart kind (w.Line depth ∷ row) r at = r at true
apart kind (w.Token other ∷ row) r at =
    let rest = w.Token other ∷ row in
    cond_both (may_touch kind other) [] (codes " ") (λ gap. Read (gap ++ row_text rest) rest at tokens true)
    (λ touch. r at true)
    (λ no_touch. a_space (row_text rest) rest at tokens true (r _ false))

pub row_reads : (row : Row) → Spelled row → (at : Place) (line : Line) (glued : Bool) → IsOpen line → Read (row_text row) row at line glued
row_reads [] s at line glued o = nothing_left at line glued
row_reads (w.Space ∷ row) s at line glued o = same_tokens (w.Space ∷ row) (λ ts m. m) (a_space (row_text row) row at line glued (row_reads row s _ line false o))
row_reads (w.Line depth ∷ row) s at line glued o =
    same_tokens (w.Line depth ∷ row) (λ ts m. m)
    (a_line (indentation depth ++ row_text row) row at line glued (indented depth (row_text row) row empty (λ place. row_reads row s place empty false tt) _))
row_reads (w.Token kind ∷ row) s at line glued o =
    a_token kind (token_text kind) (separator kind row ++ row_text row) row at line glued o
    (taken_kind kind (separator kind row ++ row_text row) at line glued s.0 o (follows kind row s.1))
    (apart kind row (λ place g. row_reads row s.1 place tokens g tt) _)
