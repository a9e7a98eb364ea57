-- A source has one list of tokens or one first fault, never both.
use Rattle.std.proofs.Common.{◌≡◌, ℕ, ◌∙◌, sym, refl, ap, subst, true, false, List, [], ◌∷◌, Some, arith, inl, inr}
use Rattle.std.specs.Prelude.{slice_index, nat_eq}
use Rattle.std.proofs.lemmas.Bool.{both_ways}
use Rattle.hls_base.specs.declared.refusal.Refusal.{Refusal}
use Rattle.c_token.specs.declared.ctype.CType.{CType}
use Rattle.c_token.specs.declared.punct.Punct.{Punct}
use Rattle.c_token.specs.declared.token.Token.{Token}
use Rattle.c_token.specs.declared.token.TokenKind.TheVariants as k
use Rattle.c_token.specs.Characters.{Opening, at_end, at_line_end, at_space, at_line_comment, at_block_comment, at_token, opening, is_letter, is_digit}
use Rattle.c_token.specs.Spelling.{IsLineComment, IsBlockComment, IsWord, IsNumber, in_word, in_number, spelling, IsToken}
use Rattle.c_token.specs.Constants.{IsConstant, type_of, radix_of}
use Rattle.c_token.specs.SourceText.{Line, empty, hash, pragma_line, tokens, is_first, Standing, Piece, after, End, whole, refused, Found, ends, next, given, NumberFound, TokenFound, LongestToken, AtToken, At, Finds, Reads, tokens_of, start_of, Spells, FirstFault, SpellsOnce}
use Rattle.c_token.proofs.Fronts.{longest_unique, shortest_unique}
use Rattle.c_token.proofs.Signs.{sign_no_letter, sign_no_digit, spelling_unique}

pub letter_no_digit : (b : ℕ) → is_letter b ≡ true → is_digit b ≡ true → ⊥
unfolding is_letter is_digit
letter_no_digit b l d = grind arith

pub word-letter : (text : List ℕ) → IsWord text → is_letter (slice_index text 0) ≡ true
unfolding in_word
word-letter text w = w.1 0 w.0

pub number-digit : (text : List ℕ) → IsNumber text → is_digit (slice_index text 0) ≡ true
unfolding in_number
number-digit text n = n.1 0 n.0

pub sign-letter : (text : List ℕ) (q : Punct) → text ≡ spelling q → is_letter (slice_index text 0) ≡ false
sign-letter text q e = ap (λ x. is_letter (slice_index x 0)) e ∙ sign_no_letter q

pub sign-digit : (text : List ℕ) (q : Punct) → text ≡ spelling q → is_digit (slice_index text 0) ≡ false
sign-digit text q e = ap (λ x. is_digit (slice_index x 0)) e ∙ sign_no_digit q

pub constant_unique : (text : List ℕ) (v w : ℕ) (kind other : CType) → IsConstant text v kind → IsConstant text w other → (v ≡ w) × (kind ≡ other)
constant_unique text v w kind other a b =
    let values : v ≡ w = a.is_value ∙ sym b.is_value in
    let suffixes : a.suffix ≡ b.suffix = (let e : Some a.suffix ≡ Some b.suffix = sym a.is_suffix ∙ b.is_suffix in cc) in
    let kinds : Some kind ≡ Some other = sym a.is_type ∙ (ap (λ x. type_of x a.suffix (nat_eq (radix_of text) 10)) values ∙ (ap (λ x. type_of w x (nat_eq (radix_of text) 10)) suffixes ∙ b.is_type)) in
    (values, cc)

number_unique : (s : Standing) (text : List ℕ) (f g : Found) → NumberFound s text f → NumberFound s text g → f ≡ g
number_unique s text f g (inl (v, kind, c, e)) (inl (w, other, d, h)) =
    let same = constant_unique text v w kind other c d in
    let values : v ≡ w = same.0 in
    let kinds : kind ≡ other = same.1 in
    e ∙ (ap (λ x. given s text (k.Number x kind)) values ∙ (ap (λ x. given s text (k.Number w x)) kinds ∙ sym h))
number_unique s text f g (inl (v, kind, c, e)) (inr (n, h)) = absurd (n v kind c)
number_unique s text f g (inr (n, e)) (inl (v, kind, c, h)) = absurd (n v kind c)
number_unique s text f g (inr (n, e)) (inr (m, h)) = e ∙ sym h

token_unique : (s : Standing) (text : List ℕ) (f g : Found) → TokenFound s text f → TokenFound s text g → f ≡ g
token_unique s text f g (inl (w, e)) (inl (x, h)) = e ∙ sym h
token_unique s text f g (inl (w, e)) (inr (inl (n, h))) = absurd (letter_no_digit (slice_index text 0) (word-letter text w) (number-digit text n))
token_unique s text f g (inl (w, e)) (inr (inr (q, t, h))) = absurd (both_ways _ (sign-letter text q t) (word-letter text w))
token_unique s text f g (inr (inl (n, e))) (inl (w, h)) = absurd (letter_no_digit (slice_index text 0) (word-letter text w) (number-digit text n))
token_unique s text f g (inr (inl (n, e))) (inr (inl (m, h))) = number_unique s text f g e h
token_unique s text f g (inr (inl (n, e))) (inr (inr (q, t, h))) = absurd (both_ways _ (sign-digit text q t) (number-digit text n))
token_unique s text f g (inr (inr (q, t, e))) (inl (w, h)) = absurd (both_ways _ (sign-letter text q t) (word-letter text w))
token_unique s text f g (inr (inr (q, t, e))) (inr (inl (n, h))) = absurd (both_ways _ (sign-digit text q t) (number-digit text n))
token_unique s text f g (inr (inr (q, t, e))) (inr (inr (r, u, h))) =
    let same : q ≡ r = spelling_unique q r (sym t ∙ u) in e ∙ (ap (λ x. given s text (k.Punct x)) same ∙ sym h)

longest_token_unique : (s : Standing) (f g : Found) → LongestToken s f → LongestToken s g → f ≡ g
longest_token_unique s f g (inl (t, r, a, x)) (inl (u, z, b, y)) =
    let same : t ≡ u = longest_unique (IsToken (is_first s.line)) s.left t r u z a b in
    token_unique s u f g (subst (λ v. TokenFound s v f) same x) y
longest_token_unique s f g (inl (t, r, a, x)) (inr (n, y)) = absurd (n t r a.0 a.1)
longest_token_unique s f g (inr (n, x)) (inl (t, r, a, y)) = absurd (n t r a.0 a.1)
longest_token_unique s f g (inr (n, x)) (inr (m, y)) = x ∙ sym y

at_token_unique : (line : Line) (s : Standing) (f g : Found) → AtToken line s f → AtToken line s g → f ≡ g
at_token_unique empty s f g a b = longest_token_unique s f g a b
at_token_unique hash s f g a b = longest_token_unique s f g a b
at_token_unique pragma_line s f g a b = a ∙ sym b
at_token_unique tokens s f g a b = longest_token_unique s f g a b

at_unique : (o : Opening) (s : Standing) (f g : Found) → At o s f → At o s g → f ≡ g
at_unique at_end s f g a b = a ∙ sym b
at_unique at_line_end s f g a b = a ∙ sym b
at_unique (at_space n) s f g a b = a ∙ sym b
at_unique at_line_comment s f g (t, r, a, x) (u, z, b, y) =
    x ∙ (ap (λ v. next (Piece.gap v)) (longest_unique IsLineComment s.left t r u z a b) ∙ sym y)
at_unique at_block_comment s f g (inl (t, r, a, x)) (inl (u, z, b, y)) =
    x ∙ (ap (λ v. next (Piece.gap v)) (shortest_unique IsBlockComment s.left t r u z a b) ∙ sym y)
at_unique at_block_comment s f g (inl (t, r, a, x)) (inr (n, y)) = absurd (n t r a.0 a.1)
at_unique at_block_comment s f g (inr (n, x)) (inl (t, r, a, y)) = absurd (n t r a.0 a.1)
at_unique at_block_comment s f g (inr (n, x)) (inr (m, y)) = x ∙ sym y
at_unique at_token s f g a b = at_token_unique s.line s f g a b

-- one thing is found at each place
pub finds_unique : (s : Standing) (f g : Found) → Finds s f → Finds s g → f ≡ g
finds_unique s f g a b = at_unique (opening s.left) s f g a b

-- a source is one row of pieces, with one end
pub reads_unique : (s : Standing) (ps qs : List Piece) (e f : End) → Reads s ps e → Reads s qs f → (ps ≡ qs) × (e ≡ f)
reads_unique s [] [] e f a b = let same : ends e ≡ ends f = finds_unique s (ends e) (ends f) a b in (refl, cc)
reads_unique s [] (q ∷ qs) e f a b = let same : ends e ≡ next q = finds_unique s (ends e) (next q) a b.0 in absurd cc
reads_unique s (p ∷ ps) [] e f a b = let same : next p ≡ ends f = finds_unique s (next p) (ends f) a.0 b in absurd cc
reads_unique s (p ∷ ps) (q ∷ qs) e f a b =
    let same : next p ≡ next q = finds_unique s (next p) (next q) a.0 b.0 in
    let piece : p ≡ q = cc in
    let rest = reads_unique (after s q) ps qs e f (subst (λ x. Reads (after s x) ps e) piece a.1) b.1 in
    let tail : ps ≡ qs = rest.0 in
    (cc, rest.1)

pub spells_once : (source : List ℕ) (ts us : List Token) → Spells source ts → Spells source us → ts ≡ us
spells_once source ts us (l, (ps, a, e)) (m, (qs, b, f)) =
    e ∙ (ap tokens_of (reads_unique (start_of source) ps qs whole whole a b).0 ∙ sym f)

pub spelled_or_refused : (source : List ℕ) (ts : List Token) (r : Refusal) → Spells source ts → FirstFault source r → ⊥
spelled_or_refused source ts r (l, (ps, a, e)) (inl (m, f)) = absurd (omega arith)
spelled_or_refused source ts r (l, (ps, a, e)) (inr (m, (qs, b))) =
    let same : whole ≡ refused r = (reads_unique (start_of source) ps qs whole (refused r) a b).1 in absurd cc

pub refused_once : (source : List ℕ) (r t : Refusal) → FirstFault source r → FirstFault source t → r ≡ t
refused_once source r t (inl (l, e)) (inl (m, f)) = e ∙ sym f
refused_once source r t (inl (l, e)) (inr (m, f)) = absurd (omega arith)
refused_once source r t (inr (l, e)) (inl (m, f)) = absurd (omega arith)
refused_once source r t (inr (l, (ps, a))) (inr (m, (qs, b))) =
    let same : refused r ≡ refused t = (reads_unique (start_of source) ps qs (refused r) (refused t) a b).1 in cc

pub spelled_once : (source : List ℕ) → SpellsOnce source
spelled_once source = record {
  one_list = λ tokens others a b. sym (spells_once source tokens others a b);
  one_fault = λ r q a b. sym (refused_once source r q a b);
  never_both = λ tokens r a b. spelled_or_refused source tokens r a b;
}
