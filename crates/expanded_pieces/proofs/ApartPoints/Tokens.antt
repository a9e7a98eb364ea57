-- Tokens of a source have different places, also those that words are replaced by.
use Rattle.std.proofs.Common.{◌≡◌, ◌∙◌, ◌⊎◌, inl, inr, ℕ, ◌+◌, ◌<◌, ◌≤◌, ◌==◌, ◌&&◌, arith, Bool, true, false, refl, sym, ap, subst, List, [], ◌∷◌, ◌++◌, length, Option, Some, None, Result, Ok, Err, if◌then◌else◌}
use Rattle.std.specs.Prelude.{nat_le}
use Rattle.hls_base.specs.declared.place.Place.{Place}
use Rattle.hls_base.specs.declared.refusal.Refusal.{Refusal}
use Rattle.hls_base.specs.TextPlaces.{next_place, place_after}
use Rattle.c_token.specs.declared.punct.Punct.{Punct}
use Rattle.c_token.specs.declared.token.Token.{Token}
use Rattle.c_token.specs.declared.token.TokenKind.{TokenKind}
use Rattle.c_token.specs.declared.token.TokenKind.TheVariants as k
use Rattle.c_token.specs.Characters.{Opening, at_end, at_line_end, at_space, at_line_comment, at_block_comment, at_token, opening}
use Rattle.c_token.specs.Spelling.{spelling}
use Rattle.c_token.specs.SourceText.{Line, empty, hash, pragma_line, tokens, Standing, Piece, gap, line_end, lexeme, pragma, is_hash, is_pragma, after, End, whole, next, fault, given, token_at, word_found, NumberFound, LongestToken, AtToken, At, Reads, pragma_follows, tokens_of, start_of}
use Rattle.c_token.specs.Replacement as r
use Rattle.c_token.specs.Replacement.{Part, Reading, Divides, Outcome, AndThen, TokenBecomes, body_of, placed, numbered, obey, count, behind, Becomes}
use Rattle.c_token.proofs.Signs.{sign_of, sign_of-spelling}
use Rattle.c_tree.specs.Terminals.{terminals}
use Rattle.expanded_pieces.specs.ApartPoints.Apart.{AreApart}
use Rattle.expanded_pieces.specs.ApartPoints.Places.{places_of}
use Rattle.expanded_pieces.specs.ApartPoints.{SourcePlacesDiffer}
use Rattle.expanded_pieces.proofs.ApartPoints.Apart.{IsIn, away_from, in_right, in_either, joined}

-- ---- places in order

-- a token stands earlier than another one
abbrev Earlier : Place → Place → Type 0
Earlier p q = (p.line < q.line) ⊎ ((p.line ≡ q.line) × (p.column < q.column))

abbrev NotLater : Place → Place → Type 0
NotLater p q = (p.line < q.line) ⊎ ((p.line ≡ q.line) × (p.column ≤ q.column))

not_later : (p q : Place) → Earlier p q → NotLater p q
not_later p q (inl h) = inl h
not_later p q (inr (e, h)) = inr (e, omega (arith, h))

earlier_still : (p q s : Place) → Earlier p q → NotLater q s → Earlier p s
earlier_still p q s (inl h) (inl g) = inl (omega (arith, h, g))
earlier_still p q s (inl h) (inr (e, g)) = inl (omega (arith, h, e))
earlier_still p q s (inr (e, h)) (inl g) = inl (omega (arith, e, g))
earlier_still p q s (inr (e, h)) (inr (f, g)) = inr (e ∙ f, omega (arith, h, g))

byte_behind : (p : Place) (byte : ℕ) → Earlier p (next_place p byte)
byte_behind p byte = either (byte == 10) where
  either : (b : Bool) → Earlier p (if b then record { line = p.line + 1; column = 1; part = 0 } else record { line = p.line; column = p.column + 1; part = 0 })
  either true = inl (omega arith)
  either false = inr (refl, omega arith)

text_behind : (p q : Place) (text : List ℕ) → NotLater p q → NotLater p (place_after q text)
text_behind p q [] h = h
text_behind p q (byte ∷ text) h = text_behind p (next_place q byte) text (on_ h) where
  on_ : NotLater p q → NotLater p (next_place q byte)
  on_ (inl g) = not_later p (next_place q byte) (either (byte_behind q byte) g)
    where
      either : Earlier q (next_place q byte) → p.line < q.line → Earlier p (next_place q byte)
      either (inl h) g = inl (omega (arith, h, g))
      either (inr (e, h)) g = inl (omega (arith, e, g))
  on_ (inr (e, g)) = not_later p (next_place q byte) (either (byte_behind q byte) e g)
    where
      either : Earlier q (next_place q byte) → p.line ≡ q.line → p.column ≤ q.column → Earlier p (next_place q byte)
      either (inl h) e g = inl (omega (arith, h, e))
      either (inr (f, h)) e g = inr (e ∙ f, omega (arith, h, g))

token_behind : (p : Place) (text : List ℕ) → 0 < length text → Earlier p (place_after p text)
token_behind p [] h = absurd (omega (arith, h))
token_behind p (byte ∷ text) h = earlier_still p (next_place p byte) (place_after (next_place p byte) text) (byte_behind p byte) (text_behind (next_place p byte) (next_place p byte) text (inr (refl, omega arith)))

-- ---- tokens of a source

no_sign : sign_of [] ≡ None
unfolding spelling
no_sign = refl

spelled : (q : Punct) → 0 < length (spelling q)
spelled q = either (spelling q) (sign_of-spelling q) where
  either : (text : List ℕ) → sign_of text ≡ Some q → 0 < length text
  either [] e = absurd (let same : ◌≡◌ {A = Option Punct} None (Some q) = sym no_sign ∙ e in cc)
  either (byte ∷ text) e = omega arith

-- a token stands at its place, and is no empty text
record Stands (s : Standing) (text : List ℕ) (token : Token) : Type 0 where
  at : token.place ≡ s.place
  long : 0 < length text

given_stands : (s : Standing) (text other : List ℕ) (token : Token) (kind : TokenKind) → 0 < length other → next (lexeme text token) ≡ given s other kind → Stands s text token
given_stands s text other token kind h e =
    let texts : text ≡ other = cc in
    let same : token ≡ token_at s kind = cc in
    record { at = ap (λ (t : Token). t.place) same; long = subst (λ x. 0 < length x) (sym texts) h }

word_stands : (s : Standing) (text other : List ℕ) (token : Token) → 0 < length other → next (lexeme text token) ≡ word_found s other → Stands s text token
word_stands s text other token h e = either (nat_le (length other) 64) (is_pragma s.line other) e where
  either : (b d : Bool) → next (lexeme text token) ≡ (if b then (if d then next (pragma other) else given s other (k.Word other)) else fault s 4) → Stands s text token
  either true true e = absurd cc
  either true false e = given_stands s text other token (k.Word other) h e
  either false d e = absurd cc

number_stands : (s : Standing) (text other : List ℕ) (token : Token) → 0 < length other → NumberFound s other (next (lexeme text token)) → Stands s text token
number_stands s text other token h (inl (value, kind, c, e)) = given_stands s text other token (k.Number value kind) h e
number_stands s text other token h (inr (n, e)) = absurd cc

longest_stands : (s : Standing) (text : List ℕ) (token : Token) → LongestToken s (next (lexeme text token)) → Stands s text token
longest_stands s text token (inl (other, rest, l, inl (w, e))) = word_stands s text other token w.0 e
longest_stands s text token (inl (other, rest, l, inr (inl (n, e)))) = number_stands s text other token n.0 e
longest_stands s text token (inl (other, rest, l, inr (inr (q, t, e)))) = given_stands s text other token (k.Punct q) (subst (λ x. 0 < length x) (sym t) (spelled q)) e
longest_stands s text token (inr (n, e)) = absurd cc

line_stands : (line : Line) (s : Standing) (text : List ℕ) (token : Token) → AtToken line s (next (lexeme text token)) → Stands s text token
line_stands empty s text token h = longest_stands s text token h
line_stands hash s text token h = longest_stands s text token h
line_stands pragma_line s text token h = absurd cc
line_stands tokens s text token h = longest_stands s text token h

opening_stands : (o : Opening) (s : Standing) (text : List ℕ) (token : Token) → At o s (next (lexeme text token)) → Stands s text token
opening_stands at_end s text token h = absurd cc
opening_stands at_line_end s text token h = absurd cc
opening_stands (at_space n) s text token h = absurd cc
opening_stands at_line_comment s text token (t, rest, l, e) = absurd cc
opening_stands at_block_comment s text token (inl (t, rest, l, e)) = absurd cc
opening_stands at_block_comment s text token (inr (n, e)) = absurd cc
opening_stands at_token s text token h = line_stands s.line s text token h

-- ---- tokens in order

abbrev EachIs : (Token → Type 0) → List Token → Type 0
EachIs Q [] = Unit {0}
EachIs Q (t ∷ ts) = Q t × EachIs Q ts

-- each token stands earlier than all those behind it
abbrev Rising : List Token → Type 0
Rising [] = Unit {0}
Rising (t ∷ ts) = EachIs (λ u. Earlier t.place u.place) ts × Rising ts

each_more : (Q R : Token → Type 0) (ts : List Token) → ((t : Token) → Q t → R t) → EachIs Q ts → EachIs R ts
each_more Q R [] f h = tt
each_more Q R (t ∷ ts) f h = (f t h.0, each_more Q R ts f h.1)

each_at : (Q : Token → Type 0) (ts : List Token) (t : Token) → EachIs Q ts → IsIn t ts → Q t
each_at Q [] t h i = absurd i
each_at Q (u ∷ ts) t h (inl e) = subst Q (sym e) h.0
each_at Q (u ∷ ts) t h (inr i) = each_at Q ts t h.1 i

rising_behind : (ts us : List Token) → Rising (ts ++ us) → Rising us
rising_behind [] us h = h
rising_behind (t ∷ ts) us h = rising_behind ts us h.1

-- the tokens of these pieces stand in order from this place on
abbrev Ordered : Place → List Token → Type 0
Ordered p ts = EachIs (λ t. NotLater p t.place) ts × Rising ts

ordered_from : (p q : Place) (ts : List Token) → NotLater p q → Ordered q ts → Ordered p ts
ordered_from p q ts h o = (each_more (λ t. NotLater q t.place) (λ t. NotLater p t.place) ts (λ t g. either t h g) o.0, o.1) where
  either : (t : Token) → NotLater p q → NotLater q t.place → NotLater p t.place
  either t (inl h) (inl g) = inl (omega (arith, h, g))
  either t (inl h) (inr (e, g)) = inl (omega (arith, h, e))
  either t (inr (e, h)) (inl g) = inl (omega (arith, e, g))
  either t (inr (e, h)) (inr (f, g)) = inr (e ∙ f, omega (arith, h, g))

here : (p : Place) → NotLater p p
here p = inr (refl, omega arith)

pieces_ordered : (s : Standing) (pieces : List Piece) (end : End) → Reads s pieces end → Ordered s.place (tokens_of pieces)
pieces_ordered s [] end h = (tt, tt)
pieces_ordered s (gap text ∷ pieces) end h = ordered_from s.place (place_after s.place text) (tokens_of pieces) (text_behind s.place s.place text (here s.place)) (pieces_ordered (after s (gap text)) pieces end h.1)
pieces_ordered s (line_end ∷ pieces) end h = ordered_from s.place (place_after s.place (10 ∷ [])) (tokens_of pieces) (text_behind s.place s.place (10 ∷ []) (here s.place)) (pieces_ordered (after s line_end) pieces end h.1)
pieces_ordered s (pragma text ∷ pieces) end h = ordered_from s.place (place_after s.place text) (tokens_of pieces) (text_behind s.place s.place text (here s.place)) (pieces_ordered (after s (pragma text)) pieces end h.1)
pieces_ordered s (lexeme text token ∷ pieces) end h = either (is_hash token.kind && pragma_follows pieces) (opening_stands (opening s.left) s text token h.0) (pieces_ordered (after s (lexeme text token)) pieces end h.1) where
  either : (b : Bool) → Stands s text token → Ordered (place_after s.place text) (tokens_of pieces) → Ordered s.place (if b then tokens_of pieces else (token ∷ tokens_of pieces))
  either true t o = ordered_from s.place (place_after s.place text) (tokens_of pieces) (not_later s.place (place_after s.place text) (token_behind s.place text t.long)) o
  either false t o =
      let behind_ = token_behind s.place text t.long in (
        (subst (NotLater s.place) (sym t.at) (here s.place), (ordered_from s.place (place_after s.place text) (tokens_of pieces) (not_later s.place (place_after s.place text) behind_) o).0),
        (each_more (λ u. NotLater (place_after s.place text) u.place) (λ u. Earlier token.place u.place) (tokens_of pieces) (λ u g. subst (λ p. Earlier p u.place) (sym t.at) (earlier_still s.place (place_after s.place text) u.place behind_ g)) o.0, o.1),
      )

-- ---- replaced words

-- the place stands at the line and column of one of these tokens
abbrev StandsAt : List Token → Place → Type 0
StandsAt ts p = (t : Token) × IsIn t ts × (t.place.line ≡ p.line) × (t.place.column ≡ p.column)

record Replaced (ts us : List Token) : Type 0 where
  apart : AreApart (places_of (terminals us))
  stand : (p : Place) → IsIn p (places_of (terminals us)) → StandsAt ts p

numbered_at : (included : Bool) (at : Place) (part : ℕ) (row : List Token) (p : Place) → IsIn p (places_of (terminals (numbered included at part row))) → (at.line ≡ p.line) × (at.column ≡ p.column) × (part ≤ p.part)
numbered_at included at part [] p i = absurd i
numbered_at included at part (t ∷ row) p (inl e) =
    (sym (ap (λ (q : Place). q.line) e), sym (ap (λ (q : Place). q.column) e), let same : p.part ≡ part = ap (λ (q : Place). q.part) e in omega (arith, same))
numbered_at included at part (t ∷ row) p (inr i) = let rest = numbered_at included at (part + 1) row p i in (rest.0, rest.1, let le = rest.2 in omega (arith, le))

numbered_apart : (included : Bool) (at : Place) (part : ℕ) (row : List Token) → AreApart (places_of (terminals (numbered included at part row)))
numbered_apart included at part [] = tt
numbered_apart included at part (t ∷ row) =
    (away_from (record { line = at.line; column = at.column; part = part }) (places_of (terminals (numbered included at (part + 1) row))) (λ i. let low = (numbered_at included at (part + 1) row (record { line = at.line; column = at.column; part = part }) i).2 in omega (arith, low)), numbered_apart included at (part + 1) row)

placed_stands : (included : Bool) (token : Token) (body : Option (List Token)) (row : List Token) → Replaced (token ∷ []) (placed included token body row)
placed_stands included token None row = record { apart = (tt, tt); stand = λ p i. either p i } where
  either : (p : Place) → IsIn p (token.place ∷ []) → StandsAt (token ∷ []) p
  either p (inl e) = (token, inl refl, ap (λ (q : Place). q.line) (sym e), ap (λ (q : Place). q.column) (sym e))
  either p (inr i) = absurd i
placed_stands included token (Some body) row = record {
  apart = numbered_apart included token.place 1 row;
  stand = λ p i. let a = numbered_at included token.place 1 row p i in (token, inl refl, a.0, a.1);
}

becomes_stands : (included : Bool) (table : r.Table) (token : Token) (ts : List Token) (words : ℕ) → TokenBecomes included table token ts words → Replaced (token ∷ []) ts
becomes_stands included table token ts words (row, s, e) = subst (Replaced (token ∷ [])) (sym e) (placed_stands included token (body_of table token.kind) row)

places_behind : (ts us : List Token) → places_of (terminals (ts ++ us)) ≡ places_of (terminals ts) ++ places_of (terminals us)
places_behind [] us = refl
places_behind (t ∷ ts) us = ap (λ l. t.place ∷ l) (places_behind ts us)

replaced_behind : (token : Token) (rest ts us : List Token) → Rising (token ∷ rest) → Replaced (token ∷ []) ts → Replaced rest us → Replaced (token ∷ rest) (ts ++ us)
replaced_behind token rest ts us rising a b = record {
  apart = subst AreApart (sym (places_behind ts us)) (joined (places_of (terminals ts)) (places_of (terminals us)) (record { left = a.apart; right = b.apart; disjoint = λ p i j. clash p (a.stand p i) (b.stand p j) }));
  stand = λ p i. either p (in_either p (places_of (terminals ts)) (places_of (terminals us)) (subst (IsIn p) (places_behind ts us) i));
}
  where
    clash : (p : Place) → StandsAt (token ∷ []) p → StandsAt rest p → ⊥
    clash p (t, inl e, l, c) (u, j, m, d) = earlier (each_at (λ u. Earlier token.place u.place) rest u rising.0 j)
      where
        earlier : Earlier token.place u.place → ⊥
        earlier (inl h) = let x = subst (λ (z : Token). z.place.line ≡ p.line) e l in omega (arith, h, x, m)
        earlier (inr (f, h)) = let x = subst (λ (z : Token). z.place.column ≡ p.column) e c in omega (arith, h, x, d)
    clash p (t, inr i, l, c) g = absurd i

    either : (p : Place) → IsIn p (places_of (terminals ts)) ⊎ IsIn p (places_of (terminals us)) → StandsAt (token ∷ rest) p
    either p (inl i) = first (a.stand p i)
      where
        first : StandsAt (token ∷ []) p → StandsAt (token ∷ rest) p
        first (t, inl e, l, c) = (t, inl e, l, c)
        first (t, inr j, l, c) = absurd j
    either p (inr i) = let s = b.stand p i in (s.0, inr s.1, s.2, s.3)

-- where a part is taken
taken_then : (taken : Result Reading Refusal) (P : Reading → Type 0) (us : List Token) (Goal : Type 0) → ((new : Reading) → P new → Goal) → AndThen taken P (Ok us) → Goal
taken_then (Ok new) P us Goal f h = f new h
taken_then (Err fault_) P us Goal f h = absurd (let same : ◌≡◌ {A = Result (List Token) Refusal} (Ok us) (Err fault_) = h in cc)

outcome_stands : (s : Reading) (parts : List Part) (ts us : List Token) → Divides ts parts → Outcome s parts (Ok us) → Rising ts → Replaced ts us
outcome_stands s [] ts us d h rising =
    let same : ◌≡◌ {A = Result (List Token) Refusal} (Ok us) (Ok []) = h in
    let none : us ≡ [] = cc in
    subst (Replaced ts) (sym none) (record { apart = tt; stand = λ p i. absurd i })
outcome_stands s (r.directive start line ∷ parts) ts us (rest, e, a, b, c, d) h rising =
    taken_then (obey s line) (λ new. Outcome new parts (Ok us)) us (Replaced ts us) (λ new o. either (outcome_stands new parts rest us d o (rising_behind (start ∷ line) rest (subst Rising e rising)))) h
  where
    either : Replaced rest us → Replaced ts us
    either m = record { apart = m.apart; stand = λ p i. let x = m.stand p i in (x.0, subst (IsIn x.0) (sym e) (inr (in_right x.0 line rest x.1)), x.2, x.3) }
outcome_stands s (r.ordinary token ∷ parts) ts us (rest, e, a, d) (own, words, becomes, h) rising =
    taken_then (count s token (length own) words) (λ new. (others : Result (List Token) Refusal) × Outcome new parts others × (Ok us ≡ behind own others)) us (Replaced ts us)
    (λ new o. either new o.0 o.1 o.2 (λ vs x. outcome_stands new parts rest vs d x (rising_behind (token ∷ []) rest (subst Rising e rising)))) h
  where
    either : (new : Reading) (others : Result (List Token) Refusal) → Outcome new parts others → ◌≡◌ {A = Result (List Token) Refusal} (Ok us) (behind own others)
        → ((vs : List Token) → Outcome new parts (Ok vs) → Replaced rest vs) → Replaced ts us
    either new (Ok vs) o same go =
        let joined_ : us ≡ own ++ vs = cc in
        subst (λ x. Replaced x us) (sym e) (subst (Replaced (token ∷ rest)) (sym joined_) (replaced_behind token rest own vs (subst Rising e rising) (becomes_stands s.included s.table token own words becomes) (go vs o)))
    either new (Err fault_) o same go = absurd cc

pub source_places : SourcePlacesDiffer
source_places source ts us (le, (pieces, h, e)) (parts, d, o) =
    (outcome_stands r.beginning parts ts us d o (subst Rising (sym e) (pieces_ordered (start_of source) pieces whole h).1)).apart
