-- What holds of all words, signs and constants, and of the type names of `stdint.h`, holds of all tokens that a source becomes.
use Rattle.std.proofs.Common.{◌≡◌, ℕ, ◌+◌, ◌&&◌, ◌||◌, not, codes, inl, inr, sym, refl, ap, subst, Bool, true, false, bytes_eq, nat_lt, Result, Ok, Err, List, [], ◌∷◌, ◌++◌, length, Option, Some, None, if◌then◌else◌}
use Rattle.std.proofs.lemmas.Option.{none-some, same_Some}
use Rattle.hls_base.specs.declared.place.Place.{Place}
use Rattle.hls_base.specs.declared.refusal.Refusal.{Refusal}
use Rattle.c_token.specs.declared.ctype.CType.{CType}
use Rattle.c_token.specs.declared.punct.Punct.{Punct}
use Rattle.c_token.specs.declared.token.Token.{Token}
use Rattle.c_token.specs.declared.token.TokenKind.{TokenKind}
use Rattle.c_token.specs.declared.token.TokenKind.TheVariants as k
use Rattle.c_token.specs.Characters as at
use Rattle.c_token.specs.Characters.{Opening, opening}
use Rattle.c_token.specs.Constants.{IsConstant}
use Rattle.c_token.specs.SourceText as text
use Rattle.c_token.specs.SourceText.{Line, Standing, Piece, End, Found, TokenFound, LongestToken, At, AtToken, Reads, tokens_of, is_hash, pragma_follows, after, Spells}
use Rattle.c_token.specs.Replacement as replacement
use Rattle.c_token.specs.Replacement.{Table, find_word, without, body_of, hide, StandsFor, exact_types, typed_kind, numbered, placed, TokenBecomes, Reading, refuse, is_word, names_stdint, has_parameters, may_be_defined, agrees, defined, define_limit, define, undefine, obey, Part, Divides, token_limit, word_limit, count, AndThen, behind, Outcome, beginning, Becomes}
use Rattle.c_elaborate.specs.Homes.{Each}
use Rattle.c_elaborate.proofs.ElaborateRuns.Lists.{each-front, each-append}
use Rattle.expanded_programs.proofs.ElaboratedPrograms.Lists.{each_back}

-- a property of the kinds of tokens that a source becomes
pub record OfSources (P : TokenKind → Type 0) : Type 0 where
  pub of_word : (word : List ℕ) → P (k.Word word)
  pub of_punct : (punct : Punct) → P (k.Punct punct)
  pub of_constant : (spelled : List ℕ) (n : ℕ) (kind : CType) → IsConstant spelled n kind → P (k.Number n kind)
  pub of_type : (word : List ℕ) (kind : CType) → find_word word exact_types ≡ Some kind → P (k.TypeWord kind)

pub found_row : {A : Type 0} (Q : A → Type 0) (word : List ℕ) (rows : List (List ℕ × A)) (x : A) → Each (λ (row : List ℕ × A). Q row.1) rows → find_word word rows ≡ Some x → Q x
found_row Q word [] x h e = absurd (none-some x e)
found_row {A} Q word (row ∷ rows) x h e = by (bytes_eq word row.0) e (found_row Q word rows x h.1)
  where
    by : (y : Bool) → (if y then Some row.1 else find_word word rows) ≡ Some x → (find_word word rows ≡ Some x → Q x) → Q x
    by true g others = subst Q (same_Some row.1 x g) h.0
    by false g others = others g

abbrev token_in : Token → Found → Token
token_in d (text.next (text.lexeme spelled token)) = token
token_in d found = d

-- what a word is, once `stdint.h` is included
abbrev word_kind : List ℕ → Option CType → TokenKind
word_kind word None = k.Word word
word_kind word (Some kind) = k.TypeWord kind

abbrev define_as : Reading → Token → Token → List Token → TokenKind → Result Reading Refusal
define_as s place token body (k.Word word) =
    if not (may_be_defined word && not (has_parameters body) && agrees (find_word word s.table) body) then refuse 5 token
    else (if nat_lt s.defines define_limit
    then Ok (record s { table = defined (find_word word s.table) word body s.table; defines = s.defines + 1 })
    else refuse 38 token)
define_as s place token body _ = refuse 5 place

abbrev undefine_as : Reading → Token → TokenKind → Result Reading Refusal
undefine_as s place (k.Word word) = Ok (record s { table = without word s.table })
undefine_as s place _ = refuse 5 place

module _ (P : TokenKind → Type 0) (holds : OfSources P) where
  abbrev Has : Token → Type 0
  Has token = P token.kind

  -- ---- tokens of a source

  module _ (spelled : List ℕ) (token : Token) where
    abbrev this : Found
    this = text.next (text.lexeme spelled token)

    given_has : (s : Standing) (other : List ℕ) (kind : TokenKind) → P kind → this ≡ text.given s other kind → Has token
    given_has s other kind h e = subst Has (sym (ap (token_in token) e)) h

    word_has : (s : Standing) (other : List ℕ) (a b : Bool) → this ≡ (if a then (if b then text.next (text.pragma other) else text.given s other (k.Word other)) else text.fault s 4) → Has token
    word_has s other true true e = absurd cc
    word_has s other true false e = given_has s other (k.Word other) (holds.of_word other) e
    word_has s other false b e = absurd cc

    token_has : (s : Standing) (other : List ℕ) → TokenFound s other this → Has token
    token_has s other h = elim h [
      | inl w ↦ word_has s other _ _ w.1
      | inr rest ↦ elim rest [
        | inl n ↦ elim n.1 [
          | inl c ↦ given_has s other (k.Number c.0 c.1) (holds.of_constant other c.0 c.1 c.2) c.3
          | inr bad ↦ absurd (no_fault s 3 bad.1)
        ]
        | inr p ↦ given_has s other (k.Punct p.0) (holds.of_punct p.0) p.2
      ]
    ]
      where
        no_fault : (z : Standing) (rule : ℕ) → this ≡ text.fault z rule → ⊥
        no_fault z rule e = absurd cc

    longest_has : (s : Standing) → LongestToken s this → Has token
    longest_has s h = elim h [ inl q ↦ token_has s q.0 q.3 | inr q ↦ absurd (no_fault q.1) ]
      where
        no_fault : this ≡ text.fault s 1 → ⊥
        no_fault e = absurd cc

    line_has : (line : Line) (s : Standing) → AtToken line s this → Has token
    line_has text.pragma_line s h = absurd cc
    line_has text.empty s h = longest_has s h
    line_has text.hash s h = longest_has s h
    line_has text.tokens s h = longest_has s h

    opened_has : (o : Opening) (s : Standing) → At o s this → Has token
    opened_has at.at_end s h = absurd cc
    opened_has at.at_line_end s h = absurd cc
    opened_has (at.at_space n) s h = absurd cc
    opened_has at.at_line_comment s h = absurd (no_gap h.0 h.3)
      where
        no_gap : (g : List ℕ) → this ≡ text.next (text.gap g) → ⊥
        no_gap g e = absurd cc
    opened_has at.at_block_comment s h = elim h [ inl q ↦ absurd (no_gap q.0 q.3) | inr q ↦ absurd (no_fault q.1) ]
      where
        no_gap : (g : List ℕ) → this ≡ text.next (text.gap g) → ⊥
        no_gap g e = absurd cc

        no_fault : this ≡ text.fault s 2 → ⊥
        no_fault e = absurd cc
    opened_has at.at_token s h = line_has s.line s h

  if_has : (y : Bool) (token : Token) (tokens : List Token) → Has token → Each Has tokens → Each Has (if y then tokens else (token ∷ tokens))
  if_has true token tokens h g = g
  if_has false token tokens h g = (h, g)

  pieces_have : (s : Standing) (pieces : List Piece) (end : End) → Reads s pieces end → Each Has (tokens_of pieces)
  pieces_have s [] end h = tt
  pieces_have s (text.lexeme spelled token ∷ pieces) end h =
      if_has (is_hash token.kind && pragma_follows pieces) token (tokens_of pieces) (opened_has spelled token (opening s.left) s h.0) (pieces_have (after s (text.lexeme spelled token)) pieces end h.1)
  pieces_have s (text.gap g ∷ pieces) end h = pieces_have (after s (text.gap g)) pieces end h.1
  pieces_have s (text.line_end ∷ pieces) end h = pieces_have (after s text.line_end) pieces end h.1
  pieces_have s (text.pragma g ∷ pieces) end h = pieces_have (after s (text.pragma g)) pieces end h.1

  spelled_have : (source : List ℕ) (tokens : List Token) → Spells source tokens → Each Has tokens
  spelled_have source tokens h = subst (Each Has) (sym h.1.2) (pieces_have (text.start_of source) h.1.0 text.whole h.1.1)

  -- ---- what tokens stand for

  -- the tokens that defined words stand for
  abbrev TableHas : Table → Type 0
  TableHas table = Each (λ (row : List ℕ × List Token). Each Has row.1) table

  body_has : (table : Table) (kind : TokenKind) (body : List Token) → TableHas table → body_of table kind ≡ Some body → Each Has body
  body_has table (k.Word word) body h e = found_row (Each Has) word table body h e
  body_has table (k.Number n kind) body h e = absurd (none-some body e)
  body_has table (k.Punct punct) body h e = absurd (none-some body e)
  body_has table (k.TypeWord kind) body h e = absurd (none-some body e)

  without_has : (word : List ℕ) (table : Table) → TableHas table → TableHas (without word table)
  without_has word [] h = tt
  without_has word (row ∷ rows) h = by (bytes_eq word row.0) (without_has word rows h.1)
    where
      by : (y : Bool) → TableHas (without word rows) → TableHas (if y then rows else (row ∷ without word rows))
      by true g = h.1
      by false g = (h.0, g)

  hide_has : (kind : TokenKind) (table : Table) → TableHas table → TableHas (hide kind table)
  hide_has (k.Word word) table h = without_has word table h
  hide_has (k.Number n kind) table h = h
  hide_has (k.Punct punct) table h = h
  hide_has (k.TypeWord kind) table h = h

  row_has : {table : Table} {tokens row : List Token} {words : ℕ} → StandsFor table tokens row words → TableHas table → Each Has tokens → Each Has row
  row_has (replacement.nothing table) h g = tt
  row_has (replacement.stays table token tokens row words none rest) h g = (g.0, row_has rest h g.1)
  row_has (replacement.is_replaced table token body inner tokens row m n is inside rest) h g =
      each-append Has inner row (row_has inside (hide_has token.kind table h) (body_has table token.kind body h is)) (row_has rest h g.1)

  word_kind_has : (word : List ℕ) (q : Option CType) → find_word word exact_types ≡ q → P (word_kind word q)
  word_kind_has word None e = holds.of_word word
  word_kind_has word (Some kind) e = holds.of_type word kind e

  typed_has : (included : Bool) (kind : TokenKind) → P kind → P (typed_kind included kind)
  typed_has true (k.Word word) h = word_kind_has word (find_word word exact_types) refl
  typed_has true (k.Number n kind) h = h
  typed_has true (k.Punct punct) h = h
  typed_has true (k.TypeWord kind) h = h
  typed_has false kind h = h

  numbered_have : (included : Bool) (place : Place) (part : ℕ) (tokens : List Token) → Each Has tokens → Each Has (numbered included place part tokens)
  numbered_have included place part [] h = tt
  numbered_have included place part (token ∷ tokens) h = (typed_has included token.kind h.0, numbered_have included place (part + 1) tokens h.1)

  placed_have : (included : Bool) (token : Token) (q : Option (List Token)) (row : List Token) → Has token → Each Has row → Each Has (placed included token q row)
  placed_have included token None row h g = (typed_has included token.kind h, tt)
  placed_have included token (Some body) row h g = numbered_have included token.place 1 row g

  becomes_have : (included : Bool) (table : Table) (token : Token) (tokens : List Token) (words : ℕ) → TokenBecomes included table token tokens words → TableHas table → Has token → Each Has tokens
  becomes_have included table token tokens words b h g = subst (Each Has) (sym b.2) (placed_have included token (body_of table token.kind) b.0 g (row_has b.1 h (g, tt)))

  -- ---- directives

  abbrev ReadingHas : Result Reading Refusal → Type 0
  ReadingHas (Ok s) = TableHas s.table
  ReadingHas (Err r) = Unit {0}

  if_reading : (y : Bool) (a b : Result Reading Refusal) → ReadingHas a → ReadingHas b → ReadingHas (if y then a else b)
  if_reading true a b h g = h
  if_reading false a b h g = g

  defined_have : (q : Option (List Token)) (word : List ℕ) (body : List Token) (table : Table) → TableHas table → Each Has body → TableHas (defined q word body table)
  defined_have None word body table h g = each-append (λ (row : List ℕ × List Token). Each Has row.1) table ((word, body) ∷ []) h (g, tt)
  defined_have (Some old) word body table h g = h

  define_as_has : (s : Reading) (place token : Token) (body : List Token) (kind : TokenKind) → TableHas s.table → Each Has body → ReadingHas (define_as s place token body kind)
  define_as_has s place token body (k.Word word) h g =
      if_reading (not (may_be_defined word && not (has_parameters body) && agrees (find_word word s.table) body)) (refuse 5 token) _ tt
      (if_reading (nat_lt s.defines define_limit) (Ok (record s { table = defined (find_word word s.table) word body s.table; defines = s.defines + 1 })) (refuse 38 token) (defined_have (find_word word s.table) word body s.table h g) tt)
  define_as_has s place token body (k.Number n kind) h g = tt
  define_as_has s place token body (k.Punct punct) h g = tt
  define_as_has s place token body (k.TypeWord kind) h g = tt

  define_has : (s : Reading) (place : Token) (tokens : List Token) → TableHas s.table → Each Has tokens → ReadingHas (define s place tokens)
  define_has s place [] h g = tt
  define_has s place (token ∷ body) h g = define_as_has s place token body token.kind h g.1

  undefine_as_has : (s : Reading) (place : Token) (kind : TokenKind) → TableHas s.table → ReadingHas (undefine_as s place kind)
  undefine_as_has s place (k.Word word) h = without_has word s.table h
  undefine_as_has s place (k.Number n kind) h = tt
  undefine_as_has s place (k.Punct punct) h = tt
  undefine_as_has s place (k.TypeWord kind) h = tt

  undefine_has : (s : Reading) (place : Token) (tokens : List Token) → TableHas s.table → ReadingHas (undefine s place tokens)
  undefine_has s place [] h = tt
  undefine_has s place (token ∷ []) h = undefine_as_has s place token.kind h
  undefine_has s place (token ∷ (other ∷ tokens)) h = tt

  obey_has : (s : Reading) (line : List Token) → TableHas s.table → Each Has line → ReadingHas (obey s line)
  obey_has s [] h g = h
  obey_has s (place ∷ rest) h g =
      if_reading (is_word (codes "include") place.kind && names_stdint rest) (Ok (record s { included = true })) _ h
      (if_reading (is_word (codes "define") place.kind) (define s place rest) _ (define_has s place rest h g.1)
      (if_reading (is_word (codes "undef") place.kind) (undefine s place rest) (refuse 5 place) (undefine_has s place rest h) tt))

  -- ---- the whole list

  abbrev ResultHas : Result (List Token) Refusal → Type 0
  ResultHas (Ok tokens) = Each Has tokens
  ResultHas (Err r) = Unit {0}

  and_then : (q : Result Reading Refusal) (Q : Reading → Type 0) (result : Result (List Token) Refusal) → ReadingHas q → AndThen q Q result → ((new : Reading) → TableHas new.table → Q new → ResultHas result) → ResultHas result
  and_then (Ok s) Q result h g next = next s h g
  and_then (Err r) Q result h g next = subst ResultHas (sym g) tt

  behind_has : (tokens : List Token) (result : Result (List Token) Refusal) → Each Has tokens → ResultHas result → ResultHas (behind tokens result)
  behind_has tokens (Ok rest) h g = each-append Has tokens rest h g
  behind_has tokens (Err r) h g = tt

  counted_has : (s : Reading) (token : Token) (m n : ℕ) → TableHas s.table → ReadingHas (count s token m n)
  counted_has s token m n h = if_reading (nat_lt token_limit (s.tokens + m) || nat_lt word_limit (s.words + n)) (refuse 31 token) (Ok (record s { tokens = s.tokens + m; words = s.words + n })) tt h

  outcome_has : (s : Reading) (parts : List Part) (tokens : List Token) (result : Result (List Token) Refusal) → TableHas s.table → Each Has tokens → Divides tokens parts → Outcome s parts result → ResultHas result
  outcome_has s [] tokens result h g d o = subst ResultHas (sym o) tt
  outcome_has s (replacement.directive hash line ∷ parts) tokens result h g d o =
      let all : Each Has (hash ∷ (line ++ d.0)) = subst (Each Has) d.1 g in
      and_then (obey s line) (λ new. Outcome new parts result) result (obey_has s line h (each-front Has line d.0 all.1)) o
      (λ new has more. outcome_has new parts d.0 result has (each_back Has line d.0 all.1) d.5 more)
  outcome_has s (replacement.ordinary token ∷ parts) tokens result h g d o =
      let all : Each Has (token ∷ d.0) = subst (Each Has) d.1 g in
      and_then (count s token (length o.0) o.1) (λ new. (rest : Result (List Token) Refusal) × Outcome new parts rest × (result ≡ behind o.0 rest)) result (counted_has s token (length o.0) o.1 h) o.3
      (λ new has more.
      subst ResultHas (sym more.2) (behind_has o.0 more.0 (becomes_have s.included s.table token o.0 o.1 o.2 h all.0) (outcome_has new parts d.0 more.0 has all.1 d.3 more.1)))

  pub replaced_have : (source : List ℕ) (tokens replaced : List Token) → Spells source tokens → Becomes tokens replaced → Each Has replaced
  replaced_have source tokens replaced spells becomes = outcome_has beginning becomes.0 tokens (Ok replaced) tt (spelled_have source tokens spells) becomes.1 becomes.2
