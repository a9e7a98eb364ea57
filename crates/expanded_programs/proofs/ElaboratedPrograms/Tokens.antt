-- The numbers of a source are of their types, and so are those of the tokens that it becomes.
use Rattle.std.proofs.Common.{◌≡◌, ℕ, ◌+◌, ◌^◌, ◌&&◌, ◌||◌, not, codes, inl, inr, sym, refl, ap, subst, Bool, true, false, bytes_eq, nat_lt, find, Result, Ok, Err, List, [], ◌∷◌, ◌++◌, length, pos, Option, Some, None, arith, if◌then◌else◌}
use Rattle.std.proofs.lemmas.Bool.{ltb-true}
use Rattle.std.proofs.lemmas.Int.{ints}
use Rattle.std.proofs.lemmas.Option.{none-some, same_Some}
use Rattle.hls_base.specs.declared.place.Place.{Place}
use Rattle.hls_base.specs.declared.refusal.Refusal.{Refusal}
use Rattle.c_token.specs.declared.ctype.CType.{CType}
use Rattle.c_token.specs.declared.ctype.CType.TheVariants as t
use Rattle.c_token.specs.declared.token.Token.{Token}
use Rattle.c_token.specs.declared.token.TokenKind.{TokenKind}
use Rattle.c_token.specs.declared.token.TokenKind.TheVariants as k
use Rattle.c_token.specs.Characters as at
use Rattle.c_token.specs.Characters.{Opening, opening}
use Rattle.c_token.specs.Constants as constants
use Rattle.c_token.specs.Constants.{Suffix, types, type_of, holds, IsConstant}
use Rattle.c_token.specs.SourceText as text
use Rattle.c_token.specs.SourceText.{Line, Standing, Piece, End, Found, TokenFound, LongestToken, At, AtToken, Finds, Reads, token_at, tokens_of, is_hash, is_pragma, pragma_follows, after, Spells}
use Rattle.c_token.specs.Replacement as replacement
use Rattle.c_token.specs.Replacement.{Table, find_word, without, body_of, hide, StandsFor, exact_types, typed_kind, numbered, placed, TokenBecomes, Reading, refuse, is_word, names_stdint, has_parameters, may_be_defined, agrees, defined, define_limit, define, undefine, obey, Part, Divides, token_limit, word_limit, count, AndThen, behind, Outcome, beginning}
use Rattle.c_tree.specs.Terminals.{terminals}
use Rattle.c_value.specs.Values.{IsOf}
use Rattle.c_elaborate.specs.Homes.{Each}
use Rattle.c_elaborate.proofs.ElaborateRuns.Lists.{each-front, each-append}
use Rattle.expanded_programs.specs.ElaboratedPrograms.Written.{NumberFits, NumbersFit}
use Rattle.expanded_programs.specs.ElaboratedPrograms.{SourceNumbersFit}
use Rattle.expanded_programs.proofs.ElaboratedPrograms.Lists.{each_back}

abbrev pub Fits : Token → Type 0
Fits token = NumberFits token.kind

-- ---- constants

-- A number that the type has is one of it.
abbrev IsFine : ℕ → CType → Type 0
IsFine n kind = holds n kind ≡ true → IsOf kind (pos n)

int_fine : (n : ℕ) → IsFine n (t.Int true 32)
int_fine n h = let lt = ltb-true n (2 ^ 31) h in (omega (arith, ints), omega (arith, ints, lt))

long_fine : (n : ℕ) → IsFine n (t.Int true 64)
long_fine n h = let lt = ltb-true n (2 ^ 63) h in (omega (arith, ints), omega (arith, ints, lt))

unsigned_fine : (n : ℕ) → IsFine n (t.Int false 32)
unsigned_fine n h = let lt = ltb-true n (2 ^ 32) h in (omega (arith, ints), omega (arith, ints, lt))

unsigned_long_fine : (n : ℕ) → IsFine n (t.Int false 64)
unsigned_long_fine n h = let lt = ltb-true n (2 ^ 64) h in (omega (arith, ints), omega (arith, ints, lt))

types_fine : (n : ℕ) (suffix : Suffix) (is_decimal : Bool) → Each (IsFine n) (types suffix is_decimal)
unfolding types
types_fine n constants.plain true = (int_fine n, (long_fine n, tt))
types_fine n constants.plain false = (int_fine n, (unsigned_fine n, (long_fine n, (unsigned_long_fine n, tt))))
types_fine n constants.unsigned is_decimal = (unsigned_fine n, (unsigned_long_fine n, tt))
types_fine n constants.long true = (long_fine n, tt)
types_fine n constants.long false = (long_fine n, (unsigned_long_fine n, tt))
types_fine n constants.unsigned_long is_decimal = (unsigned_long_fine n, tt)

found_fine : (n : ℕ) (kinds : List CType) (kind : CType) → Each (IsFine n) kinds → find (holds n) kinds ≡ Some kind → IsOf kind (pos n)
found_fine n [] kind h e = absurd (none-some kind e)
found_fine n (x ∷ kinds) kind h e = by (holds n x) refl e (found_fine n kinds kind h.1)
  where
    by : (y : Bool) → holds n x ≡ y → (if y then Some x else find (holds n) kinds) ≡ Some kind → (find (holds n) kinds ≡ Some kind → IsOf kind (pos n)) → IsOf kind (pos n)
    by true f g others = subst (λ z. IsOf z (pos n)) (same_Some x kind g) (h.0 f)
    by false f g others = others g

constant_fine : (spelled : List ℕ) (n : ℕ) (kind : CType) → IsConstant spelled n kind → IsOf kind (pos n)
unfolding type_of
constant_fine spelled n kind c = found_fine n (types c.suffix _) kind (types_fine n c.suffix _) c.is_type

-- ---- tokens of a source

abbrev token_in : Token → Found → Token
token_in d (text.next (text.lexeme spelled token)) = token
token_in d found = d

module _ (spelled : List ℕ) (token : Token) where
  abbrev this : Found
  this = text.next (text.lexeme spelled token)

  given_fits : (s : Standing) (other : List ℕ) (kind : TokenKind) → NumberFits kind → this ≡ text.given s other kind → Fits token
  given_fits s other kind h e = subst Fits (sym (ap (token_in token) e)) h

  word_fits : (s : Standing) (other : List ℕ) (a b : Bool) → this ≡ (if a then (if b then text.next (text.pragma other) else text.given s other (k.Word other)) else text.fault s 4) → Fits token
  word_fits s other true true e = absurd cc
  word_fits s other true false e = given_fits s other (k.Word other) tt e
  word_fits s other false b e = absurd cc

  token_fits : (s : Standing) (other : List ℕ) → TokenFound s other this → Fits token
  token_fits s other h = elim h [
    | inl w ↦ word_fits s other _ _ w.1
    | inr rest ↦ elim rest [
      | inl n ↦ elim n.1 [
        | inl c ↦ given_fits s other (k.Number c.0 c.1) (constant_fine other c.0 c.1 c.2) c.3
        | inr bad ↦ absurd (no_fault s 3 bad.1)
      ]
      | inr p ↦ given_fits s other (k.Punct p.0) tt p.2
    ]
  ]
    where
      no_fault : (z : Standing) (rule : ℕ) → this ≡ text.fault z rule → ⊥
      no_fault z rule e = absurd cc

  longest_fits : (s : Standing) → LongestToken s this → Fits token
  longest_fits s h = elim h [ inl q ↦ token_fits s q.0 q.3 | inr q ↦ absurd (no_fault q.1) ]
    where
      no_fault : this ≡ text.fault s 1 → ⊥
      no_fault e = absurd cc

  line_fits : (line : Line) (s : Standing) → AtToken line s this → Fits token
  line_fits text.pragma_line s h = absurd cc
  line_fits text.empty s h = longest_fits s h
  line_fits text.hash s h = longest_fits s h
  line_fits text.tokens s h = longest_fits s h

  opened_fits : (o : Opening) (s : Standing) → At o s this → Fits token
  opened_fits at.at_end s h = absurd cc
  opened_fits at.at_line_end s h = absurd cc
  opened_fits (at.at_space n) s h = absurd cc
  opened_fits at.at_line_comment s h = absurd (no_gap h.0 h.3)
    where
      no_gap : (g : List ℕ) → this ≡ text.next (text.gap g) → ⊥
      no_gap g e = absurd cc
  opened_fits at.at_block_comment s h = elim h [ inl q ↦ absurd (no_gap q.0 q.3) | inr q ↦ absurd (no_fault q.1) ]
    where
      no_gap : (g : List ℕ) → this ≡ text.next (text.gap g) → ⊥
      no_gap g e = absurd cc

      no_fault : this ≡ text.fault s 2 → ⊥
      no_fault e = absurd cc
  opened_fits at.at_token s h = line_fits s.line s h

if_fits : (y : Bool) (token : Token) (tokens : List Token) → Fits token → Each Fits tokens → Each Fits (if y then tokens else (token ∷ tokens))
if_fits true token tokens h g = g
if_fits false token tokens h g = (h, g)

pieces_fit : (s : Standing) (pieces : List Piece) (end : End) → Reads s pieces end → Each Fits (tokens_of pieces)
pieces_fit s [] end h = tt
pieces_fit s (text.lexeme spelled token ∷ pieces) end h =
    if_fits (is_hash token.kind && pragma_follows pieces) token (tokens_of pieces) (opened_fits spelled token (opening s.left) s h.0) (pieces_fit (after s (text.lexeme spelled token)) pieces end h.1)
pieces_fit s (text.gap g ∷ pieces) end h = pieces_fit (after s (text.gap g)) pieces end h.1
pieces_fit s (text.line_end ∷ pieces) end h = pieces_fit (after s text.line_end) pieces end h.1
pieces_fit s (text.pragma g ∷ pieces) end h = pieces_fit (after s (text.pragma g)) pieces end h.1

pub source_fits : (source : List ℕ) (tokens : List Token) → Spells source tokens → Each Fits tokens
source_fits source tokens h = subst (Each Fits) (sym h.1.2) (pieces_fit (text.start_of source) h.1.0 text.whole h.1.1)

-- ---- what tokens stand for

-- the tokens that words stand for
abbrev TableFits : Table → Type 0
TableFits table = Each (λ (row : List ℕ × List Token). Each Fits row.1) table

word_body : (word : List ℕ) (table : Table) (body : List Token) → TableFits table → find_word word table ≡ Some body → Each Fits body
word_body word [] body h e = absurd (none-some body e)
word_body word (row ∷ rows) body h e = by (bytes_eq word row.0) e (word_body word rows body h.1)
  where
    by : (y : Bool) → (if y then Some row.1 else find_word word rows) ≡ Some body → (find_word word rows ≡ Some body → Each Fits body) → Each Fits body
    by true g others = subst (Each Fits) (same_Some row.1 body g) h.0
    by false g others = others g

body_fits : (table : Table) (kind : TokenKind) (body : List Token) → TableFits table → body_of table kind ≡ Some body → Each Fits body
body_fits table (k.Word word) body h e = word_body word table body h e
body_fits table (k.Number n kind) body h e = absurd (none-some body e)
body_fits table (k.Punct punct) body h e = absurd (none-some body e)
body_fits table (k.TypeWord kind) body h e = absurd (none-some body e)

without_fits : (word : List ℕ) (table : Table) → TableFits table → TableFits (without word table)
without_fits word [] h = tt
without_fits word (row ∷ rows) h = by (bytes_eq word row.0) (without_fits word rows h.1)
  where
    by : (y : Bool) → TableFits (without word rows) → TableFits (if y then rows else (row ∷ without word rows))
    by true g = h.1
    by false g = (h.0, g)

hide_fits : (kind : TokenKind) (table : Table) → TableFits table → TableFits (hide kind table)
hide_fits (k.Word word) table h = without_fits word table h
hide_fits (k.Number n kind) table h = h
hide_fits (k.Punct punct) table h = h
hide_fits (k.TypeWord kind) table h = h

row_fits : {table : Table} {tokens row : List Token} {words : ℕ} → StandsFor table tokens row words → TableFits table → Each Fits tokens → Each Fits row
row_fits (replacement.nothing table) h g = tt
row_fits (replacement.stays table token tokens row words none rest) h g = (g.0, row_fits rest h g.1)
row_fits (replacement.is_replaced table token body inner tokens row m n is inside rest) h g =
    each-append Fits inner row (row_fits inside (hide_fits token.kind table h) (body_fits table token.kind body h is)) (row_fits rest h g.1)

-- what a word is, once `stdint.h` is included
abbrev word_kind : List ℕ → Option CType → TokenKind
word_kind word None = k.Word word
word_kind word (Some kind) = k.TypeWord kind

word_kind_fits : (word : List ℕ) (q : Option CType) → NumberFits (word_kind word q)
word_kind_fits word None = tt
word_kind_fits word (Some kind) = tt

typed_fits : (included : Bool) (kind : TokenKind) → NumberFits kind → NumberFits (typed_kind included kind)
typed_fits true (k.Word word) h = word_kind_fits word (find_word word exact_types)
typed_fits true (k.Number n kind) h = h
typed_fits true (k.Punct punct) h = h
typed_fits true (k.TypeWord kind) h = h
typed_fits false kind h = h

numbered_fit : (included : Bool) (place : Place) (part : ℕ) (tokens : List Token) → Each Fits tokens → Each Fits (numbered included place part tokens)
numbered_fit included place part [] h = tt
numbered_fit included place part (token ∷ tokens) h = (typed_fits included token.kind h.0, numbered_fit included place (part + 1) tokens h.1)

placed_fit : (included : Bool) (token : Token) (q : Option (List Token)) (row : List Token) → Fits token → Each Fits row → Each Fits (placed included token q row)
placed_fit included token None row h g = (typed_fits included token.kind h, tt)
placed_fit included token (Some body) row h g = numbered_fit included token.place 1 row g

becomes_fit : (included : Bool) (table : Table) (token : Token) (tokens : List Token) (words : ℕ) → TokenBecomes included table token tokens words → TableFits table → Fits token → Each Fits tokens
becomes_fit included table token tokens words b h g = subst (Each Fits) (sym b.2) (placed_fit included token (body_of table token.kind) b.0 g (row_fits b.1 h (g, tt)))

-- ---- directives

abbrev ReadingFits : Result Reading Refusal → Type 0
ReadingFits (Ok s) = TableFits s.table
ReadingFits (Err r) = Unit {0}

if_reading : (y : Bool) (a b : Result Reading Refusal) → ReadingFits a → ReadingFits b → ReadingFits (if y then a else b)
if_reading true a b h g = h
if_reading false a b h g = g

defined_fit : (q : Option (List Token)) (word : List ℕ) (body : List Token) (table : Table) → TableFits table → Each Fits body → TableFits (defined q word body table)
defined_fit None word body table h g = each-append (λ (row : List ℕ × List Token). Each Fits row.1) table ((word, body) ∷ []) h (g, tt)
defined_fit (Some old) word body table h g = h

abbrev define_as : Reading → Token → Token → List Token → TokenKind → Result Reading Refusal
define_as s place token body (k.Word word) =
    if not (may_be_defined word && not (has_parameters body) && agrees (find_word word s.table) body) then refuse 5 token
    else (if nat_lt s.defines define_limit
    then Ok (record s { table = defined (find_word word s.table) word body s.table; defines = s.defines + 1 })
    else refuse 38 token)
define_as s place token body _ = refuse 5 place

define_as_fits : (s : Reading) (place token : Token) (body : List Token) (kind : TokenKind) → TableFits s.table → Each Fits body → ReadingFits (define_as s place token body kind)
define_as_fits s place token body (k.Word word) h g =
    if_reading (not (may_be_defined word && not (has_parameters body) && agrees (find_word word s.table) body)) (refuse 5 token) _ tt
    (if_reading (nat_lt s.defines define_limit) (Ok (record s { table = defined (find_word word s.table) word body s.table; defines = s.defines + 1 })) (refuse 38 token) (defined_fit (find_word word s.table) word body s.table h g) tt)
define_as_fits s place token body (k.Number n kind) h g = tt
define_as_fits s place token body (k.Punct punct) h g = tt
define_as_fits s place token body (k.TypeWord kind) h g = tt

define_fits : (s : Reading) (place : Token) (tokens : List Token) → TableFits s.table → Each Fits tokens → ReadingFits (define s place tokens)
define_fits s place [] h g = tt
define_fits s place (token ∷ body) h g = define_as_fits s place token body token.kind h g.1

abbrev undefine_as : Reading → Token → TokenKind → Result Reading Refusal
undefine_as s place (k.Word word) = Ok (record s { table = without word s.table })
undefine_as s place _ = refuse 5 place

undefine_as_fits : (s : Reading) (place : Token) (kind : TokenKind) → TableFits s.table → ReadingFits (undefine_as s place kind)
undefine_as_fits s place (k.Word word) h = without_fits word s.table h
undefine_as_fits s place (k.Number n kind) h = tt
undefine_as_fits s place (k.Punct punct) h = tt
undefine_as_fits s place (k.TypeWord kind) h = tt

undefine_fits : (s : Reading) (place : Token) (tokens : List Token) → TableFits s.table → ReadingFits (undefine s place tokens)
undefine_fits s place [] h = tt
undefine_fits s place (token ∷ []) h = undefine_as_fits s place token.kind h
undefine_fits s place (token ∷ (other ∷ tokens)) h = tt

obey_fits : (s : Reading) (line : List Token) → TableFits s.table → Each Fits line → ReadingFits (obey s line)
obey_fits s [] h g = h
obey_fits s (place ∷ rest) h g =
    if_reading (is_word (codes "include") place.kind && names_stdint rest) (Ok (record s { included = true })) _ h
    (if_reading (is_word (codes "define") place.kind) (define s place rest) _ (define_fits s place rest h g.1)
    (if_reading (is_word (codes "undef") place.kind) (undefine s place rest) (refuse 5 place) (undefine_fits s place rest h) tt))

-- ---- the whole list

abbrev ResultFits : Result (List Token) Refusal → Type 0
ResultFits (Ok tokens) = Each Fits tokens
ResultFits (Err r) = Unit {0}

and_then : (q : Result Reading Refusal) (P : Reading → Type 0) (result : Result (List Token) Refusal) → ReadingFits q → AndThen q P result → ((new : Reading) → TableFits new.table → P new → ResultFits result) → ResultFits result
and_then (Ok s) P result h g next = next s h g
and_then (Err r) P result h g next = subst ResultFits (sym g) tt

behind_fits : (tokens : List Token) (result : Result (List Token) Refusal) → Each Fits tokens → ResultFits result → ResultFits (behind tokens result)
behind_fits tokens (Ok rest) h g = each-append Fits tokens rest h g
behind_fits tokens (Err r) h g = tt

counted_fits : (s : Reading) (token : Token) (m n : ℕ) → TableFits s.table → ReadingFits (count s token m n)
counted_fits s token m n h = if_reading (nat_lt token_limit (s.tokens + m) || nat_lt word_limit (s.words + n)) (refuse 31 token) (Ok (record s { tokens = s.tokens + m; words = s.words + n })) tt h

outcome_fits : (s : Reading) (parts : List Part) (tokens : List Token) (result : Result (List Token) Refusal) → TableFits s.table → Each Fits tokens → Divides tokens parts → Outcome s parts result → ResultFits result
outcome_fits s [] tokens result h g d o = subst ResultFits (sym o) tt
outcome_fits s (replacement.directive hash line ∷ parts) tokens result h g d o =
    let all : Each Fits (hash ∷ (line ++ d.0)) = subst (Each Fits) d.1 g in
    and_then (obey s line) (λ new. Outcome new parts result) result (obey_fits s line h (each-front Fits line d.0 all.1)) o
    (λ new fits more. outcome_fits new parts d.0 result fits (each_back Fits line d.0 all.1) d.5 more)
outcome_fits s (replacement.ordinary token ∷ parts) tokens result h g d o =
    let all : Each Fits (token ∷ d.0) = subst (Each Fits) d.1 g in
    and_then (count s token (length o.0) o.1) (λ new. (rest : Result (List Token) Refusal) × Outcome new parts rest × (result ≡ behind o.0 rest)) result (counted_fits s token (length o.0) o.1 h) o.3
    (λ new fits more.
    subst ResultFits (sym more.2) (behind_fits o.0 more.0 (becomes_fit s.included s.table token o.0 o.1 o.2 h all.0) (outcome_fits new parts d.0 more.0 fits all.1 d.3 more.1)))

terminals_fit : (tokens : List Token) → Each Fits tokens → NumbersFit (terminals tokens)
terminals_fit [] h = tt
terminals_fit (token ∷ tokens) h = (h.0, terminals_fit tokens h.1)

pub numbers_fit : SourceNumbersFit
numbers_fit source tokens replaced spells becomes = terminals_fit replaced (outcome_fits beginning becomes.0 tokens (Ok replaced) tt (source_fits source tokens spells) becomes.1 becomes.2)
