-- The tokens that a source becomes may stand in a program.
use Rattle.std.proofs.Common.{◌≡◌, ℕ, ◌+◌, sym, refl, subst, Bool, true, false, List, [], ◌∷◌, ◌++◌, length, codes, Option, Some, None}
use Rattle.std.specs.Prelude.{◌&&◌, ◌||◌, not, nat_lt, bytes_eq, Result, Ok, Err}
use Rattle.std.proofs.lemmas.Bool.{cond_both}
use Rattle.hls_base.specs.declared.place.Place.{Place}
use Rattle.hls_base.specs.declared.refusal.Refusal.{Refusal}
use Rattle.c_token.specs.declared.ctype.CType.{CType}
use Rattle.c_token.specs.declared.token.Token.{Token}
use Rattle.c_token.specs.declared.token.TokenKind.{TokenKind}
use Rattle.c_token.specs.declared.token.TokenKind.TheVariants as k
use Rattle.c_token.specs.SourceText.{Spells}
use Rattle.c_token.specs.Replacement.{find_word, exact_types, Table, without, body_of, hide, StandsFor, nothing, stays, is_replaced, typed_kind, numbered, placed, Reading, is_word, names_stdint, has_parameters, may_be_defined, agrees, defined, define_limit, define, undefine, obey, Part, directive, ordinary, Divides, token_limit, word_limit, count, AndThen, behind, Outcome, beginning, Becomes}
use Rattle.c_tree.specs.Tree.{ProgramTree}
use Rattle.c_tree.specs.Terminals.{terminals}
use Rattle.c_tree.specs.Grammar.{DerivesProgram}
use Rattle.c_tree.specs.ProgramText.{MayStand, HasTokens}
use Rattle.c_tree.proofs.GivenTokens.{FitTokens, fit_append, spelled_stand}
use Rattle.c_tree.proofs.PrintedPrograms.{all_stand}

-- ---- tables

abbrev FitTable : Table → Type 0
FitTable [] = Unit {0}
FitTable (row ∷ rows) = FitTokens row.1 × FitTable rows

abbrev FitBody : Option (List Token) → Type 0
FitBody None = Unit {0}
FitBody (Some body) = FitTokens body

word_fits : (word : List ℕ) (table : Table) → FitTable table → FitBody (find_word word table)
word_fits word [] f = tt
word_fits word (row ∷ rows) f = cond_both (bytes_eq word row.0) (Some row.1) (find_word word rows) FitBody (λ e. f.0) (λ e. word_fits word rows f.1)

body_fits : (table : Table) (kind : TokenKind) → FitTable table → FitBody (body_of table kind)
body_fits table (k.Word word) f = word_fits word table f
body_fits table (k.Number value kind) f = tt
body_fits table (k.Punct punct) f = tt
body_fits table (k.TypeWord kind) f = tt

without_fits : (word : List ℕ) (table : Table) → FitTable table → FitTable (without word table)
without_fits word [] f = tt
without_fits word (row ∷ rows) f = cond_both (bytes_eq word row.0) rows (row ∷ without word rows) FitTable (λ e. f.1) (λ e. (f.0, without_fits word rows f.1))

hide_fits : (kind : TokenKind) (table : Table) → FitTable table → FitTable (hide kind table)
hide_fits (k.Word word) table f = without_fits word table f
hide_fits (k.Number value kind) table f = f
hide_fits (k.Punct punct) table f = f
hide_fits (k.TypeWord kind) table f = f

longer_fits : (table : Table) (word : List ℕ) (body : List Token) → FitTable table → FitTokens body → FitTable (table ++ (word, body) ∷ [])
longer_fits [] word body f h = (h, tt)
longer_fits (row ∷ rows) word body f h = (f.0, longer_fits rows word body f.1 h)

-- ---- words and what they stand for

row_fits : {table : Table} {ts row : List Token} {words : ℕ} → StandsFor table ts row words → FitTable table → FitTokens ts → FitTokens row
row_fits (nothing table) f h = tt
row_fits (stays table token ts row words e d) f h = (h.0, row_fits d f h.1)
row_fits (is_replaced table token body inner ts row m n e d rest) f h =
    fit_append inner row (row_fits d (hide_fits token.kind table f) (subst FitBody e (body_fits table token.kind f))) (row_fits rest f h.1)

typed_word : (word : List ℕ) (o : Option CType) → find_word word exact_types ≡ o → MayStand (k.Word word) → MayStand (typed_kind true (k.Word word))
typed_word word None e f = rw e f
typed_word word (Some kind) e f = rw e (word, e)

typed_stands : (included : Bool) (kind : TokenKind) → MayStand kind → MayStand (typed_kind included kind)
typed_stands true (k.Word word) f = typed_word word (find_word word exact_types) refl f
typed_stands true (k.Number value kind) f = f
typed_stands true (k.Punct punct) f = f
typed_stands true (k.TypeWord kind) f = f
typed_stands false kind f = f

numbered_fits : (included : Bool) (at : Place) (part : ℕ) (ts : List Token) → FitTokens ts → FitTokens (numbered included at part ts)
numbered_fits included at part [] f = tt
numbered_fits included at part (token ∷ ts) f = (typed_stands included token.kind f.0, numbered_fits included at (part + 1) ts f.1)

placed_fits : (included : Bool) (token : Token) (body : Option (List Token)) (row : List Token) → MayStand token.kind → FitTokens row → FitTokens (placed included token body row)
placed_fits included token None row f h = (typed_stands included token.kind f, tt)
placed_fits included token (Some body) row f h = numbered_fits included token.place 1 row h

-- ---- directives

-- the words that are defined still stand for tokens that may stand
abbrev Kept : Result Reading Refusal → Type 0
Kept (Ok s) = FitTable s.table
Kept (Err r) = Unit {0}

defined_fits : (old : Option (List Token)) (word : List ℕ) (body : List Token) (table : Table) → FitTable table → FitTokens body → FitTable (defined old word body table)
defined_fits None word body table f h = longer_fits table word body f h
defined_fits (Some old) word body table f h = f

define_keeps : (s : Reading) (at : Token) (line : List Token) → FitTable s.table → FitTokens line → Kept (define s at line)
define_keeps s at [] f h = tt
define_keeps s at (token ∷ body) f h = of_kind token.kind refl
  where
    of_kind : (kind : TokenKind) → token.kind ≡ kind → Kept (define s at (token ∷ body))
    of_kind (k.Word word) e =
        rw e (cond_both (not (may_be_defined word && not (has_parameters body) && agrees (find_word word s.table) body)) _ _ Kept (λ no_word. tt)
        (λ is. cond_both (nat_lt s.defines define_limit) _ _ Kept (λ small. defined_fits (find_word word s.table) word body s.table f h.1) (λ large. tt)))
    of_kind (k.Number value kind) e = rw e tt
    of_kind (k.Punct punct) e = rw e tt
    of_kind (k.TypeWord kind) e = rw e tt

undefine_keeps : (s : Reading) (at : Token) (line : List Token) → FitTable s.table → Kept (undefine s at line)
undefine_keeps s at [] f = tt
undefine_keeps s at (token ∷ (other ∷ more)) f = tt
undefine_keeps s at (token ∷ []) f = of_kind token.kind refl
  where
    of_kind : (kind : TokenKind) → token.kind ≡ kind → Kept (undefine s at (token ∷ []))
    of_kind (k.Word word) e = rw e (without_fits word s.table f)
    of_kind (k.Number value kind) e = rw e tt
    of_kind (k.Punct punct) e = rw e tt
    of_kind (k.TypeWord kind) e = rw e tt

obey_keeps : (s : Reading) (line : List Token) → FitTable s.table → FitTokens line → Kept (obey s line)
obey_keeps s [] f h = f
obey_keeps s (at ∷ rest) f h =
    cond_both (is_word (codes "include") at.kind && names_stdint rest) _ _ Kept (λ e. f)
    (λ n. cond_both (is_word (codes "define") at.kind) _ _ Kept (λ e. define_keeps s at rest f h.1)
    (λ m. cond_both (is_word (codes "undef") at.kind) _ _ Kept (λ e. undefine_keeps s at rest f) (λ l. tt)))

count_keeps : (s : Reading) (token : Token) (more_tokens more_words : ℕ) → FitTable s.table → Kept (count s token more_tokens more_words)
count_keeps s token more_tokens more_words f =
    cond_both (nat_lt token_limit (s.tokens + more_tokens) || nat_lt word_limit (s.words + more_words)) _ _ Kept (λ e. tt) (λ e. f)

-- ---- the whole list

fit_tokens : (ts us : List Token) → FitTokens (ts ++ us) → FitTokens ts × FitTokens us
fit_tokens [] us f = (tt, f)
fit_tokens (t ∷ ts) us f = let r = fit_tokens ts us f.1 in ((f.0, r.0), r.1)

-- what follows where a part is taken
taken : (r : Result Reading Refusal) (P : Reading → Type 0) (replaced : List Token) (C : Type 0) → Kept r → AndThen r P (Ok replaced) → ((s : Reading) → FitTable s.table → P s → C) → C
taken (Ok s) P replaced C kept a f = f s kept a
taken (Err r) P replaced C kept a f = absurd cc

behind_ok : (ts replaced : List Token) (rest : Result (List Token) Refusal) → ◌≡◌ {A = Result (List Token) Refusal} (Ok replaced) (behind ts rest)
    → (more : List Token) × (rest ≡ Ok more) × (replaced ≡ ts ++ more)
behind_ok ts replaced (Ok more) e = (more, refl, cc)
behind_ok ts replaced (Err r) e = absurd cc

outcome_fits : (ts : List Token) (parts : List Part) (s : Reading) (replaced : List Token) → Divides ts parts → Outcome s parts (Ok replaced) → FitTable s.table → FitTokens ts → FitTokens replaced
outcome_fits ts [] s replaced d o f h = let none : replaced ≡ [] = cc in subst FitTokens (sym none) tt
outcome_fits ts (directive hash line ∷ parts) s replaced (rest, e, is, first, begins, d) o f h =
    let parts_fit = fit_tokens line rest (subst FitTokens e h).1 in
    taken (obey s line) (λ new. Outcome new parts (Ok replaced)) replaced (FitTokens replaced) (obey_keeps s line f parts_fit.0) o
    (λ new kept out. outcome_fits rest parts new replaced d out kept parts_fit.1)
outcome_fits ts (ordinary token ∷ parts) s replaced (rest, e, is, d) (row, words, (inner, stands, placed_so), o) f h =
    let here = subst FitTokens e h in
    let inner_fits = row_fits stands f (here.0, tt) in
    let row_fit : FitTokens row = subst FitTokens (sym placed_so) (placed_fits s.included token (body_of s.table token.kind) inner here.0 inner_fits) in
    taken (count s token (length row) words) _ replaced (FitTokens replaced) (count_keeps s token (length row) words f) o
    (λ new kept out.
    let b = behind_ok row replaced out.0 out.2 in
    subst FitTokens (sym b.2) (fit_append row b.0 row_fit (outcome_fits rest parts new b.0 d (subst (Outcome new parts) b.1 out.1) kept here.1)))

pub replaced_stand : (ts replaced : List Token) → Becomes ts replaced → FitTokens ts → FitTokens replaced
replaced_stand ts replaced (parts, d, o) f = outcome_fits ts parts beginning replaced d o tt f

-- what the lexer, the preprocessor and the parser answer has tokens
pub has_tokens : (source : List ℕ) (lexed replaced : List Token) (end : Place) (program : ProgramTree) → Spells source lexed → Becomes lexed replaced → DerivesProgram (terminals replaced) end program
    → HasTokens program
has_tokens source lexed replaced end program s b d = record {
  tokens = terminals replaced;
  may_stand = all_stand (terminals replaced) (replaced_stand lexed replaced b (spelled_stand source lexed s));
  derives = d.0;
}
