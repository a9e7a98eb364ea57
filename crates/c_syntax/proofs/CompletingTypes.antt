-- The goals take each token of a type.
use Rattle.std.proofs.Common.{◌≡◌, ℕ, Bool, true, false, List, [], ◌∷◌, ◌++◌, codes, Option, Some, None, refl, ap, sym, ◌∙◌, append_assoc}
use Rattle.hls_base.specs.declared.place.Place.{Place}
use Rattle.c_token.specs.declared.ctype.CType.{CType}
use Rattle.c_token.specs.declared.token.TokenKind.TheVariants as k
use Rattle.c_tree.specs.declared.specifier.Specifier.{Specifier}
use Rattle.c_tree.specs.declared.specifier.Specifier.TheVariants as s
use Rattle.c_tree.specs.Terminals.{Terminal, terminal, word}
use Rattle.c_tree.specs.Kinds.{DerivesWords, DerivesKind, type_of_words, specifier_of}
use Rattle.c_tree.specs.Kinds as kinds
use Rattle.c_tree.specs.Limits.{plain, flat}
use Rattle.c_syntax.specs.declared.steps.goal.Goal.{Goal}
use Rattle.c_syntax.specs.declared.steps.goal.Goal.TheVariants as G
use Rattle.c_syntax.specs.declared.steps.goal.Spot.{Spot}
use Rattle.c_syntax.specs.declared.sorts.sort.Sort.{Sort}
use Rattle.c_syntax.specs.declared.sorts.sort.Sort.TheVariants as o
use Rattle.c_syntax.specs.declared.sorts.words.Words.{Words}
use Rattle.c_syntax.specs.declared.sorts.words.Words.TheVariants as w
use Rattle.c_syntax.specs.Sorts.{sort_of, begins_kind}
use Rattle.c_syntax.specs.Steps.{step_of, taken_or, next, typed_if}
use Rattle.c_syntax.specs.Sorts.Words.{with_word, starting}
use Rattle.c_syntax.proofs.Seen.{specifier_sort}
use Rattle.c_syntax.proofs.TypeWords.{Same, words_of, is_state, grows, starts, blocked, type_of-Same, same_more, same_trans, same_middle, void_first, void_alone}
use Rattle.c_syntax.proofs.Noting.{Noted}
use Rattle.c_syntax.proofs.Marking.{run, going, place, noted_at}
use Rattle.c_syntax.proofs.Completing.{at_first, run_as, skip, spot_at}

-- no word of a type goes on
abbrev pub no_kind : Sort → Bool
no_kind (o.Specifier word) = false
no_kind o.Const = false
no_kind _ = true

words_end : (words : Words) (depth : ℕ) (spot : Spot) (sort : Sort) → no_kind sort ≡ true → step_of (G.KindWords words depth) spot sort ≡ None
words_end words depth spot (o.Specifier word) e = absurd cc
words_end words depth spot o.Const e = absurd cc
words_end words depth spot _ e = refl

skip_words : (words : Words) (us : List Terminal) → at_first no_kind us ≡ true → (depth : ℕ) (goals : List Goal) (count : ℕ) (noted : List Noted)
    → run us (G.KindWords words depth ∷ goals) count noted ≡ run us goals count noted
skip_words words us e depth goals count noted = skip no_kind (G.KindWords words depth) refl (words_end words depth) us e goals count noted

const_words : (words : Words) (at : Place) (us : List Terminal) (depth : ℕ) (goals : List Goal) (count : ℕ) (noted : List Noted)
    → run (word (codes "const") at ∷ us) (G.KindWords words depth ∷ goals) count noted ≡ run us (G.KindWords words depth ∷ goals) count (noted_at depth count plain ∷ noted)
const_words words at us depth goals count noted = refl

-- ---- more words

-- no type, by a word that no type has behind these
none_with : (words : Words) (all ws : List Specifier) (v : Specifier) (kind : Option CType) → is_state words ≡ true → Same all (words_of words) → with_word words v ≡ None → type_of_words (all ++ v ∷ ws) ≡ Some kind → ⊥
none_with words all ws v kind state same none e =
    let f : None ≡ Some kind = sym (type_of-Same (all ++ v ∷ ws) ((v ∷ words_of words) ++ ws) (same_middle all (words_of words) ws v same) ∙ blocked words v ws state none) ∙ e in cc

abbrev RunsWords : List Terminal → List Specifier → Type 0
RunsWords ts ws = (words : Words) (all : List Specifier) (kind : Option CType) → is_state words ≡ true → Same all (words_of words) → type_of_words (all ++ ws) ≡ Some kind
    → (depth : ℕ) (goals : List Goal) (count : ℕ) (noted : List Noted) (us : List Terminal) → at_first no_kind us ≡ true
    → run (ts ++ us) (G.KindWords words depth ∷ goals) count noted ≡ run us goals count (place depth count (flat ts) noted)

with_run : (ts : List Terminal) (ws : List Specifier) → RunsWords ts ws → (words : Words) (all : List Specifier) (v : Specifier) (text : List ℕ) (at : Place) (kind : Option CType)
    → specifier_of text ≡ Some v → (new : Option Words) → with_word words v ≡ new → is_state words ≡ true → Same all (words_of words) → type_of_words (all ++ v ∷ ws) ≡ Some kind
    → (depth : ℕ) (goals : List Goal) (count : ℕ) (noted : List Noted) (us : List Terminal) → at_first no_kind us ≡ true
    → run (word text at ∷ (ts ++ us)) (G.KindWords words depth ∷ goals) count noted ≡ run us goals count (place depth count (flat ts) (noted_at depth count plain ∷ noted))
with_run ts ws f words all v text at kind sp None with state same e depth goals count noted us end = absurd (none_with words all ws v kind state same with e)
with_run ts ws f words all v text at kind sp (Some new) with state same e depth goals count noted us end =
    let gr = grows words new v state with in
    run_as (word text at) (o.Specifier v) (ts ++ us) (G.KindWords words depth ∷ goals) count noted (specifier_sort text v sp)
    ∙ ap (λ x. going (taken_or (typed_if (spot_at noted count) depth x) true goals (next goals (spot_at noted count) (o.Specifier v))) noted (run (ts ++ us))) with
    ∙ f new (all ++ v ∷ []) kind gr.1 (same_trans (all ++ v ∷ []) (v ∷ words_of words) (words_of new) (same_more all (words_of words) v same) gr.0)
    (ap type_of_words (append_assoc all (v ∷ []) ws) ∙ e) depth goals count (noted_at depth count plain ∷ noted) us end

words_run : {ts : List Terminal} {ws : List Specifier} {constant : Bool} → DerivesWords ts ws constant → RunsWords ts ws
words_run kinds.no_word words all kind state same e depth goals count noted us end = skip_words words us end depth goals count noted
words_run (kinds.a_const at ts ws constant d) words all kind state same e depth goals count noted us end =
    const_words words at (ts ++ us) depth goals count noted ∙ words_run d words all kind state same e depth goals count (noted_at depth count plain ∷ noted) us end
words_run (kinds.a_specifier text v at ts ws constant sp d) words all kind state same e depth goals count noted us end =
    with_run ts ws (words_run d) words all v text at kind sp (with_word words v) refl state same e depth goals count noted us end

-- `const` behind a name of `stdint.h`
name_run : {ts : List Terminal} {ws : List Specifier} {constant : Bool} → DerivesWords ts ws constant → ws ≡ [] → (depth : ℕ) (goals : List Goal) (count : ℕ) (noted : List Noted) (us : List Terminal)
    → at_first no_kind us ≡ true → run (ts ++ us) (G.KindWords w.Named depth ∷ goals) count noted ≡ run us goals count (place depth count (flat ts) noted)
name_run kinds.no_word e depth goals count noted us end = skip_words w.Named us end depth goals count noted
name_run (kinds.a_const at ts ws constant d) e depth goals count noted us end =
    const_words w.Named at (ts ++ us) depth goals count noted ∙ name_run d e depth goals count (noted_at depth count plain ∷ noted) us end
name_run (kinds.a_specifier text v at ts ws constant sp d) e depth goals count noted us end = absurd cc

-- ---- the first word

-- where a type begins: behind it stands the rest of an item, or nothing of its own
pub data From : Type 0 where
  anywhere : (depth : ℕ) → From
  in_item : (constant : Bool) → From

abbrev pub from_goal : From → Goal
from_goal (anywhere depth) = G.Kind depth
from_goal (in_item constant) = G.Item constant

abbrev pub from_depth : From → ℕ
from_depth (anywhere depth) = depth
from_depth (in_item constant) = 0

abbrev pub behind_type : From → Option CType → List Goal → List Goal
behind_type (anywhere depth) result goals = goals
behind_type (in_item constant) None goals = G.FunctionName ∷ goals
behind_type (in_item constant) (Some kind) goals = G.Declarator ∷ goals

abbrev const_from : From → From
const_from (anywhere depth) = anywhere depth
const_from (in_item constant) = in_item true

-- outside an item each type is that of a value
abbrev pub Fits : From → Option CType → Type 0
Fits (anywhere depth) None = ⊥
Fits _ _ = Unit {0}

fits_const : (f : From) (result : Option CType) → Fits f result → Fits (const_from f) result
fits_const (anywhere depth) result h = h
fits_const (in_item constant) result h = tt

const_first : (f : From) (at : Place) (us : List Terminal) (goals : List Goal) (count : ℕ) (noted : List Noted)
    → run (word (codes "const") at ∷ us) (from_goal f ∷ goals) count noted ≡ run us (from_goal (const_from f) ∷ goals) count (noted_at (from_depth f) count plain ∷ noted)
const_first (anywhere depth) at us goals count noted = refl
const_first (in_item constant) at us goals count noted = refl

const_depth : (f : From) → from_depth (const_from f) ≡ from_depth f
const_depth (anywhere depth) = refl
const_depth (in_item constant) = refl

const_behind : (f : From) (result : Option CType) (goals : List Goal) → behind_type (const_from f) result goals ≡ behind_type f result goals
const_behind (anywhere depth) result goals = refl
const_behind (in_item constant) None goals = refl
const_behind (in_item constant) (Some kind) goals = refl

name_first : (f : From) (kind : CType) (at : Place) (us : List Terminal) (goals : List Goal) (count : ℕ) (noted : List Noted)
    → run (terminal (k.TypeWord kind) at ∷ us) (from_goal f ∷ goals) count noted ≡ run us (G.KindWords w.Named (from_depth f) ∷ behind_type f (Some kind) goals) count (noted_at (from_depth f) count plain ∷ noted)
name_first (anywhere depth) kind at us goals count noted = refl
name_first (in_item constant) kind at us goals count noted = refl

-- the result that begins with this word
abbrev Begins : Specifier → Option CType → Type 0
Begins s.Void None = Unit {0}
Begins s.Void (Some kind) = ⊥
Begins _ None = ⊥
Begins _ (Some kind) = Unit {0}

value_first : (f : From) (v : Specifier) (result : Option CType) → Fits f result → Begins v result → (goals : List Goal) (spot : Spot) (us : List Terminal) (noted : List Noted)
    → going (next (from_goal f ∷ goals) spot (o.Specifier v)) noted (run us) ≡ run us (G.KindWords (starting v) (from_depth f) ∷ behind_type f result goals) spot.count (noted_at (from_depth f) spot.count plain ∷ noted)
value_first (anywhere depth) s.Void None fits b goals spot us noted = absurd fits
value_first (in_item constant) s.Void None fits b goals spot us noted = refl
value_first f s.Void (Some kind) fits b goals spot us noted = absurd b
value_first f s.Bool None fits b goals spot us noted = absurd b
value_first f s.Char None fits b goals spot us noted = absurd b
value_first f s.Short None fits b goals spot us noted = absurd b
value_first f s.Int None fits b goals spot us noted = absurd b
value_first f s.Long None fits b goals spot us noted = absurd b
value_first f s.Signed None fits b goals spot us noted = absurd b
value_first f s.Unsigned None fits b goals spot us noted = absurd b
value_first (anywhere depth) s.Bool (Some kind) fits b goals spot us noted = refl
value_first (anywhere depth) s.Char (Some kind) fits b goals spot us noted = refl
value_first (anywhere depth) s.Short (Some kind) fits b goals spot us noted = refl
value_first (anywhere depth) s.Int (Some kind) fits b goals spot us noted = refl
value_first (anywhere depth) s.Long (Some kind) fits b goals spot us noted = refl
value_first (anywhere depth) s.Signed (Some kind) fits b goals spot us noted = refl
value_first (anywhere depth) s.Unsigned (Some kind) fits b goals spot us noted = refl
value_first (in_item constant) s.Bool (Some kind) fits b goals spot us noted = refl
value_first (in_item constant) s.Char (Some kind) fits b goals spot us noted = refl
value_first (in_item constant) s.Short (Some kind) fits b goals spot us noted = refl
value_first (in_item constant) s.Int (Some kind) fits b goals spot us noted = refl
value_first (in_item constant) s.Long (Some kind) fits b goals spot us noted = refl
value_first (in_item constant) s.Signed (Some kind) fits b goals spot us noted = refl
value_first (in_item constant) s.Unsigned (Some kind) fits b goals spot us noted = refl

void_clash : (v : Specifier) → (v ≡ s.Void) → Begins v None
void_clash s.Void e = tt
void_clash s.Bool e = absurd cc
void_clash s.Char e = absurd cc
void_clash s.Short e = absurd cc
void_clash s.Int e = absurd cc
void_clash s.Long e = absurd cc
void_clash s.Signed e = absurd cc
void_clash s.Unsigned e = absurd cc

value_begins : (v : Specifier) (ws : List Specifier) (kind : CType) → type_of_words (v ∷ ws) ≡ Some (Some kind) → Begins v (Some kind)
value_begins s.Void ws kind e = void_alone ws kind e
value_begins s.Bool ws kind e = tt
value_begins s.Char ws kind e = tt
value_begins s.Short ws kind e = tt
value_begins s.Int ws kind e = tt
value_begins s.Long ws kind e = tt
value_begins s.Signed ws kind e = tt
value_begins s.Unsigned ws kind e = tt

result_begins : (v : Specifier) (ws : List Specifier) (result : Option CType) → type_of_words (v ∷ ws) ≡ Some result → Begins v result
result_begins v ws None e = void_clash v (void_first v ws e)
result_begins v ws (Some kind) e = value_begins v ws kind e

words_from : {ts : List Terminal} {ws : List Specifier} {constant : Bool} → DerivesWords ts ws constant → (f : From) (result : Option CType) → Fits f result → type_of_words ws ≡ Some result
    → (goals : List Goal) (count : ℕ) (noted : List Noted) (us : List Terminal) → at_first no_kind us ≡ true
    → run (ts ++ us) (from_goal f ∷ goals) count noted ≡ run us (behind_type f result goals) count (place (from_depth f) count (flat ts) noted)
words_from kinds.no_word f result fits e goals count noted us end = absurd (let h : None ≡ Some result = e in cc)
words_from (kinds.a_const at ts ws constant d) f result fits e goals count noted us end =
    const_first f at (ts ++ us) goals count noted
    ∙ words_from d (const_from f) result (fits_const f result fits) e goals count (noted_at (from_depth f) count plain ∷ noted) us end
    ∙ ap (λ x. run us x count (place (from_depth (const_from f)) count (flat ts) (noted_at (from_depth f) count plain ∷ noted))) (const_behind f result goals)
    ∙ ap (λ x. run us (behind_type f result goals) count (place x count (flat ts) (noted_at (from_depth f) count plain ∷ noted))) (const_depth f)
words_from (kinds.a_specifier text v at ts ws constant sp d) f result fits e goals count noted us end =
    run_as (word text at) (o.Specifier v) (ts ++ us) (from_goal f ∷ goals) count noted (specifier_sort text v sp)
    ∙ value_first f v result fits (result_begins v ws result e) goals (spot_at noted count) (ts ++ us) noted
    ∙ words_run d (starting v) (v ∷ []) result (starts v).1 (starts v).0 e (from_depth f) (behind_type f result goals) count (noted_at (from_depth f) count plain ∷ noted) us end

name_from : {ls : List Terminal} {ws : List Specifier} {constant : Bool} → DerivesWords ls ws constant → ws ≡ [] → (f : From) (kind : CType) (at : Place) (rs : List Terminal) (behind : Bool) → DerivesWords rs [] behind
    → (goals : List Goal) (count : ℕ) (noted : List Noted) (us : List Terminal) → at_first no_kind us ≡ true
    → run ((ls ++ terminal (k.TypeWord kind) at ∷ rs) ++ us) (from_goal f ∷ goals) count noted
    ≡ run us (behind_type f (Some kind) goals) count (place (from_depth f) count (flat (ls ++ terminal (k.TypeWord kind) at ∷ rs)) noted)
name_from kinds.no_word e f kind at rs behind d goals count noted us end =
    name_first f kind at (rs ++ us) goals count noted ∙ name_run d refl (from_depth f) (behind_type f (Some kind) goals) count (noted_at (from_depth f) count plain ∷ noted) us end
name_from (kinds.a_const to ls ws constant l) e f kind at rs behind d goals count noted us end =
    let ts = ls ++ terminal (k.TypeWord kind) at ∷ rs in
    const_first f to (ts ++ us) goals count noted
    ∙ name_from l e (const_from f) kind at rs behind d goals count (noted_at (from_depth f) count plain ∷ noted) us end
    ∙ ap (λ x. run us x count (place (from_depth (const_from f)) count (flat ts) (noted_at (from_depth f) count plain ∷ noted))) (const_behind f (Some kind) goals)
    ∙ ap (λ x. run us (behind_type f (Some kind) goals) count (place x count (flat ts) (noted_at (from_depth f) count plain ∷ noted))) (const_depth f)
name_from (kinds.a_specifier text v to ls ws constant sp l) e f kind at rs behind d goals count noted us end = absurd cc

some_fits : (f : From) (kind : CType) → Fits f (Some kind)
some_fits (anywhere depth) kind = tt
some_fits (in_item constant) kind = tt

-- a type
pub kind_run : {ts : List Terminal} {result : Option CType} {constant : Bool} → DerivesKind ts result constant → (f : From) → Fits f result → (goals : List Goal) (count : ℕ) (noted : List Noted) (us : List Terminal)
    → at_first no_kind us ≡ true → run (ts ++ us) (from_goal f ∷ goals) count noted ≡ run us (behind_type f result goals) count (place (from_depth f) count (flat ts) noted)
kind_run (kinds.of_words ts words result constant d e) f fits goals count noted us end = words_from d f result fits e goals count noted us end
kind_run (kinds.of_name ls rs kind at before behind d e) f fits goals count noted us end = name_from d refl f kind at rs behind e goals count noted us end

-- ---- what a type begins with

value_sort : (v : Specifier) (kind : CType) → Begins v (Some kind) → begins_kind (o.Specifier v) ≡ true
value_sort s.Void kind b = absurd b
value_sort s.Bool kind b = refl
value_sort s.Char kind b = refl
value_sort s.Short kind b = refl
value_sort s.Int kind b = refl
value_sort s.Long kind b = refl
value_sort s.Signed kind b = refl
value_sort s.Unsigned kind b = refl

pub record StartsKind (ts : List Terminal) : Type 0 where
  pub first : Terminal
  pub rest : List Terminal
  pub shape : ts ≡ first ∷ rest
  pub begins : begins_kind (sort_of first.kind) ≡ true

words_start : {ts : List Terminal} {ws : List Specifier} {constant : Bool} → DerivesWords ts ws constant → (kind : CType) → type_of_words ws ≡ Some (Some kind) → StartsKind ts
words_start kinds.no_word kind e = absurd (let h : None ≡ Some (Some kind) = e in cc)
words_start (kinds.a_const at ts ws constant d) kind e = record { first = word (codes "const") at; rest = ts; shape = refl; begins = refl }
words_start (kinds.a_specifier text v at ts ws constant sp d) kind e =
    record { first = word text at; rest = ts; shape = refl; begins = ap begins_kind (specifier_sort text v sp) ∙ value_sort v kind (value_begins v ws kind e) }

name_start : {ls : List Terminal} {ws : List Specifier} {constant : Bool} → DerivesWords ls ws constant → ws ≡ [] → (kind : CType) (at : Place) (rs : List Terminal) → StartsKind (ls ++ terminal (k.TypeWord kind) at ∷ rs)
name_start kinds.no_word e kind at rs = record { first = terminal (k.TypeWord kind) at; rest = rs; shape = refl; begins = refl }
name_start (kinds.a_const to ls ws constant d) e kind at rs = record { first = word (codes "const") to; rest = ls ++ terminal (k.TypeWord kind) at ∷ rs; shape = refl; begins = refl }
name_start (kinds.a_specifier text v to ls ws constant sp d) e kind at rs = absurd cc

kind_start_as : {ts : List Terminal} {result : Option CType} {constant : Bool} → DerivesKind ts result constant → (kind : CType) → result ≡ Some kind → StartsKind ts
kind_start_as (kinds.of_words ts words result constant d e) kind same = words_start d kind (e ∙ ap Some same)
kind_start_as (kinds.of_name ls rs type at before behind d e) kind same = name_start d refl type at rs

pub kind_starts : {ts : List Terminal} {kind : CType} {constant : Bool} → DerivesKind ts (Some kind) constant → StartsKind ts
kind_starts {ts} {kind} d = kind_start_as d kind refl
