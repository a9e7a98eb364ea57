-- Words of types in any order.
use Rattle.std.proofs.Common.{◌≡◌, ℕ, zero, suc, ◌+◌, Bool, true, false, List, [], ◌∷◌, ◌++◌, Option, Some, None, refl, ap, sym, ◌∙◌, arith}
use Rattle.std.proofs.lemmas.Bool.{le-leb}
use Rattle.std.specs.Prelude.{◌&&◌, nat_le, if◌then◌else◌, is_some}
use Rattle.c_token.specs.declared.ctype.CType.{CType}
use Rattle.c_tree.specs.declared.specifier.Specifier.{Specifier}
use Rattle.c_tree.specs.declared.specifier.Specifier.TheVariants as s
use Rattle.c_tree.specs.Kinds.{same_specifier, put_back, without_one, and_then, same_words, Row, rows, row_with, type_of_words}
use Rattle.c_syntax.specs.declared.sorts.words.Words.{Words}
use Rattle.c_syntax.specs.declared.sorts.words.Words.TheVariants as w
use Rattle.c_syntax.specs.declared.sorts.words.Signedness.{Signedness}
use Rattle.c_syntax.specs.declared.sorts.words.Signedness.TheVariants as g
use Rattle.c_syntax.specs.Sorts.Words.{with_word, starting}

-- ---- how often a word is among others

abbrev one_if : Bool → ℕ → ℕ
one_if true n = suc n
one_if false n = n

abbrev pub times : Specifier → List Specifier → ℕ
times v [] = zero
times v (w ∷ ws) = one_if (same_specifier v w) (times v ws)

same_self : (v : Specifier) → same_specifier v v ≡ true
same_self s.Void = refl
same_self s.Bool = refl
same_self s.Char = refl
same_self s.Short = refl
same_self s.Int = refl
same_self s.Long = refl
same_self s.Signed = refl
same_self s.Unsigned = refl

same_is : (v w : Specifier) → same_specifier v w ≡ true → v ≡ w
same_is s.Void s.Void e = refl
same_is s.Bool s.Bool e = refl
same_is s.Char s.Char e = refl
same_is s.Short s.Short e = refl
same_is s.Int s.Int e = refl
same_is s.Long s.Long e = refl
same_is s.Signed s.Signed e = refl
same_is s.Unsigned s.Unsigned e = refl
same_is _ _ e = absurd cc

-- the same words, by counting
abbrev pub Same : List Specifier → List Specifier → Type 0
Same vs ws = (v : Specifier) → times v vs ≡ times v ws

one_if_swap : (a b : Bool) (n : ℕ) → one_if a (one_if b n) ≡ one_if b (one_if a n)
one_if_swap true true n = refl
one_if_swap true false n = refl
one_if_swap false true n = refl
one_if_swap false false n = refl

-- without one of them the words are one less of it
abbrev Without : Specifier → List Specifier → Option (List Specifier) → Type 0
Without v ws None = times v ws ≡ zero
Without v ws (Some us) = (u : Specifier) → times u ws ≡ one_if (same_specifier u v) (times u us)

put_back-Without : (v w : Specifier) (ws : List Specifier) (us : Option (List Specifier)) → same_specifier v w ≡ false → Without v ws us → Without v (w ∷ ws) (put_back w us)
put_back-Without v w ws None e h = ap (λ b. one_if b (times v ws)) e ∙ h
put_back-Without v w ws (Some us) e h = λ u. ap (one_if (same_specifier u w)) (h u) ∙ one_if_swap (same_specifier u w) (same_specifier u v) (times u us)

without_if : (v w : Specifier) (ws : List Specifier) (b : Bool) (us : Option (List Specifier)) → same_specifier v w ≡ b → Without v ws us → Without v (w ∷ ws) (if b then Some ws else put_back w us)
without_if v w ws true us e h = λ u. ap (λ x. one_if (same_specifier u x) (times u ws)) (sym (same_is v w e))
without_if v w ws false us e h = put_back-Without v w ws us e h

without : (v : Specifier) (ws : List Specifier) → Without v ws (without_one v ws)
without v [] = refl
without v (w ∷ ws) = without_if v w ws (same_specifier v w) (without_one v ws) refl (without v ws)

one_if_true : (b : Bool) (m n : ℕ) → one_if b m ≡ one_if b n → m ≡ n
one_if_true true m n e = omega (arith, e)
one_if_true false m n e = e

zero_not_one : (v : Specifier) (n : ℕ) → one_if (same_specifier v v) n ≡ zero → ⊥
zero_not_one v n e = let f : suc n ≡ zero = sym (ap (λ b. one_if b n) (same_self v)) ∙ e in omega (arith, f)

same_then : (v : Specifier) (vs ws : List Specifier) (us : Option (List Specifier)) → ((us : List Specifier) → same_words vs us ≡ true → Same vs us) → Without v ws us
    → and_then us (same_words vs) ≡ true → Same (v ∷ vs) ws
same_then v vs ws None rest h e = absurd cc
same_then v vs ws (Some us) rest h e = λ u. ap (one_if (same_specifier u v)) (rest us e u) ∙ sym (h u)

pub same_counts : (vs ws : List Specifier) → same_words vs ws ≡ true → Same vs ws
same_counts [] [] e = λ u. refl
same_counts [] (w ∷ ws) e = absurd cc
same_counts (v ∷ vs) ws e = same_then v vs ws (without_one v ws) (same_counts vs) (without v ws) e

counts_then : (v : Specifier) (vs ws : List Specifier) (us : Option (List Specifier)) → ((us : List Specifier) → Same vs us → same_words vs us ≡ true) → Without v ws us
    → Same (v ∷ vs) ws → and_then us (same_words vs) ≡ true
counts_then v vs ws None rest h e = absurd (zero_not_one v (times v vs) (e v ∙ h))
counts_then v vs ws (Some us) rest h e = rest us (λ u. one_if_true (same_specifier u v) _ _ (e u ∙ h u))

pub counts_same : (vs ws : List Specifier) → Same vs ws → same_words vs ws ≡ true
counts_same [] [] e = refl
counts_same [] (w ∷ ws) e = absurd (zero_not_one w (times w ws) (sym (e w)))
counts_same (v ∷ vs) ws e = counts_then v vs ws (without_one v ws) (counts_same vs) (without v ws) e

-- ---- types of words that are the same

eq_if : (a b : Bool) → (a ≡ true → b ≡ true) → (b ≡ true → a ≡ true) → a ≡ b
eq_if true true f g = refl
eq_if false false f g = refl
eq_if true false f g = sym (f refl)
eq_if false true f g = g refl

row_with-Same : (vs ws : List Specifier) (all : List Row) → Same vs ws → row_with vs all ≡ row_with ws all
row_with-Same vs ws [] e = refl
row_with-Same vs ws (row ∷ all) e =
    let b : same_words vs row.0 ≡ same_words ws row.0 =
    eq_if _ _ (λ h. counts_same ws row.0 (λ u. sym (e u) ∙ same_counts vs row.0 h u)) (λ h. counts_same vs row.0 (λ u. e u ∙ same_counts ws row.0 h u)) in
    ap (λ x. if x then Some row.1 else row_with vs all) b ∙ ap (λ x. if same_words ws row.0 then Some row.1 else x) (row_with-Same vs ws all e)

pub type_of-Same : (vs ws : List Specifier) → Same vs ws → type_of_words vs ≡ type_of_words ws
type_of-Same vs ws e = row_with-Same vs ws rows e

times-append : (v : Specifier) (vs ws : List Specifier) → times v (vs ++ ws) ≡ times v vs + times v ws
times-append v [] ws = omega arith
times-append v (u ∷ vs) ws = first (same_specifier v u) (times v vs) (times v ws) (times v (vs ++ ws)) (times-append v vs ws)
  where
    first : (b : Bool) (m n k : ℕ) → k ≡ m + n → one_if b k ≡ one_if b m + n
    first true m n k e = omega (arith, e)
    first false m n k e = e

-- ---- the words that a state stands for

abbrev sign_words : Signedness → List Specifier → List Specifier
sign_words g.Silent ws = ws
sign_words g.Signed ws = s.Signed ∷ ws
sign_words g.Unsigned ws = s.Unsigned ∷ ws

abbrev int_words : Bool → List Specifier
int_words true = s.Int ∷ []
int_words false = []

-- no words of types for a name of `stdint.h`
abbrev pub words_of : Words → List Specifier
words_of w.Void = s.Void ∷ []
words_of w.Named = []
words_of w.Bool = s.Bool ∷ []
words_of (w.Char sign) = sign_words sign (s.Char ∷ [])
words_of (w.Short sign int) = sign_words sign (s.Short ∷ int_words int)
words_of (w.Int sign int) = sign_words sign (int_words int)
words_of (w.Long sign int) = sign_words sign (s.Long ∷ int_words int)
words_of (w.LongLong sign int) = sign_words sign (s.Long ∷ s.Long ∷ int_words int)

-- the states that words lead to: `Int` without a word is none
abbrev pub is_state : Words → Bool
is_state w.Named = false
is_state (w.Int g.Silent false) = false
is_state _ = true

-- a state is a type
pub state_type : (words : Words) → is_state words ≡ true → is_some (type_of_words (words_of words)) ≡ true
state_type w.Void e = refl
state_type w.Named e = absurd cc
state_type w.Bool e = refl
state_type (w.Char g.Silent) e = refl
state_type (w.Char g.Signed) e = refl
state_type (w.Char g.Unsigned) e = refl
state_type (w.Short g.Silent true) e = refl
state_type (w.Short g.Silent false) e = refl
state_type (w.Short g.Signed true) e = refl
state_type (w.Short g.Signed false) e = refl
state_type (w.Short g.Unsigned true) e = refl
state_type (w.Short g.Unsigned false) e = refl
state_type (w.Int g.Silent true) e = refl
state_type (w.Int g.Silent false) e = absurd cc
state_type (w.Int g.Signed true) e = refl
state_type (w.Int g.Signed false) e = refl
state_type (w.Int g.Unsigned true) e = refl
state_type (w.Int g.Unsigned false) e = refl
state_type (w.Long g.Silent true) e = refl
state_type (w.Long g.Silent false) e = refl
state_type (w.Long g.Signed true) e = refl
state_type (w.Long g.Signed false) e = refl
state_type (w.Long g.Unsigned true) e = refl
state_type (w.Long g.Unsigned false) e = refl
state_type (w.LongLong g.Silent true) e = refl
state_type (w.LongLong g.Silent false) e = refl
state_type (w.LongLong g.Signed true) e = refl
state_type (w.LongLong g.Signed false) e = refl
state_type (w.LongLong g.Unsigned true) e = refl
state_type (w.LongLong g.Unsigned false) e = refl

-- ---- what holds of each state and each word, by trying all

both : (a b : Bool) → (a && b) ≡ true → (a ≡ true) × (b ≡ true)
both true true e = (refl, refl)
both true false e = absurd cc
both false b e = absurd cc

abbrev all_of : {A : Type 0} → (A → Bool) → List A → Bool
all_of P [] = true
all_of P (x ∷ xs) = P x && all_of P xs

abbrev AllOf : {A : Type 0} → (A → Bool) → List A → Type 0
AllOf P [] = Unit {0}
AllOf P (x ∷ xs) = (P x ≡ true) × AllOf P xs

of_all : {A : Type 0} (P : A → Bool) (xs : List A) → all_of P xs ≡ true → AllOf P xs
of_all P [] e = tt
of_all P (x ∷ xs) e = let h = both (P x) (all_of P xs) e in (h.0, of_all P xs h.1)

abbrev states : List Words
states = w.Void ∷ w.Named ∷ w.Bool ∷ (w.Char g.Silent) ∷ (w.Char g.Signed) ∷ (w.Char g.Unsigned) ∷ (w.Short g.Silent false) ∷ (w.Short g.Silent true) ∷ (w.Short g.Signed false) ∷ (w.Short g.Signed true) ∷ (w.Short g.Unsigned false) ∷ (w.Short g.Unsigned true) ∷ (w.Int g.Silent false) ∷ (w.Int g.Silent true) ∷ (w.Int g.Signed false) ∷ (w.Int g.Signed true) ∷ (w.Int g.Unsigned false) ∷ (w.Int g.Unsigned true) ∷ (w.Long g.Silent false) ∷ (w.Long g.Silent true) ∷ (w.Long g.Signed false) ∷ (w.Long g.Signed true) ∷ (w.Long g.Unsigned false) ∷ (w.Long g.Unsigned true) ∷ (w.LongLong g.Silent false) ∷ (w.LongLong g.Silent true) ∷ (w.LongLong g.Signed false) ∷ (w.LongLong g.Signed true) ∷ (w.LongLong g.Unsigned false) ∷ (w.LongLong g.Unsigned true) ∷ []

abbrev specifiers : List Specifier
specifiers = s.Void ∷ s.Bool ∷ s.Char ∷ s.Short ∷ s.Int ∷ s.Long ∷ s.Signed ∷ s.Unsigned ∷ []

every_state : (P : Words → Bool) → all_of P states ≡ true → (words : Words) → P words ≡ true
every_state P e w.Void = (of_all P states e).0
every_state P e w.Named = (of_all P states e).1.0
every_state P e w.Bool = (of_all P states e).1.1.0
every_state P e (w.Char g.Silent) = (of_all P states e).1.1.1.0
every_state P e (w.Char g.Signed) = (of_all P states e).1.1.1.1.0
every_state P e (w.Char g.Unsigned) = (of_all P states e).1.1.1.1.1.0
every_state P e (w.Short g.Silent false) = (of_all P states e).1.1.1.1.1.1.0
every_state P e (w.Short g.Silent true) = (of_all P states e).1.1.1.1.1.1.1.0
every_state P e (w.Short g.Signed false) = (of_all P states e).1.1.1.1.1.1.1.1.0
every_state P e (w.Short g.Signed true) = (of_all P states e).1.1.1.1.1.1.1.1.1.0
every_state P e (w.Short g.Unsigned false) = (of_all P states e).1.1.1.1.1.1.1.1.1.1.0
every_state P e (w.Short g.Unsigned true) = (of_all P states e).1.1.1.1.1.1.1.1.1.1.1.0
every_state P e (w.Int g.Silent false) = (of_all P states e).1.1.1.1.1.1.1.1.1.1.1.1.0
every_state P e (w.Int g.Silent true) = (of_all P states e).1.1.1.1.1.1.1.1.1.1.1.1.1.0
every_state P e (w.Int g.Signed false) = (of_all P states e).1.1.1.1.1.1.1.1.1.1.1.1.1.1.0
every_state P e (w.Int g.Signed true) = (of_all P states e).1.1.1.1.1.1.1.1.1.1.1.1.1.1.1.0
every_state P e (w.Int g.Unsigned false) = (of_all P states e).1.1.1.1.1.1.1.1.1.1.1.1.1.1.1.1.0
every_state P e (w.Int g.Unsigned true) = (of_all P states e).1.1.1.1.1.1.1.1.1.1.1.1.1.1.1.1.1.0
every_state P e (w.Long g.Silent false) = (of_all P states e).1.1.1.1.1.1.1.1.1.1.1.1.1.1.1.1.1.1.0
every_state P e (w.Long g.Silent true) = (of_all P states e).1.1.1.1.1.1.1.1.1.1.1.1.1.1.1.1.1.1.1.0
every_state P e (w.Long g.Signed false) = (of_all P states e).1.1.1.1.1.1.1.1.1.1.1.1.1.1.1.1.1.1.1.1.0
every_state P e (w.Long g.Signed true) = (of_all P states e).1.1.1.1.1.1.1.1.1.1.1.1.1.1.1.1.1.1.1.1.1.0
every_state P e (w.Long g.Unsigned false) = (of_all P states e).1.1.1.1.1.1.1.1.1.1.1.1.1.1.1.1.1.1.1.1.1.1.0
every_state P e (w.Long g.Unsigned true) = (of_all P states e).1.1.1.1.1.1.1.1.1.1.1.1.1.1.1.1.1.1.1.1.1.1.1.0
every_state P e (w.LongLong g.Silent false) = (of_all P states e).1.1.1.1.1.1.1.1.1.1.1.1.1.1.1.1.1.1.1.1.1.1.1.1.0
every_state P e (w.LongLong g.Silent true) = (of_all P states e).1.1.1.1.1.1.1.1.1.1.1.1.1.1.1.1.1.1.1.1.1.1.1.1.1.0
every_state P e (w.LongLong g.Signed false) = (of_all P states e).1.1.1.1.1.1.1.1.1.1.1.1.1.1.1.1.1.1.1.1.1.1.1.1.1.1.0
every_state P e (w.LongLong g.Signed true) = (of_all P states e).1.1.1.1.1.1.1.1.1.1.1.1.1.1.1.1.1.1.1.1.1.1.1.1.1.1.1.0
every_state P e (w.LongLong g.Unsigned false) = (of_all P states e).1.1.1.1.1.1.1.1.1.1.1.1.1.1.1.1.1.1.1.1.1.1.1.1.1.1.1.1.0
every_state P e (w.LongLong g.Unsigned true) = (of_all P states e).1.1.1.1.1.1.1.1.1.1.1.1.1.1.1.1.1.1.1.1.1.1.1.1.1.1.1.1.1.0

every_specifier : (P : Specifier → Bool) → all_of P specifiers ≡ true → (v : Specifier) → P v ≡ true
every_specifier P e s.Void = (of_all P specifiers e).0
every_specifier P e s.Bool = (of_all P specifiers e).1.0
every_specifier P e s.Char = (of_all P specifiers e).1.1.0
every_specifier P e s.Short = (of_all P specifiers e).1.1.1.0
every_specifier P e s.Int = (of_all P specifiers e).1.1.1.1.0
every_specifier P e s.Long = (of_all P specifiers e).1.1.1.1.1.0
every_specifier P e s.Signed = (of_all P specifiers e).1.1.1.1.1.1.0
every_specifier P e s.Unsigned = (of_all P specifiers e).1.1.1.1.1.1.1.0

every_pair : (P : Words → Specifier → Bool) → all_of (λ words. all_of (P words) specifiers) states ≡ true → (words : Words) (v : Specifier) → P words v ≡ true
every_pair P e words v = every_specifier (P words) (every_state (λ words. all_of (P words) specifiers) e words) v

-- ---- one word more

abbrev grows_to : Words → Specifier → Option Words → Bool
grows_to words v None = true
grows_to words v (Some new) = if is_state words then same_words (v ∷ words_of words) (words_of new) && is_state new else true

all_grow : all_of (λ words. all_of (λ v. grows_to words v (with_word words v)) specifiers) states ≡ true
all_grow = refl

pub grows : (words new : Words) (v : Specifier) → is_state words ≡ true → with_word words v ≡ Some new → Same (v ∷ words_of words) (words_of new) × (is_state new ≡ true)
grows words new v state e =
    let h : grows_to words v (Some new) ≡ true = sym (ap (grows_to words v) e) ∙ every_pair (λ words v. grows_to words v (with_word words v)) all_grow words v in
    let k : (same_words (v ∷ words_of words) (words_of new) && is_state new) ≡ true = sym (ap (λ b. if b then same_words (v ∷ words_of words) (words_of new) && is_state new else true) state) ∙ h in
    let b = both (same_words (v ∷ words_of words) (words_of new)) (is_state new) k in (same_counts (v ∷ words_of words) (words_of new) b.0, b.1)

pub starts : (v : Specifier) → Same (v ∷ []) (words_of (starting v)) × (is_state (starting v) ≡ true)
starts v = let b = both (same_words (v ∷ []) (words_of (starting v))) (is_state (starting v)) (every_specifier (λ v. same_words (v ∷ []) (words_of (starting v)) && is_state (starting v)) refl v) in (same_counts (v ∷ []) (words_of (starting v)) b.0, b.1)

-- ---- no type has the words and one more

abbrev covers : List Specifier → List Specifier → Bool
covers row ws = all_of (λ v. nat_le (times v ws) (times v row)) specifiers

abbrev blocked_by : Words → Specifier → Option Words → Bool
blocked_by words v None = if is_state words then all_of (λ row. if covers row.0 (v ∷ words_of words) then false else true) rows else true
blocked_by words v (Some new) = true

all_blocked : all_of (λ words. all_of (λ v. blocked_by words v (with_word words v)) specifiers) states ≡ true
all_blocked = refl

no_row : (ws : List Specifier) (all : List Row) → AllOf (λ row. if same_words ws row.0 then false else true) all → row_with ws all ≡ None
no_row ws [] h = refl
no_row ws (row ∷ all) h = first row.1 (row_with ws all) (same_words ws row.0) h.0 (no_row ws all h.1)
  where
    first : {A : Type 0} (x : A) (y : Option A) (b : Bool) → (if b then false else true) ≡ true → y ≡ None → (if b then Some x else y) ≡ None
    first x y true e f = absurd cc
    first x y false e f = f

le_true : (m n k : ℕ) → m + n ≡ k → nat_le m k ≡ true
le_true m n k e = le-leb m k (omega (arith, e))

covers_same : (row ws us : List Specifier) → Same (ws ++ us) row → covers row ws ≡ true
covers_same row ws us e = all_true (λ v. nat_le (times v ws) (times v row)) (λ v. le_true (times v ws) (times v us) (times v row) (sym (times-append v ws us) ∙ e v)) specifiers
  where
    all_true : (P : Specifier → Bool) → ((v : Specifier) → P v ≡ true) → (vs : List Specifier) → all_of P vs ≡ true
    all_true P h [] = refl
    all_true P h (v ∷ vs) = ap (λ b. b && all_of P vs) (h v) ∙ all_true P h vs

not_same : (ws us : List Specifier) (all : List Row) → AllOf (λ row. if covers row.0 ws then false else true) all → AllOf (λ row. if same_words (ws ++ us) row.0 then false else true) all
not_same ws us [] h = tt
not_same ws us (row ∷ all) h = (first (same_words (ws ++ us) row.0) (covers row.0 ws) (λ e. covers_same row.0 ws us (same_counts _ _ e)) h.0, not_same ws us all h.1)
  where
    first : (b c : Bool) → (b ≡ true → c ≡ true) → (if c then false else true) ≡ true → (if b then false else true) ≡ true
    first false c f e = refl
    first true true f e = e
    first true false f e = absurd (let h : false ≡ true = f refl in cc)

pub blocked : (words : Words) (v : Specifier) (us : List Specifier) → is_state words ≡ true → with_word words v ≡ None → type_of_words ((v ∷ words_of words) ++ us) ≡ None
blocked words v us state e =
    let h : blocked_by words v None ≡ true = sym (ap (blocked_by words v) e) ∙ every_pair (λ words v. blocked_by words v (with_word words v)) all_blocked words v in
    let k : all_of (λ row. if covers row.0 (v ∷ words_of words) then false else true) rows ≡ true =
    sym (ap (λ b. if b then all_of (λ row. if covers row.0 (v ∷ words_of words) then false else true) rows else true) state) ∙ h in
    no_row ((v ∷ words_of words) ++ us) rows (not_same (v ∷ words_of words) us rows (of_all (λ row. if covers row.0 (v ∷ words_of words) then false else true) rows k))

-- ---- words of a value

abbrev pub is_words : Words → Bool
is_words w.Void = false
is_words w.Named = false
is_words _ = true

abbrev grown_of : Words → Option Words → Bool
grown_of words None = true
grown_of words (Some new) = is_words words && is_words new

all_grown : all_of (λ words. all_of (λ v. grown_of words (with_word words v)) specifiers) states ≡ true
all_grown = refl

pub grown : (words new : Words) (v : Specifier) → with_word words v ≡ Some new → (is_words words ≡ true) × (is_words new ≡ true)
grown words new v e =
    let h : grown_of words (Some new) ≡ true = sym (ap (grown_of words) e) ∙ every_pair (λ words v. grown_of words (with_word words v)) all_grown words v in
    both (is_words words) (is_words new) h

-- the type of a state
pub value_type : (words : Words) → is_words words ≡ true → is_state words ≡ true → (kind : CType) × (type_of_words (words_of words) ≡ Some (Some kind))
value_type w.Void h e = absurd cc
value_type w.Named h e = absurd cc
value_type w.Bool h e = (_, refl)
value_type (w.Char g.Silent) h e = (_, refl)
value_type (w.Char g.Signed) h e = (_, refl)
value_type (w.Char g.Unsigned) h e = (_, refl)
value_type (w.Short g.Silent false) h e = (_, refl)
value_type (w.Short g.Silent true) h e = (_, refl)
value_type (w.Short g.Signed false) h e = (_, refl)
value_type (w.Short g.Signed true) h e = (_, refl)
value_type (w.Short g.Unsigned false) h e = (_, refl)
value_type (w.Short g.Unsigned true) h e = (_, refl)
value_type (w.Int g.Silent false) h e = absurd cc
value_type (w.Int g.Silent true) h e = (_, refl)
value_type (w.Int g.Signed false) h e = (_, refl)
value_type (w.Int g.Signed true) h e = (_, refl)
value_type (w.Int g.Unsigned false) h e = (_, refl)
value_type (w.Int g.Unsigned true) h e = (_, refl)
value_type (w.Long g.Silent false) h e = (_, refl)
value_type (w.Long g.Silent true) h e = (_, refl)
value_type (w.Long g.Signed false) h e = (_, refl)
value_type (w.Long g.Signed true) h e = (_, refl)
value_type (w.Long g.Unsigned false) h e = (_, refl)
value_type (w.Long g.Unsigned true) h e = (_, refl)
value_type (w.LongLong g.Silent false) h e = (_, refl)
value_type (w.LongLong g.Silent true) h e = (_, refl)
value_type (w.LongLong g.Signed false) h e = (_, refl)
value_type (w.LongLong g.Signed true) h e = (_, refl)
value_type (w.LongLong g.Unsigned false) h e = (_, refl)
value_type (w.LongLong g.Unsigned true) h e = (_, refl)

-- one word more behind the same words
pub same_more : (vs ws : List Specifier) (v : Specifier) → Same vs ws → Same (vs ++ v ∷ []) (v ∷ ws)
same_more vs ws v e = λ u. times-append u vs (v ∷ []) ∙ last (same_specifier u v) (times u vs) (times u ws) (e u)
  where
    last : (b : Bool) (m n : ℕ) → m ≡ n → m + one_if b zero ≡ one_if b n
    last true m n e = omega (arith, e)
    last false m n e = omega (arith, e)

pub same_trans : (us vs ws : List Specifier) → Same us vs → Same vs ws → Same us ws
same_trans us vs ws e f = λ u. e u ∙ f u

-- ---- the type `void`

void_if : (b : Bool) (other : Option (Option CType)) → (other ≡ Some None → ⊥) → (if b then Some None else other) ≡ Some None → b ≡ true
void_if true other f e = refl
void_if false other f e = absurd (f e)

abbrev AllValues : List Row → Type 0
AllValues [] = Unit {0}
AllValues (row ∷ all) = (is_some row.1 ≡ true) × AllValues all

value_if : (b : Bool) (x : Option CType) (other : Option (Option CType)) → is_some x ≡ true → (other ≡ Some None → ⊥) → (if b then Some x else other) ≡ Some None → ⊥
value_if true None other h f e = cc
value_if true (Some kind) other h f e = cc
value_if false x other h f e = f e

no_void : (ws : List Specifier) (all : List Row) → AllValues all → row_with ws all ≡ Some None → ⊥
no_void ws [] h e = cc
no_void ws (row ∷ all) h e = value_if (same_words ws row.0) row.1 (row_with ws all) h.0 (no_void ws all h.1) e

abbrev value_rows : List Row → List Row
value_rows [] = []
value_rows (row ∷ all) = all

rows_behind_void : AllValues (value_rows rows)
rows_behind_void = (refl, (refl, (refl, (refl, (refl, (refl, (refl, (refl, (refl, (refl, (refl, (refl, (refl, (refl, (refl, (refl, (refl, (refl, (refl, (refl, (refl, (refl, (refl, (refl, (refl, (refl, (refl, tt)))))))))))))))))))))))))))

pub only_void : (ws : List Specifier) → type_of_words ws ≡ Some None → Same ws (s.Void ∷ [])
only_void ws e = same_counts ws (s.Void ∷ []) (void_if (same_words ws (s.Void ∷ [])) (row_with ws (value_rows rows)) (no_void ws (value_rows rows) rows_behind_void) e)

suc_not_zero : (n : ℕ) → suc n ≡ 0 → ⊥
suc_not_zero n e = omega (arith, e)

-- a type of a value begins with no `void`, and `void` with nothing else
pub void_first : (v : Specifier) (ws : List Specifier) → type_of_words (v ∷ ws) ≡ Some None → v ≡ s.Void
void_first s.Void ws e = refl
void_first s.Bool ws e = absurd (suc_not_zero (times s.Bool ws) (only_void (s.Bool ∷ ws) e s.Bool))
void_first s.Char ws e = absurd (suc_not_zero (times s.Char ws) (only_void (s.Char ∷ ws) e s.Char))
void_first s.Short ws e = absurd (suc_not_zero (times s.Short ws) (only_void (s.Short ∷ ws) e s.Short))
void_first s.Int ws e = absurd (suc_not_zero (times s.Int ws) (only_void (s.Int ∷ ws) e s.Int))
void_first s.Long ws e = absurd (suc_not_zero (times s.Long ws) (only_void (s.Long ∷ ws) e s.Long))
void_first s.Signed ws e = absurd (suc_not_zero (times s.Signed ws) (only_void (s.Signed ∷ ws) e s.Signed))
void_first s.Unsigned ws e = absurd (suc_not_zero (times s.Unsigned ws) (only_void (s.Unsigned ∷ ws) e s.Unsigned))

void_takes_none : (v : Specifier) → with_word w.Void v ≡ None
void_takes_none s.Void = refl
void_takes_none s.Bool = refl
void_takes_none s.Char = refl
void_takes_none s.Short = refl
void_takes_none s.Int = refl
void_takes_none s.Long = refl
void_takes_none s.Signed = refl
void_takes_none s.Unsigned = refl

pub void_alone : (ws : List Specifier) (kind : CType) → type_of_words (s.Void ∷ ws) ≡ Some (Some kind) → ⊥
void_alone [] kind e = cc
void_alone (v ∷ ws) kind e =
    let same : Same (s.Void ∷ v ∷ ws) ((v ∷ s.Void ∷ []) ++ ws) = λ u. one_if_swap (same_specifier u s.Void) (same_specifier u v) (times u ws) in
    let none : type_of_words (s.Void ∷ v ∷ ws) ≡ None = type_of-Same (s.Void ∷ v ∷ ws) ((v ∷ s.Void ∷ []) ++ ws) same ∙ blocked w.Void v ws refl (void_takes_none v) in
    let f : None ≡ Some (Some kind) = sym none ∙ e in cc

-- a word in the middle counts as one in front
pub same_middle : (vs ws us : List Specifier) (v : Specifier) → Same vs ws → Same (vs ++ v ∷ us) ((v ∷ ws) ++ us)
same_middle vs ws us v e = λ u. times-append u vs (v ∷ us) ∙ last (same_specifier u v) (times u vs) (times u ws) (times u us) (times u (ws ++ us)) (e u) (times-append u ws us)
  where
    last : (b : Bool) (m n k j : ℕ) → m ≡ n → j ≡ n + k → m + one_if b k ≡ one_if b j
    last true m n k j e f = omega (arith, e, f)
    last false m n k j e f = omega (arith, e, f)
