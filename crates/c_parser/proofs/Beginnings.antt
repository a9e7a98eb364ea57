-- What an expression begins with, and what is a target.
use Rattle.std.proofs.Common.{◌≡◌, ◌∙◌, ℕ, sym, refl, ap, subst, Bool, true, false, ◌||◌, List, [], ◌∷◌, ◌++◌, Option, Some, None, append_assoc, codes}
use Rattle.std.specs.Prelude.{not, is_some, bytes_eq}
use Rattle.std.proofs.lemmas.Slice.Eq.{bytes_eq-Decides}
use Rattle.hls_base.specs.declared.place.Place.{Place}
use Rattle.c_token.specs.declared.punct.Punct.{Punct}
use Rattle.c_token.specs.declared.punct.Punct.TheVariants as p
use Rattle.c_token.specs.declared.token.TokenKind.{TokenKind}
use Rattle.c_token.specs.declared.token.TokenKind.TheVariants as k
use Rattle.c_tree.specs.declared.specifier.Specifier.{Specifier}
use Rattle.c_tree.specs.Tree as tree
use Rattle.c_tree.specs.Tree.{Tree, TargetTree, Trees, row}
use Rattle.c_tree.specs.Terminals.{Terminal, sign, word, is_keyword, prefix_of, bump_of}
use Rattle.c_tree.specs.Kinds.{specifier_of}
use Rattle.c_tree.specs.Grammar.{Derives, DerivesTarget, DerivesList}
use Rattle.c_tree.specs.Grammar as g
use Rattle.c_parser.specs.Cursor.Readings.{is_paren, opens_paren}
use Rattle.c_parser.specs.Cursor.Types.{kind_word_of, kind_word_of_text, specifier_word, starts_kind}
use Rattle.c_parser.specs.Expressions.{Expression, Lvalue, bare_target, target_in}
use Rattle.c_parser.proofs.ExpressionForms.{Primary, is_number, is_named, is_group, primary_form, Postfix, bumped, plain, postfix_form}

-- ---- the first token of an operand

abbrev pub primary_kind : TokenKind → Bool
primary_kind (k.Number value kind) = true
primary_kind (k.Word text) = not (is_keyword text)
primary_kind (k.Punct punct) = is_paren (k.Punct punct)
primary_kind (k.TypeWord kind) = false

abbrev pub starts_primary : List Terminal → Bool
starts_primary [] = false
starts_primary (t ∷ ts) = primary_kind t.kind

pub primary_starts : (tokens : List Terminal) (e : Tree) (rest : List Terminal) → Primary tokens e rest → starts_primary tokens ≡ true
primary_starts tokens e rest (is_number value kind at f is) = ap starts_primary f
primary_starts tokens e rest (is_named text at behind f kw n) = ap starts_primary f ∙ ap not kw
primary_starts tokens e rest (is_group opens inside f c) = ap starts_primary f

pub lvalue_word : (tokens rest : List Terminal) (t : TargetTree) → Lvalue tokens t rest → (text : List ℕ) × (at : Place) × (behind : List Terminal) × (tokens ≡ word text at ∷ behind) × (is_keyword text ≡ false)
lvalue_word tokens rest t l = go l.split l.derives
  where
    go : {ts : List Terminal} {u : TargetTree} → tokens ≡ ts ++ rest → DerivesTarget ts u → (text : List ℕ) × (at : Place) × (behind : List Terminal) × (tokens ≡ word text at ∷ behind) × (is_keyword text ≡ false)
    go e (g.a_target text at ts subscripts kw d) = (text, at, ts ++ rest, e, kw)

pub lvalue_starts : (tokens rest : List Terminal) (t : TargetTree) → Lvalue tokens t rest → starts_primary tokens ≡ true
lvalue_starts tokens rest t l = let h = lvalue_word tokens rest t l in ap starts_primary h.3 ∙ ap not h.4

pub postfix_starts : (tokens : List Terminal) (e : Tree) (rest : List Terminal) → Expression 1 tokens e rest → starts_primary tokens ≡ true
postfix_starts tokens e rest r = go (postfix_form tokens rest refl r.split r.derives)
  where
    go : Postfix tokens e rest → starts_primary tokens ≡ true
    go (bumped punct up at lvalue b l is) = lvalue_starts tokens _ lvalue l
    go (plain s) = primary_starts tokens e rest (primary_form tokens rest refl s.split s.derives)

-- ---- the first token of an expression

abbrev pub expression_sign : Punct → Bool
expression_sign punct = is_paren (k.Punct punct) || (is_some (prefix_of punct) || is_some (bump_of punct))

abbrev pub expression_kind : TokenKind → Bool
expression_kind (k.Number value kind) = true
expression_kind (k.Word text) = not (is_keyword text)
expression_kind (k.Punct punct) = expression_sign punct
expression_kind (k.TypeWord kind) = false

abbrev pub starts_expression : List Terminal → Bool
starts_expression [] = false
starts_expression (t ∷ ts) = expression_kind t.kind

or_true : (b c : Bool) → c ≡ true → (b || c) ≡ true
or_true true c e = refl
or_true false c e = e

true_or : (b c : Bool) → b ≡ true → (b || c) ≡ true
true_or true c e = refl
true_or false c e = absurd cc

pub starts : {n : ℕ} {ts : List Terminal} {e : Tree} (rest : List Terminal) → Derives n ts e → starts_expression (ts ++ rest) ≡ true
starts rest (g.a_number value kind at) = refl
starts rest (g.a_name text at kw) = ap not kw
starts rest (g.an_element text at ts first others kw d) = ap not kw
starts rest (g.a_call callee at opens closes ts args kw d) = ap not kw
starts rest (g.a_group opens closes ts inner d) = refl
starts rest (g.a_bump_behind punct up at ts lvalue b d) = go d
  where
    go : {us : List Terminal} {u : TargetTree} → DerivesTarget us u → starts_expression ((us ++ sign punct at ∷ []) ++ rest) ≡ true
    go (g.a_target text at' ts' subscripts kw d') = ap not kw
starts rest (g.a_prefix punct op at ts arg o d) = or_true (is_paren (k.Punct punct)) _ (true_or (is_some (prefix_of punct)) (is_some (bump_of punct)) (ap is_some o))
starts rest (g.a_bump_before punct up at ts lvalue b d) = or_true (is_paren (k.Punct punct)) _ (or_true (is_some (prefix_of punct)) (is_some (bump_of punct)) (ap is_some b))
starts rest (g.a_cast at closes ks ts kind constant arg kd d) = refl
starts rest (g.an_operator punct op at n ls rs left right o l d f) = subst (λ x. starts_expression x ≡ true) (sym (append_assoc ls (sign punct at ∷ rs) rest)) (starts (sign punct at ∷ (rs ++ rest)) d)
starts rest (g.a_choice at colon ts ys ns test left right d f h) =
    subst (λ x. starts_expression x ≡ true) (sym (append_assoc ts (sign p.Question at ∷ (ys ++ sign p.Colon colon ∷ ns)) rest)) (starts (sign p.Question at ∷ ((ys ++ sign p.Colon colon ∷ ns) ++ rest)) d)
starts rest (g.an_assignment punct op at ts vs lvalue value a d f) = go d
  where
    go : {us : List Terminal} {u : TargetTree} → DerivesTarget us u → starts_expression ((us ++ sign punct at ∷ vs) ++ rest) ≡ true
    go (g.a_target text at' ts' subscripts kw d') = ap not kw
starts rest (g.a_comma at ls rs left right d f) = subst (λ x. starts_expression x ≡ true) (sym (append_assoc ls (sign p.Comma at ∷ rs) rest)) (starts (sign p.Comma at ∷ (rs ++ rest)) d)
starts rest (g.a_tighter n ts inner d) = starts rest d

pub expression_starts : (n : ℕ) (tokens : List Terminal) (e : Tree) (rest : List Terminal) → Expression n tokens e rest → starts_expression tokens ≡ true
expression_starts n tokens e rest r = ap starts_expression r.split ∙ starts rest r.derives

-- ---- words of types are no expressions

-- the first entry of a table that a text may name
in_table : (text : List ℕ) → (o : Option Specifier) → specifier_of text ≡ o → is_some o ≡ true → is_keyword text ≡ true
in_table text o e s =
    step (codes "void") refl (λ a. step (codes "_Bool") refl (λ b. step (codes "char") refl (λ c. step (codes "short") refl (λ d. step (codes "int") refl (λ f.
    step (codes "long") refl (λ h. step (codes "signed") refl (λ i. step (codes "unsigned") refl (λ j. none a b c d f h i j))))))))
  where
    same : (w : List ℕ) → is_keyword w ≡ true → bytes_eq text w ≡ true → is_keyword text ≡ true
    same w kw f = ap is_keyword ((bytes_eq-Decides text w).0 f) ∙ kw

    step : (w : List ℕ) → is_keyword w ≡ true → (bytes_eq text w ≡ false → is_keyword text ≡ true) → is_keyword text ≡ true
    step w kw next = go (bytes_eq text w) refl
      where
        go : (b : Bool) → bytes_eq text w ≡ b → is_keyword text ≡ true
        go true f = same w kw f
        go false f = next f

    none : bytes_eq text (codes "void") ≡ false → bytes_eq text (codes "_Bool") ≡ false → bytes_eq text (codes "char") ≡ false → bytes_eq text (codes "short") ≡ false
        → bytes_eq text (codes "int") ≡ false → bytes_eq text (codes "long") ≡ false → bytes_eq text (codes "signed") ≡ false → bytes_eq text (codes "unsigned") ≡ false → is_keyword text ≡ true
    none a b c d f h i j =
        let bare : specifier_of text ≡ None = rw (a, b, c, d, f, h, i, j) in
        let both : false ≡ true = ap is_some (sym bare ∙ e) ∙ s in absurd cc

some_word : (o : Option Specifier) → is_some (specifier_word o) ≡ is_some o
some_word None = refl
some_word (Some s) = refl

pub kind_text_keyword : (text : List ℕ) → is_some (kind_word_of_text text) ≡ true → is_keyword text ≡ true
kind_text_keyword text e = go (bytes_eq text (codes "const")) refl
  where
    go : (b : Bool) → bytes_eq text (codes "const") ≡ b → is_keyword text ≡ true
    go true f = ap is_keyword ((bytes_eq-Decides text (codes "const")).0 f)
    go false f = in_table text (specifier_of text) refl (sym (some_word (specifier_of text)) ∙ (rw f at e))

pub kind_no_expression : (tokens : List Terminal) → starts_kind tokens ≡ true → starts_expression tokens ≡ true → ⊥
kind_no_expression [] a b = cc
kind_no_expression (t ∷ ts) a b = go t.kind a b
  where
    go : (kind : TokenKind) → is_some (kind_word_of kind) ≡ true → expression_kind kind ≡ true → ⊥
    go (k.Word text) c d = let both : false ≡ true = ap not (sym (kind_text_keyword text c)) ∙ d in cc
    go (k.Number value kind) c d = cc
    go (k.Punct punct) c d = cc
    go (k.TypeWord kind) c d = cc

-- ---- targets

-- a target as an expression
abbrev pub target_tree : TargetTree → Tree
target_tree (tree.target text tree.none at) = tree.name text at
target_tree (tree.target text (tree.more first rest) at) = tree.index text (tree.more first rest) at

target_in-tree : (t : TargetTree) → target_in (target_tree t) ≡ Some t
target_in-tree (tree.target text tree.none at) = refl
target_in-tree (tree.target text (tree.more first rest) at) = refl

derived_target : {ts : List Terminal} {t : TargetTree} → DerivesTarget ts t → Derives 0 ts (target_tree t)
derived_target (g.a_target text at ts subscripts kw d) = go d
  where
    go : {us : List Terminal} {es : Trees} → g.DerivesSubscripts us es → Derives 0 (word text at ∷ us) (target_tree (tree.target text es at))
    go g.no_subscript = g.a_name text at kw
    go (g.a_subscript opens closes vs ws first rest e f) = g.an_element text at _ first rest kw (g.a_subscript opens closes vs ws first rest e f)

pub lvalue_reads : (tokens rest : List Terminal) (t : TargetTree) → Lvalue tokens t rest → Expression 0 tokens (target_tree t) rest
lvalue_reads tokens rest t l = record { taken = l.taken; split = l.split; derives = derived_target l.derives }

pub lvalue_bare : (tokens rest : List Terminal) (t : TargetTree) → Lvalue tokens t rest → bare_target (opens_paren tokens) (target_tree t) ≡ Some t
lvalue_bare tokens rest t l = let h = lvalue_word tokens rest t l in
    ap (λ x. bare_target (opens_paren x) (target_tree t)) h.3 ∙ target_in-tree t

-- an expression in no parentheses that is a name or an element
bare_derives : {n : ℕ} {ts : List Terminal} {e : Tree} (rest : List Terminal) (t : TargetTree) → target_in e ≡ Some t → opens_paren (ts ++ rest) ≡ false → Derives n ts e → DerivesTarget ts t
bare_derives rest t e f (g.a_number value kind at) = absurd cc
bare_derives rest t e f (g.a_name text at kw) = let same : tree.target text tree.none at ≡ t = cc in subst (λ x. DerivesTarget (word text at ∷ []) x) same (g.a_target text at [] tree.none kw g.no_subscript)
bare_derives rest t e f (g.an_element text at ts first others kw d) =
    let same : tree.target text (tree.more first others) at ≡ t = cc in subst (λ x. DerivesTarget (word text at ∷ ts) x) same (g.a_target text at ts (tree.more first others) kw d)
bare_derives rest t e f (g.a_call callee at opens closes ts args kw d) = absurd cc
bare_derives rest t e f (g.a_group opens closes ts inner d) = absurd cc
bare_derives rest t e f (g.a_bump_behind punct up at ts lvalue b d) = absurd cc
bare_derives rest t e f (g.a_prefix punct op at ts arg o d) = absurd cc
bare_derives rest t e f (g.a_bump_before punct up at ts lvalue b d) = absurd cc
bare_derives rest t e f (g.a_cast at closes ks ts kind constant arg kd d) = absurd cc
bare_derives rest t e f (g.an_operator punct op at n ls rs left right o l d h) = absurd cc
bare_derives rest t e f (g.a_choice at colon ts ys ns test left right d h i) = absurd cc
bare_derives rest t e f (g.an_assignment punct op at ts vs lvalue value a d h) = absurd cc
bare_derives rest t e f (g.a_comma at ls rs left right d h) = absurd cc
bare_derives rest t e f (g.a_tighter n ts inner d) = bare_derives rest t e f d

bare_parts : (b : Bool) (e : Tree) (t : TargetTree) → bare_target b e ≡ Some t → (b ≡ false) × (target_in e ≡ Some t)
bare_parts true e t h = absurd cc
bare_parts false e t h = (refl, h)

pub bare_lvalue : (n : ℕ) (tokens : List Terminal) (e : Tree) (rest : List Terminal) (t : TargetTree) → bare_target (opens_paren tokens) e ≡ Some t → Expression n tokens e rest → Lvalue tokens t rest
bare_lvalue n tokens e rest t b r =
    let h = bare_parts (opens_paren tokens) e t b in
    record { taken = r.taken; split = r.split; derives = bare_derives rest t h.1 (ap opens_paren (sym r.split) ∙ h.0) r.derives }
