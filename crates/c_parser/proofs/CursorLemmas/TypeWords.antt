-- Types, from the words that come next.
use Rattle.std.proofs.Common.{◌≡◌, ◌∙◌, ℕ, sym, refl, ap, subst, Bool, true, false, ◌||◌, List, [], ◌∷◌, ◌++◌, codes, Option, Some, None, append_assoc}
use Rattle.std.specs.Prelude.{is_some, bytes_eq}
use Rattle.std.proofs.lemmas.Slice.Eq.{bytes_eq-Decides}
use Rattle.hls_base.specs.declared.place.Place.{Place}
use Rattle.c_token.specs.declared.ctype.CType.{CType}
use Rattle.c_token.specs.declared.token.TokenKind.{TokenKind}
use Rattle.c_token.specs.declared.token.TokenKind.TheVariants as k
use Rattle.c_tree.specs.declared.specifier.Specifier.{Specifier}
use Rattle.c_tree.specs.declared.specifier.Specifier.TheVariants as sp
use Rattle.c_tree.specs.Terminals.{Terminal, terminal, word}
use Rattle.c_tree.specs.Kinds.{specifier_of, type_of_words, DerivesWords, DerivesKind}
use Rattle.c_tree.specs.Kinds as kinds
use Rattle.c_token.specs.declared.punct.Punct.TheVariants as p
use Rattle.c_parser.specs.Cursor.Readings.{Reads, Found, Never, Anywhere, Sign, Repeated}
use Rattle.c_parser.specs.Cursor.Readings as r
use Rattle.c_parser.specs.declared.cursor.types.Kind.{Kind}
use Rattle.c_parser.specs.declared.cursor.types.ValueKind.{ValueKind}
use Rattle.c_parser.specs.declared.cursor.types.KindWord.{KindWord}
use Rattle.c_parser.specs.declared.cursor.types.KindWord.TheVariants as w
use Rattle.c_parser.specs.Cursor.Types.{specifier_word, kind_word_of_text, kind_word_of, starts_kind, KindEnds, KindSign, NoKindWord, KindWords, specifiers, names, has_const, type_among, SomeKind, AValueKind}
use Rattle.c_parser.proofs.CursorLemmas.Readings.{repeated_last}

-- ---- tokens and their words

data Spelled : List Terminal → List KindWord → Type 0 where
  none : Spelled [] []
  one : (t : Terminal) (w : KindWord) (ts : List Terminal) (ws : List KindWord) → kind_word_of t.kind ≡ Some w → Spelled ts ws → Spelled (t ∷ ts) (w ∷ ws)

spelled-append : {ts us : List Terminal} {ws vs : List KindWord} → Spelled ts ws → Spelled us vs → Spelled (ts ++ us) (ws ++ vs)
spelled-append none s = s
spelled-append (one t w ts ws e d) s = one t w _ _ e (spelled-append d s)

words_of_spelled : {ts : List Terminal} {ws : List KindWord} (end : List Terminal) → starts_kind end ≡ false → Spelled ts ws → KindWords (ts ++ end) ws end
words_of_spelled end e none = r.stop _ _ (refl, e)
words_of_spelled end e (one t w ts ws f d) = r.more _ w _ ws end (t, refl, f) (words_of_spelled end e d)

record Spells (tokens : List Terminal) (ws : List KindWord) (end : List Terminal) : Type 0 where
  ts : List Terminal
  split : tokens ≡ ts ++ end
  spelled : Spelled ts ws

spelled_of_words : {tokens : List Terminal} {ws : List KindWord} {end : List Terminal} → KindWords tokens ws end → Spells tokens ws end
spelled_of_words (r.stop ts end s) = record { ts = []; split = sym s.0; spelled = none }
spelled_of_words (r.more ts w mid ws end s d) = let h = spelled_of_words d in record {
  ts = s.0 ∷ h.ts;
  split = s.1 ∙ ap (λ x. s.0 ∷ x) h.split;
  spelled = one s.0 w h.ts ws s.2 h.spelled;
}

-- ---- from a type to its words

record Mixed (ts : List Terminal) (words : List Specifier) (all : List CType) (constant : Bool) : Type 0 where
  ws : List KindWord
  spelled : Spelled ts ws
  specifiers_are : specifiers ws ≡ words
  names_are : names ws ≡ all
  constant_is : has_const ws ≡ constant

specifier_no_const : (text : List ℕ) (s : Specifier) → specifier_of text ≡ Some s → kind_word_of_text text ≡ Some (w.Specifier s)
specifier_no_const text s e = go (bytes_eq text (codes "const")) refl
  where
    go : (b : Bool) → bytes_eq text (codes "const") ≡ b → kind_word_of_text text ≡ Some (w.Specifier s)
    go true f = absurd (let is : text ≡ codes "const" = (bytes_eq-Decides text (codes "const")).0 f in let n : None ≡ Some s = ap specifier_of (sym is) ∙ e in cc)
    go false f = rw f (ap specifier_word e)

mixed_words : {ts : List Terminal} {words : List Specifier} {constant : Bool} → DerivesWords ts words constant → Mixed ts words [] constant
mixed_words kinds.no_word = record { ws = []; spelled = none; specifiers_are = refl; names_are = refl; constant_is = refl }
mixed_words (kinds.a_const at ts words constant d) = let m = mixed_words d in record {
  ws = w.Const ∷ m.ws;
  spelled = one _ _ _ _ refl m.spelled;
  specifiers_are = m.specifiers_are;
  names_are = m.names_are;
  constant_is = refl;
}
mixed_words (kinds.a_specifier text s at ts words constant e d) = let m = mixed_words d in record {
  ws = w.Specifier s ∷ m.ws;
  spelled = one _ _ _ _ (specifier_no_const text s e) m.spelled;
  specifiers_are = ap (λ x. s ∷ x) m.specifiers_are;
  names_are = m.names_are;
  constant_is = m.constant_is;
}

specifiers-append : (xs ys : List KindWord) → specifiers (xs ++ ys) ≡ specifiers xs ++ specifiers ys
specifiers-append [] ys = refl
specifiers-append (w.Specifier s ∷ xs) ys = ap (λ x. s ∷ x) (specifiers-append xs ys)
specifiers-append (w.Const ∷ xs) ys = specifiers-append xs ys
specifiers-append (w.Name kind ∷ xs) ys = specifiers-append xs ys

names-append : (xs ys : List KindWord) → names (xs ++ ys) ≡ names xs ++ names ys
names-append [] ys = refl
names-append (w.Specifier s ∷ xs) ys = names-append xs ys
names-append (w.Const ∷ xs) ys = names-append xs ys
names-append (w.Name kind ∷ xs) ys = ap (λ x. kind ∷ x) (names-append xs ys)

has_const-append : (xs ys : List KindWord) → has_const (xs ++ ys) ≡ (has_const xs || has_const ys)
has_const-append [] ys = refl
has_const-append (w.Specifier s ∷ xs) ys = has_const-append xs ys
has_const-append (w.Const ∷ xs) ys = refl
has_const-append (w.Name kind ∷ xs) ys = has_const-append xs ys

-- the words of a type
pub record KindSpelled (ts : List Terminal) (kind : Option CType) (constant : Bool) : Type 0 where
  ws : List KindWord
  spelled : Spelled ts ws
  among : type_among (names ws) (specifiers ws) ≡ Some kind
  constant_is : has_const ws ≡ constant

pub kind_spelled : {ts : List Terminal} {kind : Option CType} {constant : Bool} → DerivesKind ts kind constant → KindSpelled ts kind constant
kind_spelled (kinds.of_words ts words kind constant d e) = let m = mixed_words d in record {
  ws = m.ws;
  spelled = m.spelled;
  among = ap (λ x. type_among x (specifiers m.ws)) m.names_are ∙ ap type_of_words m.specifiers_are ∙ e;
  constant_is = m.constant_is;
}
kind_spelled (kinds.of_name ls rs kind at before behind d e) =
    let m = mixed_words d in
    let n = mixed_words e in
    let all = m.ws ++ w.Name kind ∷ n.ws in
    let ns : names all ≡ kind ∷ [] = names-append m.ws (w.Name kind ∷ n.ws) ∙ ap (λ x. x ++ kind ∷ names n.ws) m.names_are ∙ ap (λ x. kind ∷ x) n.names_are in
    let ss : specifiers all ≡ [] = specifiers-append m.ws (w.Name kind ∷ n.ws) ∙ ap (λ x. x ++ specifiers n.ws) m.specifiers_are ∙ n.specifiers_are in
    record {
      ws = all;
      spelled = spelled-append m.spelled (one _ _ _ _ refl n.spelled);
      among = ap (λ x. type_among x (specifiers all)) ns ∙ ap (λ x. type_among (kind ∷ []) x) ss;
      constant_is = has_const-append m.ws (w.Name kind ∷ n.ws) ∙ ap (λ x. x || has_const n.ws) m.constant_is ∙ ap (λ x. before || x) n.constant_is;
    }

-- ---- from words to a type

-- what a token of a word is
const_text : (text : List ℕ) → kind_word_of_text text ≡ Some w.Const → text ≡ codes "const"
const_text text e = go (bytes_eq text (codes "const")) refl
  where
    specifier_only : (o : Option Specifier) → specifier_word o ≡ Some w.Const → ⊥
    specifier_only None f = cc
    specifier_only (Some s) f = let both : w.Specifier s ≡ w.Const = cc in cc

    go : (b : Bool) → bytes_eq text (codes "const") ≡ b → text ≡ codes "const"
    go true f = (bytes_eq-Decides text (codes "const")).0 f
    go false f = absurd (specifier_only (specifier_of text) (rw f at e))

specifier_text : (text : List ℕ) (s : Specifier) → kind_word_of_text text ≡ Some (w.Specifier s) → specifier_of text ≡ Some s
specifier_text text s e = go (bytes_eq text (codes "const")) refl
  where
    specifier_only : (o : Option Specifier) → specifier_word o ≡ Some (w.Specifier s) → o ≡ Some s
    specifier_only None f = absurd cc
    specifier_only (Some v) f = let both : w.Specifier v ≡ w.Specifier s = cc in let same : v ≡ s = cc in ap Some same

    go : (b : Bool) → bytes_eq text (codes "const") ≡ b → specifier_of text ≡ Some s
    go true f = absurd (let g : Some w.Const ≡ Some (w.Specifier s) = rw f at e in let both : w.Const ≡ w.Specifier s = cc in cc)
    go false f = specifier_only (specifier_of text) (rw f at e)

name_text : (text : List ℕ) (kind : CType) → kind_word_of_text text ≡ Some (w.Name kind) → ⊥
name_text text kind e = go (bytes_eq text (codes "const")) refl
  where
    specifier_only : (o : Option Specifier) → specifier_word o ≡ Some (w.Name kind) → ⊥
    specifier_only None f = cc
    specifier_only (Some s) f = let both : w.Specifier s ≡ w.Name kind = cc in cc

    go : (b : Bool) → bytes_eq text (codes "const") ≡ b → ⊥
    go true f = let g : Some w.Const ≡ Some (w.Name kind) = rw f at e in let both : w.Const ≡ w.Name kind = cc in cc
    go false f = specifier_only (specifier_of text) (rw f at e)

const_token : (t : Terminal) → kind_word_of t.kind ≡ Some w.Const → t ≡ word (codes "const") t.at
const_token t e = go t.kind e
  where
    go : (kind : TokenKind) → kind_word_of kind ≡ Some w.Const → terminal kind t.at ≡ word (codes "const") t.at
    go (k.Word text) f = ap (λ x. word x t.at) (const_text text f)
    go (k.TypeWord kind) f = absurd (let both : w.Name kind ≡ w.Const = cc in cc)
    go (k.Number value kind) f = absurd cc
    go (k.Punct punct) f = absurd cc

name_token : (t : Terminal) (kind : CType) → kind_word_of t.kind ≡ Some (w.Name kind) → t ≡ terminal (k.TypeWord kind) t.at
name_token t kind e = go t.kind e
  where
    go : (other : TokenKind) → kind_word_of other ≡ Some (w.Name kind) → terminal other t.at ≡ terminal (k.TypeWord kind) t.at
    go (k.Word text) f = absurd (name_text text kind f)
    go (k.TypeWord other) f = let both : w.Name other ≡ w.Name kind = cc in let same : other ≡ kind = cc in ap (λ x. terminal (k.TypeWord x) t.at) same
    go (k.Number value other) f = absurd cc
    go (k.Punct punct) f = absurd cc

specifier_token : (t : Terminal) (s : Specifier) → kind_word_of t.kind ≡ Some (w.Specifier s) → (text : List ℕ) × (t ≡ word text t.at) × (specifier_of text ≡ Some s)
specifier_token t s e = go t.kind e
  where
    go : (other : TokenKind) → kind_word_of other ≡ Some (w.Specifier s) → (text : List ℕ) × (terminal other t.at ≡ word text t.at) × (specifier_of text ≡ Some s)
    go (k.Word text) f = (text, refl, specifier_text text s f)
    go (k.TypeWord other) f = absurd (let both : w.Name other ≡ w.Specifier s = cc in cc)
    go (k.Number value other) f = absurd cc
    go (k.Punct punct) f = absurd cc

derives_words : {ts : List Terminal} {ws : List KindWord} → names ws ≡ [] → Spelled ts ws → DerivesWords ts (specifiers ws) (has_const ws)
derives_words e none = kinds.no_word
derives_words e (one t w.Const ts ws f d) =
    subst (λ x. DerivesWords (x ∷ ts) (specifiers ws) true) (sym (const_token t f)) (kinds.a_const t.at ts (specifiers ws) (has_const ws) (derives_words e d))
derives_words e (one t (w.Specifier s) ts ws f d) =
    let h = specifier_token t s f in
    subst (λ x. DerivesWords (x ∷ ts) (s ∷ specifiers ws) (has_const ws)) (sym h.1) (kinds.a_specifier h.0 s t.at ts (specifiers ws) (has_const ws) h.2 (derives_words e d))
derives_words e (one t (w.Name kind) ts ws f d) = absurd cc

-- around the only name
record Around (ts : List Terminal) (kind : CType) (constant : Bool) : Type 0 where
  ls : List Terminal
  rs : List Terminal
  at : Place
  before : Bool
  behind : Bool
  split : ts ≡ ls ++ terminal (k.TypeWord kind) at ∷ rs
  left : DerivesWords ls [] before
  right : DerivesWords rs [] behind
  constant_is : (before || behind) ≡ constant

around : {ts : List Terminal} {ws : List KindWord} (kind : CType) → names ws ≡ kind ∷ [] → specifiers ws ≡ [] → Spelled ts ws → Around ts kind (has_const ws)
around kind e s none = absurd cc
around kind e s (one t w.Const ts ws f d) = let h = around kind e s d in record {
  ls = word (codes "const") t.at ∷ h.ls;
  rs = h.rs;
  at = h.at;
  before = true;
  behind = h.behind;
  split = ap (λ x. x ∷ ts) (const_token t f) ∙ ap (λ x. word (codes "const") t.at ∷ x) h.split;
  left = kinds.a_const t.at h.ls [] h.before h.left;
  right = h.right;
  constant_is = refl;
}
around kind e s (one t (w.Specifier v) ts ws f d) = absurd cc
around kind e s (one t (w.Name other) ts ws f d) =
    let same : other ≡ kind = cc in
    let no_names : names ws ≡ [] = cc in
    record {
      ls = [];
      rs = ts;
      at = t.at;
      before = false;
      behind = has_const ws;
      split = ap (λ x. x ∷ ts) (name_token t other f ∙ ap (λ x. terminal (k.TypeWord x) t.at) same);
      left = kinds.no_word;
      right = subst (λ x. DerivesWords ts x (has_const ws)) s (derives_words no_names d);
      constant_is = refl;
    }

derives_among : {ts : List Terminal} {ws : List KindWord} (ns : List CType) (ss : List Specifier) (kind : Option CType) → names ws ≡ ns → specifiers ws ≡ ss → type_among ns ss ≡ Some kind → Spelled ts ws → DerivesKind ts kind (has_const ws)
derives_among {ts} {ws} [] ss kind e s a d = kinds.of_words ts ss kind (has_const ws) (subst (λ x. DerivesWords ts x (has_const ws)) s (derives_words e d)) a
derives_among {ts} {ws} (n ∷ []) [] kind e s a d =
    let h = around n e s d in
    let is : Some n ≡ kind = cc in
    subst (λ x. DerivesKind ts x (has_const ws)) is (subst (λ x. DerivesKind x (Some n) (has_const ws)) (sym h.split)
    (subst (λ x. DerivesKind (h.ls ++ terminal (k.TypeWord n) h.at ∷ h.rs) (Some n) x) h.constant_is (kinds.of_name h.ls h.rs n h.at h.before h.behind h.left h.right)))
derives_among (n ∷ []) (s ∷ ss) kind e f a d = absurd cc
derives_among (n ∷ m ∷ ns) ss kind e s a d = absurd cc

-- a type begins with one of its words
words_start : {ts : List Terminal} {words : List Specifier} {constant : Bool} (rest : List Terminal) → (kind : Option CType) → type_of_words words ≡ Some kind → DerivesWords ts words constant → starts_kind (ts ++ rest) ≡ true
words_start rest kind e kinds.no_word = absurd (let both : None ≡ Some kind = e in cc)
words_start rest kind e (kinds.a_const at ts words constant d) = refl
words_start rest kind e (kinds.a_specifier text s at ts words constant f d) = ap is_some (specifier_no_const text s f)

name_starts : {ts : List Terminal} {words : List Specifier} {constant : Bool} (rest : List Terminal) → starts_kind rest ≡ true → DerivesWords ts words constant → starts_kind (ts ++ rest) ≡ true
name_starts rest e kinds.no_word = e
name_starts rest e (kinds.a_const at ts words constant d) = refl
name_starts rest e (kinds.a_specifier text s at ts words constant f d) = ap is_some (specifier_no_const text s f)

pub kind_starts : {ts : List Terminal} {kind : Option CType} {constant : Bool} (rest : List Terminal) → DerivesKind ts kind constant → starts_kind (ts ++ rest) ≡ true
kind_starts rest (kinds.of_words ts words kind constant d e) = words_start rest kind e d
kind_starts rest (kinds.of_name ls rs kind at before behind d e) =
    subst (λ x. starts_kind x ≡ true) (sym (append_assoc ls (terminal (k.TypeWord kind) at ∷ rs) rest)) (name_starts (terminal (k.TypeWord kind) at ∷ (rs ++ rest)) refl d)

-- ---- what the parser finds

-- any type is the words that come next
record Read (tokens : List Terminal) (k : Kind) (end : List Terminal) : Type 0 where
  ws : List KindWord
  words : KindWords tokens ws end
  among : type_among (names ws) (specifiers ws) ≡ Some k.kind
  constant_is : has_const ws ≡ k.constant

read : (tokens others : List Terminal) (k : Kind) (end : List Terminal) → others ≡ tokens → SomeKind others k end → starts_kind end ≡ false → Read tokens k end
read tokens others k end e d ends =
    let h = kind_spelled d.derives in
    record { ws = h.ws; words = subst (λ x. KindWords x h.ws end) (sym d.split ∙ e) (words_of_spelled end ends h.spelled); among = h.among; constant_is = h.constant_is }

pub kind_found : (tokens rest : List Terminal) (ws : List KindWord) (kind : Option CType) (k : Kind) → Found KindWords Anywhere tokens ws rest → type_among (names ws) (specifiers ws) ≡ Some kind → k.kind ≡ kind → k.constant ≡ has_const ws → Found SomeKind KindEnds tokens k rest
kind_found tokens rest ws kind k q a is c =
    let s = spelled_of_words q.reads in
    let d : DerivesKind s.ts k.kind k.constant =
    subst (λ x. DerivesKind s.ts x k.constant) (sym is) (subst (λ x. DerivesKind s.ts kind x) (sym c) (derives_among (names ws) (specifiers ws) kind refl refl a s.spelled)) in
    record {
      reads = record { taken = s.ts; split = s.split; derives = d };
      only = λ others b end e d ends.
          let h = read tokens others b end e d ends in
          let o = q.only tokens h.ws end refl h.words tt in
          let ks : Some b.kind ≡ Some kind = sym h.among ∙ ap (λ x. type_among (names x) (specifiers x)) o.1 ∙ a in
          let kk : b.kind ≡ kind = cc in
          let cs : b.constant ≡ k.constant = sym h.constant_is ∙ ap has_const o.1 ∙ sym c in
          (o.0, ap (λ x. record { kind = x; constant = b.constant }) (kk ∙ sym is) ∙ ap (λ x. record { kind = k.kind; constant = x }) cs);
    }

pub kind_never : (tokens rest : List Terminal) (ws : List KindWord) → Found KindWords Anywhere tokens ws rest → type_among (names ws) (specifiers ws) ≡ None → Never SomeKind KindEnds tokens
kind_never tokens rest ws q a = record {
  none = λ others b end e d ends.
      let h = read tokens others b end e d ends in
      let o = q.only tokens h.ws end refl h.words tt in
      let ks : Some b.kind ≡ None = sym h.among ∙ ap (λ x. type_among (names x) (specifiers x)) o.1 ∙ a in cc;
}

-- a type with values, as any type
some_of : (k : ValueKind) → Kind
some_of k = record { kind = Some k.kind; constant = k.constant }

abbrev as_some : (tokens : List Terminal) (k : ValueKind) (end : List Terminal) → AValueKind tokens k end → SomeKind tokens (record { kind = Some k.kind; constant = k.constant }) end
as_some tokens k end d = record { taken = d.taken; split = d.split; derives = d.derives }

pub value_found : (tokens rest : List Terminal) (k : Kind) (v : ValueKind) → Found SomeKind KindEnds tokens k rest → k.kind ≡ Some v.kind → k.constant ≡ v.constant → Found AValueKind KindEnds tokens v rest
value_found tokens rest k v q is c = record {
  reads = record {
    taken = q.reads.taken;
    split = q.reads.split;
    derives = subst (λ x. DerivesKind q.reads.taken x v.constant) is (subst (λ x. DerivesKind q.reads.taken k.kind x) c q.reads.derives);
  };
  only = λ others b end e d ends.
      let o = q.only others (record { kind = Some b.kind; constant = b.constant }) end e (as_some others b end d) ends in
      let ks : Some b.kind ≡ Some v.kind = ap (λ x. x.kind) o.1 ∙ is in
      let kk : b.kind ≡ v.kind = cc in
      let cs : b.constant ≡ v.constant = ap (λ x. x.constant) o.1 ∙ c in
      (o.0, ap (λ x. record { kind = x; constant = b.constant }) kk ∙ ap (λ x. record { kind = v.kind; constant = x }) cs);
}

pub value_never : (tokens : List Terminal) → Never SomeKind KindEnds tokens → Never AValueKind KindEnds tokens
value_never tokens q = record { none = λ others b end e d ends. q.none others (record { kind = Some b.kind; constant = b.constant }) end e (as_some others b end d) ends }

pub void_never : (tokens rest : List Terminal) (k : Kind) → Found SomeKind KindEnds tokens k rest → k.kind ≡ None → Never AValueKind KindEnds tokens
void_never tokens rest k q is = record {
  none = λ others b end e d ends.
      let o = q.only others (record { kind = Some b.kind; constant = b.constant }) end e (as_some others b end d) ends in
      let ks : Some b.kind ≡ None = ap (λ x. x.kind) o.1 ∙ is in cc;
}

-- ---- the words one by one

kind_sign_only : (tokens rest : List Terminal) (w : KindWord) → KindSign tokens w rest → Found KindSign Anywhere tokens w rest
kind_sign_only tokens rest w s = record {
  reads = s;
  only = λ others b end e h ends.
      let same : s.0 ∷ rest ≡ h.0 ∷ end = sym s.1 ∙ sym e ∙ h.1 in
      let t : h.0 ≡ s.0 = cc in
      let ws : Some b ≡ Some w = sym h.2 ∙ ap (λ x. kind_word_of x.kind) t ∙ s.2 in
      let x : end ≡ rest = cc in
      let y : b ≡ w = cc in
      (x, y);
}

pub sign_found_here : (tokens rest : List Terminal) (w : KindWord) → KindSign tokens w rest → Found KindSign Anywhere tokens w rest
sign_found_here tokens rest w s = kind_sign_only tokens rest w s

pub sign_goes_on : (tokens rest : List Terminal) (w : KindWord) → KindSign tokens w rest → starts_kind tokens ≡ true
sign_goes_on tokens rest w s = ap starts_kind s.1 ∙ ap (λ x. is_some_word x) s.2
  where
    is_some_word : Option KindWord → Bool
    is_some_word None = false
    is_some_word (Some x) = true

-- a parenthesis is no word of a type
pub paren_apart : {A : Type 0} (a : A) (at : Place) (here end : List Terminal) → Sign p.RightParen here at end → KindEnds a here
paren_apart a at here end e = ap starts_kind e

pub word_goes_on : (tokens rest : List Terminal) (w : KindWord) → KindSign tokens w rest → (end : List Terminal) → NoKindWord tokens end → ⊥
word_goes_on tokens rest w s end n = let both : false ≡ true = sym n.1 ∙ sign_goes_on tokens rest w s in cc

pub word_apart : (a : KindWord) (here : List Terminal) (all : List KindWord) (end : List Terminal) → KindWords here all end → Anywhere a here
word_apart a here all end w = tt

pub no_words_here : (tokens rest : List Terminal) → rest ≡ tokens → starts_kind tokens ≡ false → Found KindWords Anywhere tokens [] rest
no_words_here tokens rest e bare = repeated_last tokens rest (e, bare) (λ end s. s.0 ∙ sym e) (λ a middle s. let both : false ≡ true = sym bare ∙ sign_goes_on tokens middle a s in cc)

-- a type begins with one of its words
pub value_starts : (tokens : List Terminal) (v : ValueKind) (rest : List Terminal) → AValueKind tokens v rest → starts_kind tokens ≡ true
value_starts tokens v rest r = ap starts_kind r.split ∙ kind_starts rest r.derives

-- `void` first is no type that has values
void_none : (ns : List CType) (ss : List Specifier) (kind : CType) → type_among ns (sp.Void ∷ ss) ≡ Some (Some kind) → ⊥
void_none [] [] kind e = let both : None ≡ Some kind = cc in cc
void_none [] (s ∷ ss) kind e = cc
void_none (n ∷ []) ss kind e = cc
void_none (n ∷ m ∷ ns) ss kind e = cc

pub void_first : (at : Place) (tokens inside middle : List Terminal) (v : ValueKind) → tokens ≡ word (codes "void") at ∷ inside → AValueKind tokens v middle → ⊥
void_first at tokens inside middle v f d = let h = kind_spelled d.derives in go h.spelled (sym d.split ∙ f) h.among
  where
    go : {ts : List Terminal} {ws : List KindWord} → Spelled ts ws → ts ++ middle ≡ word (codes "void") at ∷ inside → type_among (names ws) (specifiers ws) ≡ Some (Some v.kind) → ⊥
    go none e a = cc
    go (one t x ts ws g s) e a =
        let is : t ≡ word (codes "void") at = cc in
        let both : Some x ≡ Some (w.Specifier sp.Void) = sym g ∙ ap (λ y. kind_word_of y.kind) is in
        let same : x ≡ w.Specifier sp.Void = cc in
        void_none (names ws) (specifiers ws) v.kind (subst (λ y. type_among (names (y ∷ ws)) (specifiers (y ∷ ws)) ≡ Some (Some v.kind)) same a)
