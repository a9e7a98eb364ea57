-- What a token of each sort is.
use Rattle.std.proofs.Common.{◌≡◌, ℕ, Bool, true, false, List, [], ◌∷◌, codes, Option, Some, None, refl, ap, sym, ◌∙◌, subst}
use Rattle.std.specs.Prelude.{bytes_eq, ◌&&◌, ◌||◌, if◌then◌else◌}
use Rattle.std.proofs.lemmas.Slice.Eq.{bytes_eq-Decides}
use Rattle.hls_base.specs.declared.place.Place.{Place}
use Rattle.c_token.specs.declared.ctype.CType.{CType}
use Rattle.c_token.specs.declared.punct.Punct.{Punct}
use Rattle.c_token.specs.declared.punct.Punct.TheVariants as p
use Rattle.c_token.specs.declared.token.TokenKind.{TokenKind}
use Rattle.c_token.specs.declared.token.TokenKind.TheVariants as k
use Rattle.c_token.specs.Replacement.{find_word, is_in, keywords}
use Rattle.c_tree.specs.declared.operator.Unary.{Unary}
use Rattle.c_tree.specs.declared.operator.Binary.{Binary}
use Rattle.c_tree.specs.declared.specifier.Specifier.{Specifier}
use Rattle.c_tree.specs.declared.specifier.Specifier.TheVariants as s
use Rattle.c_tree.specs.Kinds.{specifier_of, specifier_words}
use Rattle.c_tree.specs.Refusal.{unsupported}
use Rattle.c_tree.specs.Terminals.{Terminal, terminal, sign, word, is_keyword, prefix_of, operator_of, assignment_of, bump_of}
use Rattle.c_syntax.specs.declared.sorts.sort.Sort.{Sort}
use Rattle.c_syntax.specs.declared.sorts.sort.Sort.TheVariants as o
use Rattle.c_syntax.specs.Sorts.{sort_of, sort_of_sign, sort_of_word, keyword_of, keyword_sorts, specifier_or, keyword_or}

-- ---- words

-- the words of a table, each with what it stands for spelled out
abbrev pub Spelled : {A : Type 0} → (A → List ℕ) → List (List ℕ × A) → Type 0
Spelled spell [] = Unit {0}
Spelled spell (row ∷ rows) = (row.0 ≡ spell row.1) × Spelled spell rows

found_if : {A : Type 0} (spell : A → List ℕ) (text entry : List ℕ) (b : Bool) (x y : A) (other : Option A) → (b ≡ true → text ≡ entry) → entry ≡ spell x
    → (other ≡ Some y → text ≡ spell y) → (if b then Some x else other) ≡ Some y → text ≡ spell y
found_if spell text entry true x y other same e rest h = let f : Some x ≡ Some y = h in let g : x ≡ y = cc in same refl ∙ e ∙ ap spell g
found_if spell text entry false x y other same e rest h = rest h

pub found_spelled : {A : Type 0} (spell : A → List ℕ) (text : List ℕ) (rows : List (List ℕ × A)) (x : A) → Spelled spell rows → find_word text rows ≡ Some x → text ≡ spell x
found_spelled spell text [] x s e = cc
found_spelled spell text (row ∷ rows) x s e =
    found_if spell text row.0 (bytes_eq text row.0) row.1 x (find_word text rows) (λ b. (bytes_eq-Decides text row.0).0 b) s.0 (found_spelled spell text rows x s.1) e

abbrev pub specifier_text : Specifier → List ℕ
specifier_text s.Void = codes "void"
specifier_text s.Bool = codes "_Bool"
specifier_text s.Char = codes "char"
specifier_text s.Short = codes "short"
specifier_text s.Int = codes "int"
specifier_text s.Long = codes "long"
specifier_text s.Signed = codes "signed"
specifier_text s.Unsigned = codes "unsigned"

abbrev pub keyword_text : Sort → List ℕ
keyword_text o.Const = codes "const"
keyword_text o.Static = codes "static"
keyword_text o.Inline = codes "inline"
keyword_text o.If = codes "if"
keyword_text o.Else = codes "else"
keyword_text o.Switch = codes "switch"
keyword_text o.Case = codes "case"
keyword_text o.Default = codes "default"
keyword_text o.While = codes "while"
keyword_text o.Do = codes "do"
keyword_text o.For = codes "for"
keyword_text o.Break = codes "break"
keyword_text o.Continue = codes "continue"
keyword_text o.Return = codes "return"
keyword_text _ = []

specifiers_spelled : Spelled specifier_text specifier_words
specifiers_spelled = (refl, (refl, (refl, (refl, (refl, (refl, (refl, (refl, tt))))))))

keywords_spelled : Spelled keyword_text keyword_sorts
keywords_spelled = (refl, (refl, (refl, (refl, (refl, (refl, (refl, (refl, (refl, (refl, (refl, (refl, (refl, (refl, tt))))))))))))))

specifiers_are_keywords : (w : Specifier) → is_keyword (specifier_text w) ≡ true
specifiers_are_keywords s.Void = refl
specifiers_are_keywords s.Bool = refl
specifiers_are_keywords s.Char = refl
specifiers_are_keywords s.Short = refl
specifiers_are_keywords s.Int = refl
specifiers_are_keywords s.Long = refl
specifiers_are_keywords s.Signed = refl
specifiers_are_keywords s.Unsigned = refl

pub specifier_spelled : (text : List ℕ) (w : Specifier) → specifier_of text ≡ Some w → text ≡ specifier_text w
specifier_spelled text w e = found_spelled specifier_text text specifier_words w specifiers_spelled e

-- one of the keywords that stand in a program, by its sort
abbrev pub is_keyword_sort : Sort → Bool
is_keyword_sort o.Const = true
is_keyword_sort o.Static = true
is_keyword_sort o.Inline = true
is_keyword_sort o.If = true
is_keyword_sort o.Else = true
is_keyword_sort o.Switch = true
is_keyword_sort o.Case = true
is_keyword_sort o.Default = true
is_keyword_sort o.While = true
is_keyword_sort o.Do = true
is_keyword_sort o.For = true
is_keyword_sort o.Break = true
is_keyword_sort o.Continue = true
is_keyword_sort o.Return = true
is_keyword_sort _ = false

-- ---- the token of each sort
pub data Seen : Sort → Terminal → Type 0 where
  name : (text : List ℕ) (at : Place) → is_keyword text ≡ false → Seen o.Name (word text at)
  number : (value : ℕ) (kind : CType) (at : Place) → Seen o.Number (terminal (k.Number value kind) at)
  specifier : (w : Specifier) (text : List ℕ) (at : Place) → specifier_of text ≡ Some w → Seen (o.Specifier w) (word text at)
  type_name : (kind : CType) (at : Place) → Seen o.TypeName (terminal (k.TypeWord kind) at)
  const_ : (at : Place) → Seen o.Const (word (codes "const") at)
  static_ : (at : Place) → Seen o.Static (word (codes "static") at)
  inline_ : (at : Place) → Seen o.Inline (word (codes "inline") at)
  if_ : (at : Place) → Seen o.If (word (codes "if") at)
  else_ : (at : Place) → Seen o.Else (word (codes "else") at)
  switch_ : (at : Place) → Seen o.Switch (word (codes "switch") at)
  case_ : (at : Place) → Seen o.Case (word (codes "case") at)
  default_ : (at : Place) → Seen o.Default (word (codes "default") at)
  while_ : (at : Place) → Seen o.While (word (codes "while") at)
  do_ : (at : Place) → Seen o.Do (word (codes "do") at)
  for_ : (at : Place) → Seen o.For (word (codes "for") at)
  break_ : (at : Place) → Seen o.Break (word (codes "break") at)
  continue_ : (at : Place) → Seen o.Continue (word (codes "continue") at)
  return_ : (at : Place) → Seen o.Return (word (codes "return") at)
  left_paren : (at : Place) → Seen o.LeftParen (sign p.LeftParen at)
  right_paren : (at : Place) → Seen o.RightParen (sign p.RightParen at)
  left_bracket : (at : Place) → Seen o.LeftBracket (sign p.LeftBracket at)
  right_bracket : (at : Place) → Seen o.RightBracket (sign p.RightBracket at)
  left_brace : (at : Place) → Seen o.LeftBrace (sign p.LeftBrace at)
  right_brace : (at : Place) → Seen o.RightBrace (sign p.RightBrace at)
  semicolon : (at : Place) → Seen o.Semicolon (sign p.Semicolon at)
  comma : (at : Place) → Seen o.Comma (sign p.Comma at)
  colon : (at : Place) → Seen o.Colon (sign p.Colon at)
  question : (at : Place) → Seen o.Question (sign p.Question at)
  prefix : (punct : Punct) (at : Place) (op : Unary) → prefix_of punct ≡ Some op → Seen o.Prefix (sign punct at)
  sign_ : (punct : Punct) (at : Place) (op : Unary) (between : Binary) → prefix_of punct ≡ Some op → operator_of punct ≡ Some between → Seen o.Sign (sign punct at)
  operator : (punct : Punct) (at : Place) (op : Binary) → operator_of punct ≡ Some op → Seen o.Operator (sign punct at)
  bump : (punct : Punct) (at : Place) (up : Bool) → bump_of punct ≡ Some up → Seen o.Bump (sign punct at)
  equal : (at : Place) → Seen o.Equal (sign p.Equal at)
  assignment : (punct : Punct) (at : Place) (op : Option Binary) → assignment_of punct ≡ Some op → Seen o.Assignment (sign punct at)
  unsupported_ : (t : Terminal) → Seen o.Unsupported t
  other : (t : Terminal) → Seen o.Other t

pub seen_sign : (punct : Punct) (at : Place) → Seen (sort_of_sign punct) (sign punct at)
seen_sign p.LeftParen at = left_paren at
seen_sign p.RightParen at = right_paren at
seen_sign p.LeftBracket at = left_bracket at
seen_sign p.RightBracket at = right_bracket at
seen_sign p.LeftBrace at = left_brace at
seen_sign p.RightBrace at = right_brace at
seen_sign p.Semicolon at = semicolon at
seen_sign p.Comma at = comma at
seen_sign p.Colon at = colon at
seen_sign p.Question at = question at
seen_sign p.Tilde at = prefix _ at _ refl
seen_sign p.Bang at = prefix _ at _ refl
seen_sign p.Plus at = sign_ _ at _ _ refl refl
seen_sign p.Minus at = sign_ _ at _ _ refl refl
seen_sign p.Star at = operator _ at _ refl
seen_sign p.Slash at = operator _ at _ refl
seen_sign p.Percent at = operator _ at _ refl
seen_sign p.Amp at = operator _ at _ refl
seen_sign p.Bar at = operator _ at _ refl
seen_sign p.Caret at = operator _ at _ refl
seen_sign p.Less at = operator _ at _ refl
seen_sign p.Greater at = operator _ at _ refl
seen_sign p.ShiftLeft at = operator _ at _ refl
seen_sign p.ShiftRight at = operator _ at _ refl
seen_sign p.LessEqual at = operator _ at _ refl
seen_sign p.GreaterEqual at = operator _ at _ refl
seen_sign p.EqualEqual at = operator _ at _ refl
seen_sign p.BangEqual at = operator _ at _ refl
seen_sign p.AmpAmp at = operator _ at _ refl
seen_sign p.BarBar at = operator _ at _ refl
seen_sign p.PlusPlus at = bump _ at _ refl
seen_sign p.MinusMinus at = bump _ at _ refl
seen_sign p.Equal at = equal at
seen_sign p.PlusEqual at = assignment _ at _ refl
seen_sign p.MinusEqual at = assignment _ at _ refl
seen_sign p.StarEqual at = assignment _ at _ refl
seen_sign p.SlashEqual at = assignment _ at _ refl
seen_sign p.PercentEqual at = assignment _ at _ refl
seen_sign p.AmpEqual at = assignment _ at _ refl
seen_sign p.BarEqual at = assignment _ at _ refl
seen_sign p.CaretEqual at = assignment _ at _ refl
seen_sign p.ShiftLeftEqual at = assignment _ at _ refl
seen_sign p.ShiftRightEqual at = assignment _ at _ refl
seen_sign _ at = other _

-- a keyword of a table, of a sort that is one
seen_keyword : (sort : Sort) (at : Place) → is_keyword_sort sort ≡ true → Seen sort (word (keyword_text sort) at)
seen_keyword o.Const at e = const_ at
seen_keyword o.Static at e = static_ at
seen_keyword o.Inline at e = inline_ at
seen_keyword o.If at e = if_ at
seen_keyword o.Else at e = else_ at
seen_keyword o.Switch at e = switch_ at
seen_keyword o.Case at e = case_ at
seen_keyword o.Default at e = default_ at
seen_keyword o.While at e = while_ at
seen_keyword o.Do at e = do_ at
seen_keyword o.For at e = for_ at
seen_keyword o.Break at e = break_ at
seen_keyword o.Continue at e = continue_ at
seen_keyword o.Return at e = return_ at
seen_keyword _ at e = absurd cc

-- each entry of the table is a sort of a keyword
abbrev AllKeywords : List (List ℕ × Sort) → Type 0
AllKeywords [] = Unit {0}
AllKeywords (row ∷ rows) = (is_keyword_sort row.1 ≡ true) × AllKeywords rows

all_keywords : AllKeywords keyword_sorts
all_keywords = (refl, (refl, (refl, (refl, (refl, (refl, (refl, (refl, (refl, (refl, (refl, (refl, (refl, (refl, tt))))))))))))))

entry_if : (b : Bool) (x y : Sort) (found : Option Sort) → is_keyword_sort x ≡ true → (found ≡ Some y → is_keyword_sort y ≡ true) → (if b then Some x else found) ≡ Some y → is_keyword_sort y ≡ true
entry_if true x y found e rest h = let g : x ≡ y = cc in sym (ap is_keyword_sort g) ∙ e
entry_if false x y found e rest h = rest h

entry_is_keyword : (text : List ℕ) (rows : List (List ℕ × Sort)) (sort : Sort) → AllKeywords rows → find_word text rows ≡ Some sort → is_keyword_sort sort ≡ true
entry_is_keyword text [] sort all e = cc
entry_is_keyword text (row ∷ rows) sort all e = entry_if (bytes_eq text row.0) row.1 sort (find_word text rows) all.0 (entry_is_keyword text rows sort all.1) e

-- ---- a word that is in none of the three tables is no keyword
in_if : (b c : Bool) → (b ≡ true → c ≡ true) → (c ≡ true → b ≡ true) → b ≡ c
in_if true true f g = refl
in_if false false f g = refl
in_if true false f g = sym (f refl)
in_if false true f g = g refl

in_some : (P : List ℕ → Bool) (text entry : List ℕ) (b c : Bool) → (b ≡ true → text ≡ entry) → P entry ≡ true → (c ≡ true → P text ≡ true) → (b || c) ≡ true → P text ≡ true
in_some P text entry true c same e rest h = ap P (same refl) ∙ e
in_some P text entry false c same e rest h = rest h

-- what holds of each word holds of a word among them
abbrev AllWords : (List ℕ → Bool) → List (List ℕ) → Type 0
AllWords P [] = Unit {0}
AllWords P (w ∷ ws) = (P w ≡ true) × AllWords P ws

all_in : (P : List ℕ → Bool) (text : List ℕ) (words : List (List ℕ)) → AllWords P words → is_in text words ≡ true → P text ≡ true
all_in P text [] all e = cc
all_in P text (w ∷ ws) all e = in_some P text w (bytes_eq text w) (is_in text ws) (λ b. (bytes_eq-Decides text w).0 b) all.0 (all_in P text ws all.1) e

abbrev all_words : (List ℕ → Bool) → List (List ℕ) → Bool
all_words P [] = true
all_words P (w ∷ ws) = P w && all_words P ws

both : (a b : Bool) → (a && b) ≡ true → (a ≡ true) × (b ≡ true)
both true true e = (refl, refl)
both true false e = absurd cc
both false b e = absurd cc

words_all : (P : List ℕ → Bool) (words : List (List ℕ)) → all_words P words ≡ true → AllWords P words
words_all P [] e = tt
words_all P (w ∷ ws) e = let h = both (P w) (all_words P ws) e in (h.0, words_all P ws h.1)

abbrev is_no_name : Sort → Bool
is_no_name o.Name = false
is_no_name _ = true

keywords_are_no_names : all_words (λ text. is_no_name (sort_of_word text)) keywords ≡ true
keywords_are_no_names = refl

unsupported_are_keywords : all_words is_keyword unsupported ≡ true
unsupported_are_keywords = refl

keyword_is_no_name : (text : List ℕ) → is_keyword text ≡ true → is_no_name (sort_of_word text) ≡ true
keyword_is_no_name text e = all_in (λ text. is_no_name (sort_of_word text)) text keywords (words_all (λ text. is_no_name (sort_of_word text)) keywords keywords_are_no_names) e

no_keyword : (b : Bool) (text : List ℕ) → is_keyword text ≡ b → is_no_name (sort_of_word text) ≡ false → is_keyword text ≡ false
no_keyword true text e h = absurd (let f : true ≡ false = sym (keyword_is_no_name text e) ∙ h in cc)
no_keyword false text e h = e

seen_free : (text : List ℕ) (at : Place) (b : Bool) → is_in text unsupported ≡ b → ((if b then o.Unsupported else o.Name) ≡ sort_of_word text) → Seen (if b then o.Unsupported else o.Name) (word text at)
seen_free text at true e h = unsupported_ _
seen_free text at false e h = name text at (no_keyword (is_keyword text) text refl (ap is_no_name (sym h)))

seen_keyword_or : (text : List ℕ) (at : Place) (found : Option Sort) → keyword_of text ≡ found → (keyword_or found (if is_in text unsupported then o.Unsupported else o.Name) ≡ sort_of_word text)
    → Seen (keyword_or found (if is_in text unsupported then o.Unsupported else o.Name)) (word text at)
seen_keyword_or text at (Some sort) e h =
    subst (λ x. Seen sort (word x at)) (sym (found_spelled keyword_text text keyword_sorts sort keywords_spelled e)) (seen_keyword sort at (entry_is_keyword text keyword_sorts sort all_keywords e))
seen_keyword_or text at None e h = seen_free text at (is_in text unsupported) refl h

seen_specifier_or : (text : List ℕ) (at : Place) (found : Option Specifier) → specifier_of text ≡ found
    → Seen (specifier_or found (keyword_or (keyword_of text) (if is_in text unsupported then o.Unsupported else o.Name))) (word text at)
seen_specifier_or text at (Some w) e = specifier w text at e
seen_specifier_or text at None e =
    seen_keyword_or text at (keyword_of text) refl (sym (ap (λ f. specifier_or f (keyword_or (keyword_of text) (if is_in text unsupported then o.Unsupported else o.Name))) e))

pub seen_word : (text : List ℕ) (at : Place) → Seen (sort_of_word text) (word text at)
seen_word text at = seen_specifier_or text at (specifier_of text) refl

pub seen_kind : (kind : TokenKind) (at : Place) → Seen (sort_of kind) (terminal kind at)
seen_kind (k.Word text) at = seen_word text at
seen_kind (k.Number value kind) at = number value kind at
seen_kind (k.Punct punct) at = seen_sign punct at
seen_kind (k.TypeWord kind) at = type_name kind at

pub seen : (t : Terminal) → Seen (sort_of t.kind) t
seen t = seen_kind t.kind t.at

-- ---- the sort of each token of the grammar
none_if : {A : Type 0} (o : Option A) → ((x : A) → o ≡ Some x → ⊥) → o ≡ None
none_if None f = refl
none_if (Some x) f = absurd (f x refl)

false_if : (b : Bool) → (b ≡ true → ⊥) → b ≡ false
false_if true f = absurd (f refl)
false_if false f = refl

keyword_of_true : (text : List ℕ) (sort : Sort) → keyword_of text ≡ Some sort → is_keyword text ≡ true
keyword_of_true text sort e =
    ap is_keyword (found_spelled keyword_text text keyword_sorts sort keywords_spelled e) ∙ keyword_sort_is_keyword sort (entry_is_keyword text keyword_sorts sort all_keywords e)
  where
    keyword_sort_is_keyword : (sort : Sort) → is_keyword_sort sort ≡ true → is_keyword (keyword_text sort) ≡ true
    keyword_sort_is_keyword o.Const e = refl
    keyword_sort_is_keyword o.Static e = refl
    keyword_sort_is_keyword o.Inline e = refl
    keyword_sort_is_keyword o.If e = refl
    keyword_sort_is_keyword o.Else e = refl
    keyword_sort_is_keyword o.Switch e = refl
    keyword_sort_is_keyword o.Case e = refl
    keyword_sort_is_keyword o.Default e = refl
    keyword_sort_is_keyword o.While e = refl
    keyword_sort_is_keyword o.Do e = refl
    keyword_sort_is_keyword o.For e = refl
    keyword_sort_is_keyword o.Break e = refl
    keyword_sort_is_keyword o.Continue e = refl
    keyword_sort_is_keyword o.Return e = refl
    keyword_sort_is_keyword _ e = absurd cc

pub specifier_sort : (text : List ℕ) (w : Specifier) → specifier_of text ≡ Some w → sort_of_word text ≡ o.Specifier w
specifier_sort text w e = ap (λ f. specifier_or f (keyword_or (keyword_of text) (if is_in text unsupported then o.Unsupported else o.Name))) e

pub name_sort : (text : List ℕ) → is_keyword text ≡ false → sort_of_word text ≡ o.Name
name_sort text e =
    let first : specifier_of text ≡ None = none_if _ (λ w h. let f : true ≡ false = sym (specifiers_are_keywords w) ∙ ap is_keyword (sym (specifier_spelled text w h)) ∙ e in cc) in
    let second : keyword_of text ≡ None = none_if _ (λ sort h. let f : true ≡ false = sym (keyword_of_true text sort h) ∙ e in cc) in
    let third : is_in text unsupported ≡ false =
    false_if _ (λ h. let f : true ≡ false = sym (all_in is_keyword text unsupported (words_all is_keyword unsupported unsupported_are_keywords) h) ∙ e in cc) in
    ap (λ f. specifier_or f (keyword_or (keyword_of text) (if is_in text unsupported then o.Unsupported else o.Name))) first
    ∙ ap (λ f. keyword_or f (if is_in text unsupported then o.Unsupported else o.Name)) second
    ∙ ap (λ b. if b then o.Unsupported else o.Name) third

pub keyword_spelled : (text : List ℕ) (sort : Sort) → keyword_of text ≡ Some sort → (text ≡ keyword_text sort) × (is_keyword_sort sort ≡ true)
keyword_spelled text sort e = (found_spelled keyword_text text keyword_sorts sort keywords_spelled e, entry_is_keyword text keyword_sorts sort all_keywords e)
