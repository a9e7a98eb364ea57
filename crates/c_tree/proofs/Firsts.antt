-- What an item begins with.
use Rattle.std.proofs.Common.{◌≡◌, ℕ, ◌||◌, Bool, true, false, List, [], ◌∷◌, ◌++◌, codes, Option, Some, None, is_some, refl, ap, ◌∙◌}
use Rattle.c_token.specs.declared.ctype.CType.{CType}
use Rattle.c_token.specs.declared.token.TokenKind.{TokenKind}
use Rattle.c_token.specs.declared.token.TokenKind.TheVariants as k
use Rattle.c_token.specs.Replacement.{is_in}
use Rattle.c_tree.specs.declared.specifier.Specifier.{Specifier}
use Rattle.c_tree.specs.Tree.{ItemTree, ObjectTree}
use Rattle.c_tree.specs.Terminals.{Terminal, terminal}
use Rattle.c_tree.specs.Kinds.{DerivesWords, DerivesKind, type_of_words, specifier_of}
use Rattle.c_tree.specs.Kinds as kinds
use Rattle.c_tree.specs.Grammar.{DerivesDeclaration, DerivesItem, DerivesItems}
use Rattle.c_tree.specs.Grammar as g

abbrev pub begins_item : TokenKind → Bool
begins_item (k.Word text) = is_in text (codes "static" ∷ codes "inline" ∷ codes "const" ∷ []) || is_some (specifier_of text)
begins_item (k.TypeWord kind) = true
begins_item _ = false

abbrev pub first_begins : List Terminal → Bool
first_begins [] = false
first_begins (t ∷ ts) = begins_item t.kind

or_true : (b : Bool) → (b || true) ≡ true
or_true true = refl
or_true false = refl

first_of_both : (ts us : List Terminal) → first_begins ts ≡ true → first_begins (ts ++ us) ≡ true
first_of_both [] us e = cc
first_of_both (t ∷ ts) us e = e

word_begins : (text : List ℕ) (w : Specifier) → specifier_of text ≡ Some w → begins_item (k.Word text) ≡ true
word_begins text w e = ap (λ o. is_in text (codes "static" ∷ codes "inline" ∷ codes "const" ∷ []) || is_some o) e ∙ or_true _

words_first : {ts : List Terminal} {words : List Specifier} {constant : Bool} → DerivesWords ts words constant → (kind : Option CType) → type_of_words words ≡ Some kind → first_begins ts ≡ true
words_first kinds.no_word kind e = cc
words_first (kinds.a_const at ts words constant d) kind e = refl
words_first (kinds.a_specifier text w at ts words constant f d) kind e = word_begins text w f

name_first : {ls : List Terminal} {words : List Specifier} {constant : Bool} (t : Terminal) (rs : List Terminal) → begins_item t.kind ≡ true → DerivesWords ls words constant → first_begins (ls ++ t ∷ rs) ≡ true
name_first t rs e kinds.no_word = e
name_first t rs e (kinds.a_const at ts words constant d) = refl
name_first t rs e (kinds.a_specifier text w at ts words constant f d) = word_begins text w f

pub kind_first : {ts : List Terminal} {kind : Option CType} {constant : Bool} → DerivesKind ts kind constant → first_begins ts ≡ true
kind_first (kinds.of_words ts words kind constant d e) = words_first d kind e
kind_first (kinds.of_name ls rs kind at before behind d e) = name_first (terminal (k.TypeWord kind) at) rs refl d

pub declaration_first : {ts : List Terminal} {all : List ObjectTree} → DerivesDeclaration ts all → first_begins ts ≡ true
declaration_first (g.a_declaration kind constant ks ts objects ends d e) = first_of_both ks _ (kind_first d)

pub item_first : {ts : List Terminal} {item : ItemTree} → DerivesItem ts item → first_begins ts ≡ true
item_first (g.a_static at ts item d) = refl
item_first (g.an_inline at ts item d) = refl
item_first (g.some_objects ts all d) = declaration_first d
item_first (g.a_function result constant ks ps bs text at opens closes all body d e f h) = first_of_both ks _ (kind_first d)

pub items_first : {ts : List Terminal} {items : List ItemTree} → DerivesItems ts items → (ts ≡ [] → ⊥) → first_begins ts ≡ true
items_first g.no_item some = absurd (some refl)
items_first (g.more_items ts us item rest d ds) some = first_of_both ts us (item_first d)
