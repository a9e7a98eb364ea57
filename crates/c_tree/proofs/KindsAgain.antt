-- The words that a type is printed as are that type.
use Rattle.std.proofs.Common.{◌≡◌, ℕ, ◌∙◌, sym, refl, ap, subst, Bool, true, false, List, [], ◌∷◌, codes, Option, Some, None, inl, inr}
use Rattle.std.specs.Prelude.{◌||◌, ◌==◌, bytes_eq}
use Rattle.std.specs.List.{list_all}
use Rattle.std.proofs.lemmas.Bool.{cond_both, and_parts, or_cases, eqb-true}
use Rattle.c_token.specs.declared.ctype.CType.{CType}
use Rattle.c_token.specs.declared.ctype.CType.TheVariants as t
use Rattle.c_token.specs.declared.token.TokenKind.TheVariants as k
use Rattle.c_token.specs.Characters.{is_letter, is_digit}
use Rattle.c_token.specs.Replacement.{find_word, exact_types}
use Rattle.c_tree.specs.declared.specifier.Specifier.{Specifier}
use Rattle.c_tree.specs.declared.specifier.Specifier.TheVariants as s
use Rattle.c_tree.specs.declared.print.row.Written.{Written}
use Rattle.c_tree.specs.Terminals.{Terminal, terminal, word}
use Rattle.c_tree.specs.Kinds as kinds
use Rattle.c_tree.specs.Kinds.{Row, rows, row_with, same_words, specifier_of, type_of_words, DerivesWords, DerivesKind}
use Rattle.c_tree.specs.Rows.{type_words, words_row, kind_row}
use Rattle.c_tree.specs.StatementRows.{result_row}
use Rattle.c_tree.proofs.Again.{Fit, fit_parts}
use Rattle.c_tree.proofs.Matching.{Matches, Spelled}
use Rattle.c_tree.proofs.Words.{is_short_word, word_spelled}

-- ---- the types of programs

abbrev pub is_type : CType → Bool
is_type t.Bool = true
is_type (t.Int signed bits) = (bits == 8) || ((bits == 16) || ((bits == 32) || (bits == 64)))

abbrev pub is_result : Option CType → Bool
is_result None = true
is_result (Some kind) = is_type kind

row_tests : (words : List Specifier) (rs : List Row) (kind : Option CType) → row_with words rs ≡ Some kind → list_all (λ row. is_result row.1) rs ≡ true → is_result kind ≡ true
row_tests words [] kind e all = absurd cc
row_tests words (row ∷ rs) kind e all =
    let parts = and_parts (is_result row.1) (list_all (λ row. is_result row.1) rs) all in
    cond_both (same_words words row.0) (Some row.1) (row_with words rs) (λ o. o ≡ Some kind → is_result kind ≡ true)
    (λ here same. let is : row.1 ≡ kind = cc in subst (λ x. is_result x ≡ true) is parts.0)
    (λ later found. row_tests words rs kind found parts.1)
    e

name_tests : (text : List ℕ) (rs : List (List ℕ × CType)) (kind : CType) → find_word text rs ≡ Some kind → list_all (λ row. is_type row.1) rs ≡ true → is_type kind ≡ true
name_tests text [] kind e all = absurd cc
name_tests text (row ∷ rs) kind e all =
    let parts = and_parts (is_type row.1) (list_all (λ row. is_type row.1) rs) all in
    cond_both (bytes_eq text row.0) (Some row.1) (find_word text rs) (λ o. o ≡ Some kind → is_type kind ≡ true)
    (λ here same. let is : row.1 ≡ kind = cc in subst (λ x. is_type x ≡ true) is parts.0)
    (λ later found. name_tests text rs kind found parts.1)
    e

pub kind_is_type : {ts : List Terminal} {kind : Option CType} {constant : Bool} → DerivesKind ts kind constant → Fit ts → is_result kind ≡ true
kind_is_type (kinds.of_words ts words kind constant d e) f = row_tests words rows kind e refl
kind_is_type (kinds.of_name ls rs kind at before behind d e) f =
    let name = (fit_parts ls (terminal (k.TypeWord kind) at ∷ rs) f).1.0 in name_tests name.0 exact_types kind name.1 refl

-- ---- rows of words

-- one by one the words are these specifiers
abbrev AreSpecifiers : List (List ℕ) → List Specifier → Type 0
AreSpecifiers [] [] = Unit {0}
AreSpecifiers (text ∷ texts) (spec ∷ specs) = (specifier_of text ≡ Some spec) × AreSpecifiers texts specs
AreSpecifiers _ _ = ⊥

words_again : (texts : List (List ℕ)) (specs : List Specifier) → AreSpecifiers texts specs → (ts : List Terminal) → Matches ts (words_row texts) → DerivesWords ts specs false
words_again [] [] a ts m = subst (λ us. DerivesWords us [] false) (sym m) kinds.no_word
words_again [] (spec ∷ specs) a ts m = absurd a
words_again (text ∷ texts) [] a ts m = absurd a
words_again (text ∷ []) (spec ∷ []) a ts m =
    subst (λ us. DerivesWords us (spec ∷ []) false) (sym (m.2 ∙ ap (λ us. word text m.0 ∷ us) m.3)) (kinds.a_specifier text spec m.0 [] [] false a.0 kinds.no_word)
words_again (text ∷ []) (spec ∷ (other ∷ specs)) a ts m = absurd a.1
words_again (text ∷ (next ∷ texts)) (spec ∷ specs) a ts m =
    subst (λ us. DerivesWords us (spec ∷ specs) false) (sym m.2)
    (kinds.a_specifier text spec m.0 m.1 specs false a.0 (words_again (next ∷ texts) specs a.1 m.1 m.3))

words_spelled : (texts : List (List ℕ)) → list_all is_short_word texts ≡ true → Spelled (words_row texts)
words_spelled [] e = tt
words_spelled (text ∷ []) e = (word_spelled text (and_parts (is_short_word text) true e).0, tt)
words_spelled (text ∷ (next ∷ texts)) e =
    let parts = and_parts (is_short_word text) (list_all is_short_word (next ∷ texts)) e in
    (word_spelled text parts.0, words_spelled (next ∷ texts) parts.1)

-- the words of a type
record WordsOf (texts : List (List ℕ)) (kind : Option CType) : Type 0 where
  specs : List Specifier
  are : AreSpecifiers texts specs
  is : type_of_words specs ≡ Some kind
  short : list_all is_short_word texts ≡ true

words_of_void : WordsOf (codes "void" ∷ []) None
unfolding is_letter is_digit
words_of_void = record { specs = s.Void ∷ []; are = (refl, tt); is = refl; short = refl }

words_of_bool : WordsOf (type_words t.Bool) (Some t.Bool)
unfolding is_letter is_digit
words_of_bool = record { specs = s.Bool ∷ []; are = (refl, tt); is = refl; short = refl }

words_of_8 : (signed : Bool) → WordsOf (type_words (t.Int signed 8)) (Some (t.Int signed 8))
unfolding is_letter is_digit
words_of_8 true = record { specs = s.Signed ∷ (s.Char ∷ []); are = (refl, (refl, tt)); is = refl; short = refl }
words_of_8 false = record { specs = s.Unsigned ∷ (s.Char ∷ []); are = (refl, (refl, tt)); is = refl; short = refl }

words_of_16 : (signed : Bool) → WordsOf (type_words (t.Int signed 16)) (Some (t.Int signed 16))
unfolding is_letter is_digit
words_of_16 true = record { specs = s.Short ∷ []; are = (refl, tt); is = refl; short = refl }
words_of_16 false = record { specs = s.Unsigned ∷ (s.Short ∷ []); are = (refl, (refl, tt)); is = refl; short = refl }

words_of_32 : (signed : Bool) → WordsOf (type_words (t.Int signed 32)) (Some (t.Int signed 32))
unfolding is_letter is_digit
words_of_32 true = record { specs = s.Int ∷ []; are = (refl, tt); is = refl; short = refl }
words_of_32 false = record { specs = s.Unsigned ∷ (s.Int ∷ []); are = (refl, (refl, tt)); is = refl; short = refl }

words_of_64 : (signed : Bool) → WordsOf (type_words (t.Int signed 64)) (Some (t.Int signed 64))
unfolding is_letter is_digit
words_of_64 true = record { specs = s.Long ∷ []; are = (refl, tt); is = refl; short = refl }
words_of_64 false = record { specs = s.Unsigned ∷ (s.Long ∷ []); are = (refl, (refl, tt)); is = refl; short = refl }

words_of : (kind : CType) → is_type kind ≡ true → WordsOf (type_words kind) (Some kind)
words_of t.Bool e = words_of_bool
words_of (t.Int signed bits) e = elim (or_cases (bits == 8) _ e) [
  | inl is ↦ subst (λ n. WordsOf (type_words (t.Int signed n)) (Some (t.Int signed n))) (sym (eqb-true bits 8 is)) (words_of_8 signed)
  | inr e2 ↦ elim (or_cases (bits == 16) _ e2) [
    | inl is ↦ subst (λ n. WordsOf (type_words (t.Int signed n)) (Some (t.Int signed n))) (sym (eqb-true bits 16 is)) (words_of_16 signed)
    | inr e3 ↦ elim (or_cases (bits == 32) _ e3) [
      | inl is ↦ subst (λ n. WordsOf (type_words (t.Int signed n)) (Some (t.Int signed n))) (sym (eqb-true bits 32 is)) (words_of_32 signed)
      | inr is ↦ subst (λ n. WordsOf (type_words (t.Int signed n)) (Some (t.Int signed n))) (sym (eqb-true bits 64 is)) (words_of_64 signed)
    ]
  ]
]

-- ---- types

-- the tokens of the row are the type
pub record PrintedKind (constant : Bool) (kind : Option CType) (row : List Written) : Type 0 where
  pub again : (ts : List Terminal) → Matches ts row → DerivesKind ts kind constant
  pub spelled : Spelled row

words_kind : (texts : List (List ℕ)) (kind : Option CType) → WordsOf texts kind → PrintedKind false kind (words_row texts)
words_kind texts kind v = record {
  again = λ ts m. kinds.of_words ts v.specs kind false (words_again texts v.specs v.are ts m) v.is;
  spelled = words_spelled texts v.short;
}

const_spelled : is_short_word (codes "const") ≡ true
unfolding is_letter is_digit
const_spelled = refl

pub printed_kind : (constant : Bool) (kind : CType) → is_type kind ≡ true → PrintedKind constant (Some kind) (kind_row constant kind)
printed_kind false kind e = words_kind (type_words kind) (Some kind) (words_of kind e)
printed_kind true kind e =
    let v = words_of kind e in
    record {
      again = λ ts m.
          kinds.of_words ts v.specs (Some kind) true
          (subst (λ us. DerivesWords us v.specs true) (sym m.2) (kinds.a_const m.0 m.1 v.specs false (words_again (type_words kind) v.specs v.are m.1 m.3)))
          v.is;
      spelled = (word_spelled (codes "const") const_spelled, words_spelled (type_words kind) v.short);
    }

pub printed_result : (result : Option CType) → is_result result ≡ true → PrintedKind false result (result_row result)
printed_result None e = words_kind (codes "void" ∷ []) None words_of_void
printed_result (Some kind) e = words_kind (type_words kind) (Some kind) (words_of kind e)
