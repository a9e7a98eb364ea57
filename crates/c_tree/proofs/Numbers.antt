-- A number in decimal with the suffix of its type is a constant of its value and type.
use Rattle.std.proofs.Common.{◌≡◌, ℕ, ◌+◌, ◌^◌, ◌<◌, ◌≤◌, ◌∙◌, sym, refl, ap, subst, Bool, true, false, cond, List, [], ◌∷◌, ◌++◌, length, take, drop, get_or, codes, Some, None, lit<, arith, inl, inr}
use Rattle.std.specs.Prelude.{◌&&◌, ◌||◌, ◌==◌, nat_eq, nat_lt, slice_index, find, take_while, if◌then◌else◌}
use Rattle.std.specs.List.{list_all, prefix_len}
use Rattle.std.specs.Fmt.{decimal}
use Rattle.std.specs.Char.{digit_value}
use Rattle.std.specs.Str.Parse.{digits_value, AllDigits}
use Rattle.std.proofs.lemmas.Bool.{cond_both, cases_lt, and_parts, or_right, or_cases, ltb-true, eqb-true, le-leb, lt-ltb}
use Rattle.std.proofs.lemmas.Fmt.{decimal_digit, decimal_is_IsNumeral, first_decimal}
use Rattle.std.proofs.lemmas.List.{get_or_append_left}
use Rattle.std.proofs.Math.Seq.{drop-append_seam, take-append_seam}
use Rattle.std.proofs.lemmas.Str.Parse.{digit_from_value}
use Rattle.c_token.specs.Characters.{is_letter, is_digit, is_word_byte}
use Rattle.c_token.specs.Spelling.{IsNumber}
use Rattle.c_token.specs.Constants.{Suffix, plain, unsigned, long, unsigned_long, suffix_of, types, holds, type_of, is_hexadecimal, is_octal, mark_length, radix_of, digits_of, suffix_text, IsConstant}
use Rattle.c_token.specs.declared.ctype.CType.{CType}
use Rattle.c_token.specs.declared.ctype.CType.TheVariants as t
use Rattle.c_token.specs.declared.token.TokenKind.TheVariants as k
use Rattle.c_tree.specs.RowText.{number_text}
use Rattle.c_tree.proofs.Matching.{IsSpelled}
use Rattle.c_tree.proofs.Words.{number_from}

-- ---- rows of digits

prefix_front : (test : ℕ → Bool) (xs ys : List ℕ) → list_all test xs ≡ true → prefix_len test ys ≡ 0 → prefix_len test (xs ++ ys) ≡ length xs
prefix_front test [] ys all none = none
prefix_front test (x ∷ xs) ys all none =
    let parts = and_parts (test x) (list_all test xs) all in
    let rest : prefix_len test (xs ++ ys) ≡ length xs = prefix_front test xs ys parts.1 none in
    ap (λ b. cond b (1 + prefix_len test (xs ++ ys)) 0) parts.0 ∙ omega (arith, rest)

front_taken : (test : ℕ → Bool) (xs ys : List ℕ) → list_all test xs ≡ true → prefix_len test ys ≡ 0 → take_while test (xs ++ ys) ≡ xs
front_taken test xs ys all none = ap (λ n. take n (xs ++ ys)) (prefix_front test xs ys all none) ∙ take-append_seam xs ys

abbrev below_ten : ℕ → Bool
below_ten b = nat_lt (digit_value b) 10

digits_below : (ds : List ℕ) → AllDigits 10 ds → list_all below_ten ds ≡ true
digits_below [] h = refl
digits_below (d ∷ ds) h = ap (λ b. b && list_all below_ten ds) (lt-ltb (digit_value d) 10 h.0) ∙ digits_below ds h.1

digit_byte : (d : ℕ) → digit_value d < 10 → is_digit d ≡ true
unfolding is_digit
digit_byte d h =
    let r = digit_from_value d h in
    rw (le-leb 48 d r.0, le-leb d 57 r.1) refl

digits_words : (ds suffix : List ℕ) → AllDigits 10 ds → list_all is_word_byte suffix ≡ true → list_all is_word_byte (ds ++ suffix) ≡ true
digits_words [] suffix h e = e
digits_words (d ∷ ds) suffix h e =
    ap (λ b. b && list_all is_word_byte (ds ++ suffix)) (or_right (is_letter d) (is_digit d) (digit_byte d h.0)) ∙ digits_words ds suffix h.1 e

digits_number : (ds suffix : List ℕ) → 0 < length ds → AllDigits 10 ds → list_all is_word_byte suffix ≡ true → IsNumber (ds ++ suffix)
digits_number [] suffix some h e = absurd (omega arith)
digits_number (d ∷ ds) suffix some h e = number_from d (ds ++ suffix) (digit_byte d h.0) (digits_words ds suffix h.1 e)

-- ---- a number that is not 0

above_differs : (n x : ℕ) → n < x → (x == n) ≡ false
above_differs n x h = grind (arith, h)

positive_constant : (v : ℕ) (s : Suffix) (suffix : List ℕ) (kind : CType) → 0 < v → v < 2 ^ 64 → prefix_len below_ten suffix ≡ 0 → suffix_of suffix ≡ Some s → type_of v s true ≡ Some kind
    → IsConstant (decimal v ++ suffix) v kind
positive_constant v s suffix kind some small stops is typed =
    let text = decimal v ++ suffix in
    let numeral = decimal_is_IsNumeral v small in
    let first : (slice_index text 0 == 48) ≡ false =
    ap (λ x. x == 48) (get_or_append_left (decimal v) suffix 0 0 numeral.0.0) ∙ above_differs 48 (get_or (decimal v) 0 0) (first_decimal v some small) in
    let plain_first : is_hexadecimal text ≡ false = ap (λ b. b && ((slice_index text 1 == 120) || (slice_index text 1 == 88))) first in
    let mark : mark_length text ≡ 0 = ap (λ b. if b then 2 else 0) plain_first in
    let radix : radix_of text ≡ 10 = ap (λ b. if b then 16 else (if is_octal text then 8 else 10)) plain_first ∙ ap (λ b. if b then 8 else 10) first in
    let digits : digits_of text ≡ decimal v =
    ap (λ r. take_while (λ b. nat_lt (digit_value b) r) (drop (mark_length text) text)) radix
    ∙ ap (λ n. take_while below_ten (drop n text)) mark
    ∙ front_taken below_ten (decimal v) suffix (digits_below (decimal v) numeral.0.1) stops in
    let rest : suffix_text text ≡ suffix =
    ap (λ ds. drop (length ds) (drop (mark_length text) text)) digits ∙ ap (λ n. drop (length (decimal v)) (drop n text)) mark ∙ drop-append_seam (decimal v) suffix in
    record {
      suffix = s;
      has_digits = subst (λ ds. 0 < length ds) (sym digits) numeral.0.0;
      is_value = sym numeral.1 ∙ ap (digits_value 10) (sym digits) ∙ ap (λ r. digits_value r (digits_of text)) (sym radix);
      is_suffix = ap suffix_of rest ∙ is;
      is_type = ap (λ r. type_of v s (nat_eq r 10)) radix ∙ typed;
    }

-- ---- the types of constants

abbrev pub is_number_type : CType → Bool
is_number_type t.Bool = false
is_number_type (t.Int signed bits) = (bits == 32) || (bits == 64)

abbrev written_constant : ℕ → CType → Type 0
written_constant v kind = IsConstant (number_text v kind) v kind

zero_text : (suffix : List ℕ) (kind : CType) → IsConstant (48 ∷ suffix) 0 kind → IsConstant (decimal 0 ++ suffix) 0 kind
zero_text suffix kind c = subst (λ ds. IsConstant (ds ++ suffix) 0 kind) (sym (decimal_digit 0 (omega arith))) c

zero_of : (kind : CType) (v : ℕ) → v ≤ 0 → written_constant 0 kind → written_constant v kind
zero_of kind v none c = subst (λ n. written_constant n kind) (let e : 0 ≡ v = omega arith in e) c

written_int : (v : ℕ) → holds v (t.Int true 32) ≡ true → written_constant v (t.Int true 32)
unfolding type_of types suffix_of
written_int v h = elim (cases_lt 0 v) [
  | inl some ↦ positive_constant v plain [] (t.Int true 32) some (let small : v < 2 ^ 31 = ltb-true v (2 ^ 31) h in omega (arith, small)) refl refl
      (ap (λ b. cond b (Some (t.Int true 32)) (find (holds v) (t.Int true 64 ∷ []))) h)
  | inr none ↦ zero_of (t.Int true 32) v none (zero_text [] (t.Int true 32) (record { suffix = plain; has_digits = lit< tt; is_value = refl; is_suffix = refl; is_type = refl }))
]

written_unsigned : (v : ℕ) → holds v (t.Int false 32) ≡ true → written_constant v (t.Int false 32)
unfolding type_of types suffix_of
written_unsigned v h = elim (cases_lt 0 v) [
  | inl some ↦ positive_constant v unsigned (codes "u") (t.Int false 32) some (let small : v < 2 ^ 32 = ltb-true v (2 ^ 32) h in omega (arith, small)) refl refl
      (ap (λ b. cond b (Some (t.Int false 32)) (find (holds v) (t.Int false 64 ∷ []))) h)
  | inr none ↦ zero_of (t.Int false 32) v none (zero_text (codes "u") (t.Int false 32) (record { suffix = unsigned; has_digits = lit< tt; is_value = refl; is_suffix = refl; is_type = refl }))
]

written_long : (v : ℕ) → holds v (t.Int true 64) ≡ true → written_constant v (t.Int true 64)
unfolding type_of types suffix_of
written_long v h = elim (cases_lt 0 v) [
  | inl some ↦ positive_constant v long (codes "l") (t.Int true 64) some (let small : v < 2 ^ 63 = ltb-true v (2 ^ 63) h in omega (arith, small)) refl refl
      (ap (λ b. cond b (Some (t.Int true 64)) None) h)
  | inr none ↦ zero_of (t.Int true 64) v none (zero_text (codes "l") (t.Int true 64) (record { suffix = long; has_digits = lit< tt; is_value = refl; is_suffix = refl; is_type = refl }))
]

written_unsigned_long : (v : ℕ) → holds v (t.Int false 64) ≡ true → written_constant v (t.Int false 64)
unfolding type_of types suffix_of
written_unsigned_long v h = elim (cases_lt 0 v) [
  | inl some ↦ positive_constant v unsigned_long (codes "ul") (t.Int false 64) some (ltb-true v (2 ^ 64) h) refl refl
      (ap (λ b. cond b (Some (t.Int false 64)) None) h)
  | inr none ↦ zero_of (t.Int false 64) v none (zero_text (codes "ul") (t.Int false 64) (record { suffix = unsigned_long; has_digits = lit< tt; is_value = refl; is_suffix = refl; is_type = refl }))
]

-- ---- every constant

find_holds : (f : CType → Bool) (ks : List CType) (kind : CType) → find f ks ≡ Some kind → f kind ≡ true
find_holds f [] kind e = absurd cc
find_holds f (x ∷ ks) kind e =
    cond_both (f x) (Some x) (find f ks) (λ o. o ≡ Some kind → f kind ≡ true)
    (λ here same. let is : x ≡ kind = cc in subst (λ y. f y ≡ true) is here)
    (λ later found. find_holds f ks kind found)
    e

find_tests : (f test : CType → Bool) (ks : List CType) (kind : CType) → find f ks ≡ Some kind → list_all test ks ≡ true → test kind ≡ true
find_tests f test [] kind e all = absurd cc
find_tests f test (x ∷ ks) kind e all =
    let parts = and_parts (test x) (list_all test ks) all in
    cond_both (f x) (Some x) (find f ks) (λ o. o ≡ Some kind → test kind ≡ true)
    (λ here same. let is : x ≡ kind = cc in subst (λ y. test y ≡ true) is parts.0)
    (λ later found. find_tests f test ks kind found parts.1)
    e

number_types : (s : Suffix) (d : Bool) → list_all is_number_type (types s d) ≡ true
unfolding types
number_types plain true = refl
number_types plain false = refl
number_types unsigned d = refl
number_types long true = refl
number_types long false = refl
number_types unsigned_long d = refl

typed_so : (v : ℕ) (s : Suffix) (d : Bool) (kind : CType) → type_of v s d ≡ Some kind → (is_number_type kind ≡ true) × (holds v kind ≡ true)
unfolding type_of
typed_so v s d kind e = (find_tests (holds v) is_number_type (types s d) kind e (number_types s d), find_holds (holds v) (types s d) kind e)

abbrev both_written : ℕ → CType → Type 0
both_written v kind = written_constant v kind × IsNumber (number_text v kind)

as_number : (v : ℕ) (suffix : List ℕ) → v < 2 ^ 64 → list_all is_word_byte suffix ≡ true → IsNumber (decimal v ++ suffix)
as_number v suffix small e = let numeral = decimal_is_IsNumeral v small in digits_number (decimal v) suffix numeral.0.0 numeral.0.1 e

of_32_bits : (signed : Bool) (v : ℕ) → holds v (t.Int signed 32) ≡ true → both_written v (t.Int signed 32)
unfolding is_letter is_digit
of_32_bits true v h = (written_int v h, as_number v [] (let small : v < 2 ^ 31 = ltb-true v (2 ^ 31) h in omega (arith, small)) refl)
of_32_bits false v h = (written_unsigned v h, as_number v (codes "u") (let small : v < 2 ^ 32 = ltb-true v (2 ^ 32) h in omega (arith, small)) refl)

of_64_bits : (signed : Bool) (v : ℕ) → holds v (t.Int signed 64) ≡ true → both_written v (t.Int signed 64)
unfolding is_letter is_digit
of_64_bits true v h = (written_long v h, as_number v (codes "l") (let small : v < 2 ^ 63 = ltb-true v (2 ^ 63) h in omega (arith, small)) refl)
of_64_bits false v h = (written_unsigned_long v h, as_number v (codes "ul") (ltb-true v (2 ^ 64) h) refl)

written : (kind : CType) (v : ℕ) → is_number_type kind ≡ true → holds v kind ≡ true → both_written v kind
written t.Bool v e h = absurd cc
written (t.Int signed bits) v e h = elim (or_cases (bits == 32) (bits == 64) e) [
  | inl is ↦ subst (λ n. holds v (t.Int signed n) ≡ true → both_written v (t.Int signed n)) (sym (eqb-true bits 32 is)) (of_32_bits signed v) h
  | inr is ↦ subst (λ n. holds v (t.Int signed n) ≡ true → both_written v (t.Int signed n)) (sym (eqb-true bits 64 is)) (of_64_bits signed v) h
]

pub number_spelled : (text : List ℕ) (v : ℕ) (kind : CType) → IsConstant text v kind → IsSpelled (k.Number v kind)
number_spelled text v kind c =
    let so = typed_so v c.suffix (nat_eq (radix_of text) 10) kind c.is_type in
    let w = written kind v so.0 so.1 in
    (w.1, w.0)
