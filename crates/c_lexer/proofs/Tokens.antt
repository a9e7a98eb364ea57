-- The longest word, number or punctuator is the longest token.
use Rattle.std.proofs.Common.{◌≡◌, ℕ, ◌<◌, ◌∙◌, sym, ap, subst, Bool, true, false, List, ◌++◌, length, get_or, inl, inr}
use Rattle.std.specs.Prelude.{slice_index}
use Rattle.std.proofs.lemmas.Bool.{both_ways}
use Rattle.std.proofs.lemmas.List.{get_or_append_left}
use Rattle.c_token.specs.Characters.{is_letter, is_digit}
use Rattle.c_token.specs.Longest.{IsLongest, NoneBegins}
use Rattle.c_token.specs.Spelling.{IsWord, IsNumber, IsSign, IsToken}
use Rattle.c_token.proofs.Unique.{word-letter, number-digit, sign-letter, sign-digit, letter_no_digit}
use Rattle.c_token.proofs.Signs.{spelling-long}

-- the first byte of a text that begins a list is the list's
head : (bytes text rest : List ℕ) → bytes ≡ text ++ rest → 0 < length text → slice_index text 0 ≡ slice_index bytes 0
head bytes text rest is some = sym (ap (λ x. get_or x 0 0) is ∙ get_or_append_left text rest 0 0 some)

letter_at : (bytes text rest : List ℕ) → bytes ≡ text ++ rest → IsWord text → is_letter (slice_index bytes 0) ≡ true
letter_at bytes text rest is w = ap is_letter (sym (head bytes text rest is w.0)) ∙ word-letter text w

digit_at : (bytes text rest : List ℕ) → bytes ≡ text ++ rest → IsNumber text → is_digit (slice_index bytes 0) ≡ true
digit_at bytes text rest is n = ap is_digit (sym (head bytes text rest is n.0)) ∙ number-digit text n

sign-some : (first : Bool) (text : List ℕ) → IsSign first text → 0 < length text
sign-some first text (q, e, h) = subst (λ x. 0 < length x) (sym e) (spelling-long q)

sign_no_letter_at : (first : Bool) (bytes text rest : List ℕ) → bytes ≡ text ++ rest → IsSign first text → is_letter (slice_index bytes 0) ≡ false
sign_no_letter_at first bytes text rest is s = ap is_letter (sym (head bytes text rest is (sign-some first text s))) ∙ sign-letter text s.0 s.1

sign_no_digit_at : (first : Bool) (bytes text rest : List ℕ) → bytes ≡ text ++ rest → IsSign first text → is_digit (slice_index bytes 0) ≡ false
sign_no_digit_at first bytes text rest is s = ap is_digit (sym (head bytes text rest is (sign-some first text s))) ∙ sign-digit text s.0 s.1

pub longest_word : (first : Bool) (bytes text rest : List ℕ) → IsLongest IsWord bytes text rest → IsLongest (IsToken first) bytes text rest
longest_word first bytes text rest (is, w, all) =
    let letter = letter_at bytes text rest is w in (
      is,
      inl w,
      λ other after same token. elim token [
        | inl word ↦ all other after same word
        | inr (inl number) ↦ absurd (letter_no_digit _ letter (digit_at bytes other after same number))
        | inr (inr sign) ↦ absurd (both_ways _ (sign_no_letter_at first bytes other after same sign) letter)
      ],
    )

pub longest_number : (first : Bool) (bytes text rest : List ℕ) → IsLongest IsNumber bytes text rest → IsLongest (IsToken first) bytes text rest
longest_number first bytes text rest (is, n, all) =
    let digit = digit_at bytes text rest is n in (
      is,
      inr (inl n),
      λ other after same token. elim token [
        | inl word ↦ absurd (letter_no_digit _ (letter_at bytes other after same word) digit)
        | inr (inl number) ↦ all other after same number
        | inr (inr sign) ↦ absurd (both_ways _ (sign_no_digit_at first bytes other after same sign) digit)
      ],
    )

pub longest_sign_token : (first : Bool) (bytes text rest : List ℕ) → IsLongest (IsSign first) bytes text rest → IsLongest (IsToken first) bytes text rest
longest_sign_token first bytes text rest (is, s, all) = (
  is,
  inr (inr s),
  λ other after same token. elim token [
    | inl word ↦ absurd (both_ways _ (sign_no_letter_at first bytes text rest is s) (letter_at bytes other after same word))
    | inr (inl number) ↦ absurd (both_ways _ (sign_no_digit_at first bytes text rest is s) (digit_at bytes other after same number))
    | inr (inr sign) ↦ all other after same sign
  ],
)

pub no_token : (first : Bool) (bytes : List ℕ) → is_letter (slice_index bytes 0) ≡ false → is_digit (slice_index bytes 0) ≡ false → NoneBegins (IsSign first) bytes → NoneBegins (IsToken first) bytes
no_token first bytes letter digit none = λ text rest same token. elim token [
  | inl word ↦ both_ways _ letter (letter_at bytes text rest same word)
  | inr (inl number) ↦ both_ways _ digit (digit_at bytes text rest same number)
  | inr (inr sign) ↦ none text rest same sign
]
