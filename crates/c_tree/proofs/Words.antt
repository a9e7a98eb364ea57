-- Which bytes make a word or a number, by a test.
use Rattle.std.proofs.Common.{◌≡◌, ℕ, zero, suc, ◌<◌, Bool, true, false, List, [], ◌∷◌, length, arith}
use Rattle.std.specs.Prelude.{◌&&◌, nat_le, slice_index}
use Rattle.std.specs.List.{list_all}
use Rattle.std.proofs.lemmas.Bool.{and_parts, leb-true}
use Rattle.c_token.specs.Characters.{is_letter, is_digit, is_word_byte}
use Rattle.c_token.specs.Spelling.{IsWord, IsNumber, in_word, in_number}
use Rattle.c_token.specs.declared.token.TokenKind.TheVariants as k
use Rattle.c_tree.proofs.Matching.{IsSpelled}

all_at : (test : ℕ → Bool) (xs : List ℕ) (i : ℕ) → i < length xs → list_all test xs ≡ true → test (slice_index xs i) ≡ true
all_at test [] i lt all = absurd (omega arith)
all_at test (x ∷ xs) zero lt all = (and_parts (test x) (list_all test xs) all).0
all_at test (x ∷ xs) (suc i) lt all = all_at test xs i (omega arith) (and_parts (test x) (list_all test xs) all).1

word_at : (c : ℕ) (cs : List ℕ) → is_letter c ≡ true → list_all is_word_byte cs ≡ true → (i : ℕ) → i < length (c ∷ cs) → in_word (c ∷ cs) i ≡ true
unfolding in_word
word_at c cs first all zero lt = first
word_at c cs first all (suc i) lt = let later : is_word_byte (slice_index cs i) ≡ true = all_at is_word_byte cs i (omega arith) all in grind (arith, later)

pub word_from : (c : ℕ) (cs : List ℕ) → is_letter c ≡ true → list_all is_word_byte cs ≡ true → IsWord (c ∷ cs)
word_from c cs first all = (omega arith, word_at c cs first all)

number_at : (c : ℕ) (cs : List ℕ) → is_digit c ≡ true → list_all is_word_byte cs ≡ true → (i : ℕ) → i < length (c ∷ cs) → in_number (c ∷ cs) i ≡ true
unfolding in_number
number_at c cs first all zero lt = first
number_at c cs first all (suc i) lt = let later : is_word_byte (slice_index cs i) ≡ true = all_at is_word_byte cs i (omega arith) all in grind (arith, later)

pub number_from : (c : ℕ) (cs : List ℕ) → is_digit c ≡ true → list_all is_word_byte cs ≡ true → IsNumber (c ∷ cs)
number_from c cs first all = (omega arith, number_at c cs first all)

-- whether a text is a word of at most 64 bytes
abbrev pub is_short_word : List ℕ → Bool
is_short_word [] = false
is_short_word (c ∷ cs) = is_letter c && (list_all is_word_byte cs && nat_le (length (c ∷ cs)) 64)

pub word_spelled : (text : List ℕ) → is_short_word text ≡ true → IsSpelled (k.Word text)
word_spelled [] e = absurd cc
word_spelled (c ∷ cs) e =
    let first = and_parts (is_letter c) _ e in
    let others = and_parts (list_all is_word_byte cs) _ first.1 in
    (word_from c cs first.0 others.0, leb-true (length (c ∷ cs)) 64 others.1)
