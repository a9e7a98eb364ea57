-- The definitions at small texts.
use Rattle.std.specs.Prelude.{◌≡◌, ℕ, Bool, List, true, false, [], ◌∷◌, codes, None, refl, Ok, Err}
use Rattle.std.proofs.Common.{lit<}
use Rattle.c_token.specs.Constants.{IsConstant, integer, types, type_of, suffix_of, plain, unsigned, unsigned_long}
use Rattle.c_token.specs.Characters.{opening, at_space, at_token, is_blank}
use Rattle.c_token.specs.declared.punct.Punct.TheVariants as p
use Rattle.c_token.specs.declared.token.Token.{Token}
use Rattle.c_token.specs.declared.token.TokenKind.{TokenKind}
use Rattle.c_token.specs.declared.token.TokenKind.TheVariants as k
use Rattle.c_token.specs.Replacement.{Table, StandsFor, nothing, stays, is_replaced, directive, ordinary, Outcome, beginning}
use Rattle.hls_base.specs.TextPlaces.{text_start, place_after}

hexadecimal_unsigned : IsConstant (codes "0x10u") 16 (integer false 32)
unfolding type_of types suffix_of
hexadecimal_unsigned = record { suffix = unsigned; has_digits = lit< tt; is_value = refl; is_suffix = refl; is_type = refl }

-- the same number is int in decimal and unsigned in hexadecimal
decimal_of_33_bits : IsConstant (codes "2147483648") 2147483648 (integer true 64)
unfolding type_of types suffix_of
decimal_of_33_bits = record { suffix = plain; has_digits = lit< tt; is_value = refl; is_suffix = refl; is_type = refl }

hexadecimal_of_33_bits : IsConstant (codes "0x80000000") 2147483648 (integer false 32)
unfolding type_of types suffix_of
hexadecimal_of_33_bits = record { suffix = plain; has_digits = lit< tt; is_value = refl; is_suffix = refl; is_type = refl }

octal : IsConstant (codes "0777LLu") 511 (integer false 64)
unfolding type_of types suffix_of
octal = record { suffix = unsigned_long; has_digits = lit< tt; is_value = refl; is_suffix = refl; is_type = refl }

no_mixed_long : suffix_of (codes "lL") ≡ None
unfolding suffix_of
no_mixed_long = refl

too_large : type_of 18446744073709551616 unsigned_long true ≡ None
unfolding type_of types
too_large = refl

spliced_with_return : opening (92 ∷ 13 ∷ 10 ∷ []) ≡ at_space 3
unfolding opening is_blank
spliced_with_return = refl

two_returns : opening (92 ∷ 13 ∷ 13 ∷ 10 ∷ []) ≡ at_token
unfolding opening is_blank
two_returns = refl

second_line : place_after text_start (codes "ab\ncd") ≡ record { line = 2; column = 3; part = 0 }
second_line = refl

-- `#define N 16`, and then `N` on a line of its own
abbrev number_16 : TokenKind
number_16 = k.Number 16 (integer true 32)

abbrev token_of : TokenKind → ℕ → ℕ → Bool → Token
token_of kind line column first =
    record { kind = kind; place = record { line = line; column = column; part = 0 }; first = first; glued = false }

abbrev define_line : List Token
define_line = token_of (k.Word (codes "define")) 1 2 false ∷ (token_of (k.Word (codes "N")) 1 9 false ∷ (token_of number_16 1 11 false ∷ []))

abbrev hash_token : Token
hash_token = token_of (k.Punct p.Hash) 1 1 true

a_word_is_replaced :
    Outcome beginning (directive hash_token define_line ∷ (ordinary (token_of (k.Word (codes "N")) 2 20 true) ∷ []))
    (Ok (record { kind = number_16; place = record { line = 2; column = 20; part = 1 }; first = false; glued = false } ∷ []))
a_word_is_replaced = (
  _,
  1,
  (
    token_of number_16 1 11 false ∷ [],
    is_replaced _ (token_of (k.Word (codes "N")) 2 20 true) _ (token_of number_16 1 11 false ∷ []) [] [] 0 0 refl
        (stays _ (token_of number_16 1 11 false) [] [] 0 refl (nothing _)) (nothing _),
    refl,
  ),
  (Ok [], refl, refl),
)

-- `#if 1`
other_directives_are_refused :
    Outcome beginning (directive hash_token (token_of (k.Word (codes "if")) 1 2 false ∷ (token_of number_16 1 5 false ∷ [])) ∷ [])
    (Err (record { rule = 5; place = record { line = 1; column = 2; part = 0 } }))
other_directives_are_refused = refl

-- a word that stands for itself stays
abbrev itself : Table
itself = (codes "N", token_of (k.Word (codes "N")) 1 11 false ∷ []) ∷ []

hidden_words_stay : StandsFor itself (token_of (k.Word (codes "N")) 2 1 true ∷ []) (token_of (k.Word (codes "N")) 1 11 false ∷ []) 1
hidden_words_stay =
    is_replaced itself (token_of (k.Word (codes "N")) 2 1 true) (token_of (k.Word (codes "N")) 1 11 false ∷ []) (token_of (k.Word (codes "N")) 1 11 false ∷ []) [] [] 0 0 refl
    (stays [] (token_of (k.Word (codes "N")) 1 11 false) [] [] 0 refl (nothing [])) (nothing itself)

-- `#define A B C` and `#define B A`: each hides itself, so that A stands for A C
abbrev word : List ℕ → Token
word text = token_of (k.Word text) 1 1 false

abbrev only_b : Table
only_b = (codes "B", word (codes "A") ∷ []) ∷ []

abbrev mutual_words : Table
mutual_words = (codes "A", word (codes "B") ∷ (word (codes "C") ∷ [])) ∷ only_b

mutual_words_end : StandsFor mutual_words (word (codes "A") ∷ []) (word (codes "A") ∷ (word (codes "C") ∷ [])) 2
mutual_words_end =
    is_replaced mutual_words (word (codes "A")) (word (codes "B") ∷ (word (codes "C") ∷ [])) (word (codes "A") ∷ (word (codes "C") ∷ [])) [] [] 1 0 refl
    (is_replaced only_b (word (codes "B")) (word (codes "A") ∷ []) (word (codes "A") ∷ []) (word (codes "C") ∷ []) (word (codes "C") ∷ []) 0 0 refl
    (stays [] (word (codes "A")) [] [] 0 refl (nothing []))
    (stays only_b (word (codes "C")) [] [] 0 refl (nothing only_b)))
    (nothing mutual_words)
