-- What decimal and hexadecimal digits write.
use Rattle.std.proofs.Common.{◌≡◌, inl, inr, ℕ, ◌+◌, ◌*◌, ◌^◌, ◌<◌, ◌≤◌, ◌∙◌, sym, refl, ap, false, List, [], ◌∷◌, length, arith}
use Rattle.std.specs.Fmt.{decimal, digits}
use Rattle.std.specs.Char.{digit_value as std_value}
use Rattle.std.specs.Str.Parse.{AllDigits, digits_value_after}
use Rattle.std.specs.List.{All}
use Rattle.std.proofs.lemmas.Fmt.{digits_is_IsNumeral, decimal_is_IsNumeral_wide}
use Rattle.std.proofs.lemmas.Str.Parse.{digit_from_value}
use Rattle.std.proofs.lemmas.Bool.{cases_lt}
use Rattle.std.proofs.lemmas.List.Elements.{All-nil, All-cons}
use Rattle.rtl_core.specs.Valid.{IsDigit}
use Rattle.rtl_core.specs.ModuleTokens.{IsHexDigit, IsNumber, digit_value, value_behind, number_value}

-- the value of a digit below 16, and which bytes are such digits
same_digit : (c : ℕ) → std_value c < 16 → digit_value c ≡ std_value c
same_digit c h = grind arith

hex_digit : (c : ℕ) → std_value c < 16 → IsHexDigit c
hex_digit c h = elim (cases_lt c 58) [
  | inl low ↦ inl (grind arith)
  | inr high ↦ elim (cases_lt c 97) [
    | inl capital ↦ inr (inl (grind arith))
    | inr small ↦ inr (inr (grind arith))
  ]
]

value_same : (radix n : ℕ) (ds : List ℕ) → radix ≤ 16 → AllDigits radix ds → value_behind radix n ds ≡ digits_value_after radix n ds
value_same radix n [] le h = refl
value_same radix n (c ∷ cs) le h =
    ap (λ d. value_behind radix (n * radix + d) cs) (same_digit c (omega (arith, h.0))) ∙ value_same radix (n * radix + std_value c) cs le h.1

digits_hex : (ds : List ℕ) → AllDigits 16 ds → All IsHexDigit ds
digits_hex [] h = All-nil IsHexDigit
digits_hex (c ∷ cs) h = All-cons IsHexDigit c cs (hex_digit c h.0) (digits_hex cs h.1)

digits_ten : (ds : List ℕ) → AllDigits 10 ds → All IsDigit ds
digits_ten [] h = All-nil IsDigit
digits_ten (c ∷ cs) h = All-cons IsDigit c cs (let r = digit_from_value c h.0 in (r.0, r.1)) (digits_ten cs h.1)

-- ---- decimal digits

pub IsNumber-decimal : (n : ℕ) → n < 10 ^ 64 → IsNumber (decimal n)
IsNumber-decimal n h = let d = decimal_is_IsNumeral_wide n h in (d.0.0, digits_ten (decimal n) d.0.1)

pub number_value-decimal : (n : ℕ) → n < 10 ^ 64 → number_value (decimal n) ≡ n
number_value-decimal n h = let d = decimal_is_IsNumeral_wide n h in value_same 10 0 (decimal n) (omega arith) d.0.1 ∙ d.1

pub decimal-same : (m n : ℕ) → m < 10 ^ 64 → n < 10 ^ 64 → decimal m ≡ decimal n → m ≡ n
decimal-same m n hm hn e = sym (number_value-decimal m hm) ∙ ap number_value e ∙ number_value-decimal n hn

-- ---- hexadecimal digits

-- the digits of a number in hexadecimal, in lower case
pub record IsHexText (n : ℕ) (ds : List ℕ) : Type 0 where
  pub some : 0 < length ds
  pub hex : All IsHexDigit ds
  pub value : value_behind 16 0 ds ≡ n

pub hexadecimal_text : (n : ℕ) → n < 16 ^ 64 → IsHexText n (digits 16 false n)
hexadecimal_text n h =
    let d = digits_is_IsNumeral 16 false (omega arith) (omega arith) n h in
    record { some = d.0.0; hex = digits_hex (digits 16 false n) d.0.1; value = value_same 16 0 (digits 16 false n) (omega arith) d.0.1 ∙ d.1 }
