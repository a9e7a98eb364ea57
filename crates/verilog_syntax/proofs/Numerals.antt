-- Numbers and constants at the front of some bytes.
use Rattle.std.proofs.Common.{◌≡◌, inl, inr, Bor, ℕ, ◌+◌, ◌<◌, ◌≤◌, true, false, eqb, List, [], ◌∷◌, ◌++◌, length, take, drop, get_or, append_assoc, refl, sym, ap, ◌∙◌, subst, arith}
use Rattle.std.specs.List.{prefix_len, All}
use Rattle.std.proofs.lemmas.Bool.{both_ways, cases_Bool, eqb-true, eq-eqb}
use Rattle.std.proofs.lemmas.List.{take-append-drop, length-append}
use Rattle.std.proofs.lemmas.List.Elements.{All-head, All-tail}
use Rattle.rtl_core.specs.Valid.{IsDigit, IsIdentifier}
use Rattle.rtl_core.specs.ModuleTokens.{Token, Word, Number, Constant, Sign, IsNumber, IsHexDigit, value_behind, number_value, IsConstantText, IsToken, IsLongest}
use Rattle.rtl_core.proofs.Tokens.{every, every_true, Ends, IsNumberEnd, digit_is, hex_true, hex_is, number_true, is_number, number_is_longest, constant_is_longest}
use Rattle.verilog_syntax.specs.declared.token.Kind.TheVariants as kind
use Rattle.verilog_syntax.specs.declared.lexer.Piece.TheVariants as piece
use Rattle.verilog_syntax.specs.Characters.{is_digit, is_hex_digit}
use Rattle.verilog_syntax.specs.Fronts.{StandsConstant, hex_digits}
use Rattle.verilog_syntax.specs.Views.{StandsFirst}
use Rattle.verilog_syntax.proofs.Fronts.{front_every, front_ends, front_size, front_some, begins_with_two}
use Rattle.verilog_syntax.proofs.Pieces.{letter_no_digit, starts_with_digit, sign_no_digit}

is_number_front : (text : List ℕ) → 0 < length text → every is_digit text ≡ true → is_number text ≡ true
is_number_front [] some all = absurd (omega (arith, some))
is_number_front (c ∷ cs) some all = all

pub size_is : (bytes : List ℕ) → 0 < length bytes → is_digit (get_or bytes 0 0) ≡ true → IsNumber (take (prefix_len is_digit bytes) bytes)
size_is bytes some digit =
    let up = front_some is_digit bytes some digit in
    let size = front_size is_digit bytes in
    number_true _ (is_number_front (take (prefix_len is_digit bytes) bytes) (omega (arith, up, size)) (front_every is_digit bytes))

no_quote_digit : (m : ℕ) → m ≡ 39 → IsDigit m → ⊥
no_quote_digit m e h = omega (arith, e, h.0)

-- two rows of digits before a quote
pub sizes_agree : (ds size : List ℕ) (ms more : List ℕ) → All IsDigit ds → All IsDigit size → ds ++ (39 ∷ ms) ≡ size ++ (39 ∷ more) → (ds ≡ size) × (ms ≡ more)
sizes_agree [] [] ms more h k e = (refl, cc)
sizes_agree [] (d ∷ size) ms more h k e = let same : d ≡ 39 = cc in absurd (no_quote_digit d same (All-head IsDigit d size k))
sizes_agree (d ∷ ds) [] ms more h k e = let same : d ≡ 39 = cc in absurd (no_quote_digit d same (All-head IsDigit d ds h))
sizes_agree (d ∷ ds) (x ∷ size) ms more h k e =
    let same : d ≡ x = cc in
    let rest : ds ++ (39 ∷ ms) ≡ size ++ (39 ∷ more) = cc in
    let r = sizes_agree ds size ms more (All-tail IsDigit d ds h) (All-tail IsDigit x size k) rest in
    (ap (λ y. y ∷ ds) same ∙ ap (λ y. x ∷ y) r.0, r.1)

hex_some : (digits after : List ℕ) → 0 < length digits → All IsHexDigit digits → 0 < prefix_len is_hex_digit (digits ++ after)
hex_some [] after some hex = absurd (omega (arith, some))
hex_some (d ∷ ds) after some hex = front_some is_hex_digit (d ∷ ds ++ after) (omega arith) (hex_is d (All-head IsHexDigit d ds hex))

-- where a constant is a longer token than its size, it stands there
stands_there : (ds ms after rest size digits : List ℕ) (bits value : ℕ) → IsConstantText (ds ++ (39 ∷ ms)) bits value → All IsDigit ds → rest ≡ (39 ∷ ms) ++ after → StandsConstant ds rest
stands_there ds ms after rest size digits bits value tok all e =
    let same = sizes_agree ds tok.size ms (104 ∷ tok.digits) all tok.is_number.1 tok.split in
    let whole : rest ≡ 39 ∷ 104 ∷ (tok.digits ++ after) = e ∙ ap (λ x. 39 ∷ (x ++ after)) same.1 in
    let value_is : number_value ds ≡ bits = ap number_value same.0 ∙ tok.bits_are in
    let up = hex_some tok.digits after tok.some tok.hex in
    subst (StandsConstant ds) (sym whole)
    (record {
      mark = omega arith;
      quote = refl;
      letter = refl;
      some = subst (λ n. 0 < n) (sym (front_size is_hex_digit (tok.digits ++ after))) up;
      low = omega (arith, tok.in_range.0, value_is);
      high = omega (arith, tok.in_range.1, value_is);
    })

number_end : (rest : List ℕ) → Ends (λ c. is_digit c ≡ false) rest → Ends (λ c. IsDigit c → ⊥) rest
number_end [] e = tt
number_end (c ∷ cs) e = λ h. both_ways _ e (digit_is c h)

number_head : (ds : List ℕ) → IsNumber ds → (c : ℕ) × (cs : List ℕ) × (ds ≡ c ∷ cs) × IsDigit c
number_head [] h = absurd (omega (arith, h.0))
number_head (c ∷ cs) h = (c, cs, refl, All-head IsDigit c cs h.1)

pub not_digit_end : (ds : List ℕ) (m : ℕ) (ms : List ℕ) → m ≡ 39 → All IsDigit (ds ++ (m ∷ ms)) → ⊥
not_digit_end [] m ms e all = no_quote_digit m e (All-head IsDigit m ms all)
not_digit_end (d ∷ ds) m ms e all = not_digit_end ds m ms e (All-tail IsDigit d (ds ++ (m ∷ ms)) all)

-- a number before a quote that begins no constant
quote_longest : (c : ℕ) (cs rest : List ℕ) → IsNumber (c ∷ cs) → (StandsConstant (c ∷ cs) rest → ⊥) → (m : ℕ) (ms after : List ℕ) (longer : Token) → m ≡ 39 → rest ≡ (m ∷ ms) ++ after
    → IsToken (c ∷ (cs ++ (m ∷ ms))) longer → ⊥
quote_longest c cs rest num none m ms after (Word w) e whole tok = letter_no_digit c ((subst IsIdentifier (sym tok.0) tok.1).0) (All-head IsDigit c cs num.1)
quote_longest c cs rest num none m ms after (Number ds) e whole tok = not_digit_end (c ∷ cs) m ms e (subst (All IsDigit) (sym tok.0) tok.1.1)
quote_longest c cs rest num none m ms after (Constant bits value) e whole tok =
    none (stands_there (c ∷ cs) ms after rest tok.size tok.digits bits value (subst (λ x. IsConstantText (c ∷ (cs ++ (x ∷ ms))) bits value) e tok) num.1 (whole ∙ ap (λ x. (x ∷ ms) ++ after) e))
quote_longest c cs rest num none m ms after (Sign t) e whole tok =
    both_ways _ (sign_no_digit t tok.1) (ap starts_with_digit (sym tok.0) ∙ digit_is c (All-head IsDigit c cs num.1))

number_longest : (c : ℕ) (cs rest : List ℕ) → IsNumber (c ∷ cs) → Ends (λ c. IsDigit c → ⊥) rest → (StandsConstant (c ∷ cs) rest → ⊥) → IsLongest (c ∷ cs) rest
number_longest c cs rest num ends none [] after longer e tok = refl
number_longest c cs rest num ends none (m ∷ ms) after longer e tok =
    elim (cases_Bool (eqb m 39)) [
      | inl t ↦ absurd (quote_longest c cs rest num none m ms after longer (eqb-true m 39 t) e tok)
      | inr f ↦
          number_is_longest (c ∷ cs) rest num (subst (Ends IsNumberEnd) (sym e) ((subst (Ends (λ c. IsDigit c → ⊥)) e ends), λ q. both_ways _ f (eq-eqb m 39 q))) (m ∷ ms) after longer e tok
    ]

number_longest_of : (ds rest : List ℕ) → IsNumber ds → Ends (λ c. IsDigit c → ⊥) rest → (StandsConstant ds rest → ⊥) → IsLongest ds rest
number_longest_of [] rest num ends none = absurd (omega (arith, num.0))
number_longest_of (c ∷ cs) rest num ends none = number_longest c cs rest num ends none

pub number_first : (bytes : List ℕ) (n : ℕ) (size : Bor (List ℕ)) (behind : List ℕ) → 0 < length bytes → is_digit (get_or bytes 0 0) ≡ true → n ≡ prefix_len is_digit bytes → size.now ≡ take n bytes → behind ≡ drop n bytes
    → (StandsConstant size.now behind → ⊥) → StandsFirst bytes (piece.Lexeme (kind.Number size) n)
number_first bytes n size behind some digit is e f none =
    let m = prefix_len is_digit bytes in
    let num = size_is bytes some digit in
    let same : size.now ≡ take m bytes = e ∙ ap (λ k. take k bytes) is in
    let rest : behind ≡ drop m bytes = f ∙ ap (λ k. drop k bytes) is in
    let absent : StandsConstant (take m bytes) (drop m bytes) → ⊥ = subst (λ x. StandsConstant x (drop m bytes) → ⊥) same (subst (λ x. StandsConstant size.now x → ⊥) rest none) in (
      take m bytes,
      drop m bytes,
      sym (take-append-drop m bytes),
      front_size is_digit bytes ∙ sym is,
      subst (λ x. 0 < x) (sym is) (front_some is_digit bytes some digit),
      (sym same, subst IsNumber (sym same) num),
      number_longest_of (take m bytes) (drop m bytes) num (number_end _ (front_ends is_digit bytes)) absent,
      tt,
    )

hex_end : (rest : List ℕ) → Ends (λ c. is_hex_digit c ≡ false) rest → Ends (λ c. IsHexDigit c → ⊥) rest
hex_end [] e = tt
hex_end (c ∷ cs) e = λ h. both_ways _ e (hex_is c h)

pub constant_first : (bytes : List ℕ) (n bits : ℕ) (size : List ℕ) (behind : List ℕ) (digits : Bor (List ℕ)) → 0 < length bytes → is_digit (get_or bytes 0 0) ≡ true → n ≡ prefix_len is_digit bytes → size ≡ take n bytes
    → behind ≡ drop n bytes → bits ≡ number_value size → digits.now ≡ hex_digits behind → StandsConstant size behind → StandsFirst bytes (piece.Lexeme (kind.Constant bits digits) (n + 2 + length digits.now))
constant_first bytes n bits size behind digits some digit is e f value hex stands =
    let num : IsNumber size = subst IsNumber (sym (e ∙ ap (λ k. take k bytes) is)) (size_is bytes some digit) in
    let long : length size ≡ n = ap length (e ∙ ap (λ k. take k bytes) is) ∙ (front_size is_digit bytes ∙ sym is) in
    let m = prefix_len is_hex_digit (drop 2 behind) in
    let rest = drop m (drop 2 behind) in
    let mark : behind ≡ (39 ∷ 104 ∷ digits.now) ++ rest =
    begins_with_two 39 104 behind stands.mark stands.quote stands.letter ∙ ap (λ x. 39 ∷ 104 ∷ x) (sym (take-append-drop m (drop 2 behind)) ∙ ap (λ x. x ++ rest) (sym hex)) in
    let whole : bytes ≡ (size ++ (39 ∷ 104 ∷ digits.now)) ++ rest =
    sym (take-append-drop n bytes) ∙ (ap (λ x. x ++ drop n bytes) (sym e) ∙ (ap (λ x. size ++ x) (sym f ∙ mark) ∙ sym (append_assoc size (39 ∷ 104 ∷ digits.now) rest))) in
    let is_hex : All IsHexDigit digits.now =
    (λ k d h. hex_true _ (every_true is_hex_digit digits.now (ap (every is_hex_digit) hex ∙ front_every is_hex_digit (drop 2 behind)) k d h)) in
    let text : IsConstantText (size ++ (39 ∷ 104 ∷ digits.now)) bits (value_behind 16 0 digits.now) = record {
      size = size;
      digits = digits.now;
      split = refl;
      is_number = num;
      bits_are = sym value;
      in_range = (subst (λ x. 1 ≤ x) (sym value) stands.low, subst (λ x. x ≤ 128) (sym value) stands.high);
      some = subst (λ x. 0 < length x) (sym hex) stands.some;
      hex = is_hex;
      value_is = refl;
    } in (
      size ++ (39 ∷ 104 ∷ digits.now),
      rest,
      whole,
      omega (arith, length-append size (39 ∷ 104 ∷ digits.now), long),
      omega arith,
      text,
      constant_is_longest _ rest bits _ text (hex_end rest (front_ends is_hex_digit (drop 2 behind))),
      tt,
    )
