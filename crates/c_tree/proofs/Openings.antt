-- Neither white space nor a comment begins where a token stands.
use Rattle.std.proofs.Common.{◌≡◌, ℕ, ◌+◌, ◌<◌, ◌∙◌, sym, refl, ap, Bool, true, false, List, [], ◌∷◌, ◌++◌, length, take, get_or, arith, inl, inr}
use Rattle.std.specs.Prelude.{◌||◌, not, ◌==◌, slice_index, nat_eq}
use Rattle.std.specs.List.{starts_with}
use Rattle.std.proofs.lemmas.Bool.{both_ways, cond_both, cases_lt, eqb-true, not-true, or_cases}
use Rattle.std.proofs.lemmas.List.{get_or-take, get_or_append_left, get_or-append-add}
use Rattle.std.proofs.lemmas.Slice.Eq.{bytes_eq-Decides}
use Rattle.c_token.specs.Characters.{at_token, opening, is_blank, is_letter, is_digit, splice, splice_with_return}
use Rattle.c_token.specs.Spelling.{spelling}
use Rattle.c_token.specs.declared.punct.Punct.{Punct}
use Rattle.c_token.proofs.Signs.{spelling-long}
use Rattle.c_tree.specs.RowText.{is_closed}
use Rattle.c_tree.proofs.Longest.{every, goes_on_with, ends_sign, is_closed_byte, closed_first, Before}

-- a byte with which white space may begin
abbrev pub opens_gap : ℕ → Bool
opens_gap c = (c == 10) || (is_blank c || (c == 92))

abbrev pub opens_comment : ℕ → Bool
opens_comment c = (c == 47) || (c == 42)

begun : (bytes : List ℕ) (x : ℕ) (xs : List ℕ) → starts_with nat_eq bytes (x ∷ xs) ≡ true → slice_index bytes 0 ≡ x
begun bytes x xs e =
    sym (get_or-take (length (x ∷ xs)) bytes 0 0 (omega arith)) ∙ sym (ap (λ z. get_or z 0 0) ((bytes_eq-Decides (x ∷ xs) (take (length (x ∷ xs)) bytes)).0 e))

begun_second : (bytes : List ℕ) (x y : ℕ) → starts_with nat_eq bytes (x ∷ y ∷ []) ≡ true → slice_index bytes 1 ≡ y
begun_second bytes x y e =
    sym (get_or-take 2 bytes 1 0 (omega arith)) ∙ sym (ap (λ z. get_or z 1 0) ((bytes_eq-Decides (x ∷ y ∷ []) (take 2 bytes)).0 e))

pub opens_token : (bytes : List ℕ) → 0 < length bytes → opens_gap (slice_index bytes 0) ≡ false
    → (slice_index bytes 0 ≡ 47 → opens_comment (slice_index bytes 1) ≡ false) → opening bytes ≡ at_token
unfolding opening
opens_token bytes some plain comment =
    cond_both (length bytes == 0) _ _ (λ o. o ≡ at_token) (λ e. absurd (omega (arith, eqb-true (length bytes) 0 e))) (λ n0.
    cond_both (slice_index bytes 0 == 10) _ _ (λ o. o ≡ at_token) (λ e. absurd (grind (arith, plain, e))) (λ n1.
    cond_both (is_blank (slice_index bytes 0)) _ _ (λ o. o ≡ at_token) (λ e. absurd (grind (arith, plain, e))) (λ n2.
    cond_both (starts_with nat_eq bytes splice) _ _ (λ o. o ≡ at_token) (λ e. absurd (backslash (begun bytes 92 (10 ∷ []) e))) (λ n3.
    cond_both (starts_with nat_eq bytes splice_with_return) _ _ (λ o. o ≡ at_token) (λ e. absurd (backslash (begun bytes 92 (13 ∷ 10 ∷ []) e))) (λ n4.
    cond_both (starts_with nat_eq bytes (47 ∷ 47 ∷ [])) _ _ (λ o. o ≡ at_token) (λ e. absurd (slash 47 e refl)) (λ n5.
    cond_both (starts_with nat_eq bytes (47 ∷ 42 ∷ [])) _ _ (λ o. o ≡ at_token) (λ e. absurd (slash 42 e refl)) (λ n6. refl)))))))
  where
    backslash : slice_index bytes 0 ≡ 92 → ⊥
    backslash e = grind (arith, plain, e)

    slash : (y : ℕ) → starts_with nat_eq bytes (47 ∷ y ∷ []) ≡ true → opens_comment y ≡ true → ⊥
    slash y e c = both_ways (opens_comment y) (ap opens_comment (sym (begun_second bytes 47 y e)) ∙ comment (begun bytes 47 (y ∷ []) e)) c

-- ---- words and numbers

letter_opens : (c : ℕ) → is_letter c ≡ true → (opens_gap c ≡ false) × (c ≡ 47 → ⊥)
unfolding is_letter is_blank
letter_opens c e = (grind (arith, e), λ s. grind (arith, e, s))

digit_opens : (c : ℕ) → is_digit c ≡ true → (opens_gap c ≡ false) × (c ≡ 47 → ⊥)
unfolding is_digit is_blank
digit_opens c e = (grind (arith, e), λ s. grind (arith, e, s))

begins : (text rest : List ℕ) → 0 < length text → slice_index (text ++ rest) 0 ≡ slice_index text 0
begins text rest some = get_or_append_left text rest 0 0 some

longer-some : (text rest : List ℕ) → 0 < length text → 0 < length (text ++ rest)
longer-some [] rest some = absurd (omega arith)
longer-some (c ∷ cs) rest some = omega arith

pub opens_letter : (text rest : List ℕ) → 0 < length text → is_letter (slice_index text 0) ≡ true → opening (text ++ rest) ≡ at_token
opens_letter text rest some e =
    let c = letter_opens (slice_index (text ++ rest) 0) (ap is_letter (begins text rest some) ∙ e) in
    opens_token (text ++ rest) (longer-some text rest some) c.0 (λ s. absurd (c.1 s))

pub opens_digit : (text rest : List ℕ) → 0 < length text → is_digit (slice_index text 0) ≡ true → opening (text ++ rest) ≡ at_token
opens_digit text rest some e =
    let c = digit_opens (slice_index (text ++ rest) 0) (ap is_digit (begins text rest some) ∙ e) in
    opens_token (text ++ rest) (longer-some text rest some) c.0 (λ s. absurd (c.1 s))

-- ---- punctuators

sign_opens : (q : Punct) → opens_gap (slice_index (spelling q) 0) ≡ false
unfolding spelling is_blank
sign_opens q = not-true _ (every (λ q. not (opens_gap (slice_index (spelling q) 0))) refl q)

second_opens : (q : Punct) → opens_comment (slice_index (spelling q) 1) ≡ false
unfolding spelling
second_opens q = not-true _ (every (λ q. not (opens_comment (slice_index (spelling q) 1))) refl q)

closed_no_slash : (c : ℕ) → is_closed_byte c ≡ true → c ≡ 47 → ⊥
closed_no_slash c e s = grind (arith, e, s)

plain_no_comment : (b : ℕ) → goes_on_with b ≡ false → opens_comment b ≡ false
plain_no_comment b e = grind (arith, e)

follows_opens : (q : Punct) (rest : List ℕ) → slice_index (spelling q) 0 ≡ 47 → Before (ends_sign q) rest → opens_comment (slice_index rest 0) ≡ false
follows_opens q [] s h = refl
follows_opens q (b ∷ bs) s h = elim (or_cases (is_closed q) (not (goes_on_with b)) h) [
  | inl closed ↦ absurd (closed_no_slash (slice_index (spelling q) 0) (closed_first q closed) s)
  | inr stops ↦ plain_no_comment b (not-true (goes_on_with b) stops)
]

pub opens_sign : (q : Punct) (rest : List ℕ) → Before (ends_sign q) rest → opening (spelling q ++ rest) ≡ at_token
opens_sign q rest h =
    let first : slice_index (spelling q ++ rest) 0 ≡ slice_index (spelling q) 0 = begins (spelling q) rest (spelling-long q) in
    opens_token (spelling q ++ rest) (longer-some (spelling q) rest (spelling-long q)) (ap opens_gap first ∙ sign_opens q) (λ s. elim (cases_lt 1 (length (spelling q))) [
      | inl long ↦ ap opens_comment (get_or_append_left (spelling q) rest 0 1 long) ∙ second_opens q
      | inr short ↦
          let one : length (spelling q) ≡ 1 = omega (arith, spelling-long q) in
          let second : slice_index (spelling q ++ rest) 1 ≡ slice_index rest 0 =
          ap (λ n. slice_index (spelling q ++ rest) n) (let e : 1 ≡ length (spelling q) + 0 = omega arith in e) ∙ get_or-append-add (spelling q) rest 0 0 in
          ap opens_comment second ∙ follows_opens q rest (sym first ∙ s) h
    ])
