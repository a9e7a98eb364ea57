-- A token is the longest that begins at its place, by the byte behind it.
use Rattle.std.proofs.Common.{◌≡◌, ℕ, ◌<◌, ◌∙◌, sym, refl, ap, subst, Bool, true, false, List, [], ◌∷◌, ◌++◌, length, drop, Some, arith, inl, inr, length-append}
use Rattle.std.specs.Prelude.{◌&&◌, ◌||◌, not, ◌==◌, find, bytes_eq, slice_index}
use Rattle.std.specs.List.{list_all}
use Rattle.std.proofs.Math.Seq.{get_or-append_seam}
use Rattle.std.proofs.lemmas.Bool.{both_ways, and_parts, cond_both, cases_lt, eqb-true, not-true, or_cases}
use Rattle.std.proofs.lemmas.List.{get_or_append_left}
use Rattle.c_token.specs.Characters.{is_letter, is_digit, is_word_byte}
use Rattle.c_token.specs.Longest.{IsLongest}
use Rattle.c_token.specs.Spelling.{IsWord, IsNumber, IsToken, in_word, in_number, spelling}
use Rattle.c_token.specs.declared.punct.Punct.{Punct}
use Rattle.c_token.specs.declared.punct.Punct.TheVariants as p
use Rattle.c_token.proofs.Signs.{all_signs, sign_of-spelling, sign_no_letter, sign_no_digit, spelling-long}
use Rattle.c_token.proofs.Unique.{letter_no_digit, word-letter, number-digit}
use Rattle.c_tree.specs.RowText.{is_closed}

-- ---- texts that go on

-- a front that is longer than another
pub longer : (text rest other after : List ℕ) → text ++ rest ≡ other ++ after → length text < length other
    → (m : ℕ) × (ms : List ℕ) × (other ≡ text ++ m ∷ ms) × (rest ≡ m ∷ (ms ++ after))
longer [] rest [] after e lt = absurd (omega arith)
longer [] rest (m ∷ ms) after e lt = (m, ms, refl, e)
longer (x ∷ xs) rest [] after e lt = absurd (omega arith)
longer (x ∷ xs) rest (y ∷ ys) after e lt =
    let head : y ≡ x = cc in
    let tail : xs ++ rest ≡ ys ++ after = cc in
    let r = longer xs rest ys after tail (omega arith) in
    (r.0, r.1, ap (λ zs. y ∷ zs) r.2 ∙ ap (λ z. z ∷ (xs ++ r.0 ∷ r.1)) head, r.3)

-- the longest, if no token goes on with what follows
no_longer : (P : List ℕ → Type 0) (text rest : List ℕ) → P text
    → ((m : ℕ) (ms after : List ℕ) → rest ≡ m ∷ (ms ++ after) → P (text ++ m ∷ ms) → ⊥) → IsLongest P (text ++ rest) text rest
no_longer P text rest is stops = (
  refl,
  is,
  λ other after e t. elim (cases_lt (length text) (length other)) [
    | inl lt ↦ let r = longer text rest other after e lt in absurd (stops r.0 r.1 after r.3 (subst P r.2 t))
    | inr le ↦ le
  ],
)

first_stays : (text : List ℕ) (m : ℕ) (ms : List ℕ) → 0 < length text → slice_index (text ++ m ∷ ms) 0 ≡ slice_index text 0
first_stays text m ms some = get_or_append_left text (m ∷ ms) 0 0 some

-- ---- what holds of every punctuator

found_passes : (f test : Punct → Bool) (qs : List Punct) (q : Punct) → find f qs ≡ Some q → list_all test qs ≡ true → test q ≡ true
found_passes f test [] q e all = absurd cc
found_passes f test (r ∷ rs) q e all =
    cond_both (f r) (Some r) (find f rs) (λ x. x ≡ Some q → test q ≡ true)
    (λ yes same. let is : r ≡ q = cc in subst (λ x. test x ≡ true) is (and_parts (test r) (list_all test rs) all).0)
    (λ not_here found. found_passes f test rs q found (and_parts (test r) (list_all test rs) all).1)
    e

pub every : (test : Punct → Bool) → list_all test all_signs ≡ true → (q : Punct) → test q ≡ true
every test all q = found_passes (λ r. bytes_eq (spelling r) (spelling q)) test all_signs q (sign_of-spelling q) all

pub implied : (a b : Bool) → (not a || b) ≡ true → a ≡ true → b ≡ true
implied true b e h = e
implied false b e h = absurd cc

-- the bytes that stand in a punctuator behind its first, and the two that begin a comment behind a slash
abbrev pub goes_on_with : ℕ → Bool
goes_on_with b =
    (b == 46) || ((b == 62) || ((b == 43) || ((b == 45) || ((b == 60) || ((b == 61) || ((b == 38) || ((b == 124) || ((b == 35) || ((b == 47) || (b == 42))))))))))

abbrev pub is_closed_byte : ℕ → Bool
is_closed_byte b =
    (b == 40) || ((b == 41) || ((b == 91) || ((b == 93) || ((b == 123) || ((b == 125) || ((b == 59) || ((b == 44) || ((b == 58) || ((b == 63) || (b == 126))))))))))

pub goes_on : (q : Punct) → list_all goes_on_with (drop 1 (spelling q)) ≡ true
unfolding spelling
goes_on = every (λ q. list_all goes_on_with (drop 1 (spelling q))) refl

pub closed_first : (q : Punct) → is_closed q ≡ true → is_closed_byte (slice_index (spelling q) 0) ≡ true
unfolding spelling
closed_first q = implied (is_closed q) _ (every (λ q. not (is_closed q) || is_closed_byte (slice_index (spelling q) 0)) refl q)

closed_alone : (q : Punct) → is_closed_byte (slice_index (spelling q) 0) ≡ true → length (spelling q) ≡ 1
unfolding spelling
closed_alone q e = eqb-true (length (spelling q)) 1
    (implied (is_closed_byte (slice_index (spelling q) 0)) _ (every (λ q. not (is_closed_byte (slice_index (spelling q) 0)) || (length (spelling q) == 1)) refl q) e)

-- ---- what may follow a word, a number and a punctuator

abbrev pub ends_word : ℕ → Bool
ends_word b = not (is_word_byte b)

abbrev pub ends_number : ℕ → Bool
ends_number b = not (is_word_byte b) && (not (b == 46) && (not (b == 43) && not (b == 45)))

abbrev pub ends_sign : Punct → ℕ → Bool
ends_sign punct b = is_closed punct || not (goes_on_with b)

-- nothing follows, or a byte that passes
abbrev pub Before : (ℕ → Bool) → List ℕ → Type 0
Before test [] = Unit {0}
Before test (b ∷ bs) = test b ≡ true

before-head : (test : ℕ → Bool) (rest : List ℕ) (m : ℕ) (ms : List ℕ) → Before test rest → rest ≡ m ∷ ms → test m ≡ true
before-head test rest m ms h e = subst (Before test) e h

-- ---- the longest token

word_goes_on : (text : List ℕ) (m : ℕ) (ms : List ℕ) → 0 < length text → IsWord (text ++ m ∷ ms) → is_word_byte m ≡ true
unfolding in_word
word_goes_on text m ms some w =
    let at = w.1 (length text) (omega (arith, length-append text (m ∷ ms))) in
    let is : slice_index (text ++ m ∷ ms) (length text) ≡ m = get_or-append_seam text m ms 0 in
    grind (arith, is, at)

number_goes_on : (text : List ℕ) (m : ℕ) (ms : List ℕ) → 0 < length text → IsNumber (text ++ m ∷ ms) → ends_number m ≡ true → ⊥
unfolding in_number
number_goes_on text m ms some n ends =
    let at = n.1 (length text) (omega (arith, length-append text (m ∷ ms))) in
    let is : slice_index (text ++ m ∷ ms) (length text) ≡ m = get_or-append_seam text m ms 0 in
    grind (arith, is, at, ends)

pub word_longest : (first : Bool) (text rest : List ℕ) → IsWord text → Before ends_word rest → IsLongest (IsToken first) (text ++ rest) text rest
word_longest first text rest w h = no_longer (IsToken first) text rest (inl w) (λ m ms after e t. stops m ms (before-head ends_word rest m (ms ++ after) h e) t)
  where
    letter : (m : ℕ) (ms : List ℕ) → is_letter (slice_index (text ++ m ∷ ms) 0) ≡ true
    letter m ms = ap is_letter (first_stays text m ms w.0) ∙ word-letter text w

    stops : (m : ℕ) (ms : List ℕ) → ends_word m ≡ true → IsToken first (text ++ m ∷ ms) → ⊥
    stops m ms ends (inl longer_word) = both_ways (is_word_byte m) (not-true (is_word_byte m) ends) (word_goes_on text m ms w.0 longer_word)
    stops m ms ends (inr (inl n)) = letter_no_digit (slice_index (text ++ m ∷ ms) 0) (letter m ms) (number-digit (text ++ m ∷ ms) n)
    stops m ms ends (inr (inr (q, is, hash))) =
        both_ways (is_letter (slice_index (text ++ m ∷ ms) 0)) (ap (λ x. is_letter (slice_index x 0)) is ∙ sign_no_letter q) (letter m ms)

pub number_longest : (first : Bool) (text rest : List ℕ) → IsNumber text → Before ends_number rest → IsLongest (IsToken first) (text ++ rest) text rest
number_longest first text rest n h = no_longer (IsToken first) text rest (inr (inl n)) (λ m ms after e t. stops m ms (before-head ends_number rest m (ms ++ after) h e) t)
  where
    digit : (m : ℕ) (ms : List ℕ) → is_digit (slice_index (text ++ m ∷ ms) 0) ≡ true
    digit m ms = ap is_digit (first_stays text m ms n.0) ∙ number-digit text n

    stops : (m : ℕ) (ms : List ℕ) → ends_number m ≡ true → IsToken first (text ++ m ∷ ms) → ⊥
    stops m ms ends (inl w) = letter_no_digit (slice_index (text ++ m ∷ ms) 0) (word-letter (text ++ m ∷ ms) w) (digit m ms)
    stops m ms ends (inr (inl longer_number)) = number_goes_on text m ms n.0 longer_number ends
    stops m ms ends (inr (inr (q, is, hash))) =
        both_ways (is_digit (slice_index (text ++ m ∷ ms) 0)) (ap (λ x. is_digit (slice_index x 0)) is ∙ sign_no_digit q) (digit m ms)

-- a byte behind the first of a text that passes
middle_passes : (test : ℕ → Bool) (text : List ℕ) (m : ℕ) (ms : List ℕ) → list_all test (text ++ m ∷ ms) ≡ true → test m ≡ true
middle_passes test [] m ms all = (and_parts (test m) (list_all test ms) all).0
middle_passes test (x ∷ xs) m ms all = middle_passes test xs m ms (and_parts (test x) (list_all test (xs ++ m ∷ ms)) all).1

behind_passes : (test : ℕ → Bool) (text : List ℕ) (m : ℕ) (ms : List ℕ) → 0 < length text → list_all test (drop 1 (text ++ m ∷ ms)) ≡ true → test m ≡ true
behind_passes test [] m ms some all = absurd (omega arith)
behind_passes test (x ∷ xs) m ms some all = middle_passes test xs m ms all

sign_goes_on : (s q : Punct) (m : ℕ) (ms : List ℕ) → spelling s ++ m ∷ ms ≡ spelling q → ends_sign s m ≡ true → ⊥
sign_goes_on s q m ms e ends = elim (or_cases (is_closed s) (not (goes_on_with m)) ends) [
  | inl closed ↦
      let same : slice_index (spelling s) 0 ≡ slice_index (spelling q) 0 = sym (first_stays (spelling s) m ms (spelling-long s)) ∙ ap (λ x. slice_index x 0) e in
      let alone : length (spelling q) ≡ 1 = closed_alone q (ap is_closed_byte (sym same) ∙ closed_first s closed) in
      omega (arith, spelling-long s, length-append (spelling s) (m ∷ ms), ap length e)
  | inr stops ↦
      both_ways (goes_on_with m) (not-true (goes_on_with m) stops)
      (behind_passes goes_on_with (spelling s) m ms (spelling-long s) (ap (λ x. list_all goes_on_with (drop 1 x)) e ∙ goes_on q))
]

pub sign_longest : (first : Bool) (s : Punct) (rest : List ℕ) → (s ≡ p.Hash → first ≡ true) → Before (ends_sign s) rest
    → IsLongest (IsToken first) (spelling s ++ rest) (spelling s) rest
sign_longest first s rest hash h = no_longer (IsToken first) (spelling s) rest (inr (inr (s, refl, hash))) (λ m ms after e t. stops m ms (before-head (ends_sign s) rest m (ms ++ after) h e) t)
  where
    begins : (m : ℕ) (ms : List ℕ) → slice_index (spelling s ++ m ∷ ms) 0 ≡ slice_index (spelling s) 0
    begins m ms = first_stays (spelling s) m ms (spelling-long s)

    stops : (m : ℕ) (ms : List ℕ) → ends_sign s m ≡ true → IsToken first (spelling s ++ m ∷ ms) → ⊥
    stops m ms ends (inl w) = both_ways (is_letter (slice_index (spelling s) 0)) (sign_no_letter s) (ap is_letter (sym (begins m ms)) ∙ word-letter (spelling s ++ m ∷ ms) w)
    stops m ms ends (inr (inl n)) = both_ways (is_digit (slice_index (spelling s) 0)) (sign_no_digit s) (ap is_digit (sym (begins m ms)) ∙ number-digit (spelling s ++ m ∷ ms) n)
    stops m ms ends (inr (inr (q, is, other_hash))) = sign_goes_on s q m ms is ends
