-- The digits of numerals, their values, and where a numeral ends in a text.
use Rattle.std.proofs.Common.{◌≡◌, ℕ, zero, suc, ◌+◌, ◌*◌, ◌/◌, ◌%◌, ◌^◌, ◌<◌, ◌≤◌, Bool, true, false, ◌&&◌, ◌==◌, if◌then◌else◌, IsTrue, List, [], ◌∷◌, ◌++◌, length, take, sym, ap, ◌∙◌, subst, refl, inl, inr, append_assoc, arith}
use Rattle.std.specs.Fmt.{decimal}
use Rattle.std.specs.List.{list_all}
use Rattle.std.specs.Char.{digit_value}
use Rattle.std.specs.Str.Parse.{digits_value}
use Rattle.std.proofs.lemmas.Bool.Decides.{eqb_tells, nat_tests}
use Rattle.std.proofs.lemmas.Str.{digit_value_digit}
use Rattle.std.proofs.lemmas.Str.Parse.{digits_value-take-le}
use Rattle.std.proofs.lemmas.Int.Digits.{digits_value_push}
use Rattle.std.proofs.lemmas.Fmt.{decimal_by_steps}
use Rattle.std.proofs.Math.Seq.{take-append_seam}
use Rattle.aig_text.specs.GraphText.{last_digits, numeral}
use Rattle.aig_text.specs.Reading.{is_digit, Follows}

pub not_true : {A : Type 0} → IsTrue false → A
not_true h = let e : false ≡ true = h in absurd (cc)

pub true_false : {A : Type 0} (b : Bool) → b ≡ true → b ≡ false → A
true_false b h k = let t : true ≡ false = sym h ∙ k in absurd (cc)

pub and_left : (a b : Bool) → IsTrue (a && b) → IsTrue a
and_left true b h = refl
and_left false b h = not_true h

pub and_right : (a b : Bool) → IsTrue (a && b) → IsTrue b
and_right true b h = h
and_right false b h = not_true h

pub and_both : (a b : Bool) → IsTrue a → IsTrue b → IsTrue (a && b)
and_both true b h k = k
and_both false b h k = not_true h

-- ---- the digits of a number

if_true : {A : Type 0} (b : Bool) (x y : A) → b ≡ true → (if b then x else y) ≡ x
if_true true x y h = refl
if_true false x y h = absurd (cc)

if_false : {A : Type 0} (b : Bool) (x y : A) → b ≡ false → (if b then x else y) ≡ y
if_false true x y h = absurd (cc)
if_false false x y h = refl

-- more digits than enough change nothing
enough : (k j n : ℕ) → n < k → n < j → last_digits k n ≡ last_digits j n
enough zero j n h i = absurd (omega arith)
enough (suc k) zero n h i = absurd (omega arith)
enough (suc k) (suc j) n h i =
    elim (eqb_tells (n / 10) 0) [
      | inl s ↦ if_true (n / 10 == 0) ((48 + n) ∷ []) (last_digits k (n / 10) ++ ((48 + n % 10) ∷ [])) s.0
          ∙ sym (if_true (n / 10 == 0) ((48 + n) ∷ []) (last_digits j (n / 10) ++ ((48 + n % 10) ∷ [])) s.0)
      | inr m ↦
          let some : 0 < n / 10 = omega (arith, m.1) in
          let less : n / 10 < n = omega arith in
          if_false (n / 10 == 0) ((48 + n) ∷ []) (last_digits k (n / 10) ++ ((48 + n % 10) ∷ [])) m.0
          ∙ (ap (λ ds. ds ++ ((48 + n % 10) ∷ [])) (enough k j (n / 10) (omega arith) (omega arith))
          ∙ sym (if_false (n / 10 == 0) ((48 + n) ∷ []) (last_digits j (n / 10) ++ ((48 + n % 10) ∷ [])) m.0))
    ]

pub numeral_digit : (n : ℕ) → n < 10 → numeral n ≡ (48 + n) ∷ []
unfolding numeral
numeral_digit n h =
    elim (eqb_tells (n / 10) 0) [
      | inl s ↦ if_true (n / 10 == 0) ((48 + n) ∷ []) (last_digits n (n / 10) ++ ((48 + n % 10) ∷ [])) s.0
      | inr m ↦ absurd (m.1 (omega arith))
    ]

pub numeral_step : (n : ℕ) → 10 ≤ n → numeral n ≡ numeral (n / 10) ++ ((48 + n % 10) ∷ [])
unfolding numeral
numeral_step n h =
    elim (eqb_tells (n / 10) 0) [
      | inl s ↦ absurd (omega (arith, s.1))
      | inr m ↦
          if_false (n / 10 == 0) ((48 + n) ∷ []) (last_digits n (n / 10) ++ ((48 + n % 10) ∷ [])) m.0
          ∙ ap (λ ds. ds ++ ((48 + n % 10) ∷ [])) (enough n (suc (n / 10)) (n / 10) (omega arith) (omega arith))
    ]

module _ (P : ℕ → List ℕ → Type 0) (one : (n : ℕ) → n < 10 → P n ((48 + n) ∷ [])) (more : (n : ℕ) (ds : List ℕ) → 10 ≤ n → P (n / 10) ds → P n (ds ++ ((48 + n % 10) ∷ []))) where
  by : (k n : ℕ) → n < k → P n (numeral n)
  by zero n h = absurd (omega arith)
  by (suc k) n h =
      elim (eqb_tells (n / 10) 0) [
        | inl s ↦ let small : n < 10 = omega (arith, s.1) in subst (P n) (sym (numeral_digit n small)) (one n small)
        | inr m ↦ let large : 10 ≤ n = omega (arith, m.1) in subst (P n) (sym (numeral_step n large)) (more n (numeral (n / 10)) large (by k (n / 10) (omega arith)))
      ]

  -- induction on the digits: one digit, then one more digit at the end
  pub numeral_by_steps : (n : ℕ) → P n (numeral n)
  numeral_by_steps n = by (suc n) n (omega arith)

pub numeral_decimal : (n : ℕ) → n < 2 ^ 64 → numeral n ≡ decimal n
numeral_decimal n h =
    decimal_by_steps (λ m ds. numeral m ≡ ds) (λ m k. numeral_digit m k) (λ m ds k r. numeral_step m k ∙ ap (λ t. t ++ ((48 + m % 10) ∷ [])) r) n h

-- ---- their form and their value

pub digit_of : (n : ℕ) → n < 10 → IsTrue (is_digit (48 + n))
digit_of n h = grind (arith, nat_tests)

all_append : (ok : ℕ → Bool) (u v : List ℕ) → IsTrue (list_all ok u) → IsTrue (list_all ok v) → IsTrue (list_all ok (u ++ v))
all_append ok [] v a b = b
all_append ok (c ∷ u) v a b = and_both (ok c) (list_all ok (u ++ v)) (and_left (ok c) (list_all ok u) a) (all_append ok u v (and_right (ok c) (list_all ok u) a) b)

pub numeral_digits : (n : ℕ) → IsTrue (list_all is_digit (numeral n))
numeral_digits n =
    numeral_by_steps (λ m ds. IsTrue (list_all is_digit ds))
    (λ m k. and_both (is_digit (48 + m)) true (digit_of m k) refl)
    (λ m ds k r. all_append is_digit ds ((48 + m % 10) ∷ []) r (and_both (is_digit (48 + m % 10)) true (digit_of (m % 10) (omega arith)) refl))
    n

digit_value_of : (d : ℕ) → d < 10 → digit_value (48 + d) ≡ d
digit_value_of d h = let e = digit_value_digit (48 + d) (omega arith, omega arith) in omega (arith, e)

pub numeral_value : (n : ℕ) → digits_value 10 (numeral n) ≡ n
numeral_value n =
    numeral_by_steps (λ m ds. digits_value 10 ds ≡ m)
    (λ m k. let e = digits_value_push 10 [] (48 + m) in let v = digit_value_of m k in let z : digits_value 10 [] ≡ 0 = refl in omega (arith, e, v, z))
    (λ m ds k r.
    let e = digits_value_push 10 ds (48 + m % 10) in
    let v = digit_value_of (m % 10) (omega arith) in
    e ∙ (ap (λ x. x * 10 + digit_value (48 + m % 10)) r ∙ (ap (λ x. m / 10 * 10 + x) v ∙ (omega arith))))
    n

pub numeral_injective : (m n : ℕ) → numeral m ≡ numeral n → m ≡ n
numeral_injective m n e = sym (numeral_value m) ∙ (ap (digits_value 10) e ∙ numeral_value n)

pub numeral_some : (n : ℕ) → (c : ℕ) × (ds : List ℕ) × (numeral n ≡ c ∷ ds)
numeral_some n =
    numeral_by_steps (λ m ds. (c : ℕ) × (cs : List ℕ) × (ds ≡ c ∷ cs))
    (λ m k. (48 + m, [], refl))
    (λ m ds k r. (r.0, r.1 ++ ((48 + m % 10) ∷ []), ap (λ t. t ++ ((48 + m % 10) ∷ [])) r.2))
    n

numeral_leads : (n : ℕ) → 0 < n → (c : ℕ) × (ds : List ℕ) × (numeral n ≡ c ∷ ds) × (48 < c)
numeral_leads n =
    numeral_by_steps (λ m ds. 0 < m → (c : ℕ) × (cs : List ℕ) × (ds ≡ c ∷ cs) × (48 < c))
    (λ m k some. (48 + m, [], refl, omega arith))
    (λ m ds k r some. let s = r (omega arith) in (s.0, s.1 ++ ((48 + m % 10) ∷ []), ap (λ t. t ++ ((48 + m % 10) ∷ [])) s.2, s.3))
    n

-- a number whose first digit is 0 is 0
pub leading_zero : (y : ℕ) (z : List ℕ) → numeral y ≡ 48 ∷ z → y ≡ 0
leading_zero y z e =
    elim (eqb_tells y 0) [
      | inl s ↦ s.1
      | inr m ↦
          let s = numeral_leads y (omega (arith, m.1)) in
          let f : s.0 ∷ s.1 ≡ 48 ∷ z = sym s.2 ∙ e in
          let g : s.0 ≡ 48 = cc in
          absurd (omega (arith, g, s.3))
    ]

-- what begins with a number's digits is no less
pub prefix_least : (x : List ℕ) (y : ℕ) (z : List ℕ) → numeral y ≡ x ++ z → digits_value 10 x ≤ y
prefix_least x y z e =
    let t : take (length x) (numeral y) ≡ x = ap (take (length x)) e ∙ take-append_seam x z in
    let a : digits_value 10 (take (length x) (numeral y)) ≤ digits_value 10 (numeral y) = digits_value-take-le 10 (numeral y) (length x) (omega arith) in
    subst (λ m. digits_value 10 x ≤ m) (numeral_value y) (subst (λ u. digits_value 10 u ≤ digits_value 10 (numeral y)) t a)

pub value_push : (n d : ℕ) → d < 10 → digits_value 10 (numeral n ++ ((48 + d) ∷ [])) ≡ n * 10 + d
value_push n d k = digits_value_push 10 (numeral n) (48 + d) ∙ (ap (λ m. m * 10 + digit_value (48 + d)) (numeral_value n) ∙ ap (λ m. n * 10 + m) (digit_value_of d k))

-- one more digit behind a number other than 0
pub numeral_push : (n d : ℕ) → 0 < n → d < 10 → numeral (n * 10 + d) ≡ numeral n ++ ((48 + d) ∷ [])
numeral_push n d some k =
    let q : (n * 10 + d) / 10 ≡ n = omega arith in
    let r : (n * 10 + d) % 10 ≡ d = omega arith in
    numeral_step (n * 10 + d) (omega arith) ∙ (ap (λ x. numeral x ++ ((48 + (n * 10 + d) % 10) ∷ [])) q ∙ ap (λ x. numeral n ++ ((48 + x) ∷ [])) r)

-- ---- where a numeral ends

abbrev pub Stops : (ℕ → Bool) → List ℕ → Type 0
Stops ok s = (c : ℕ) (r : List ℕ) → s ≡ c ∷ r → IsTrue (ok c) → ⊥

pub follows_stops : (f : ℕ → Bool) (v : List ℕ) → Follows f v → Stops f v
follows_stops f [] h c r e k = cc
follows_stops f (d ∷ ds) h c r e k =
    let p : d ≡ c = cc in
    let q : false ≡ true = sym h ∙ (ap f p ∙ k) in
    cc

pub cut : (ok : ℕ → Bool) (u w s t : List ℕ) → IsTrue (list_all ok u) → IsTrue (list_all ok w) → Stops ok s → Stops ok t → u ++ s ≡ w ++ t → (u ≡ w) × (s ≡ t)
cut ok [] [] s t a b p q e = (refl, e)
cut ok [] (c ∷ w) s t a b p q e = absurd (p c (w ++ t) e (and_left (ok c) (list_all ok w) b))
cut ok (c ∷ u) [] s t a b p q e = absurd (q c (u ++ s) (sym e) (and_left (ok c) (list_all ok u) a))
cut ok (c ∷ u) (d ∷ w) s t a b p q e =
    let h : c ≡ d = cc in
    let f : u ++ s ≡ w ++ t = cc in
    let r = cut ok u w s t (and_right (ok c) (list_all ok u) a) (and_right (ok d) (list_all ok w) b) p q f in
    (ap (λ x. x ∷ u) h ∙ ap (λ x. d ∷ x) r.0, r.1)

-- where the digits of one text go further than the other's
pub cut_long : (ok : ℕ → Bool) (u x v t : List ℕ) → IsTrue (list_all ok u) → IsTrue (list_all ok x) → Stops ok v → u ++ v ≡ x ++ t → (z : List ℕ) × (u ≡ x ++ z) × (z ++ v ≡ t)
cut_long ok u [] v t a b s e = (u, refl, e)
cut_long ok [] (c ∷ x) v t a b s e = absurd (s c (x ++ t) e (and_left (ok c) (list_all ok x) b))
cut_long ok (d ∷ u) (c ∷ x) v t a b s e =
    let h : d ≡ c = cc in
    let f : u ++ v ≡ x ++ t = cc in
    let r = cut_long ok u x v t (and_right (ok d) (list_all ok u) a) (and_right (ok c) (list_all ok x) b) s f in
    (r.0, ap (λ y. y ∷ u) h ∙ ap (λ y. c ∷ y) r.1, r.2)

pub numeral_cut : (y n : ℕ) (s t : List ℕ) → Follows is_digit s → Follows is_digit t → numeral y ++ s ≡ numeral n ++ t → (y ≡ n) × (s ≡ t)
numeral_cut y n s t f g e =
    let r = cut is_digit (numeral y) (numeral n) s t (numeral_digits y) (numeral_digits n) (follows_stops is_digit s f) (follows_stops is_digit t g) e in
    (numeral_injective y n r.0, r.1)

-- the next digit is among those of a longer number
longer : (n y d : ℕ) (v w : List ℕ) → d < 10 → Follows is_digit v → numeral y ++ v ≡ numeral n ++ ((48 + d) ∷ w) → (z : List ℕ) × (numeral y ≡ numeral n ++ ((48 + d) ∷ z))
longer n y d v w l f e =
    let r = cut_long is_digit (numeral y) (numeral n) v ((48 + d) ∷ w) (numeral_digits y) (numeral_digits n) (follows_stops is_digit v f) e in
    elim r.0 as (λ z. numeral y ≡ numeral n ++ z → z ++ v ≡ (48 + d) ∷ w → (z : List ℕ) × (numeral y ≡ numeral n ++ ((48 + d) ∷ z))) [
      | [] ↦ λ p q. absurd (follows_stops is_digit v f (48 + d) w q (digit_of d l))
      | c ∷ cs ↦ λ p q. let g : c ≡ 48 + d = cc in (cs, p ∙ ap (λ x. numeral n ++ (x ∷ cs)) g)
    ] r.1 r.2

-- what goes on with a further digit is a greater number, and no digit stands behind 0
pub goes_longer : (n y d : ℕ) (v w : List ℕ) → d < 10 → Follows is_digit v → numeral y ++ v ≡ numeral n ++ ((48 + d) ∷ w) → (0 < n) × (n * 10 + d ≤ y)
goes_longer n y d v w k f e =
    let r = longer n y d v w k f e in
    elim (eqb_tells n 0) [
      | inl s ↦
          let g : numeral y ≡ 48 ∷ ((48 + d) ∷ r.0) = r.1 ∙ (ap (λ m. numeral m ++ ((48 + d) ∷ r.0)) s.1 ∙ ap (λ t. t ++ ((48 + d) ∷ r.0)) (numeral_digit 0 (omega arith))) in
          let z = leading_zero y ((48 + d) ∷ r.0) g in
          let b : 48 ∷ [] ≡ 48 ∷ ((48 + d) ∷ r.0) = sym (numeral_digit 0 (omega arith)) ∙ (ap numeral (sym z) ∙ g) in
          absurd (cc)
      | inr m ↦
          let p = prefix_least (numeral n ++ ((48 + d) ∷ [])) y r.0 (r.1 ∙ sym (append_assoc (numeral n) ((48 + d) ∷ []) r.0)) in
          (omega (arith, m.1), subst (λ m. m ≤ y) (value_push n d k) p)
    ]
