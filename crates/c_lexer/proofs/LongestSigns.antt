-- The first punctuator that stands at a place is the longest, as the longest are tried first.
use Rattle.std.proofs.Common.{◌≡◌, ℕ, ◌+◌, ◌<◌, ◌≤◌, ◌∙◌, sym, refl, ap, subst, Bool, true, false, cond, List, [], ◌∷◌, ◌++◌, length, take, drop, get_or, Option, Some, None, arith, inl, inr}
use Rattle.std.specs.Prelude.{find, bytes_eq, nat_le, nat_eq, ◌&&◌, ◌||◌, not}
use Rattle.std.specs.List.{starts_with}
use Rattle.std.proofs.lemmas.Bool.{both_ways, cases_Bool, and_parts, and_from, or_cases, or_left, or_right, not_from_false, not-true, leb-true}
use Rattle.std.proofs.lemmas.List.{take-append-drop, take_at, drop_more, drop_all}
use Rattle.std.proofs.lemmas.Slice.Eq.{bytes_eq-Decides}
use Rattle.c_token.specs.Spelling.{spelling}
use Rattle.c_token.specs.SourceText.{is_hash}
use Rattle.c_token.specs.declared.punct.Punct.{Punct}
use Rattle.c_token.specs.declared.punct.Punct.TheVariants as p
use Rattle.c_token.specs.declared.token.TokenKind.TheVariants as k
use Rattle.c_token.proofs.Signs.{all_signs, sign_of, sign_of-spelling}
use Rattle.c_lexer.specs.Signs.{stands, IsLongestSign}

abbrev all_short : ℕ → List Punct → Bool
all_short n [] = true
all_short n (x ∷ xs) = nat_le (length (spelling x)) n && all_short n xs

abbrev descending : List Punct → Bool
descending [] = true
descending (x ∷ xs) = all_short (length (spelling x)) xs && descending xs

all_signs-descending : descending all_signs ≡ true
unfolding spelling
all_signs-descending = refl

-- ---- what is found first
found_now : (f : Punct → Bool) (x : Punct) (xs : List Punct) → f x ≡ true → find f (x ∷ xs) ≡ Some x
found_now f x xs t = ap (λ b. cond b (Some x) (find f xs)) t

found_later : (f : Punct → Bool) (x : Punct) (xs : List Punct) → f x ≡ false → find f (x ∷ xs) ≡ find f xs
found_later f x xs t = ap (λ b. cond b (Some x) (find f xs)) t

found_holds : (f : Punct → Bool) (xs : List Punct) (q : Punct) → find f xs ≡ Some q → f q ≡ true
found_holds f [] q e = absurd cc
found_holds f (x ∷ xs) q e =
    elim (cases_Bool (f x)) [
      | inl t ↦ (let s : Some x ≡ Some q = sym (found_now f x xs t) ∙ e in let same : x ≡ q = cc in ap f (sym same) ∙ t)
      | inr t ↦ found_holds f xs q (sym (found_later f x xs t) ∙ e)
    ]

found_short : (g : Punct → Bool) (n : ℕ) (xs : List Punct) (r : Punct) → all_short n xs ≡ true → find g xs ≡ Some r → length (spelling r) ≤ n
found_short g n [] r a e = absurd cc
found_short g n (x ∷ xs) r a e =
    let parts = and_parts (nat_le (length (spelling x)) n) (all_short n xs) a in
    elim (cases_Bool (g x)) [
      | inl t ↦ (let s : Some x ≡ Some r = sym (found_now g x xs t) ∙ e in let same : x ≡ r = cc in
          subst (λ y. length (spelling y) ≤ n) same (leb-true _ _ parts.0))
      | inr t ↦ found_short g n xs r parts.1 (sym (found_later g x xs t) ∙ e)
    ]

found_longest : (f g : Punct → Bool) (xs : List Punct) (q r : Punct) → descending xs ≡ true → find f xs ≡ Some q → find g xs ≡ Some r → f r ≡ true → length (spelling r) ≤ length (spelling q)
found_longest f g [] q r d e h t = absurd cc
found_longest f g (x ∷ xs) q r d e h t =
    let parts = and_parts (all_short (length (spelling x)) xs) (descending xs) d in
    elim (cases_Bool (f x)) [
      | inl fx ↦ (let s : Some x ≡ Some q = sym (found_now f x xs fx) ∙ e in let same : x ≡ q = cc in
          elim (cases_Bool (g x)) [
            | inl gx ↦ (let u : Some x ≡ Some r = sym (found_now g x xs gx) ∙ h in let also : x ≡ r = cc in
                let lengths : length (spelling r) ≡ length (spelling q) = ap (λ y. length (spelling y)) (sym also ∙ same) in omega arith)
            | inr gx ↦ subst (λ y. length (spelling r) ≤ length (spelling y)) same
                (found_short g (length (spelling x)) xs r parts.0 (sym (found_later g x xs gx) ∙ h))
          ])
      | inr fx ↦ elim (cases_Bool (g x)) [
        | inl gx ↦ (let u : Some x ≡ Some r = sym (found_now g x xs gx) ∙ h in let also : x ≡ r = cc in
            absurd (both_ways _ fx (ap f also ∙ t)))
        | inr gx ↦ found_longest f g xs q r parts.1 (sym (found_later f x xs fx) ∙ e) (sym (found_later g x xs gx) ∙ h) t
      ]
    ]

found_none : (f g : Punct → Bool) (xs : List Punct) (r : Punct) → find f xs ≡ None → find g xs ≡ Some r → f r ≡ true → ⊥
found_none f g [] r e h t = absurd cc
found_none f g (x ∷ xs) r e h t =
    elim (cases_Bool (f x)) [
      | inl fx ↦ (let s : Some x ≡ None = sym (found_now f x xs fx) ∙ e in absurd cc)
      | inr fx ↦ elim (cases_Bool (g x)) [
        | inl gx ↦ (let u : Some x ≡ Some r = sym (found_now g x xs gx) ∙ h in let also : x ≡ r = cc in
            both_ways _ fx (ap f also ∙ t))
        | inr gx ↦ found_none f g xs r (sym (found_later f x xs fx) ∙ e) (sym (found_later g x xs gx) ∙ h) t
      ]
    ]

-- ---- what stands at a place
is_hash-true : (q : Punct) → is_hash (k.Punct q) ≡ true → q ≡ p.Hash
is_hash-true p.Hash e = refl
is_hash-true _ e = absurd cc

pub stands-spelled : (first : Bool) (bytes : List ℕ) (q : Punct) → stands first bytes q ≡ true → (bytes ≡ spelling q ++ drop (length (spelling q)) bytes) × (q ≡ p.Hash → first ≡ true)
stands-spelled first bytes q e =
    let parts = and_parts (starts_with nat_eq bytes (spelling q)) (first || not (is_hash (k.Punct q))) e in
    let same : spelling q ≡ take (length (spelling q)) bytes = (bytes_eq-Decides (spelling q) (take (length (spelling q)) bytes)).0 parts.0 in (
      sym (take-append-drop (length (spelling q)) bytes) ∙ ap (λ x. x ++ drop (length (spelling q)) bytes) (sym same),
      λ h. elim (or_cases first (not (is_hash (k.Punct q))) parts.1) [
        | inl t ↦ t
        | inr t ↦ absurd (both_ways (is_hash (k.Punct q)) (not-true _ t) (ap (λ x. is_hash (k.Punct x)) h))
      ],
    )

pub spelled-stands : (first : Bool) (bytes rest : List ℕ) (q : Punct) → bytes ≡ spelling q ++ rest → (q ≡ p.Hash → first ≡ true) → stands first bytes q ≡ true
spelled-stands first bytes rest q e h =
    and_from (starts_with nat_eq bytes (spelling q)) (first || not (is_hash (k.Punct q)))
    ((bytes_eq-Decides (spelling q) (take (length (spelling q)) bytes)).1
    (sym (take_at (spelling q) rest (length (spelling q)) refl) ∙ ap (λ x. take (length (spelling q)) x) (sym e)))
    (elim (cases_Bool (is_hash (k.Punct q))) [
      | inl t ↦ or_left first _ (h (is_hash-true q t))
      | inr t ↦ or_right first _ (not_from_false _ t)
    ])

pub longest_sign : (first : Bool) (bytes : List ℕ) (result : Option Punct) → find (stands first bytes) all_signs ≡ result → IsLongestSign first bytes result
longest_sign first bytes None e =
    λ text rest is sign.
    found_none (stands first bytes) (λ q. bytes_eq (spelling q) text) all_signs sign.0 e
    (ap sign_of sign.1 ∙ sign_of-spelling sign.0)
    (spelled-stands first bytes rest sign.0 (is ∙ ap (λ x. x ++ rest) sign.1) sign.2)
longest_sign first bytes (Some q) e =
    let here = stands-spelled first bytes q (found_holds (stands first bytes) all_signs q e) in (
      here.0,
      (q, refl, here.1),
      λ other rest is sign.
          let shorter : length (spelling sign.0) ≤ length (spelling q) =
          found_longest (stands first bytes) (λ r. bytes_eq (spelling r) other) all_signs q sign.0 all_signs-descending e
          (ap sign_of sign.1 ∙ sign_of-spelling sign.0)
          (spelled-stands first bytes rest sign.0 (is ∙ ap (λ x. x ++ rest) sign.1) sign.2) in
          subst (λ x. length x ≤ length (spelling q)) (sym sign.1) shorter,
    )

-- ---- the search for it
pub found_here : (f : Punct → Bool) (i : ℕ) (d : Punct) → i < length all_signs → find f (drop i all_signs) ≡ find f all_signs → f (get_or all_signs i d) ≡ true → find f all_signs ≡ Some (get_or all_signs i d)
found_here f i d below so_far t =
    sym so_far ∙ (ap (find f) (drop_more all_signs i d below) ∙ found_now f (get_or all_signs i d) (drop (i + 1) all_signs) t)

pub found_on : (f : Punct → Bool) (i : ℕ) (d : Punct) → i < length all_signs → find f (drop i all_signs) ≡ find f all_signs → f (get_or all_signs i d) ≡ false → find f (drop (i + 1) all_signs) ≡ find f all_signs
found_on f i d below so_far t =
    sym (found_later f (get_or all_signs i d) (drop (i + 1) all_signs) t) ∙ (sym (ap (find f) (drop_more all_signs i d below)) ∙ so_far)

pub found_end : (f : Punct → Bool) (i : ℕ) → length all_signs ≤ i → find f (drop i all_signs) ≡ find f all_signs → find f all_signs ≡ None
found_end f i past so_far = sym so_far ∙ ap (find f) (drop_all i all_signs past)
