-- Elements of arrays, by the addresses at which they stand.
use Rattle.std.proofs.Common.{◌≡◌, ◌≢◌, ℕ, zero, suc, ◌+◌, ◌<◌, ◌≤◌, inl, inr, Bool, true, false, List, [], ◌∷◌, map, length, get_or, Some, None, refl, sym, ap, ap₂, ◌∙◌, subst, arith}
use Rattle.std.specs.Prelude.{slice_get, slice_set, position, ◌==◌}
use Rattle.std.specs.List.{position_from}
use Rattle.std.proofs.lemmas.Bool.{cases_Bool, eq-eqb, eqb-true, ne_eqb, cond-true, cond-false}
use Rattle.std.proofs.lemmas.Iterator.Adapters.{position_from-zero}
use Rattle.ir_core.specs.AddressWords.{AreRising}
use Rattle.ir_core.proofs.Rising.{rising-bound}
use Rattle.ir_core.specs.Bodies.{with_word}
use Rattle.ir_core.specs.FirstContents.{given_at}
use Rattle.clock_runs.proofs.Lists.{some_same, no_some, some_no}
use Rattle.circuit_agreement.proofs.CircuitStores.Lists.{Has, map_same}

-- ---- positions

pub record FoundAt {A : Type 0} (test : A → Bool) (i : ℕ) (xs : List A) (k : ℕ) : Type 0 where
  pub place : ℕ
  pub is : k ≡ i + place
  pub one : A
  pub there : slice_get xs place ≡ Some one
  pub passes : test one ≡ true

found_from : {A : Type 0} (test : A → Bool) (i : ℕ) (xs : List A) (k : ℕ) → position_from test i xs ≡ Some k → FoundAt test i xs k
found_from test i [] k e = absurd (no_some e)
found_from test i (x ∷ xs) k e =
    elim (cases_Bool (test x)) [
      | inl yes_ ↦
          record { place = 0; is = some_same (sym e ∙ cond-true _ _ _ yes_) ∙ (let z : i ≡ i + 0 = omega arith in z); one = x; there = refl; passes = yes_ }
      | inr no_ ↦
          let r = found_from test (i + 1) xs k (sym (cond-false _ _ _ no_) ∙ e) in
          record { place = suc r.place; is = r.is ∙ (let z : i + 1 + r.place ≡ i + suc r.place = omega arith in z); one = r.one; there = r.there; passes = r.passes }
    ]

none_from : {A : Type 0} (test : A → Bool) (i : ℕ) (xs : List A) → position_from test i xs ≡ None → (j : ℕ) (x : A) → slice_get xs j ≡ Some x → test x ≡ false
none_from test i [] e j x at_ = absurd (no_some at_)
none_from test i (y ∷ xs) e j x at_ =
    elim (cases_Bool (test y)) [
      | inl yes_ ↦ absurd (some_no (sym (cond-true _ _ _ yes_) ∙ e))
      | inr no_ ↦ later j at_ no_ (none_from test (i + 1) xs (sym (cond-false _ _ _ no_) ∙ e))
    ]
  where
    later : (j : ℕ) → slice_get (y ∷ xs) j ≡ Some x → test y ≡ false → ((l : ℕ) (z : _) → slice_get xs l ≡ Some z → test z ≡ false) → test x ≡ false
    later zero at_ none rest = ap test (sym (some_same at_)) ∙ none
    later (suc l) at_ none rest = rest l x at_

pub position_found : (places : List ℕ) (address k : ℕ) → position (λ a. a == address) places ≡ Some k → slice_get places k ≡ Some address
position_found places address k e =
    let r : FoundAt (λ (a : ℕ). a == address) 0 places k = found_from (λ (a : ℕ). a == address) 0 places k (sym (position_from-zero (λ (a : ℕ). a == address) places) ∙ e) in
    ap (slice_get places) (r.is ∙ (let z : 0 + r.place ≡ r.place = omega arith in z)) ∙ (r.there ∙ ap (λ (q : ℕ). Some q) (eqb-true r.one address r.passes))

pub position_none : (places : List ℕ) (address : ℕ) → position (λ a. a == address) places ≡ None → Has places address → ⊥
position_none places address e h =
    let off = none_from (λ (a : ℕ). a == address) 0 places (sym (position_from-zero (λ (a : ℕ). a == address) places) ∙ e) h.place address h.there in
    (let clash : false ≡ true = sym off ∙ eq-eqb address address refl in absurd (cc))

-- ---- rising lists

pub rising_within : (lo hi : ℕ) (xs : List ℕ) (j x : ℕ) → AreRising lo xs hi → slice_get xs j ≡ Some x → (lo ≤ x) × (x < hi)
rising_within lo hi [] j x r e = absurd (no_some e)
rising_within lo hi (y ∷ xs) zero x r e =
    let same : y ≡ x = some_same e in
    let last = rising-bound (suc y) hi xs r.1 in
    let first = r.0 in
    (omega (arith, first, same), omega (arith, last, same))
rising_within lo hi (y ∷ xs) (suc j) x r e =
    let rest = rising_within (suc y) hi xs j x r.1 e in
    let first = r.0 in
    (omega (arith, first, rest.0), rest.1)

pub rising_once : (lo hi : ℕ) (xs : List ℕ) (j l x : ℕ) → AreRising lo xs hi → slice_get xs j ≡ Some x → slice_get xs l ≡ Some x → j ≡ l
rising_once lo hi [] j l x r e g = absurd (no_some e)
rising_once lo hi (y ∷ xs) zero zero x r e g = refl
rising_once lo hi (y ∷ xs) zero (suc l) x r e g =
    let same : y ≡ x = some_same e in
    let above = (rising_within (suc y) hi xs l x r.1 g).0 in
    absurd (omega (arith, same, above))
rising_once lo hi (y ∷ xs) (suc j) zero x r e g =
    let same : y ≡ x = some_same g in
    let above = (rising_within (suc y) hi xs j x r.1 e).0 in
    absurd (omega (arith, same, above))
rising_once lo hi (y ∷ xs) (suc j) (suc l) x r e g = ap suc (rising_once (suc y) hi xs j l x r.1 e g)

-- ---- a word changed

with_same : (words : ℕ → ℕ) (address w : ℕ) → with_word words address w address ≡ w
with_same words address w = cond-true _ _ _ (eq-eqb address address refl)

with_other : (words : ℕ → ℕ) (address w q : ℕ) → address ≢ q → with_word words address w q ≡ words q
with_other words address w q h = cond-false _ _ _ (ne_eqb address q h)

-- no element stands at the address
pub elements_without : (places : List ℕ) (words : ℕ → ℕ) (address w : ℕ) → (Has places address → ⊥) → map (with_word words address w) places ≡ map words places
elements_without places words address w none =
    map_same (with_word words address w) words places (λ q h. with_other words address w q (λ e. none (subst (λ z. Has places z) (sym e) h)))

-- one element stands there
pub elements_with : (places : List ℕ) (words : ℕ → ℕ) (address w j : ℕ) → slice_get places j ≡ Some address → ((l : ℕ) → slice_get places l ≡ Some address → l ≡ j)
    → map (with_word words address w) places ≡ slice_set (map words places) j w
elements_with [] words address w j e once = absurd (no_some e)
elements_with (x ∷ xs) words address w zero e once =
    let same : x ≡ address = some_same e in
    ap₂ (λ (y : ℕ) (ys : List ℕ). y ∷ ys) (ap (with_word words address w) same ∙ with_same words address w)
    (elements_without xs words address w (λ h. let z : suc h.place ≡ 0 = once (suc h.place) h.there in absurd (cc)))
elements_with (x ∷ xs) words address w (suc j) e once =
    ap₂ (λ (y : ℕ) (ys : List ℕ). y ∷ ys) (with_other words address w x (λ g. let z : 0 ≡ suc j = once 0 (ap (λ (q : ℕ). Some q) (sym g)) in absurd (cc)))
    (elements_with xs words address w j e (λ l g. let z : suc l ≡ suc j = once (suc l) g in omega (arith, z)))

-- ---- first elements

pub given_elements : (lo hi : ℕ) (places first : List ℕ) → AreRising lo places hi → length first ≡ length places → map (λ address. given_at places first address 0) places ≡ first
given_elements lo hi [] [] r e = refl
given_elements lo hi [] (y ∷ ys) r e = absurd (cc)
given_elements lo hi (x ∷ xs) [] r e = absurd (cc)
given_elements lo hi (x ∷ xs) (y ∷ ys) r e =
    ap₂ (λ (z : ℕ) (zs : List ℕ). z ∷ zs) (cond-true _ _ _ (eq-eqb x x refl))
    (map_same (λ (address : ℕ). given_at (x ∷ xs) (y ∷ ys) address 0) (λ (address : ℕ). given_at xs ys address 0) xs (λ q h.
    let above = (rising_within (suc x) hi xs h.place q r.1 h.there).0 in
    cond-false _ _ _ (ne_eqb x q (λ g. omega (arith, g, above))))
    ∙ given_elements (suc x) hi xs ys r.1 (omega (arith, e)))

-- ---- a list changed at a place

pub set_same : {A : Type 0} (xs : List A) (a : ℕ) (v d : A) → a < length xs → get_or (slice_set xs a v) a d ≡ v
set_same [] a v d h = absurd (omega (arith, h))
set_same (x ∷ xs) zero v d h = refl
set_same (x ∷ xs) (suc a) v d h = set_same xs a v d (omega (arith, h))

pub set_other : {A : Type 0} (xs : List A) (a b : ℕ) (v d : A) → a ≢ b → get_or (slice_set xs a v) b d ≡ get_or xs b d
set_other [] a b v d h = refl
set_other (x ∷ xs) zero zero v d h = absurd (h refl)
set_other (x ∷ xs) zero (suc b) v d h = refl
set_other (x ∷ xs) (suc a) zero v d h = refl
set_other (x ∷ xs) (suc a) (suc b) v d h = set_other xs a b v d (λ e. h (ap suc e))

pub get_within : {A : Type 0} (xs : List A) (k : ℕ) (d x : A) → slice_get xs k ≡ Some x → get_or xs k d ≡ x
get_within [] k d x e = absurd (no_some e)
get_within (y ∷ xs) zero d x e = some_same e
get_within (y ∷ xs) (suc k) d x e = get_within xs k d x e

pub mapped_get : {A B : Type 0} (f : A → B) (xs : List A) (k : ℕ) (x : A) → slice_get xs k ≡ Some x → slice_get (map f xs) k ≡ Some (f x)
mapped_get f [] k x e = absurd (no_some e)
mapped_get f (y ∷ xs) zero x e = ap (λ z. Some (f z)) (some_same e)
mapped_get f (y ∷ xs) (suc k) x e = mapped_get f xs k x e
