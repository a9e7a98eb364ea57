-- Members of lists, and what is wanted of them.
use Rattle.std.proofs.Common.{◌≡◌, ℕ, zero, suc, ◌+◌, ◌<◌, Bool, true, false, cond, List, [], ◌∷◌, ◌++◌, map, take, ◌⊎◌, Some, refl, sym, ap, ◌∙◌, subst, inl, inr, arith}
use Rattle.std.specs.Prelude.{slice_get, get_or, filter, flat_map, count_by}
use Rattle.std.specs.List.{list_any, enumerate_from}
use Rattle.std.proofs.lemmas.Bool.{cases_Bool, cond-true, cond-false, or_from, or_left, or_right}
use Rattle.std.proofs.lemmas.List.Sums.{sum_by-cons}
use Rattle.clock_runs.proofs.Lists.{no_some, some_same}
use Rattle.rtl_logic.specs.Choosing.{Write, is_any_wanted, AllWant}

-- ---- members

pub record In {A : Type 0} (xs : List A) (a : A) : Type 0 where
  pub place : ℕ
  pub stands : slice_get xs place ≡ Some a

pub in_front : {A : Type 0} (xs ys : List A) (n : ℕ) (a : A) → slice_get xs n ≡ Some a → In (xs ++ ys) a
in_front [] ys n a e = absurd (no_some e)
in_front (x ∷ xs) ys zero a e = record { place = 0; stands = e }
in_front (x ∷ xs) ys (suc n) a e = let r = in_front xs ys n a e in record { place = suc r.place; stands = r.stands }

pub in_back : {A : Type 0} (xs ys : List A) (a : A) → In ys a → In (xs ++ ys) a
in_back [] ys a h = h
in_back (x ∷ xs) ys a h = let r = in_back xs ys a h in record { place = suc r.place; stands = r.stands }

pub from_both : {A : Type 0} (xs ys : List A) (n : ℕ) (a : A) → slice_get (xs ++ ys) n ≡ Some a → In xs a ⊎ In ys a
from_both [] ys n a e = inr (record { place = n; stands = e })
from_both (x ∷ xs) ys zero a e = inl (record { place = 0; stands = e })
from_both (x ∷ xs) ys (suc n) a e =
    elim (from_both xs ys n a e) [
      | inl l ↦ inl (record { place = suc l.place; stands = l.stands })
      | inr r ↦ inr r
    ]

pub in_filter : {A : Type 0} (test : A → Bool) (xs : List A) (n : ℕ) (a : A) → slice_get xs n ≡ Some a → test a ≡ true → In (filter test xs) a
in_filter test [] n a e passes = absurd (no_some e)
in_filter {A} test (b ∷ xs) zero a e passes =
    let kept : filter test (b ∷ xs) ≡ b ∷ filter test xs = cond-true _ _ _ (ap test (some_same e) ∙ passes) in
    record { place = 0; stands = ap (λ (l : List A). slice_get l 0) kept ∙ e }
in_filter {A} test (b ∷ xs) (suc n) a e passes = on (test b) (in_filter test xs n a e passes)
  where
    on : (v : Bool) → In (filter test xs) a → In (cond v (b ∷ filter test xs) (filter test xs)) a
    on true r = record { place = suc r.place; stands = r.stands }
    on false r = r

pub record Passes {A : Type 0} (test : A → Bool) (xs : List A) (a : A) : Type 0 where
  pub place : ℕ
  pub stands : slice_get xs place ≡ Some a
  pub passes : test a ≡ true

pub from_filter : {A : Type 0} (test : A → Bool) (xs : List A) (n : ℕ) (a : A) → slice_get (filter test xs) n ≡ Some a → Passes test xs a
from_filter test [] n a e = absurd (no_some e)
from_filter {A} test (b ∷ xs) n a e =
    elim (cases_Bool (test b)) [
      | inl yes_ ↦ first yes_ n (sym (ap (λ (l : List A). slice_get l n) (cond-true _ (b ∷ filter test xs) (filter test xs) yes_)) ∙ e) (λ m h. from_filter test xs m a h)
      | inr no_ ↦
          let r = from_filter test xs n a (sym (ap (λ (l : List A). slice_get l n) (cond-false _ (b ∷ filter test xs) (filter test xs) no_)) ∙ e) in
          record { place = suc r.place; stands = r.stands; passes = r.passes }
    ]
  where
    first : test b ≡ true → (n : ℕ) → slice_get (b ∷ filter test xs) n ≡ Some a → ((m : ℕ) → slice_get (filter test xs) m ≡ Some a → Passes test xs a) → Passes test (b ∷ xs) a
    first yes_ zero h rest = record { place = 0; stands = h; passes = ap test (sym (some_same h)) ∙ yes_ }
    first yes_ (suc m) h rest = let r = rest m h in record { place = suc r.place; stands = r.stands; passes = r.passes }

pub in_map : {A B : Type 0} (f : A → B) (xs : List A) (n : ℕ) (a : A) → slice_get xs n ≡ Some a → In (map f xs) (f a)
in_map f [] n a e = absurd (no_some e)
in_map f (x ∷ xs) zero a e = record { place = 0; stands = ap (λ z. Some (f z)) (some_same e) }
in_map f (x ∷ xs) (suc n) a e = let r = in_map f xs n a e in record { place = suc r.place; stands = r.stands }

pub record Mapped {A B : Type 0} (f : A → B) (xs : List A) (n : ℕ) (b : B) : Type 0 where
  pub from : A
  pub there : slice_get xs n ≡ Some from
  pub is : f from ≡ b

pub from_map : {A B : Type 0} (f : A → B) (xs : List A) (n : ℕ) (b : B) → slice_get (map f xs) n ≡ Some b → Mapped f xs n b
from_map f [] n b e = absurd (no_some e)
from_map f (x ∷ xs) zero b e = record { from = x; there = refl; is = some_same e }
from_map f (x ∷ xs) (suc n) b e = let m = from_map f xs n b e in record { from = m.from; there = m.there; is = m.is }

pub in_numbered : {A : Type 0} (k : ℕ) (xs : List A) (n : ℕ) (a : A) → slice_get xs n ≡ Some a → In (enumerate_from k xs) (k + n, a)
in_numbered k [] n a e = absurd (no_some e)
in_numbered {A} k (x ∷ xs) zero a e =
    let here : k + 0 ≡ k = omega arith in
    let same : x ≡ a = some_same e in
    record { place = 0; stands = ap (λ (z : A). Some (k, z)) same ∙ ap (λ (j : ℕ). Some (j, a)) (sym here) }
in_numbered {A} k (x ∷ xs) (suc n) a e =
    let next : k + 1 + n ≡ k + suc n = omega arith in
    let r = in_numbered (k + 1) xs n a e in
    record { place = suc r.place; stands = r.stands ∙ ap (λ (j : ℕ). Some (j, a)) next }

pub from_numbered : {A : Type 0} (k : ℕ) (xs : List A) (n : ℕ) (y : ℕ × A) → slice_get (enumerate_from k xs) n ≡ Some y → (y.0 ≡ k + n) × (slice_get xs n ≡ Some y.1)
from_numbered k [] n y e = absurd (no_some e)
from_numbered {A} k (x ∷ xs) zero y e =
    let same : (k, x) ≡ y = some_same e in
    let here : k + 0 ≡ k = omega arith in
    (sym (ap (λ (z : ℕ × A). z.0) same) ∙ sym here, ap (λ (z : ℕ × A). Some z.1) same)
from_numbered k (x ∷ xs) (suc n) y e =
    let r = from_numbered (k + 1) xs n y e in
    let next : k + 1 + n ≡ k + suc n = omega arith in
    (r.0 ∙ next, r.1)

pub in_flat : {A B : Type 0} (f : A → List B) (xs : List A) (n : ℕ) (a : A) (b : B) → slice_get xs n ≡ Some a → In (f a) b → In (flat_map f xs) b
in_flat f [] n a b e h = absurd (no_some e)
in_flat f (x ∷ xs) zero a b e h =
    let here : In (f x) b = subst (λ z. In (f z) b) (sym (some_same e)) h in
    in_front (f x) (flat_map f xs) here.place b here.stands
in_flat f (x ∷ xs) (suc n) a b e h = in_back (f x) (flat_map f xs) b (in_flat f xs n a b e h)

pub record FlatFrom {A B : Type 0} (f : A → List B) (xs : List A) (b : B) : Type 0 where
  pub place : ℕ
  pub from : A
  pub there : slice_get xs place ≡ Some from
  pub inside : In (f from) b

pub from_flat : {A B : Type 0} (f : A → List B) (xs : List A) (n : ℕ) (b : B) → slice_get (flat_map f xs) n ≡ Some b → FlatFrom f xs b
from_flat f [] n b e = absurd (no_some e)
from_flat f (x ∷ xs) n b e =
    elim (from_both (f x) (flat_map f xs) n b e) [
      | inl l ↦ record { place = 0; from = x; there = refl; inside = l }
      | inr r ↦ let h = from_flat f xs r.place b r.stands in record { place = suc h.place; from = h.from; there = h.there; inside = h.inside }
    ]

-- ---- tests and writes

pub any_true : {A : Type 0} (test : A → Bool) (xs : List A) (n : ℕ) (a : A) → slice_get xs n ≡ Some a → test a ≡ true → list_any test xs ≡ true
any_true test [] n a e passes = absurd (no_some e)
any_true test (x ∷ xs) zero a e passes = or_left (test x) (list_any test xs) (ap test (some_same e) ∙ passes)
any_true test (x ∷ xs) (suc n) a e passes = or_right (test x) (list_any test xs) (any_true test xs n a e passes)

pub any_false : {A : Type 0} (test : A → Bool) (xs : List A) → ((n : ℕ) (a : A) → slice_get xs n ≡ Some a → test a ≡ false) → list_any test xs ≡ false
any_false test [] h = refl
any_false test (x ∷ xs) h = or_from (test x) (list_any test xs) (h 0 x refl) (any_false test xs (λ n a e. h (suc n) a e))

pub want_some : {A : Type 0} (g : A → Write) (xs : List A) (n : ℕ) (a : A) → slice_get xs n ≡ Some a → (g a).wanted ≡ true → is_any_wanted (map g xs) ≡ true
want_some g [] n a e wanted = absurd (no_some e)
want_some g (x ∷ xs) zero a e wanted = or_left (g x).wanted (is_any_wanted (map g xs)) (ap (λ z. (g z).wanted) (some_same e) ∙ wanted)
want_some g (x ∷ xs) (suc n) a e wanted = or_right (g x).wanted (is_any_wanted (map g xs)) (want_some g xs n a e wanted)

pub want_all : {A : Type 0} (g : A → Write) (xs : List A) (v : ℕ) → ((n : ℕ) (a : A) → slice_get xs n ≡ Some a → (g a).wanted ≡ true → (g a).value ≡ v) → AllWant (map g xs) v
want_all g [] v h = _
want_all g (x ∷ xs) v h = (h 0 x refl, want_all g xs v (λ n a e. h (suc n) a e))

-- ---- numbers of elements

-- there are more that pass the test before a later place
pub counts_more : {A : Type 0} (test : A → Bool) (xs : List A) (k m : ℕ) (a : A) → slice_get xs k ≡ Some a → test a ≡ true → k < m → count_by test (take k xs) < count_by test (take m xs)
counts_more test [] k m a e passes less = absurd (no_some e)
counts_more test (x ∷ xs) k zero a e passes less = absurd (omega (arith, less))
counts_more test (x ∷ xs) zero (suc m) a e passes less =
    let one : ◌≡◌ {A = ℕ} (cond (test x) 1 0) 1 = cond-true _ _ _ (ap test (some_same e) ∙ passes) in
    let sum = sum_by-cons (λ z. cond (test z) 1 0) x (take m xs) in
    omega (arith, one, sum)
counts_more test (x ∷ xs) (suc k) (suc m) a e passes less =
    let rest = counts_more test xs k m a e passes (omega (arith, less)) in
    let sum = sum_by-cons (λ z. cond (test z) 1 0) x (take m xs) in
    let other = sum_by-cons (λ z. cond (test z) 1 0) x (take k xs) in
    omega (arith, rest, sum, other)

pub get_map : {A B : Type 0} (f : A → B) (xs : List A) (n : ℕ) (a : A) (d : B) → slice_get xs n ≡ Some a → get_or (map f xs) n d ≡ f a
get_map f [] n a d e = absurd (no_some e)
get_map f (x ∷ xs) zero a d e = ap f (some_same e)
get_map f (x ∷ xs) (suc n) a d e = get_map f xs n a d e

-- where nothing stands both have what stands for nothing
pub get_both : {A B C : Type 0} (f : A → B) (g : A → C) (h : B → C) (xs : List A) (n : ℕ) (d : B) (e : C) → ((a : A) → h (f a) ≡ g a) → h d ≡ e → h (get_or (map f xs) n d) ≡ get_or (map g xs) n e
get_both f g h [] n d e same none = none
get_both f g h (x ∷ xs) zero d e same none = same x
get_both f g h (x ∷ xs) (suc n) d e same none = get_both f g h xs n d e same none
