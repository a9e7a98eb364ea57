-- Sets that gain and lose members one after another.
use Rattle.std.proofs.Common.{◌≡◌, ℕ, ◌+◌, ◌<◌, ◌≤◌, Bool, true, false, not, ◌&&◌, ◌||◌, List, length, get_or, take, refl, sym, ap, subst, ◌∙◌, arith}
use Rattle.std.specs.List.{list_any}
use Rattle.std.proofs.lemmas.List.{take_all}
use Rattle.std.proofs.lemmas.List.Folds.{list_any_more}
use Rattle.reg_binding.specs.declared.var_set.VarSet.{VarSet}
use Rattle.reg_binding.specs.Sets.{has, Gains, Loses}

pub or_nothing : (x : Bool) → x ≡ (x || false)
or_nothing true = refl
or_nothing false = refl

or_thrice : (x y z : Bool) → ((x || y) || z) ≡ (x || (y || z))
or_thrice true y z = refl
or_thrice false y z = refl

pub and_all : (x : Bool) → x ≡ (x && true)
and_all true = refl
and_all false = refl

neither : (x y z : Bool) → ((x && not y) && not z) ≡ (x && not (y || z))
neither true true z = refl
neither true false z = refl
neither false y z = refl

pub Gains-none : (a : VarSet) (t : ℕ → Bool) → ((n : ℕ) → t n ≡ false) → Gains a a t
Gains-none a t none = record { count = refl; members = λ n l. or_nothing (has a n) ∙ ap (λ x. has a n || x) (sym (none n)) }

pub Gains-same : (a b : VarSet) (p q : ℕ → Bool) → Gains a b p → ((n : ℕ) → p n ≡ q n) → Gains a b q
Gains-same a b p q g same = record { count = g.count; members = λ n l. g.members n l ∙ ap (λ x. has a n || x) (same n) }

pub Gains-then : (a b c : VarSet) (p q : ℕ → Bool) → Gains a b p → Gains b c q → Gains a c (λ n. p n || q n)
Gains-then a b c p q g h = record {
  count = h.count ∙ g.count;
  members = λ n l. h.members n (omega (arith, g.count)) ∙ ap (λ x. x || q n) (g.members n l) ∙ or_thrice (has a n) (p n) (q n);
}

pub Gains-more : {A : Type 0} (p : A → ℕ → Bool) (xs : List A) (i : ℕ) (d : A) (a b c : VarSet) → i < length xs →
    Gains a b (λ n. list_any (λ x. p x n) (take i xs)) → Gains b c (p (get_or xs i d)) → Gains a c (λ n. list_any (λ x. p x n) (take (i + 1) xs))
Gains-more p xs i d a b c l g h =
    Gains-same a c _ (λ n. list_any (λ x. p x n) (take (i + 1) xs)) (Gains-then a b c (λ n. list_any (λ x. p x n) (take i xs)) (p (get_or xs i d)) g h)
    (λ n. sym (list_any_more (λ x. p x n) xs i d l))

pub Gains-all : {A : Type 0} (p : A → ℕ → Bool) (xs : List A) (i : ℕ) (a b : VarSet) → length xs ≤ i →
    Gains a b (λ n. list_any (λ x. p x n) (take i xs)) → Gains a b (λ n. list_any (λ x. p x n) xs)
Gains-all p xs i a b l g = subst (λ ys. Gains a b (λ n. list_any (λ x. p x n) ys)) (take_all i xs l) g

pub Loses-none : (a : VarSet) (t : ℕ → Bool) → ((n : ℕ) → t n ≡ false) → Loses a a t
Loses-none a t none = record { count = refl; members = λ n l. and_all (has a n) ∙ ap (λ x. has a n && not x) (sym (none n)) }

pub Loses-more : {A : Type 0} (p : A → ℕ → Bool) (xs : List A) (i : ℕ) (d : A) (a b c : VarSet) → i < length xs →
    Loses a b (λ n. list_any (λ x. p x n) (take i xs)) → Loses b c (p (get_or xs i d)) → Loses a c (λ n. list_any (λ x. p x n) (take (i + 1) xs))
Loses-more p xs i d a b c l g h = record {
  count = h.count ∙ g.count;
  members = λ n m. h.members n (omega (arith, g.count)) ∙ ap (λ x. x && not (p (get_or xs i d) n)) (g.members n m)
      ∙ neither (has a n) (list_any (λ x. p x n) (take i xs)) (p (get_or xs i d) n) ∙ ap (λ x. has a n && not x) (sym (list_any_more (λ x. p x n) xs i d l));
}
