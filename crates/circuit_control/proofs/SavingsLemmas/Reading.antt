-- What nodes read, part by part.
use Rattle.std.proofs.Common.{◌≡◌, ℕ, zero, suc, ◌+◌, ◌<◌, ◌||◌, Bool, true, false, List, [], ◌∷◌, ◌++◌, length, slice_get, Some, inl, inr, refl, sym, ap, subst, ◌∙◌, arith}
use Rattle.std.specs.Prelude.{◌==◌}
use Rattle.std.specs.List.{flat_map, list_any}
use Rattle.std.proofs.Math.Nat.{eq-or-lt_of_le}
use Rattle.std.proofs.lemmas.List.Folds.{list_any-append}
use Rattle.hls_base.specs.declared.number.VarId.{VarId}
use Rattle.reg_binding.specs.declared.var_set.VarSet.{VarSet}
use Rattle.reg_binding.specs.Sets.{has, Gains}
use Rattle.reg_binding.specs.Liveness.{is_among}
use Rattle.reg_binding.proofs.LiveVariables.Members.{Gains-same, Gains-then}

any_flat : {A B : Type 0} (p : B → Bool) (f : A → List B) (xs : List A) → list_any p (flat_map f xs) ≡ list_any (λ x. list_any p (f x)) xs
any_flat p f [] = refl
any_flat p f (x ∷ xs) = list_any-append p (f x) (flat_map f xs) ∙ ap (λ b. list_any p (f x) || b) (any_flat p f xs)

-- what parts read is what the whole reads
pub gains_flat : {A : Type 0} (f : A → List VarId) (xs : List A) (a b : VarSet) → Gains a b (λ n. list_any (λ x. is_among n (f x)) xs) → Gains a b (λ n. is_among n (flat_map f xs))
gains_flat f xs a b g = Gains-same a b _ (λ n. is_among n (flat_map f xs)) g (λ n. sym (any_flat (λ v. v.0 == n) f xs))

-- one after the other
pub gains_both : (xs ys : List VarId) (a b c : VarSet) → Gains a b (λ n. is_among n xs) → Gains b c (λ n. is_among n ys) → Gains a c (λ n. is_among n (xs ++ ys))
gains_both xs ys a b c g h = Gains-same a c _ (λ n. is_among n (xs ++ ys)) (Gains-then a b c (λ n. is_among n xs) (λ n. is_among n ys) g h) (λ n. sym (list_any-append (λ v. v.0 == n) xs ys))

-- a list with one element more
at_end : {A : Type 0} (xs : List A) (a : A) → slice_get (xs ++ a ∷ []) (length xs) ≡ Some a
at_end [] a = refl
at_end (x ∷ xs) a = at_end xs a

before_end : {A : Type 0} (xs : List A) (a : A) (v : ℕ) → v < length xs → slice_get (xs ++ a ∷ []) v ≡ slice_get xs v
before_end [] a v l = absurd (omega arith)
before_end (x ∷ xs) a zero l = refl
before_end (x ∷ xs) a (suc v) l = before_end xs a v (omega arith)

pub listed_more : (f : ℕ → Bool) (xs : List Bool) (n : ℕ) (b : Bool) → length xs ≡ n → b ≡ f n → ((v : ℕ) → v < n → slice_get xs v ≡ Some (f v))
    → (v : ℕ) → v < n + 1 → slice_get (xs ++ b ∷ []) v ≡ Some (f v)
listed_more f xs n b long is before v l = elim (eq-or-lt_of_le {n = v} {m = n} (omega arith)) [
  | inl e ↦ ap (slice_get (xs ++ b ∷ [])) (e ∙ sym long) ∙ at_end xs b ∙ ap (λ c. Some c) (is ∙ ap f (sym e))
  | inr low ↦ before_end xs b v (omega arith) ∙ before v low
]
