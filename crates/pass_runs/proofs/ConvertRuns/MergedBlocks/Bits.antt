-- Operations on single bits, and selections.
use Rattle.std.proofs.Common.{◌≡◌, ◌∙◌, ◌<◌, ◌⊎◌, inl, inr, ℕ, zero, suc, ◌*◌, ◌+◌, ◌%◌, Bool, true, false, not, ◌&&◌, pos, refl, ap, sym, subst, arith, [], ◌∷◌}
use Rattle.std.specs.Prelude.{◌==◌, if◌then◌else◌}
use Rattle.std.proofs.lemmas.Nat.{mod-mul-add}
use Rattle.ir_core.specs.declared.body.OpKind.TheVariants as o
use Rattle.ir_core.specs.Value.{count_of, pattern, value}

bit : (x : ℕ) → x < count_of 1 → (x ≡ 0) ⊎ (x ≡ 1)
bit zero h = inl refl
bit (suc zero) h = inr refl
bit (suc (suc x)) h = let k : suc (suc x) < 2 = h in absurd (omega (arith, k))

pub not_bit : (from x : ℕ) → x < count_of 1 → not (value o.Not false 1 from (x ∷ []) == 0) ≡ (x == 0)
not_bit from x h = by (bit x h) where
  by : (x ≡ 0) ⊎ (x ≡ 1) → not (value o.Not false 1 from (x ∷ []) == 0) ≡ (x == 0)
  by (inl e) = subst (λ y. not (value o.Not false 1 from (y ∷ []) == 0) ≡ (y == 0)) (sym e) refl
  by (inr e) = subst (λ y. not (value o.Not false 1 from (y ∷ []) == 0) ≡ (y == 0)) (sym e) refl

pub and_bits : (from x y : ℕ) → x < count_of 1 → y < count_of 1 → not (value o.And false 1 from (x ∷ y ∷ []) == 0) ≡ (not (x == 0) && not (y == 0))
and_bits from x y h k = by (bit x h) (bit y k) where
  Same : ℕ → ℕ → Type 0
  Same a b = not (value o.And false 1 from (a ∷ b ∷ []) == 0) ≡ (not (a == 0) && not (b == 0))

  at : (a b : ℕ) → Same a b → x ≡ a → y ≡ b → Same x y
  at a b z e q = subst (λ c. Same c y) (sym e) (subst (Same a) (sym q) z)

  by : (x ≡ 0) ⊎ (x ≡ 1) → (y ≡ 0) ⊎ (y ≡ 1) → Same x y
  by (inl e) (inl q) = at 0 0 refl e q
  by (inl e) (inr q) = at 0 1 refl e q
  by (inr e) (inl q) = at 1 0 refl e q
  by (inr e) (inr q) = at 1 1 refl e q

pattern_same : (bits a : ℕ) → a < count_of bits → pattern bits (pos a) ≡ a
pattern_same bits a h = let c = count_of bits in let e : 0 * c + a ≡ a = omega arith in ap (λ n. n % c) (sym e) ∙ mod-mul-add 0 c a h

-- A selection gives the operand of the branch that is taken.
pub selected : (from bits test x y : ℕ) (c : Bool) → not (test == 0) ≡ c → x < count_of bits → y < count_of bits → value o.Select false bits from (test ∷ x ∷ y ∷ []) ≡ (if c then x else y)
selected from bits test x y c e h k = by (test == 0) c e where
  by : (b c : Bool) → not b ≡ c → (if b then pattern bits (pos y) else pattern bits (pos x)) ≡ (if c then x else y)
  by true true q = absurd cc
  by true false q = pattern_same bits y k
  by false true q = pattern_same bits x h
  by false false q = absurd cc
