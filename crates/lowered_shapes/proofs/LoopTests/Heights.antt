-- Operations that stay use results of operations before them.
use Rattle.std.proofs.Common.{◌≡◌, ◌∙◌, ◌⊎◌, inl, inr, ◌<◌, ◌≤◌, ℕ, zero, suc, refl, ap, sym, subst, arith, List, [], ◌∷◌, ◌++◌, length, length-append, map, Some}
use Rattle.std.specs.Prelude.{slice_get}
use Rattle.std.proofs.lemmas.Option.{slice_get_within, same_Some}
use Rattle.ir_core.specs.declared.body.Operand.{Operand}
use Rattle.ir_core.specs.declared.body.Source.{Source}
use Rattle.ir_core.specs.declared.body.Source.TheVariants as source
use Rattle.ir_core.specs.Bodies.{OpTree}
use Rattle.ir_core.specs.TreeRuns.{tested_by}
use Rattle.passes.specs.Numbering.{Scope, Value, operand_or, standing_for}
use Rattle.passes.specs.NumberRuns.Ordered.{IsEarly, AreEarly}
use Rattle.passes.proofs.NumberRuns.Lists.{there, last_or}
use Rattle.lowered_shapes.proofs.LoopTests.Numbers.{IsConstant, state, kept, value_of, counted, argument_at, after, new_value, IsComputed, IsJoined, Stays, Adds, adds}

-- The number of the operation whose result the operand is, from 1 on, and 0 for a constant and a variable.
abbrev pub height : Operand → ℕ
height x = tested_by x.value

constant_low : (s : Source) → IsConstant s → tested_by s ≡ 0
constant_low (source.Constant w) h = refl
constant_low (source.Variable v) h = refl
constant_low (source.Result op) h = absurd h

pub constant_height : (x : Operand) → IsConstant x.value → height x ≡ 0
constant_height x h = constant_low x.value h

module _ (scope : Scope) where
  -- Operands of operations that stay, and what stands for results, are there.
  pub record IsSound (ops : List OpTree) : Type 0 where
    pub values : (i : ℕ) (v : Value) → slice_get (state scope ops).values i ≡ Some v → height v.operand ≤ length (kept scope ops)
    pub arguments : (i : ℕ) (k : OpTree) → slice_get (kept scope ops) i ≡ Some k → (j : ℕ) (x : Operand) → slice_get k.args j ≡ Some x → height x ≤ i

  pub nothing_sound : IsSound []
  nothing_sound = record { values = λ i v e. absurd cc; arguments = λ i k e j x h. absurd cc }

  value_height : (ops : List OpTree) → IsSound ops → (x : Operand) → IsEarly (length ops) x.value → height (value_of scope ops x) ≤ length (kept scope ops)
  value_height ops s x h = at x.value refl h where
    at : (v : Source) → x.value ≡ v → IsEarly (length ops) v → height (standing_for (state scope ops).values x v) ≤ length (kept scope ops)
    at (source.Constant w) e h = let p = ap tested_by e in omega (arith, p)
    at (source.Variable v) e h = let p = ap tested_by e in omega (arith, p)
    at (source.Result op) e h =
        let c = counted scope ops in
        let v = there (state scope ops).values op.0 (omega (arith, h, c)) in
        subst (λ z. height (operand_or z x) ≤ length (kept scope ops)) (sym v.1) (s.values op.0 v.0 v.1)

  pub early_at : (n : ℕ) (xs : List Operand) → AreEarly n xs → (j : ℕ) (x : Operand) → slice_get xs j ≡ Some x → IsEarly n x.value
  early_at n [] h j x e = absurd cc
  early_at n (y ∷ xs) h zero x e = subst (λ (z : Operand). IsEarly n z.value) (same_Some y x e) h.0
  early_at n (y ∷ xs) h (suc j) x e = early_at n xs h.1 j x e

  -- an operand of the operation is what stands for one of the operation before
  argument_before : (ops : List OpTree) (xs : List Operand) (j : ℕ) (x : Operand) → slice_get (map (value_of scope ops) xs) j ≡ Some x → (y : Operand) × (slice_get xs j ≡ Some y) × (value_of scope ops y ≡ x)
  argument_before ops [] j x e = absurd cc
  argument_before ops (y ∷ xs) zero x e = (y, refl, same_Some (value_of scope ops y) x e)
  argument_before ops (y ∷ xs) (suc j) x e = argument_before ops xs j x e

  -- ---- one operation more

  module _ (ops : List OpTree) (op : OpTree) (s : IsSound ops) where
    module _ (early : AreEarly (length ops) op.args) where
      abbrev one_more : List OpTree
      one_more = ops ++ op ∷ []

      argument_low : (j : ℕ) (x : Operand) → slice_get (after scope ops op).args j ≡ Some x → height x ≤ length (kept scope ops)
      argument_low j x e =
          let y = argument_before ops op.args j x e in
          subst (λ z. height z ≤ length (kept scope ops)) y.2 (value_height ops s y.0 (early_at (length ops) op.args early j y.0 y.1))

      record Bounded : Type 0 where
        count : length (kept scope ops) ≤ length (kept scope one_more)
        value : height (new_value scope ops op) ≤ length (kept scope one_more)
        arguments : (i : ℕ) (k : OpTree) → slice_get (kept scope one_more) i ≡ Some k → (j : ℕ) (x : Operand) → slice_get k.args j ≡ Some x → height x ≤ i

      bounded : IsComputed scope ops op ⊎ (IsJoined scope ops op ⊎ Stays scope ops op) → Bounded
      bounded (inl c) =
          let m = ap length c.same in
          let z = constant_height (new_value scope ops op) c.is_constant in
          record { count = omega (arith, m); value = omega (arith, z); arguments = λ i k e. s.arguments i k (ap (λ l. slice_get l i) (sym c.same) ∙ e) }
      bounded (inr (inl j)) =
          let m = ap length j.same in
          let z = ap height j.gives in
          let l = slice_get_within (kept scope ops) j.number j.other j.at in
          record { count = omega (arith, m); value = omega (arith, z, l, m); arguments = λ i k e. s.arguments i k (ap (λ l. slice_get l i) (sym j.same) ∙ e) }
      bounded (inr (inr t)) =
          let m = ap length t.more in
          let z = ap height t.gives in
          let l = length-append (kept scope ops) (after scope ops op ∷ []) in
          record { count = omega (arith, m, l); value = omega (arith, z, m, l); arguments = λ i k e. at i k (last_or (kept scope ops) (after scope ops op) i k (ap (λ l. slice_get l i) (sym t.more) ∙ e)) } where
            at : (i : ℕ) (k : OpTree) → (slice_get (kept scope ops) i ≡ Some k) ⊎ ((i ≡ length (kept scope ops)) × (after scope ops op ≡ k)) → (j : ℕ) (x : Operand) → slice_get k.args j ≡ Some x → height x ≤ i
            at i k (inl h) j x e = s.arguments i k h j x e
            at i k (inr h) j x e =
                let p = argument_low j x (ap (λ (z : OpTree). slice_get z.args j) h.1 ∙ e) in
                let q = h.0 in
                omega (arith, p, q)

      pub sound_more : IsSound (ops ++ op ∷ [])
      sound_more =
          let a = adds scope ops op in
          let b = bounded a.becomes in record {
            values = λ i v e. at a b i v (last_or (state scope ops).values a.value i v (ap (λ l. slice_get l i) (sym a.values) ∙ e));
            arguments = b.arguments;
          } where
            at : (a : Adds scope ops op) → Bounded → (i : ℕ) (v : Value) → (slice_get (state scope ops).values i ≡ Some v) ⊎ ((i ≡ length (state scope ops).values) × (a.value ≡ v)) → height v.operand ≤ length (kept scope one_more)
            at a b i v (inl h) =
                let p = s.values i v h in
                let q = b.count in
                omega (arith, p, q)
            at a b i v (inr h) = subst (λ z. height z ≤ length (kept scope one_more)) (a.gives ∙ ap (λ (z : Value). z.operand) h.1) b.value

    -- ---- an operation that becomes one with an earlier one

    module _ (j : IsJoined scope ops op) where
      other_argument : (i : ℕ) → i < 3 → slice_get (after scope ops op).args i ≡ slice_get j.other.args i
      other_argument zero l = j.alike.first
      other_argument (suc zero) l = j.alike.second
      other_argument (suc (suc zero)) l = j.alike.third
      other_argument (suc (suc (suc i))) l = absurd (omega (arith, l))

      -- it stands behind the operands
      pub joined_behind : (i : ℕ) (x : Operand) → i < 3 → slice_get op.args i ≡ Some x → height (value_of scope ops x) ≤ j.number
      joined_behind i x l e = s.arguments j.number j.other j.at i (value_of scope ops x) (sym (other_argument i l) ∙ argument_at scope ops op i x e)
