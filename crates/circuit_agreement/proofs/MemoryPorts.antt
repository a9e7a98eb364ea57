-- Accesses to a memory that start together have the same port only where they have the same unit.
use Rattle.std.proofs.Common.{◌≡◌, ◌≢◌, ◌⊎◌, inl, inr, ℕ, ◌%◌, List, [], refl, sym, ap, ap₂, ◌∙◌, arith}
use Rattle.std.specs.Prelude.{get_or, unwrap_or, ◌==◌, if◌then◌else◌}
use Rattle.std.proofs.lemmas.Bool.{cases_eq, cond-true, cond-false, eq-eqb, ne_eqb}
use Rattle.datapath.specs.Plans.{Plan, Placed, body_at, span, unit_of}
use Rattle.datapath.specs.Ports.{changed_with, store_unit, memory_port}

-- what becomes of a number
abbrev Changes : ℕ → ℕ → Type 0
Changes n m = ((m ≡ n) × (changed_with n m ≡ 0)) ⊎ (((m ≢ n) × (m ≡ 0) × (changed_with n m ≡ n)) ⊎ ((m ≢ n) × (m ≢ 0) × (changed_with n m ≡ m)))

changes : (n m : ℕ) → Changes n m
changes n m =
    elim (cases_eq m n) [
      | inl same ↦ inl (same, cond-true _ _ _ (eq-eqb m n same))
      | inr differ ↦
          let other : changed_with n m ≡ (if m == 0 then n else m) = cond-false _ _ _ (ne_eqb m n differ) in
          elim (cases_eq m 0) [
            | inl none ↦ inr (inl (differ, none, other ∙ cond-true _ _ _ (eq-eqb m 0 none)))
            | inr some ↦ inr (inr (differ, some, other ∙ cond-false _ _ _ (ne_eqb m 0 some)))
          ]
    ]

pub changed_same : (n x y : ℕ) → changed_with n x ≡ changed_with n y → x ≡ y
changed_same n x y e =
    elim (changes n x) [
      | inl a ↦
          elim (changes n y) [
            | inl b ↦ a.0 ∙ sym b.0
            | inr (inl b) ↦ absurd (b.0 (b.1 ∙ (sym a.1 ∙ (e ∙ b.2))))
            | inr (inr b) ↦ absurd (b.1 (sym b.2 ∙ (sym e ∙ a.1)))
          ]
      | inr (inl a) ↦
          elim (changes n y) [
            | inl b ↦ absurd (a.0 (a.1 ∙ (sym b.1 ∙ (sym e ∙ a.2))))
            | inr (inl b) ↦ a.1 ∙ sym b.1
            | inr (inr b) ↦ absurd (b.0 (sym b.2 ∙ (sym e ∙ a.2)))
          ]
      | inr (inr a) ↦
          elim (changes n y) [
            | inl b ↦ absurd (a.1 (sym a.2 ∙ (e ∙ b.1)))
            | inr (inl b) ↦ absurd (a.0 (sym a.2 ∙ (e ∙ b.2)))
            | inr (inr b) ↦ sym a.2 ∙ (e ∙ b.2)
          ]
    ]

pub unit_same : (p : Plan) (a : ℕ) (x z : Placed) → x.node ≡ z.node → x.op.start % span p x.node ≡ z.op.start % span p z.node → memory_port p a x ≡ memory_port p a z → unit_of p x ≡ unit_of p z
unit_same p a x z here turn same =
    let first : ℕ → ℕ → ℕ = λ (i time : ℕ). unwrap_or (store_unit a (span p i) time (body_at p i).ops (get_or p.units i [])) 0 in
    let together : first x.node (x.op.start % span p x.node) ≡ first z.node (z.op.start % span p z.node) = ap₂ first here turn in
    changed_same (first z.node (z.op.start % span p z.node)) (unit_of p x) (unit_of p z) (ap (λ (n : ℕ). changed_with n (unit_of p x)) (sym together) ∙ same)
