-- What the ports of an array write in one cycle.
use Rattle.std.proofs.Common.{◌≡◌, ◌≢◌, ℕ, zero, suc, ◌+◌, ◌<◌, ◌≤◌, true, refl, sym, ap, ◌∙◌, subst, inl, inr, arith}
use Rattle.std.specs.Prelude.{if◌then◌else◌}
use Rattle.std.proofs.lemmas.Bool.{cases_Bool, cases_eq, eq-eqb, ne_eqb, cond-true, cond-false}
use Rattle.ir_core.specs.Bodies.{with_word}
use Rattle.datapath.specs.Plans.{Plan}
use Rattle.datapath.specs.Cycles.{AddressOf, StoredOf, Cycle}
use Rattle.datapath.specs.Ports.{is_enabled, behind_ports}

module _ (p : Plan) (c : Cycle) (a : ℕ) where
  -- the port writes at this address
  pub record Writes (address n : ℕ) : Type 0 where
    pub enabled : is_enabled p c a n ≡ true
    pub address_ : c.signals (AddressOf a n) ≡ address

  abbrev one_port : ℕ → (ℕ → ℕ) → ℕ → ℕ
  one_port n words = if is_enabled p c a n then with_word words (c.signals (AddressOf a n)) (c.signals (StoredOf a n)) else words

  left_by : (address n : ℕ) (words : ℕ → ℕ) → (Writes address n → ⊥) → one_port n words address ≡ words address
  left_by address n words none =
      elim (cases_Bool (is_enabled p c a n)) [
        | inr off ↦ ap (λ (w : ℕ → ℕ). w address) (cond-false _ _ _ off)
        | inl on ↦
            ap (λ (w : ℕ → ℕ). w address) (cond-true _ _ _ on)
            ∙ cond-false _ _ _ (ne_eqb (c.signals (AddressOf a n)) address (λ e. none (record { enabled = on; address_ = e })))
      ]

  written_by : (address n : ℕ) (words : ℕ → ℕ) → Writes address n → one_port n words address ≡ c.signals (StoredOf a n)
  written_by address n words w = ap (λ (g : ℕ → ℕ). g address) (cond-true _ _ _ w.enabled) ∙ cond-true _ _ _ (eq-eqb _ address w.address_)

  pub none_writes : (address n k : ℕ) (words : ℕ → ℕ) → ((m : ℕ) → n ≤ m → m < n + k → Writes address m → ⊥) → behind_ports p c a n k words address ≡ words address
  none_writes address n zero words none = refl
  none_writes address n (suc k) words none =
      none_writes address (suc n) k (one_port n words) (λ m low high w. none m (omega (arith, low)) (omega (arith, high)) w)
      ∙ left_by address n words (none n (omega arith) (omega arith))

  pub one_writes : (address n k m : ℕ) (words : ℕ → ℕ) → n ≤ m → m < n + k → Writes address m → ((l : ℕ) → l ≢ m → Writes address l → ⊥)
      → behind_ports p c a n k words address ≡ c.signals (StoredOf a m)
  one_writes address n zero m words low high w none = absurd (omega (arith, low, high))
  one_writes address n (suc k) m words low high w none =
      elim (cases_eq n m) [
        | inl same ↦
            none_writes address (suc n) k (one_port n words) (λ l under over v. none l (λ e. omega (arith, e, same, under)) v)
            ∙ (written_by address n words (subst (λ l. Writes address l) (sym same) w) ∙ ap (λ l. c.signals (StoredOf a l)) same)
        | inr differ ↦ one_writes address (suc n) k m (one_port n words) (omega (arith, low, differ)) (omega (arith, high)) w none
      ]
