-- Which write a word stems from, where writes come in rows.
use Rattle.std.proofs.Common.{◌≡◌, ℕ, zero, suc, ◌<◌, ◌≤◌, ◌⊎◌, inl, inr, refl, ◌∙◌, arith, le_refl}
use Rattle.std.proofs.lemmas.Bool.{cases_lt}
use Rattle.clock_runs.proofs.Settings.{IsBefore}

-- at one address: the word before the write k of the row o, which writes act, and what they write
module _ (count : ℕ) (words : ℕ → ℕ → ℕ) (Acts : ℕ → ℕ → Type 0) (written : ℕ → ℕ → ℕ) where
  -- the last write that acted before the place stands there, or none did
  abbrev pub Stems : ℕ → ℕ → Type 0
  Stems o k =
      ((p : ℕ) × (q : ℕ) × (q < count) × Acts p q × IsBefore p q o k × (words o k ≡ written p q)
      × ((r s : ℕ) → s < count → Acts r s → IsBefore r s o k → IsBefore p q r s → ⊥))
      ⊎ ((words o k ≡ words 0 0) × ((r s : ℕ) → s < count → Acts r s → IsBefore r s o k → ⊥))

  module _ (row : (o : ℕ) → words (suc o) 0 ≡ words o count)
      (step : (o k : ℕ) → k < count → (Acts o k × (words o (suc k) ≡ written o k)) ⊎ ((Acts o k → ⊥) × (words o (suc k) ≡ words o k))) where
    before_none : (r s : ℕ) → IsBefore r s 0 0 → ⊥
    before_none r s b = elim b [ inl h ↦ omega arith | inr h ↦ (let k = h.1 in omega arith) ]

    before_row : (r s o : ℕ) → s < count → IsBefore r s (suc o) 0 → IsBefore r s o count
    before_row r s o h b = elim b [
      | inl lt ↦ elim (cases_lt r o) [ inl k ↦ inl k | inr k ↦ inr (omega arith, h) ]
      | inr e ↦ absurd (let k = e.1 in omega arith)
    ]

    row_before : (p q o : ℕ) → IsBefore p q o count → IsBefore p q (suc o) 0
    row_before p q o b = elim b [ inl lt ↦ inl (omega arith) | inr e ↦ inl (let k = e.0 in omega arith) ]

    before_step : (r s o k : ℕ) → IsBefore r s o (suc k) → IsBefore r s o k ⊎ ((r ≡ o) × (s ≡ k))
    before_step r s o k b = elim b [
      | inl lt ↦ inl (inl lt)
      | inr e ↦ elim (cases_lt s k) [ inl lt ↦ inl (inr (e.0, lt)) | inr ge ↦ inr (e.0, (let h = e.1 in omega arith)) ]
    ]

    step_before : (p q o k : ℕ) → IsBefore p q o k → IsBefore p q o (suc k)
    step_before p q o k b = elim b [ inl lt ↦ inl lt | inr e ↦ inr (e.0, (let h = e.1 in omega arith)) ]

    not_between : (o k r s : ℕ) → IsBefore o k r s → IsBefore r s o (suc k) → ⊥
    not_between o k r s a b = elim a [
      | inl lt ↦ elim b [ inl gt ↦ omega arith | inr e ↦ (let h = e.0 in omega arith) ]
      | inr d ↦ elim b [ inl gt ↦ (let h = d.0 in omega arith) | inr e ↦ (let h = d.1 in let j = e.1 in omega arith) ]
    ]

    same_acts : (r s o k : ℕ) → (r ≡ o) × (s ≡ k) → Acts r s → Acts o k
    same_acts r s o k (e, f) h = rw f at (rw e at h)

    start : Stems 0 0
    start = inr (refl, λ r s h a b. before_none r s b)

    next_row : (o : ℕ) → Stems o count → Stems (suc o) 0
    next_row o t = elim t [
      | inl w ↦ inl (w.0, w.1, w.2, w.3, row_before w.0 w.1 o w.4, row o ∙ w.5, λ r s h a b c. w.6 r s h a (before_row r s o h b) c)
      | inr w ↦ inr (row o ∙ w.0, λ r s h a b. w.1 r s h a (before_row r s o h b))
    ]

    next_step : (o k : ℕ) → k < count → Stems o k → Stems o (suc k)
    next_step o k lt t = elim (step o k lt) [
      | inl w ↦ inl (o, k, lt, w.0, inr (refl, omega arith), w.1, λ r s h a b c. not_between o k r s c b)
      | inr n ↦ elim t [
        | inl w ↦ inl (
          w.0,
          w.1,
          w.2,
          w.3,
          step_before w.0 w.1 o k w.4,
          n.1 ∙ w.5,
          λ r s h a b c.
              elim (before_step r s o k b) [ inl d ↦ w.6 r s h a d c | inr e ↦ n.0 (same_acts r s o k e a) ],
        )
        | inr w ↦ inr (n.1 ∙ w.0, λ r s h a b. elim (before_step r s o k b) [ inl d ↦ w.1 r s h a d | inr e ↦ n.0 (same_acts r s o k e a) ])
      ]
    ]

    along : (o : ℕ) → Stems o 0 → (k : ℕ) → k ≤ count → Stems o k
    along o t zero h = t
    along o t (suc k) h = next_step o k h (along o t k (omega arith))

    rows : (o : ℕ) → Stems o 0
    rows zero = start
    rows (suc o) = next_row o (along o (rows o) count (le_refl count))

    pub stems : (o k : ℕ) → k ≤ count → Stems o k
    stems o k h = along o (rows o) k h
