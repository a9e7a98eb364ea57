-- An agenda is made from the last operation to the first.
use Rattle.std.proofs.Common.{◌≡◌, ◌≢◌, ℕ, suc, ◌<◌, ◌≤◌, inl, inr, List, length, get_or, set, refl, sym, ap, ◌∙◌, subst, arith}
use Rattle.std.proofs.lemmas.Bool.{cases_lt, cases_eq}
use Rattle.std.proofs.Math.ListN.{length-set}
use Rattle.std.proofs.lemmas.List.{get_or-set_same, get_or-set_other}
use Rattle.clock_machine.specs.Lines.Agendas.{phase_at, IsNext}

-- so it is from operation c on
pub record IsFrom (interval : ℕ) (times heads links : List ℕ) (c : ℕ) : Type 0 where
  pub heads_count : length heads ≡ interval
  pub links_count : length links ≡ length times
  pub first : (phase : ℕ) → phase < interval → IsNext interval times phase c (get_or heads phase 0)
  pub next : (k : ℕ) → c ≤ k → k < length times → IsNext interval times (phase_at interval times k) (suc k) (get_or links k 0)

pub none_yet : (interval : ℕ) (times heads links : List ℕ) → length heads ≡ interval → length links ≡ length times → ((phase : ℕ) → phase < interval → get_or heads phase 0 ≡ length times) → IsFrom interval times heads links (length times)
none_yet interval times heads links m n h = record {
  heads_count = m;
  links_count = n;
  first = λ phase lt.
      (let e = h phase lt in record {
        behind = omega (arith, e);
        within = omega (arith, e);
        none_before = λ i low high. absurd (omega (arith, e, low, high));
        at = λ less. absurd (omega (arith, e, less));
      });
  next = λ k low high. absurd (omega (arith, low, high));
}

module _ (interval : ℕ) (times heads links : List ℕ) (c : ℕ) (some : phase_at interval times c < interval) (within : c < length times) (h : IsFrom interval times heads links (suc c)) where
  abbrev phase : ℕ
  phase = phase_at interval times c

  head_now : IsNext interval times phase c c
  head_now = record {
    behind = omega arith;
    within = omega (arith, within);
    none_before = λ i low high. absurd (omega (arith, low, high));
    at = λ less. refl;
  }

  head_before : (q : ℕ) → q ≢ phase → (n : ℕ) → IsNext interval times q (suc c) n → IsNext interval times q c n
  head_before q differ n is = record {
    behind = omega (arith, is.behind);
    within = is.within;
    none_before = λ i low high. elim (cases_lt c i) [
      | inl more ↦ is.none_before i (omega (arith, more)) high
      | inr less ↦
          let same : i ≡ c = omega (arith, low, less) in
          λ e. differ (sym e ∙ ap (phase_at interval times) same)
    ];
    at = is.at;
  }

  pub one_before : IsFrom interval times (set heads phase c) (set links c (get_or heads phase 0)) c
  one_before = record {
    heads_count = length-set heads phase c ∙ h.heads_count;
    links_count = length-set links c (get_or heads phase 0) ∙ h.links_count;
    first = λ q lt. elim (cases_eq q phase) [
      | inl same ↦
          let there : phase < length heads = omega (arith, some, h.heads_count) in
          subst (λ p. IsNext interval times p c (get_or (set heads phase c) p 0)) (sym same)
          (subst (λ n. IsNext interval times phase c n) (sym (get_or-set_same heads phase c 0 there)) head_now)
      | inr differ ↦
          subst (λ n. IsNext interval times q c n) (sym (get_or-set_other heads phase q c 0 differ)) (head_before q differ (get_or heads q 0) (h.first q lt))
    ];
    next = λ k low high. elim (cases_eq k c) [
      | inl same ↦
          let there : c < length links = omega (arith, within, h.links_count) in
          subst (λ j. IsNext interval times (phase_at interval times j) (suc j) (get_or (set links c (get_or heads phase 0)) j 0)) (sym same)
          (subst (λ n. IsNext interval times phase (suc c) n) (sym (get_or-set_same links c (get_or heads phase 0) 0 there)) (h.first phase some))
      | inr differ ↦
          subst (λ n. IsNext interval times (phase_at interval times k) (suc k) n) (sym (get_or-set_other links c k (get_or heads phase 0) 0 differ)) (h.next k (let z : suc c ≤ k = omega (arith, low, differ) in z) high)
    ];
  }
