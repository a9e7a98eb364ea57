-- How many points parts pass, and how many of them are dropped.
use Rattle.std.proofs.Common.{◌≡◌, ◌∙◌, ℕ, zero, suc, ◌+◌, ◌-◌, ◌*◌, ◌<◌, ◌≤◌, sym, refl, ap, subst, inl, inr, arith, List, [], ◌∷◌, ◌++◌, length, length-append, Bool, true, false, filter}
use Rattle.std.proofs.lemmas.List.{append-nil}
use Rattle.std.proofs.lemmas.Nat.{mul-le}
use Rattle.std.proofs.lemmas.Bool.{cases_lt}
use Rattle.hls_base.specs.declared.place.Place.{Place}
use Rattle.hls_base.specs.declared.point.Point.{Point}
use Rattle.hls_base.specs.declared.refusal.UbRule.{UbRule}
use Rattle.hls_base.specs.Steps.{Outcome, went, undefined, waiting, Ran, ran, goes, fails, then_, pass}
use Rattle.pass_runs.specs.LowerRuns.Following.{beyond, Comes, Follows, IsMeasured, IsUndefined, IsKeptRun}
use Rattle.pass_runs.proofs.LowerRuns.LowerControl.Following.{filter_more, filter_keeps, filter_drops}

-- where it ended, it passed a point that is kept
abbrev pub Advances : {S A : Type 0} → (Point → Bool) → List Point → Outcome S A → Type 0
Advances kept trace (went v s n) = 1 ≤ length (filter kept trace)
Advances kept trace (undefined rule at) = Unit {0}
Advances kept trace waiting = Unit {0}

module _ (kept : Point → Bool) (most : ℕ) where
  abbrev pub Measured : {S A : Type 0} → ℕ → ℕ → ℕ → Ran S A → Type 0
  Measured n start rest r = IsMeasured kept most n start rest r.trace r.outcome

  pub measured_goes : {S A : Type 0} (v : A) (s : S) (n start rest : ℕ) → rest ≤ start → Measured n start rest (goes v s n)
  measured_goes v s n start rest le = (omega arith, omega (arith, le))

  pub measured_fails : (S A : Type 0) (rule : UbRule) (at : Place) (n start rest : ℕ) → Measured {S = S} {A = A} n start rest (fails rule at)
  measured_fails S A rule at n start rest = (omega arith, omega arith)

  both : (trace more : List Point) (a b c : ℕ) → length trace + b ≤ a + most * length (filter kept trace) → length more + c ≤ b + most * length (filter kept more)
      → length (trace ++ more) + c ≤ a + most * length (filter kept (trace ++ more))
  both trace more a b c h g =
      let l = length-append trace more in
      let m : length (filter kept (trace ++ more)) ≡ length (filter kept trace) + length (filter kept more) = ap length (filter_more kept trace more) ∙ length-append (filter kept trace) (filter kept more) in
      subst (λ n. length (trace ++ more) + c ≤ a + most * n) (sym m) (omega (arith, l, h, g))

  pub measured_then : {S A B : Type 0} (n a b c : ℕ) (trace : List Point) (o : Outcome S A) (next : A → S → ℕ → Ran S B) → IsMeasured kept most n a b trace o → ((v : A) (s : S) (m : ℕ) → Measured m b c (next v s m))
      → Measured n a c (then_ (ran trace o) next)
  measured_then {S} {A} {B} n a b c trace (went v s m) next h g = joined (next v s m).trace (next v s m).outcome (g v s m) where
    joined : (more : List Point) (o : Outcome S B) → IsMeasured {S = S} {A = B} kept most m b c more o → IsMeasured {S = S} {A = B} kept most n a c (trace ++ more) o
    joined more (went w u k) x = (let l = length-append trace more in omega (arith, l, h.0, x.0), both trace more a b c h.1 x.1)
    joined more (undefined rule at) x = (let l = length-append trace more in omega (arith, l, h.0, x.0), let y = both trace more a b 0 h.1 (omega (arith, x.1)) in omega (arith, y))
    joined more waiting x = (let l = length-append trace more in omega (arith, l, h.0, x.0), let y = both trace more a b 0 h.1 (omega (arith, x.1)) in omega (arith, y))
  measured_then {S} {A} {B} n a b c trace (undefined rule at) next h g = subst (λ l. IsMeasured {S = S} {A = B} kept most n a c l (undefined rule at)) (sym (append-nil trace)) h
  measured_then {S} {A} {B} n a b c trace waiting next h g = subst (λ l. IsMeasured {S = S} {A = B} kept most n a c l waiting) (sym (append-nil trace)) h

  -- behind points that were passed
  pub beyond_measured : {S A : Type 0} (n m : ℕ) (trace : List Point) (r : Ran S A) → m + length trace ≡ n → length trace ≤ most * length (filter kept trace) → Measured m 0 0 r → Measured n 0 0 (beyond trace r)
  beyond_measured {S} {A} n m trace r e h g = by r.trace r.outcome g where
    by : (more : List Point) (o : Outcome S A) → IsMeasured {S = S} {A = A} kept most m 0 0 more o → IsMeasured {S = S} {A = A} kept most n 0 0 (trace ++ more) o
    by more (went w u k) x = (let l = length-append trace more in omega (arith, l, e, x.0), both trace more 0 0 0 (omega (arith, h)) x.1)
    by more (undefined rule at) x = (let l = length-append trace more in omega (arith, l, e, x.0), let y = both trace more 0 0 0 (omega (arith, h)) (omega (arith, x.1)) in omega (arith, y))
    by more waiting x = (let l = length-append trace more in omega (arith, l, e, x.0), let y = both trace more 0 0 0 (omega (arith, h)) (omega (arith, x.1)) in omega (arith, y))

  -- with more before, and as much more behind; and with less behind
  pub measured_more : {S A : Type 0} (n a b a' b' : ℕ) (trace : List Point) (o : Outcome S A) → a + b' ≤ a' + b → a ≤ a' → IsMeasured kept most n a b trace o → IsMeasured kept most n a' b' trace o
  measured_more n a b a' b' trace (went v s m) le le2 h = (h.0, omega (arith, le, h.1))
  measured_more n a b a' b' trace (undefined rule at) le le2 h = (h.0, omega (arith, le2, h.1))
  measured_more n a b a' b' trace waiting le le2 h = (h.0, omega (arith, le2, h.1))

  pub measured_kept : {S : Type 0} (p : Point) (s : S) (n a b : ℕ) → kept p ≡ true → suc b ≤ a + most → Measured n a b (pass p s n)
  measured_kept p s zero a b e le = (refl, omega arith)
  measured_kept p s (suc n) a b e le =
      let l : length (p ∷ []) ≡ 1 = omega arith in
      let m : length (filter kept (p ∷ [])) ≡ 1 = ap length (filter_keeps kept p [] e) ∙ l in
      (omega (arith, l), subst (λ k. length (p ∷ []) + b ≤ a + most * k) (sym m) (omega (arith, l, le)))

  pub measured_dropped : {S : Type 0} (p : Point) (s : S) (n a b : ℕ) → kept p ≡ false → suc b ≤ a → Measured n a b (pass p s n)
  measured_dropped p s zero a b e le = (refl, omega arith)
  measured_dropped p s (suc n) a b e le =
      let l : length (p ∷ []) ≡ 1 = omega arith in
      let m : length (filter kept (p ∷ [])) ≡ 0 = ap length (filter_drops kept p [] e) in
      (omega (arith, l), subst (λ k. length (p ∷ []) + b ≤ a + most * k) (sym m) (omega (arith, l, le)))

-- ---- from following to the kept run

module _ {S T A B : Type 0} (kept : Point → Bool) (shows : A → S → B → T → Type 0) (most start : ℕ) (first : ℕ → Ran S A) (second : ℕ → Ran T B) where
  -- the second one is at its end
  abbrev pub IsDone : A → S → (ℕ → Ran T B) → Type 0
  IsDone v s q = (w : B) × (t : T) × shows v s w t × ((k : ℕ) → q k ≡ goes w t k)

  module _ (follow : (n : ℕ) → Follows kept IsDone (first n).trace (first n).outcome second) (measured : (n : ℕ) → IsMeasured kept most n start 0 (first n).trace (first n).outcome) where
    more_kept : (n count : ℕ) → suc (start + most * n) ≤ start + most * count → n < count
    more_kept n count h = elim (cases_lt n count) [
      | inl lt ↦ lt
      | inr le ↦ absurd (let product : most * count ≤ most * n = mul-le most count most n (omega arith) le in omega (arith, product, h))
    ]

    -- With so many points the first one passes more than n that are kept, if it waits.
    abbrev far : ℕ → ℕ
    far n = suc (start + most * n)

    waits_at : (n : ℕ) → (first (far n)).outcome ≡ waiting → (second n).outcome ≡ waiting
    waits_at n e =
        let m = subst (λ o. IsMeasured kept most (far n) start 0 (first (far n)).trace o) e (measured (far n)) in
        let f = follow (far n) in
        let all : length (first (far n)).trace ≡ suc (start + most * n) = m.0 in
        let few : length (first (far n)).trace ≤ start + most * length (filter kept (first (far n)).trace) = m.1 in
        f.1.short n (more_kept n (length (filter kept (first (far n)).trace)) (omega (arith, all, few)))

    ends_at : (n left : ℕ) (trace : List Point) (v : A) (s : S) → first n ≡ ran trace (went v s left) → (w : B) × (t : T) × shows v s w t × Comes second (filter kept trace) (goes w t)
    ends_at n left trace v s e =
        let f : Follows kept IsDone trace (went v s left) second = subst (λ (x : Ran S A). Follows kept IsDone x.trace x.outcome second) e (follow n) in
        (f.2.0, f.2.1, f.2.2, subst (λ q. Comes second (filter kept trace) q) (λ i k. f.2.3 k i) f.1)

    short_or_not : (n : ℕ) (trace : List Point) (w : B) (t : T) → Comes second trace (goes w t) → IsUndefined (second n).outcome → ⊥
    short_or_not n trace w t c u = elim (cases_lt n (length trace)) [
      | inl lt ↦ subst (λ (o : Outcome T B). IsUndefined o) (c.short n lt) u
      | inr le ↦
          let e : length trace + (n - length trace) ≡ n = omega (arith, le) in
          subst (λ (o : Outcome T B). IsUndefined o) (ap (λ i. (second i).outcome) (sym e) ∙ ap (λ (x : Ran T B). x.outcome) (c.along (n - length trace))) u
    ]

    faulty_at : (n : ℕ) → IsUndefined (second n).outcome → (r : Ran S A) → first (far n) ≡ r → IsUndefined r.outcome
    faulty_at n u r e = by r.outcome e where
      by : (o : Outcome S A) → first (far n) ≡ ran r.trace o → IsUndefined o
      by (went v s left) h = let x = ends_at (far n) left r.trace v s h in short_or_not n (filter kept r.trace) x.0 x.1 x.3 u
      by (undefined rule at) h = tt
      by waiting h = subst (λ (o : Outcome T B). IsUndefined o) (waits_at n (ap (λ (x : Ran S A). x.outcome) h)) u

    pub kept_run : IsKeptRun kept shows first second
    kept_run = record {
      passes = λ n. ((follow n).0, (follow n).1);
      ends = ends_at;
      goes_on = λ on n. waits_at n (on (far n));
      faults = λ n u. (far n, faulty_at n u (first (far n)) refl);
    }
