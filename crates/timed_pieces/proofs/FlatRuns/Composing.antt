-- One relation between runs after another.
use Rattle.std.proofs.Common.{◌≡◌, ◌∙◌, ℕ, ◌+◌, sym, refl, ap, subst, List, [], ◌∷◌, ◌++◌, append_assoc, length, Bool, true, false, filter, if◌then◌else◌}
use Rattle.std.specs.Prelude.{◌&&◌}
use Rattle.std.proofs.lemmas.List.{append-nil}
use Rattle.hls_base.specs.declared.place.Place.{Place}
use Rattle.hls_base.specs.declared.point.Point.{Point}
use Rattle.hls_base.specs.declared.refusal.UbRule.{UbRule}
use Rattle.hls_base.specs.Steps.{Outcome, went, undefined, waiting, Ran, ran, goes, then_}
use Rattle.pass_runs.specs.ConvertRuns.Kept.{Begins, Matches, IsKept, IsKeptOf, IsSameRun}
use Rattle.pass_runs.specs.LowerRuns.Following.{IsKeptRun, IsUndefined, beyond}
use Rattle.timed_pieces.specs.FlatRuns.Runs.{IsRunOf}

pub filter_twice : {X : Type 0} (p q : X → Bool) (xs : List X) → filter q (filter p xs) ≡ filter (λ x. p x && q x) xs
filter_twice p q [] = refl
filter_twice p q (x ∷ xs) = by (p x) (filter_twice p q xs) where
  by : (b : Bool) → filter q (filter p xs) ≡ filter (λ x. p x && q x) xs
      → filter q (if b then x ∷ filter p xs else filter p xs) ≡ (if b && q x then x ∷ filter (λ x. p x && q x) xs else filter (λ x. p x && q x) xs)
  by true h = ap (λ l. if q x then x ∷ l else l) h
  by false h = h

pub filter_more : {X : Type 0} (p : X → Bool) (xs ys : List X) → filter p (xs ++ ys) ≡ filter p xs ++ filter p ys
filter_more p [] ys = refl
filter_more p (x ∷ xs) ys = by (p x) (filter_more p xs ys) where
  by : (b : Bool) → filter p (xs ++ ys) ≡ filter p xs ++ filter p ys → (if b then x ∷ filter p (xs ++ ys) else filter p (xs ++ ys)) ≡ (if b then x ∷ filter p xs else filter p xs) ++ filter p ys
  by true h = ap (λ l. x ∷ l) h
  by false h = h

-- the run behind which the value of the last part is told
abbrev pub with_end : {S A B : Type 0} → (A → S → B) → Ran S A → Ran S B
with_end tell r = then_ r (λ v s n. goes (tell v s) s n)

with_end_trace : {S A B : Type 0} (tell : A → S → B) (r : Ran S A) → (with_end tell r).trace ≡ r.trace
with_end_trace {S} {A} {B} tell r = by r.outcome where
  by : (o : Outcome S A) → (with_end tell (ran r.trace o)).trace ≡ r.trace
  by (went v s n) = append-nil r.trace
  by (undefined rule at) = append-nil r.trace
  by waiting = append-nil r.trace

begins_of : {S A B : Type 0} (tell : A → S → B) (r : Ran S A) (xs : List Point) → Begins xs r.trace → Begins xs (with_end tell r).trace
begins_of tell r xs b = (b.0, with_end_trace tell r ∙ b.1)

no_wait : {S A : Type 0} (o : Outcome S A) (rule : UbRule) (at : Place) → o ≡ undefined rule at → o ≡ waiting → ⊥
no_wait o rule at e f = cc

module _ {S T A B C : Type 0} (kept stays : Point → Bool) (shows : A → S → B → T → Type 0) (known : B → T → Type 0) (tell : B → T → C)
    (first : ℕ → Ran S A) (second third : ℕ → Ran T B) where
  abbrev both : Point → Bool
  both p = kept p && stays p

  -- what is known at the end
  abbrev pub Shown : A → S → C → T → Type 0
  Shown v s c t = (w : B) × shows v s w t × known w t × (c ≡ tell w t)

  -- the traces that are kept of both
  twice : (trace : List Point) → filter stays (filter kept trace) ≡ filter both trace
  twice trace = filter_twice kept stays trace

  ended : (trace : List Point) (w : B) (t : T) (o : Ran T B) → o ≡ ran (trace ++ []) (went w t 0) → Matches (IsKept stays) known o.trace o.outcome third
      → known w t × ((k : ℕ) → third (length (filter stays trace) + k) ≡ ran (filter stays trace) (went w t k))
  ended trace w t o e h =
      let m = subst (λ (x : Ran T B). Matches (IsKept stays) known x.trace x.outcome third) e h in
      let same : filter stays trace ≡ m.1 = ap (filter stays) (sym (append-nil trace)) ∙ m.2 in
      (m.0, λ k. subst (λ l. third (length l + k) ≡ ran l (went w t k)) (sym same) (m.3 k))

  come : (trace more : List Point) (o : Outcome T B) → Matches (IsKept stays) known (trace ++ more) o third → (m : ℕ) × Begins (filter stays trace) (third m).trace
  come trace more (went v s n) h =
      (length h.1 + 0, (filter stays more, ap (λ (x : Ran T B). x.trace) (h.3 0) ∙ (sym h.2 ∙ filter_more stays trace more)))
  come trace more (undefined rule at) h =
      (length h.0 + 0, (filter stays more, ap (λ (x : Ran T B). x.trace) (h.2 0) ∙ (sym h.1 ∙ filter_more stays trace more)))
  come trace more waiting h =
      let b = h.2 0 in
      (length h.0 + 0, (filter stays more ++ b.0, b.1 ∙ (ap (λ l. l ++ b.0) (sym h.1 ∙ filter_more stays trace more) ∙ append_assoc (filter stays trace) (filter stays more) b.0)))

  going : (n : ℕ) (o : Outcome T B) (trace : List Point) → Matches (IsKeptOf stays) known trace o second → ((n : ℕ) → (second n).outcome ≡ waiting) → o ≡ waiting
  going n (went v s m) trace h w = absurd (let e : went v s 0 ≡ waiting = sym (ap (λ (x : Ran T B). x.outcome) (h.3 0)) ∙ w (length h.1 + 0) in cc)
  going n (undefined rule at) trace h w = absurd (no_wait (second (length h.0 + 0)).outcome rule at (ap (λ (x : Ran T B). x.outcome) (h.2 0)) (w (length h.0 + 0)))
  going n waiting trace h w = refl

  failing : (o : Outcome T B) (trace : List Point) → Matches (IsKeptOf stays) known trace o second → IsUndefined o → (m : ℕ) × IsUndefined (second m).outcome
  failing (went v s m) trace h u = absurd u
  failing (undefined rule at) trace h u = (length h.0 + 0, subst IsUndefined (sym (ap (λ (x : Ran T B). x.outcome) (h.2 0))) tt)
  failing waiting trace h u = absurd u

  told : (o : Ran T B) (trace : List Point) (w : B) (t : T) (k : ℕ) → o ≡ ran trace (went w t k) → with_end tell o ≡ ran trace (went (tell w t) t k)
  told o trace w t k e = ap (with_end tell) e ∙ ap (λ l. ran l (went (tell w t) t k)) (append-nil trace)

  waits_on : (o : Outcome T B) (trace : List Point) → o ≡ waiting → (with_end tell (ran trace o)).outcome ≡ waiting
  waits_on o trace e = ap (λ x. (with_end tell (ran trace x)).outcome) e

  undefined_of : (o : Outcome T B) (trace : List Point) → IsUndefined (with_end tell (ran trace o)).outcome → IsUndefined o
  undefined_of (went v s n) trace u = absurd u
  undefined_of (undefined rule at) trace u = tt
  undefined_of waiting trace u = absurd u

  -- A run that is kept, and then a tree with the same run that is converted, and the value that is told in the end.
  pub composed : IsKeptRun kept shows first second → IsSameRun stays known second third → IsRunOf both Shown first (λ n. with_end tell (third n))
  composed a b = record {
    comes = λ n.
        let p = a.passes n in
        let trace = filter kept (first n).trace in
        let h : Matches (IsKept stays) known (beyond trace (p.0 0)).trace (beyond trace (p.0 0)).outcome third = subst (λ (r : Ran T B). Matches (IsKept stays) known r.trace r.outcome third) (p.1.along 0) (b.forth (length trace + 0)) in
        let c = come trace (p.0 0).trace (p.0 0).outcome h in
        (c.0, begins_of tell (third c.0) (filter both (first n).trace) (subst (λ l. Begins l (third c.0).trace) (twice (first n).trace) c.1));
    ends = λ n left trace v s e.
        let x = a.ends n left trace v s e in
        let kept_trace = filter kept trace in
        let y = ended kept_trace x.0 x.1 (second (length kept_trace + 0)) (x.3.along 0) (b.forth (length kept_trace + 0)) in (
          tell x.0 x.1,
          x.1,
          (x.0, x.2, y.0, refl),
          λ k. subst (λ l. with_end tell (third (length l + k)) ≡ ran l (went (tell x.0 x.1) x.1 k)) (twice trace) (told (third (length (filter stays kept_trace) + k)) (filter stays kept_trace) x.0 x.1 k (y.1 k)),
        );
    goes_on = λ w n. waits_on (third n).outcome (third n).trace (going n (third n).outcome (third n).trace (b.back n) (a.goes_on w));
    faults = λ n u.
        let x = failing (third n).outcome (third n).trace (b.back n) (undefined_of (third n).outcome (third n).trace u) in
        a.faults x.0 x.1;
  }
