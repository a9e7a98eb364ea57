-- Parts of runs one after another.
use Rattle.std.proofs.Common.{◌≡◌, ℕ, zero, suc, refl, ap, List, [], ◌∷◌, ◌++◌, append_assoc}
use Rattle.hls_base.specs.declared.point.Point.{Point}
use Rattle.hls_base.specs.Steps.{Outcome, went, undefined, waiting, Ran, ran, then_, after, reached}
use Rattle.hls_base.specs.Valued.{Valued, is, faulty, valued}

module _ {S A B C : Type 0} where
  assoc_at : (trace : List Point) (o : Outcome S A) (f : A → S → ℕ → Ran S B) (g : B → S → ℕ → Ran S C) → then_ (then_ (ran trace o) f) g ≡ then_ (ran trace o) (λ v s n. then_ (f v s n) g)
  assoc_at trace (went v s n) f g = ap (λ l. ran l (after (f v s n).outcome g).outcome) (append_assoc trace (f v s n).trace (after (f v s n).outcome g).trace)
  assoc_at trace (undefined rule at) f g = ap (λ l. ran l (undefined rule at)) (append_assoc trace [] [])
  assoc_at trace waiting f g = ap (λ l. ran l waiting) (append_assoc trace [] [])

  pub then_assoc : (r : Ran S A) (f : A → S → ℕ → Ran S B) (g : B → S → ℕ → Ran S C) → then_ (then_ r f) g ≡ then_ r (λ v s n. then_ (f v s n) g)
  then_assoc r f g = assoc_at r.trace r.outcome f g

module _ {S A B : Type 0} where
  all_at : (trace : List Point) (o : Outcome S A) (f g : A → S → ℕ → Ran S B) → ((v : A) (s : S) (n : ℕ) → f v s n ≡ g v s n) → then_ (ran trace o) f ≡ then_ (ran trace o) g
  all_at trace (went v s n) f g h = ap (λ (x : Ran S B). ran (trace ++ x.trace) x.outcome) (h v s n)
  all_at trace (undefined rule at) f g h = refl
  all_at trace waiting f g h = refl

  pub then_all : (r : Ran S A) (f g : A → S → ℕ → Ran S B) → ((v : A) (s : S) (n : ℕ) → f v s n ≡ g v s n) → then_ r f ≡ then_ r g
  then_all r f g h = all_at r.trace r.outcome f g h

module _ {S A B C : Type 0} where
  -- behind a point, as many points are left as there were but one
  pub reached_same : (p : Point) (f : S → ℕ → Ran S A) (g : S → ℕ → Ran S B) (after_f : A → S → ℕ → Ran S C) (after_g : B → S → ℕ → Ran S C) (s : S) (n : ℕ)
      → ((m : ℕ) → n ≡ suc m → then_ (f s m) after_f ≡ then_ (g s m) after_g) → then_ (reached p f s n) after_f ≡ then_ (reached p g s n) after_g
  reached_same p f g after_f after_g s zero h = refl
  reached_same p f g after_f after_g s (suc m) h = ap (λ (x : Ran S C). ran (p ∷ x.trace) x.outcome) (h m refl)

  pub valued_same : {X : Type 0} (v : Valued X) (f : X → S → ℕ → Ran S A) (g : X → S → ℕ → Ran S B) (after_f : A → S → ℕ → Ran S C) (after_g : B → S → ℕ → Ran S C) (s : S) (n : ℕ)
      → ((x : X) → then_ (f x s n) after_f ≡ then_ (g x s n) after_g) → then_ (valued v f s n) after_f ≡ then_ (valued v g s n) after_g
  valued_same (is x) f g after_f after_g s n h = h x
  valued_same (faulty rule at) f g after_f after_g s n h = refl
