-- Two runs of which the second does what the first does, unless the first is undefined.
use Rattle.std.proofs.Common.{◌≡◌, ◌∙◌, ℕ, zero, suc, List, [], ◌∷◌, ◌++◌, ◌⊎◌, inl, inr, refl, sym, ap, subst, append_assoc}
use Rattle.std.proofs.lemmas.List.{append-nil}
use Rattle.hls_base.specs.declared.place.Place.{Place}
use Rattle.hls_base.specs.declared.point.Point.{Point}
use Rattle.hls_base.specs.declared.refusal.UbRule.{UbRule}
use Rattle.hls_base.specs.Steps.{Outcome, went, undefined, waiting, Ran, ran, fails, after, then_, reached}
use Rattle.op_chain.specs.Laws.{Begins, IsUndefined}

-- the second run is the first, or the first is undefined and what it passes begins what the second passes
abbrev pub Refines : {S A : Type 0} → Ran S A → Ran S A → Type 0
Refines r s = (r ≡ s) ⊎ (IsUndefined r.outcome × Begins r.trace s.trace)

pub same : {S A : Type 0} → (r : Ran S A) → Refines r r
same r = inl refl

pub equal : {S A : Type 0} → (r s : Ran S A) → r ≡ s → Refines r s
equal r s e = inl e

begins_nothing : (xs : List Point) → Begins [] xs
begins_nothing xs = (xs, refl)

begins_longer : (xs ys zs : List Point) → Begins xs ys → Begins (xs ++ []) (ys ++ zs)
begins_longer xs ys zs b = (b.0 ++ zs, ap (λ l. l ++ zs) b.1 ∙ append_assoc xs b.0 zs ∙ ap (λ l. l ++ (b.0 ++ zs)) (sym (append-nil xs)))

begins_behind : (front xs ys : List Point) → Begins xs ys → Begins (front ++ xs) (front ++ ys)
begins_behind front xs ys b = (b.0, ap (λ l. front ++ l) b.1 ∙ sym (append_assoc front xs b.0))

-- after the same trace
after_front : {S B : Type 0} → (front : List Point) (r s : Ran S B) → Refines r s → Refines (ran (front ++ r.trace) r.outcome) (ran (front ++ s.trace) s.outcome)
after_front front r s (inl e) = inl (ap (λ (x : _). ran (front ++ x.trace) x.outcome) e)
after_front front r s (inr u) = inr (u.0, begins_behind front r.trace s.trace u.1)

then_same : {S A B : Type 0} → (trace : List Point) (o : Outcome S A) (f g : A → S → ℕ → Ran S B) → ((a : A) (s : S) (n : ℕ) → Refines (f a s n) (g a s n)) → Refines (then_ (ran trace o) f) (then_ (ran trace o) g)
then_same trace (went v s n) f g h = after_front trace (f v s n) (g v s n) (h v s n)
then_same trace (undefined rule at) f g h = inl refl
then_same trace waiting f g h = inl refl

then_undefined : {S A B : Type 0} → (trace : List Point) (o : Outcome S A) (r : Ran S A) (f g : A → S → ℕ → Ran S B) → IsUndefined o → Begins trace r.trace → Refines (then_ (ran trace o) f) (then_ r g)
then_undefined trace (went v s n) r f g u b = absurd u
then_undefined trace (undefined rule at) r f g u b = inr (tt, begins_longer trace r.trace (after r.outcome g).trace b)
then_undefined trace waiting r f g u b = absurd u

pub then_refines : {S A B : Type 0} → (r s : Ran S A) (f g : A → S → ℕ → Ran S B) → Refines r s → ((a : A) (t : S) (n : ℕ) → Refines (f a t n) (g a t n)) → Refines (then_ r f) (then_ s g)
then_refines r s f g (inl e) h = subst (λ x. Refines (then_ r f) (then_ x g)) e (then_same r.trace r.outcome f g h)
then_refines r s f g (inr u) h = then_undefined r.trace r.outcome s f g u.0 u.1

pub reached_refines : {S A : Type 0} → (p : Point) (f g : S → ℕ → Ran S A) (t : S) (n : ℕ) → ((m : ℕ) → Refines (f t m) (g t m)) → Refines (reached p f t n) (reached p g t n)
reached_refines p f g t zero h = inl refl
reached_refines p f g t (suc n) h = after_front (p ∷ []) (f t n) (g t n) (h n)

pub undefined_refines : {S A : Type 0} → (rule : UbRule) (at : Place) (s : Ran S A) → Refines (fails rule at) s
undefined_refines rule at s = inr (tt, begins_nothing s.trace)
