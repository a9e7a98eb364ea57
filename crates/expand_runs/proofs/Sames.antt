-- Parts of two runs of which the second does what the first one does, one after another. Nothing is said of the second where the behaviour of the first is undefined.
use Rattle.std.proofs.Common.{◌≡◌, ℕ, zero, suc, ◌≤◌, sym, refl, ap, subst, false, true≢false, List, ◌++◌, append-nil, append_assoc, le_trans, arith}
use Rattle.hls_base.specs.declared.place.Place.{Place}
use Rattle.hls_base.specs.declared.point.Point.{Point}
use Rattle.hls_base.specs.declared.refusal.UbRule.{UbRule}
use Rattle.hls_base.specs.Steps.{Outcome, went, undefined, waiting, Ran, ran, goes, fails, then_, after, pass}
use Rattle.hls_base.specs.Same.{Follows, Same}

-- ---- parts that pass no point

pub goes_same : {S T A B : Type 0} (k : ℕ) (R : A → S → B → T → Type 0) (v : A) (s : S) (w : B) (t : T) (n : ℕ) → n ≤ k → R v s w t → Same false k R (goes v s n) (goes w t n)
goes_same k R v s w t n h r = (w, t, refl, h, r)

-- Where behaviour is undefined, any other part will do.
pub fails_any : {S T A B : Type 0} (k : ℕ) (R : A → S → B → T → Type 0) (rule : UbRule) (at : Place) (r : Ran T B) → Same false k R (fails {S = S} {A = A} rule at) r
fails_any k R rule at r e = absurd (true≢false (sym e))

-- ---- one after another

after_trace : {S T A B : Type 0} (k : ℕ) (R : A → S → B → T → Type 0) (trace more : List Point) (o : Outcome S A) (r : Ran T B)
    → Follows false k R more o r → Follows false k R (trace ++ more) o (ran (trace ++ r.trace) r.outcome)
after_trace {S} {T} {A} {B} k R trace more (went v s n) r h = (h.0, h.1, ap (λ (x : Ran T B). ran (trace ++ x.trace) x.outcome) h.2, h.3, h.4)
after_trace {S} {T} {A} {B} k R trace more (undefined rule at) r h = λ e. absurd (true≢false (sym e))
after_trace {S} {T} {A} {B} k R trace more waiting r h = ap (λ (x : Ran T B). ran (trace ++ x.trace) x.outcome) h

then_at : {S T A B C D : Type 0} (k : ℕ) (R : A → S → B → T → Type 0) (Q : C → S → D → T → Type 0)
    (trace : List Point) (o : Outcome S A) (r : Ran T B) (f : A → S → ℕ → Ran S C) (g : B → T → ℕ → Ran T D)
    → Follows false k R trace o r → ((v : A) (s : S) (w : B) (t : T) (n : ℕ) → n ≤ k → R v s w t → Same false k Q (f v s n) (g w t n))
    → Same false k Q (then_ (ran trace o) f) (then_ r g)
then_at {S} {T} {A} {B} {C} {D} k R Q trace (went v s n) r f g h next =
    subst (λ (x : Ran T B). Same false k Q (then_ (ran trace (went v s n)) f) (then_ x g)) (sym h.2)
    (after_trace k Q trace (f v s n).trace (f v s n).outcome (g h.0 h.1 n) (next v s h.0 h.1 n h.3 h.4))
then_at {S} {T} {A} {B} {C} {D} k R Q trace (undefined rule at) r f g h next = λ e. absurd (true≢false (sym e))
then_at {S} {T} {A} {B} {C} {D} k R Q trace waiting r f g h next = ap (λ (x : Ran T B). then_ x g) h

pub then_same : {S T A B C D : Type 0} (k : ℕ) (R : A → S → B → T → Type 0) (Q : C → S → D → T → Type 0)
    (q : Ran S A) (r : Ran T B) (f : A → S → ℕ → Ran S C) (g : B → T → ℕ → Ran T D)
    → Same false k R q r → ((v : A) (s : S) (w : B) (t : T) (n : ℕ) → n ≤ k → R v s w t → Same false k Q (f v s n) (g w t n))
    → Same false k Q (then_ q f) (then_ r g)
then_same k R Q q r f g h next = then_at k R Q q.trace q.outcome r f g h next

-- parts of three, in either grouping
then_then_at : {S A B C : Type 0} (trace : List Point) (o : Outcome S A) (f : A → S → ℕ → Ran S B) (g : B → S → ℕ → Ran S C)
    → then_ (then_ (ran trace o) f) g ≡ then_ (ran trace o) (λ v t n. then_ (f v t n) g)
then_then_at {S} {A} {B} {C} trace (went v t n) f g = ap (λ x. ran x (after (f v t n).outcome g).outcome) (append_assoc trace (f v t n).trace (after (f v t n).outcome g).trace)
then_then_at {S} {A} {B} {C} trace (undefined rule at) f g = ap (λ x. ran x (undefined rule at)) (append-nil (trace ++ List.[]))
then_then_at {S} {A} {B} {C} trace waiting f g = ap (λ x. ran x waiting) (append-nil (trace ++ List.[]))

pub then_then : {S A B C : Type 0} (r : Ran S A) (f : A → S → ℕ → Ran S B) (g : B → S → ℕ → Ran S C) → then_ (then_ r f) g ≡ then_ r (λ v t n. then_ (f v t n) g)
then_then r f g = then_then_at r.trace r.outcome f g

then_each_at : {S A B : Type 0} (trace : List Point) (o : Outcome S A) (f g : A → S → ℕ → Ran S B) → ((v : A) (t : S) (n : ℕ) → f v t n ≡ g v t n) → then_ (ran trace o) f ≡ then_ (ran trace o) g
then_each_at {S} {A} {B} trace (went v t n) f g h = ap (λ (x : Ran S B). ran (trace ++ x.trace) x.outcome) (h v t n)
then_each_at {S} {A} {B} trace (undefined rule at) f g h = refl
then_each_at {S} {A} {B} trace waiting f g h = refl

pub then_each : {S A B : Type 0} (r : Ran S A) (f g : A → S → ℕ → Ran S B) → ((v : A) (t : S) (n : ℕ) → f v t n ≡ g v t n) → then_ r f ≡ then_ r g
then_each r f g h = then_each_at r.trace r.outcome f g h

-- ---- another relation

at_more : {S T A B : Type 0} (k m : ℕ) (R Q : A → S → B → T → Type 0) (trace : List Point) (o : Outcome S A) (r : Ran T B)
    → k ≤ m → ((v : A) (s : S) (w : B) (t : T) → R v s w t → Q v s w t) → Follows false k R trace o r → Follows false m Q trace o r
at_more k m R Q trace (went v s n) r le f h = (h.0, h.1, h.2, le_trans h.3 le, f v s h.0 h.1 h.4)
at_more k m R Q trace (undefined rule at) r le f h = h
at_more k m R Q trace waiting r le f h = h

-- values and stores that are related are so in a second way
pub same_more : {S T A B : Type 0} (k m : ℕ) (R Q : A → S → B → T → Type 0) (q : Ran S A) (r : Ran T B)
    → k ≤ m → ((v : A) (s : S) (w : B) (t : T) → R v s w t → Q v s w t) → Same false k R q r → Same false m Q q r
same_more k m R Q q r le f h = at_more k m R Q q.trace q.outcome r le f h

-- the same second part, in another form
pub same_as : {S T A B : Type 0} (k : ℕ) (R : A → S → B → T → Type 0) (q : Ran S A) (r r' : Ran T B) → r' ≡ r → Same false k R q r → Same false k R q r'
same_as k R q r r' e h = subst (λ x. Same false k R q x) (sym e) h

-- Something holds of each store that a part ends with.
abbrev pub Holds : {T B : Type 0} → (T → Type 0) → Outcome T B → Type 0
Holds J (went w t n) = J t
Holds J (undefined rule at) = Unit {0}
Holds J waiting = Unit {0}

pub then_holds : {T B D : Type 0} (J : T → Type 0) (r : Ran T B) (g : B → T → ℕ → Ran T D) → Holds J r.outcome → ((w : B) (t : T) (n : ℕ) → J t → Holds J (g w t n).outcome) → Holds J (then_ r g).outcome
then_holds {T} {B} {D} J r g h next = holds_at r.outcome h
  where
    holds_at : (o : Outcome T B) → Holds J o → Holds J (after o g).outcome
    holds_at (went w t n) h = next w t n h
    holds_at (undefined rule at) h = tt
    holds_at waiting h = tt

ended_at : {S T A B : Type 0} (k : ℕ) (R : A → S → B → T → Type 0) (J : T → Type 0) (trace : List Point) (o : Outcome S A) (r : Ran T B)
    → Holds J r.outcome → Follows false k R trace o r → Follows false k (λ v s w t. R v s w t × J t) trace o r
ended_at {S} {T} {A} {B} k R J trace (went v s n) r j h = (h.0, h.1, h.2, h.3, (h.4, subst (λ (x : Ran T B). Holds J x.outcome) h.2 j))
ended_at k R J trace (undefined rule at) r j h = h
ended_at k R J trace waiting r j h = h

-- What holds of each store that the second part ends with holds beside what relates both.
pub ended_same : {S T A B : Type 0} (k : ℕ) (R : A → S → B → T → Type 0) (J : T → Type 0) (q : Ran S A) (r : Ran T B)
    → Holds J r.outcome → Same false k R q r → Same false k (λ v s w t. R v s w t × J t) q r
ended_same k R J q r j h = ended_at k R J q.trace q.outcome r j h

-- ---- points

-- Behind a point fewer may be passed.
pub pass_less : {S T : Type 0} (k : ℕ) (R : Unit {0} → S → Unit {0} → T → Type 0) (p : Point) (s : S) (t : T) (n : ℕ) → n ≤ suc k → R tt s tt t → Same false k R (pass p s n) (pass p t n)
pass_less k R p s t zero h r = refl
pass_less k R p s t (suc n) h r = (tt, t, refl, omega arith, r)

pub pass_same : {S T : Type 0} (k : ℕ) (R : Unit {0} → S → Unit {0} → T → Type 0) (p : Point) (s : S) (t : T) (n : ℕ) → n ≤ k → R tt s tt t → Same false k R (pass p s n) (pass p t n)
pass_same k R p s t n h r = pass_less k R p s t n (omega arith) r
