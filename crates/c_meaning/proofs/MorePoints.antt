-- Parts of a run that may pass more points, and parts one after another.
use Rattle.std.proofs.Common.{◌≡◌, ℕ, zero, suc, ◌+◌, ◌<◌, ◌≤◌, ◌∙◌, sym, refl, ap, subst, List, [], ◌++◌, length, Bool, true, false, if◌then◌else◌, arith, append_assoc, length-append}
use Rattle.std.proofs.lemmas.List.{append-nil}
use Rattle.hls_base.specs.declared.place.Place.{Place}
use Rattle.hls_base.specs.declared.point.Point.{Point}
use Rattle.hls_base.specs.declared.point.PointKind.{PointKind}
use Rattle.hls_base.specs.declared.refusal.UbRule.{UbRule}
use Rattle.c_meaning.specs.Store.{Object, State, Environment}
use Rattle.c_meaning.specs.Steps.{Outcome, went, undefined, waiting, Ran, goes, fails, waits, after, then_, pass_point, pass}
use Rattle.c_meaning.specs.Expression.{pass_if}
use Rattle.c_meaning.specs.Laws.{more, Extended, IsExtended}

abbrev pub ran : {A : Type 0} → List Point → Outcome A → Ran A
ran trace outcome = record { trace = trace; outcome = outcome }

-- as in the laws; and a part that may pass fewer points than the limit waits only behind all of them
abbrev pub Longer : {A : Type 0} → ℕ → ℕ → ℕ → List Point → Outcome A → Ran A → Type 0
Longer left k limit trace waiting r = Extended left k trace (waiting) r × (left < limit → length trace ≡ left)
Longer left k limit trace o r = Extended left k trace o r

abbrev pub IsMore : {A : Type 0} → ℕ → ℕ → State → Ran A → Ran A → Type 0
IsMore k limit s r r' = Longer s.left k limit r.trace r.outcome r'

pub extended : {A : Type 0} (left k limit : ℕ) (trace : List Point) (o : Outcome A) (r : Ran A) → Longer left k limit trace o r → Extended left k trace o r
extended left k limit trace (went v s) r h = h
extended left k limit trace (undefined rule at) r h = h
extended left k limit trace waiting r h = h.0

-- ---- a part that passes a point at least where it ends

abbrev pub passes_some : {A : Type 0} → List Point → Outcome A → Type 0
passes_some trace (went v s) = 0 < length trace
passes_some trace o = Unit {0}

abbrev pub Passes : {A : Type 0} → Ran A → Type 0
Passes r = passes_some r.trace r.outcome

passes_behind : {A : Type 0} (trace t : List Point) (o : Outcome A) → 0 < length trace → passes_some (trace ++ t) o
passes_behind trace t (went v s) h = omega (arith, h, length-append trace t)
passes_behind trace t (undefined rule at) h = tt
passes_behind trace t waiting h = tt

passes_at : {A B : Type 0} (trace : List Point) (o : Outcome A) (f : A → State → Ran B) → passes_some trace o → Passes (then_ (ran trace o) f)
passes_at trace (went v s) f h = passes_behind trace (f v s).trace (f v s).outcome h
passes_at trace (undefined rule at) f h = tt
passes_at trace waiting f h = tt

pub passes_then : {A B : Type 0} (r : Ran A) (f : A → State → Ran B) → Passes r → Passes (then_ r f)
passes_then r f h = passes_at r.trace r.outcome f h

passes_point : (p : Point) (n : ℕ) (s : State) → Passes (pass_point p n s)
passes_point p zero s = tt
passes_point p (suc n) s = omega arith

pub passes_pass : (kind : PointKind) (at : Place) (env : Environment) (s : State) → Passes (pass kind at env s)
passes_pass kind at env s = passes_point (record { path = env.path; at = at; kind = kind }) s.left s

-- ---- parts one after another

behind : {B : Type 0} (k limit limit' : ℕ) (trace : List Point) (left between : ℕ) (t : List Point) (o : Outcome B) (r : Ran B) → between + length trace ≡ left → (left < limit' → between < limit) → Longer between k limit t o r
    → Longer left k limit' (trace ++ t) o (ran (trace ++ r.trace) r.outcome)
behind {B} k limit limit' trace left between t (went v s) r e fits h =
    (ap (λ (x : Ran B). ran (trace ++ x.trace) x.outcome) h.0, omega (arith, e, h.1, length-append trace t))
behind {B} k limit limit' trace left between t (undefined rule at) r e fits h =
    (ap (λ (x : Ran B). ran (trace ++ x.trace) x.outcome) h.0, omega (arith, e, h.1, length-append trace t))
behind {B} k limit limit' trace left between t waiting r e fits h = (
  ((h.0.0.0, ap (λ l. trace ++ l) h.0.0.1 ∙ sym (append_assoc trace t h.0.0.0)), omega (arith, e, h.0.1, length-append trace t)),
  λ lt. let all = h.1 (fits lt) in omega (arith, e, all, length-append trace t),
)

then_at : {A B : Type 0} (k limit limit' left : ℕ) (trace : List Point) (o : Outcome A) (r : Ran A) (f f' : A → State → Ran B) → Longer left k limit' trace o r
    → ((v : A) (s : State) → o ≡ went v s → (left < limit' → s.left < limit) × IsMore k limit s (f v s) (f' v (more k s)))
    → Longer left k limit' (then_ (ran trace o) f).trace (then_ (ran trace o) f).outcome (then_ r f')
then_at {A} {B} k limit limit' left trace (went v s) r f f' h g =
    subst (λ (x : Ran A). Longer left k limit' (trace ++ (f v s).trace) (f v s).outcome (then_ x f')) (sym h.0)
    (behind k limit limit' trace left s.left (f v s).trace (f v s).outcome (f' v (more k s)) h.1 (g v s refl).0 (g v s refl).1)
then_at {A} {B} k limit limit' left trace (undefined rule at) r f f' h g =
    (ap (λ (x : Ran A). then_ x f') h.0, omega (arith, h.1, length-append trace []))
then_at {A} {B} k limit limit' left trace waiting r f f' h g = (
  (
    (h.0.0.0 ++ (after r.outcome f').trace, ap (λ l. l ++ (after r.outcome f').trace) h.0.0.1 ∙ (append_assoc trace h.0.0.0 (after r.outcome f').trace ∙ ap (λ l. l ++ (h.0.0.0 ++ (after r.outcome f').trace)) (sym (append-nil trace)))),
    omega (arith, h.0.1, length-append trace []),
  ),
  λ lt. let all = h.1 lt in omega (arith, all, length-append trace []),
)

at_most : {A : Type 0} (k limit left : ℕ) (trace : List Point) (o : Outcome A) (r : Ran A) (v : A) (t : State) → o ≡ went v t → Longer left k limit trace o r → t.left ≤ left
at_most k limit left trace o r v t e h = let ended = subst (λ x. Longer left k limit trace x r) e h in let sum = ended.1 in omega (arith, sum)

fewer : {A : Type 0} (k limit left : ℕ) (trace : List Point) (o : Outcome A) (r : Ran A) (v : A) (t : State) → o ≡ went v t → Longer left k limit trace o r → passes_some trace o → t.left < left
fewer k limit left trace o r v t e h p =
    let ended = subst (λ x. Longer left k limit trace x r) e h in
    let sum = ended.1 in
    let some = subst (λ x. passes_some trace x) e p in
    omega (arith, sum, some)

module _ (k limit : ℕ) where
  pub goes_more : {A : Type 0} (v : A) (s : State) → IsMore k limit s (goes v s) (goes v (more k s))
  goes_more v s = (refl, omega arith)

  -- with other objects
  pub goes_changed : {A : Type 0} (v : A) (s t : State) (t' : State) → t' ≡ more k t → t.left ≡ s.left → IsMore k limit s (goes v t) (goes v t')
  goes_changed v s t t' e f = (ap (goes v) e, omega (arith, f))

  pub fails_more : {A : Type 0} (rule : UbRule) (at : Place) (s : State) → IsMore {A = A} k limit s (fails rule at) (fails rule at)
  fails_more rule at s = (refl, omega arith)

  pub waits_more : {A : Type 0} (s : State) (r : Ran A) → (s.left < limit → 0 ≡ s.left) → IsMore k limit s waits r
  waits_more s r h = (((r.trace, refl), omega arith), h)

  pub then_more : {A B : Type 0} (s : State) (r r' : Ran A) (f f' : A → State → Ran B) → IsMore k limit s r r' → ((v : A) (t : State) → IsMore k limit t (f v t) (f' v (more k t)))
      → IsMore k limit s (then_ r f) (then_ r' f')
  then_more s r r' f f' h g =
      then_at k limit limit s.left r.trace r.outcome r' f f' h (λ v t e. (λ lt. let le = at_most k limit s.left r.trace r.outcome r' v t e h in omega (arith, lt, le), g v t))

  -- where the first part passes a point
  pub then_fewer : {A B : Type 0} (s : State) (r r' : Ran A) (f f' : A → State → Ran B) → IsMore k limit s r r' → Passes r → ((v : A) (t : State) → t.left < s.left → IsMore k limit t (f v t) (f' v (more k t)))
      → IsMore k limit s (then_ r f) (then_ r' f')
  then_fewer s r r' f f' h p g =
      then_at k limit limit s.left r.trace r.outcome r' f f' h (λ v t e. let less = fewer k limit s.left r.trace r.outcome r' v t e h p in (λ lt. omega (arith, lt, less), g v t less))

  -- and where the limit is one less behind it
  pub then_inside : {A B : Type 0} (s : State) (r r' : Ran A) (f f' : A → State → Ran B) → IsMore k (suc limit) s r r' → Passes r → ((v : A) (t : State) → IsMore k limit t (f v t) (f' v (more k t)))
      → IsMore k (suc limit) s (then_ r f) (then_ r' f')
  then_inside s r r' f f' h p g =
      then_at k limit (suc limit) s.left r.trace r.outcome r' f f' h (λ v t e. let less = fewer k (suc limit) s.left r.trace r.outcome r' v t e h p in (λ lt. omega (arith, lt, less), g v t))

  pass_point_more : (p : Point) (n : ℕ) (os : List Object) → IsMore k limit (record { objects = os; left = n }) (pass_point p n (record { objects = os; left = n })) (pass_point p (n + k) (record { objects = os; left = n + k }))
  pass_point_more p zero os = waits_more (record { objects = os; left = zero }) (pass_point p (zero + k) (record { objects = os; left = zero + k })) (λ lt. refl)
  pass_point_more p (suc n) os =
      let e : suc n + k ≡ suc (n + k) = omega arith in
      (ap (λ m. pass_point p m (record { objects = os; left = suc n + k })) e, omega arith)

  pub pass_more : (kind : PointKind) (at : Place) (env : Environment) (s : State) → IsMore k limit s (pass kind at env s) (pass kind at env (more k s))
  pass_more kind at env s = pass_point_more (record { path = env.path; at = at; kind = kind }) s.left s.objects

  pub pass_if_more : (b : Bool) (kind : PointKind) (at : Place) (env : Environment) (s : State) → IsMore k limit s (pass_if b kind at env s) (pass_if b kind at env (more k s))
  pass_if_more true kind at env s = pass_more kind at env s
  pass_if_more false kind at env s = goes_more tt s

  pub if_more : {A : Type 0} (b : Bool) (s : State) (x x' y y' : Ran A) → IsMore k limit s x x' → IsMore k limit s y y' → IsMore k limit s (if b then x else y) (if b then x' else y')
  if_more true s x x' y y' h g = h
  if_more false s x x' y y' h g = g

  -- a part that begins with as many points
  pub same_start : {A : Type 0} (left left' : ℕ) (trace : List Point) (o : Outcome A) (r : Ran A) → left ≡ left' → {r' : Ran A} → r ≡ r' → Longer left k limit trace o r → Longer left' k limit trace o r'
  same_start left left' trace o r e {r'} f h = subst (λ x. Longer left' k limit trace o x) f (subst (λ n. Longer n k limit trace o r) e h)
