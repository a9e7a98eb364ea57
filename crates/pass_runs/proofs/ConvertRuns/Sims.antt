-- Parts of which each does what the other one does, without points that are dropped.
use Rattle.std.proofs.Common.{◌≡◌, ◌∙◌, ℕ, zero, suc, ◌+◌, Bool, true, false, filter, refl, ap, subst, arith, List, [], ◌∷◌, ◌++◌, append_assoc, length}
use Rattle.std.specs.Prelude.{if◌then◌else◌}
use Rattle.hls_base.specs.declared.point.Point.{Point}
use Rattle.hls_base.specs.Steps.{Outcome, went, undefined, waiting, Ran, ran, goes, fails, after, then_, pass, reached}
use Rattle.hls_base.specs.Valued.{Valued, is, faulty, valued}
use Rattle.pass_runs.specs.ConvertRuns.Kept.{Matches, IsKept, IsKeptOf}
use Rattle.pass_runs.proofs.ConvertRuns.Following.{then_matches}

filter_more : {X : Type 0} (p : X → Bool) (xs ys : List X) → filter p (xs ++ ys) ≡ filter p xs ++ filter p ys
filter_more p [] ys = refl
filter_more p (x ∷ xs) ys = by (p x) (filter_more p xs ys) where
  by : (b : Bool) → filter p (xs ++ ys) ≡ filter p xs ++ filter p ys → (if b then x ∷ filter p (xs ++ ys) else filter p (xs ++ ys)) ≡ (if b then x ∷ filter p xs else filter p xs) ++ filter p ys
  by true h = ap (λ l. x ∷ l) h
  by false h = h

-- then of three parts, in either order
pub then_assoc : {S A B C : Type 0} (r : Ran S A) (f : A → S → ℕ → Ran S B) (g : B → S → ℕ → Ran S C)
    → then_ (then_ r f) g ≡ then_ r (λ v s n. then_ (f v s n) g)
then_assoc {S} {A} {B} {C} r f g = by r.outcome where
  by : (o : Outcome S A) → ran ((r.trace ++ (after o f).trace) ++ (after (after o f).outcome g).trace) (after (after o f).outcome g).outcome
      ≡ ran (r.trace ++ (after o (λ v s n. then_ (f v s n) g)).trace) (after o (λ v s n. then_ (f v s n) g)).outcome
  by (went v s n) = ap (λ l. ran l (after (f v s n).outcome g).outcome) (append_assoc r.trace (f v s n).trace (after (f v s n).outcome g).trace)
  by (undefined rule at) = ap (λ l. ran l (undefined rule at)) (append_assoc r.trace [] [])
  by waiting = ap (λ l. ran l waiting) (append_assoc r.trace [] [])

-- a value, and then a part
pub valued_then : {S A B C : Type 0} (x : Valued A) (f : A → S → ℕ → Ran S B) (g : B → S → ℕ → Ran S C) (s : S) (n : ℕ)
    → then_ (valued x f s n) g ≡ valued x (λ v t m. then_ (f v t m) g) s n
valued_then (is v) f g s n = refl
valued_then (faulty rule at) f g s n = refl

abbrev one : Unit {0}
one = tt

module _ (kept : Point → Bool) where
  pub more_kept : (a b c d : List Point) → IsKept kept a b → IsKept kept c d → IsKept kept (a ++ c) (b ++ d)
  more_kept a b c d h k = filter_more kept a c ∙ (λ i. h i ++ k i)

  pub more_kept_of : (a b c d : List Point) → IsKeptOf kept a b → IsKeptOf kept c d → IsKeptOf kept (a ++ c) (b ++ d)
  more_kept_of a b c d h k = filter_more kept b d ∙ (λ i. h i ++ k i)

  module _ {S : Type 0} (P : S → Type 0) where
    -- what is known where a part ends: its value is one of these, and the store is fit
    abbrev pub With : {A : Type 0} → (A → Type 0) → A → S → Type 0
    With K v s = K v × P s

    -- from each store that is fit
    pub record Sim {A : Type 0} (K : A → Type 0) (f g : S → ℕ → Ran S A) : Type 0 where
      pub forth : (s : S) → P s → (n : ℕ) → Matches (IsKept kept) (With K) (f s n).trace (f s n).outcome (g s)
      pub back : (s : S) → P s → (n : ℕ) → Matches (IsKeptOf kept) (With K) (g s n).trace (g s n).outcome (f s)

    pub then_sim : {A B : Type 0} {K : A → Type 0} {L : B → Type 0} {f g : S → ℕ → Ran S A} {p q : A → S → ℕ → Ran S B}
        → Sim K f g → ((v : A) → K v → Sim L (p v) (q v)) → Sim L (λ s n. then_ (f s n) p) (λ s n. then_ (g s n) q)
    then_sim {K = K} {L = L} {f = f} {g = g} {p = p} {q = q} m h = record {
      forth = λ s e n. then_matches (IsKept kept) more_kept (With L) (With K) (g s) p q (λ v t k j. (h v k.0).forth t k.1 j) (f s n).trace (f s n).outcome (m.forth s e n);
      back = λ s e n. then_matches (IsKeptOf kept) more_kept_of (With L) (With K) (f s) q p (λ v t k j. (h v k.0).back t k.1 j) (g s n).trace (g s n).outcome (m.back s e n);
    }

    pub goes_sim : {A : Type 0} {K : A → Type 0} (v : A) → K v → Sim K (goes v) (goes v)
    goes_sim v k = record {
      forth = λ s e n. ((k, e), [], refl, λ j. let q : length {A = Point} [] + j ≡ j = omega arith in ap (goes v s) q);
      back = λ s e n. ((k, e), [], refl, λ j. let q : length {A = Point} [] + j ≡ j = omega arith in ap (goes v s) q);
    }

    pub fails_sim : {A : Type 0} {K : A → Type 0} (rule : _) (at : _) → Sim K (λ s n. fails rule at) (λ s n. fails rule at)
    fails_sim rule at = record {
      forth = λ s e n. ([], refl, λ j. refl);
      back = λ s e n. ([], refl, λ j. refl);
    }

    -- a point that is kept, and one that is dropped
    pub pass_sim : (p : Point) → kept p ≡ true → Sim (λ u. Unit {0}) (pass p) (pass p)
    pass_sim p k = record { forth = forth; back = back } where
      once : filter kept (p ∷ []) ≡ p ∷ []
      once = ap (λ b. if b then p ∷ [] else []) k

      forth : (s : S) → P s → (n : ℕ) → Matches (IsKept kept) (With (λ u. Unit {0})) (pass p s n).trace (pass p s n).outcome (pass p s)
      forth s e zero = ([], refl, λ j. ((pass p s (0 + j)).trace, refl))
      forth s e (suc n) = ((tt, e), p ∷ [], once, λ j. let q : length (p ∷ []) + j ≡ suc j = omega arith in ap (pass p s) q)

      back : (s : S) → P s → (n : ℕ) → Matches (IsKeptOf kept) (With (λ u. Unit {0})) (pass p s n).trace (pass p s n).outcome (pass p s)
      back s e zero = ([], refl, λ j. ((pass p s (0 + j)).trace, refl))
      back s e (suc n) = ((tt, e), p ∷ [], once, λ j. let q : length (p ∷ []) + j ≡ suc j = omega arith in ap (pass p s) q)

    pub drop_sim : (p : Point) → kept p ≡ false → Sim (λ u. Unit {0}) (pass p) (goes one)
    drop_sim p k = record { forth = forth; back = back } where
      none : filter kept (p ∷ []) ≡ []
      none = ap (λ b. if b then p ∷ [] else []) k

      forth : (s : S) → P s → (n : ℕ) → Matches (IsKept kept) (With (λ u. Unit {0})) (pass p s n).trace (pass p s n).outcome (goes one s)
      forth s e zero = ([], refl, λ j. ((goes one s (0 + j)).trace, refl))
      forth s e (suc n) = ((tt, e), [], none, λ j. let q : length {A = Point} [] + j ≡ j = omega arith in ap (goes one s) q)

      back : (s : S) → P s → (n : ℕ) → Matches (IsKeptOf kept) (With (λ u. Unit {0})) (goes one s n).trace (goes one s n).outcome (pass p s)
      back s e n = ((tt, e), p ∷ [], none, λ j. let q : length (p ∷ []) + j ≡ suc j = omega arith in ap (pass p s) q)

    pub kept_sim : {A : Type 0} {K : A → Type 0} {f g : S → ℕ → Ran S A} (p : Point) → kept p ≡ true → Sim K f g → Sim K (reached p f) (reached p g)
    kept_sim p k m = then_sim (pass_sim p k) (λ v e. m)

    pub dropped_sim : {A : Type 0} {K : A → Type 0} {f g : S → ℕ → Ran S A} (p : Point) → kept p ≡ false → Sim K f g → Sim K (reached p f) g
    dropped_sim p k m = then_sim (drop_sim p k) (λ v e. m)

    -- ---- other ways to say the same

    pub same_sim : {A : Type 0} {K : A → Type 0} {f g p q : S → ℕ → Ran S A} → ((s : S) (n : ℕ) → f s n ≡ p s n) → ((s : S) (n : ℕ) → g s n ≡ q s n) → Sim K f g → Sim K p q
    same_sim {K = K} {f = f} {g = g} {p = p} {q = q} e h m = subst (λ (x : S → ℕ → Ran S _). Sim K x q) (λ i s n. e s n i) (subst (λ (x : S → ℕ → Ran S _). Sim K f x) (λ i s n. h s n i) m)

    -- of a value more is known
    weaker : {A : Type 0} (R : List Point → List Point → Type 0) (K L : A → S → Type 0) → ((v : A) (s : S) → K v s → L v s) → (tr : List Point) (o : Outcome S A) (r : ℕ → Ran S A) → Matches R K tr o r → Matches R L tr o r
    weaker R K L h tr (went v s n) r m = (h v s m.0, m.1, m.2, m.3)
    weaker R K L h tr (undefined rule at) r m = m
    weaker R K L h tr waiting r m = m

    pub weaker_sim : {A : Type 0} {K L : A → Type 0} {f g : S → ℕ → Ran S A} → ((v : A) → K v → L v) → Sim K f g → Sim L f g
    weaker_sim {K = K} {L = L} {f = f} {g = g} h m = record {
      forth = λ s e n. weaker (IsKept kept) (With K) (With L) (λ v t k. (h v k.0, k.1)) (f s n).trace (f s n).outcome (g s) (m.forth s e n);
      back = λ s e n. weaker (IsKeptOf kept) (With K) (With L) (λ v t k. (h v k.0, k.1)) (g s n).trace (g s n).outcome (f s) (m.back s e n);
    }
