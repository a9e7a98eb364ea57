-- Loops of which each round does what a round of the other one does.
use Rattle.std.proofs.Common.{◌≡◌, ◌∙◌, ℕ, zero, suc, ◌+◌, ◌≤◌, Bool, refl, ap, sym, subst, arith, List, [], ◌∷◌, ◌++◌, append-nil, append_assoc, length}
use Rattle.hls_base.specs.declared.point.Point.{Point}
use Rattle.hls_base.specs.Steps.{Outcome, went, undefined, waiting, Ran, ran, goes, after, then_, reached}
use Rattle.ir_core.specs.Bodies.{Words}
use Rattle.ir_core.specs.TreeRuns.{Turn, again, over, out, if_again, repeat}
use Rattle.pass_runs.specs.ConvertRuns.Kept.{Begins, Matches, IsKept, IsKeptOf}
use Rattle.pass_runs.proofs.ConvertRuns.Following.{prepend}
use Rattle.pass_runs.proofs.ConvertRuns.Sims.{Sim, With, more_kept, more_kept_of}

-- A part that does not wait has passed a point.
abbrev pub Passes : {S A : Type 0} → List Point → Outcome S A → Type 0
Passes tr waiting = Unit {0}
Passes tr o = 1 ≤ length tr

-- A round that is followed by another one has passed a point, and one that is not and does not wait has so where no further round may begin.
abbrev pub Steps : ℕ → List Point → Outcome Words Turn → Type 0
Steps c tr waiting = Unit {0}
Steps c tr (went again s n) = 1 ≤ length tr
Steps c tr o = 1 ≤ c + length tr

pub passes_more : {S A B : Type 0} (tr : List Point) (o : Outcome S A) (f : A → S → ℕ → Ran S B) → Passes tr o → Passes (tr ++ (after o f).trace) (after o f).outcome
passes_more tr waiting f h = tt
passes_more [] (went v s n) f h = absurd (omega (arith, h))
passes_more {S} {A} {B} (p ∷ tr) (went v s n) f h = by (f v s n).outcome where
  by : (o : Outcome S B) → Passes {S = S} {A = B} ((p ∷ tr) ++ (f v s n).trace) o
  by waiting = tt
  by (went w t m) = omega arith
  by (undefined rule at) = omega arith
passes_more [] (undefined rule at) f h = absurd (omega (arith, h))
passes_more (p ∷ tr) (undefined rule at) f h = omega arith

pub reached_passes : {S A : Type 0} (p : Point) (f : S → ℕ → Ran S A) (s : S) (n : ℕ) → Passes (reached p f s n).trace (reached p f s n).outcome
reached_passes p f s zero = tt
reached_passes {S} {A} p f s (suc n) = by (f s n).outcome where
  by : (o : Outcome S A) → Passes {S = S} {A = A} (p ∷ [] ++ (f s n).trace) o
  by waiting = tt
  by (went w t m) = omega arith
  by (undefined rule at) = omega arith

pub passes_steps : (c : ℕ) (tr : List Point) (o : Outcome Words Turn) → Passes tr o → Steps c tr o
passes_steps c tr waiting h = tt
passes_steps c tr (went again s n) h = h
passes_steps c tr (went over s n) h = omega (arith, h)
passes_steps c tr (went (out w) s n) h = omega (arith, h)
passes_steps c tr (undefined rule at) h = omega (arith, h)

module _ (R : List Point → List Point → Type 0) (none : R [] []) (more : (a b c d : List Point) → R a b → R c d → R (a ++ c) (b ++ d))
    (P : Words → Type 0) (K : Turn → Words → Type 0) (fit : (u : Turn) (s : Words) → K u s → P s) (c : ℕ) (round round' : Words → ℕ → Ran Words Turn)
    (each : (s : Words) → P s → (n : ℕ) → Matches R K (round s n).trace (round s n).outcome (round' s)) (steps : (s : Words) (n : ℕ) → Steps c (round' s n).trace (round' s n).outcome) where
  abbrev target : ℕ → Words → ℕ → Ran Words Turn
  target d s m = repeat (c + (d + m)) round' s m

  module _ (k : ℕ) (further : (s : Words) → P s → (n d : ℕ) → Matches R K (repeat k round s n).trace (repeat k round s n).outcome (target d s)) (s : Words) (d : ℕ) (tr : List Point) where
    abbrev next : Turn → Words → ℕ → Ran Words Turn
    next u t n = if_again u (repeat k round) t n

    -- with as many rounds as may follow
    round_more : (f m : ℕ) (r : Ran Words Turn) → c + (d + m) ≡ suc f → round' s m ≡ r → target d s m ≡ then_ r (λ u t n. if_again u (repeat f round') t n)
    round_more f m r e h = ap (λ x. repeat x round' s m) e ∙ ap (λ (x : Ran Words Turn). then_ x (λ u t n. if_again u (repeat f round') t n)) h

    again_turn : (t : Words) (n : ℕ) → K again t → (others : List Point) → R tr others → ((j : ℕ) → round' s (length others + j) ≡ ran others (went again t j)) → 1 ≤ length others
        → Matches R K (tr ++ (repeat k round t n).trace) (repeat k round t n).outcome (target d s)
    again_turn t n h [] r e le = absurd (omega (arith, le))
    again_turn t n h (p ∷ ps) r e le =
        prepend R more K tr (p ∷ ps) r (target d s) (target (d + length ps) t)
        (λ j. round_more (c + ((d + length ps) + j)) (length (p ∷ ps) + j) (ran (p ∷ ps) (went again t j)) (omega arith) (e j))
        (repeat k round t n).trace (repeat k round t n).outcome (further t (fit again t h) n (d + length ps))

    -- a round that is the last one
    last_turn : (u : Turn) (t : Words) (others : List Point) (j : ℕ) → ((rest : Words → ℕ → Ran Words Turn) → if_again u rest t j ≡ goes u t j) → round' s (length others + j) ≡ ran others (went u t j) → 1 ≤ c + length others
        → target d s (length others + j) ≡ ran others (went u t j)
    last_turn u t others j stops e le = by (c + (d + (length others + j))) refl where
      by : (x : ℕ) → c + (d + (length others + j)) ≡ x → target d s (length others + j) ≡ ran others (went u t j)
      by zero h = absurd (omega (arith, h, le))
      by (suc f) h =
          round_more f (length others + j) (ran others (went u t j)) h e
          ∙ ap (λ (x : Ran Words Turn). ran (others ++ x.trace) x.outcome) (stops (repeat f round'))
          ∙ ap (λ l. ran l (went u t j)) (append-nil others)

    fault_turn : (rule : _) (at : _) (others : List Point) (j : ℕ) → round' s (length others + j) ≡ ran others (undefined rule at) → 1 ≤ c + length others → target d s (length others + j) ≡ ran others (undefined rule at)
    fault_turn rule at others j e le = by (c + (d + (length others + j))) refl where
      by : (x : ℕ) → c + (d + (length others + j)) ≡ x → target d s (length others + j) ≡ ran others (undefined rule at)
      by zero h = absurd (omega (arith, h, le))
      by (suc f) h = round_more f (length others + j) (ran others (undefined rule at)) h e ∙ ap (λ l. ran l (undefined rule at)) (append-nil others)

    waiting_turn : (others : List Point) (j : ℕ) → Begins others (round' s (length others + j)).trace → Begins others (target d s (length others + j)).trace
    waiting_turn [] j b = ((target d s (length {A = Point} [] + j)).trace, refl)
    waiting_turn (p ∷ ps) j b = by (c + (d + (length (p ∷ ps) + j))) refl where
      by : (x : ℕ) → c + (d + (length (p ∷ ps) + j)) ≡ x → Begins (p ∷ ps) (target d s (length (p ∷ ps) + j)).trace
      by zero h = absurd (omega (arith, h))
      by (suc f) h =
          let r = round' s (length (p ∷ ps) + j) in
          let z = (after r.outcome (λ u t n. if_again u (repeat f round') t n)).trace in
          (b.0 ++ z, ap (λ (x : Ran Words Turn). x.trace) (round_more f (length (p ∷ ps) + j) r h refl) ∙ ap (λ l. l ++ z) b.1 ∙ append_assoc (p ∷ ps) b.0 z)

    -- that the round steps
    stepped : (others : List Point) (o : Outcome Words Turn) (j : ℕ) → round' s j ≡ ran others o → Steps c others o
    stepped others o j e = subst (λ (x : Ran Words Turn). Steps c x.trace x.outcome) e (steps s j)

    turn : (o : Outcome Words Turn) → Matches R K tr o (round' s) → Matches R K (tr ++ (after o next).trace) (after o next).outcome (target d s)
    turn (went again t n) m = again_turn t n m.0 m.1 m.2 m.3 (stepped m.1 (went again t 0) (length m.1 + 0) (m.3 0))
    turn (went over t n) m =
        (m.0, m.1, subst (λ l. R l m.1) (sym (append-nil tr)) m.2, λ j. last_turn over t m.1 j (λ rest. refl) (m.3 j) (stepped m.1 (went over t 0) (length m.1 + 0) (m.3 0)))
    turn (went (out w) t n) m =
        (m.0, m.1, subst (λ l. R l m.1) (sym (append-nil tr)) m.2, λ j. last_turn (out w) t m.1 j (λ rest. refl) (m.3 j) (stepped m.1 (went (out w) t 0) (length m.1 + 0) (m.3 0)))
    turn (undefined rule at) m =
        (m.0, subst (λ l. R l m.0) (sym (append-nil tr)) m.1, λ j. fault_turn rule at m.0 j (m.2 j) (stepped m.0 (undefined rule at) (length m.0 + 0) (m.2 0)))
    turn waiting m = (m.0, subst (λ l. R l m.0) (sym (append-nil tr)) m.1, λ j. waiting_turn m.0 j (m.2 j))

  pub repeat_matches : (k : ℕ) (s : Words) → P s → (n d : ℕ) → Matches R K (repeat k round s n).trace (repeat k round s n).outcome (target d s)
  repeat_matches zero s e n d = ([], none, λ j. ((target d s (length {A = Point} [] + j)).trace, refl))
  repeat_matches (suc k) s e n d = turn k (repeat_matches k) s d (round s n).trace (round s n).outcome (each s e n)

module _ (kept : Point → Bool) (P : Words → Type 0) (K : Turn → Type 0) (c d : ℕ) (round round' : Words → ℕ → Ran Words Turn) (each : Sim kept P K round round')
    (steps : (s : Words) (n : ℕ) → Steps d (round s n).trace (round s n).outcome) (steps' : (s : Words) (n : ℕ) → Steps c (round' s n).trace (round' s n).outcome) where
  -- each with so many rounds beyond the points that may be passed
  pub repeat_sim : Sim kept P K (λ s n. repeat (d + (0 + n)) round s n) (λ s n. repeat (c + (0 + n)) round' s n)
  repeat_sim = record {
    forth = λ s e n. repeat_matches (IsKept kept) refl (more_kept kept) P (With kept P K) (λ u t k. k.1) c round round' each.forth steps' (d + (0 + n)) s e n 0;
    back = λ s e n. repeat_matches (IsKeptOf kept) refl (more_kept_of kept) P (With kept P K) (λ u t k. k.1) d round' round each.back steps (c + (0 + n)) s e n 0;
  }
