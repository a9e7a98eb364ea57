-- Parts of a run one after another, and what comes of them.
use Rattle.std.proofs.Common.{◌≡◌, ◌∙◌, ℕ, ◌+◌, ap, sym, subst, arith, List, ◌++◌, append_assoc, append-nil, length, length-append}
use Rattle.hls_base.specs.declared.point.Point.{Point}
use Rattle.hls_base.specs.Steps.{Outcome, went, undefined, waiting, Ran, ran, after, then_}
use Rattle.pass_runs.specs.ConvertRuns.Kept.{Matches}

module _ (R : List Point → List Point → Type 0) (more : (a b c d : List Point) → R a b → R c d → R (a ++ c) (b ++ d)) {S B : Type 0} (L : B → S → Type 0) where
  -- behind points that are passed
  module _ (tr tr' : List Point) (h : R tr tr') (r g : ℕ → Ran S B) (e : (j : ℕ) → r (length tr' + j) ≡ ran (tr' ++ (g j).trace) (g j).outcome) where
    along : (others : List Point) (j : ℕ) → r (length (tr' ++ others) + j) ≡ ran (tr' ++ (g (length others + j)).trace) (g (length others + j)).outcome
    along others j =
        let l = length-append tr' others in
        let p : length (tr' ++ others) + j ≡ length tr' + (length others + j) = omega (arith, l) in
        ap r p ∙ e (length others + j)

    pub prepend : (tr2 : List Point) (o : Outcome S B) → Matches R L tr2 o g → Matches R L (tr ++ tr2) o r
    prepend tr2 (went v s k) m =
        (m.0, tr' ++ m.1, more tr tr' tr2 m.1 h m.2, λ j. along m.1 j ∙ ap (λ (x : Ran S B). ran (tr' ++ x.trace) x.outcome) (m.3 j))
    prepend tr2 (undefined rule at) m =
        (tr' ++ m.0, more tr tr' tr2 m.0 h m.1, λ j. along m.0 j ∙ ap (λ (x : Ran S B). ran (tr' ++ x.trace) x.outcome) (m.2 j))
    prepend tr2 waiting m = (
      tr' ++ m.0,
      more tr tr' tr2 m.0 h m.1,
      λ j.
          let b = m.2 j in
          (b.0, ap (λ (x : Ran S B). x.trace) (along m.0 j) ∙ ap (λ l. tr' ++ l) b.1 ∙ sym (append_assoc tr' m.0 b.0)),
    )

  module _ {A : Type 0} (K : A → S → Type 0) (r : ℕ → Ran S A) (f g : A → S → ℕ → Ran S B)
      (next : (v : A) (s : S) → K v s → (n : ℕ) → Matches R L (f v s n).trace (f v s n).outcome (g v s)) where
    pub then_matches : (tr : List Point) (o : Outcome S A) → Matches R K tr o r → Matches R L (tr ++ (after o f).trace) (after o f).outcome (λ n. then_ (r n) g)
    then_matches tr (went v s k) m =
        prepend tr m.1 m.2 (λ n. then_ (r n) g) (g v s) (λ j. ap (λ (x : Ran S A). then_ x g) (m.3 j)) (f v s k).trace (f v s k).outcome (next v s m.0 k)
    then_matches tr (undefined rule at) m =
        (m.0, subst (λ l. R l m.0) (sym (append-nil tr)) m.1, λ j. ap (λ (x : Ran S A). then_ x g) (m.2 j) ∙ ap (λ l. ran l (undefined rule at)) (append-nil m.0))
    then_matches tr waiting m = (
      m.0,
      subst (λ l. R l m.0) (sym (append-nil tr)) m.1,
      λ j.
          let b = m.2 j in
          let z = (after (r (length m.0 + j)).outcome g).trace in
          (b.0 ++ z, ap (λ l. l ++ z) b.1 ∙ append_assoc m.0 b.0 z),
    )
