-- A loop that appends a text for each element: what was appended and what is left to append is the whole.
use Rattle.std.proofs.Common.{◌≡◌, ℕ, ◌+◌, ◌<◌, ◌≤◌, ◌∙◌, sym, ap, List, [], ◌∷◌, ◌++◌, length, get_or, drop, append_assoc}
use Rattle.std.proofs.lemmas.List.{drop_more, drop_all, append-nil}

-- what the elements from number i on append, one by one
pub record IsInTurn {X : Type 0} (all : ℕ → List X → List ℕ) (one : ℕ → X → List ℕ) : Type 0 where
  pub none : (i : ℕ) → all i [] ≡ []
  pub next : (i : ℕ) (x : X) (xs : List X) → all i (x ∷ xs) ≡ one i x ++ all (i + 1) xs

pub loop_step : {X : Type 0} (all : ℕ → List X → List ℕ) (one : ℕ → X → List ℕ) → IsInTurn all one → (xs : List X) (i : ℕ) (x : X) (whole out new : List ℕ) → i < length xs → x ≡ get_or xs i x → out ++ all i (drop i xs) ≡ whole → new ≡ out ++ one i x → new ++ all (i + 1) (drop (i + 1) xs) ≡ whole
loop_step all one turn xs i x whole out new lt is before e =
    ap (λ text. text ++ all (i + 1) (drop (i + 1) xs)) e
    ∙ append_assoc out (one i x) (all (i + 1) (drop (i + 1) xs))
    ∙ ap (λ text. out ++ text) (sym (turn.next i x (drop (i + 1) xs)))
    ∙ ap (λ ys. out ++ all i ys) (ap (λ y. y ∷ drop (i + 1) xs) is ∙ sym (drop_more xs i x lt))
    ∙ before

pub loop_end : {X : Type 0} (all : ℕ → List X → List ℕ) (one : ℕ → X → List ℕ) → IsInTurn all one → (xs : List X) (i : ℕ) (whole out : List ℕ) → length xs ≤ i → out ++ all i (drop i xs) ≡ whole → out ≡ whole
loop_end all one turn xs i whole out done before =
    sym (append-nil out) ∙ ap (λ text. out ++ text) (sym (ap (all i) (drop_all i xs done) ∙ turn.none i)) ∙ before
