-- A token list that was read to its end.
use Rattle.std.proofs.Common.{◌≡◌, ℕ, zero, suc, ◌+◌, ◌<◌, List, [], ◌∷◌, ◌++◌, length, take, get_or, Option, Some, None, refl, ap, sym, ◌∙◌, subst, arith, append_assoc}
use Rattle.c_token.specs.declared.token.Token.{Token}
use Rattle.c_tree.specs.Terminals.{Terminal, terminals, terminal_of}
use Rattle.c_syntax.specs.declared.steps.goal.Goal.{Goal}
use Rattle.c_syntax.specs.declared.steps.goal.Goal.TheVariants as G
use Rattle.c_syntax.specs.declared.steps.goal.Spot.{Spot}
use Rattle.c_syntax.specs.Sorts.{sort_of}
use Rattle.c_syntax.specs.Steps.{Step, next}
use Rattle.c_syntax.proofs.Reading.{ReadsAll, AreItems}
use Rattle.c_syntax.proofs.Sound.{one}
use Rattle.c_syntax.proofs.Stacks.{next_sound, Continues}

-- what the goals read stands behind these tokens
abbrev pub Stands : List Terminal → List Goal → Type 0
Stands seen goals = (ts : List Terminal) → ReadsAll goals ts → AreItems (seen ++ ts)

pub stands_first : Stands [] (G.Items ∷ [])
stands_first = λ ts r. one r

continues : (goals : List Goal) (t : Terminal) (found : Option Step) (step : Step) → Continues goals found t → found ≡ Some step → (ts : List Terminal) → ReadsAll step.goals ts → ReadsAll goals (t ∷ ts)
continues goals t None step c e = absurd cc
continues goals t (Some other) step c e = λ ts r. c ts (let same : other ≡ step = cc in subst (λ x. ReadsAll x.goals ts) (sym same) r)

pub stands_next : (seen : List Terminal) (goals new : List Goal) (t : Terminal) (spot : Spot) (step : Step) → Stands seen goals → next goals spot (sort_of t.kind) ≡ Some step → new ≡ step.goals
    → Stands (seen ++ t ∷ []) new
stands_next seen goals new t spot step s e f ts r =
    subst AreItems (sym (append_assoc seen (t ∷ []) ts)) (s (t ∷ ts) (continues goals t (next goals spot (sort_of t.kind)) step (next_sound goals spot t) e ts (subst (λ x. ReadsAll x ts) f r)))

-- one token more of a list
pub take_more : (tokens : List Token) (i : ℕ) (d : Token) → i < length tokens → take (i + 1) (terminals tokens) ≡ take i (terminals tokens) ++ terminal_of (get_or tokens i d) ∷ []
take_more [] i d below = absurd (omega (arith, below))
take_more (token ∷ tokens) zero d below = refl
take_more (token ∷ tokens) (suc i) d below =
    let e : suc i + 1 ≡ suc (i + 1) = omega arith in
    ap (λ n. take n (terminals (token ∷ tokens))) e ∙ ap (λ x. terminal_of token ∷ x) (take_more tokens i d (omega (arith, below)))
