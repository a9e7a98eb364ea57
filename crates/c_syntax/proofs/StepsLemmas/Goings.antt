-- What the loop over the goals does with a token.
use Rattle.std.proofs.Common.{◌≡◌, Bool, true, false, List, ◌∷◌, ◌++◌, Option, Some, None, refl, ap, sym, ◌∙◌}
use Rattle.std.specs.Prelude.{if◌then◌else◌}
use Rattle.c_syntax.specs.declared.steps.goal.Goal.{Goal}
use Rattle.c_syntax.specs.declared.steps.goal.Spot.{Spot}
use Rattle.c_syntax.specs.declared.steps.goal.Take.{Take}
use Rattle.c_syntax.specs.declared.sorts.sort.Sort.{Sort}
use Rattle.c_syntax.specs.Steps.{Step, Steps, StepsOrStays, step_of, is_optional, taken_or, next, first_open, open_before}

taken_by : (found : Option Step) (how : Take) (popped new : List Goal) → Steps (Some how) popped new found → (optional : Bool) (other : Option Step)
    → (step : Step) × (taken_or found optional popped other ≡ Some step) × (how ≡ step.how) × (new ≡ step.goals)
taken_by None how popped new s optional other = absurd s
taken_by (Some step) how popped new s optional other = (record step { goals = step.goals ++ popped }, refl, s.0, s.1)

pub taken : (goals popped new : List Goal) (goal : Goal) (spot : Spot) (sort : Sort) (how : Take) → goals ≡ goal ∷ popped → Steps (Some how) popped new (step_of goal spot sort)
    → (step : Step) × (next goals spot sort ≡ Some step) × (how ≡ step.how) × (new ≡ step.goals)
taken goals popped new goal spot sort how e s =
    let x = taken_by (step_of goal spot sort) how popped new s (is_optional goal) (next popped spot sort) in
    (x.0, ap (λ gs. next gs spot sort) e ∙ x.1, x.2, x.3)

skipped_by : (found : Option Step) (popped new : List Goal) → StepsOrStays None popped new found → (optional : Bool) → optional ≡ true → (spot : Spot) (sort : Sort)
    → next new spot sort ≡ taken_or found optional popped (next popped spot sort)
skipped_by None popped new s true e spot sort = ap (λ gs. next gs spot sort) s
skipped_by None popped new s false e spot sort = absurd cc
skipped_by (Some step) popped new s optional e spot sort = absurd s

stays_same : (found : Option Step) (popped new : List Goal) → StepsOrStays None popped new found → new ≡ popped
stays_same None popped new s = s
stays_same (Some step) popped new s = absurd s

pub skipped : (goals popped new first : List Goal) (goal : Goal) (spot : Spot) (sort : Sort) → goals ≡ goal ∷ popped → is_optional goal ≡ true → StepsOrStays None popped new (step_of goal spot sort)
    → next goals spot sort ≡ next first spot sort → first_open goals ≡ first_open first
    → record { same : next new spot sort ≡ next first spot sort; before : first_open new ≡ first_open first }
skipped goals popped new first goal spot sort e o s same before = record {
  same = skipped_by (step_of goal spot sort) popped new s (is_optional goal) o spot sort ∙ sym (ap (λ gs. next gs spot sort) e) ∙ same;
  before = ap first_open (stays_same (step_of goal spot sort) popped new s) ∙ sym (ap (λ b. if b then first_open popped else open_before goal) o) ∙ sym (ap first_open e) ∙ before;
}
