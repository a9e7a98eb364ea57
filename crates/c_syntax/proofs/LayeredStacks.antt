-- What stands on a stack whose goals fit, and the step that takes the first token of its shortest completion.
use Rattle.std.proofs.Common.{◌≡◌, ℕ, ◌≤◌, Bool, true, false, List, [], ◌∷◌, ◌++◌, Option, Some, None, ◌⊎◌, inl, inr, refl, ap, ◌∙◌, subst, arith}
use Rattle.std.specs.Prelude.{if◌then◌else◌, ◌||◌}
use Rattle.c_tree.specs.Terminals.{Terminal}
use Rattle.c_syntax.specs.declared.steps.goal.Goal.{Goal}
use Rattle.c_syntax.specs.declared.steps.goal.Goal.TheVariants as G
use Rattle.c_syntax.specs.declared.steps.goal.Spot.{Spot}
use Rattle.c_syntax.specs.declared.sorts.sort.Sort.{Sort}
use Rattle.c_syntax.specs.declared.sorts.sort.Sort.TheVariants as o
use Rattle.c_syntax.specs.Sorts.{sort_of}
use Rattle.c_syntax.specs.Steps.{Step, first, step_of, is_optional, open_before, taken_or, next, all_optional, first_open}
use Rattle.c_syntax.proofs.Shortest.{example, optional_example, completion}
use Rattle.c_syntax.proofs.Layers.{floor, closes, names, Below, at_goal, over, bottom, Fits, AllFit, fits_append, Goes, same}
use Rattle.c_syntax.proofs.LayeredSteps.{step_goes}

-- ---- stacks

over_open : (goals : List Goal) → (over bottom goals).before ≡ first_open goals
over_open [] = refl
over_open (goal ∷ goals) = branch (is_optional goal) (over_open goals)
  where
    branch : (c : Bool) → (over bottom goals).before ≡ first_open goals → (if c then over bottom goals else at_goal goal).before ≡ (if c then first_open goals else open_before goal)
    branch true h = h
    branch false h = refl

fits_floor : (goal : Goal) (b : Below) → is_optional goal ≡ true → Fits goal b → b.before ≤ floor goal
fits_floor (G.CloseParen depth count) b e f = absurd cc
fits_floor (G.CloseBracket depth count) b e f = absurd cc
fits_floor (G.CloseBrace depth) b e f = absurd cc
fits_floor (G.OpenParen depth) b e f = absurd cc
fits_floor (G.Semicolon depth) b e f = absurd cc
fits_floor (G.LabelColon depth) b e f = absurd cc
fits_floor (G.Again depth) b e f = absurd cc
fits_floor (G.Kind depth) b e f = f.0
fits_floor (G.KindWords words depth) b e f = f.0
fits_floor goal b e f = f.0

taken_goes : (goal : Goal) (goals : List Goal) (found other : Option Step) (c : Bool) → is_optional goal ≡ c → Fits goal (over bottom goals) → AllFit bottom goals → Goes (if c then floor goal else open_before goal) (over bottom goals) found
    → Goes (first_open goals) bottom other → Goes (if c then first_open goals else open_before goal) bottom (taken_or found c goals other)
taken_goes goal goals (Some step) other true e f fs g h =
    (let le = fits_floor goal (over bottom goals) e f in let same = over_open goals in let more = g.0 in omega (arith, le, same, more), fits_append bottom step.goals goals g.1 fs)
taken_goes goal goals (Some step) other false e f fs g h = (g.0, fits_append bottom step.goals goals g.1 fs)
taken_goes goal goals None other true e f fs g h = h
taken_goes goal goals None other false e f fs g h = tt

next_goes : (goals : List Goal) (spot : Spot) (sort : Sort) → AllFit bottom goals → Goes (first_open goals) bottom (next goals spot sort)
next_goes [] spot sort f = tt
next_goes (goal ∷ goals) spot sort f =
    taken_goes goal goals (step_of goal spot sort) (next goals spot sort) (is_optional goal) refl f.0 f.1 (step_goes goal spot sort (over bottom goals) f.0) (next_goes goals spot sort f.1)

-- the goals that a step leaves, and how many constructs are open before it
pub step_fits : (goals : List Goal) (spot : Spot) (sort : Sort) (step : Step) → AllFit bottom goals → next goals spot sort ≡ Some step → (first_open goals ≤ step.open_before) × AllFit bottom step.goals
step_fits goals spot sort step f e = subst (Goes (first_open goals) bottom) e (next_goes goals spot sort f)

pub first_fits : AllFit bottom (G.Items ∷ [])
first_fits = ((same 0, refl), tt)

-- ---- the shortest completion

abbrev closing_sort : Sort → Bool
closing_sort o.RightParen = true
closing_sort o.RightBracket = true
closing_sort o.RightBrace = true
closing_sort o.Semicolon = true
closing_sort o.Colon = true
closing_sort o.While = true
closing_sort _ = false

abbrev is_name : Sort → Bool
is_name o.Name = true
is_name _ = false

abbrev none : Option Step → Bool
none None = true
none (Some step) = false

abbrev holds_if : Bool → Bool → Bool
holds_if a b = if a then b else true

told : (a b : Bool) → holds_if a b ≡ true → a ≡ true → b ≡ true
told true b h e = h
told false b h e = absurd cc

is_none : (found : Option Step) → none found ≡ true → found ≡ None
is_none None e = refl
is_none (Some step) e = absurd cc

-- no goal for which nothing need be taken takes one of these
closing_none : (goal : Goal) (spot : Spot) (sort : Sort) → holds_if (closing_sort sort) (holds_if (is_optional goal) (none (step_of goal spot sort))) ≡ true
closing_none (G.CloseParen depth count) spot o.RightParen = refl
closing_none goal spot o.RightParen = refl
closing_none goal spot o.RightBracket = refl
closing_none goal spot o.RightBrace = refl
closing_none goal spot o.Semicolon = refl
closing_none goal spot o.Colon = refl
closing_none goal spot o.While = refl
closing_none goal spot _ = refl

abbrev is_words : Goal → Bool
is_words (G.KindWords words depth) = true
is_words _ = false

words_none : (goal : Goal) (spot : Spot) (sort : Sort) → is_words goal ≡ true → is_name sort ≡ true → step_of goal spot sort ≡ None
words_none (G.KindWords words depth) spot o.Name e h = refl
words_none (G.KindWords words depth) spot _ e h = absurd cc
words_none _ spot sort e h = absurd cc

fits_either : (goal : Goal) (b : Below) → is_optional goal ≡ true → Fits goal b → (b.closed ≡ true) ⊎ ((is_words goal ≡ true) × ((b.closed || b.named) ≡ true))
fits_either (G.KindWords words depth) b e f = inr (refl, f.1)
fits_either (G.CloseParen depth count) b e f = absurd cc
fits_either (G.CloseBracket depth count) b e f = absurd cc
fits_either (G.CloseBrace depth) b e f = absurd cc
fits_either (G.OpenParen depth) b e f = absurd cc
fits_either (G.Semicolon depth) b e f = absurd cc
fits_either (G.LabelColon depth) b e f = absurd cc
fits_either (G.Again depth) b e f = absurd cc
fits_either (G.Kind depth) b e f = absurd cc
fits_either goal b e f = inl f.1

either_one : (a b : Bool) → (a || b) ≡ true → (a ≡ true) ⊎ (b ≡ true)
either_one true b e = inl refl
either_one false b e = inr e

-- the first token of the shortest completion, and the step that takes it
pub record Begins (goals : List Goal) (spot : Spot) (b : Below) (before : ℕ) : Type 0 where
  pub first : Terminal
  pub rest : List Terminal
  pub step : Step
  pub shape : completion goals ≡ first ∷ rest
  pub takes : next goals spot (sort_of first.kind) ≡ Some step
  pub opens : step.open_before ≡ before
  closed : holds_if b.closed (closing_sort (sort_of first.kind)) ≡ true
  named : holds_if b.named (is_name (sort_of first.kind)) ≡ true

record Starts (goal : Goal) (spot : Spot) : Type 0 where
  first : Terminal
  rest : List Terminal
  step : Step
  shape : example goal ≡ first ∷ rest
  takes : step_of goal spot (sort_of first.kind) ≡ Some step
  opens : step.open_before ≡ open_before goal
  closed : holds_if (closes goal) (closing_sort (sort_of first.kind)) ≡ true
  named : holds_if (names goal) (is_name (sort_of first.kind)) ≡ true

starts : (goal : Goal) (spot : Spot) → is_optional goal ≡ false → Starts goal spot
starts (G.Operand depth) spot e = record { first = _; rest = _; step = _; shape = refl; takes = refl; opens = refl; closed = refl; named = refl }
starts (G.Target depth) spot e = record { first = _; rest = _; step = _; shape = refl; takes = refl; opens = refl; closed = refl; named = refl }
starts (G.Group depth) spot e = record { first = _; rest = _; step = _; shape = refl; takes = refl; opens = refl; closed = refl; named = refl }
starts (G.Expression depth) spot e = record { first = _; rest = _; step = _; shape = refl; takes = refl; opens = refl; closed = refl; named = refl }
starts (G.Assign depth) spot e = record { first = _; rest = _; step = _; shape = refl; takes = refl; opens = refl; closed = refl; named = refl }
starts (G.Choice depth) spot e = record { first = _; rest = _; step = _; shape = refl; takes = refl; opens = refl; closed = refl; named = refl }
starts (G.ChoiceColon depth) spot e = record { first = _; rest = _; step = _; shape = refl; takes = refl; opens = refl; closed = refl; named = refl }
starts (G.Action depth) spot e = record { first = _; rest = _; step = _; shape = refl; takes = refl; opens = refl; closed = refl; named = refl }
starts (G.ActionTarget depth first) spot e = record { first = _; rest = _; step = _; shape = refl; takes = refl; opens = refl; closed = refl; named = refl }
starts (G.CloseParen depth count) spot e = record { first = _; rest = _; step = _; shape = refl; takes = refl; opens = refl; closed = refl; named = refl }
starts (G.CloseBracket depth count) spot e = record { first = _; rest = _; step = _; shape = refl; takes = refl; opens = refl; closed = refl; named = refl }
starts (G.CloseBrace depth) spot e = record { first = _; rest = _; step = _; shape = refl; takes = refl; opens = refl; closed = refl; named = refl }
starts (G.OpenParen depth) spot e = record { first = _; rest = _; step = _; shape = refl; takes = refl; opens = refl; closed = refl; named = refl }
starts (G.Semicolon depth) spot e = record { first = _; rest = _; step = _; shape = refl; takes = refl; opens = refl; closed = refl; named = refl }
starts (G.LabelColon depth) spot e = record { first = _; rest = _; step = _; shape = refl; takes = refl; opens = refl; closed = refl; named = refl }
starts (G.Kind depth) spot e = record { first = _; rest = _; step = _; shape = refl; takes = refl; opens = refl; closed = refl; named = refl }
starts (G.Object depth) spot e = record { first = _; rest = _; step = _; shape = refl; takes = refl; opens = refl; closed = refl; named = refl }
starts (G.Init depth) spot e = record { first = _; rest = _; step = _; shape = refl; takes = refl; opens = refl; closed = refl; named = refl }
starts (G.Statement depth) spot e = record { first = _; rest = _; step = _; shape = refl; takes = refl; opens = refl; closed = refl; named = refl }
starts (G.Again depth) spot e = record { first = _; rest = _; step = _; shape = refl; takes = refl; opens = refl; closed = refl; named = refl }
starts (G.Block depth) spot e = record { first = _; rest = _; step = _; shape = refl; takes = refl; opens = refl; closed = refl; named = refl }
starts (G.Body depth) spot e = record { first = _; rest = _; step = _; shape = refl; takes = refl; opens = refl; closed = refl; named = refl }
starts (G.First depth) spot e = record { first = _; rest = _; step = _; shape = refl; takes = refl; opens = refl; closed = refl; named = refl }
starts (G.Item constant) spot e = record { first = _; rest = _; step = _; shape = refl; takes = refl; opens = refl; closed = refl; named = refl }
starts G.FunctionName spot e = record { first = _; rest = _; step = _; shape = refl; takes = refl; opens = refl; closed = refl; named = refl }
starts G.Declarator spot e = record { first = _; rest = _; step = _; shape = refl; takes = refl; opens = refl; closed = refl; named = refl }
starts G.AfterDeclarator spot e = record { first = _; rest = _; step = _; shape = refl; takes = refl; opens = refl; closed = refl; named = refl }
starts G.Definition spot e = record { first = _; rest = _; step = _; shape = refl; takes = refl; opens = refl; closed = refl; named = refl }
starts _ spot e = absurd cc

-- a goal that needs nothing leaves the token to those below it
passes : (goal : Goal) (spot : Spot) (sort : Sort) (b : Below) → is_optional goal ≡ true → Fits goal b → holds_if b.closed (closing_sort sort) ≡ true → holds_if b.named (is_name sort) ≡ true → step_of goal spot sort ≡ None
passes goal spot sort b e f closed named = elim (fits_either goal b e f) [
  | inl c ↦ by_closing (told b.closed (closing_sort sort) closed c)
  | inr w ↦ elim (either_one b.closed b.named w.1) [
    | inl c ↦ by_closing (told b.closed (closing_sort sort) closed c)
    | inr n ↦ words_none goal spot sort w.0 (told b.named (is_name sort) named n)
  ]
]
  where
    by_closing : closing_sort sort ≡ true → step_of goal spot sort ≡ None
    by_closing c =
        is_none (step_of goal spot sort) (told (is_optional goal) (none (step_of goal spot sort)) (told (closing_sort sort) (holds_if (is_optional goal) (none (step_of goal spot sort))) (closing_none goal spot sort) c) e)

pub begins : (goals : List Goal) (spot : Spot) → AllFit bottom goals → all_optional goals ≡ false → Begins goals spot (over bottom goals) (first_open goals)
begins [] spot f e = absurd cc
begins (goal ∷ goals) spot f e = branch (is_optional goal) refl e (begins goals spot f.1)
  where
    branch : (c : Bool) → is_optional goal ≡ c → (if c then all_optional goals else false) ≡ false → (all_optional goals ≡ false → Begins goals spot (over bottom goals) (first_open goals))
        → Begins (goal ∷ goals) spot (if c then over bottom goals else at_goal goal) (if c then first_open goals else open_before goal)
    branch true same e below =
        let x = below e in
        let left = passes goal spot (sort_of x.first.kind) (over bottom goals) same f.0 x.closed x.named in
        record {
          first = x.first;
          rest = x.rest;
          step = x.step;
          shape = ap (λ y. y ++ completion goals) (optional_example goal same) ∙ x.shape;
          takes =
              ap (λ y. taken_or y (is_optional goal) goals (next goals spot (sort_of x.first.kind))) left
              ∙ ap (λ y. taken_or None y goals (next goals spot (sort_of x.first.kind))) same ∙ x.takes;
          opens = x.opens;
          closed = x.closed;
          named = x.named;
        }
    branch false same e below =
        let x = starts goal spot same in
        record {
          first = x.first;
          rest = x.rest ++ completion goals;
          step = record x.step { goals = x.step.goals ++ goals };
          shape = ap (λ y. y ++ completion goals) x.shape;
          takes = ap (λ y. taken_or y (is_optional goal) goals (next goals spot (sort_of x.first.kind))) x.takes;
          opens = x.opens;
          closed = x.closed;
          named = x.named;
        }
