-- What a stack of goals does with a token.
use Rattle.std.specs.Prelude.{◌≡◌, List, Some, None}
use Rattle.c_syntax.specs.declared.steps.goal.Goal.{Goal}
use Rattle.c_syntax.specs.declared.steps.goal.Spot.{Spot}
use Rattle.c_syntax.specs.declared.sorts.sort.Sort.{Sort}
use Rattle.c_syntax.specs.declared.steps.advance.Advance.{Advance}
use Rattle.c_syntax.specs.declared.steps.advance.Advance.TheVariants as a
use Rattle.c_syntax.specs.Steps.{Step, next, first_open}

abbrev pub Advances : Advance → List Goal → List Goal → Spot → Sort → Type 0
Advances (a.Taken how) old new spot sort = (step : Step) × (next old spot sort ≡ Some step) × (how ≡ step.how) × (new ≡ step.goals)
Advances (a.Stopped open_before) old new spot sort = (next old spot sort ≡ None) × (open_before ≡ first_open old)
