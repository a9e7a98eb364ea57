-- Goals on top of others: down the stack no more constructs are open, and what follows goals that need take nothing is none that they take.
use Rattle.std.proofs.Common.{◌≡◌, ℕ, ◌≤◌, Bool, true, false, List, [], ◌∷◌, ◌++◌, Option, Some, None, refl, ap, sym, subst, arith}
use Rattle.std.specs.Prelude.{if◌then◌else◌, ◌||◌}
use Rattle.c_syntax.specs.declared.steps.goal.Goal.{Goal}
use Rattle.c_syntax.specs.declared.steps.goal.Goal.TheVariants as G
use Rattle.c_syntax.specs.Steps.{Step, deeper, behind, opened, action, first, is_optional, open_before}
use Rattle.c_syntax.proofs.Growing.{deeper_more}

-- the constructs that hold all that is taken for a goal
abbrev pub floor : Goal → ℕ
floor (G.Operand depth) = depth
floor (G.Target depth) = depth
floor (G.Subscripts depth) = depth
floor (G.AfterOperand named depth) = depth
floor (G.Group depth) = depth
floor (G.Arguments depth) = depth
floor (G.MoreArguments depth) = depth
floor (G.Expression depth) = depth
floor (G.Assign depth) = depth
floor (G.Choice depth) = depth
floor (G.Commas depth) = depth
floor (G.AfterTarget named action depth first) = depth
floor (G.Operators depth first) = depth
floor (G.ChoiceColon depth) = depth
floor (G.OptionalChoice depth) = depth
floor (G.OptionalExpression depth) = depth
floor (G.Action depth) = depth
floor (G.Actions depth) = depth
floor (G.MoreActions depth) = depth
floor (G.ActionTarget depth first) = depth
floor (G.ActionSubscripts depth first) = depth
floor (G.Kind depth) = depth
floor (G.KindWords words depth) = depth
floor (G.Object depth) = depth
floor (G.MoreObjects depth) = depth
floor (G.Lengths depth) = depth
floor (G.Initialiser depth) = depth
floor (G.Init depth) = depth
floor (G.MoreInits depth) = depth
floor (G.OptionalInit depth) = depth
floor (G.Statement depth) = depth
floor (G.Else depth) = depth
floor (G.Block depth) = depth
floor (G.Body depth) = depth
floor (G.First depth) = depth
floor G.Params = deeper 0
floor G.MoreParams = deeper 0
floor (G.OptionalName depth) = depth
floor _ = 0

-- begins with the end of something, or with `while`
abbrev pub closes : Goal → Bool
closes (G.CloseParen depth count) = true
closes (G.CloseBracket depth count) = true
closes (G.CloseBrace depth) = true
closes (G.Semicolon depth) = true
closes (G.LabelColon depth) = true
closes (G.ChoiceColon depth) = true
closes (G.Again depth) = true
closes (G.Body depth) = true
closes _ = false

-- begins with a name only
abbrev pub names : Goal → Bool
names (G.Object depth) = true
names G.Declarator = true
names G.FunctionName = true
names _ = false

-- what is known of the first goal that must be taken
pub record Below : Type 0 where
  pub before : ℕ
  pub closed : Bool
  pub named : Bool

abbrev pub at_goal : Goal → Below
at_goal goal = record { before = open_before goal; closed = closes goal; named = names goal }

abbrev pub over : Below → List Goal → Below
over b [] = b
over b (goal ∷ goals) = if is_optional goal then over b goals else at_goal goal

-- nothing must be taken
abbrev pub bottom : Below
bottom = record { before = 0; closed = true; named = false }

-- A goal that leaves none may stand on top of any.
abbrev pub Fits : Goal → Below → Type 0
Fits (G.CloseParen depth count) b = Unit {0}
Fits (G.CloseBracket depth count) b = Unit {0}
Fits (G.CloseBrace depth) b = Unit {0}
Fits (G.OpenParen depth) b = Unit {0}
Fits (G.Semicolon depth) b = Unit {0}
Fits (G.LabelColon depth) b = Unit {0}
Fits (G.Again depth) b = Unit {0}
Fits (G.Kind depth) b = (b.before ≤ depth) × ((b.closed || b.named) ≡ true)
Fits (G.KindWords words depth) b = (b.before ≤ depth) × ((b.closed || b.named) ≡ true)
Fits goal b = (b.before ≤ floor goal) × (b.closed ≡ true)

abbrev pub AllFit : Below → List Goal → Type 0
AllFit b [] = Unit {0}
AllFit b (goal ∷ goals) = Fits goal (over b goals) × AllFit b goals

over-append : (b : Below) (xs ys : List Goal) → over b (xs ++ ys) ≡ over (over b ys) xs
over-append b [] ys = refl
over-append b (x ∷ xs) ys = ap (λ z. if is_optional x then z else at_goal x) (over-append b xs ys)

pub fits_append : (b : Below) (xs ys : List Goal) → AllFit (over b ys) xs → AllFit b ys → AllFit b (xs ++ ys)
fits_append b [] ys f h = h
fits_append b (x ∷ xs) ys f h = (subst (Fits x) (sym (over-append b xs ys)) f.0, fits_append b xs ys f.1 h)

-- a step from where so many constructs are open at least
abbrev pub Goes : ℕ → Below → Option Step → Type 0
Goes n b None = Unit {0}
Goes n b (Some step) = (n ≤ step.open_before) × AllFit b step.goals

pub goes_behind : (n : ℕ) (b : Below) (left : List Goal) (found : Option Step) → Goes n (over b left) found → AllFit b left → Goes n b (behind left found)
goes_behind n b left None g f = tt
goes_behind n b left (Some step) g f = (g.0, fits_append b step.goals left g.1 f)

pub goes_opened : (k n before : ℕ) (b : Below) (found : Option Step) → n ≤ before → Goes k b found → Goes n b (opened before found)
goes_opened k n before b None le g = tt
goes_opened k n before b (Some step) le g = (le, g.1)

pub same : (n : ℕ) → n ≤ n
same n = omega arith

pub up : (k n : ℕ) → k ≤ n → k ≤ deeper n
up k n le = let h = deeper_more n in omega (arith, le, h)

pub either : (a b : Bool) → a ≡ true → (a || b) ≡ true
either a b e = ap (λ x. x || b) e
