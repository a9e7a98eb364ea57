-- What each goal does with a token: how it is taken, and which goals are left.
pub mod Advances
use Rattle.std.specs.Prelude.{◌≡◌, ℕ, ◌+◌, nat_le, nat_lt, Bool, true, false, List, [], ◌∷◌, ◌++◌, Option, Some, None, if◌then◌else◌}
use Rattle.c_tree.specs.declared.specifier.Specifier.TheVariants as s
use Rattle.c_syntax.specs.declared.sorts.sort.Sort.{Sort}
use Rattle.c_syntax.specs.declared.sorts.sort.Sort.TheVariants as o
use Rattle.c_syntax.specs.declared.sorts.words.Words.{Words}
use Rattle.c_syntax.specs.declared.sorts.words.Words.TheVariants as w
use Rattle.c_syntax.specs.declared.steps.goal.Goal.{Goal}
use Rattle.c_syntax.specs.declared.steps.goal.Goal.TheVariants as G
use Rattle.c_syntax.specs.declared.steps.goal.Raise.{Raise}
use Rattle.c_syntax.specs.declared.steps.goal.Raise.TheVariants as r
use Rattle.c_syntax.specs.declared.steps.goal.Take.{Take}
use Rattle.c_syntax.specs.declared.steps.goal.Spot.{Spot}
use Rattle.c_syntax.specs.Sorts.{begins_kind}
use Rattle.c_syntax.specs.Sorts.Words.{starting, with_word}

-- ---- counting, which stands still beyond the limits

unfoldable pub deeper : ℕ → ℕ
deeper depth = if nat_lt depth 255 then depth + 1 else depth

unfoldable pub more : ℕ → ℕ
more count = if nat_lt count 65535 then count + 1 else count

abbrev pub is_surplus : ℕ → Bool
is_surplus count = nat_le 256 count

-- ---- what a taken token does

-- how it is taken, how many constructs are open before it, and the goals that are left
pub record Step : Type 0 where
  pub how : Take
  pub open_before : ℕ
  pub goals : List Goal

abbrev pub fresh : Spot → Spot
fresh spot = record spot { count = 0 }

abbrev pub raise : Spot → ℕ → Raise → List Goal → Option Step
raise spot depth raised goals = Some (record {
  how = record { nesting = depth; surplus = false; count = spot.count; raise = raised };
  open_before = depth;
  goals = goals;
})

abbrev pub take : Spot → ℕ → List Goal → Option Step
take spot depth goals = raise spot depth r.Nothing goals

abbrev pub operate : Spot → ℕ → Raise → List Goal → Option Step
operate spot depth raised goals = Some (record {
  how = record { nesting = depth; surplus = is_surplus spot.count; count = more spot.count; raise = raised };
  open_before = depth;
  goals = goals;
})

-- these goals behind those that are left
abbrev pub behind : List Goal → Option Step → Option Step
behind goals None = None
behind goals (Some step) = Some (record step { goals = step.goals ++ goals })

-- so many constructs are open before the token
abbrev pub opened : ℕ → Option Step → Option Step
opened before None = None
opened before (Some step) = Some (record step { open_before = before })

-- the end of a pair
abbrev pub closing : ℕ → Option Step → Option Step
closing depth step = opened (deeper depth) step

abbrev pub only_if : Bool → Option Step → Option Step
only_if true step = step
only_if false step = None

-- ---- expressions, C11 6.5

-- the bracket of a subscript, behind which this goal is left
abbrev pub subscript : Spot → ℕ → Goal → Option Step
subscript spot depth left = take (fresh spot) depth (G.Expression (deeper depth) ∷ G.CloseBracket depth spot.count ∷ left ∷ [])

abbrev pub operand : Spot → ℕ → Sort → Option Step
operand spot depth o.Number = take spot depth []
operand spot depth o.Name = take spot depth (G.AfterOperand true depth ∷ [])
operand spot depth o.LeftParen = take spot depth (G.Group depth ∷ [])
operand spot depth o.Prefix = take spot depth (G.Operand (deeper depth) ∷ [])
operand spot depth o.Sign = take spot depth (G.Operand (deeper depth) ∷ [])
operand spot depth o.Bump = take spot depth (G.Target (deeper depth) ∷ [])
operand spot depth _ = None

abbrev pub target : Spot → ℕ → Sort → Option Step
target spot depth o.Name = take spot depth (G.Subscripts depth ∷ [])
target spot depth _ = None

abbrev pub subscripts : Spot → ℕ → Sort → Option Step
subscripts spot depth o.LeftBracket = subscript spot depth (G.Subscripts depth)
subscripts spot depth _ = None

-- the parenthesis of a call, behind which these goals are left
abbrev pub call : Bool → Spot → ℕ → List Goal → Option Step
call named spot depth left = only_if named (take (fresh spot) depth (G.Arguments (deeper depth) ∷ G.CloseParen depth spot.count ∷ left))

abbrev pub after_operand : Spot → Bool → ℕ → Sort → Option Step
after_operand spot named depth o.LeftParen = call named spot depth []
after_operand spot named depth o.LeftBracket = subscript spot depth (G.AfterOperand false depth)
after_operand spot named depth o.Bump = take spot depth []
after_operand spot named depth _ = None

-- an expression without assignment and comma
abbrev pub choice : Spot → ℕ → Sort → Option Step
choice spot depth sort = behind (G.Operators depth spot.index ∷ []) (operand spot depth sort)

abbrev pub assign : Spot → ℕ → Sort → Option Step
assign spot depth o.Name = take spot depth (G.AfterTarget true false depth spot.index ∷ [])
assign spot depth sort = choice spot depth sort

abbrev pub arguments : Spot → ℕ → Sort → Option Step
arguments spot depth sort = behind (G.MoreArguments depth ∷ []) (assign spot depth sort)

abbrev pub more_arguments : Spot → ℕ → Sort → Option Step
more_arguments spot depth o.Comma = take (fresh spot) depth (G.Assign depth ∷ G.MoreArguments depth ∷ [])
more_arguments spot depth _ = None

abbrev pub commas : Spot → ℕ → Sort → Option Step
commas spot depth o.Comma = operate spot depth r.Nothing (G.Assign depth ∷ G.Commas depth ∷ [])
commas spot depth _ = None

abbrev pub operator : Spot → ℕ → ℕ → Raise → Option Step
operator spot depth first raised = operate spot depth raised (G.Operand depth ∷ G.Operators depth first ∷ [])

abbrev pub question : Spot → ℕ → Raise → Option Step
question spot depth raised = raise spot depth raised (G.Expression (deeper depth) ∷ G.ChoiceColon depth ∷ [])

abbrev pub operators : Spot → ℕ → ℕ → Sort → Option Step
operators spot depth first o.Sign = operator spot depth first r.Nothing
operators spot depth first o.Operator = operator spot depth first r.Nothing
operators spot depth first o.Question = question spot depth (r.From first)
operators spot depth first _ = None

abbrev pub choice_colon : Spot → ℕ → Sort → Option Step
choice_colon spot depth o.Colon = take spot depth (G.Choice (deeper depth) ∷ [])
choice_colon spot depth _ = None

-- The operator of an action is none of an expression.
abbrev pub assignment : Spot → Bool → ℕ → Option Step
assignment spot true depth = take (fresh spot) depth (G.Assign depth ∷ [])
assignment spot false depth = operate spot depth r.Nothing (G.Assign depth ∷ [])

abbrev pub after_target : Spot → Bool → Bool → ℕ → ℕ → Sort → Option Step
after_target spot named action depth first o.LeftParen = call named spot depth (G.Operators depth first ∷ [])
after_target spot named action depth first o.LeftBracket = subscript spot depth (G.AfterTarget false action depth first)
after_target spot named action depth first o.Bump = take spot depth (G.Operators depth first ∷ [])
after_target spot named action depth first o.Equal = assignment spot action depth
after_target spot named action depth first o.Assignment = assignment spot action depth
after_target spot named action depth first sort = operators spot depth first sort

-- an expression, C11 6.5.17
abbrev pub expression : Spot → ℕ → Sort → Option Step
expression spot depth sort = behind (G.Commas depth ∷ []) (assign spot depth sort)

-- ---- types, C11 6.7.2

abbrev pub typed : Spot → ℕ → Words → List Goal → Option Step
typed spot depth words left = take spot depth (G.KindWords words depth ∷ left)

abbrev pub kind : Spot → ℕ → Sort → Option Step
kind spot depth o.Const = take spot depth (G.Kind depth ∷ [])
kind spot depth o.TypeName = typed spot depth w.Named []
kind spot depth (o.Specifier s.Void) = None
kind spot depth (o.Specifier word) = typed spot depth (starting word) []
kind spot depth _ = None

abbrev pub typed_if : Spot → ℕ → Option Words → Option Step
typed_if spot depth None = None
typed_if spot depth (Some words) = typed spot depth words []

abbrev pub kind_words : Spot → Words → ℕ → Sort → Option Step
kind_words spot words depth o.Const = typed spot depth words []
kind_words spot words depth (o.Specifier word) = typed_if spot depth (with_word words word)
kind_words spot words depth _ = None

-- behind a parenthesis: a type and its operand, or an expression
abbrev pub group : Spot → ℕ → Sort → Option Step
group spot depth sort =
    if begins_kind sort then behind (G.CloseParen depth spot.count ∷ G.Operand (deeper depth) ∷ []) (kind spot (deeper depth) sort)
    else behind (G.CloseParen depth spot.count ∷ []) (expression (fresh spot) (deeper depth) sort)

-- ---- objects, C11 6.7.6 and 6.7.9

abbrev pub object : Spot → ℕ → Sort → Option Step
object spot depth o.Name = take spot depth (G.Lengths depth ∷ G.Initialiser depth ∷ [])
object spot depth _ = None

abbrev pub more_objects : Spot → ℕ → Sort → Option Step
more_objects spot depth o.Comma = take spot depth (G.Object depth ∷ G.MoreObjects depth ∷ [])
more_objects spot depth _ = None

abbrev pub length_goals : ℕ → List Goal
length_goals depth = G.OptionalChoice (deeper depth) ∷ G.CloseBracket depth 0 ∷ G.Lengths depth ∷ []

abbrev pub lengths : Spot → ℕ → Sort → Option Step
lengths spot depth o.LeftBracket = take (fresh spot) depth (length_goals depth)
lengths spot depth _ = None

abbrev pub initialiser : Spot → ℕ → Sort → Option Step
initialiser spot depth o.Equal = take (fresh spot) depth (G.Init depth ∷ [])
initialiser spot depth _ = None

abbrev pub init : Spot → ℕ → Sort → Option Step
init spot depth o.LeftBrace = take (fresh spot) depth (G.Init (deeper depth) ∷ G.MoreInits (deeper depth) ∷ G.CloseBrace depth ∷ [])
init spot depth sort = assign spot depth sort

abbrev pub more_inits : Spot → ℕ → Sort → Option Step
more_inits spot depth o.Comma = take (fresh spot) depth (G.OptionalInit depth ∷ [])
more_inits spot depth _ = None

abbrev pub optional_init : Spot → ℕ → Sort → Option Step
optional_init spot depth sort = behind (G.MoreInits depth ∷ []) (init spot depth sort)

abbrev pub object_goals : ℕ → List Goal
object_goals depth = G.Object depth ∷ G.MoreObjects depth ∷ G.Semicolon depth ∷ []

abbrev pub declaration : Spot → ℕ → Sort → Option Step
declaration spot depth sort = behind (object_goals depth) (kind spot depth sort)

-- ---- actions, C11 6.8.3

abbrev pub action : Spot → ℕ → Sort → Option Step
action spot depth o.Name = take spot depth (G.AfterTarget true true depth spot.index ∷ [])
action spot depth o.Bump = take spot depth (G.ActionTarget depth spot.index ∷ [])
action spot depth sort = choice spot depth sort

abbrev pub actions : Spot → ℕ → Sort → Option Step
actions spot depth sort = behind (G.MoreActions depth ∷ []) (action spot depth sort)

abbrev pub more_actions : Spot → ℕ → Sort → Option Step
more_actions spot depth o.Comma = take (fresh spot) depth (G.Action depth ∷ G.MoreActions depth ∷ [])
more_actions spot depth _ = None

abbrev pub action_target : Spot → ℕ → ℕ → Sort → Option Step
action_target spot depth first o.Name = take spot depth (G.ActionSubscripts depth first ∷ [])
action_target spot depth first _ = None

-- Where the action goes on, its `++` or `--` was a prefix operator of an expression.
abbrev pub action_subscripts : Spot → ℕ → ℕ → Sort → Option Step
action_subscripts spot depth first o.LeftBracket = subscript spot depth (G.ActionSubscripts depth first)
action_subscripts spot depth first o.Sign = operator spot depth first (r.Behind first)
action_subscripts spot depth first o.Operator = operator spot depth first (r.Behind first)
action_subscripts spot depth first o.Question = question spot depth (r.Both first)
action_subscripts spot depth first _ = None

-- ---- statements, C11 6.8

-- an expression in parentheses
abbrev pub test_goals : ℕ → List Goal → List Goal
test_goals depth left = G.OpenParen depth ∷ G.Expression (deeper depth) ∷ G.CloseParen depth 0 ∷ left

abbrev pub for_goals : ℕ → List Goal
for_goals depth =
    G.OpenParen depth ∷ G.First (deeper depth) ∷ G.OptionalExpression (deeper depth) ∷ G.Semicolon (deeper depth) ∷ G.Actions (deeper depth)
    ∷ G.CloseParen depth 0 ∷ G.Statement depth ∷ []

abbrev pub first_action : Spot → ℕ → Sort → Option Step
first_action spot depth sort = behind (G.MoreActions depth ∷ G.Semicolon depth ∷ []) (action spot depth sort)

abbrev pub selection : Spot → ℕ → Sort → Option Step
selection spot depth o.If = take spot depth (test_goals depth (G.Statement depth ∷ G.Else depth ∷ []))
selection spot depth o.Switch = take spot depth (test_goals depth (G.Block depth ∷ []))
selection spot depth sort = first_action spot depth sort

abbrev pub iteration : Spot → ℕ → Sort → Option Step
iteration spot depth o.While = take spot depth (test_goals depth (G.Statement depth ∷ []))
iteration spot depth o.Do = take spot depth (G.Statement depth ∷ G.Again depth ∷ test_goals depth (G.Semicolon depth ∷ []))
iteration spot depth o.For = take spot depth (for_goals depth)
iteration spot depth sort = selection spot depth sort

-- the first token of a statement, where so many constructs hold its tokens
abbrev pub inner_statement : Spot → ℕ → Sort → Option Step
inner_statement spot depth o.LeftBrace = take spot depth (G.Body depth ∷ [])
inner_statement spot depth o.Semicolon = take spot depth []
inner_statement spot depth o.Case = take spot depth (G.Choice depth ∷ G.LabelColon depth ∷ G.Statement depth ∷ [])
inner_statement spot depth o.Default = take spot depth (G.LabelColon depth ∷ G.Statement depth ∷ [])
inner_statement spot depth o.Break = take spot depth (G.Semicolon depth ∷ [])
inner_statement spot depth o.Continue = take spot depth (G.Semicolon depth ∷ [])
inner_statement spot depth o.Return = take spot depth (G.OptionalExpression depth ∷ G.Semicolon depth ∷ [])
inner_statement spot depth sort = iteration spot depth sort

-- A statement holds all its tokens.
abbrev pub statement : Spot → ℕ → Sort → Option Step
statement spot depth sort = opened depth (inner_statement (fresh spot) (deeper depth) sort)

abbrev pub other_branch : Spot → ℕ → Sort → Option Step
other_branch spot depth o.Else = take spot depth (G.Statement depth ∷ [])
other_branch spot depth _ = None

-- the block of a `switch`, which is a statement
abbrev pub block : Spot → ℕ → Sort → Option Step
block spot depth o.LeftBrace = opened depth (take spot (deeper depth) (G.Body (deeper depth) ∷ []))
block spot depth _ = None

abbrev pub statement_or_declaration : Spot → ℕ → Sort → Option Step
statement_or_declaration spot depth sort = if begins_kind sort then declaration spot depth sort else statement spot depth sort

abbrev pub body : Spot → ℕ → Sort → Option Step
body spot depth o.RightBrace = take spot depth []
body spot depth sort = behind (G.Body depth ∷ []) (statement_or_declaration spot depth sort)

abbrev pub first : Spot → ℕ → Sort → Option Step
first spot depth o.Semicolon = take spot depth []
first spot depth sort = if begins_kind sort then declaration spot depth sort else first_action spot depth sort

-- ---- functions and programs, C11 6.7.6.3 and 6.9

abbrev pub item : Spot → Bool → Sort → Option Step
item spot constant o.Static = if constant then None else take spot 0 (G.Item false ∷ [])
item spot constant o.Inline = if constant then None else take spot 0 (G.Item false ∷ [])
item spot constant o.Const = take spot 0 (G.Item true ∷ [])
item spot constant o.TypeName = typed spot 0 w.Named (G.Declarator ∷ [])
item spot constant (o.Specifier s.Void) = typed spot 0 w.Void (G.FunctionName ∷ [])
item spot constant (o.Specifier word) = typed spot 0 (starting word) (G.Declarator ∷ [])
item spot constant _ = None

abbrev pub items : Spot → Sort → Option Step
items spot sort = behind (G.Items ∷ []) (item spot false sort)

abbrev pub function_name : Spot → Sort → Option Step
function_name spot o.Name = take spot 0 (G.OpenParen 0 ∷ G.Params ∷ G.CloseParen 0 0 ∷ G.Definition ∷ [])
function_name spot _ = None

abbrev pub declarator : Spot → Sort → Option Step
declarator spot o.Name = take spot 0 (G.AfterDeclarator ∷ [])
declarator spot _ = None

abbrev pub after_declarator : Spot → Sort → Option Step
after_declarator spot o.LeftParen = take (fresh spot) 0 (G.Params ∷ G.CloseParen 0 0 ∷ G.Definition ∷ [])
after_declarator spot o.Semicolon = take (fresh spot) 0 []
after_declarator spot o.LeftBracket =
    take (fresh spot) 0 (G.OptionalChoice (deeper 0) ∷ G.CloseBracket 0 0 ∷ G.Lengths 0 ∷ G.Initialiser 0 ∷ G.MoreObjects 0 ∷ G.Semicolon 0 ∷ [])
after_declarator spot o.Equal = take (fresh spot) 0 (G.Init 0 ∷ G.MoreObjects 0 ∷ G.Semicolon 0 ∷ [])
after_declarator spot o.Comma = take (fresh spot) 0 (G.Object 0 ∷ G.MoreObjects 0 ∷ G.Semicolon 0 ∷ [])
after_declarator spot _ = None

abbrev pub definition : Spot → Sort → Option Step
definition spot o.Semicolon = take spot 0 []
definition spot o.LeftBrace = take spot 0 (G.Body 0 ∷ [])
definition spot _ = None

abbrev pub param_goals : List Goal
param_goals = G.OptionalName (deeper 0) ∷ G.Lengths (deeper 0) ∷ G.MoreParams ∷ []

abbrev pub params : Spot → Sort → Option Step
params spot (o.Specifier s.Void) = take spot (deeper 0) []
params spot sort = behind param_goals (kind spot (deeper 0) sort)

abbrev pub more_params : Spot → Sort → Option Step
more_params spot o.Comma = take spot (deeper 0) (G.Kind (deeper 0) ∷ param_goals)
more_params spot _ = None

abbrev pub optional_name : Spot → ℕ → Sort → Option Step
optional_name spot depth o.Name = take spot depth []
optional_name spot depth _ = None

-- ---- each goal

abbrev pub same_close : Sort → Sort → Bool
same_close o.RightParen o.RightParen = true
same_close o.RightBracket o.RightBracket = true
same_close o.RightBrace o.RightBrace = true
same_close o.LeftParen o.LeftParen = true
same_close o.Semicolon o.Semicolon = true
same_close o.Colon o.Colon = true
same_close o.While o.While = true
same_close _ _ = false

abbrev pub is_close : Sort → Bool
is_close sort = same_close sort sort

-- a token of this sort, outside which the expression has so many operators
abbrev pub close : Spot → ℕ → ℕ → Sort → Sort → Option Step
close spot depth count wanted sort = only_if (same_close wanted sort) (take (record spot { count = count }) depth [])

abbrev pub operand_step : Goal → Spot → Sort → Option Step
operand_step (G.Operand depth) spot sort = operand spot depth sort
operand_step (G.Target depth) spot sort = target spot depth sort
operand_step (G.Subscripts depth) spot sort = subscripts spot depth sort
operand_step (G.AfterOperand named depth) spot sort = after_operand spot named depth sort
operand_step (G.Group depth) spot sort = group spot depth sort
operand_step (G.Arguments depth) spot sort = arguments spot depth sort
operand_step (G.MoreArguments depth) spot sort = more_arguments spot depth sort
operand_step _ spot sort = None

abbrev pub expression_step : Goal → Spot → Sort → Option Step
expression_step (G.Expression depth) spot sort = expression spot depth sort
expression_step (G.Assign depth) spot sort = assign spot depth sort
expression_step (G.Choice depth) spot sort = choice spot depth sort
expression_step (G.Commas depth) spot sort = commas spot depth sort
expression_step (G.AfterTarget named action depth first) spot sort = after_target spot named action depth first sort
expression_step (G.Operators depth first) spot sort = operators spot depth first sort
expression_step (G.ChoiceColon depth) spot sort = choice_colon spot depth sort
expression_step (G.OptionalChoice depth) spot sort = choice spot depth sort
expression_step (G.OptionalExpression depth) spot sort = expression spot depth sort
expression_step goal spot sort = operand_step goal spot sort

abbrev pub declaration_step : Goal → Spot → Sort → Option Step
declaration_step (G.Kind depth) spot sort = kind spot depth sort
declaration_step (G.KindWords words depth) spot sort = kind_words spot words depth sort
declaration_step (G.Object depth) spot sort = object spot depth sort
declaration_step (G.MoreObjects depth) spot sort = more_objects spot depth sort
declaration_step (G.Lengths depth) spot sort = lengths spot depth sort
declaration_step (G.Initialiser depth) spot sort = initialiser spot depth sort
declaration_step (G.Init depth) spot sort = init spot depth sort
declaration_step (G.MoreInits depth) spot sort = more_inits spot depth sort
declaration_step (G.OptionalInit depth) spot sort = optional_init spot depth sort
declaration_step goal spot sort = expression_step goal spot sort

abbrev pub item_step : Goal → Spot → Sort → Option Step
item_step G.Params spot sort = params spot sort
item_step G.MoreParams spot sort = more_params spot sort
item_step (G.OptionalName depth) spot sort = optional_name spot depth sort
item_step G.Items spot sort = items spot sort
item_step (G.Item constant) spot sort = item spot constant sort
item_step G.FunctionName spot sort = function_name spot sort
item_step G.Declarator spot sort = declarator spot sort
item_step G.AfterDeclarator spot sort = after_declarator spot sort
item_step G.Definition spot sort = definition spot sort
item_step goal spot sort = declaration_step goal spot sort

abbrev pub statement_step : Goal → Spot → Sort → Option Step
statement_step (G.Statement depth) spot sort = statement spot depth sort
statement_step (G.Else depth) spot sort = other_branch spot depth sort
statement_step (G.Block depth) spot sort = block spot depth sort
statement_step (G.Body depth) spot sort = body spot depth sort
statement_step (G.First depth) spot sort = first spot depth sort
statement_step (G.Action depth) spot sort = action spot depth sort
statement_step (G.Actions depth) spot sort = actions spot depth sort
statement_step (G.MoreActions depth) spot sort = more_actions spot depth sort
statement_step (G.ActionTarget depth first) spot sort = action_target spot depth first sort
statement_step (G.ActionSubscripts depth first) spot sort = action_subscripts spot depth first sort
statement_step goal spot sort = item_step goal spot sort

abbrev pub step_of : Goal → Spot → Sort → Option Step
step_of (G.CloseParen depth count) spot sort = closing depth (close spot depth count o.RightParen sort)
step_of (G.CloseBracket depth count) spot sort = closing depth (close spot depth count o.RightBracket sort)
step_of (G.CloseBrace depth) spot sort = closing depth (close spot depth 0 o.RightBrace sort)
step_of (G.OpenParen depth) spot sort = close spot depth 0 o.LeftParen sort
step_of (G.Semicolon depth) spot sort = close spot depth 0 o.Semicolon sort
step_of (G.LabelColon depth) spot sort = close spot depth 0 o.Colon sort
step_of (G.Again depth) spot sort = close spot depth 0 o.While sort
step_of goal spot sort = statement_step goal spot sort

-- nothing need be taken for it
abbrev pub is_optional : Goal → Bool
is_optional (G.Subscripts depth) = true
is_optional (G.AfterOperand named depth) = true
is_optional (G.Arguments depth) = true
is_optional (G.MoreArguments depth) = true
is_optional (G.Commas depth) = true
is_optional (G.AfterTarget named action depth first) = true
is_optional (G.Operators depth first) = true
is_optional (G.OptionalChoice depth) = true
is_optional (G.OptionalExpression depth) = true
is_optional (G.Actions depth) = true
is_optional (G.MoreActions depth) = true
is_optional (G.ActionSubscripts depth first) = true
is_optional (G.KindWords words depth) = true
is_optional (G.MoreObjects depth) = true
is_optional (G.Lengths depth) = true
is_optional (G.Initialiser depth) = true
is_optional (G.MoreInits depth) = true
is_optional (G.OptionalInit depth) = true
is_optional (G.Else depth) = true
is_optional G.Params = true
is_optional G.MoreParams = true
is_optional (G.OptionalName depth) = true
is_optional G.Items = true
is_optional _ = false

-- the constructs that are open before a goal that must be taken
abbrev pub open_before : Goal → ℕ
open_before (G.Operand depth) = depth
open_before (G.Target depth) = depth
open_before (G.Group depth) = deeper depth
open_before (G.Expression depth) = depth
open_before (G.Assign depth) = depth
open_before (G.Choice depth) = depth
open_before (G.ChoiceColon depth) = depth
open_before (G.Action depth) = depth
open_before (G.ActionTarget depth first) = depth
open_before (G.CloseParen depth count) = deeper depth
open_before (G.CloseBracket depth count) = deeper depth
open_before (G.CloseBrace depth) = deeper depth
open_before (G.OpenParen depth) = depth
open_before (G.Semicolon depth) = depth
open_before (G.LabelColon depth) = depth
open_before (G.Kind depth) = depth
open_before (G.Object depth) = depth
open_before (G.Init depth) = depth
open_before (G.Statement depth) = depth
open_before (G.Again depth) = depth
open_before (G.Block depth) = depth
open_before (G.Body depth) = depth
open_before (G.First depth) = depth
open_before _ = 0

-- ---- stacks

-- the goals of a function that takes the token, if it does
abbrev pub Steps : Option Take → List Goal → List Goal → Option Step → Type 0
Steps None old new None = Unit {0}
Steps (Some how) old new (Some step) = (how ≡ step.how) × (new ≡ step.goals ++ old)
Steps _ old new _ = ⊥

-- and leaves the goals as they are if it does not
abbrev pub StepsOrStays : Option Take → List Goal → List Goal → Option Step → Type 0
StepsOrStays None old new None = new ≡ old
StepsOrStays (Some how) old new (Some step) = (how ≡ step.how) × (new ≡ step.goals ++ old)
StepsOrStays _ old new _ = ⊥

-- the first goal of the stack that takes the token takes it; before it stand only goals for which nothing need be taken
abbrev pub taken_or : Option Step → Bool → List Goal → Option Step → Option Step
taken_or (Some step) optional goals other = behind goals (Some step)
taken_or None true goals other = other
taken_or None false goals other = None

abbrev pub next : List Goal → Spot → Sort → Option Step
next [] spot sort = None
next (goal ∷ goals) spot sort = taken_or (step_of goal spot sort) (is_optional goal) goals (next goals spot sort)

abbrev pub all_optional : List Goal → Bool
all_optional [] = true
all_optional (goal ∷ goals) = if is_optional goal then all_optional goals else false

-- the constructs that are open before the first goal that must be taken
abbrev pub first_open : List Goal → ℕ
first_open [] = 0
first_open (goal ∷ goals) = if is_optional goal then first_open goals else open_before goal
