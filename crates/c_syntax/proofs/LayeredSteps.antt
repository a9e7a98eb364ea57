-- Each step leaves goals that fit on top of those below.
use Rattle.std.proofs.Common.{◌≡◌, ℕ, ◌≤◌, Bool, true, false, [], ◌∷◌, Option, Some, None, refl}
use Rattle.std.specs.Prelude.{if◌then◌else◌, ◌||◌}
use Rattle.c_tree.specs.declared.specifier.Specifier.TheVariants as s
use Rattle.c_syntax.specs.declared.steps.goal.Goal.{Goal}
use Rattle.c_syntax.specs.declared.steps.goal.Goal.TheVariants as G
use Rattle.c_syntax.specs.declared.steps.goal.Spot.{Spot}
use Rattle.c_syntax.specs.declared.sorts.sort.Sort.{Sort}
use Rattle.c_syntax.specs.declared.sorts.sort.Sort.TheVariants as o
use Rattle.c_syntax.specs.declared.sorts.words.Words.{Words}
use Rattle.c_syntax.specs.Sorts.{begins_kind}
use Rattle.c_syntax.specs.Steps.{deeper, fresh, take, behind, closing, only_if, operand, target, subscripts, after_operand, choice, assign, arguments, more_arguments, commas, operators, choice_colon, after_target, expression, kind, typed_if, kind_words, group, object, more_objects, lengths, initialiser, init, more_inits, optional_init, object_goals, declaration, action, actions, more_actions, action_target, action_subscripts, first_action, selection, iteration, inner_statement, statement, other_branch, block, statement_or_declaration, body, first, item, items, function_name, declarator, after_declarator, definition, param_goals, params, more_params, optional_name, same_close, close, step_of, is_optional, open_before}
use Rattle.c_syntax.specs.Sorts.Words.{with_word}
use Rattle.c_syntax.proofs.Growing.{deeper_more}
use Rattle.c_syntax.proofs.Layers.{floor, Below, at_goal, Fits, Goes, goes_behind, goes_opened, same, up, either}

-- ---- expressions

operand_goes : (spot : Spot) (depth : ℕ) (sort : Sort) (b : Below) → b.before ≤ depth → b.closed ≡ true → Goes depth b (operand spot depth sort)
operand_goes spot depth o.Number b le e = (same depth, tt)
operand_goes spot depth o.Name b le e = (same depth, ((le, e), tt))
operand_goes spot depth o.LeftParen b le e = (same depth, ((le, e), tt))
operand_goes spot depth o.Prefix b le e = (same depth, ((up b.before depth le, e), tt))
operand_goes spot depth o.Sign b le e = (same depth, ((up b.before depth le, e), tt))
operand_goes spot depth o.Bump b le e = (same depth, ((up b.before depth le, e), tt))
operand_goes spot depth _ b le e = tt

target_goes : (spot : Spot) (depth : ℕ) (sort : Sort) (b : Below) → b.before ≤ depth → b.closed ≡ true → Goes depth b (target spot depth sort)
target_goes spot depth o.Name b le e = (same depth, ((le, e), tt))
target_goes spot depth _ b le e = tt

subscripts_goes : (spot : Spot) (depth : ℕ) (sort : Sort) (b : Below) → b.before ≤ depth → b.closed ≡ true → Goes depth b (subscripts spot depth sort)
subscripts_goes spot depth o.LeftBracket b le e = (same depth, ((same (deeper depth), refl), (tt, ((le, e), tt))))
subscripts_goes spot depth _ b le e = tt

after_operand_goes : (spot : Spot) (named : Bool) (depth : ℕ) (sort : Sort) (b : Below) → b.before ≤ depth → b.closed ≡ true → Goes depth b (after_operand spot named depth sort)
after_operand_goes spot true depth o.LeftParen b le e = (same depth, ((same (deeper depth), refl), (tt, tt)))
after_operand_goes spot false depth o.LeftParen b le e = tt
after_operand_goes spot named depth o.LeftBracket b le e = (same depth, ((same (deeper depth), refl), (tt, ((le, e), tt))))
after_operand_goes spot named depth o.Bump b le e = (same depth, tt)
after_operand_goes spot named depth _ b le e = tt

choice_goes : (spot : Spot) (depth : ℕ) (sort : Sort) (b : Below) → b.before ≤ depth → b.closed ≡ true → Goes depth b (choice spot depth sort)
choice_goes spot depth sort b le e = goes_behind depth b (G.Operators depth spot.index ∷ []) (operand spot depth sort) (operand_goes spot depth sort b le e) ((le, e), tt)

assign_goes : (spot : Spot) (depth : ℕ) (sort : Sort) (b : Below) → b.before ≤ depth → b.closed ≡ true → Goes depth b (assign spot depth sort)
assign_goes spot depth o.Name b le e = (same depth, ((le, e), tt))
assign_goes spot depth sort b le e = choice_goes spot depth sort b le e

arguments_goes : (spot : Spot) (depth : ℕ) (sort : Sort) (b : Below) → b.before ≤ depth → b.closed ≡ true → Goes depth b (arguments spot depth sort)
arguments_goes spot depth sort b le e = goes_behind depth b (G.MoreArguments depth ∷ []) (assign spot depth sort) (assign_goes spot depth sort b le e) ((le, e), tt)

more_arguments_goes : (spot : Spot) (depth : ℕ) (sort : Sort) (b : Below) → b.before ≤ depth → b.closed ≡ true → Goes depth b (more_arguments spot depth sort)
more_arguments_goes spot depth o.Comma b le e = (same depth, ((le, e), ((le, e), tt)))
more_arguments_goes spot depth _ b le e = tt

commas_goes : (spot : Spot) (depth : ℕ) (sort : Sort) (b : Below) → b.before ≤ depth → b.closed ≡ true → Goes depth b (commas spot depth sort)
commas_goes spot depth o.Comma b le e = (same depth, ((le, e), ((le, e), tt)))
commas_goes spot depth _ b le e = tt

operators_goes : (spot : Spot) (depth first : ℕ) (sort : Sort) (b : Below) → b.before ≤ depth → b.closed ≡ true → Goes depth b (operators spot depth first sort)
operators_goes spot depth first o.Sign b le e = (same depth, ((le, e), ((le, e), tt)))
operators_goes spot depth first o.Operator b le e = (same depth, ((le, e), ((le, e), tt)))
operators_goes spot depth first o.Question b le e = (same depth, ((deeper_more depth, refl), ((le, e), tt)))
operators_goes spot depth first _ b le e = tt

choice_colon_goes : (spot : Spot) (depth : ℕ) (sort : Sort) (b : Below) → b.before ≤ depth → b.closed ≡ true → Goes depth b (choice_colon spot depth sort)
choice_colon_goes spot depth o.Colon b le e = (same depth, ((up b.before depth le, e), tt))
choice_colon_goes spot depth _ b le e = tt

after_target_goes : (spot : Spot) (named action : Bool) (depth first : ℕ) (sort : Sort) (b : Below) → b.before ≤ depth → b.closed ≡ true → Goes depth b (after_target spot named action depth first sort)
after_target_goes spot true action depth first o.LeftParen b le e = (same depth, ((same (deeper depth), refl), (tt, ((le, e), tt))))
after_target_goes spot false action depth first o.LeftParen b le e = tt
after_target_goes spot named action depth first o.LeftBracket b le e = (same depth, ((same (deeper depth), refl), (tt, ((le, e), tt))))
after_target_goes spot named action depth first o.Bump b le e = (same depth, ((le, e), tt))
after_target_goes spot named true depth first o.Equal b le e = (same depth, ((le, e), tt))
after_target_goes spot named false depth first o.Equal b le e = (same depth, ((le, e), tt))
after_target_goes spot named true depth first o.Assignment b le e = (same depth, ((le, e), tt))
after_target_goes spot named false depth first o.Assignment b le e = (same depth, ((le, e), tt))
after_target_goes spot named action depth first sort b le e = operators_goes spot depth first sort b le e

expression_goes : (spot : Spot) (depth : ℕ) (sort : Sort) (b : Below) → b.before ≤ depth → b.closed ≡ true → Goes depth b (expression spot depth sort)
expression_goes spot depth sort b le e = goes_behind depth b (G.Commas depth ∷ []) (assign spot depth sort) (assign_goes spot depth sort b le e) ((le, e), tt)

-- ---- types

kind_goes : (spot : Spot) (depth : ℕ) (sort : Sort) (b : Below) → b.before ≤ depth → (b.closed || b.named) ≡ true → Goes depth b (kind spot depth sort)
kind_goes spot depth o.Const b le e = (same depth, ((le, e), tt))
kind_goes spot depth o.TypeName b le e = (same depth, ((le, e), tt))
kind_goes spot depth (o.Specifier s.Void) b le e = tt
kind_goes spot depth (o.Specifier word) b le e = (same depth, ((le, e), tt))
kind_goes spot depth _ b le e = tt

typed_goes : (spot : Spot) (depth : ℕ) (found : Option Words) (b : Below) → b.before ≤ depth → (b.closed || b.named) ≡ true → Goes depth b (typed_if spot depth found)
typed_goes spot depth None b le e = tt
typed_goes spot depth (Some words) b le e = (same depth, ((le, e), tt))

kind_words_goes : (spot : Spot) (words : Words) (depth : ℕ) (sort : Sort) (b : Below) → b.before ≤ depth → (b.closed || b.named) ≡ true → Goes depth b (kind_words spot words depth sort)
kind_words_goes spot words depth o.Const b le e = (same depth, ((le, e), tt))
kind_words_goes spot words depth (o.Specifier word) b le e = typed_goes spot depth (with_word words word) b le e
kind_words_goes spot words depth _ b le e = tt

group_goes : (spot : Spot) (depth : ℕ) (sort : Sort) (b : Below) → b.before ≤ depth → b.closed ≡ true → Goes (deeper depth) b (group spot depth sort)
group_goes spot depth sort b le e = branch (begins_kind sort)
  where
    branch : (c : Bool) → Goes (deeper depth) b (if c then behind (G.CloseParen depth spot.count ∷ G.Operand (deeper depth) ∷ []) (kind spot (deeper depth) sort)
        else behind (G.CloseParen depth spot.count ∷ []) (expression (fresh spot) (deeper depth) sort))
    branch true =
        goes_behind (deeper depth) b (G.CloseParen depth spot.count ∷ G.Operand (deeper depth) ∷ []) (kind spot (deeper depth) sort)
        (kind_goes spot (deeper depth) sort (at_goal (G.CloseParen depth spot.count)) (same (deeper depth)) refl) (tt, ((up b.before depth le, e), tt))
    branch false =
        goes_behind (deeper depth) b (G.CloseParen depth spot.count ∷ []) (expression (fresh spot) (deeper depth) sort)
        (expression_goes (fresh spot) (deeper depth) sort (at_goal (G.CloseParen depth spot.count)) (same (deeper depth)) refl) (tt, tt)

-- ---- objects

object_goes : (spot : Spot) (depth : ℕ) (sort : Sort) (b : Below) → b.before ≤ depth → b.closed ≡ true → Goes depth b (object spot depth sort)
object_goes spot depth o.Name b le e = (same depth, ((le, e), ((le, e), tt)))
object_goes spot depth _ b le e = tt

more_objects_goes : (spot : Spot) (depth : ℕ) (sort : Sort) (b : Below) → b.before ≤ depth → b.closed ≡ true → Goes depth b (more_objects spot depth sort)
more_objects_goes spot depth o.Comma b le e = (same depth, ((le, e), ((le, e), tt)))
more_objects_goes spot depth _ b le e = tt

lengths_goes : (spot : Spot) (depth : ℕ) (sort : Sort) (b : Below) → b.before ≤ depth → b.closed ≡ true → Goes depth b (lengths spot depth sort)
lengths_goes spot depth o.LeftBracket b le e = (same depth, ((same (deeper depth), refl), (tt, ((le, e), tt))))
lengths_goes spot depth _ b le e = tt

initialiser_goes : (spot : Spot) (depth : ℕ) (sort : Sort) (b : Below) → b.before ≤ depth → b.closed ≡ true → Goes depth b (initialiser spot depth sort)
initialiser_goes spot depth o.Equal b le e = (same depth, ((le, e), tt))
initialiser_goes spot depth _ b le e = tt

init_goes : (spot : Spot) (depth : ℕ) (sort : Sort) (b : Below) → b.before ≤ depth → b.closed ≡ true → Goes depth b (init spot depth sort)
init_goes spot depth o.LeftBrace b le e = (same depth, ((same (deeper depth), refl), ((same (deeper depth), refl), (tt, tt))))
init_goes spot depth sort b le e = assign_goes spot depth sort b le e

more_inits_goes : (spot : Spot) (depth : ℕ) (sort : Sort) (b : Below) → b.before ≤ depth → b.closed ≡ true → Goes depth b (more_inits spot depth sort)
more_inits_goes spot depth o.Comma b le e = (same depth, ((le, e), tt))
more_inits_goes spot depth _ b le e = tt

optional_init_goes : (spot : Spot) (depth : ℕ) (sort : Sort) (b : Below) → b.before ≤ depth → b.closed ≡ true → Goes depth b (optional_init spot depth sort)
optional_init_goes spot depth sort b le e = goes_behind depth b (G.MoreInits depth ∷ []) (init spot depth sort) (init_goes spot depth sort b le e) ((le, e), tt)

declaration_goes : (spot : Spot) (depth : ℕ) (sort : Sort) (b : Below) → Goes depth b (declaration spot depth sort)
declaration_goes spot depth sort b =
    goes_behind depth b (object_goals depth) (kind spot depth sort) (kind_goes spot depth sort (at_goal (G.Object depth)) (same depth) refl) ((same depth, refl), ((same depth, refl), (tt, tt)))

-- ---- actions

action_goes : (spot : Spot) (depth : ℕ) (sort : Sort) (b : Below) → b.before ≤ depth → b.closed ≡ true → Goes depth b (action spot depth sort)
action_goes spot depth o.Name b le e = (same depth, ((le, e), tt))
action_goes spot depth o.Bump b le e = (same depth, ((le, e), tt))
action_goes spot depth sort b le e = choice_goes spot depth sort b le e

actions_goes : (spot : Spot) (depth : ℕ) (sort : Sort) (b : Below) → b.before ≤ depth → b.closed ≡ true → Goes depth b (actions spot depth sort)
actions_goes spot depth sort b le e = goes_behind depth b (G.MoreActions depth ∷ []) (action spot depth sort) (action_goes spot depth sort b le e) ((le, e), tt)

more_actions_goes : (spot : Spot) (depth : ℕ) (sort : Sort) (b : Below) → b.before ≤ depth → b.closed ≡ true → Goes depth b (more_actions spot depth sort)
more_actions_goes spot depth o.Comma b le e = (same depth, ((le, e), ((le, e), tt)))
more_actions_goes spot depth _ b le e = tt

action_target_goes : (spot : Spot) (depth first : ℕ) (sort : Sort) (b : Below) → b.before ≤ depth → b.closed ≡ true → Goes depth b (action_target spot depth first sort)
action_target_goes spot depth first o.Name b le e = (same depth, ((le, e), tt))
action_target_goes spot depth first _ b le e = tt

action_subscripts_goes : (spot : Spot) (depth first : ℕ) (sort : Sort) (b : Below) → b.before ≤ depth → b.closed ≡ true → Goes depth b (action_subscripts spot depth first sort)
action_subscripts_goes spot depth first o.LeftBracket b le e = (same depth, ((same (deeper depth), refl), (tt, ((le, e), tt))))
action_subscripts_goes spot depth first o.Sign b le e = (same depth, ((le, e), ((le, e), tt)))
action_subscripts_goes spot depth first o.Operator b le e = (same depth, ((le, e), ((le, e), tt)))
action_subscripts_goes spot depth first o.Question b le e = (same depth, ((deeper_more depth, refl), ((le, e), tt)))
action_subscripts_goes spot depth first _ b le e = tt

-- ---- statements

first_action_goes : (spot : Spot) (depth : ℕ) (sort : Sort) (b : Below) → Goes depth b (first_action spot depth sort)
first_action_goes spot depth sort b =
    goes_behind depth b (G.MoreActions depth ∷ G.Semicolon depth ∷ []) (action spot depth sort) (action_goes spot depth sort (at_goal (G.Semicolon depth)) (same depth) refl) ((same depth, refl), (tt, tt))

selection_goes : (spot : Spot) (depth : ℕ) (sort : Sort) (b : Below) → b.before ≤ depth → b.closed ≡ true → Goes depth b (selection spot depth sort)
selection_goes spot depth o.If b le e = (same depth, (tt, ((same (deeper depth), refl), (tt, ((le, e), ((le, e), tt))))))
selection_goes spot depth o.Switch b le e = (same depth, (tt, ((same (deeper depth), refl), (tt, ((le, e), tt)))))
selection_goes spot depth sort b le e = first_action_goes spot depth sort b

iteration_goes : (spot : Spot) (depth : ℕ) (sort : Sort) (b : Below) → b.before ≤ depth → b.closed ≡ true → Goes depth b (iteration spot depth sort)
iteration_goes spot depth o.While b le e = (same depth, (tt, ((same (deeper depth), refl), (tt, ((le, e), tt)))))
iteration_goes spot depth o.Do b le e = (same depth, ((same depth, refl), (tt, (tt, ((same (deeper depth), refl), (tt, (tt, tt)))))))
iteration_goes spot depth o.For b le e =
    let inner = same (deeper depth) in (same depth, (tt, ((inner, refl), ((inner, refl), (tt, ((inner, refl), (tt, ((le, e), tt))))))))
iteration_goes spot depth sort b le e = selection_goes spot depth sort b le e

inner_goes : (spot : Spot) (depth : ℕ) (sort : Sort) (b : Below) → b.before ≤ depth → b.closed ≡ true → Goes depth b (inner_statement spot depth sort)
inner_goes spot depth o.LeftBrace b le e = (same depth, ((le, e), tt))
inner_goes spot depth o.Semicolon b le e = (same depth, tt)
inner_goes spot depth o.Case b le e = (same depth, ((same depth, refl), (tt, ((le, e), tt))))
inner_goes spot depth o.Default b le e = (same depth, (tt, ((le, e), tt)))
inner_goes spot depth o.Break b le e = (same depth, (tt, tt))
inner_goes spot depth o.Continue b le e = (same depth, (tt, tt))
inner_goes spot depth o.Return b le e = (same depth, ((same depth, refl), (tt, tt)))
inner_goes spot depth sort b le e = iteration_goes spot depth sort b le e

statement_goes : (spot : Spot) (depth : ℕ) (sort : Sort) (b : Below) → b.before ≤ depth → b.closed ≡ true → Goes depth b (statement spot depth sort)
statement_goes spot depth sort b le e =
    goes_opened (deeper depth) depth depth b (inner_statement (fresh spot) (deeper depth) sort) (same depth) (inner_goes (fresh spot) (deeper depth) sort b (up b.before depth le) e)

other_branch_goes : (spot : Spot) (depth : ℕ) (sort : Sort) (b : Below) → b.before ≤ depth → b.closed ≡ true → Goes depth b (other_branch spot depth sort)
other_branch_goes spot depth o.Else b le e = (same depth, ((le, e), tt))
other_branch_goes spot depth _ b le e = tt

block_goes : (spot : Spot) (depth : ℕ) (sort : Sort) (b : Below) → b.before ≤ depth → b.closed ≡ true → Goes depth b (block spot depth sort)
block_goes spot depth o.LeftBrace b le e = (same depth, ((up b.before depth le, e), tt))
block_goes spot depth _ b le e = tt

statement_or_declaration_goes : (spot : Spot) (depth : ℕ) (sort : Sort) (b : Below) → b.before ≤ depth → b.closed ≡ true → Goes depth b (statement_or_declaration spot depth sort)
statement_or_declaration_goes spot depth sort b le e = branch (begins_kind sort)
  where
    branch : (c : Bool) → Goes depth b (if c then declaration spot depth sort else statement spot depth sort)
    branch true = declaration_goes spot depth sort b
    branch false = statement_goes spot depth sort b le e

body_goes : (spot : Spot) (depth : ℕ) (sort : Sort) (b : Below) → b.before ≤ depth → b.closed ≡ true → Goes depth b (body spot depth sort)
body_goes spot depth o.RightBrace b le e = (same depth, tt)
body_goes spot depth sort b le e =
    goes_behind depth b (G.Body depth ∷ []) (statement_or_declaration spot depth sort) (statement_or_declaration_goes spot depth sort (at_goal (G.Body depth)) (same depth) refl) ((le, e), tt)

first_branch : (spot : Spot) (depth : ℕ) (sort : Sort) (b : Below) (c : Bool) → Goes depth b (if c then declaration spot depth sort else first_action spot depth sort)
first_branch spot depth sort b true = declaration_goes spot depth sort b
first_branch spot depth sort b false = first_action_goes spot depth sort b

first_goes : (spot : Spot) (depth : ℕ) (sort : Sort) (b : Below) → Goes depth b (first spot depth sort)
first_goes spot depth o.Semicolon b = (same depth, tt)
first_goes spot depth sort b = first_branch spot depth sort b (begins_kind sort)

-- ---- functions and programs

item_goes : (spot : Spot) (constant : Bool) (sort : Sort) (b : Below) → b.before ≤ 0 → b.closed ≡ true → Goes 0 b (item spot constant sort)
item_goes spot true o.Static b le e = tt
item_goes spot false o.Static b le e = (same 0, ((le, e), tt))
item_goes spot true o.Inline b le e = tt
item_goes spot false o.Inline b le e = (same 0, ((le, e), tt))
item_goes spot constant o.Const b le e = (same 0, ((le, e), tt))
item_goes spot constant o.TypeName b le e = (same 0, ((same 0, refl), ((le, e), tt)))
item_goes spot constant (o.Specifier s.Void) b le e = (same 0, ((same 0, refl), ((le, e), tt)))
item_goes spot constant (o.Specifier word) b le e = (same 0, ((same 0, refl), ((le, e), tt)))
item_goes spot constant _ b le e = tt

items_goes : (spot : Spot) (sort : Sort) (b : Below) → b.before ≤ 0 → b.closed ≡ true → Goes 0 b (items spot sort)
items_goes spot sort b le e = goes_behind 0 b (G.Items ∷ []) (item spot false sort) (item_goes spot false sort b le e) ((le, e), tt)

function_name_goes : (spot : Spot) (sort : Sort) (b : Below) → b.before ≤ 0 → b.closed ≡ true → Goes 0 b (function_name spot sort)
function_name_goes spot o.Name b le e = (same 0, (tt, ((same (deeper 0), refl), (tt, ((le, e), tt)))))
function_name_goes spot _ b le e = tt

declarator_goes : (spot : Spot) (sort : Sort) (b : Below) → b.before ≤ 0 → b.closed ≡ true → Goes 0 b (declarator spot sort)
declarator_goes spot o.Name b le e = (same 0, ((le, e), tt))
declarator_goes spot _ b le e = tt

after_declarator_goes : (spot : Spot) (sort : Sort) (b : Below) → b.before ≤ 0 → b.closed ≡ true → Goes 0 b (after_declarator spot sort)
after_declarator_goes spot o.LeftParen b le e = (same 0, ((same (deeper 0), refl), (tt, ((le, e), tt))))
after_declarator_goes spot o.Semicolon b le e = (same 0, tt)
after_declarator_goes spot o.LeftBracket b le e = (same 0, ((same (deeper 0), refl), (tt, ((same 0, refl), ((same 0, refl), ((same 0, refl), (tt, tt)))))))
after_declarator_goes spot o.Equal b le e = (same 0, ((same 0, refl), ((same 0, refl), (tt, tt))))
after_declarator_goes spot o.Comma b le e = (same 0, ((same 0, refl), ((same 0, refl), (tt, tt))))
after_declarator_goes spot _ b le e = tt

definition_goes : (spot : Spot) (sort : Sort) (b : Below) → b.before ≤ 0 → b.closed ≡ true → Goes 0 b (definition spot sort)
definition_goes spot o.Semicolon b le e = (same 0, tt)
definition_goes spot o.LeftBrace b le e = (same 0, ((le, e), tt))
definition_goes spot _ b le e = tt

params_kind_goes : (spot : Spot) (sort : Sort) (b : Below) → b.before ≤ deeper 0 → b.closed ≡ true → Goes (deeper 0) b (behind param_goals (kind spot (deeper 0) sort))
params_kind_goes spot sort b le e =
    goes_behind (deeper 0) b param_goals (kind spot (deeper 0) sort) (kind_goes spot (deeper 0) sort b le (either b.closed b.named e)) ((le, e), ((le, e), ((le, e), tt)))

params_goes : (spot : Spot) (sort : Sort) (b : Below) → b.before ≤ deeper 0 → b.closed ≡ true → Goes (deeper 0) b (params spot sort)
params_goes spot (o.Specifier s.Void) b le e = (same (deeper 0), tt)
params_goes spot sort b le e = params_kind_goes spot sort b le e

more_params_goes : (spot : Spot) (sort : Sort) (b : Below) → b.before ≤ deeper 0 → b.closed ≡ true → Goes (deeper 0) b (more_params spot sort)
more_params_goes spot o.Comma b le e = (same (deeper 0), ((le, either b.closed b.named e), ((le, e), ((le, e), ((le, e), tt)))))
more_params_goes spot _ b le e = tt

optional_name_goes : (spot : Spot) (depth : ℕ) (sort : Sort) (b : Below) → Goes depth b (optional_name spot depth sort)
optional_name_goes spot depth o.Name b = (same depth, tt)
optional_name_goes spot depth _ b = tt

close_goes : (spot : Spot) (depth count : ℕ) (wanted sort : Sort) (b : Below) → Goes depth b (close spot depth count wanted sort)
close_goes spot depth count wanted sort b = branch (same_close wanted sort)
  where
    branch : (c : Bool) → Goes depth b (only_if c (take (record spot { count = count }) depth []))
    branch true = (same depth, tt)
    branch false = tt

closing_goes : (spot : Spot) (depth count : ℕ) (wanted sort : Sort) (b : Below) → Goes (deeper depth) b (closing depth (close spot depth count wanted sort))
closing_goes spot depth count wanted sort b = goes_opened depth (deeper depth) (deeper depth) b (close spot depth count wanted sort) (same (deeper depth)) (close_goes spot depth count wanted sort b)

-- ---- each goal

abbrev pub least : Goal → ℕ
least goal = if is_optional goal then floor goal else open_before goal

pub step_goes : (goal : Goal) (spot : Spot) (sort : Sort) (b : Below) → Fits goal b → Goes (least goal) b (step_of goal spot sort)
step_goes (G.Operand depth) spot sort b f = operand_goes spot depth sort b f.0 f.1
step_goes (G.Target depth) spot sort b f = target_goes spot depth sort b f.0 f.1
step_goes (G.Subscripts depth) spot sort b f = subscripts_goes spot depth sort b f.0 f.1
step_goes (G.AfterOperand named depth) spot sort b f = after_operand_goes spot named depth sort b f.0 f.1
step_goes (G.Group depth) spot sort b f = group_goes spot depth sort b f.0 f.1
step_goes (G.Arguments depth) spot sort b f = arguments_goes spot depth sort b f.0 f.1
step_goes (G.MoreArguments depth) spot sort b f = more_arguments_goes spot depth sort b f.0 f.1
step_goes (G.Expression depth) spot sort b f = expression_goes spot depth sort b f.0 f.1
step_goes (G.Assign depth) spot sort b f = assign_goes spot depth sort b f.0 f.1
step_goes (G.Choice depth) spot sort b f = choice_goes spot depth sort b f.0 f.1
step_goes (G.Commas depth) spot sort b f = commas_goes spot depth sort b f.0 f.1
step_goes (G.AfterTarget named action depth first) spot sort b f = after_target_goes spot named action depth first sort b f.0 f.1
step_goes (G.Operators depth first) spot sort b f = operators_goes spot depth first sort b f.0 f.1
step_goes (G.ChoiceColon depth) spot sort b f = choice_colon_goes spot depth sort b f.0 f.1
step_goes (G.OptionalChoice depth) spot sort b f = choice_goes spot depth sort b f.0 f.1
step_goes (G.OptionalExpression depth) spot sort b f = expression_goes spot depth sort b f.0 f.1
step_goes (G.Action depth) spot sort b f = action_goes spot depth sort b f.0 f.1
step_goes (G.Actions depth) spot sort b f = actions_goes spot depth sort b f.0 f.1
step_goes (G.MoreActions depth) spot sort b f = more_actions_goes spot depth sort b f.0 f.1
step_goes (G.ActionTarget depth first) spot sort b f = action_target_goes spot depth first sort b f.0 f.1
step_goes (G.ActionSubscripts depth first) spot sort b f = action_subscripts_goes spot depth first sort b f.0 f.1
step_goes (G.CloseParen depth count) spot sort b f = closing_goes spot depth count o.RightParen sort b
step_goes (G.CloseBracket depth count) spot sort b f = closing_goes spot depth count o.RightBracket sort b
step_goes (G.CloseBrace depth) spot sort b f = closing_goes spot depth 0 o.RightBrace sort b
step_goes (G.OpenParen depth) spot sort b f = close_goes spot depth 0 o.LeftParen sort b
step_goes (G.Semicolon depth) spot sort b f = close_goes spot depth 0 o.Semicolon sort b
step_goes (G.LabelColon depth) spot sort b f = close_goes spot depth 0 o.Colon sort b
step_goes (G.Kind depth) spot sort b f = kind_goes spot depth sort b f.0 f.1
step_goes (G.KindWords words depth) spot sort b f = kind_words_goes spot words depth sort b f.0 f.1
step_goes (G.Object depth) spot sort b f = object_goes spot depth sort b f.0 f.1
step_goes (G.MoreObjects depth) spot sort b f = more_objects_goes spot depth sort b f.0 f.1
step_goes (G.Lengths depth) spot sort b f = lengths_goes spot depth sort b f.0 f.1
step_goes (G.Initialiser depth) spot sort b f = initialiser_goes spot depth sort b f.0 f.1
step_goes (G.Init depth) spot sort b f = init_goes spot depth sort b f.0 f.1
step_goes (G.MoreInits depth) spot sort b f = more_inits_goes spot depth sort b f.0 f.1
step_goes (G.OptionalInit depth) spot sort b f = optional_init_goes spot depth sort b f.0 f.1
step_goes (G.Statement depth) spot sort b f = statement_goes spot depth sort b f.0 f.1
step_goes (G.Else depth) spot sort b f = other_branch_goes spot depth sort b f.0 f.1
step_goes (G.Again depth) spot sort b f = close_goes spot depth 0 o.While sort b
step_goes (G.Block depth) spot sort b f = block_goes spot depth sort b f.0 f.1
step_goes (G.Body depth) spot sort b f = body_goes spot depth sort b f.0 f.1
step_goes (G.First depth) spot sort b f = first_goes spot depth sort b
step_goes G.Params spot sort b f = params_goes spot sort b f.0 f.1
step_goes G.MoreParams spot sort b f = more_params_goes spot sort b f.0 f.1
step_goes (G.OptionalName depth) spot sort b f = optional_name_goes spot depth sort b
step_goes G.Items spot sort b f = items_goes spot sort b f.0 f.1
step_goes (G.Item constant) spot sort b f = item_goes spot constant sort b f.0 f.1
step_goes G.FunctionName spot sort b f = function_name_goes spot sort b f.0 f.1
step_goes G.Declarator spot sort b f = declarator_goes spot sort b f.0 f.1
step_goes G.AfterDeclarator spot sort b f = after_declarator_goes spot sort b f.0 f.1
step_goes G.Definition spot sort b f = definition_goes spot sort b f.0 f.1
