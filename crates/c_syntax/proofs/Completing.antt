-- The goals take each token of an expression, with its marks.
use Rattle.std.proofs.Common.{◌≡◌, ℕ, suc, ◌≤◌, Bool, true, false, List, [], ◌∷◌, ◌++◌, length, Option, Some, None, ◌⊎◌, inl, inr, refl, ap, sym, ◌∙◌, arith, append_assoc}
use Rattle.std.specs.Prelude.{if◌then◌else◌}
use Rattle.hls_base.specs.declared.place.Place.{Place}
use Rattle.c_token.specs.declared.ctype.CType.{CType}
use Rattle.c_token.specs.declared.punct.Punct.{Punct}
use Rattle.c_token.specs.declared.punct.Punct.TheVariants as p
use Rattle.c_token.specs.declared.token.TokenKind.TheVariants as k
use Rattle.c_tree.specs.declared.operator.Unary.{Unary}
use Rattle.c_tree.specs.declared.operator.Binary.{Binary}
use Rattle.c_tree.specs.Terminals.{Terminal, terminal, sign, word, is_keyword, prefix_of, operator_of, assignment_of, bump_of}
use Rattle.c_tree.specs.Tree.{TargetTree, Trees, ActionTree}
use Rattle.c_tree.specs.Grammar as g
use Rattle.c_tree.specs.Grammar.{Derives, DerivesTarget, DerivesSubscripts, DerivesArguments, DerivesList, DerivesChange}
use Rattle.c_tree.specs.Limits.{Mark, plain, closing, inside, held, pair, whole, marks, target_marks, subscript_marks}
use Rattle.c_syntax.specs.declared.steps.goal.Goal.{Goal}
use Rattle.c_syntax.specs.declared.steps.goal.Goal.TheVariants as G
use Rattle.c_syntax.specs.declared.steps.goal.Spot.{Spot}
use Rattle.c_syntax.specs.declared.sorts.sort.Sort.{Sort}
use Rattle.c_syntax.specs.declared.sorts.sort.Sort.TheVariants as o
use Rattle.c_syntax.specs.Sorts.{sort_of, sort_of_sign}
use Rattle.c_syntax.specs.Steps.{deeper, opened, step_of, is_optional, taken_or, next, all_optional}
use Rattle.c_syntax.proofs.Seen.{name_sort}
use Rattle.c_syntax.proofs.Noting.{Noted, hold_from}
use Rattle.c_syntax.proofs.Marking.{run, going, place, count_at, count_after, noted_at, place-append, place-inside, count-inside, place-whole, count-whole, place-closing, place-pair, count-pair, SomeMarks, opened_at, place_opened, place_opened-append, held_from, opened_held}

-- ---- sorts of signs

pub operator_sort : (punct : Punct) (op : Binary) → operator_of punct ≡ Some op → (sort_of_sign punct ≡ o.Sign) ⊎ (sort_of_sign punct ≡ o.Operator)
operator_sort p.Plus op e = inl refl
operator_sort p.Minus op e = inl refl
operator_sort p.Star op e = inr refl
operator_sort p.Slash op e = inr refl
operator_sort p.Percent op e = inr refl
operator_sort p.ShiftLeft op e = inr refl
operator_sort p.ShiftRight op e = inr refl
operator_sort p.Less op e = inr refl
operator_sort p.Greater op e = inr refl
operator_sort p.LessEqual op e = inr refl
operator_sort p.GreaterEqual op e = inr refl
operator_sort p.EqualEqual op e = inr refl
operator_sort p.BangEqual op e = inr refl
operator_sort p.Amp op e = inr refl
operator_sort p.Caret op e = inr refl
operator_sort p.Bar op e = inr refl
operator_sort p.AmpAmp op e = inr refl
operator_sort p.BarBar op e = inr refl
operator_sort _ op e = absurd cc

pub prefix_sort : (punct : Punct) (op : Unary) → prefix_of punct ≡ Some op → (sort_of_sign punct ≡ o.Prefix) ⊎ (sort_of_sign punct ≡ o.Sign)
prefix_sort p.Plus op e = inr refl
prefix_sort p.Minus op e = inr refl
prefix_sort p.Tilde op e = inl refl
prefix_sort p.Bang op e = inl refl
prefix_sort _ op e = absurd cc

pub bump_sort : (punct : Punct) (up : Bool) → bump_of punct ≡ Some up → sort_of_sign punct ≡ o.Bump
bump_sort p.PlusPlus up e = refl
bump_sort p.MinusMinus up e = refl
bump_sort _ up e = absurd cc

pub assignment_sort : (punct : Punct) (op : Option Binary) → assignment_of punct ≡ Some op → (sort_of_sign punct ≡ o.Equal) ⊎ (sort_of_sign punct ≡ o.Assignment)
assignment_sort p.Equal op e = inl refl
assignment_sort p.StarEqual op e = inr refl
assignment_sort p.SlashEqual op e = inr refl
assignment_sort p.PercentEqual op e = inr refl
assignment_sort p.PlusEqual op e = inr refl
assignment_sort p.MinusEqual op e = inr refl
assignment_sort p.ShiftLeftEqual op e = inr refl
assignment_sort p.ShiftRightEqual op e = inr refl
assignment_sort p.AmpEqual op e = inr refl
assignment_sort p.CaretEqual op e = inr refl
assignment_sort p.BarEqual op e = inr refl
assignment_sort _ op e = absurd cc

-- ---- what follows

abbrev pub at_first : (Sort → Bool) → List Terminal → Bool
at_first P [] = true
at_first P (t ∷ ts) = P (sort_of t.kind)

-- no subscript and no call goes on
abbrev pub no_bracket : Sort → Bool
no_bracket o.LeftBracket = false
no_bracket o.LeftParen = false
no_bracket _ = true

-- an operand goes on with nothing
abbrev pub ends_operand : Sort → Bool
ends_operand o.LeftBracket = false
ends_operand o.LeftParen = false
ends_operand o.Bump = false
ends_operand o.Equal = false
ends_operand o.Assignment = false
ends_operand _ = true

-- an expression goes on with nothing but a comma
abbrev pub ends_choice : Sort → Bool
ends_choice o.LeftBracket = false
ends_choice o.LeftParen = false
ends_choice o.Bump = false
ends_choice o.Equal = false
ends_choice o.Assignment = false
ends_choice o.Sign = false
ends_choice o.Operator = false
ends_choice o.Question = false
ends_choice _ = true

abbrev pub ends_all : Sort → Bool
ends_all o.Comma = false
ends_all sort = ends_choice sort

-- an operator or a question mark
abbrev pub goes : Sort → Bool
goes o.Sign = true
goes o.Operator = true
goes o.Question = true
goes _ = false

abbrev pub goes_on : List Terminal → Bool
goes_on [] = false
goes_on (t ∷ ts) = goes (sort_of t.kind)

pub weaker : (P Q : Sort → Bool) → ((sort : Sort) → P sort ≡ true → Q sort ≡ true) → (us : List Terminal) → at_first P us ≡ true → at_first Q us ≡ true
weaker P Q f [] e = refl
weaker P Q f (t ∷ ts) e = f (sort_of t.kind) e

choice_operand : (sort : Sort) → ends_choice sort ≡ true → ends_operand sort ≡ true
choice_operand o.LeftBracket e = absurd cc
choice_operand o.LeftParen e = absurd cc
choice_operand o.Bump e = absurd cc
choice_operand o.Equal e = absurd cc
choice_operand o.Assignment e = absurd cc
choice_operand _ e = refl

all_choice : (sort : Sort) → ends_all sort ≡ true → ends_choice sort ≡ true
all_choice o.Comma e = absurd cc
all_choice o.Name e = e
all_choice _ e = e

pub operand_bracket : (sort : Sort) → ends_operand sort ≡ true → no_bracket sort ≡ true
operand_bracket o.LeftBracket e = absurd cc
operand_bracket o.LeftParen e = absurd cc
operand_bracket _ e = refl

pub for_operand : (us : List Terminal) → at_first ends_choice us ≡ true → at_first ends_operand us ≡ true
for_operand us e = weaker ends_choice ends_operand choice_operand us e

pub for_choice : (us : List Terminal) → at_first ends_all us ≡ true → at_first ends_choice us ≡ true
for_choice us e = weaker ends_all ends_choice all_choice us e

-- ---- steps of the stack

abbrev pub spot_at : List Noted → ℕ → Spot
spot_at noted count = record { index = length noted; count = count }

-- a token of this sort
pub run_as : (t : Terminal) (sort : Sort) (ts : List Terminal) (goals : List Goal) (count : ℕ) (noted : List Noted) → sort_of t.kind ≡ sort
    → run (t ∷ ts) goals count noted ≡ going (next goals (spot_at noted count) sort) noted (run ts)
run_as t sort ts goals count noted e = ap (λ x. going (next goals (spot_at noted count) x) noted (run ts)) e

-- a goal that takes nothing is skipped
pub skip : (P : Sort → Bool) (goal : Goal) → is_optional goal ≡ true → ((spot : Spot) (sort : Sort) → P sort ≡ true → step_of goal spot sort ≡ None)
    → (us : List Terminal) → at_first P us ≡ true → (goals : List Goal) (count : ℕ) (noted : List Noted) → run us (goal ∷ goals) count noted ≡ run us goals count noted
skip P goal optional f [] e goals count noted = ap (λ b. if (if b then all_optional goals else false) then Some noted else None) optional
skip P goal optional f (t ∷ ts) e goals count noted =
    let spot = spot_at noted count in let sort = sort_of t.kind in
    ap (λ x. going (taken_or x (is_optional goal) goals (next goals spot sort)) noted (run ts)) (f spot sort e)
    ∙ ap (λ b. going (taken_or None b goals (next goals spot sort)) noted (run ts)) optional

-- a goal that does the same as another
pub same_goal : (P : Sort → Bool) (goal other : Goal) → is_optional goal ≡ true → is_optional other ≡ true → ((spot : Spot) (sort : Sort) → P sort ≡ true → step_of goal spot sort ≡ step_of other spot sort)
    → (us : List Terminal) → at_first P us ≡ true → (goals : List Goal) (count : ℕ) (noted : List Noted) → run us (goal ∷ goals) count noted ≡ run us (other ∷ goals) count noted
same_goal P goal other optional too f [] e goals count noted = ap (λ b. if (if b then all_optional goals else false) then Some noted else None) (optional ∙ sym too)
same_goal P goal other optional too f (t ∷ ts) e goals count noted =
    let spot = spot_at noted count in let sort = sort_of t.kind in
    ap (λ x. going (taken_or x (is_optional goal) goals (next goals spot sort)) noted (run ts)) (f spot sort e)
    ∙ ap (λ b. going (taken_or (step_of other spot sort) b goals (next goals spot sort)) noted (run ts)) (optional ∙ sym too)

-- a goal that stands for others
next_choice : (depth : ℕ) (goals : List Goal) (spot : Spot) (sort : Sort) → next (G.Choice depth ∷ goals) spot sort ≡ next (G.Operand depth ∷ G.Operators depth spot.index ∷ goals) spot sort
next_choice depth goals spot o.Name = refl
next_choice depth goals spot _ = refl

pub choice_goal : (us : List Terminal) (depth : ℕ) (goals : List Goal) (count : ℕ) (noted : List Noted)
    → run us (G.Choice depth ∷ goals) count noted ≡ run us (G.Operand depth ∷ G.Operators depth (length noted) ∷ goals) count noted
choice_goal [] depth goals count noted = refl
choice_goal (t ∷ ts) depth goals count noted = ap (λ x. going x noted (run ts)) (next_choice depth goals (spot_at noted count) (sort_of t.kind))

next_expression : (depth : ℕ) (goals : List Goal) (spot : Spot) (sort : Sort) → next (G.Expression depth ∷ goals) spot sort ≡ next (G.Assign depth ∷ G.Commas depth ∷ goals) spot sort
next_expression depth goals spot o.Name = refl
next_expression depth goals spot _ = refl

pub expression_goal : (us : List Terminal) (depth : ℕ) (goals : List Goal) (count : ℕ) (noted : List Noted)
    → run us (G.Expression depth ∷ goals) count noted ≡ run us (G.Assign depth ∷ G.Commas depth ∷ goals) count noted
expression_goal [] depth goals count noted = refl
expression_goal (t ∷ ts) depth goals count noted = ap (λ x. going x noted (run ts)) (next_expression depth goals (spot_at noted count) (sort_of t.kind))

-- ---- goals behind an operand

after_operand_ends : (named : Bool) (depth : ℕ) (spot : Spot) (sort : Sort) → ends_operand sort ≡ true → step_of (G.AfterOperand named depth) spot sort ≡ None
after_operand_ends named depth spot o.LeftBracket e = absurd cc
after_operand_ends named depth spot o.LeftParen e = absurd cc
after_operand_ends named depth spot o.Bump e = absurd cc
after_operand_ends named depth spot _ e = refl

after_target_ends : (named action : Bool) (depth first : ℕ) (spot : Spot) (sort : Sort) → ends_operand sort ≡ true
    → step_of (G.AfterTarget named action depth first) spot sort ≡ step_of (G.Operators depth first) spot sort
after_target_ends named action depth first spot o.LeftBracket e = absurd cc
after_target_ends named action depth first spot o.LeftParen e = absurd cc
after_target_ends named action depth first spot o.Bump e = absurd cc
after_target_ends named action depth first spot o.Equal e = absurd cc
after_target_ends named action depth first spot o.Assignment e = absurd cc
after_target_ends named action depth first spot _ e = refl

operators_end : (depth first : ℕ) (spot : Spot) (sort : Sort) → ends_choice sort ≡ true → step_of (G.Operators depth first) spot sort ≡ None
operators_end depth first spot o.Sign e = absurd cc
operators_end depth first spot o.Operator e = absurd cc
operators_end depth first spot o.Question e = absurd cc
operators_end depth first spot _ e = refl

commas_end : (depth : ℕ) (spot : Spot) (sort : Sort) → ends_all sort ≡ true → step_of (G.Commas depth) spot sort ≡ None
commas_end depth spot o.Comma e = absurd cc
commas_end depth spot _ e = refl

pub skip_operators : (us : List Terminal) → at_first ends_choice us ≡ true → (depth first : ℕ) (goals : List Goal) (count : ℕ) (noted : List Noted)
    → run us (G.Operators depth first ∷ goals) count noted ≡ run us goals count noted
skip_operators us e depth first goals count noted = skip ends_choice (G.Operators depth first) refl (operators_end depth first) us e goals count noted

pub skip_commas : (us : List Terminal) → at_first ends_all us ≡ true → (depth : ℕ) (goals : List Goal) (count : ℕ) (noted : List Noted)
    → run us (G.Commas depth ∷ goals) count noted ≡ run us goals count noted
skip_commas us e depth goals count noted = skip ends_all (G.Commas depth) refl (commas_end depth) us e goals count noted

-- what may stand behind a name with its subscripts
pub data After : Type 0 where
  operand : After
  target : (action : Bool) (first : ℕ) → After
  bumped : After
  bumping : (first : ℕ) → After

abbrev pub after : After → Bool → ℕ → Goal
after operand named depth = G.AfterOperand named depth
after (target action first) named depth = G.AfterTarget named action depth first
after bumped named depth = G.Subscripts depth
after (bumping first) named depth = G.ActionSubscripts depth first

after_optional : (a : After) (named : Bool) (depth : ℕ) → is_optional (after a named depth) ≡ true
after_optional operand named depth = refl
after_optional (target action first) named depth = refl
after_optional bumped named depth = refl
after_optional (bumping first) named depth = refl

unnamed : (a : After) (named : Bool) (depth : ℕ) (spot : Spot) (sort : Sort) → no_bracket sort ≡ true → step_of (after a named depth) spot sort ≡ step_of (after a false depth) spot sort
unnamed operand named depth spot o.LeftParen e = absurd cc
unnamed operand named depth spot _ e = refl
unnamed (target action first) named depth spot o.LeftParen e = absurd cc
unnamed (target action first) named depth spot _ e = refl
unnamed bumped named depth spot sort e = refl
unnamed (bumping first) named depth spot sort e = refl

-- the bracket of a subscript
bracket : (a : After) (named : Bool) (depth : ℕ) (at : Place) (ts : List Terminal) (goals : List Goal) (count : ℕ) (noted : List Noted)
    → run (sign p.LeftBracket at ∷ ts) (after a named depth ∷ goals) count noted
    ≡ run ts (G.Expression (deeper depth) ∷ G.CloseBracket depth count ∷ after a false depth ∷ goals) 0 (noted_at depth count plain ∷ noted)
bracket operand named depth at ts goals count noted = refl
bracket (target action first) named depth at ts goals count noted = refl
bracket bumped named depth at ts goals count noted = refl
bracket (bumping first) named depth at ts goals count noted = refl

-- ---- claims

-- with which goal an operand begins, and how many constructs are open before an action
pub data Mode : Type 0 where
  bare : Mode
  assigning : Mode
  acting : (before : ℕ) → Mode

abbrev pub start : Mode → ℕ → List Goal → List Goal
start bare depth goals = G.Operand depth ∷ goals
start assigning depth goals = G.Assign depth ∷ goals
start (acting before) depth goals = G.Action depth ∷ goals

abbrev pub finish : Mode → ℕ → ℕ → List Goal → List Goal
finish bare depth first goals = goals
finish assigning depth first goals = G.Operators depth first ∷ goals
finish (acting before) depth first goals = G.Operators depth first ∷ goals

abbrev pub begin : Mode → ℕ → ℕ → List Goal → List Goal
begin bare first depth goals = G.Operand depth ∷ G.Operators depth first ∷ goals
begin assigning first depth goals = G.Assign depth ∷ goals
begin (acting before) first depth goals = G.Action depth ∷ goals

abbrev pub first_of : Mode → ℕ → ℕ → ℕ
first_of bare first index = first
first_of assigning first index = index
first_of (acting before) first index = index

-- an action that is no change
abbrev pub Proper : Mode → List Terminal → List Terminal → Type 0
Proper (acting before) ts us = (goes_on us ≡ true) ⊎ ((action : ActionTree) → DerivesChange ts action → ⊥)
Proper _ ts us = Unit {0}

-- the first token is noted with so many constructs open before it
abbrev pub run_opened : ℕ → List Terminal → List Goal → ℕ → List Noted → Option (List Noted)
run_opened before [] goals count noted = run [] goals count noted
run_opened before (t ∷ ts) goals count noted = going (opened before (next goals (spot_at noted count) (sort_of t.kind))) noted (run ts)

pub run_opened_as : (before : ℕ) (t : Terminal) (sort : Sort) (ts : List Terminal) (goals : List Goal) (count : ℕ) (noted : List Noted) → sort_of t.kind ≡ sort
    → run_opened before (t ∷ ts) goals count noted ≡ going (opened before (next goals (spot_at noted count) sort)) noted (run ts)
run_opened_as before t sort ts goals count noted e = ap (λ x. going (opened before (next goals (spot_at noted count) x)) noted (run ts)) e

abbrev pub run_by : Mode → List Terminal → List Goal → ℕ → List Noted → Option (List Noted)
run_by bare ts goals count noted = run ts goals count noted
run_by assigning ts goals count noted = run ts goals count noted
run_by (acting before) ts goals count noted = run_opened before ts goals count noted

abbrev pub note_by : Mode → ℕ → ℕ → Mark → Noted
note_by bare depth count x = noted_at depth count x
note_by assigning depth count x = noted_at depth count x
note_by (acting before) depth count x = opened_at before depth count x

abbrev pub place_by : Mode → ℕ → ℕ → List Mark → List Noted → List Noted
place_by bare depth count ms noted = place depth count ms noted
place_by assigning depth count ms noted = place depth count ms noted
place_by (acting before) depth count ms noted = place_opened before depth count ms noted

pub place_by-first : (m : Mode) (depth count : ℕ) (x : Mark) (ms : List Mark) (noted : List Noted) → place_by m depth count (x ∷ ms) noted ≡ place depth (count_at count x.counts) ms (note_by m depth count x ∷ noted)
place_by-first bare depth count x ms noted = refl
place_by-first assigning depth count x ms noted = refl
place_by-first (acting before) depth count x ms noted = refl

pub place_by-append : (m : Mode) (depth count : ℕ) (ms ns : List Mark) (noted : List Noted) → SomeMarks ms
    → place_by m depth count (ms ++ ns) noted ≡ place depth (count_after count ms) ns (place_by m depth count ms noted)
place_by-append bare depth count ms ns noted s = place-append depth count ms ns noted
place_by-append assigning depth count ms ns noted s = place-append depth count ms ns noted
place_by-append (acting before) depth count ms ns noted s = place_opened-append before depth count ms ns noted s

pub place_by-pair : (m : Mode) (depth count : ℕ) (ms rest : List Mark) (noted : List Noted) → count_after count ms ≡ count
    → place_by m depth count (pair ms rest) noted ≡ place depth count rest (noted_at depth count closing ∷ place (deeper depth) count ms (note_by m depth count plain ∷ noted))
place_by-pair m depth count ms rest noted e =
    place_by-first m depth count plain (inside ms ++ closing ∷ rest) noted ∙ place-closing depth count ms rest (note_by m depth count plain ∷ noted) e

pub held_by : (m : Mode) (depth count : ℕ) (x : Mark) (ms : List Mark) (noted : List Noted)
    → hold_from (length noted) (place_by m depth count (x ∷ ms) noted) ≡ place_by m depth count (held (x ∷ ms)) noted
held_by bare depth count x ms noted = held_from depth count x ms noted
held_by assigning depth count x ms noted = held_from depth count x ms noted
held_by (acting before) depth count x ms noted = opened_held before depth count x ms noted

abbrev pub ReadsOperand : List Terminal → List Mark → Type 0
ReadsOperand ts ms = (m : Mode) (depth count : ℕ) (goals : List Goal) (noted : List Noted) (us : List Terminal) → at_first ends_operand us ≡ true → Proper m ts us
    → run_by m (ts ++ us) (start m depth goals) count noted ≡ run us (finish m depth (length noted) goals) (count_after count ms) (place_by m depth count ms noted)

abbrev pub ReadsBinary : List Terminal → List Mark → Type 0
ReadsBinary ts ms = (m : Mode) (first depth count : ℕ) (goals : List Goal) (noted : List Noted) (us : List Terminal) → at_first ends_operand us ≡ true → Proper m ts us
    → run_by m (ts ++ us) (begin m first depth goals) count noted ≡ run us (G.Operators depth (first_of m first (length noted)) ∷ goals) (count_after count ms) (place_by m depth count ms noted)

abbrev pub ReadsChoice : List Terminal → List Mark → Type 0
ReadsChoice ts ms = (m : Mode) (depth count : ℕ) (goals : List Goal) (noted : List Noted) (us : List Terminal) → at_first ends_choice us ≡ true → Proper m ts us
    → run_by m (ts ++ us) (begin m (length noted) depth goals) count noted ≡ run us goals (count_after count ms) (place_by m depth count ms noted)

abbrev pub ReadsAssign : List Terminal → List Mark → Type 0
ReadsAssign ts ms = (depth count : ℕ) (goals : List Goal) (noted : List Noted) (us : List Terminal) → at_first ends_choice us ≡ true
    → run (ts ++ us) (G.Assign depth ∷ goals) count noted ≡ run us goals (count_after count ms) (place depth count ms noted)

abbrev pub ReadsComma : List Terminal → List Mark → Type 0
ReadsComma ts ms = (depth count : ℕ) (goals : List Goal) (noted : List Noted) (us : List Terminal) → at_first ends_choice us ≡ true
    → run (ts ++ us) (G.Assign depth ∷ G.Commas depth ∷ goals) count noted ≡ run us (G.Commas depth ∷ goals) (count_after count ms) (place depth count ms noted)

-- what an expression of each level claims
pub record Claims (n : ℕ) (ts : List Terminal) (ms : List Mark) : Type 0 where
  pub as_operand : n ≤ 2 → ReadsOperand ts ms
  pub as_binary : n ≤ 12 → ReadsBinary ts ms
  pub as_choice : n ≤ 13 → ReadsChoice ts ms
  pub as_assign : n ≤ 14 → ReadsAssign ts ms
  pub as_comma : ReadsComma ts ms

operand_binary : (ts : List Terminal) (ms : List Mark) → ReadsOperand ts ms → ReadsBinary ts ms
operand_binary ts ms f bare first depth count goals noted us e pr = f bare depth count (G.Operators depth first ∷ goals) noted us e pr
operand_binary ts ms f assigning first depth count goals noted us e pr = f assigning depth count goals noted us e pr
operand_binary ts ms f (acting before) first depth count goals noted us e pr = f (acting before) depth count goals noted us e pr

binary_choice : (ts : List Terminal) (ms : List Mark) → ReadsBinary ts ms → ReadsChoice ts ms
binary_choice ts ms f m depth count goals noted us e pr =
    f m (length noted) depth count goals noted us (for_operand us e) pr
    ∙ skip_operators us e depth (first_of m (length noted) (length noted)) goals (count_after count ms) (place_by m depth count ms noted)

choice_assign : (ts : List Terminal) (ms : List Mark) → ReadsChoice ts ms → ReadsAssign ts ms
choice_assign ts ms f depth count goals noted us e = f assigning depth count goals noted us e tt

assign_comma : (ts : List Terminal) (ms : List Mark) → ReadsAssign ts ms → ReadsComma ts ms
assign_comma ts ms f depth count goals noted us e = f depth count (G.Commas depth ∷ goals) noted us e

pub by_comma : (n : ℕ) (ts : List Terminal) (ms : List Mark) → (n ≤ 14 → ⊥) → ReadsComma ts ms → Claims n ts ms
by_comma n ts ms no_way f = record {
  as_operand = λ h. absurd (no_way (omega (arith, h)));
  as_binary = λ h. absurd (no_way (omega (arith, h)));
  as_choice = λ h. absurd (no_way (omega (arith, h)));
  as_assign = λ h. absurd (no_way h);
  as_comma = f;
}

pub by_assign : (n : ℕ) (ts : List Terminal) (ms : List Mark) → (n ≤ 13 → ⊥) → ReadsAssign ts ms → Claims n ts ms
by_assign n ts ms no_way f = record {
  as_operand = λ h. absurd (no_way (omega (arith, h)));
  as_binary = λ h. absurd (no_way (omega (arith, h)));
  as_choice = λ h. absurd (no_way h);
  as_assign = λ h. f;
  as_comma = assign_comma ts ms f;
}

pub by_choice : (n : ℕ) (ts : List Terminal) (ms : List Mark) → (n ≤ 12 → ⊥) → ReadsChoice ts ms → Claims n ts ms
by_choice n ts ms no_way f = record {
  as_operand = λ h. absurd (no_way (omega (arith, h)));
  as_binary = λ h. absurd (no_way h);
  as_choice = λ h. f;
  as_assign = λ h. choice_assign ts ms f;
  as_comma = assign_comma ts ms (choice_assign ts ms f);
}

pub by_binary : (n : ℕ) (ts : List Terminal) (ms : List Mark) → (n ≤ 2 → ⊥) → ReadsBinary ts ms → Claims n ts ms
by_binary n ts ms no_way f = record {
  as_operand = λ h. absurd (no_way h);
  as_binary = λ h. f;
  as_choice = λ h. binary_choice ts ms f;
  as_assign = λ h. choice_assign ts ms (binary_choice ts ms f);
  as_comma = assign_comma ts ms (choice_assign ts ms (binary_choice ts ms f));
}

pub by_operand : (n : ℕ) (ts : List Terminal) (ms : List Mark) → ReadsOperand ts ms → Claims n ts ms
by_operand n ts ms f = let b = operand_binary ts ms f in record {
  as_operand = λ h. f;
  as_binary = λ h. b;
  as_choice = λ h. binary_choice ts ms b;
  as_assign = λ h. choice_assign ts ms (binary_choice ts ms b);
  as_comma = assign_comma ts ms (choice_assign ts ms (binary_choice ts ms b));
}

pub tighter : (n : ℕ) (ts : List Terminal) (ms : List Mark) → Claims n ts ms → Claims (suc n) ts ms
tighter n ts ms c = record {
  as_operand = λ h. c.as_operand (omega (arith, h));
  as_binary = λ h. c.as_binary (omega (arith, h));
  as_choice = λ h. c.as_choice (omega (arith, h));
  as_assign = λ h. c.as_assign (omega (arith, h));
  as_comma = c.as_comma;
}

-- ---- subscripts

abbrev pub Whole : List Terminal → List Mark → Type 0
Whole ts ms = (depth count : ℕ) (goals : List Goal) (noted : List Noted) (us : List Terminal) → at_first ends_all us ≡ true
    → run (ts ++ us) (G.Expression depth ∷ goals) count noted ≡ run us goals (count_after count ms) (place depth count ms noted)

pub whole_expression : (ts : List Terminal) (ms : List Mark) → ReadsComma ts ms → Whole ts ms
whole_expression ts ms f depth count goals noted us e =
    expression_goal (ts ++ us) depth goals count noted ∙ f depth count goals noted us (for_choice us e) ∙ skip_commas us e depth goals (count_after count ms) (place depth count ms noted)

abbrev pub ReadsSubscripts : List Terminal → List Mark → Type 0
ReadsSubscripts ts ms = (a : After) (named : Bool) (depth count : ℕ) (goals : List Goal) (noted : List Noted) (us : List Terminal) → at_first no_bracket us ≡ true
    → run (ts ++ us) (after a named depth ∷ goals) count noted ≡ run us (after a false depth ∷ goals) count (place depth count ms noted)

pub no_subscripts : ReadsSubscripts [] []
no_subscripts a named depth count goals noted us e =
    same_goal no_bracket (after a named depth) (after a false depth) (after_optional a named depth) (after_optional a false depth) (unnamed a named depth) us e goals count noted

pub more_subscripts : (opens closes : Place) (ts vs : List Terminal) (ms ns : List Mark) → Whole ts ms → ReadsSubscripts vs ns
    → ReadsSubscripts (sign p.LeftBracket opens ∷ (ts ++ sign p.RightBracket closes ∷ vs)) (pair (whole ms) ns)
more_subscripts opens closes ts vs ms ns f h a named depth count goals noted us e =
    bracket a named depth opens ((ts ++ sign p.RightBracket closes ∷ vs) ++ us) goals count noted
    ∙ ap (λ x. run x (G.Expression (deeper depth) ∷ G.CloseBracket depth count ∷ after a false depth ∷ goals) 0 (noted_at depth count plain ∷ noted)) (append_assoc ts (sign p.RightBracket closes ∷ vs) us)
    ∙ f (deeper depth) 0 (G.CloseBracket depth count ∷ after a false depth ∷ goals) (noted_at depth count plain ∷ noted) (sign p.RightBracket closes ∷ (vs ++ us)) refl
    ∙ h a false depth count goals (noted_at depth count closing ∷ place (deeper depth) 0 ms (noted_at depth count plain ∷ noted)) us e
    ∙ ap (λ x. run us (after a false depth ∷ goals) count (place depth count ns (noted_at depth count closing ∷ x))) (sym (place-whole (deeper depth) count ms (noted_at depth count plain ∷ noted)))
    ∙ ap (λ x. run us (after a false depth ∷ goals) count x) (sym (place-pair depth count (whole ms) ns noted (count-whole count ms)))

pub subscript_count : {ts : List Terminal} {es : Trees} (d : DerivesSubscripts ts es) (count : ℕ) → count_after count (subscript_marks d) ≡ count
subscript_count g.no_subscript count = refl
subscript_count (g.a_subscript _ _ _ _ _ _ d ds) count = count-pair count (whole (marks d)) (subscript_marks ds) (count-whole count (marks d)) ∙ subscript_count ds count

pub target_count : {ts : List Terminal} {t : TargetTree} (d : DerivesTarget ts t) (count : ℕ) → count_after count (target_marks d) ≡ count
target_count (g.a_target _ _ _ _ _ d) count = subscript_count d count

-- ---- operands

-- behind a name with its subscripts stands the end of the operand
abbrev pub named_goals : Mode → Bool → ℕ → ℕ → List Goal → List Goal
named_goals bare named depth first goals = G.AfterOperand named depth ∷ goals
named_goals assigning named depth first goals = G.AfterTarget named false depth first ∷ goals
named_goals (acting before) named depth first goals = G.AfterTarget named true depth first ∷ goals

-- a name
pub name_start : (m : Mode) (text : List ℕ) (at : Place) → is_keyword text ≡ false → (depth count : ℕ) (goals : List Goal) (noted : List Noted) (us : List Terminal)
    → run_by m (word text at ∷ us) (start m depth goals) count noted ≡ run us (named_goals m true depth (length noted) goals) count (note_by m depth count plain ∷ noted)
name_start bare text at free depth count goals noted us = run_as (word text at) o.Name us (G.Operand depth ∷ goals) count noted (name_sort text free)
name_start assigning text at free depth count goals noted us = run_as (word text at) o.Name us (G.Assign depth ∷ goals) count noted (name_sort text free)
name_start (acting before) text at free depth count goals noted us = run_opened_as before (word text at) o.Name us (G.Action depth ∷ goals) count noted (name_sort text free)

pub name_subscripts : (m : Mode) (ts : List Terminal) (ms : List Mark) → ReadsSubscripts ts ms → (named : Bool) (depth count first : ℕ) (goals : List Goal) (noted : List Noted) (us : List Terminal) → at_first no_bracket us ≡ true
    → run (ts ++ us) (named_goals m named depth first goals) count noted ≡ run us (named_goals m false depth first goals) count (place depth count ms noted)
name_subscripts bare ts ms f named depth count first goals noted us e = f operand named depth count goals noted us e
name_subscripts assigning ts ms f named depth count first goals noted us e = f (target false first) named depth count goals noted us e
name_subscripts (acting before) ts ms f named depth count first goals noted us e = f (target true first) named depth count goals noted us e

-- the operand ends behind them
name_ends : (m : Mode) (named : Bool) (depth count first : ℕ) (goals : List Goal) (noted : List Noted) (us : List Terminal) → at_first ends_operand us ≡ true
    → run us (named_goals m named depth first goals) count noted ≡ run us (finish m depth first goals) count noted
name_ends bare named depth count first goals noted us e = skip ends_operand (G.AfterOperand named depth) refl (after_operand_ends named depth) us e goals count noted
name_ends assigning named depth count first goals noted us e =
    same_goal ends_operand (G.AfterTarget named false depth first) (G.Operators depth first) refl refl (after_target_ends named false depth first) us e goals count noted
name_ends (acting before) named depth count first goals noted us e =
    same_goal ends_operand (G.AfterTarget named true depth first) (G.Operators depth first) refl refl (after_target_ends named true depth first) us e goals count noted

-- `++` or `--` behind it
pub name_bumped : (m : Mode) (punct : Punct) (up : Bool) (at : Place) → bump_of punct ≡ Some up → (named : Bool) (depth count first : ℕ) (goals : List Goal) (noted : List Noted) (us : List Terminal)
    → run (sign punct at ∷ us) (named_goals m named depth first goals) count noted ≡ run us (finish m depth first goals) count (noted_at depth count plain ∷ noted)
name_bumped bare punct up at e named depth count first goals noted us = run_as (sign punct at) o.Bump us (G.AfterOperand named depth ∷ goals) count noted (bump_sort punct up e)
name_bumped assigning punct up at e named depth count first goals noted us = run_as (sign punct at) o.Bump us (G.AfterTarget named false depth first ∷ goals) count noted (bump_sort punct up e)
name_bumped (acting before) punct up at e named depth count first goals noted us = run_as (sign punct at) o.Bump us (G.AfterTarget named true depth first ∷ goals) count noted (bump_sort punct up e)

pub name_reads : (text : List ℕ) (at : Place) (ts : List Terminal) (ms : List Mark) → is_keyword text ≡ false → ReadsSubscripts ts ms → ((count : ℕ) → count_after count ms ≡ count) → ReadsOperand (word text at ∷ ts) (plain ∷ ms)
name_reads text at ts ms free f same m depth count goals noted us e pr =
    name_start m text at free depth count goals noted (ts ++ us)
    ∙ name_subscripts m ts ms f true depth count (length noted) goals (note_by m depth count plain ∷ noted) us (weaker ends_operand no_bracket operand_bracket us e)
    ∙ name_ends m false depth count (length noted) goals (place depth count ms (note_by m depth count plain ∷ noted)) us e
    ∙ ap (λ x. run us (finish m depth (length noted) goals) count x) (sym (place_by-first m depth count plain ms noted))
    ∙ ap (λ c. run us (finish m depth (length noted) goals) c (place_by m depth count (plain ∷ ms) noted)) (sym (same count))

-- a call
call_start : (m : Mode) (opens : Place) (depth count first : ℕ) (goals : List Goal) (noted : List Noted) (us : List Terminal)
    → run (sign p.LeftParen opens ∷ us) (named_goals m true depth first goals) count noted
    ≡ run us (G.Arguments (deeper depth) ∷ G.CloseParen depth count ∷ finish m depth first goals) 0 (noted_at depth count plain ∷ noted)
call_start bare opens depth count first goals noted us = refl
call_start assigning opens depth count first goals noted us = refl
call_start (acting before) opens depth count first goals noted us = refl

abbrev pub ReadsArguments : List Terminal → List Mark → Type 0
ReadsArguments ts ms = (depth count : ℕ) (goals : List Goal) (noted : List Noted) (at : Place) (us : List Terminal)
    → run (ts ++ sign p.RightParen at ∷ us) (G.Arguments (deeper depth) ∷ G.CloseParen depth count ∷ goals) 0 noted
    ≡ run us goals count (noted_at depth count closing ∷ place (deeper depth) count ms noted)

pub call_reads : (text : List ℕ) (at opens closes : Place) (ts : List Terminal) (ms : List Mark) → is_keyword text ≡ false → ReadsArguments ts ms → ((count : ℕ) → count_after count ms ≡ count)
    → ReadsOperand (word text at ∷ sign p.LeftParen opens ∷ (ts ++ sign p.RightParen closes ∷ [])) (plain ∷ pair ms [])
call_reads text at opens closes ts ms free f same m depth count goals noted us e pr =
    let first = note_by m depth count plain ∷ noted in
    name_start m text at free depth count goals noted (sign p.LeftParen opens ∷ ((ts ++ sign p.RightParen closes ∷ []) ++ us))
    ∙ call_start m opens depth count (length noted) goals first ((ts ++ sign p.RightParen closes ∷ []) ++ us)
    ∙ ap (λ x. run x (G.Arguments (deeper depth) ∷ G.CloseParen depth count ∷ finish m depth (length noted) goals) 0 (noted_at depth count plain ∷ first)) (append_assoc ts (sign p.RightParen closes ∷ []) us)
    ∙ f depth count (finish m depth (length noted) goals) (noted_at depth count plain ∷ first) closes us
    ∙ ap (λ x. run us (finish m depth (length noted) goals) count x) (sym (place_by-first m depth count plain (pair ms []) noted ∙ place-pair depth count ms [] first (same count)))
    ∙ ap (λ c. run us (finish m depth (length noted) goals) c (place_by m depth count (plain ∷ pair ms []) noted)) (sym (count-pair count ms [] (same count)))

-- the other beginnings of an operand are the same in each mode
number_start : (m : Mode) (value : ℕ) (type : CType) (at : Place) (depth count : ℕ) (goals : List Goal) (noted : List Noted) (us : List Terminal)
    → run_by m (terminal (k.Number value type) at ∷ us) (start m depth goals) count noted ≡ run us (finish m depth (length noted) goals) count (note_by m depth count plain ∷ noted)
number_start bare value type at depth count goals noted us = refl
number_start assigning value type at depth count goals noted us = refl
number_start (acting before) value type at depth count goals noted us = refl

pub group_start : (m : Mode) (at : Place) (depth count : ℕ) (goals : List Goal) (noted : List Noted) (us : List Terminal)
    → run_by m (sign p.LeftParen at ∷ us) (start m depth goals) count noted ≡ run us (G.Group depth ∷ finish m depth (length noted) goals) count (note_by m depth count plain ∷ noted)
group_start bare at depth count goals noted us = refl
group_start assigning at depth count goals noted us = refl
group_start (acting before) at depth count goals noted us = refl

prefix_start : (m : Mode) (t : Terminal) (sort : Sort) → (sort ≡ o.Prefix) ⊎ (sort ≡ o.Sign) → sort_of t.kind ≡ sort → (depth count : ℕ) (goals : List Goal) (noted : List Noted) (us : List Terminal)
    → run_by m (t ∷ us) (start m depth goals) count noted ≡ run us (G.Operand (deeper depth) ∷ finish m depth (length noted) goals) count (note_by m depth count plain ∷ noted)
prefix_start bare t sort (inl f) e depth count goals noted us = run_as t o.Prefix us (G.Operand depth ∷ goals) count noted (e ∙ f)
prefix_start bare t sort (inr f) e depth count goals noted us = run_as t o.Sign us (G.Operand depth ∷ goals) count noted (e ∙ f)
prefix_start assigning t sort (inl f) e depth count goals noted us = run_as t o.Prefix us (G.Assign depth ∷ goals) count noted (e ∙ f)
prefix_start assigning t sort (inr f) e depth count goals noted us = run_as t o.Sign us (G.Assign depth ∷ goals) count noted (e ∙ f)
prefix_start (acting before) t sort (inl f) e depth count goals noted us = run_opened_as before t o.Prefix us (G.Action depth ∷ goals) count noted (e ∙ f)
prefix_start (acting before) t sort (inr f) e depth count goals noted us = run_opened_as before t o.Sign us (G.Action depth ∷ goals) count noted (e ∙ f)

pub number_reads : (value : ℕ) (type : CType) (at : Place) → ReadsOperand (terminal (k.Number value type) at ∷ []) (plain ∷ [])
number_reads value type at m depth count goals noted us e pr =
    number_start m value type at depth count goals noted us ∙ ap (λ x. run us (finish m depth (length noted) goals) count x) (sym (place_by-first m depth count plain [] noted))

pub prefix_reads : (punct : Punct) (op : Unary) (at : Place) (ts : List Terminal) (ms : List Mark) → prefix_of punct ≡ Some op → ReadsOperand ts ms → ReadsOperand (sign punct at ∷ ts) (plain ∷ inside ms)
prefix_reads punct op at ts ms o f m depth count goals noted us e pr =
    prefix_start m (sign punct at) (sort_of_sign punct) (prefix_sort punct op o) refl depth count goals noted (ts ++ us)
    ∙ f bare (deeper depth) count (finish m depth (length noted) goals) (note_by m depth count plain ∷ noted) us e tt
    ∙ ap (λ x. run us (finish m depth (length noted) goals) (count_after count ms) x) (sym (place_by-first m depth count plain (inside ms) noted ∙ place-inside depth count ms (note_by m depth count plain ∷ noted)))
    ∙ ap (λ c. run us (finish m depth (length noted) goals) c (place_by m depth count (plain ∷ inside ms) noted)) (sym (count-inside count ms))
