-- The goals take each token of actions, objects and declarations.
use Rattle.std.proofs.Common.{◌≡◌, ℕ, Bool, true, false, List, [], ◌∷◌, ◌++◌, length, Option, Some, None, inl, inr, refl, ap, sym, ◌∙◌, arith, append_assoc}
use Rattle.std.specs.Prelude.{if◌then◌else◌, is_some}
use Rattle.hls_base.specs.declared.place.Place.{Place}
use Rattle.c_token.specs.declared.ctype.CType.{CType}
use Rattle.c_token.specs.declared.punct.Punct.{Punct}
use Rattle.c_token.specs.declared.punct.Punct.TheVariants as p
use Rattle.c_tree.specs.declared.operator.Binary.{Binary}
use Rattle.c_tree.specs.Terminals.{Terminal, sign, word, assignment_of}
use Rattle.c_tree.specs.Tree.{Tree, TargetTree, Trees, ActionTree, InitTree, InitTrees, ObjectTree}
use Rattle.c_tree.specs.Grammar as g
use Rattle.c_tree.specs.Grammar.{Derives, DerivesSubscripts, DerivesOptional, DerivesChange, DerivesAction, DerivesActionList, DerivesActions, DerivesInit, DerivesInits, DerivesInitialiser, DerivesLengths, DerivesObject, DerivesObjects, DerivesDeclaration}
use Rattle.c_tree.specs.Limits.{plain, closing, whole, flat, marks, target_marks, subscript_marks, optional_marks, change_marks, action_marks, action_list_marks, actions_marks, init_marks, inits_marks, initialiser_marks, length_marks, object_marks, objects_marks, declaration_marks}
use Rattle.c_syntax.specs.declared.steps.goal.Goal.{Goal}
use Rattle.c_syntax.specs.declared.steps.goal.Goal.TheVariants as G
use Rattle.c_syntax.specs.declared.steps.goal.Spot.{Spot}
use Rattle.c_syntax.specs.declared.sorts.sort.Sort.{Sort}
use Rattle.c_syntax.specs.declared.sorts.sort.Sort.TheVariants as o
use Rattle.c_syntax.specs.Sorts.{sort_of, begins_operand}
use Rattle.c_syntax.specs.Steps.{Step, deeper, opened, step_of, taken_or, next, behind, choice, assign, action, init}
use Rattle.c_syntax.proofs.Seen.{name_sort}
use Rattle.c_syntax.proofs.Noting.{Noted}
use Rattle.c_syntax.proofs.Marking.{run, going, place, count_after, noted_at, put, put_at, put-append, put-pair, put-whole, put-flat, place-pair, place-whole, count-whole, SomeMarks, marks_more, from_plain, whole_some, opened_at, place_opened, put_opened, put_opened-append, put_opened-same, put_opened-whole}
use Rattle.c_syntax.proofs.Completing.{assignment_sort, bump_sort, at_first, ends_operand, ends_choice, ends_all, no_bracket, for_operand, for_choice, spot_at, run_as, skip, choice_goal, expression_goal, skip_operators, bumping, acting, bare, whole_expression, name_bumped, operand_bracket, weaker, run_opened}
use Rattle.c_syntax.proofs.CompletingTypes.{kind_run, anywhere, no_kind}
use Rattle.c_syntax.proofs.CompletingExpressions.{Starts, starts, starts_more, taken_optional, assign_some, claims, target_read, subscripts_read, assignment_no_bracket, bump_no_bracket, bump_action, target_some, some_marks}

-- ---- from goals to goals, with whatever count of operators

pub record Passes (w : List Terminal) (goals : List Goal) (count : ℕ) (noted : List Noted) (us : List Terminal) (left : List Goal) (new : List Noted) : Type 0 where
  pub final : ℕ
  pub same : run w goals count noted ≡ run us left final new

pub via : {w us vs : List Terminal} {goals left last : List Goal} {count : ℕ} {noted new end : List Noted} → Passes w goals count noted us left new → ((c : ℕ) → Passes us left c new vs last end)
    → Passes w goals count noted vs last end
via a f = let b = f a.final in record { final = b.final; same = a.same ∙ b.same }

pub same_tokens : {w v us : List Terminal} {goals left : List Goal} {count : ℕ} {noted new : List Noted} → w ≡ v → Passes v goals count noted us left new → Passes w goals count noted us left new
same_tokens {goals = goals} {count = count} {noted = noted} e a = record { final = a.final; same = ap (λ x. run x goals count noted) e ∙ a.same }

pub same_notes : {w us : List Terminal} {goals left : List Goal} {count : ℕ} {noted new end : List Noted} → Passes w goals count noted us left new → new ≡ end → Passes w goals count noted us left end
same_notes {us = us} {left = left} a e = record { final = a.final; same = a.same ∙ ap (λ x. run us left a.final x) e }

pub at_once : {w us : List Terminal} {goals left : List Goal} {count : ℕ} {noted new : List Noted} (c : ℕ) → run w goals count noted ≡ run us left c new → Passes w goals count noted us left new
at_once c e = record { final = c; same = e }

pub after_run : {w us vs : List Terminal} {goals left last : List Goal} {count c : ℕ} {noted new end : List Noted} → run w goals count noted ≡ run us left c new → Passes us left c new vs last end
    → Passes w goals count noted vs last end
after_run e a = record { final = a.final; same = e ∙ a.same }

-- ---- whole expressions

pub expression_pass : {ts : List Terminal} {e : Tree} (d : Derives 15 ts e) (depth : ℕ) (goals : List Goal) (noted : List Noted) (us : List Terminal) → at_first ends_all us ≡ true
    → Passes (ts ++ us) (G.Expression depth ∷ goals) 0 noted us goals (put depth (whole (marks d)) noted)
expression_pass {ts} d depth goals noted us e =
    at_once (count_after 0 (marks d)) (whole_expression ts (marks d) (claims d).as_comma depth 0 goals noted us e ∙ ap (λ x. run us goals (count_after 0 (marks d)) x) (sym (put-whole depth (marks d) noted)))

pub assign_pass : {ts : List Terminal} {e : Tree} (d : Derives 14 ts e) (depth : ℕ) (goals : List Goal) (noted : List Noted) (us : List Terminal) → at_first ends_choice us ≡ true
    → Passes (ts ++ us) (G.Assign depth ∷ goals) 0 noted us goals (put depth (whole (marks d)) noted)
assign_pass d depth goals noted us e =
    at_once (count_after 0 (marks d)) ((claims d).as_assign (omega arith) depth 0 goals noted us e ∙ ap (λ x. run us goals (count_after 0 (marks d)) x) (sym (put-whole depth (marks d) noted)))

pub choice_pass : {ts : List Terminal} {e : Tree} (d : Derives 13 ts e) (depth : ℕ) (goals : List Goal) (noted : List Noted) (us : List Terminal) → at_first ends_choice us ≡ true
    → Passes (ts ++ us) (G.Choice depth ∷ goals) 0 noted us goals (put depth (whole (marks d)) noted)
choice_pass {ts} d depth goals noted us e =
    at_once (count_after 0 (marks d)) (choice_goal (ts ++ us) depth goals 0 noted ∙ (claims d).as_choice (omega arith) bare depth 0 goals noted us e tt
    ∙ ap (λ x. run us goals (count_after 0 (marks d)) x) (sym (put-whole depth (marks d) noted)))

-- ---- optional expressions

abbrev pub no_operand : Sort → Bool
no_operand sort = if begins_operand sort then false else true

none_of : (P : Bool) → (if P then false else true) ≡ true → P ≡ false
none_of true e = absurd cc
none_of false e = refl

assign_none : (spot : Spot) (depth : ℕ) (sort : Sort) → no_operand sort ≡ true → assign spot depth sort ≡ None
assign_none spot depth o.Name e = absurd cc
assign_none spot depth o.Number e = absurd cc
assign_none spot depth o.LeftParen e = absurd cc
assign_none spot depth o.Prefix e = absurd cc
assign_none spot depth o.Sign e = absurd cc
assign_none spot depth o.Bump e = absurd cc
assign_none spot depth _ e = refl

choice_none : (spot : Spot) (depth : ℕ) (sort : Sort) → no_operand sort ≡ true → choice spot depth sort ≡ None
choice_none spot depth o.Name e = absurd cc
choice_none spot depth o.Number e = absurd cc
choice_none spot depth o.LeftParen e = absurd cc
choice_none spot depth o.Prefix e = absurd cc
choice_none spot depth o.Sign e = absurd cc
choice_none spot depth o.Bump e = absurd cc
choice_none spot depth _ e = refl

action_none : (spot : Spot) (depth : ℕ) (sort : Sort) → no_operand sort ≡ true → action spot depth sort ≡ None
action_none spot depth o.Name e = absurd cc
action_none spot depth o.Number e = absurd cc
action_none spot depth o.LeftParen e = absurd cc
action_none spot depth o.Prefix e = absurd cc
action_none spot depth o.Sign e = absurd cc
action_none spot depth o.Bump e = absurd cc
action_none spot depth _ e = refl

choice_some : (spot : Spot) (depth : ℕ) (sort : Sort) → begins_operand sort ≡ true → is_some (choice spot depth sort) ≡ true
choice_some spot depth o.Name e = refl
choice_some spot depth o.Number e = refl
choice_some spot depth o.LeftParen e = refl
choice_some spot depth o.Prefix e = refl
choice_some spot depth o.Sign e = refl
choice_some spot depth o.Bump e = refl
choice_some spot depth _ e = absurd cc

action_some : (spot : Spot) (depth : ℕ) (sort : Sort) → begins_operand sort ≡ true → is_some (action spot depth sort) ≡ true
action_some spot depth o.Name e = refl
action_some spot depth o.Number e = refl
action_some spot depth o.LeftParen e = refl
action_some spot depth o.Prefix e = refl
action_some spot depth o.Sign e = refl
action_some spot depth o.Bump e = refl
action_some spot depth _ e = absurd cc

taken_any : (found : Option Step) → is_some found ≡ true → (goals : List Goal) (first second : Option Step) → taken_or found true goals first ≡ taken_or found false goals second
taken_any None e goals first second = absurd cc
taken_any (Some step) e goals first second = refl

pub optional_choice_pass : {ts : List Terminal} {e : Option Tree} (d : DerivesOptional 13 ts e) (depth : ℕ) (goals : List Goal) (noted : List Noted) (us : List Terminal)
    → at_first ends_choice us ≡ true → at_first no_operand us ≡ true → Passes (ts ++ us) (G.OptionalChoice depth ∷ goals) 0 noted us goals (put depth (optional_marks d) noted)
optional_choice_pass (g.absent n) depth goals noted us e f = at_once 0 (skip no_operand (G.OptionalChoice depth) refl (λ spot sort h. choice_none spot depth sort h) us f goals 0 noted)
optional_choice_pass (g.present n ts inner d) depth goals noted us e f =
    let s = starts d in let w = s.rest ++ us in let sort = sort_of s.first.kind in let spot = spot_at noted 0 in
    after_run (ap (λ x. run (x ++ us) (G.OptionalChoice depth ∷ goals) 0 noted) s.shape
    ∙ ap (λ x. going x noted (run w)) (taken_any (choice spot depth sort) (choice_some spot depth sort s.begins) goals (next goals spot sort) (next goals spot sort))
    ∙ ap (λ x. run (x ++ us) (G.Choice depth ∷ goals) 0 noted) (sym s.shape)) (choice_pass d depth goals noted us e)

expression_none : (depth : ℕ) (spot : Spot) (sort : Sort) → no_operand sort ≡ true → step_of (G.OptionalExpression depth) spot sort ≡ None
expression_none depth spot sort e = ap (behind (G.Commas depth ∷ [])) (assign_none spot depth sort e)

pub optional_expression_pass : {ts : List Terminal} {e : Option Tree} (d : DerivesOptional 15 ts e) (depth : ℕ) (goals : List Goal) (noted : List Noted) (us : List Terminal)
    → at_first ends_all us ≡ true → at_first no_operand us ≡ true → Passes (ts ++ us) (G.OptionalExpression depth ∷ goals) 0 noted us goals (put depth (optional_marks d) noted)
optional_expression_pass (g.absent n) depth goals noted us e f = at_once 0 (skip no_operand (G.OptionalExpression depth) refl (expression_none depth) us f goals 0 noted)
optional_expression_pass (g.present n ts inner d) depth goals noted us e f =
    let s = starts d in let w = s.rest ++ us in let sort = sort_of s.first.kind in let spot = spot_at noted 0 in
    after_run (ap (λ x. run (x ++ us) (G.OptionalExpression depth ∷ goals) 0 noted) s.shape
    ∙ ap (λ x. going x noted (run w)) (taken_optional (assign spot depth sort) (assign_some spot depth sort s.begins) (G.Commas depth ∷ []) goals (next goals spot sort) (next (G.Commas depth ∷ goals) spot sort))
    ∙ ap (λ x. run (x ++ us) (G.Assign depth ∷ G.Commas depth ∷ goals) 0 noted) (sym s.shape)
    ∙ sym (expression_goal (ts ++ us) depth goals 0 noted)) (expression_pass d depth goals noted us e)

-- ---- actions

subscripts_put : {ts : List Terminal} {es : Trees} (d : DerivesSubscripts ts es) (depth count : ℕ) (noted : List Noted) → place depth count (subscript_marks d) noted ≡ put depth (subscript_marks d) noted
subscripts_put g.no_subscript depth count noted = refl
subscripts_put (g.a_subscript _ _ _ _ _ _ d ds) depth count noted =
    place-pair depth count (whole (marks d)) (subscript_marks ds) noted (count-whole count (marks d))
    ∙ subscripts_put ds depth count (noted_at depth count closing ∷ place (deeper depth) count (whole (marks d)) (noted_at depth count plain ∷ noted))
    ∙ ap (λ x. put depth (subscript_marks ds) (put_at depth closing ∷ x)) (place-whole (deeper depth) count (marks d) (put_at depth plain ∷ noted) ∙ sym (put-whole (deeper depth) (marks d) (put_at depth plain ∷ noted)))
    ∙ sym (put-pair depth (whole (marks d)) (subscript_marks ds) noted)

action_assignment : (punct : Punct) (op : Option Binary) (at : Place) → assignment_of punct ≡ Some op → (us : List Terminal) (depth first count : ℕ) (goals : List Goal) (noted : List Noted)
    → run (sign punct at ∷ us) (G.AfterTarget false true depth first ∷ goals) count noted ≡ run us (G.Assign depth ∷ goals) 0 (put_at depth plain ∷ noted)
action_assignment punct op at e us depth first count goals noted = elim (assignment_sort punct op e) [
  | inl f ↦ run_as (sign punct at) o.Equal us (G.AfterTarget false true depth first ∷ goals) count noted f
  | inr f ↦ run_as (sign punct at) o.Assignment us (G.AfterTarget false true depth first ∷ goals) count noted f
]

bumping_end : (depth first : ℕ) (spot : Spot) (sort : Sort) → ends_choice sort ≡ true → step_of (G.ActionSubscripts depth first) spot sort ≡ None
bumping_end depth first spot o.LeftBracket e = absurd cc
bumping_end depth first spot o.Sign e = absurd cc
bumping_end depth first spot o.Operator e = absurd cc
bumping_end depth first spot o.Question e = absurd cc
bumping_end depth first spot _ e = refl

-- the same where the first token is noted with so many constructs open before it
pub record Acts (before : ℕ) (w : List Terminal) (goals : List Goal) (count : ℕ) (noted : List Noted) (us : List Terminal) (left : List Goal) (new : List Noted) : Type 0 where
  pub final : ℕ
  pub same : run_opened before w goals count noted ≡ run us left final new

acts_via : {before : ℕ} {w us vs : List Terminal} {goals left last : List Goal} {count : ℕ} {noted new end : List Noted} → Acts before w goals count noted us left new → ((c : ℕ) → Passes us left c new vs last end)
    → Acts before w goals count noted vs last end
acts_via a f = let b = f a.final in record { final = b.final; same = a.same ∙ b.same }

acts_tokens : {before : ℕ} {w v us : List Terminal} {goals left : List Goal} {count : ℕ} {noted new : List Noted} → w ≡ v → Acts before v goals count noted us left new → Acts before w goals count noted us left new
acts_tokens {before = before} {goals = goals} {count = count} {noted = noted} e a = record { final = a.final; same = ap (λ x. run_opened before x goals count noted) e ∙ a.same }

acts_notes : {before : ℕ} {w us : List Terminal} {goals left : List Goal} {count : ℕ} {noted new end : List Noted} → Acts before w goals count noted us left new → new ≡ end → Acts before w goals count noted us left end
acts_notes {us = us} {left = left} a e = record { final = a.final; same = a.same ∙ ap (λ x. run us left a.final x) e }

acts_once : {before : ℕ} {w us : List Terminal} {goals left : List Goal} {count : ℕ} {noted new : List Noted} (c : ℕ) → run_opened before w goals count noted ≡ run us left c new → Acts before w goals count noted us left new
acts_once c e = record { final = c; same = e }

acts_after : {before : ℕ} {w us vs : List Terminal} {goals left last : List Goal} {count c : ℕ} {noted new end : List Noted} → run_opened before w goals count noted ≡ run us left c new → Passes us left c new vs last end
    → Acts before w goals count noted vs last end
acts_after e a = record { final = a.final; same = e ∙ a.same }

pub then_acts : {before : ℕ} {w v us : List Terminal} {goals others left : List Goal} {count c : ℕ} {noted new end : List Noted} → run w goals count noted ≡ run_opened before v others c new → Acts before v others c new us left end
    → Passes w goals count noted us left end
then_acts e a = record { final = a.final; same = e ∙ a.same }

target_put_opened : {ts : List Terminal} {t : TargetTree} (d : g.DerivesTarget ts t) (before depth count : ℕ) (noted : List Noted)
    → place_opened before depth count (target_marks d) noted ≡ put_opened before depth (target_marks d) noted
target_put_opened (g.a_target _ _ _ _ _ d) before depth count noted = subscripts_put d depth count (opened_at before depth count plain ∷ noted)

change_pass : {ts : List Terminal} {a : ActionTree} (d : DerivesChange ts a) (before depth : ℕ) (goals : List Goal) (noted : List Noted) (us : List Terminal) → at_first ends_choice us ≡ true
    → Acts before (ts ++ us) (G.Action depth ∷ goals) 0 noted us goals (put_opened before depth (change_marks d) noted)
change_pass (g.assigned punct op at ts vs what value e d f) before depth goals noted us end =
    let front = put_opened before depth (target_marks d) noted in
    acts_tokens (append_assoc ts (sign punct at ∷ vs) us) (acts_notes (acts_after
    (target_read d (acting before) depth 0 goals noted (sign punct at ∷ (vs ++ us)) (assignment_no_bracket punct op e)
    ∙ ap (λ x. run (sign punct at ∷ (vs ++ us)) (G.AfterTarget false true depth (length noted) ∷ goals) 0 x) (target_put_opened d before depth 0 noted)
    ∙ action_assignment punct op at e (vs ++ us) depth (length noted) 0 goals front)
    (assign_pass f depth goals (put_at depth plain ∷ front) us end))
    (sym (put_opened-append before depth (target_marks d) (plain ∷ whole (marks f)) noted (target_some d))))
change_pass (g.bumped_behind punct up at ts what e d) before depth goals noted us end =
    let front = put_opened before depth (target_marks d) noted in
    acts_tokens (append_assoc ts (sign punct at ∷ []) us) (acts_notes (acts_once 0
    (target_read d (acting before) depth 0 goals noted (sign punct at ∷ us) (bump_no_bracket punct up e)
    ∙ ap (λ x. run (sign punct at ∷ us) (G.AfterTarget false true depth (length noted) ∷ goals) 0 x) (target_put_opened d before depth 0 noted)
    ∙ name_bumped (acting before) punct up at e false depth 0 (length noted) goals front us
    ∙ skip_operators us end depth (length noted) goals 0 (put_at depth plain ∷ front)))
    (sym (put_opened-append before depth (target_marks d) (plain ∷ []) noted (target_some d))))
change_pass (g.bumped_before punct up at _ _ e (g.a_target text to ts es free d)) before depth goals noted us end =
    let front = opened_at before depth 0 plain ∷ noted in
    acts_once 0 (bump_action punct up at e before depth 0 goals noted (word text to ∷ (ts ++ us))
    ∙ run_as (word text to) o.Name (ts ++ us) (G.ActionTarget depth (length noted) ∷ goals) 0 front (name_sort text free)
    ∙ subscripts_read d (bumping (length noted)) true depth 0 goals (noted_at depth 0 plain ∷ front) us (weaker ends_operand no_bracket operand_bracket us (for_operand us end))
    ∙ ap (λ x. run us (G.ActionSubscripts depth (length noted) ∷ goals) 0 x) (subscripts_put d depth 0 (noted_at depth 0 plain ∷ front))
    ∙ skip ends_choice (G.ActionSubscripts depth (length noted)) refl (bumping_end depth (length noted)) us end goals 0 (put depth (subscript_marks d) (noted_at depth 0 plain ∷ front)))

action_pass : {ts : List Terminal} {a : ActionTree} (d : DerivesAction ts a) (before depth : ℕ) (goals : List Goal) (noted : List Noted) (us : List Terminal) → at_first ends_choice us ≡ true
    → Acts before (ts ++ us) (G.Action depth ∷ goals) 0 noted us goals (put_opened before depth (action_marks d) noted)
action_pass (g.a_change ts a d) before depth goals noted us end = change_pass d before depth goals noted us end
action_pass (g.a_value ts value none d) before depth goals noted us end =
    acts_once (count_after 0 (marks d)) ((claims d).as_choice (omega arith) (acting before) depth 0 goals noted us end (inr none)
    ∙ ap (λ x. run us goals (count_after 0 (marks d)) x) (sym (put_opened-whole before depth (marks d) noted)))

change_some : {ts : List Terminal} {a : ActionTree} (d : DerivesChange ts a) → SomeMarks (change_marks d)
change_some (g.assigned _ _ _ _ _ _ _ _ d e) = marks_more (target_marks d) (plain ∷ whole (marks e)) (target_some d)
change_some (g.bumped_behind _ _ _ _ _ _ d) = marks_more (target_marks d) (plain ∷ []) (target_some d)
change_some (g.bumped_before _ _ _ _ _ _ d) = from_plain (target_marks d)

action_some_marks : {ts : List Terminal} {a : ActionTree} (d : DerivesAction ts a) → SomeMarks (action_marks d)
action_some_marks (g.a_change _ _ d) = change_some d
action_some_marks (g.a_value _ _ _ d) = whole_some (marks d) (some_marks d)

pub action_list_some : {ts : List Terminal} {all : List ActionTree} (d : DerivesActionList ts all) → SomeMarks (action_list_marks d)
action_list_some (g.last_action _ _ d) = action_some_marks d
action_list_some (g.more_actions _ _ _ _ _ d ds) = marks_more (action_marks d) (plain ∷ action_list_marks ds) (action_some_marks d)

-- the constructs that are open before an action are those that hold it
action_opened : (depth : ℕ) (goals : List Goal) (spot : Spot) (sort : Sort) → opened depth (next (G.Action depth ∷ goals) spot sort) ≡ next (G.Action depth ∷ goals) spot sort
action_opened depth goals spot o.Name = refl
action_opened depth goals spot o.Number = refl
action_opened depth goals spot o.LeftParen = refl
action_opened depth goals spot o.Prefix = refl
action_opened depth goals spot o.Sign = refl
action_opened depth goals spot o.Bump = refl
action_opened depth goals spot _ = refl

action_run : (us : List Terminal) (depth : ℕ) (goals : List Goal) (count : ℕ) (noted : List Noted) → run us (G.Action depth ∷ goals) count noted ≡ run_opened depth us (G.Action depth ∷ goals) count noted
action_run [] depth goals count noted = refl
action_run (t ∷ us) depth goals count noted = ap (λ x. going x noted (run us)) (sym (action_opened depth goals (spot_at noted count) (sort_of t.kind)))

action_list_pass : {ts : List Terminal} {all : List ActionTree} (d : DerivesActionList ts all) (before depth : ℕ) (goals : List Goal) (noted : List Noted) (us : List Terminal) → at_first ends_choice us ≡ true
    → Acts before (ts ++ us) (G.Action depth ∷ G.MoreActions depth ∷ goals) 0 noted us (G.MoreActions depth ∷ goals) (put_opened before depth (action_list_marks d) noted)
action_list_pass (g.last_action ts a d) before depth goals noted us end = action_pass d before depth (G.MoreActions depth ∷ goals) noted us end
action_list_pass (g.more_actions at ts vs a rest d ds) before depth goals noted us end =
    let front = put_opened before depth (action_marks d) noted in
    acts_tokens (append_assoc ts (sign p.Comma at ∷ vs) us) (acts_notes (acts_via (action_pass d before depth (G.MoreActions depth ∷ goals) noted (sign p.Comma at ∷ (vs ++ us)) refl)
    (λ c. then_acts (action_run (vs ++ us) depth (G.MoreActions depth ∷ goals) 0 (put_at depth plain ∷ front)) (action_list_pass ds depth depth goals (put_at depth plain ∷ front) us end)))
    (put_opened-same depth (action_list_marks ds) (put_at depth plain ∷ front) (action_list_some ds)
    ∙ sym (put_opened-append before depth (action_marks d) (plain ∷ action_list_marks ds) noted (action_some_marks d))))

more_actions_end : (depth : ℕ) (spot : Spot) (sort : Sort) → ends_all sort ≡ true → step_of (G.MoreActions depth) spot sort ≡ None
more_actions_end depth spot o.Comma e = absurd cc
more_actions_end depth spot _ e = refl

-- all actions
pub opened_actions_pass : {ts : List Terminal} {all : List ActionTree} (d : DerivesActionList ts all) (before depth : ℕ) (goals : List Goal) (noted : List Noted) (us : List Terminal) → at_first ends_all us ≡ true
    → Acts before (ts ++ us) (G.Action depth ∷ G.MoreActions depth ∷ goals) 0 noted us goals (put_opened before depth (action_list_marks d) noted)
opened_actions_pass d before depth goals noted us end =
    acts_via (action_list_pass d before depth goals noted us (for_choice us end))
    (λ c. at_once c (skip ends_all (G.MoreActions depth) refl (more_actions_end depth) us end goals c (put_opened before depth (action_list_marks d) noted)))

pub all_actions_pass : {ts : List Terminal} {all : List ActionTree} (d : DerivesActionList ts all) (depth : ℕ) (goals : List Goal) (noted : List Noted) (us : List Terminal) → at_first ends_all us ≡ true
    → Passes (ts ++ us) (G.Action depth ∷ G.MoreActions depth ∷ goals) 0 noted us goals (put depth (action_list_marks d) noted)
all_actions_pass {ts} d depth goals noted us end =
    same_notes (then_acts (action_run (ts ++ us) depth (G.MoreActions depth ∷ goals) 0 noted) (opened_actions_pass d depth depth goals noted us end))
    (put_opened-same depth (action_list_marks d) noted (action_list_some d))

-- what an action begins with
change_starts : {ts : List Terminal} {a : ActionTree} → DerivesChange ts a → Starts ts
change_starts (g.assigned punct op at _ vs _ _ e (g.a_target text to ts _ free _) _) = record { first = word text to; rest = ts ++ sign punct at ∷ vs; shape = refl; begins = ap begins_operand (name_sort text free) }
change_starts (g.bumped_behind punct up at _ _ e (g.a_target text to ts _ free _)) = record { first = word text to; rest = ts ++ sign punct at ∷ []; shape = refl; begins = ap begins_operand (name_sort text free) }
change_starts (g.bumped_before punct up at ts _ e d) = record { first = sign punct at; rest = ts; shape = refl; begins = ap begins_operand (bump_sort punct up e) }

action_starts : {ts : List Terminal} {a : ActionTree} → DerivesAction ts a → Starts ts
action_starts (g.a_change ts a d) = change_starts d
action_starts (g.a_value ts value none d) = starts d

pub action_list_starts : {ts : List Terminal} {all : List ActionTree} → DerivesActionList ts all → Starts ts
action_list_starts (g.last_action ts a d) = action_starts d
action_list_starts (g.more_actions at ts vs a rest d ds) = starts_more ts (sign p.Comma at ∷ vs) (action_starts d)

actions_none : (depth : ℕ) (spot : Spot) (sort : Sort) → no_operand sort ≡ true → step_of (G.Actions depth) spot sort ≡ None
actions_none depth spot sort e = ap (behind (G.MoreActions depth ∷ [])) (action_none spot depth sort e)

pub actions_pass : {ts : List Terminal} {all : List ActionTree} (d : DerivesActions ts all) (depth : ℕ) (goals : List Goal) (noted : List Noted) (us : List Terminal)
    → at_first ends_all us ≡ true → at_first no_operand us ≡ true → Passes (ts ++ us) (G.Actions depth ∷ goals) 0 noted us goals (put depth (actions_marks d) noted)
actions_pass g.no_action depth goals noted us e f = at_once 0 (skip no_operand (G.Actions depth) refl (actions_none depth) us f goals 0 noted)
actions_pass (g.actions ts all d) depth goals noted us e f =
    let s = action_list_starts d in let w = s.rest ++ us in let sort = sort_of s.first.kind in let spot = spot_at noted 0 in
    after_run (ap (λ x. run (x ++ us) (G.Actions depth ∷ goals) 0 noted) s.shape
    ∙ ap (λ x. going x noted (run w)) (taken_optional (action spot depth sort) (action_some spot depth sort s.begins) (G.MoreActions depth ∷ []) goals (next goals spot sort) (next (G.MoreActions depth ∷ goals) spot sort))
    ∙ ap (λ x. run (x ++ us) (G.Action depth ∷ G.MoreActions depth ∷ goals) 0 noted) (sym s.shape)) (all_actions_pass d depth goals noted us e)

-- ---- lengths and initialisers

abbrev pub no_length : Sort → Bool
no_length o.LeftBracket = false
no_length _ = true

lengths_end : (depth : ℕ) (spot : Spot) (sort : Sort) → no_length sort ≡ true → step_of (G.Lengths depth) spot sort ≡ None
lengths_end depth spot o.LeftBracket e = absurd cc
lengths_end depth spot _ e = refl

pub lengths_pass : {ts : List Terminal} {all : List (Option Tree)} (d : DerivesLengths ts all) (depth count : ℕ) (goals : List Goal) (noted : List Noted) (us : List Terminal) → at_first no_length us ≡ true
    → Passes (ts ++ us) (G.Lengths depth ∷ goals) count noted us goals (put depth (length_marks d) noted)
lengths_pass g.no_length depth count goals noted us end = at_once count (skip no_length (G.Lengths depth) refl (lengths_end depth) us end goals count noted)
lengths_pass (g.a_length opens closes ts vs length lengths d ds) depth count goals noted us end =
    let front = put_at depth plain ∷ noted in let left = G.CloseBracket depth 0 ∷ G.Lengths depth ∷ goals in
    same_notes (after_run (ap (λ x. run x (G.OptionalChoice (deeper depth) ∷ left) 0 front) (append_assoc ts (sign p.RightBracket closes ∷ vs) us))
    (via (optional_choice_pass d (deeper depth) left front (sign p.RightBracket closes ∷ (vs ++ us)) refl refl)
    (λ c. after_run refl (lengths_pass ds depth 0 goals (put_at depth closing ∷ put (deeper depth) (optional_marks d) front) us end))))
    (sym (put-pair depth (optional_marks d) (length_marks ds) noted))

-- what an initialiser begins with
abbrev begins_init : Sort → Bool
begins_init o.LeftBrace = true
begins_init sort = begins_operand sort

record StartsInit (ts : List Terminal) : Type 0 where
  first : Terminal
  rest : List Terminal
  shape : ts ≡ first ∷ rest
  begins : begins_init (sort_of first.kind) ≡ true

operand_init : (sort : Sort) → begins_operand sort ≡ true → begins_init sort ≡ true
operand_init o.Name e = refl
operand_init o.Number e = refl
operand_init o.LeftParen e = refl
operand_init o.Prefix e = refl
operand_init o.Sign e = refl
operand_init o.Bump e = refl
operand_init _ e = absurd cc

init_starts : {ts : List Terminal} {i : InitTree} → DerivesInit ts i → StartsInit ts
init_starts (g.a_single ts value d) = let s = starts d in record { first = s.first; rest = s.rest; shape = s.shape; begins = operand_init (sort_of s.first.kind) s.begins }
init_starts (g.a_braced at closes ts items d) = record { first = sign p.LeftBrace at; rest = ts ++ sign p.RightBrace closes ∷ []; shape = refl; begins = refl }

inits_start : {ts : List Terminal} {all : InitTrees} → DerivesInits ts all → StartsInit ts
inits_start (g.last_init ts i d) = init_starts d
inits_start (g.last_init_comma at ts i d) = let s = init_starts d in record { first = s.first; rest = s.rest ++ sign p.Comma at ∷ []; shape = ap (λ x. x ++ sign p.Comma at ∷ []) s.shape; begins = s.begins }
inits_start (g.another_init at ts us i all d ds) = let s = init_starts d in record { first = s.first; rest = s.rest ++ sign p.Comma at ∷ us; shape = ap (λ x. x ++ sign p.Comma at ∷ us) s.shape; begins = s.begins }

init_some : (spot : Spot) (depth : ℕ) (sort : Sort) → begins_init sort ≡ true → is_some (init spot depth sort) ≡ true
init_some spot depth o.LeftBrace e = refl
init_some spot depth o.Name e = refl
init_some spot depth o.Number e = refl
init_some spot depth o.LeftParen e = refl
init_some spot depth o.Prefix e = refl
init_some spot depth o.Sign e = refl
init_some spot depth o.Bump e = refl
init_some spot depth _ e = absurd cc

init_assign : (spot : Spot) (depth : ℕ) (sort : Sort) → begins_operand sort ≡ true → init spot depth sort ≡ assign spot depth sort
init_assign spot depth o.LeftBrace e = absurd cc
init_assign spot depth _ e = refl

-- behind a comma
optional_init_goal : (us : List Terminal) → StartsInit us → (depth : ℕ) (goals : List Goal) (count : ℕ) (noted : List Noted)
    → run us (G.OptionalInit depth ∷ goals) count noted ≡ run us (G.Init depth ∷ G.MoreInits depth ∷ goals) count noted
optional_init_goal us s depth goals count noted =
    let spot = spot_at noted count in let sort = sort_of s.first.kind in
    ap (λ x. run x (G.OptionalInit depth ∷ goals) count noted) s.shape
    ∙ ap (λ x. going x noted (run s.rest)) (taken_optional (init spot depth sort) (init_some spot depth sort s.begins) (G.MoreInits depth ∷ []) goals (next goals spot sort) (next (G.MoreInits depth ∷ goals) spot sort))
    ∙ ap (λ x. run x (G.Init depth ∷ G.MoreInits depth ∷ goals) count noted) (sym s.shape)

init_start_more : (ts us : List Terminal) → StartsInit ts → StartsInit (ts ++ us)
init_start_more ts us s = record { first = s.first; rest = s.rest ++ us; shape = ap (λ x. x ++ us) s.shape; begins = s.begins }

mutual
  pub init_pass : {ts : List Terminal} {i : InitTree} (d : DerivesInit ts i) (depth : ℕ) (goals : List Goal) (noted : List Noted) (us : List Terminal) → at_first ends_choice us ≡ true
      → Passes (ts ++ us) (G.Init depth ∷ goals) 0 noted us goals (put depth (init_marks d) noted)
  init_pass (g.a_single ts value d) depth goals noted us end =
      let s = starts d in let w = s.rest ++ us in let sort = sort_of s.first.kind in let spot = spot_at noted 0 in
      after_run (ap (λ x. run (x ++ us) (G.Init depth ∷ goals) 0 noted) s.shape
      ∙ ap (λ x. going (taken_or x false goals (next goals spot sort)) noted (run w)) (init_assign spot depth sort s.begins)
      ∙ ap (λ x. run (x ++ us) (G.Assign depth ∷ goals) 0 noted) (sym s.shape)) (assign_pass d depth goals noted us end)
  init_pass (g.a_braced at closes ts items d) depth goals noted us end =
      let front = put_at depth plain ∷ noted in
      same_notes (after_run (ap (λ x. run x (G.Init (deeper depth) ∷ G.MoreInits (deeper depth) ∷ G.CloseBrace depth ∷ goals) 0 front) (append_assoc ts (sign p.RightBrace closes ∷ []) us))
      (via (inits_pass d (deeper depth) (G.CloseBrace depth ∷ goals) front closes us) (λ c. at_once 0 refl)))
      (sym (put-pair depth (inits_marks d) [] noted))

  inits_pass : {ts : List Terminal} {all : InitTrees} (d : DerivesInits ts all) (depth : ℕ) (goals : List Goal) (noted : List Noted) (closes : Place) (us : List Terminal)
      → Passes (ts ++ sign p.RightBrace closes ∷ us) (G.Init depth ∷ G.MoreInits depth ∷ goals) 0 noted (sign p.RightBrace closes ∷ us) goals (put depth (inits_marks d) noted)
  inits_pass (g.last_init ts i d) depth goals noted closes us =
      via (init_pass d depth (G.MoreInits depth ∷ goals) noted (sign p.RightBrace closes ∷ us) refl) (λ c. at_once c refl)
  inits_pass (g.last_init_comma at ts i d) depth goals noted closes us =
      same_tokens (append_assoc ts (sign p.Comma at ∷ []) (sign p.RightBrace closes ∷ us))
      (same_notes (via (init_pass d depth (G.MoreInits depth ∷ goals) noted (sign p.Comma at ∷ sign p.RightBrace closes ∷ us) refl) (λ c. at_once 0 refl)) (sym (put-append depth (init_marks d) (plain ∷ []) noted)))
  inits_pass (g.another_init at ts vs i all d ds) depth goals noted closes us =
      let front = put_at depth plain ∷ put depth (init_marks d) noted in
      same_tokens (append_assoc ts (sign p.Comma at ∷ vs) (sign p.RightBrace closes ∷ us))
      (same_notes (via (init_pass d depth (G.MoreInits depth ∷ goals) noted (sign p.Comma at ∷ (vs ++ sign p.RightBrace closes ∷ us)) refl)
      (λ c. after_run (optional_init_goal (vs ++ sign p.RightBrace closes ∷ us) (init_start_more vs (sign p.RightBrace closes ∷ us) (inits_start ds)) depth goals 0 front)
      (inits_pass ds depth goals front closes us)))
      (sym (put-append depth (init_marks d) (plain ∷ inits_marks ds) noted)))

abbrev pub no_initialiser : Sort → Bool
no_initialiser o.Equal = false
no_initialiser _ = true

initialiser_end : (depth : ℕ) (spot : Spot) (sort : Sort) → no_initialiser sort ≡ true → step_of (G.Initialiser depth) spot sort ≡ None
initialiser_end depth spot o.Equal e = absurd cc
initialiser_end depth spot _ e = refl

-- ---- objects

-- an object ends before a comma or a semicolon
abbrev pub ends_object : Sort → Bool
ends_object o.Comma = true
ends_object o.Semicolon = true
ends_object _ = false

object_choice : (sort : Sort) → ends_object sort ≡ true → ends_choice sort ≡ true
object_choice o.Comma e = refl
object_choice o.Semicolon e = refl
object_choice _ e = absurd cc

object_length : (sort : Sort) → ends_object sort ≡ true → no_length sort ≡ true
object_length o.Comma e = refl
object_length o.Semicolon e = refl
object_length _ e = absurd cc

object_initialiser : (sort : Sort) → ends_object sort ≡ true → no_initialiser sort ≡ true
object_initialiser o.Comma e = refl
object_initialiser o.Semicolon e = refl
object_initialiser _ e = absurd cc

pub initialiser_pass : {ts : List Terminal} {i : Option InitTree} (d : DerivesInitialiser ts i) (depth count : ℕ) (goals : List Goal) (noted : List Noted) (us : List Terminal) → at_first ends_object us ≡ true
    → Passes (ts ++ us) (G.Initialiser depth ∷ goals) count noted us goals (put depth (initialiser_marks d) noted)
initialiser_pass g.no_initialiser depth count goals noted us end =
    at_once count (skip no_initialiser (G.Initialiser depth) refl (initialiser_end depth) us (weaker ends_object no_initialiser object_initialiser us end) goals count noted)
initialiser_pass (g.an_initialiser at ts i d) depth count goals noted us end =
    after_run refl (init_pass d depth goals (put_at depth plain ∷ noted) us (weaker ends_object ends_choice object_choice us end))

initialiser_first : {ts : List Terminal} {i : Option InitTree} → DerivesInitialiser ts i → (us : List Terminal) → at_first ends_object us ≡ true → at_first no_length (ts ++ us) ≡ true
initialiser_first g.no_initialiser us end = weaker ends_object no_length object_length us end
initialiser_first (g.an_initialiser at ts i d) us end = refl

-- what stands behind the name of an object
pub tail_pass : {ts vs : List Terminal} {lengths : List (Option Tree)} {i : Option InitTree} (d : DerivesLengths ts lengths) (e : DerivesInitialiser vs i) (depth count : ℕ) (goals : List Goal) (noted : List Noted) (us : List Terminal)
    → at_first ends_object us ≡ true
    → Passes ((ts ++ vs) ++ us) (G.Lengths depth ∷ G.Initialiser depth ∷ goals) count noted us goals (put depth (length_marks d ++ initialiser_marks e) noted)
tail_pass {ts} {vs} d e depth count goals noted us end =
    same_tokens (append_assoc ts vs us) (same_notes (via (lengths_pass d depth count (G.Initialiser depth ∷ goals) noted (vs ++ us) (initialiser_first e us end))
    (λ c. initialiser_pass e depth c goals (put depth (length_marks d) noted) us end)) (sym (put-append depth (length_marks d) (initialiser_marks e) noted)))

object_pass : {type : CType} {constant : Bool} {ts : List Terminal} {object : ObjectTree} (d : DerivesObject type constant ts object) (depth count : ℕ) (goals : List Goal) (noted : List Noted) (us : List Terminal)
    → at_first ends_object us ≡ true → Passes (ts ++ us) (G.Object depth ∷ goals) count noted us goals (put depth (object_marks d) noted)
object_pass (g.an_object type constant text at ts vs lengths i free d e) depth count goals noted us end =
    after_run (run_as (word text at) o.Name ((ts ++ vs) ++ us) (G.Object depth ∷ goals) count noted (name_sort text free)) (tail_pass d e depth count goals (put_at depth plain ∷ noted) us end)

pub objects_pass : {type : CType} {constant : Bool} {ts : List Terminal} {all : List ObjectTree} (d : DerivesObjects type constant ts all) (depth count : ℕ) (goals : List Goal) (noted : List Noted) (at : Place) (us : List Terminal)
    → Passes (ts ++ sign p.Semicolon at ∷ us) (G.Object depth ∷ G.MoreObjects depth ∷ goals) count noted (sign p.Semicolon at ∷ us) goals (put depth (objects_marks d) noted)
objects_pass (g.last_object type constant ts object d) depth count goals noted at us =
    via (object_pass d depth count (G.MoreObjects depth ∷ goals) noted (sign p.Semicolon at ∷ us) refl) (λ c. at_once c refl)
objects_pass (g.more_objects type constant to ts vs object rest d ds) depth count goals noted at us =
    same_tokens (append_assoc ts (sign p.Comma to ∷ vs) (sign p.Semicolon at ∷ us))
    (same_notes (via (object_pass d depth count (G.MoreObjects depth ∷ goals) noted (sign p.Comma to ∷ (vs ++ sign p.Semicolon at ∷ us)) refl)
    (λ c. after_run refl (objects_pass ds depth c goals (put_at depth plain ∷ put depth (object_marks d) noted) at us)))
    (sym (put-append depth (object_marks d) (plain ∷ objects_marks ds) noted)))

-- an object begins with a name
object_first : {type : CType} {constant : Bool} {ts : List Terminal} {object : ObjectTree} → DerivesObject type constant ts object → (us : List Terminal) → at_first no_kind (ts ++ us) ≡ true
object_first (g.an_object type constant text at ts vs lengths i free d e) us = ap no_kind (name_sort text free)

objects_first : {type : CType} {constant : Bool} {ts : List Terminal} {all : List ObjectTree} → DerivesObjects type constant ts all → (us : List Terminal) → at_first no_kind (ts ++ us) ≡ true
objects_first (g.last_object type constant ts object d) us = object_first d us
objects_first (g.more_objects type constant to ts vs object rest d ds) us = ap (at_first no_kind) (append_assoc ts (sign p.Comma to ∷ vs) us) ∙ object_first d (sign p.Comma to ∷ (vs ++ us))

pub declaration_run : {ts : List Terminal} {all : List ObjectTree} (d : DerivesDeclaration ts all) (depth count : ℕ) (goals : List Goal) (noted : List Noted) (us : List Terminal)
    → run (ts ++ us) (G.Kind depth ∷ G.Object depth ∷ G.MoreObjects depth ∷ G.Semicolon depth ∷ goals) count noted ≡ run us goals 0 (put depth (declaration_marks d) noted)
declaration_run (g.a_declaration type constant ks ts objects ends c d) depth count goals noted us =
    let left = G.Object depth ∷ G.MoreObjects depth ∷ G.Semicolon depth ∷ goals in let front = put depth (flat ks) noted in
    let a = objects_pass d depth count (G.Semicolon depth ∷ goals) front ends us in
    ap (λ x. run x (G.Kind depth ∷ left) count noted) (append_assoc ks (ts ++ sign p.Semicolon ends ∷ []) us ∙ ap (λ x. ks ++ x) (append_assoc ts (sign p.Semicolon ends ∷ []) us))
    ∙ kind_run c (anywhere depth) tt left count noted (ts ++ sign p.Semicolon ends ∷ us) (objects_first d (sign p.Semicolon ends ∷ us))
    ∙ ap (λ x. run (ts ++ sign p.Semicolon ends ∷ us) left count x) (put-flat depth count ks noted)
    ∙ a.same
    ∙ ap (λ x. run us goals 0 x) (sym (put-append depth (flat ks) (objects_marks d ++ plain ∷ []) noted ∙ put-append depth (objects_marks d) (plain ∷ []) front))
