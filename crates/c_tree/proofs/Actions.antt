-- The printed tokens of each action of a program are this action.
use Rattle.std.proofs.Common.{◌≡◌, ◌≤◌, ◌∙◌, sym, refl, ap, Bool, true, false, List, [], ◌∷◌, ◌++◌, map, Option, Some, arith}
use Rattle.std.proofs.lemmas.Bool.{both_ways}
use Rattle.hls_base.specs.declared.place.Place.{Place}
use Rattle.c_token.specs.declared.punct.Punct.{Punct}
use Rattle.c_token.specs.declared.punct.Punct.TheVariants as p
use Rattle.c_token.specs.declared.token.TokenKind.TheVariants as k
use Rattle.c_tree.specs.declared.operator.Binary.{Binary}
use Rattle.c_tree.specs.Tree as tree
use Rattle.c_tree.specs.Tree.{Tree, TargetTree, Trees, ActionTree}
use Rattle.c_tree.specs.Terminals.{Terminal, sign, assignment_of}
use Rattle.c_tree.specs.Grammar as g
use Rattle.c_tree.specs.Grammar.{Derives, DerivesTarget, DerivesSubscripts, DerivesOptional, DerivesChange, DerivesAction, DerivesActionList, DerivesActions, choice_level, assign_level, comma_level}
use Rattle.c_tree.specs.Places.{nowhere, unplaced, unplaced_target, unplaced_action}
use Rattle.c_tree.specs.Rows as rows
use Rattle.c_tree.specs.Rows.{Row, prefix_sign, assignment_sign, bump_sign, own_level, own_row, infix_row, expression_row, target_row, grouped}
use Rattle.c_tree.specs.StatementRows.{is_plain, action_row, actions_row}
use Rattle.c_tree.proofs.Matching.{Matches}
use Rattle.c_tree.proofs.Again.{split, last_token, spelled_both, Printed, Fit, fit_parts}
use Rattle.c_tree.proofs.NoChange.{is_change, change_is, plain_is_no_change}
use Rattle.c_tree.proofs.Productions.{Own, At, Target, at_tokens, grouped_at, operator_level, bump-is, bump-plain, assignment-is, assignment-plain}
use Rattle.c_tree.proofs.Expressions.{own_again, target_again, expression_again}
use Rattle.c_tree.proofs.Lists.{ListRules, PrintedList, one_listed, more_listed}

-- ---- values that are not used

no_change : (ts : List Terminal) → is_change ts ≡ false → (action : ActionTree) → DerivesChange ts action → ⊥
no_change ts e action d = both_ways (is_change ts) e (change_is d)

plain_level : (value : Tree) → is_plain value ≡ true → own_level value ≤ choice_level
plain_level (tree.number _ _ _) e = omega arith
plain_level (tree.name _ _) e = omega arith
plain_level (tree.index _ _ _) e = omega arith
plain_level (tree.call _ _ _) e = omega arith
plain_level (tree.unary _ _ _) e = omega arith
plain_level (tree.binary op _ _ _) e = let r = operator_level op in omega (arith, r.1)
plain_level (tree.choice _ _ _ _ _) e = omega arith
plain_level (tree.cast _ _ _) e = omega arith
plain_level (tree.assign _ _ _ _) e = absurd cc
plain_level (tree.bump _ _ _ _) e = absurd cc
plain_level (tree.comma _ _ _) e = absurd cc

plain_alone : (value : Tree) → is_plain (unplaced value) ≡ is_plain value
plain_alone (tree.number _ _ _) = refl
plain_alone (tree.name _ _) = refl
plain_alone (tree.index _ _ _) = refl
plain_alone (tree.call _ _ _) = refl
plain_alone (tree.unary _ _ _) = refl
plain_alone (tree.binary _ _ _ _) = refl
plain_alone (tree.choice _ _ _ _ _) = refl
plain_alone (tree.cast _ _ _) = refl
plain_alone (tree.assign _ _ _ _) = refl
plain_alone (tree.bump _ _ _ _) = refl
plain_alone (tree.comma _ _ _) = refl

value_is_no_change : (value found : Tree) (plain : Bool) → is_plain value ≡ plain → (ts : List Terminal) → Matches ts (grouped plain (own_row value)) → Derives choice_level ts found
    → unplaced found ≡ unplaced value → is_change ts ≡ false
value_is_no_change value found true is ts m d same = plain_is_no_change d (sym (plain_alone found) ∙ ap is_plain same ∙ plain_alone value ∙ is)
value_is_no_change value found false is ts m d same = ap is_change m.2

abbrev pub Action : ActionTree → Type 0
Action a = Printed DerivesAction unplaced_action a (action_row a)

printed_value : (value : Tree) → Own value → Action (tree.evaluation value)
printed_value value o =
    let a = grouped_at choice_level value (is_plain value) (plain_level value) o in
    record {
      again = λ ts m.
          let x = a.again ts m in
          record {
            found = tree.evaluation x.found;
            derived = g.a_value ts x.found (no_change ts (value_is_no_change value x.found (is_plain value) refl ts m x.derived x.same)) x.derived;
            same = ap tree.evaluation x.same;
          };
      spelled = a.spelled;
    }

-- ---- changes

printed_assigned : (punct : Punct) (op : Option Binary) (changed : TargetTree) (value : Tree) (at : Place) → assignment_of punct ≡ Some op → Target changed → At assign_level value
    → Action (tree.assignment changed op value at)
printed_assigned punct op changed value at is a b =
    let behind = infix_row (assignment_sign op) ++ expression_row assign_level value in
    record {
      again = λ ts m.
          let c = split (target_row changed) behind ts m in
          let x = a.again c.before c.first in
          let y = b.again c.second.1 c.second.3 in
          at_tokens ts (c.before ++ sign (assignment_sign op) c.second.0 ∷ c.second.1) (c.is ∙ ap (λ us. c.before ++ us) c.second.2)
          (record {
            found = tree.assignment x.found op y.found c.second.0;
            derived = g.a_change _ _ (g.assigned (assignment_sign op) op c.second.0 c.before c.second.1 x.found y.found (assignment-is punct op is) x.derived y.derived);
            same = ap (λ z. tree.assignment z op (unplaced y.found) nowhere) x.same ∙ ap (λ z. tree.assignment (unplaced_target changed) op z nowhere) y.same;
          });
      spelled = spelled_both (target_row changed) behind a.spelled (assignment-plain op, b.spelled);
    }

printed_bumped : (changed : TargetTree) (up : Bool) (at : Place) → Target changed → Action (tree.bumping changed up at)
printed_bumped changed up at a = record {
  again = λ ts m.
      let c = split (target_row changed) (rows.sign (bump_sign up) ∷ []) ts m in
      let x = a.again c.before c.first in
      at_tokens ts (c.before ++ sign (bump_sign up) c.second.0 ∷ []) (c.is ∙ ap (λ us. c.before ++ us) (last_token (k.Punct (bump_sign up)) c.behind c.second))
      (record {
        found = tree.bumping x.found up c.second.0;
        derived = g.a_change _ _ (g.bumped_behind (bump_sign up) up c.second.0 c.before x.found (bump-is up) x.derived);
        same = ap (λ z. tree.bumping z up nowhere) x.same;
      });
  spelled = spelled_both (target_row changed) (rows.sign (bump_sign up) ∷ []) a.spelled (bump-plain up, tt);
}

change_again : {ts : List Terminal} {action : ActionTree} → DerivesChange ts action → Fit ts → Action action
change_again (g.assigned punct op at ts vs changed value is d e) f =
    let parts = fit_parts ts (sign punct at ∷ vs) f in
    printed_assigned punct op changed value at is (target_again d parts.0) (expression_again assign_level e parts.1.1)
change_again (g.bumped_behind punct up at ts changed is d) f = printed_bumped changed up at (target_again d (fit_parts ts (sign punct at ∷ []) f).0)
change_again (g.bumped_before punct up at ts changed is d) f = printed_bumped changed up at (target_again d f.1)

action_again : {ts : List Terminal} {action : ActionTree} → DerivesAction ts action → Fit ts → Action action
action_again (g.a_change ts action d) f = change_again d f
action_again (g.a_value ts value none d) f = printed_value value (own_again d f)

-- ---- lists of actions

abbrev pub ActionList : List ActionTree → Type 0
ActionList all = PrintedList DerivesActionList unplaced_action action_row all

action_rules : ListRules DerivesAction DerivesActionList
action_rules = record { last = g.last_action; more = g.more_actions }

pub action_list_again : {ts : List Terminal} {all : List ActionTree} → DerivesActionList ts all → Fit ts → ActionList all
action_list_again (g.last_action ts action d) f = one_listed DerivesAction DerivesActionList action_rules unplaced_action action_row action (action_again d f)
action_list_again (g.more_actions at ts us action rest d e) f =
    let parts = fit_parts ts (sign p.Comma at ∷ us) f in
    more_listed DerivesAction DerivesActionList action_rules unplaced_action action_row action rest (action_again d parts.0) (action_list_again e parts.1.1)

abbrev pub Actions : List ActionTree → Type 0
Actions all = Printed DerivesActions (map unplaced_action) all (actions_row all)

pub actions_again : {ts : List Terminal} {all : List ActionTree} → DerivesActions ts all → Fit ts → Actions all
actions_again g.no_action f = record {
  again = λ ts m. at_tokens ts [] m (record { found = []; derived = g.no_action; same = refl });
  spelled = tt;
}
actions_again (g.actions ts all d) f =
    let l = (action_list_again d f).printed in
    record { again = λ us m. let x = l.again us m in record { found = x.found; derived = g.actions us x.found x.derived; same = x.same }; spelled = l.spelled }
