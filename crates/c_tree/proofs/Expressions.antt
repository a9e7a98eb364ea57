-- The printed tokens of each expression of a program are this expression.
use Rattle.std.proofs.Common.{ℕ, ◌-◌, false, ◌∷◌, ◌++◌, List, []}
use Rattle.c_token.specs.declared.punct.Punct.TheVariants as p
use Rattle.c_tree.specs.Tree.{Tree, TargetTree, Trees}
use Rattle.c_tree.specs.Terminals.{Terminal, sign}
use Rattle.c_tree.specs.Grammar as g
use Rattle.c_tree.specs.Grammar.{Derives, DerivesTarget, DerivesSubscripts, DerivesArguments, DerivesList, unary_level, level_of, binary_level, choice_level, assign_level, comma_level}
use Rattle.c_tree.proofs.Again.{Fit, fit_parts}
use Rattle.c_tree.proofs.KindsAgain.{kind_is_type, printed_kind}
use Rattle.c_tree.proofs.Numbers.{number_spelled}
use Rattle.c_tree.proofs.Productions.{Own, At, Target, Subscripts, at_level, printed_number, printed_name}
use Rattle.c_tree.proofs.Operations.{Listed, Arguments, no_subscripts, one_subscript, one_argument, more_arguments, no_arguments, some_arguments, printed_element, printed_call, printed_target, printed_prefix, printed_bump_before, printed_bump_behind, printed_cast, printed_operator, printed_choice, printed_assignment, printed_comma}

mutual
  pub own_again : {n : ℕ} {ts : List Terminal} {e : Tree} → Derives n ts e → Fit ts → Own e
  own_again (g.a_number value kind at) f = printed_number value kind at (number_spelled f.0.0 value kind f.0.1)
  own_again (g.a_name text at plain) f = printed_name text at plain f.0
  own_again (g.an_element text at ts first rest plain d) f = printed_element text at first rest plain f.0 (subscripts_again d f.1)
  own_again (g.a_call callee at opens closes ts args plain d) f = printed_call callee at args plain f.0 (arguments_again d (fit_parts ts (sign p.RightParen closes ∷ []) f.1.1).0)
  own_again (g.a_group opens closes ts inner d) f = own_again d (fit_parts ts (sign p.RightParen closes ∷ []) f.1).0
  own_again (g.a_bump_behind punct up at ts changed is d) f = printed_bump_behind changed up at (target_again d (fit_parts ts (sign punct at ∷ []) f).0)
  own_again (g.a_prefix punct op at ts arg is d) f = printed_prefix op arg at (at_level unary_level arg (own_again d f.1))
  own_again (g.a_bump_before punct up at ts changed is d) f = printed_bump_before changed up at (target_again d f.1)
  own_again (g.a_cast at closes ks ts kind constant arg dk d) f =
      let parts = fit_parts ks (sign p.RightParen closes ∷ ts) f.1 in
      printed_cast kind arg at (printed_kind false kind (kind_is_type dk parts.0)) (at_level unary_level arg (own_again d parts.1.1))
  own_again (g.an_operator punct op at n ls rs left right is level d e) f =
      let parts = fit_parts ls (sign punct at ∷ rs) f in
      printed_operator op left right at (at_level (level_of op) left (own_again d parts.0)) (at_level (level_of op - 1) right (own_again e parts.1.1))
  own_again (g.a_choice at colon ts ys ns test left right d e h) f =
      let parts = fit_parts ts (sign p.Question at ∷ (ys ++ sign p.Colon colon ∷ ns)) f in
      let others = fit_parts ys (sign p.Colon colon ∷ ns) parts.1.1 in
      printed_choice test left right at colon (at_level binary_level test (own_again d parts.0)) (at_level comma_level left (own_again e others.0)) (at_level choice_level right (own_again h others.1.1))
  own_again (g.an_assignment punct op at ts vs changed value is d e) f =
      let parts = fit_parts ts (sign punct at ∷ vs) f in
      printed_assignment punct op changed value at is (target_again d parts.0) (at_level assign_level value (own_again e parts.1.1))
  own_again (g.a_comma at ls rs left right d e) f =
      let parts = fit_parts ls (sign p.Comma at ∷ rs) f in
      printed_comma left right at (at_level comma_level left (own_again d parts.0)) (at_level assign_level right (own_again e parts.1.1))
  own_again (g.a_tighter n ts inner d) f = own_again d f

  pub target_again : {ts : List Terminal} {changed : TargetTree} → DerivesTarget ts changed → Fit ts → Target changed
  target_again (g.a_target text at ts subscripts plain d) f = printed_target text at subscripts plain f.0 (subscripts_again d f.1)

  subscripts_again : {ts : List Terminal} {es : Trees} → DerivesSubscripts ts es → Fit ts → Subscripts es
  subscripts_again g.no_subscript f = no_subscripts
  subscripts_again (g.a_subscript opens closes ts us first rest d e) f =
      let parts = fit_parts ts (sign p.RightBracket closes ∷ us) f.1 in
      one_subscript first rest (at_level comma_level first (own_again d parts.0)) (subscripts_again e parts.1.1)

  arguments_again : {ts : List Terminal} {es : Trees} → DerivesArguments ts es → Fit ts → Arguments es
  arguments_again g.no_argument f = no_arguments
  arguments_again (g.arguments ts args d) f = some_arguments args (list_again d f)

  list_again : {ts : List Terminal} {es : Trees} → DerivesList ts es → Fit ts → Listed es
  list_again (g.last ts arg d) f = one_argument arg (at_level assign_level arg (own_again d f))
  list_again (g.and_more at ts us arg args d e) f =
      let parts = fit_parts ts (sign p.Comma at ∷ us) f in
      more_arguments arg args (at_level assign_level arg (own_again d parts.0)) (list_again e parts.1.1)

-- where an expression of a level may stand
pub expression_again : (level : ℕ) {n : ℕ} {ts : List Terminal} {e : Tree} → Derives n ts e → Fit ts → At level e
expression_again level {e = e} d f = at_level level e (own_again d f)
