-- The printed tokens of an expression are this expression: productions with operands.
use Rattle.std.proofs.Common.{◌≡◌, ℕ, suc, ◌-◌, ◌∙◌, sym, refl, ap, subst, Bool, true, false, List, [], ◌∷◌, ◌++◌, Option, Some, arith}
use Rattle.std.proofs.lemmas.List.{append-nil}
use Rattle.hls_base.specs.declared.place.Place.{Place}
use Rattle.c_token.specs.declared.ctype.CType.{CType}
use Rattle.c_token.specs.declared.punct.Punct.{Punct}
use Rattle.c_token.specs.declared.punct.Punct.TheVariants as p
use Rattle.c_token.specs.declared.token.TokenKind.TheVariants as k
use Rattle.c_tree.specs.declared.operator.Unary.{Unary}
use Rattle.c_tree.specs.declared.operator.Binary.{Binary}
use Rattle.c_tree.specs.Tree as tree
use Rattle.c_tree.specs.Tree.{Tree, TargetTree, Trees}
use Rattle.c_tree.specs.Terminals.{Terminal, sign, word, is_keyword, assignment_of}
use Rattle.c_tree.specs.Grammar as g
use Rattle.c_tree.specs.Grammar.{Derives, DerivesTarget, DerivesSubscripts, DerivesArguments, DerivesList, primary_level, postfix_level, unary_level, level_of, binary_level, choice_level, assign_level, comma_level}
use Rattle.c_tree.specs.Places.{nowhere, unplaced, unplaced_target, unplaced_row}
use Rattle.c_tree.specs.Rows as rows
use Rattle.c_tree.specs.Rows.{Row, prefix_sign, operator_sign, assignment_sign, bump_sign, kind_row, infix_row, comma_row, target_row, subscripts_row, list_row, list_behind, expression_row}
use Rattle.c_tree.proofs.Matching.{Matches, IsSpelled, Spelled}
use Rattle.c_tree.proofs.Again.{split, last_token, spelled_both, Again, Printed}
use Rattle.c_tree.proofs.KindsAgain.{PrintedKind}
use Rattle.c_tree.proofs.Productions.{Own, At, Target, Subscripts, ArgumentList, at_tokens, operator_level, prefix-is, prefix-plain, bump-is, bump-plain, operator-is, operator-plain, assignment-is, assignment-plain}

-- ---- subscripts and arguments

pub no_subscripts : Subscripts tree.none
no_subscripts = record {
  again = λ ts m. at_tokens ts [] m (record { found = tree.none; derived = g.no_subscript; same = refl });
  spelled = tt;
}

pub one_subscript : (first : Tree) (rest : Trees) → At comma_level first → Subscripts rest → Subscripts (tree.more first rest)
one_subscript first rest a b = record {
  again = λ ts m.
      let c = split (expression_row comma_level first) (rows.sign p.RightBracket ∷ subscripts_row rest) m.1 m.3 in
      let x = a.again c.before c.first in
      let y = b.again c.second.1 c.second.3 in
      at_tokens ts (sign p.LeftBracket m.0 ∷ (c.before ++ sign p.RightBracket c.second.0 ∷ c.second.1))
      (m.2 ∙ ap (λ us. sign p.LeftBracket m.0 ∷ us) (c.is ∙ ap (λ us. c.before ++ us) c.second.2))
      (record {
        found = tree.more x.found y.found;
        derived = g.a_subscript m.0 c.second.0 c.before c.second.1 x.found y.found x.derived y.derived;
        same = ap (λ z. tree.more z (unplaced_row y.found)) x.same ∙ ap (λ z. tree.more (unplaced first) z) y.same;
      });
  spelled = (refl, spelled_both (expression_row comma_level first) (rows.sign p.RightBracket ∷ subscripts_row rest) a.spelled (refl, b.spelled));
}

pub record Listed (es : Trees) : Type 0 where
  pub printed : ArgumentList es
  pub behind : list_behind es ≡ comma_row ++ list_row es

pub one_argument : (arg : Tree) → At assign_level arg → Listed (tree.more arg tree.none)
one_argument arg a = record {
  printed = record {
    again = λ ts m.
        let c = split (expression_row assign_level arg) [] ts m in
        let x = a.again c.before c.first in
        at_tokens ts c.before (c.is ∙ ap (λ us. c.before ++ us) c.second ∙ append-nil c.before)
        (record { found = tree.more x.found tree.none; derived = g.last c.before x.found x.derived; same = ap (λ z. tree.more z tree.none) x.same });
    spelled = spelled_both (expression_row assign_level arg) [] a.spelled tt;
  };
  behind = refl;
}

pub more_arguments : (arg : Tree) (args : Trees) → At assign_level arg → Listed args → Listed (tree.more arg args)
more_arguments arg args a b = record {
  printed = record {
    again = λ ts m.
        let c = split (expression_row assign_level arg) (comma_row ++ list_row args) ts (subst (λ row. Matches ts (expression_row assign_level arg ++ row)) b.behind m) in
        let x = a.again c.before c.first in
        let y = b.printed.again c.second.1 c.second.3 in
        at_tokens ts (c.before ++ sign p.Comma c.second.0 ∷ c.second.1) (c.is ∙ ap (λ us. c.before ++ us) c.second.2)
        (record {
          found = tree.more x.found y.found;
          derived = g.and_more c.second.0 c.before c.second.1 x.found y.found x.derived y.derived;
          same = ap (λ z. tree.more z (unplaced_row y.found)) x.same ∙ ap (λ z. tree.more (unplaced arg) z) y.same;
        });
    spelled =
        subst (λ row. Spelled (expression_row assign_level arg ++ row)) (sym b.behind)
        (spelled_both (expression_row assign_level arg) (comma_row ++ list_row args) a.spelled (refl, b.printed.spelled));
  };
  behind = refl;
}

abbrev pub Arguments : Trees → Type 0
Arguments es = Printed DerivesArguments unplaced_row es (list_row es)

pub no_arguments : Arguments tree.none
no_arguments = record {
  again = λ ts m. at_tokens ts [] m (record { found = tree.none; derived = g.no_argument; same = refl });
  spelled = tt;
}

pub some_arguments : (args : Trees) → Listed args → Arguments args
some_arguments args l = record {
  again = λ ts m. let x = l.printed.again ts m in record { found = x.found; derived = g.arguments ts x.found x.derived; same = x.same };
  spelled = l.printed.spelled;
}

-- ---- names with something behind

element_from : (text : List ℕ) (at place : Place) (first : Tree) (rest : Trees) (ts : List Terminal) (found : Trees) → is_keyword text ≡ false → DerivesSubscripts ts found
    → unplaced_row found ≡ unplaced_row (tree.more first rest) → Again (Derives primary_level) unplaced (tree.index text (tree.more first rest) at) (word text place ∷ ts)
element_from text at place first rest ts tree.none plain d e = absurd cc
element_from text at place first rest ts (tree.more f r) plain d e =
    record { found = tree.index text (tree.more f r) place; derived = g.an_element text place ts f r plain d; same = ap (λ z. tree.index text z nowhere) e }

pub printed_element : (text : List ℕ) (at : Place) (first : Tree) (rest : Trees) → is_keyword text ≡ false → IsSpelled (k.Word text) → Subscripts (tree.more first rest)
    → Own (tree.index text (tree.more first rest) at)
printed_element text at first rest plain s a = record {
  again = λ ts m. let x = a.again m.1 m.3 in at_tokens ts (word text m.0 ∷ m.1) m.2 (element_from text at m.0 first rest m.1 x.found plain x.derived x.same);
  spelled = (s, a.spelled);
}

pub printed_call : (callee : List ℕ) (at : Place) (args : Trees) → is_keyword callee ≡ false → IsSpelled (k.Word callee) → Arguments args → Own (tree.call callee args at)
printed_call callee at args plain s a = record {
  again = λ ts m.
      let inner = m.3 in
      let c = split (list_row args) (rows.sign p.RightParen ∷ []) inner.1 inner.3 in
      let x = a.again c.before c.first in
      at_tokens ts (word callee m.0 ∷ sign p.LeftParen inner.0 ∷ (c.before ++ sign p.RightParen c.second.0 ∷ []))
      (m.2 ∙ ap (λ us. word callee m.0 ∷ us) (inner.2 ∙ ap (λ us. sign p.LeftParen inner.0 ∷ us) (c.is ∙ ap (λ us. c.before ++ us) (last_token (k.Punct p.RightParen) c.behind c.second))))
      (record {
        found = tree.call callee x.found m.0;
        derived = g.a_call callee m.0 inner.0 c.second.0 c.before x.found plain x.derived;
        same = ap (λ z. tree.call callee z nowhere) x.same;
      });
  spelled = (s, (refl, spelled_both (list_row args) (rows.sign p.RightParen ∷ []) a.spelled (refl, tt)));
}

pub printed_target : (text : List ℕ) (at : Place) (subscripts : Trees) → is_keyword text ≡ false → IsSpelled (k.Word text) → Subscripts subscripts → Target (tree.target text subscripts at)
printed_target text at subscripts plain s a = record {
  again = λ ts m.
      let x = a.again m.1 m.3 in
      at_tokens ts (word text m.0 ∷ m.1) m.2
      (record { found = tree.target text x.found m.0; derived = g.a_target text m.0 m.1 x.found plain x.derived; same = ap (λ z. tree.target text z nowhere) x.same });
  spelled = (s, a.spelled);
}

-- ---- operators

pub printed_prefix : (op : Unary) (arg : Tree) (at : Place) → At unary_level arg → Own (tree.unary op arg at)
printed_prefix op arg at a = record {
  again = λ ts m.
      let x = a.again m.1 m.3 in
      at_tokens ts (sign (prefix_sign op) m.0 ∷ m.1) m.2
      (record { found = tree.unary op x.found m.0; derived = g.a_prefix (prefix_sign op) op m.0 m.1 x.found (prefix-is op) x.derived; same = ap (λ z. tree.unary op z nowhere) x.same });
  spelled = (prefix-plain op, a.spelled);
}

pub printed_bump_before : (changed : TargetTree) (up : Bool) (at : Place) → Target changed → Own (tree.bump changed up false at)
printed_bump_before changed up at a = record {
  again = λ ts m.
      let x = a.again m.1 m.3 in
      at_tokens ts (sign (bump_sign up) m.0 ∷ m.1) m.2
      (record {
        found = tree.bump x.found up false m.0;
        derived = g.a_bump_before (bump_sign up) up m.0 m.1 x.found (bump-is up) x.derived;
        same = ap (λ z. tree.bump z up false nowhere) x.same;
      });
  spelled = (bump-plain up, a.spelled);
}

pub printed_bump_behind : (changed : TargetTree) (up : Bool) (at : Place) → Target changed → Own (tree.bump changed up true at)
printed_bump_behind changed up at a = record {
  again = λ ts m.
      let c = split (target_row changed) (rows.sign (bump_sign up) ∷ []) ts m in
      let x = a.again c.before c.first in
      at_tokens ts (c.before ++ sign (bump_sign up) c.second.0 ∷ []) (c.is ∙ ap (λ us. c.before ++ us) (last_token (k.Punct (bump_sign up)) c.behind c.second))
      (record {
        found = tree.bump x.found up true c.second.0;
        derived = g.a_bump_behind (bump_sign up) up c.second.0 c.before x.found (bump-is up) x.derived;
        same = ap (λ z. tree.bump z up true nowhere) x.same;
      });
  spelled = spelled_both (target_row changed) (rows.sign (bump_sign up) ∷ []) a.spelled (bump-plain up, tt);
}

pub printed_cast : (to : CType) (arg : Tree) (at : Place) → PrintedKind false (Some to) (kind_row false to) → At unary_level arg → Own (tree.cast to arg at)
printed_cast to arg at kind a = record {
  again = λ ts m.
      let c = split (kind_row false to) (rows.sign p.RightParen ∷ expression_row unary_level arg) m.1 m.3 in
      let x = a.again c.second.1 c.second.3 in
      at_tokens ts (sign p.LeftParen m.0 ∷ (c.before ++ sign p.RightParen c.second.0 ∷ c.second.1))
      (m.2 ∙ ap (λ us. sign p.LeftParen m.0 ∷ us) (c.is ∙ ap (λ us. c.before ++ us) c.second.2))
      (record {
        found = tree.cast to x.found m.0;
        derived = g.a_cast m.0 c.second.0 c.before c.second.1 to false x.found (kind.again c.before c.first) x.derived;
        same = ap (λ z. tree.cast to z nowhere) x.same;
      });
  spelled = (refl, spelled_both (kind_row false to) (rows.sign p.RightParen ∷ expression_row unary_level arg) kind.spelled (refl, a.spelled));
}

operator_above : (op : Binary) → level_of op ≡ suc (level_of op - 1)
operator_above op = let r = operator_level op in omega (arith, r.0)

pub printed_operator : (op : Binary) (left right : Tree) (at : Place) → At (level_of op) left → At (level_of op - 1) right → Own (tree.binary op left right at)
printed_operator op left right at a b =
    let behind = infix_row (operator_sign op) ++ expression_row (level_of op - 1) right in
    record {
      again = λ ts m.
          let c = split (expression_row (level_of op) left) behind ts m in
          let x = a.again c.before c.first in
          let y = b.again c.second.1 c.second.3 in
          at_tokens ts (c.before ++ sign (operator_sign op) c.second.0 ∷ c.second.1) (c.is ∙ ap (λ us. c.before ++ us) c.second.2)
          (record {
            found = tree.binary op x.found y.found c.second.0;
            derived =
                subst (λ l. Derives l (c.before ++ sign (operator_sign op) c.second.0 ∷ c.second.1) (tree.binary op x.found y.found c.second.0)) (sym (operator_above op))
                (g.an_operator (operator_sign op) op c.second.0 (level_of op - 1) c.before c.second.1 x.found y.found (operator-is op) (operator_above op)
                (subst (λ l. Derives l c.before x.found) (operator_above op) x.derived) y.derived);
            same = ap (λ z. tree.binary op z (unplaced y.found) nowhere) x.same ∙ ap (λ z. tree.binary op (unplaced left) z nowhere) y.same;
          });
      spelled = spelled_both (expression_row (level_of op) left) behind a.spelled (operator-plain op, b.spelled);
    }

pub printed_choice : (test left right : Tree) (at colon : Place) → At binary_level test → At comma_level left → At choice_level right → Own (tree.choice test left right at colon)
printed_choice test left right at colon a b d =
    let second = infix_row p.Colon ++ expression_row choice_level right in
    let first = infix_row p.Question ++ (expression_row comma_level left ++ second) in
    record {
      again = λ ts m.
          let c = split (expression_row binary_level test) first ts m in
          let e = split (expression_row comma_level left) second c.second.1 c.second.3 in
          let x = a.again c.before c.first in
          let y = b.again e.before e.first in
          let z = d.again e.second.1 e.second.3 in
          at_tokens ts (c.before ++ sign p.Question c.second.0 ∷ (e.before ++ sign p.Colon e.second.0 ∷ e.second.1))
          (c.is ∙ ap (λ us. c.before ++ us) (c.second.2 ∙ ap (λ us. sign p.Question c.second.0 ∷ us) (e.is ∙ ap (λ us. e.before ++ us) e.second.2)))
          (record {
            found = tree.choice x.found y.found z.found c.second.0 e.second.0;
            derived = g.a_choice c.second.0 e.second.0 c.before e.before e.second.1 x.found y.found z.found x.derived y.derived z.derived;
            same = ap (λ v. tree.choice v (unplaced y.found) (unplaced z.found) nowhere nowhere) x.same
                ∙ ap (λ v. tree.choice (unplaced test) v (unplaced z.found) nowhere nowhere) y.same
                ∙ ap (λ v. tree.choice (unplaced test) (unplaced left) v nowhere nowhere) z.same;
          });
      spelled = spelled_both (expression_row binary_level test) first a.spelled (refl, spelled_both (expression_row comma_level left) second b.spelled (refl, d.spelled));
    }

pub printed_assignment : (punct : Punct) (op : Option Binary) (changed : TargetTree) (value : Tree) (at : Place) → assignment_of punct ≡ Some op → Target changed → At assign_level value
    → Own (tree.assign changed op value at)
printed_assignment punct op changed value at is a b =
    let behind = infix_row (assignment_sign op) ++ expression_row assign_level value in
    record {
      again = λ ts m.
          let c = split (target_row changed) behind ts m in
          let x = a.again c.before c.first in
          let y = b.again c.second.1 c.second.3 in
          at_tokens ts (c.before ++ sign (assignment_sign op) c.second.0 ∷ c.second.1) (c.is ∙ ap (λ us. c.before ++ us) c.second.2)
          (record {
            found = tree.assign x.found op y.found c.second.0;
            derived = g.an_assignment (assignment_sign op) op c.second.0 c.before c.second.1 x.found y.found (assignment-is punct op is) x.derived y.derived;
            same = ap (λ z. tree.assign z op (unplaced y.found) nowhere) x.same ∙ ap (λ z. tree.assign (unplaced_target changed) op z nowhere) y.same;
          });
      spelled = spelled_both (target_row changed) behind a.spelled (assignment-plain op, b.spelled);
    }

pub printed_comma : (left right : Tree) (at : Place) → At comma_level left → At assign_level right → Own (tree.comma left right at)
printed_comma left right at a b =
    let behind = comma_row ++ expression_row assign_level right in
    record {
      again = λ ts m.
          let c = split (expression_row comma_level left) behind ts m in
          let x = a.again c.before c.first in
          let y = b.again c.second.1 c.second.3 in
          at_tokens ts (c.before ++ sign p.Comma c.second.0 ∷ c.second.1) (c.is ∙ ap (λ us. c.before ++ us) c.second.2)
          (record {
            found = tree.comma x.found y.found c.second.0;
            derived = g.a_comma c.second.0 c.before c.second.1 x.found y.found x.derived y.derived;
            same = ap (λ z. tree.comma z (unplaced y.found) nowhere) x.same ∙ ap (λ z. tree.comma (unplaced left) z nowhere) y.same;
          });
      spelled = spelled_both (expression_row comma_level left) behind a.spelled (refl, b.spelled);
    }
