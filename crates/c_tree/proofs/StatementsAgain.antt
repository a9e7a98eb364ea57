-- The printed tokens of each statement of a program are this statement.
use Rattle.std.proofs.Common.{List, [], ◌∷◌, ◌++◌, codes}
use Rattle.c_token.specs.declared.punct.Punct.TheVariants as p
use Rattle.c_tree.specs.Tree.{StmtTree, FirstTree, StmtTrees}
use Rattle.c_tree.specs.Terminals.{Terminal, sign, word}
use Rattle.c_tree.specs.Grammar as g
use Rattle.c_tree.specs.Grammar.{DerivesStatement, DerivesFirst, DerivesBlock, DerivesBody, choice_level, comma_level}
use Rattle.c_tree.proofs.Again.{Fit, fit_parts}
use Rattle.c_tree.proofs.Expressions.{expression_again}
use Rattle.c_tree.proofs.Actions.{action_list_again, actions_again}
use Rattle.c_tree.proofs.Objects.{optional_again, declaration_again}
use Rattle.c_tree.proofs.Statements.{Stmt, Block, Body, First, printed_block, printed_act, printed_if, printed_if_else, printed_switch, printed_case, printed_default, printed_while, printed_do, printed_for, printed_break, printed_continue, printed_return, nothing_first, actions_first, objects_first, printed_braces, empty_body, a_statement_more, a_declaration_more}

mutual
  statement_again : {ts : List Terminal} {stmt : StmtTree} → DerivesStatement ts stmt → Fit ts → Stmt stmt
  statement_again (g.a_block ts body d) f = printed_block body (block_again d f)
  statement_again (g.an_act ends ts all d) f = printed_act all (actions_again d (fit_parts ts (sign p.Semicolon ends ∷ []) f).0)
  statement_again (g.an_if at opens closes ts ys test body d e) f =
      let parts = fit_parts ts (sign p.RightParen closes ∷ ys) f.1.1 in
      printed_if test body at (expression_again comma_level d parts.0) (statement_again e parts.1.1)
  statement_again (g.an_if_else at opens closes other ts ys ns test body second d e closed h) f =
      let parts = fit_parts ts (sign p.RightParen closes ∷ (ys ++ word (codes "else") other ∷ ns)) f.1.1 in
      let others = fit_parts ys (word (codes "else") other ∷ ns) parts.1.1 in
      printed_if_else test body second at other (expression_again comma_level d parts.0) (statement_again e others.0) closed (statement_again h others.1.1)
  statement_again (g.a_switch at opens closes ts us test body d e) f =
      let parts = fit_parts ts (sign p.RightParen closes ∷ us) f.1.1 in
      printed_switch test body at (expression_again comma_level d parts.0) (block_again e parts.1.1)
  statement_again (g.a_case at colon ts us value body d e) f =
      let parts = fit_parts ts (sign p.Colon colon ∷ us) f.1 in
      printed_case value body at (expression_again choice_level d parts.0) (statement_again e parts.1.1)
  statement_again (g.a_default at colon us body d) f = printed_default body at (statement_again d f.1.1)
  statement_again (g.a_while at opens closes ts us test body d e) f =
      let parts = fit_parts ts (sign p.RightParen closes ∷ us) f.1.1 in
      printed_while test body at (expression_again comma_level d parts.0) (statement_again e parts.1.1)
  statement_again (g.a_do at again opens closes ends us ts body test d e) f =
      let parts = fit_parts us (word (codes "while") again ∷ sign p.LeftParen opens ∷ (ts ++ sign p.RightParen closes ∷ sign p.Semicolon ends ∷ [])) f.1 in
      let others = fit_parts ts (sign p.RightParen closes ∷ sign p.Semicolon ends ∷ []) parts.1.1.1 in
      printed_do body test at (statement_again d parts.0) (expression_again comma_level e others.0)
  statement_again (g.a_for at opens ends closes is ts ss us init test step body d e h b) f =
      let parts = fit_parts (is ++ (ts ++ sign p.Semicolon ends ∷ ss)) (sign p.RightParen closes ∷ us) f.1.1 in
      let firsts = fit_parts is (ts ++ sign p.Semicolon ends ∷ ss) parts.0 in
      let others = fit_parts ts (sign p.Semicolon ends ∷ ss) firsts.1 in
      printed_for init test step body at (first_again d firsts.0) (optional_again comma_level e others.0) (actions_again h others.1.1) (statement_again b parts.1.1)
  statement_again (g.a_break at ends) f = printed_break at
  statement_again (g.a_continue at ends) f = printed_continue at
  statement_again (g.a_return at ends ts value d) f = printed_return value at (optional_again comma_level d (fit_parts ts (sign p.Semicolon ends ∷ []) f.1).0)

  first_again : {ts : List Terminal} {init : FirstTree} → DerivesFirst ts init → Fit ts → First init
  first_again (g.nothing_first ends) f = nothing_first
  first_again (g.actions_first ends ts all d) f = actions_first all (action_list_again d (fit_parts ts (sign p.Semicolon ends ∷ []) f).0)
  first_again (g.objects_first ts all d) f = objects_first all (declaration_again d f)

  pub block_again : {ts : List Terminal} {body : StmtTrees} → DerivesBlock ts body → Fit ts → Block body
  block_again (g.braces opens closes ts body d) f = printed_braces body (body_again d (fit_parts ts (sign p.RightBrace closes ∷ []) f.1).0)

  body_again : {ts : List Terminal} {body : StmtTrees} → DerivesBody ts body → Fit ts → Body body
  body_again g.nothing f = empty_body
  body_again (g.a_statement ts us stmt rest d e) f = let parts = fit_parts ts us f in a_statement_more stmt rest (statement_again d parts.0) (body_again e parts.1)
  body_again (g.local_objects ts us all rest d e) f = let parts = fit_parts ts us f in a_declaration_more all rest (declaration_again d parts.0) (body_again e parts.1)
