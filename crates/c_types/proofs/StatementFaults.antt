-- The faults of statements, one equation for each variant.
use Rattle.std.proofs.Common.{◌≡◌, ℕ, ◌+◌, true, false, List, [], ◌++◌, Option, map, Box, Vec, Global, length, sym, ap, ◌∙◌}
use Rattle.std.specs.Option.{option_map}
use Rattle.hls_base.specs.declared.place.Place.{Place}
use Rattle.hls_base.specs.declared.refusal.Refusal.{Refusal}
use Rattle.c_tree.specs.declared.expression.Expr.{Expr}
use Rattle.c_tree.specs.declared.action.Action.{Action}
use Rattle.c_tree.specs.declared.object.Object.{Object}
use Rattle.c_tree.specs.declared.statement.Stmt.{Stmt}
use Rattle.c_tree.specs.declared.statement.Stmt.TheVariants as s
use Rattle.c_tree.specs.declared.statement.Else.{Else}
use Rattle.c_tree.specs.Tree.{StmtTree}
use Rattle.c_tree.specs.View.{tree_of, action_of, object_of, stmt_of, stmts_of, else_of, else_part, first_part}
use Rattle.c_value.specs.Values.{promoted}
use Rattle.c_meaning.specs.Checks.Faults.{lesser, least, fault_if}
use Rattle.c_meaning.specs.Checks.Names.{Declared, kind_of}
use Rattle.c_meaning.specs.Checks.Labels.{Around, in_part, in_loop, in_switch, return_faults, outside_faults, has_no_value, block_labels, repeated_faults}
use Rattle.c_meaning.specs.Checks.Expressions.{expression_faults, actions_faults, optional_faults}
use Rattle.c_meaning.specs.Checks.Statements.{objects_faults, names_in_for, statement_faults, block_faults, else_faults, first_faults}
use Rattle.c_names.proofs.DeclarationsLemmas.Least.{least_append}
use Rattle.c_names.proofs.DeclarationsLemmas.StatementTrees.{block_tree, declare_tree, act_tree, if_tree, switch_tree, case_tree, while_tree, do_tree, for_tree, break_tree, continue_tree, return_tree, else_tree}

module _ (bodies : List (List ℕ)) (around : Around) (start : ℕ) (names : List Declared) where
  abbrev of_tree : StmtTree → Option Refusal
  of_tree t = least (statement_faults bodies around start names t)

  abbrev of_value : Expr → List Refusal
  of_value e = expression_faults true bodies names (tree_of e)

  pub block_parts : (body : Vec Stmt Global) → least (statement_faults bodies around start names (stmt_of (s.Block body))) ≡ least (block_faults bodies (in_part around) (length names) names (stmts_of body.items))
  block_parts body = ap of_tree (block_tree body)

  pub declare_parts : (os : Vec Object Global) → least (statement_faults bodies around start names (stmt_of (s.Declare os))) ≡ least (objects_faults bodies false start names (map object_of os.items))
  declare_parts os = ap of_tree (declare_tree os)

  pub act_parts : (actions : Vec Action Global) → least (statement_faults bodies around start names (stmt_of (s.Act actions))) ≡ least (actions_faults bodies names (map action_of actions.items))
  act_parts actions = ap of_tree (act_tree actions)

  pub if_parts : (test : Expr) (body : Box Stmt Global) (other : Option Else) (at : Place) → least (statement_faults bodies around start names (stmt_of (s.If test body other at)))
      ≡ lesser (least (expression_faults true bodies names (tree_of test))) (lesser (least (statement_faults bodies (in_part around) (length names) names (stmt_of body.value))) (least (else_faults bodies (in_part around) (length names) names (else_part (option_map else_of other)))))
  if_parts test body other at =
      ap of_tree (if_tree test body other at)
      ∙ least_append (of_value test) (statement_faults bodies (in_part around) (length names) names (stmt_of body.value) ++ else_faults bodies (in_part around) (length names) names (else_part (option_map else_of other)))
      ∙ ap (lesser (least (of_value test))) (least_append (statement_faults bodies (in_part around) (length names) names (stmt_of body.value)) (else_faults bodies (in_part around) (length names) names (else_part (option_map else_of other))))

  pub switch_parts : (test : Expr) (body : Vec Stmt Global) (at : Place) → least (statement_faults bodies around start names (stmt_of (s.Switch test body at)))
      ≡ lesser (least (expression_faults true bodies names (tree_of test))) (lesser (least (repeated_faults [] (block_labels (promoted (kind_of names (tree_of test))) (stmts_of body.items)))) (least (block_faults bodies (in_switch around) (length names) names (stmts_of body.items))))
  switch_parts test body at =
      let labels = repeated_faults [] (block_labels (promoted (kind_of names (tree_of test))) (stmts_of body.items)) in
      let inside = block_faults bodies (in_switch around) (length names) names (stmts_of body.items) in
      ap of_tree (switch_tree test body at) ∙ least_append (of_value test) (labels ++ inside) ∙ ap (lesser (least (of_value test))) (least_append labels inside)

  pub case_parts : (value : Option Expr) (body : Box Stmt Global) (at : Place) → least (statement_faults bodies around start names (stmt_of (s.Case value body at)))
      ≡ lesser (least (outside_faults around.labels at)) (lesser (least (fault_if (has_no_value (option_map tree_of value)) 17 at)) (lesser (least (optional_faults bodies names (option_map tree_of value))) (least (statement_faults bodies around start names (stmt_of body.value)))))
  case_parts value body at =
      let outside = outside_faults around.labels at in
      let open_ = fault_if (has_no_value (option_map tree_of value)) 17 at in
      let given = optional_faults bodies names (option_map tree_of value) in
      let inside = statement_faults bodies around start names (stmt_of body.value) in
      ap of_tree (case_tree value body at) ∙ least_append outside (open_ ++ (given ++ inside)) ∙ ap (lesser (least outside)) (least_append open_ (given ++ inside) ∙ ap (lesser (least open_)) (least_append given inside))

  pub while_parts : (test : Expr) (body : Box Stmt Global) (at : Place) → least (statement_faults bodies around start names (stmt_of (s.While test body at)))
      ≡ lesser (least (expression_faults true bodies names (tree_of test))) (least (statement_faults bodies (in_loop around) (length names) names (stmt_of body.value)))
  while_parts test body at = ap of_tree (while_tree test body at) ∙ least_append (of_value test) (statement_faults bodies (in_loop around) (length names) names (stmt_of body.value))

  pub do_parts : (body : Box Stmt Global) (test : Expr) (at : Place) → least (statement_faults bodies around start names (stmt_of (s.Do body test at)))
      ≡ lesser (least (statement_faults bodies (in_loop around) (length names) names (stmt_of body.value))) (least (expression_faults true bodies names (tree_of test)))
  do_parts body test at = ap of_tree (do_tree body test at) ∙ least_append (statement_faults bodies (in_loop around) (length names) names (stmt_of body.value)) (of_value test)

  pub for_parts : (init : Option (Box Stmt Global)) (test : Option Expr) (step : Vec Action Global) (body : Box Stmt Global) (at : Place) (inner : List Declared) →
      inner ≡ names_in_for names (first_part (option_map (λ p. stmt_of p.value) init)) → least (statement_faults bodies around start names (stmt_of (s.For init test step body at)))
      ≡ lesser (least (first_faults bodies (in_part around) (length names) names (first_part (option_map (λ p. stmt_of p.value) init)))) (lesser (least (optional_faults bodies inner (option_map tree_of test)))
      (lesser (least (actions_faults bodies inner (map action_of step.items))) (least (statement_faults bodies (in_loop around) (length inner) inner (stmt_of body.value)))))
  for_parts init test step body at inner is =
      let first = first_faults bodies (in_part around) (length names) names (first_part (option_map (λ p. stmt_of p.value) init)) in
      let tested : List Declared → List Refusal = λ ns. optional_faults bodies ns (option_map tree_of test) in
      let stepped : List Declared → List Refusal = λ ns. actions_faults bodies ns (map action_of step.items) in
      let inside : List Declared → List Refusal = λ ns. statement_faults bodies (in_loop around) (length ns) ns (stmt_of body.value) in
      ap of_tree (for_tree init test step body at)
      ∙ ap (λ ns. least (first ++ (tested ns ++ (stepped ns ++ inside ns)))) (sym is)
      ∙ least_append first (tested inner ++ (stepped inner ++ inside inner))
      ∙ ap (lesser (least first)) (least_append (tested inner) (stepped inner ++ inside inner) ∙ ap (lesser (least (tested inner))) (least_append (stepped inner) (inside inner)))

  pub break_parts : (at : Place) → least (statement_faults bodies around start names (stmt_of (s.Break at))) ≡ least (outside_faults around.breaks at)
  break_parts at = ap of_tree (break_tree at)

  pub continue_parts : (at : Place) → least (statement_faults bodies around start names (stmt_of (s.Continue at))) ≡ least (outside_faults around.continues at)
  continue_parts at = ap of_tree (continue_tree at)

  pub return_parts : (value : Option Expr) (at : Place) → least (statement_faults bodies around start names (stmt_of (s.Return value at)))
      ≡ lesser (least (return_faults around.result (option_map tree_of value) at)) (least (optional_faults bodies names (option_map tree_of value)))
  return_parts value at = ap of_tree (return_tree value at) ∙ least_append (return_faults around.result (option_map tree_of value) at) (optional_faults bodies names (option_map tree_of value))

  pub else_parts : (e : Else) → least (else_faults bodies around start names (else_of e)) ≡ least (statement_faults bodies around start names (stmt_of e.body.value))
  else_parts e = ap (λ t. least (else_faults bodies around start names t)) (else_tree e)
