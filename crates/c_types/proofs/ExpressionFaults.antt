-- The faults and accesses of expressions and initialisers, one equation for each variant.
use Rattle.std.proofs.Common.{◌≡◌, ℕ, Bool, true, false, List, ◌++◌, Option, Box, Global, ap, ◌∙◌, ◌+◌, Vec}
use Rattle.hls_base.specs.declared.place.Place.{Place}
use Rattle.c_tree.specs.declared.operator.Binary.{Binary}
use Rattle.c_tree.specs.declared.expression.Expr.{Expr}
use Rattle.c_tree.specs.declared.expression.Expr.TheVariants as e
use Rattle.c_tree.specs.declared.expression.Target.{Target}
use Rattle.c_tree.specs.View.{tree_of, target_of, init_of, inits_of}
use Rattle.c_meaning.specs.Checks.Faults.{lesser, least}
use Rattle.c_meaning.specs.Checks.Names.{Declared}
use Rattle.c_meaning.specs.Checks.Conflicts.{accesses, operand_conflicts}
use Rattle.c_meaning.specs.Checks.Expressions.{expression_faults, changed_faults, init_faults, inits_faults}
use Rattle.c_names.proofs.DeclarationsLemmas.Least.{least_append}
use Rattle.c_tree.specs.declared.object.Init.{Init}
use Rattle.c_tree.specs.declared.object.Init.TheVariants as i
use Rattle.c_names.proofs.DeclarationsLemmas.Trees.{binary_tree, choice_tree, assign_tree, comma_tree}
use Rattle.c_names.proofs.DeclarationsLemmas.Inits.{single_tree, list_tree}

module _ (used : Bool) (bodies : List (List ℕ)) (names : List Declared) where
  pub binary_faults : (op : Binary) (l r : Box Expr Global) (at : Place) → least (expression_faults used bodies names (tree_of (e.Binary op l r at)))
      ≡ lesser (least (operand_conflicts op (accesses names (tree_of l.value)) (accesses names (tree_of r.value)))) (lesser (least (expression_faults true bodies names (tree_of l.value))) (least (expression_faults true bodies names (tree_of r.value))))
  binary_faults op l r at =
      ap (λ t. least (expression_faults used bodies names t)) (binary_tree op l r at)
      ∙ least_append (operand_conflicts op (accesses names (tree_of l.value)) (accesses names (tree_of r.value))) (expression_faults true bodies names (tree_of l.value) ++ expression_faults true bodies names (tree_of r.value))
      ∙ ap (lesser _) (least_append (expression_faults true bodies names (tree_of l.value)) (expression_faults true bodies names (tree_of r.value)))

  pub choice_faults : (t l r : Box Expr Global) (at colon : Place) → least (expression_faults used bodies names (tree_of (e.Choice t l r at colon)))
      ≡ lesser (least (expression_faults true bodies names (tree_of t.value))) (lesser (least (expression_faults true bodies names (tree_of l.value))) (least (expression_faults true bodies names (tree_of r.value))))
  choice_faults t l r at colon =
      ap (λ t. least (expression_faults used bodies names t)) (choice_tree t l r at colon)
      ∙ least_append (expression_faults true bodies names (tree_of t.value)) (expression_faults true bodies names (tree_of l.value) ++ expression_faults true bodies names (tree_of r.value))
      ∙ ap (lesser _) (least_append (expression_faults true bodies names (tree_of l.value)) (expression_faults true bodies names (tree_of r.value)))

  pub choice_accesses : (t l r : Box Expr Global) (at colon : Place) → accesses names (tree_of (e.Choice t l r at colon)) ≡ accesses names (tree_of t.value) ++ (accesses names (tree_of l.value) ++ accesses names (tree_of r.value))
  choice_accesses t l r at colon = ap (accesses names) (choice_tree t l r at colon)

  pub assign_faults : (t : Target) (op : Option Binary) (v : Box Expr Global) (at : Place) → least (expression_faults used bodies names (tree_of (e.Assign t op v at)))
      ≡ lesser (least (changed_faults bodies names (target_of t) at (accesses names (tree_of v.value)))) (least (expression_faults true bodies names (tree_of v.value)))
  assign_faults t op v at =
      ap (λ t. least (expression_faults used bodies names t)) (assign_tree t op v at)
      ∙ least_append (changed_faults bodies names (target_of t) at (accesses names (tree_of v.value))) (expression_faults true bodies names (tree_of v.value))

  pub comma_faults : (l r : Box Expr Global) (at : Place) → least (expression_faults used bodies names (tree_of (e.Comma l r at)))
      ≡ lesser (least (expression_faults false bodies names (tree_of l.value))) (least (expression_faults true bodies names (tree_of r.value)))
  comma_faults l r at =
      ap (λ t. least (expression_faults used bodies names t)) (comma_tree l r at)
      ∙ least_append (expression_faults false bodies names (tree_of l.value)) (expression_faults true bodies names (tree_of r.value))

module _ (bodies : List (List ℕ)) (names : List Declared) where
  pub single_faults : (e : Expr) → least (init_faults bodies names (init_of (i.Single e))) ≡ least (expression_faults true bodies names (tree_of e))
  single_faults e = ap (λ t. least (init_faults bodies names t)) (single_tree e)

  pub list_faults : (items : Vec Init Global) (at : Place) → least (init_faults bodies names (init_of (i.List items at))) ≡ least (inits_faults bodies names (inits_of items.items))
  list_faults items at = ap (λ t. least (init_faults bodies names t)) (list_tree items at)
