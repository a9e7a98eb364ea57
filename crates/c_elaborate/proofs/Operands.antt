-- Subscripts and arguments one by one, as all of them.
use Rattle.std.proofs.Common.{◌≡◌, List, [], ◌∷◌, map, refl, ap}
use Rattle.c_tree.specs.declared.expression.Expr.{Expr}
use Rattle.c_tree.specs.View.{tree_of, trees_of}
use Rattle.c_elaborate.specs.declared.functions.Signature.{Signature}
use Rattle.c_elaborate.specs.declared.names.Binding.{Binding}
use Rattle.pieces.specs.Resolved.Core as core
use Rattle.pieces.specs.Resolved.Core.{row, argument_row}
use Rattle.c_elaborate.specs.Expressions.{elaborated, argument_elaborated, all_elaborated, arguments_elaborated}

module _ (fs : List Signature) (names : List Binding) where
  pub all_are : (es : List Expr) → row (map (λ (e : Expr). elaborated fs names (tree_of e)) es) ≡ all_elaborated fs names (trees_of es)
  all_are [] = refl
  all_are (e ∷ es) = ap (core.more (elaborated fs names (tree_of e))) (all_are es)

  pub arguments_are : (es : List Expr) → argument_row (map (λ (e : Expr). argument_elaborated fs names (tree_of e)) es) ≡ arguments_elaborated fs names (trees_of es)
  arguments_are [] = refl
  arguments_are (e ∷ es) = ap (core.more_arguments (argument_elaborated fs names (tree_of e))) (arguments_are es)
