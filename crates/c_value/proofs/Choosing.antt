-- The number of a choice between two expressions.
use Rattle.std.proofs.Common.{◌≡◌, ◌∙◌, sym, ap, Box, Global, if◌then◌else◌}
use Rattle.hls_base.specs.declared.place.Place.{Place}
use Rattle.c_token.specs.declared.ctype.CType.{CType}
use Rattle.c_tree.specs.declared.expression.Expr.{Expr}
use Rattle.c_tree.specs.declared.expression.Expr.TheVariants as e
use Rattle.c_tree.specs.declared.expression.Expr.TheOpen.{Expr-F}
use Rattle.c_tree.specs.declared.expression.Expr.TheFolds.{fold-roll-Expr}
use Rattle.c_tree.specs.Tree.{Tree, TargetTree}
use Rattle.c_tree.specs.View.{tree_of, tree_step, target_step}
use Rattle.c_value.specs.Values.{convert, common}
use Rattle.c_value.specs.Operators.{Computed, defined, is_true}
use Rattle.c_value.specs.Constant.{then_compute, constant_kind, constant_number}

abbrev pub chosen : CType → Computed → Computed → Computed → Computed
chosen kind test left right = then_compute test (λ x. then_compute (if is_true x then left else right) (λ y. defined (convert kind y)))

pub chosen_same : (k k' : CType) (t t' l l' r r' : Computed) → k ≡ k' → t ≡ t' → l ≡ l' → r ≡ r' → chosen k t l r ≡ chosen k' t' l' r'
chosen_same k k' t t' l l' r r' a b c d = ap (λ z. chosen z t l r) a ∙ ap (λ z. chosen k' z l r) b ∙ ap (λ z. chosen k' t' z r) c ∙ ap (λ z. chosen k' t' l' z) d

pub choice_number : (t l r : Box Expr Global) (at colon : Place) → constant_number (tree_of (e.Choice t l r at colon))
    ≡ chosen (common (constant_kind (tree_of l.value)) (constant_kind (tree_of r.value))) (constant_number (tree_of t.value)) (constant_number (tree_of l.value)) (constant_number (tree_of r.value))
choice_number t l r at colon = ap constant_number (ap tree_of (sym (e.rolls-Choice t l r at colon)) ∙ fold-roll-Expr Tree TargetTree tree_step target_step (Expr-F.Choice t l r at colon))
