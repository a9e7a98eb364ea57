-- Initialisers, one equation for each variant.
use Rattle.std.proofs.Common.{◌≡◌, ℕ, ◌+◌, ◌==◌, not, ◌||◌, List, [], ◌∷◌, Option, Some, None, Vec, Global, length, drop, refl, sym, ap, ◌∙◌, add-one}
use Rattle.hls_base.specs.declared.place.Place.{Place}
use Rattle.c_tree.specs.declared.expression.Expr.{Expr}
use Rattle.c_tree.specs.declared.object.Init.{Init}
use Rattle.c_tree.specs.declared.object.Init.TheVariants as i
use Rattle.c_tree.specs.declared.object.Init.TheOpen.{Init-F}
use Rattle.c_tree.specs.declared.object.Init.TheFolds.{fold-roll-Init}
use Rattle.c_tree.specs.Tree as tree
use Rattle.c_tree.specs.Tree.{InitTree}
use Rattle.c_tree.specs.View.{tree_of, init_of, inits_of, init_step}
use Rattle.c_value.specs.Constant.{constant_value}
use Rattle.c_meaning.specs.Checks.Lengths.{item_count, items_in, is_misshapen, are_misshapen, overflows, is_fixed, are_fixed, has_value}

pub single_tree : (e : Expr) → init_of (i.Single e) ≡ tree.single (tree_of e)
single_tree e = ap init_of (sym (i.rolls-Single e)) ∙ fold-roll-Init InitTree init_step (Init-F.Single e)

pub list_tree : (items : Vec Init Global) (at : Place) → init_of (i.List items at) ≡ tree.braced (inits_of items.items) at
list_tree items at = ap init_of (sym (i.rolls-List items at)) ∙ fold-roll-Init InitTree init_step (Init-F.List items at)

pub count_inits : (inits : List Init) → item_count (inits_of inits) ≡ length inits
count_inits [] = refl
count_inits (x ∷ xs) = ap (λ n. n + 1) (count_inits xs) ∙ add-one (length xs)

pub items_of_init : (items : Vec Init Global) (at : Place) → items_in (Some (init_of (i.List items at))) ≡ Some (length items.items)
items_of_init items at = ap (λ t. items_in (Some t)) (list_tree items at) ∙ ap Some (count_inits items.items)

pub items_of_single : (e : Expr) → items_in (Some (init_of (i.Single e))) ≡ None
items_of_single e = ap (λ t. items_in (Some t)) (single_tree e)

pub misshapen_single : (lengths : List (Option ℕ)) (e : Expr) → is_misshapen lengths (init_of (i.Single e)) ≡ not (length lengths == 0)
misshapen_single lengths e = ap (is_misshapen lengths) (single_tree e)

pub misshapen_list : (lengths : List (Option ℕ)) (items : Vec Init Global) (at : Place) → is_misshapen lengths (init_of (i.List items at)) ≡ (overflows lengths (length items.items) || are_misshapen (drop 1 lengths) (inits_of items.items))
misshapen_list lengths items at = ap (is_misshapen lengths) (list_tree items at) ∙ ap (λ n. overflows lengths n || are_misshapen (drop 1 lengths) (inits_of items.items)) (count_inits items.items)

pub fixed_single : (e : Expr) → is_fixed (init_of (i.Single e)) ≡ has_value (constant_value (tree_of e))
fixed_single e = ap is_fixed (single_tree e)

pub fixed_list : (items : Vec Init Global) (at : Place) → is_fixed (init_of (i.List items at)) ≡ are_fixed (inits_of items.items)
fixed_list items at = ap is_fixed (list_tree items at)
