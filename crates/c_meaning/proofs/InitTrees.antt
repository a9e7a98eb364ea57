-- Initialisers as trees, one equation for each variant.
use Rattle.std.proofs.Common.{◌≡◌, Vec, Global, Some, length, ap, sym, ◌∙◌, map}
use Rattle.std.proofs.lemmas.List.{length-map}
use Rattle.hls_base.specs.declared.place.Place.{Place}
use Rattle.c_tree.specs.declared.object.Init.{Init}
use Rattle.c_tree.specs.declared.object.Init.TheVariants as i
use Rattle.c_tree.specs.declared.object.Init.TheOpen.{Init-F}
use Rattle.c_tree.specs.declared.object.Init.TheFolds.{fold-roll-Init}
use Rattle.c_tree.specs.Tree as tree
use Rattle.c_tree.specs.Tree.{InitTree}
use Rattle.c_tree.specs.View.{init_of, inits_of, init_step}
use Rattle.c_meaning.specs.Checks.Lengths.{items_in}
use Rattle.c_meaning.proofs.DimensionLengths.{item_count-length}

pub list_tree : (items : Vec Init Global) (at : Place) → init_of (i.List items at) ≡ tree.braced (inits_of items.items) at
list_tree items at = ap init_of (sym (i.rolls-List items at)) ∙ fold-roll-Init InitTree init_step (Init-F.List items at)

pub items_of_list : (items : Vec Init Global) (at : Place) → items_in (Some (init_of (i.List items at))) ≡ Some (length items.items)
items_of_list items at =
    ap (λ t. items_in (Some t)) (list_tree items at) ∙ ap (λ n. Some n) (item_count-length (map init_of items.items) ∙ length-map items.items init_of)
