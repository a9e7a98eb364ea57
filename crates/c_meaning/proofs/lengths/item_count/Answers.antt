use Rattle.std.proofs.Common.{◌≡◌, Some, ap, sym, ◌∙◌, length, arith}
use Rattle.c_tree.specs.View.{init_of}
use Rattle.c_meaning.specs.Checks.Lengths.{items_in}
use Rattle.c_meaning.proofs.InitTrees.{items_of_list}
use Rattle.c_meaning.proofs.lengths.item_count.Goals as goal

pub returns-in-List : goal.returns-in-List
returns-in-List c =
    let count : c.len.result ≡ length c.in-List.items.items = omega (arith, c.len.ensures, c.in-List.items.ok.0) in
    ap (λ n. Some n) count ∙ sym (ap (λ o. items_in (Some (init_of o))) c.in-List.is ∙ items_of_list c.in-List.items c.in-List.field-1)
