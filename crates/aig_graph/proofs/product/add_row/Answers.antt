use Rattle.std.proofs.Common.{◌∙◌}
use Rattle.aig_graph.proofs.Totals.{row_added}
use Rattle.aig_graph.proofs.product.add_row.Goals as goal

pub returns : goal.returns
returns c = row_added _ _ _ c.args.sum.now c.args.row.now _ _ _ _ _ c.requires.same (c.as_slice.ensures.value ∙ c.in_ok-zeros.ensures.items_if_clones_equal (λ y e. e)) c.as_slice-2.ensures.value c.in_ok-chosen.ensures c.in_ok-total.ensures
