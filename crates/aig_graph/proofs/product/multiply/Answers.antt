use Rattle.std.proofs.Common.{arith}
use Rattle.aig_graph.proofs.Totals.{multiply_begins, multiply_goes_on}
use Rattle.aig_graph.proofs.product.multiply.Goals as goal

pub loop-i-init : goal.loop-i-init
loop-i-init c = multiply_begins _ c.args.xs.now c.args.ys.now _ (c.in_ok-product.ensures.items_if_clones_equal (λ y e. e)) c.requires.sound

pub loop-i-preserved : goal.loop-i-preserved
loop-i-preserved c =
    multiply_goes_on _ _ _ c.args.xs.now c.args.ys.now _ _ _ _ _ c.loop-i.i c.loop-i.invariant (omega arith) c.in_ok-row.ensures c.as_slice.ensures.value c.as_slice-in-loop-i.ensures.value c.in_ok-product-2.ensures
