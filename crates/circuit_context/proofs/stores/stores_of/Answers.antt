use Rattle.std.proofs.Common.{take, sym, subst, arith}
use Rattle.circuit_context.specs.Counting.{AreStores}
use Rattle.circuit_context.proofs.Loading.{ops_more}
use Rattle.circuit_context.proofs.stores.stores_of.Goals as goal

pub loop-op-preserved : goal.loop-op-preserved
loop-op-preserved c =
    let k = c.loop-op.op-index in
    let ops = c.args.ops.now in
    subst (λ l. AreStores c.args.span l c.note.new.stores) (sym (ops_more ops k c.op-item.result (omega arith) c.op-item.is)) (c.in_ok-note.ensures (take k ops) c.loop-op.invariant)
