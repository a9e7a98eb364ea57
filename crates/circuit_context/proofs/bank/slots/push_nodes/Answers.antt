use Rattle.std.proofs.Common.{arith}
use Rattle.circuit_context.proofs.BankLemmas.Adding.{adds_node}
use Rattle.circuit_context.proofs.bank.slots.push_nodes.Goals as goal

pub loop-number-preserved : goal.loop-number-preserved
loop-number-preserved c = λ p.
    adds_node p c.args.nodes.now c.loop-number.number c.index-nodes-number.result c.args.slots.now.items c.loop-number.slots.items c.push_node.new.slots.items (omega arith) c.index-nodes-number.is (c.loop-number.invariant p)
    (c.in_ok-push_node.ensures p)
