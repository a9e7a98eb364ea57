use Rattle.std.proofs.Common.{refl}
use Rattle.std.proofs.lemmas.Result.{on_ok_weaker}
use Rattle.clock_ir.specs.ClockRuns.{timed_node}
use Rattle.circuit_context.proofs.BankLemmas.Adding.{node_added}
use Rattle.circuit_context.proofs.bank.slots.push_node.Goals as goal

pub returns : goal.returns
returns c = λ p.
    on_ok_weaker c.push_if.result
    (node_added p c.args.slots.now.items c.push.new.slots.items c.push_if.new.slots.items c.args.number c.number_of.result c.is_loop.result (timed_node c.args.node.now) c.number_of.ensures c.is_loop.ensures
    (c.in_ok-push.ensures p refl)) (c.push_if.ensures p (λ there. refl))
