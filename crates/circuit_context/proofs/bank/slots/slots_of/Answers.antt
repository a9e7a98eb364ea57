use Rattle.circuit_context.proofs.BankLemmas.Adding.{all_added}
use Rattle.circuit_context.proofs.bank.slots.slots_of.Goals as goal

pub returns : goal.returns
returns c = λ p e counts small.
    let registers = c.args.registers.now in
    all_added p c.new-slots.result.items c.push_control.new.slots.items c.push_loops.new.slots.items c.push_results.new.slots.items c.push_ports.new.slots.items c.args.lines.gates c.args.lines.stages c.new-slots.ensures.items
    (c.in_ok-push_control.ensures p registers e small) (c.in_ok-push_loops.ensures p registers e) (c.in_ok-push_results.ensures p e) (c.in_ok-push_ports.ensures p registers e counts)
