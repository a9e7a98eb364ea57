use Rattle.std.proofs.Common.{◌≡◌, ◌∙◌, map, refl, sym, ap, arith}
use Rattle.std.proofs.lemmas.Result.{on_ok_weaker}
use Rattle.clock_ir.specs.ClockRuns.{timed_node}
use Rattle.datapath.specs.Plans as plans
use Rattle.datapath.specs.Plans.{Plan}
use Rattle.datapath.specs.Control.{time_bits}
use Rattle.circuit_context.proofs.BankLemmas.Adding.{control_added}
use Rattle.circuit_context.proofs.bank.slots.push_control.Goals as goal

pub returns : goal.returns
returns c = λ p registers e small.
    let program = ap (λ (q : Plan). q.program) e in
    let arrays = sym (ap (λ (q : Plan). q.arrays) e) in
    let kept = sym (ap (λ (q : Plan). q.kept) e) in
    let cycles : c.initial_cycles.result ≡ plans.initial_cycles p = omega (arith, c.initial_cycles.ensures p arrays kept, small) in
    let bits : c.bits_of-bits.result ≡ time_bits p = c.bits_of-bits.ensures.value ∙ ap plans.bits_of (c.greatest_time.ensures p program arrays kept small) in
    on_ok_weaker c.push_nodes.result
    (control_added p c.deref.result.now c.args.slots.now.items c.push.new.slots.items c.push-2.new.slots.items c.push_if.new.slots.items c.push_if-2.new.slots.items c.push_nodes.new.slots.items c.initial_cycles.result
    c.bits_of-bits.result cycles bits (ap (λ (q : Plan). q.program.nodes) e ∙ ap (map timed_node) (sym c.deref.ensures.value)) (c.in_ok-push.ensures p refl) (c.in_ok-push-2.ensures p refl) (c.in_ok-push_if.ensures p (λ there. refl))
    (c.in_ok-push_if-2.ensures p (λ there. bits))) (c.push_nodes.ensures p)
